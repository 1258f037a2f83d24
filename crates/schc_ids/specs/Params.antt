-- What an end is made with.
use Rattle.std.specs.Prelude.{true}
use Rattle.schc_ids.specs.declared.ends.EndParams.{EndParams}
use Rattle.schc_ids.specs.declared.ends.Iids.{Iids}
use Rattle.schc_ids.specs.declared.ends.LastTile.TheVariants as last_tile
use Rattle.schc_ids.specs.declared.ends.TimerTicks.{TimerTicks}
use Rattle.schc_ids.specs.Limits.{IsMtu, IsTicks, max_mtu}

-- each timer runs for some ticks, and not for too many
pub record AreTicks (ticks : TimerTicks) : Type 0 where
  pub retransmission : IsTicks ticks.retransmission
  pub inactivity : IsTicks ticks.inactivity
  pub linger : IsTicks ticks.linger
  pub quiet : IsTicks ticks.quiet

-- an end may be made with these parameters
pub record IsParams (params : EndParams) : Type 0 where
  pub mtu : IsMtu params.mtu
  pub ticks : AreTicks params.ticks

-- the parameters of an end of which only the interface identifiers are said
abbrev pub default_params : Iids → EndParams
default_params iids =
    record {
      iids = iids;
      mtu = max_mtu;
      acked = true;
      last = last_tile.InAll1;
      ticks = record { retransmission = 10; inactivity = 40; linger = 40; quiet = 100 };
    }
