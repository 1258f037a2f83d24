-- RFC 8724, section 8.4.3.1: what the sender of the ACK-on-Error mode keeps.
use Rattle.std.specs.Prelude.{ℕ, Bool, List}
use Rattle.schc_ids.specs.declared.ends.LastTile.{LastTile}
use Rattle.schc_ids.specs.declared.fragments.FragParams.{FragParams}

-- where it stands: Sending, with the numbers of the tiles that it has still to send in Regulars,
-- ascending, before it sends the All-1; Waiting for the answer to the All-1; Closing, where a
-- Sender-Abort is due; Quiet, where the session has ended. The last number of Sending and the
-- number of Waiting are the attempts: how many All-1s were sent since an answer counted
pub data AoeSenderState : Type 0 where
  Sending : List ℕ → ℕ → AoeSenderState
  Waiting : ℕ → AoeSenderState
  Closing : AoeSenderState
  Quiet : AoeSenderState

-- the parameters of its messages, the most bytes of a frame, where the last tile goes, the SCHC
-- packet, and where it stands
pub record AoeSenderData : Type 0 where
  pub params : FragParams
  pub mtu : ℕ
  pub last : LastTile
  pub bits : List Bool
  pub state : AoeSenderState
