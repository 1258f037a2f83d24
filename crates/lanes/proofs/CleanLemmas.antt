-- A session of whatever mode of which nothing is lost.
use Rattle.std.proofs.Common.{refl}
use Rattle.schc_ids.specs.declared.fragments.FragMode.{FragMode}
use Rattle.schc_ids.specs.declared.fragments.FragMode.TheVariants as mode
use Rattle.lanes.specs.Rounds.{Clean}
use Rattle.lanes.proofs.CleanAckAlways.{clean-ack_always}
use Rattle.lanes.proofs.CleanAckOnError.{clean-ack_on_error}
use Rattle.lanes.proofs.CleanNoAck.{clean-no_ack}
use Rattle.lanes.proofs.RoundLemmas.{CleanIn}

clean-in : (m : FragMode) → CleanIn m
clean-in mode.NoAck = clean-no_ack
clean-in mode.AckAlways = clean-ack_always
clean-in mode.AckOnError = clean-ack_on_error

-- where nothing is lost, a session joins its padded packet once and ends as sent or as delivered,
-- after at most one round more than it has tiles
pub clean : Clean
clean params number bits left are can =
    clean-in params.frag.mode params number bits left are refl can
