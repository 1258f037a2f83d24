-- What a tick of the receiver's end keeps.
use Rattle.std.specs.Prelude.{Bool, true, false, if◌then◌else◌}
use Rattle.schc_ids.specs.declared.phases.ReceiverPhase.{ReceiverPhase}
use Rattle.schc_ids.specs.declared.phases.ReceiverPhase.TheVariants.{Empty, Gathering, Finished}
use Rattle.timers.specs.Timers.{ticked, is_due}
use Rattle.sessions.specs.Receivers.{receiver_phase, receiver_idled, receiver_lapsed}
use Rattle.sessions.specs.Reception.{Reception, receiver_fired, reception_fired, reception_ticked}
use Rattle.sessions.specs.declared.receivers.Receiver.{Receiver}

-- a receiver that gives up, or need not linger any more, keeps this
pub record OutlastsTimers (P : Receiver → Type 0) : Type 0 where
  pub idles : (r : Receiver) → P r → P (receiver_idled r)
  pub lapses : (r : Receiver) → P r → P (receiver_lapsed r)

fired-keeps : (P : Receiver → Type 0) → OutlastsTimers P → (at : ReceiverPhase) (r : Receiver) → P r
    → P (receiver_fired at r)
unfolding receiver_fired
fired-keeps P outlasts Empty r p = p
fired-keeps P outlasts Gathering r p = outlasts.idles r p
fired-keeps P outlasts Finished r p = outlasts.lapses r p

ticked_if-keeps : (P : Receiver → Type 0) → OutlastsTimers P → (reception : Reception) (b : Bool)
    → P reception.receiver
    → P (if b then reception_fired reception
    else record { receiver = reception.receiver; left = ticked reception.left }).receiver
unfolding reception_fired
ticked_if-keeps P outlasts reception true p =
    fired-keeps P outlasts (receiver_phase reception.receiver) reception.receiver p
ticked_if-keeps P outlasts reception false p = p

-- what outlasts giving up and lingering still holds after a tick of the receiver's end
pub ticked-keeps : (P : Receiver → Type 0) → OutlastsTimers P → (reception : Reception)
    → P reception.receiver → P (reception_ticked reception).receiver
unfolding reception_ticked
ticked-keeps P outlasts reception p =
    ticked_if-keeps P outlasts reception (is_due (ticked reception.left)) p
