-- What the sender's fields mean for where it stands.
use Rattle.std.specs.Prelude.{ℕ, List}
use Rattle.aoe_sender.specs.State.{AoeSenderState, Sending, Waiting, Closing, Quiet}
use Rattle.aoe_sender.specs.declared.sender.Stage.{Stage}
use Rattle.aoe_sender.specs.declared.sender.Stage.TheVariants as stage

abbrev pub state_of : List ℕ → Stage → AoeSenderState
state_of numbers (stage.Sending attempts) = Sending numbers attempts
state_of numbers (stage.Waiting attempts) = Waiting attempts
state_of numbers stage.Closing = Closing
state_of numbers stage.Quiet = Quiet
