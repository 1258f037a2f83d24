-- What holds of what an end keeps, and the ports by which it takes fragments and answers.
use Rattle.std.specs.Prelude.{ℕ, ◌≡◌, Bool, true, false, List, [], ◌∷◌, Option, Some, None}
use Rattle.schc_bits.specs.Bits.{octets}
use Rattle.schc_ids.specs.Ends.{other_role}
use Rattle.schc_ids.specs.Fragments.{params_of}
use Rattle.schc_ids.specs.declared.fragments.FragParams.{FragParams}
use Rattle.schc_ids.specs.declared.fragments.Side.TheVariants as side
use Rattle.schc_ids.specs.Params.{IsParams}
use Rattle.schc_ids.specs.declared.ends.EndParams.{EndParams}
use Rattle.schc_ids.specs.declared.ends.Role.{Role}
use Rattle.schc_ids.specs.declared.phases.ReceiverPhase.{ReceiverPhase}
use Rattle.schc_ids.specs.declared.phases.ReceiverPhase.TheVariants as receiver
use Rattle.schc_ids.specs.declared.phases.SenderPhase.{SenderPhase}
use Rattle.schc_ids.specs.declared.phases.SenderPhase.TheVariants as sender
use Rattle.frag_wire.specs.Layouts.{payload_in}
use Rattle.frag_wire.specs.Spells.{Spells}
use Rattle.frag_wire.specs.declared.message.Message.{Message}
use Rattle.lorawan_profile.specs.Ports.{sending_of, meaning_of}
use Rattle.lorawan_profile.specs.declared.ports.PortMeaning.{PortMeaning}
use Rattle.lorawan_profile.specs.declared.ports.PortMeaning.TheVariants.{Fragments, Answers, Whole}
use Rattle.lorawan_profile.specs.declared.ports.PortMeaning.TheVariants.{Unknown}
use Rattle.sessions.specs.Clocks.{ClocksData}
use Rattle.sessions.specs.Keys.{Entry}
use Rattle.sessions.specs.Receivers.{receiver_mode, receiver_phase}
use Rattle.sessions.specs.Senders.{sender_params, sender_mtu, sender_phase}
use Rattle.sessions.specs.Session.{Session}
use Rattle.sessions.specs.declared.receivers.Receiver.{Receiver}
use Rattle.sessions.specs.declared.moves.Running.{Running}

-- fragments or their answers come by the port
abbrev pub IsSessionMeaning : PortMeaning → Type 0
IsSessionMeaning (Fragments params) = Unit {0}
IsSessionMeaning (Answers params) = Unit {0}
IsSessionMeaning Whole = ⊥
IsSessionMeaning Unknown = ⊥

abbrev pub IsSessionPort : Role → ℕ → Type 0
IsSessionPort role port = IsSessionMeaning (meaning_of role port)

abbrev pub is_armed : Option ℕ → Bool
is_armed None = false
is_armed (Some left) = true

-- a timer runs while the sender waits and while it is quiet
abbrev pub sender_timed : SenderPhase → Bool
sender_timed sender.Sending = false
sender_timed sender.Waiting = true
sender_timed sender.Closing = false
sender_timed sender.Quiet = true

-- and while the receiver isn't empty
abbrev pub receiver_timed : ReceiverPhase → Bool
receiver_timed receiver.Empty = false
receiver_timed receiver.Gathering = true
receiver_timed receiver.Finished = true

-- the session is one of this end, and its timer runs where it should
pub record IsRunning (role : Role) (params : EndParams) (running : Running) (left : Option ℕ) : Type
    0 where
  pub row : sender_params running.sender ≡ (sending_of role params.acked).1
  pub mtu : sender_mtu running.sender ≡ params.mtu
  pub timed : is_armed left ≡ sender_timed (sender_phase running.sender)

abbrev pub AreRunning : Role → EndParams → Option Running → Option ℕ → Type 0
AreRunning role params None left = left ≡ None
AreRunning role params (Some running) left = IsRunning role params running left

-- the receiver has the mode in which the other end sends, and its timer runs where it should
pub record IsReceiving (role : Role) (acked : Bool) (receiver : Receiver) (left : Option ℕ) : Type 0
  where
    pub row : receiver_mode receiver ≡ (sending_of (other_role role) acked).1.mode
    pub timed : is_armed left ≡ receiver_timed (receiver_phase receiver)

pub record IsTable (role : Role) (params : EndParams) (running : Option Running)
    (answering silent : Receiver) (clocks : ClocksData) : Type 0 where
  pub in_range : IsParams params
  pub sends : AreRunning role params running clocks.sending
  pub answers : IsReceiving role true answering clocks.answering
  pub listens : IsReceiving role false silent clocks.silent

-- the other end sends by the port, with these parameters
abbrev pub ComesBy : Role → ℕ → FragParams → Type 0
ComesBy role port params = (acked : Bool) × (sending_of (other_role role) acked ≡ (port, params))

-- the bytes are the message that the other end sends, with answers or without
abbrev pub IsFragment : Role → Bool → Message → List ℕ → Type 0
IsFragment role acked message bytes =
    Spells (params_of (sending_of (other_role role) acked).1.mode) side.Fragments message
    (payload_in message (octets bytes)) bytes
