-- What the ports of LoRaWAN mean to an end, and by which port it sends fragments.
use Rattle.std.specs.Prelude.{ℕ, ◌≡◌, ◌==◌, nat_lt, Bool, true, false, not, ◌&&◌, if◌then◌else◌}
use Rattle.std.specs.Prelude.{Option, Some, None}
use Rattle.schc_ids.specs.declared.ends.Role.{Role}
use Rattle.schc_ids.specs.declared.ends.Role.TheVariants.{Device, Gateway}
use Rattle.schc_ids.specs.declared.ends.Direction.{Direction}
use Rattle.schc_ids.specs.declared.ends.Direction.TheVariants as way
use Rattle.schc_ids.specs.declared.fragments.FragMode.{FragMode}
use Rattle.schc_ids.specs.declared.fragments.FragMode.TheVariants.{NoAck, AckAlways, AckOnError}
use Rattle.schc_ids.specs.declared.fragments.FragParams.{FragParams}
use Rattle.schc_ids.specs.Ends.{other_role}
use Rattle.schc_ids.specs.Fragments.{params_of, IsFragParams}
use Rattle.schc_ids.specs.Limits.{
  ack_on_error_port,
  ack_always_port,
  no_ack_up_port,
  no_ack_down_port,
  first_reserved_port,
}
use Rattle.lorawan_profile.specs.declared.ports.PortMeaning.{PortMeaning}
use Rattle.lorawan_profile.specs.declared.ports.PortMeaning.TheVariants.{Fragments, Answers, Whole}
use Rattle.lorawan_profile.specs.declared.ports.PortMeaning.TheVariants.{Unknown}

-- the fragments that go by a port, which is their RuleID: 20 is that of fragments up and 21 that of
-- fragments down (RFC 9011, section 5.2), with the modes of sections 5.6.2 and 5.6.3 there. 222 and
-- 223 are this project's own, for fragments that aren't answered
unfoldable pub fragments_by : ℕ → Option (Direction × FragMode)
fragments_by port =
    if port == ack_on_error_port then Some (way.Up, AckOnError)
    else if port == ack_always_port then Some (way.Down, AckAlways)
    else if port == no_ack_up_port then Some (way.Up, NoAck)
    else if port == no_ack_down_port then Some (way.Down, NoAck)
    else None

-- the answers to fragments of a mode go by the same port (RFC 9011, section 5.2); in No-ACK there
-- are none (RFC 8724, section 8.4.1)
abbrev pub answers_in : FragMode → PortMeaning
answers_in NoAck = Unknown
answers_in mode = Answers (params_of mode)

-- fragments up come to the gateway and their answers to the device, fragments down the other way
abbrev pub meaning_between : Role → Direction → FragMode → PortMeaning
meaning_between Gateway way.Up mode = Fragments (params_of mode)
meaning_between Device way.Down mode = Fragments (params_of mode)
meaning_between Device way.Up mode = answers_in mode
meaning_between Gateway way.Down mode = answers_in mode

-- the ports that applications may use are 1 to 223 (RFC 9011, section 5.2)
abbrev pub is_application_port : ℕ → Bool
is_application_port port = not (port == 0) && nat_lt port first_reserved_port

-- by each other port that an application may use comes a whole packet, of which the port is the
-- RuleID (RFC 9011, section 5.1)
abbrev pub meaning_from : Role → ℕ → Option (Direction × FragMode) → PortMeaning
meaning_from role port (Some fragments) = meaning_between role fragments.0 fragments.1
meaning_from role port None = if is_application_port port then Whole else Unknown

-- what comes to an end by a port
unfoldable pub meaning_of : Role → ℕ → PortMeaning
meaning_of role port = meaning_from role port (fragments_by port)

-- the port by which an end sends fragments, and their parameters: a device sends up and a gateway
-- down, with answers or without
abbrev pub sending_of : Role → Bool → ℕ × FragParams
sending_of Device true = (ack_on_error_port, params_of AckOnError)
sending_of Device false = (no_ack_up_port, params_of NoAck)
sending_of Gateway true = (ack_always_port, params_of AckAlways)
sending_of Gateway false = (no_ack_down_port, params_of NoAck)

-- what comes to the end by the port by which it sends: the answers to its fragments, if they are
-- answered
abbrev pub answers_of : Bool → FragParams → PortMeaning
answers_of true params = Answers params
answers_of false params = Unknown

-- the parameters are those of a mode
abbrev pub HasParams : PortMeaning → Type 0
HasParams (Fragments params) = IsFragParams params
HasParams (Answers params) = IsFragParams params
HasParams Whole = Unit {0}
HasParams Unknown = Unit {0}

-- what comes by the port is what the other end sends by it, or answers what this end sends by it
abbrev pub IsSent : Role → ℕ → PortMeaning → Type 0
IsSent role port (Fragments params) = (acked : Bool)
    × (sending_of (other_role role) acked ≡ (port, params))
IsSent role port (Answers params) = sending_of role true ≡ (port, params)
IsSent role port Whole = Unit {0}
IsSent role port Unknown = Unit {0}

-- a port by which whole packets come: all but 0, those of fragments and answers, and those from 224
-- on
unfoldable pub is_whole : ℕ → Bool
is_whole port =
    is_application_port port
    && not (port == ack_on_error_port)
    && not (port == ack_always_port)
    && not (port == no_ack_up_port)
    && not (port == no_ack_down_port)
