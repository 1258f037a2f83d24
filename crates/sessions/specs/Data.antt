-- What an end keeps of its sessions, as contracts see it.
use Rattle.std.specs.Prelude.{ℕ, Bool, true, false, List, [], ◌∷◌, Option, Some, None}
use Rattle.schc_ids.specs.Ends.{other_role}
use Rattle.schc_ids.specs.declared.ends.EndParams.{EndParams}
use Rattle.schc_ids.specs.declared.ends.Role.{Role}
use Rattle.schc_ids.specs.declared.fragments.FragParams.{FragParams}
use Rattle.lorawan_profile.specs.Ports.{sending_of}
use Rattle.sessions.specs.Clocks.{ClocksData}
use Rattle.sessions.specs.Keys.{SessionKey, Entry, entry}
use Rattle.sessions.specs.Receivers.{new_receiver}
use Rattle.sessions.specs.Reception.{Reception}
use Rattle.sessions.specs.Session.{Session}
use Rattle.sessions.specs.declared.receivers.Receiver.{Receiver}
use Rattle.sessions.specs.declared.moves.Running.{Running}

-- the end's role and parameters, the sessions that it sends and the receivers that it has, by their
-- keys, and the number of the next session
pub record SessionsData : Type 0 where
  pub role : Role
  pub params : EndParams
  pub senders : List (Entry Session)
  pub receivers : List (Entry Reception)
  pub next : ℕ

-- the port by which the fragments of an end go, and their parameters, with answers or without (RFC
-- 9011, section 5.2)
abbrev pub key_of : ℕ × FragParams → SessionKey
key_of way = record { port = way.0; tag = 0 }

-- the key of a port
abbrev pub port_key : ℕ → SessionKey
port_key port = record { port = port; tag = 0 }

-- the key of what an end sends
abbrev pub out_key : Role → Bool → SessionKey
out_key role acked = key_of (sending_of role acked)

-- the keys of what it receives: with answers and without
abbrev pub in_key : Role → Bool → SessionKey
in_key role acked = key_of (sending_of (other_role role) acked)

-- a receiver that keeps nothing, of the mode in which the other end sends
abbrev pub new_reception : Role → Bool → Reception
new_reception role acked =
    record { receiver = new_receiver (sending_of (other_role role) acked).1.mode; left = None }

abbrev pub receptions : Role → Reception → Reception → List (Entry Reception)
receptions role answering silent =
    record { key = in_key role true; it = answering } ∷ record {
      key = in_key role false;
      it =
          silent;
    } ∷ []

-- that of the receiver that answers, or of the one that doesn't
abbrev pub pick : Bool → Reception → Reception → Reception
pick true answering silent = answering
pick false answering silent = silent

-- no session has begun: the first one will be 1
abbrev pub new_sessions : Role → EndParams → SessionsData
new_sessions role params = record {
  role = role;
  params = params;
  senders = [];
  receivers = receptions role (new_reception role true) (new_reception role false);
  next = 1;
}

-- what is seen of a session that runs and of its timer
abbrev pub shown : Running → Option ℕ → Session
shown running left = record { number = running.number; sender = running.sender; left = left }

abbrev pub session_of : Option Running → Option ℕ → Option Session
session_of None left = None
session_of (Some running) left = Some (shown running left)

-- what is seen of all that an end keeps
abbrev pub seen : Role → EndParams → Option Running → Receiver → Receiver → ℕ → ClocksData
    → SessionsData
seen role params running answering silent next clocks = record {
  role = role;
  params = params;
  senders = entry (out_key role params.acked) (session_of running clocks.sending);
  receivers =
      receptions role (record { receiver = answering; left = clocks.answering })
      (record { receiver = silent; left = clocks.silent });
  next = next;
}
