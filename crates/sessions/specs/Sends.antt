-- What is given of the session of one key.
use Rattle.std.specs.Prelude.{◌≡◌, Option}
use Rattle.schc_ids.specs.declared.ends.TimerTicks.{TimerTicks}
use Rattle.sessions.specs.Data.{SessionsData}
use Rattle.sessions.specs.Keys.{SessionKey, entry}
use Rattle.sessions.specs.Session.{Session}
use Rattle.sessions.specs.Steps.{next_from, message_choice}
use Rattle.sessions.specs.declared.out.SessionOut.{SessionOut}

-- an end whose one session is of the key gives this where no answer is due, and keeps that of the
-- session
abbrev pub IsNext : TimerTicks → SessionKey → Option Session → Option Session → Option SessionOut
    → Type 0
IsNext ticks key old new out =
    (s : SessionsData) → s.params.ticks ≡ ticks → s.senders ≡ entry key old →
    next_from s (message_choice s.senders) ≡ (record s { senders = entry key new }, out)
