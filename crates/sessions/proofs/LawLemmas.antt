-- A preview and what is taken.
use Rattle.std.specs.Prelude.{ℕ, ◌≡◌, ◌↔◌, Bool, List, Option, Some, None, Result, Ok, Err}
use Rattle.std.proofs.Common.{refl}
use Rattle.schc_bits.specs.Bits.{octets}
use Rattle.schc_ids.specs.declared.faults.WireFault.{WireFault}
use Rattle.schc_ids.specs.declared.fragments.Side.TheVariants as side
use Rattle.schc_ids.specs.declared.notes.Heard.{Heard}
use Rattle.schc_ids.specs.declared.notes.Heard.TheVariants as heard
use Rattle.schc_ids.specs.declared.notes.Note.{Note}
use Rattle.schc_ids.specs.declared.notes.Note.TheVariants as note
use Rattle.frag_wire.specs.Layouts.{payload_in}
use Rattle.frag_wire.specs.Spells.{reading_in}
use Rattle.frag_wire.specs.declared.message.Message.{Message}
use Rattle.lorawan_profile.specs.Ports.{meaning_of}
use Rattle.lorawan_profile.specs.declared.ports.PortMeaning.{PortMeaning}
use Rattle.lorawan_profile.specs.declared.ports.PortMeaning.TheVariants.{Fragments, Answers, Whole}
use Rattle.lorawan_profile.specs.declared.ports.PortMeaning.TheVariants.{Unknown}
use Rattle.no_ack.proofs.ReceiverLemmas.{preview_is_join as no_ack_joins}
use Rattle.aa_receiver.proofs.LawsLemmas.{preview_joins as aa_joins}
use Rattle.aoe_receiver.proofs.StepsLemmas.{preview-joins as aoe_joins}
use Rattle.sessions.specs.Data.{SessionsData, port_key}
use Rattle.sessions.specs.Keys.{SessionKey, found}
use Rattle.sessions.specs.Laws.{PreviewJoins}
use Rattle.sessions.specs.Receivers.{receiver_taken, receiver_previewed}
use Rattle.sessions.specs.Reception.{Reception, reception_taken}
use Rattle.sessions.specs.Session.{Session, session_heard, heard_note}
use Rattle.sessions.specs.Steps.{fragment_taken, fragment_read, answer_taken, answer_read}
use Rattle.sessions.specs.Steps.{take_from, take_step, fragment_previewed, read_previewed}
use Rattle.sessions.specs.Steps.{preview_from, preview_of}
use Rattle.sessions.specs.declared.receivers.Receiver.{Receiver}
use Rattle.sessions.specs.declared.receivers.Receiver.TheVariants.{NoAck, AckAlways, AckOnError}

abbrev Alike : Option (List Bool) → Note → Type 0
Alike seen meaning = ((bits : List Bool) × (seen ≡ Some bits)) ↔ (meaning ≡ note.Joined)

none-some : (bits : List Bool) → None ≡ Some bits → ⊥
none-some bits e = absurd cc

alike-none : (meaning : Note) → (meaning ≡ note.Joined → ⊥) → Alike None meaning
alike-none meaning apart = (λ seen. absurd (none-some seen.0 seen.1), λ e. absurd (apart e))

receiver-alike : (message : Message) (payload : List Bool) (r : Receiver)
    → Alike (receiver_previewed message payload r) (receiver_taken message payload r).1
unfolding receiver_previewed receiver_taken
receiver-alike message payload (NoAck r) = no_ack_joins message payload r
receiver-alike message payload (AckAlways r) = aa_joins message payload r
receiver-alike message payload (AckOnError r) = (aoe_joins message payload r).0

fragment-alike : (s : SessionsData) (key : SessionKey) (message : Message) (payload : List Bool)
    (o : Option Reception)
    → Alike (fragment_previewed message payload o) (fragment_taken s key message payload o).1
unfolding fragment_previewed fragment_taken reception_taken
fragment-alike s key message payload None = alike-none _ (λ e. cc)
fragment-alike s key message payload (Some reception) =
    receiver-alike message payload reception.receiver

read-alike : (s : SessionsData) (key : SessionKey) (bytes : List ℕ)
    (read : Result Message WireFault)
    → Alike (read_previewed s key bytes read) (fragment_read s key bytes read).1
unfolding read_previewed fragment_read
read-alike s key bytes (Err fault) = alike-none _ (λ e. cc)
read-alike s key bytes (Ok message) =
    fragment-alike s key message (payload_in message (octets bytes)) (found key s.receivers)

heard-apart : (h : Heard) → heard_note h ≡ note.Joined → ⊥
heard-apart heard.Nothing e = cc
heard-apart heard.Counted e = cc
heard-apart heard.Delivered e = cc
heard-apart heard.NeverPasses e = cc
heard-apart heard.PeerAborted e = cc
heard-apart heard.Spent e = cc
heard-apart heard.Aborted e = cc

answer-apart : (s : SessionsData) (key : SessionKey) (message : Message) (o : Option Session)
    → (answer_taken s key message o).1.0 ≡ note.Joined → ⊥
unfolding answer_taken
answer-apart s key message None e = cc
answer-apart s key message (Some session) e =
    heard-apart (session_heard s.params.ticks message session).1 e

answered-apart : (s : SessionsData) (key : SessionKey) (read : Result Message WireFault)
    → (answer_read s key read).1.0 ≡ note.Joined → ⊥
unfolding answer_read
answered-apart s key (Err fault) e = cc
answered-apart s key (Ok message) e = answer-apart s key message (found key s.senders) e

from-alike : (s : SessionsData) (key : SessionKey) (bytes : List ℕ) (means : PortMeaning)
    → Alike (preview_from s key bytes means) (take_from s key bytes means).1.0
unfolding preview_from take_from
from-alike s key bytes (Fragments params) =
    read-alike s key bytes (reading_in params.mode side.Fragments bytes)
from-alike s key bytes (Answers params) =
    alike-none _ (answered-apart s key (reading_in params.mode side.Answers bytes))
from-alike s key bytes Whole = alike-none _ (λ e. cc)
from-alike s key bytes Unknown = alike-none _ (λ e. cc)

-- a preview gives bits exactly where the frame, when it is taken, is noted as joined
pub preview_joins : PreviewJoins
unfolding preview_of take_step
preview_joins port bytes s = from-alike s (port_key port) bytes (meaning_of s.role port)
