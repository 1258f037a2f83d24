-- What an end does with a message of a session: the step of its sessions.
use Rattle.std.proofs.Common.{◌≡◌, ℕ, List, refl, sym, ap, subst, ◌∙◌, inl, inr}
use Rattle.schc_ids.specs.Fragments.{params_of}
use Rattle.schc_ids.specs.declared.fragments.FragMode.{FragMode}
use Rattle.schc_ids.specs.declared.fragments.Side.TheVariants as side
use Rattle.frag_wire.specs.Spells.{reading_in}
use Rattle.lorawan_profile.specs.Ports.{meaning_of}
use Rattle.lorawan_profile.specs.declared.ports.PortMeaning.{PortMeaning}
use Rattle.lorawan_profile.specs.declared.ports.PortMeaning.TheVariants.{Fragments, Answers}
use Rattle.event_data.specs.Records.{FrameData}
use Rattle.lanes.specs.Lane.{Msg}
use Rattle.sessions.specs.Data.{SessionsData, port_key}
use Rattle.sessions.specs.Steps.{fragment_read, answer_read, take_from as sessions_take_from}
use Rattle.sessions.specs.Steps.{take_step as sessions_take}
use Rattle.end_core.specs.Data.{EndData}
use Rattle.end_core.specs.End.{with_sessions, take_from, take_step}
use Rattle.two_ends.specs.Keys.{Key, mode_of}
use Rattle.two_ends.specs.Labels.{MessageOf, marked_frame}
use Rattle.two_ends.specs.World.{sender, taker}
use Rattle.two_ends.proofs.MarksKept.{IsLinkKey}
use Rattle.two_ends.proofs.PortLemmas.{mode-params, fragments-port, key-port, AnswersBy}
use Rattle.two_ends.proofs.PortLemmas.{answers-port}

part-at : (end : EndData) (frame : FrameData) (m : FragMode) (meaning : PortMeaning)
    → meaning ≡ Fragments (params_of m)
    → (take_from end frame meaning).0 ≡ with_sessions end
    (sessions_take frame.port frame.bytes end.sessions).0
unfolding take_from
part-at end frame m meaning e = rw e refl

sessions-at : (s : SessionsData) (port : ℕ) (bytes : List ℕ) (m : FragMode) (meaning : PortMeaning)
    → meaning ≡ Fragments (params_of m)
    → (sessions_take_from s (port_key port) bytes meaning).0 ≡ (fragment_read s (port_key port)
    bytes (reading_in m side.Fragments bytes)).0
unfolding sessions_take_from
sessions-at s port bytes m meaning e =
    ap (λ n. (sessions_take_from s (port_key port) bytes n).0) e
    ∙ ap (λ n. (fragment_read s (port_key port) bytes (reading_in n side.Fragments bytes)).0)
    (mode-params m)

-- the end that takes a key's fragments takes a message of the key as a fragment, at its receiver
pub fragment-step : (end : EndData) (key : Key) (m : Msg) → IsLinkKey key → end.role ≡ taker key.way
    → end.sessions.role ≡ taker key.way →
    (take_step end (marked_frame (MessageOf key m))).0 ≡ with_sessions end
    (fragment_read end.sessions key.id m.bytes
    (reading_in (mode_of key) side.Fragments m.bytes)).0
unfolding take_step sessions_take
fragment-step end key m link role roles =
    part-at end (marked_frame (MessageOf key m)) (mode_of key) (meaning_of end.role key.id.port)
    (ap (λ r. meaning_of r key.id.port) role ∙ fragments-port key link)
    ∙ ap (with_sessions end)
    (sessions-at end.sessions key.id.port m.bytes (mode_of key)
    (meaning_of end.sessions.role key.id.port)
    (ap (λ r. meaning_of r key.id.port) roles ∙ fragments-port key link))
    ∙ ap (λ i. with_sessions end
    (fragment_read end.sessions i m.bytes (reading_in (mode_of key) side.Fragments m.bytes)).0)
    (key-port key link)

answer-part : (end : EndData) (frame : FrameData) (m : FragMode) (meaning : PortMeaning)
    → meaning ≡ Answers (params_of m)
    → (take_from end frame meaning).0 ≡ with_sessions end
    (sessions_take frame.port frame.bytes end.sessions).0
unfolding take_from
answer-part end frame m meaning e = rw e refl

answers-of : (s : SessionsData) (port : ℕ) (bytes : List ℕ) (m : FragMode) (meaning : PortMeaning)
    → meaning ≡ Answers (params_of m)
    → (sessions_take_from s (port_key port) bytes meaning).0 ≡ (answer_read s (port_key port)
    (reading_in m side.Answers bytes)).0
unfolding sessions_take_from
answers-of s port bytes m meaning e =
    ap (λ n. (sessions_take_from s (port_key port) bytes n).0) e
    ∙ ap (λ n. (answer_read s (port_key port) (reading_in n side.Answers bytes)).0)
    (mode-params m)

answers-at : (end : EndData) (frame : FrameData) (m : FragMode) (meaning : PortMeaning)
    → meaning_of end.sessions.role frame.port ≡ meaning → AnswersBy m meaning
    → (take_from end frame meaning).0 ≡ with_sessions end
    (answer_read end.sessions (port_key frame.port) (reading_in m side.Answers frame.bytes)).0
unfolding take_from answer_read sessions_take
answers-at end frame m meaning same (inl e) =
    answer-part end frame m meaning e
    ∙ ap (with_sessions end)
    (answers-of end.sessions frame.port frame.bytes m (meaning_of end.sessions.role frame.port)
    (same ∙ e))
answers-at end frame m meaning same (inr e) = rw (e.0, e.1) refl

-- the end that sends a key's fragments takes a message of the key as an answer, at its session
pub answer-step : (end : EndData) (key : Key) (m : Msg) → IsLinkKey key → end.role ≡ sender key.way
    → end.sessions.role ≡ sender key.way →
    (take_step end (marked_frame (MessageOf key m))).0 ≡ with_sessions end
    (answer_read end.sessions key.id (reading_in (mode_of key) side.Answers m.bytes)).0
unfolding take_step
answer-step end key m link role roles =
    answers-at end (marked_frame (MessageOf key m)) (mode_of key) (meaning_of end.role key.id.port)
    (ap (λ r. meaning_of r key.id.port) (roles ∙ sym role))
    (subst (λ r. AnswersBy (mode_of key) (meaning_of r key.id.port)) (sym role)
    (answers-port key link))
    ∙ ap (λ i. with_sessions end
    (answer_read end.sessions i (reading_in (mode_of key) side.Answers m.bytes)).0)
    (key-port key link)
