-- What a message of a session is to the end that it comes to.
use Rattle.std.proofs.Common.{◌≡◌, ◌⊎◌, ℕ, Bool, true, false, List, Option, Some, None, Result, Ok}
use Rattle.std.proofs.Common.{Err, refl, sym, ap, subst, ◌∙◌, inl, inr}
use Rattle.schc_bits.specs.Bits.{octets}
use Rattle.schc_ids.specs.Fragments.{params_of}
use Rattle.schc_ids.specs.declared.ends.Direction.{Direction}
use Rattle.schc_ids.specs.declared.ends.Direction.TheVariants as way
use Rattle.schc_ids.specs.declared.ends.EndParams.{EndParams}
use Rattle.schc_ids.specs.declared.faults.WireFault.{WireFault}
use Rattle.schc_ids.specs.declared.fragments.FragMode.{FragMode}
use Rattle.schc_ids.specs.declared.fragments.FragMode.TheVariants as mode
use Rattle.schc_ids.specs.declared.fragments.Side.TheVariants as side
use Rattle.frag_wire.specs.Layouts.{payload_in}
use Rattle.frag_wire.specs.Spells.{reading_in}
use Rattle.frag_wire.specs.declared.message.Message.{Message}
use Rattle.lorawan_profile.specs.Ports.{fragments_by, meaning_of}
use Rattle.lorawan_profile.specs.declared.ports.PortMeaning.{PortMeaning}
use Rattle.lorawan_profile.specs.declared.ports.PortMeaning.TheVariants.{Fragments, Answers, Whole}
use Rattle.lorawan_profile.specs.declared.ports.PortMeaning.TheVariants.{Unknown}
use Rattle.sessions.specs.Data.{SessionsData, port_key, out_key, in_key, pick}
use Rattle.sessions.specs.Keys.{SessionKey, found}
use Rattle.sessions.specs.Reception.{Reception}
use Rattle.sessions.specs.Receivers.{receiver_previewed}
use Rattle.sessions.specs.Steps.{fragment_previewed, read_previewed, preview_from, preview_of}
use Rattle.sessions.specs.declared.receivers.Receiver.{Receiver}
use Rattle.two_ends.specs.Keys.{Key, mode_of}
use Rattle.two_ends.specs.World.{sender, taker}
use Rattle.two_ends.proofs.MarksKept.{IsLinkKey}
use Rattle.two_ends.proofs.SessionsKept.{AreSessions, in-is}

-- the parameters of a mode are of that mode
pub mode-params : (m : FragMode) → (params_of m).mode ≡ m
mode-params mode.NoAck = refl
mode-params mode.AckAlways = refl
mode-params mode.AckOnError = refl

abbrev link_key : Direction → Bool → Key
link_key w acked = record { way = w; id = out_key (sender w) acked }

-- by the key's port fragments of its mode come to its receiver
link-fragments : (w : Direction) (acked : Bool)
    → meaning_of (taker w) (link_key w acked).id.port ≡ Fragments
    (params_of (mode_of (link_key w acked)))
unfolding meaning_of fragments_by mode_of
link-fragments way.Up true = refl
link-fragments way.Up false = refl
link-fragments way.Down true = refl
link-fragments way.Down false = refl

link-port : (w : Direction) (acked : Bool)
    → port_key (link_key w acked).id.port ≡ (link_key w acked).id
link-port way.Up true = refl
link-port way.Up false = refl
link-port way.Down true = refl
link-port way.Down false = refl

link-is : (w : Direction) (id : SessionKey) (acked : Bool) → id ≡ out_key (sender w) acked
    → ◌≡◌ {A = Key} (link_key w acked) (record { way = w; id = id })
link-is w id acked e = ap (λ i. record { way = w; id = i }) (sym e)

-- by the port of a key of the ends, fragments of its mode come to the end that takes them
pub fragments-port : (key : Key) → IsLinkKey key
    → meaning_of (taker key.way) key.id.port ≡ Fragments (params_of (mode_of key))
fragments-port key link =
    subst (λ (k : Key). meaning_of (taker k.way) k.id.port ≡ Fragments (params_of (mode_of k)))
    (link-is key.way key.id link.0 link.1) (link-fragments key.way link.0)

-- a key of the ends is the key of its port, with a DTag of 0
pub key-port : (key : Key) → IsLinkKey key → port_key key.id.port ≡ key.id
key-port key link =
    subst (λ (k : Key). port_key k.id.port ≡ k.id) (link-is key.way key.id link.0 link.1)
    (link-port key.way link.0)

-- and answers to its sender, where there are any
abbrev pub AnswersBy : FragMode → PortMeaning → Type 0
AnswersBy m meaning = (meaning ≡ Answers (params_of m)) ⊎ ((meaning ≡ Unknown) × (m ≡ mode.NoAck))

link-answers : (w : Direction) (acked : Bool)
    → AnswersBy (mode_of (link_key w acked)) (meaning_of (sender w) (link_key w acked).id.port)
unfolding meaning_of fragments_by mode_of
link-answers way.Up true = inl refl
link-answers way.Up false = inr (refl, refl)
link-answers way.Down true = inl refl
link-answers way.Down false = inr (refl, refl)

-- by the port of a key of the ends, answers of its mode come to the end that sends its fragments;
-- in No-ACK nothing does
pub answers-port : (key : Key) → IsLinkKey key
    → AnswersBy (mode_of key) (meaning_of (sender key.way) key.id.port)
answers-port key link =
    subst (λ (k : Key). AnswersBy (mode_of k) (meaning_of (sender k.way) k.id.port))
    (link-is key.way key.id link.0 link.1) (link-answers key.way link.0)

-- the key's receiver is one of the end's
in-sender : (w : Direction) (acked : Bool) → in_key (taker w) acked ≡ out_key (sender w) acked
in-sender way.Up acked = refl
in-sender way.Down acked = refl

-- by a key of the ends, the end that takes its fragments has the receiver that answers, or the one
-- that doesn't, as the key is
pub link-received : (key : Key) (params : EndParams) (s : SessionsData) → (link : IsLinkKey key)
    → (k : AreSessions (taker key.way) params s)
    → found key.id s.receivers ≡ Some (pick link.0 k.answering k.silent)
link-received key params s link k =
    subst (λ i. found i s.receivers ≡ Some (pick link.0 k.answering k.silent))
    (in-sender key.way link.0 ∙ sym link.1) (in-is (taker key.way) params s link.0 k)

-- What a fragment would make whole.
abbrev pub previewed_of : Receiver → List ℕ → Result Message WireFault → Option (List Bool)
previewed_of receiver bytes (Err fault) = None
previewed_of receiver bytes (Ok message) =
    receiver_previewed message (payload_in message (octets bytes)) receiver

pub previewed-found : (s : SessionsData) (key : SessionKey) (bytes : List ℕ)
    (reading : Result Message WireFault) (r : Reception) → found key s.receivers ≡ Some r
    → read_previewed s key bytes reading ≡ previewed_of r.receiver bytes reading
unfolding read_previewed fragment_previewed
previewed-found s key bytes (Err fault) r e = refl
previewed-found s key bytes (Ok message) r e = rw e refl

-- what bytes by the port of a key of the ends would make whole, at the end that takes its
-- fragments, is what they would make whole at the key's receiver
pub preview-key : (key : Key) (params : EndParams) (s : SessionsData) (bytes : List ℕ)
    → (link : IsLinkKey key) → (k : AreSessions (taker key.way) params s) →
    preview_of key.id.port bytes s ≡ previewed_of (pick link.0 k.answering k.silent).receiver bytes
    (reading_in (mode_of key) side.Fragments bytes)
unfolding preview_of preview_from
preview-key key params s bytes link k =
    ap (λ r. preview_from s (port_key key.id.port) bytes (meaning_of r key.id.port)) k.its_role
    ∙ ap (preview_from s (port_key key.id.port) bytes) (fragments-port key link)
    ∙ ap (λ m. read_previewed s (port_key key.id.port) bytes (reading_in m side.Fragments bytes))
    (mode-params (mode_of key))
    ∙ ap (λ i. read_previewed s i bytes (reading_in (mode_of key) side.Fragments bytes))
    (key-port key link)
    ∙ previewed-found s key.id bytes (reading_in (mode_of key) side.Fragments bytes)
    (pick link.0 k.answering k.silent) (link-received key params s link k)

-- an answer makes nothing whole
answers-previewed : (s : SessionsData) (key : SessionKey) (bytes : List ℕ) (m : FragMode)
    (meaning : PortMeaning) → AnswersBy m meaning → preview_from s key bytes meaning ≡ None
unfolding preview_from
answers-previewed s key bytes m meaning (inl e) = rw e refl
answers-previewed s key bytes m meaning (inr e) = rw e.0 refl

-- by the port of a key of the ends, bytes make nothing whole at the end that sends its fragments
pub preview-answer : (key : Key) (params : EndParams) (s : SessionsData) (bytes : List ℕ)
    → IsLinkKey key → AreSessions (sender key.way) params s → preview_of key.id.port bytes s ≡ None
unfolding preview_of
preview-answer key params s bytes link k =
    ap (λ r. preview_from s (port_key key.id.port) bytes (meaning_of r key.id.port)) k.its_role
    ∙ answers-previewed s (port_key key.id.port) bytes (mode_of key)
    (meaning_of (sender key.way) key.id.port) (answers-port key link)

-- a port by which answers come, or in No-ACK nothing does, isn't one of whole packets
pub answers-unwhole : (m : FragMode) (meaning : PortMeaning) → AnswersBy m meaning → meaning ≡ Whole
    → ⊥
answers-unwhole m meaning (inl e) w = cc
answers-unwhole m meaning (inr e) w = let u = e.0 in cc
