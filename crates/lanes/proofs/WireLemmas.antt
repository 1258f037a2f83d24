-- The All-1 that a sender gives is read with the RCS of its padded packet.
use Rattle.std.specs.Prelude.{ℕ, ◌≡◌, Bool, List, Option, Some, None, option_map, IfOk, Result, Ok}
use Rattle.std.proofs.Common.{refl, subst}
use Rattle.schc_bits.specs.Bits.{octets}
use Rattle.schc_ids.specs.declared.faults.WireFault.{WireFault}
use Rattle.schc_ids.specs.declared.fragments.FragMode.{FragMode}
use Rattle.schc_ids.specs.declared.fragments.FragMode.TheVariants as mode
use Rattle.schc_ids.specs.declared.fragments.FragParams.{FragParams}
use Rattle.schc_ids.specs.declared.fragments.Side.TheVariants as side
use Rattle.frag_wire.specs.Layouts.{payload_in}
use Rattle.frag_wire.specs.Spells.{Spells, SpellsIn, HasSide, reading_in}
use Rattle.frag_wire.specs.declared.message.Message.{Message}
use Rattle.frag_wire.specs.declared.message.Message.TheVariants as form
use Rattle.frag_wire.proofs.ReadingLemmas.{read-spells}
use Rattle.rcs.specs.Division.{rcs_of}
use Rattle.tiles_bitmap.specs.Padding.{padded_packet}
use Rattle.no_ack.proofs.ArrivalLemmas as no_ack_law
use Rattle.aa_sender.proofs.SessionLemmas as aa_law
use Rattle.aoe_sender.proofs.SessionLemmas as aoe_law
use Rattle.sessions.specs.Senders.{sender_params, sender_mtu, sender_bits, sender_due}
use Rattle.sessions.specs.declared.senders.Sender.{Sender}
use Rattle.sessions.specs.declared.senders.Sender.TheVariants.{NoAck, AckAlways, AckOnError}
use Rattle.lanes.specs.Lane.{LaneParams, padded_of}
use Rattle.lanes.proofs.SenderLemmas.{IsSender, IsSenderOf}

-- what a mapped option has
pub record IsMapped {A B : Type 0} (f : A → B) (o : Option A) (b : B) : Type 0 where
  pub it : A
  pub there : o ≡ Some it
  pub image : f it ≡ b

some-same : {A : Type 0} (x y : A) → Some x ≡ Some y → x ≡ y
some-same x y e = cc

-- where a mapped option has something, it is the image of what the option has
pub is-mapped : {A B : Type 0} (f : A → B) (o : Option A) (b : B) → option_map f o ≡ Some b
    → IsMapped f o b
is-mapped f None b e = absurd cc
is-mapped f (Some a) b e = record { it = a; there = refl; image = some-same (f a) b e }

-- each mode has fragments
has-fragments : (m : FragMode) → HasSide m side.Fragments
has-fragments mode.NoAck = tt
has-fragments mode.AckAlways = tt
has-fragments mode.AckOnError = tt

-- what is read is spelt
read-spelt : (params : FragParams) (bytes : List ℕ) (message : Message)
    → reading_in params.mode side.Fragments bytes ≡ Ok message
    → Spells params side.Fragments message (payload_in message (octets bytes)) bytes
read-spelt params bytes message e =
    subst (λ (reading : Result Message WireFault). IfOk reading
    (λ message. SpellsIn params.mode side.Fragments message (payload_in message (octets bytes))
    bytes)) e
    (read-spells params.mode side.Fragments bytes (reading_in params.mode side.Fragments bytes)
    (has-fragments params.mode) refl)

-- an All-1 that is read has this RCS
abbrev ReadsWith : ℕ → FragParams → List ℕ → Type 0
ReadsWith value frag bytes = (w rcs from : ℕ)
    → reading_in frag.mode side.Fragments bytes ≡ Ok (form.All1 w rcs from) → rcs ≡ value

-- the RCS of a padded packet
abbrev packet_rcs : FragParams → ℕ → List Bool → ℕ
packet_rcs frag mtu bits = rcs_of (padded_packet frag mtu bits)

sender-reads : (sender : Sender) (bytes : List ℕ) → IsSender sender → sender_due sender ≡ Some bytes
    → ReadsWith (packet_rcs (sender_params sender) (sender_mtu sender) (sender_bits sender))
    (sender_params sender) bytes
unfolding sender_due
sender-reads (NoAck s) bytes is e w rcs from read =
    no_ack_law.all1_checks s bytes w rcs from _ is e
    (read-spelt s.params bytes (form.All1 w rcs from) read)
sender-reads (AckAlways s) bytes is e w rcs from read =
    aa_law.all1_checks s bytes w rcs from _ is e
    (read-spelt s.params bytes (form.All1 w rcs from) read)
sender-reads (AckOnError s) bytes is e w rcs from read =
    aoe_law.all1-checks s bytes w rcs from _ is e
    (read-spelt s.params bytes (form.All1 w rcs from) read)

-- where what is due is read as an All-1, it carries the RCS of the sender's padded packet
pub due-right : (params : LaneParams) (bits : List Bool) (sender : Sender) (bytes : List ℕ)
    → IsSenderOf params bits sender → sender_due sender ≡ Some bytes → (w rcs from : ℕ)
    → reading_in params.frag.mode side.Fragments bytes ≡ Ok (form.All1 w rcs from)
    → rcs ≡ rcs_of (padded_of params bits)
due-right params bits sender bytes is e =
    subst (λ (frag : FragParams). ReadsWith (packet_rcs frag params.ends.mtu bits) frag bytes)
    is.row
    (subst (λ (mtu : ℕ). ReadsWith (packet_rcs (sender_params sender) mtu bits)
    (sender_params sender) bytes) is.mtu
    (subst (λ (b : List Bool). ReadsWith (packet_rcs (sender_params sender) (sender_mtu sender) b)
    (sender_params sender) bytes) is.same
    (sender-reads sender bytes is.sound e)))
