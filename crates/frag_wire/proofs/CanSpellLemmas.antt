-- What can't be written isn't spelt.
use Rattle.std.specs.Prelude.{ℕ, ◌≡◌, ◌+◌, ◌*◌, ◌%◌, ◌<◌, ◌≤◌, ◌⊎◌, Bool, true, false, List, ◌++◌}
use Rattle.std.specs.Prelude.{length, replicate}
use Rattle.std.proofs.Common.{arith, ap, sym, subst, ◌∙◌, inl, inr}
use Rattle.std.proofs.lemmas.Bool.{cases_lt}
use Rattle.std.proofs.lemmas.List.{length-append, length-replicate}
use Rattle.schc_bits.specs.Bits.{number_bits, octets}
use Rattle.schc_bits.proofs.NumberBits.{length-number_bits}
use Rattle.schc_bits.proofs.Octets.{length-octets}
use Rattle.schc_ids.specs.declared.fragments.FragMode.{FragMode}
use Rattle.schc_ids.specs.declared.fragments.FragMode.TheVariants as mode
use Rattle.schc_ids.specs.declared.fragments.FragParams.{FragParams}
use Rattle.schc_ids.specs.declared.fragments.Side.{Side}
use Rattle.schc_ids.specs.declared.fragments.Side.TheVariants as side
use Rattle.schc_ids.specs.Fragments.{params_of, IsFragParams}
use Rattle.frag_wire.specs.declared.message.Message.{Message}
use Rattle.frag_wire.specs.declared.message.Message.TheVariants as form
use Rattle.frag_wire.specs.AckAlways.{SpellsAckAlways, CanSpellAckAlways}
use Rattle.frag_wire.specs.AckOnError.{SpellsAckOnError, CanSpellAckOnError}
use Rattle.frag_wire.specs.Answers.{after_last_zero, kept_length, SpellsAnswer, CanSpellAnswer}
use Rattle.frag_wire.specs.NoAck.{SpellsNoAck, CanSpellNoAck}
use Rattle.frag_wire.specs.Forms.{fragment_head}
use Rattle.frag_wire.specs.Layouts.{placed, with_padding}
use Rattle.frag_wire.specs.Laws.{IsKeptLength, IsPayloadOf}
use Rattle.frag_wire.specs.Spells.{SpellsIn, CanSpellIn, Spells, CanSpell}
use Rattle.frag_wire.proofs.BitmapLemmas.{kept-bounds, kept-boundary}
use Rattle.frag_wire.proofs.FormsLemmas.{length-fragment_head}

-- the payload and its padding fill the bytes behind what stands before
spelt-length : (front payload : List Bool) (padding : ℕ) (bytes : List ℕ)
    → octets bytes ≡ front ++ (payload ++ replicate padding false)
    → 8 * length bytes ≡ length front + (length payload + padding)
spelt-length front payload padding bytes e =
    sym (length-octets bytes)
    ∙ ap length e
    ∙ length-append front (payload ++ replicate padding false)
    ∙ ap (λ n. length front + n)
    (length-append payload (replicate padding false)
    ∙ ap (λ n. length payload + n) (length-replicate padding false))

fragment-length : (w_bits fcn_bits w fcn : ℕ) (payload : List Bool) (padding : ℕ) (bytes : List ℕ)
    → octets bytes ≡ fragment_head w_bits fcn_bits w fcn ++ (payload ++ replicate padding false)
    → 8 * length bytes ≡ w_bits + fcn_bits + (length payload + padding)
fragment-length w_bits fcn_bits w fcn payload padding bytes e =
    spelt-length (fragment_head w_bits fcn_bits w fcn) payload padding bytes e
    ∙ ap (λ n. n + (length payload + padding)) (length-fragment_head w_bits fcn_bits w fcn)

all1-length : (w_bits fcn_bits w fcn rcs : ℕ) (payload : List Bool) (padding : ℕ) (bytes : List ℕ)
    → octets bytes ≡ fragment_head w_bits fcn_bits w fcn ++ number_bits 32
    rcs ++ (payload ++ replicate padding false)
    → 8 * length bytes ≡ w_bits + fcn_bits + 32 + (length payload + padding)
all1-length w_bits fcn_bits w fcn rcs payload padding bytes e =
    let front : List Bool = fragment_head w_bits fcn_bits w fcn in
    let width : length (front ++ number_bits 32 rcs) ≡ w_bits + fcn_bits + 32 =
    length-append front (number_bits 32 rcs)
    ∙ omega (arith, length-fragment_head w_bits fcn_bits w fcn, length-number_bits 32 rcs)
    in
    spelt-length (front ++ number_bits 32 rcs) payload padding bytes e
    ∙ ap (λ n. n + (length payload + padding)) width

no_ack-can : (message : Message) (payload : List Bool) (padding : ℕ) (bytes : List ℕ) → padding < 8
    → IsPayloadOf message payload
    → SpellsNoAck (placed (params_of mode.NoAck) message) (with_padding message payload padding)
    bytes → CanSpellNoAck message payload
no_ack-can (form.Regular w fcn from) payload padding bytes h none (r, long) = (
  omega (arith, r.window),
  omega (arith, r.number),
  omega
      (arith, fragment-length 0 1 w fcn payload padding bytes r.bits),
)
no_ack-can (form.All1 w rcs from) payload padding bytes h none (r, long) =
    (omega (arith, r.window), r.check)
no_ack-can (form.Ack w c bitmap) payload padding bytes h none s = absurd s
no_ack-can (form.AckReq w) payload padding bytes h none s = absurd s
no_ack-can form.SenderAbort payload padding bytes h none s = none
no_ack-can form.ReceiverAbort payload padding bytes h none s = absurd s

ack_always-can : (message : Message) (payload : List Bool) (padding : ℕ) (bytes : List ℕ)
    → padding < 8 → IsPayloadOf message payload
    → SpellsAckAlways (placed (params_of mode.AckAlways) message)
    (with_padding message payload padding) bytes → CanSpellAckAlways message payload
ack_always-can (form.Regular w fcn from) payload padding bytes h none (r, long) = (
  r.window,
  omega (arith, r.number),
  omega
      (arith, fragment-length 1 1 w fcn payload padding bytes r.bits),
)
ack_always-can (form.All1 w rcs from) payload padding bytes h none (r, long) = (r.window, r.check)
ack_always-can (form.Ack w c bitmap) payload padding bytes h none s = absurd s
ack_always-can (form.AckReq w) payload padding bytes h none (r, one) = (r.window, none)
ack_always-can form.SenderAbort payload padding bytes h none s = none
ack_always-can form.ReceiverAbort payload padding bytes h none s = absurd s

ack_on_error-can : (message : Message) (payload : List Bool) (padding : ℕ) (bytes : List ℕ)
    → padding < 8 → IsPayloadOf message payload
    → SpellsAckOnError (placed (params_of mode.AckOnError) message)
    (with_padding message payload padding) bytes → CanSpellAckOnError message payload
ack_on_error-can (form.Regular w fcn from) payload padding bytes h none (r, long, few) =
    let width : 8 * length bytes ≡ 8 + (length payload + padding) =
    fragment-length 2 6 w fcn payload padding bytes r.bits in
    (r.window, r.number, omega (arith, width), omega (arith, width, few))
ack_on_error-can (form.All1 w rcs from) payload padding bytes h none (r, long, few) =
    (r.window, r.check, omega (arith, few, all1-length 2 6 w 63 rcs payload padding bytes r.bits))
ack_on_error-can (form.Ack w c bitmap) payload padding bytes h none s = absurd s
ack_on_error-can (form.AckReq w) payload padding bytes h none (r, one) = (r.window, none)
ack_on_error-can form.SenderAbort payload padding bytes h none s = none
ack_on_error-can form.ReceiverAbort payload padding bytes h none s = absurd s

answer-can : (m : FragMode) (most : ℕ) (message : Message) (payload : List Bool) (padding : ℕ)
    (bytes : List ℕ) → let params : FragParams = params_of m in IsPayloadOf message payload
    → SpellsAnswer params.w_bits params.window most (placed params message)
    (with_padding message payload padding) bytes
    → CanSpellAnswer params.w_bits params.window message payload
answer-can m most (form.Regular w fcn from) payload padding bytes none s = absurd s
answer-can m most (form.All1 w rcs from) payload padding bytes none s = absurd s
answer-can m most (form.Ack w true bitmap) payload padding bytes none (r, one) =
    (r.window, r.no_bitmap, none)
answer-can m most (form.Ack w false bitmap) payload padding bytes none (r, some, few) =
    (r.window, r.fits, none)
answer-can m most (form.AckReq w) payload padding bytes none s = absurd s
answer-can m most form.SenderAbort payload padding bytes none s = absurd s
answer-can m most form.ReceiverAbort payload padding bytes none s = none

mode-can : (m : FragMode) (way : Side) (message : Message) (payload : List Bool) (padding : ℕ)
    (bytes : List ℕ) → padding < 8 → IsPayloadOf message payload
    → SpellsIn m way (placed (params_of m) message) (with_padding message payload padding) bytes
    → CanSpellIn m way message payload
mode-can mode.NoAck side.Fragments message payload padding bytes h none s =
    no_ack-can message payload padding bytes h none s
mode-can mode.NoAck side.Answers message payload padding bytes h none s = absurd s
mode-can mode.AckAlways side.Fragments message payload padding bytes h none s =
    ack_always-can message payload padding bytes h none s
mode-can mode.AckAlways side.Answers message payload padding bytes h none s =
    answer-can mode.AckAlways 1 message payload padding bytes none s
mode-can mode.AckOnError side.Fragments message payload padding bytes h none s =
    ack_on_error-can message payload padding bytes h none s
mode-can mode.AckOnError side.Answers message payload padding bytes h none s =
    answer-can mode.AckOnError 9 message payload padding bytes none s

-- what some bytes are, with fewer than eight zero bits after the payload, can be written
pub can-spell : (params : FragParams) (way : Side) (message : Message) (payload : List Bool)
    (padding : ℕ) (bytes : List ℕ) → IsFragParams params → padding < 8 → IsPayloadOf message payload
    → Spells params way (placed params message) (with_padding message payload padding) bytes
    → CanSpell params way message payload
can-spell params way message payload padding bytes row h none s =
    mode-can params.mode way message payload padding bytes h none
    (subst (λ p. SpellsIn params.mode way (placed p message) (with_padding message payload padding)
    bytes) row s)

-- the least number of bits
kept-least : (header : ℕ) (bitmap : List Bool) (other : ℕ) → header + after_last_zero bitmap ≤ other
    → (other % 8 ≡ 0) ⊎ (other ≡ header + length bitmap) → kept_length header bitmap ≤ other
unfolding kept_length
kept-least header bitmap other h (inl whole) = omega arith
kept-least header bitmap other h (inr end) = omega arith

-- of an answer the fewest bits are sent that have each 0 of the bitmap and either fill whole bytes
-- or are all of it
pub keeps-least : (header : ℕ) (bitmap : List Bool)
    → IsKeptLength header bitmap (kept_length header bitmap)
keeps-least header bitmap =
    record {
      after_zero = (kept-bounds header bitmap).2;
      boundary =
          elim (cases_lt (kept_length header bitmap) (header + length bitmap)) [
            | inl short ↦ inl (kept-boundary header bitmap short)
            | inr all ↦ inr (omega (arith, (kept-bounds header bitmap).1))
          ];
      least = λ other h k. kept-least header bitmap other h k;
    }
