-- What is written is spelt.
use Rattle.std.specs.Prelude.{ℕ, ◌≡◌, ◌+◌, ◌-◌, ◌/◌, ◌%◌, ◌^◌, ◌<◌, ◌≤◌, Bool, true, false, List}
use Rattle.std.specs.Prelude.{[], ◌++◌, length, take, replicate}
use Rattle.std.proofs.Common.{arith, ap, refl, sym, subst, ◌∙◌}
use Rattle.std.proofs.lemmas.List.{append_assoc, append-nil, length-append}
use Rattle.schc_bits.specs.Bits.{number_bits, octets, padded, bytes_of}
use Rattle.schc_bits.proofs.NumberBits.{length-number_bits}
use Rattle.schc_bits.proofs.Octets.{padded-is, octets-bytes_of-padded, length-bytes_of}
use Rattle.schc_bits.proofs.Octets.{length-padded}
use Rattle.schc_ids.specs.declared.fragments.FragMode.{FragMode}
use Rattle.schc_ids.specs.declared.fragments.FragMode.TheVariants as mode
use Rattle.schc_ids.specs.declared.fragments.FragParams.{FragParams}
use Rattle.schc_ids.specs.declared.fragments.Side.{Side}
use Rattle.schc_ids.specs.declared.fragments.Side.TheVariants as side
use Rattle.schc_ids.specs.Fragments.{params_of, IsFragParams}
use Rattle.frag_wire.specs.declared.message.Message.{Message}
use Rattle.frag_wire.specs.declared.message.Message.TheVariants as form
use Rattle.frag_wire.specs.Forms.{all_ones, fragment_head, IsRegular, IsAll1, IsAckReq}
use Rattle.frag_wire.specs.Forms.{IsSenderAbort}
use Rattle.frag_wire.specs.Layouts.{head, HeadFits}
use Rattle.frag_wire.specs.AckAlways.{CanSpellAckAlways}
use Rattle.frag_wire.specs.AckOnError.{CanSpellAckOnError}
use Rattle.frag_wire.specs.Answers.{answer_head, kept_length, kept_bits, IsAckOfAll, IsAckOfSome}
use Rattle.frag_wire.specs.Answers.{IsReceiverAbort, CanSpellAnswer}
use Rattle.frag_wire.specs.NoAck.{CanSpellNoAck}
use Rattle.frag_wire.specs.Spells.{CanSpellIn, CanSpell, IsWritten}
use Rattle.std.proofs.lemmas.Nat.{pow_pos}
use Rattle.schc_bits.proofs.Octets.{padded-whole}
use Rattle.frag_wire.specs.Answers.{SpellsAnswer}
use Rattle.frag_wire.proofs.BitmapLemmas.{kept-reads, kept-bounds, length-kept_bits}
use Rattle.frag_wire.proofs.FormsLemmas.{length-fragment_head}

-- how many zero bits make whole bytes
abbrev pub zeros : List Bool → ℕ
zeros bits = (8 - length bits % 8) % 8

-- the bytes that are written
abbrev pub written : List Bool → List ℕ
written bits = bytes_of (padded bits)

-- the bytes that are written have the front, the payload, and zero bits up to whole bytes
pub octets-written : (front payload : List Bool)
    → octets
    (written (front ++ payload)) ≡ front ++ (payload ++ replicate (zeros (front ++ payload)) false)
octets-written front payload =
    octets-bytes_of-padded (front ++ payload)
    ∙ padded-is (front ++ payload)
    ∙ append_assoc front payload (replicate (zeros (front ++ payload)) false)

-- bits are written in the fewest bytes that hold them
pub length-written : (bits : List Bool) → length (written bits) ≡ (length bits + 7) / 8
length-written bits = length-bytes_of (padded bits) ∙ omega (arith, length-padded bits)

-- a W, an FCN that isn't all ones and a payload, as written, have the form of a Regular, whose
-- payload has the zero bits too
pub IsRegular-written : (w_bits fcn_bits w fcn : ℕ) (payload : List Bool) → w < 2 ^ w_bits
    → fcn < all_ones fcn_bits → let bits : List Bool =
    fragment_head w_bits fcn_bits w fcn ++ payload in
    IsRegular w_bits fcn_bits w fcn (w_bits + fcn_bits) (payload ++ replicate (zeros bits) false)
    (written bits)
IsRegular-written w_bits fcn_bits w fcn payload h k =
    record {
      window = h;
      number = k;
      place = refl;
      bits =
          octets-written (fragment_head w_bits fcn_bits w fcn) payload;
    }

-- a W, an FCN of ones, an RCS and a payload, as written, have the form of an All-1, whose payload
-- has the zero bits too
pub IsAll1-written : (w_bits fcn_bits w rcs : ℕ) (payload : List Bool) → w < 2 ^ w_bits
    → rcs < 2 ^ 32 → let bits : List Bool =
    fragment_head w_bits fcn_bits w (all_ones fcn_bits) ++ number_bits 32 rcs ++ payload in
    IsAll1 w_bits fcn_bits w rcs (w_bits + fcn_bits + 32) (payload ++ replicate (zeros bits) false)
    (written bits)
IsAll1-written w_bits fcn_bits w rcs payload h k =
    record {
      window = h;
      check = k;
      place = refl;
      bits =
          octets-written (fragment_head w_bits fcn_bits w (all_ones fcn_bits) ++ number_bits 32 rcs)
          payload;
    }

pub IsAckReq-written : (w_bits fcn_bits w : ℕ) (payload : List Bool) → payload ≡ [] → w < 2 ^ w_bits
    → IsAckReq w_bits fcn_bits w [] (written (fragment_head w_bits fcn_bits w 0 ++ payload))
IsAckReq-written w_bits fcn_bits w payload e h =
    record {
      window = h;
      no_payload = refl;
      padding = payload ++ replicate (zeros (fragment_head w_bits fcn_bits w 0 ++ payload)) false;
      bits = octets-written (fragment_head w_bits fcn_bits w 0) payload;
    }

-- W and FCN of ones without a payload, as written, have the form of a Sender-Abort
pub IsSenderAbort-written : (w_bits fcn_bits : ℕ) (payload : List Bool) → payload ≡ []
    → IsSenderAbort w_bits fcn_bits []
    (written (fragment_head w_bits fcn_bits (all_ones w_bits) (all_ones fcn_bits) ++ payload))
IsSenderAbort-written w_bits fcn_bits payload e =
    record {
      no_payload = refl;
      padding =
          payload ++ replicate
          (zeros (fragment_head w_bits fcn_bits (all_ones w_bits) (all_ones fcn_bits) ++ payload))
          false;
      bits = octets-written (fragment_head w_bits fcn_bits (all_ones w_bits) (all_ones fcn_bits))
          payload;
    }

-- the bytes of a fragment
pub length-fragment : (w_bits fcn_bits w fcn : ℕ) (payload : List Bool)
    → length
    (written (fragment_head w_bits fcn_bits w fcn ++ payload)) ≡ (w_bits + fcn_bits + length
    payload + 7) / 8
length-fragment w_bits fcn_bits w fcn payload =
    length-written (fragment_head w_bits fcn_bits w fcn ++ payload)
    ∙ ap (λ n. (n + 7) / 8)
    (length-append (fragment_head w_bits fcn_bits w fcn) payload
    ∙ omega (arith, length-fragment_head w_bits fcn_bits w fcn))

-- how many bytes an All-1 has, with the RCS in 32 bits before its payload
pub length-all1 : (w_bits fcn_bits w rcs : ℕ) (payload : List Bool)
    → length
    (written
    (fragment_head w_bits fcn_bits w (all_ones fcn_bits) ++ number_bits 32
    rcs ++ payload)) ≡ (w_bits + fcn_bits + 32 + length payload + 7) / 8
length-all1 w_bits fcn_bits w rcs payload =
    let front : List Bool = fragment_head w_bits fcn_bits w (all_ones fcn_bits) in
    let width : length (front ++ number_bits 32 rcs) ≡ w_bits + fcn_bits + 32 =
    length-append front (number_bits 32 rcs)
    ∙ omega (
      arith,
      length-fragment_head w_bits fcn_bits w (all_ones fcn_bits),
      length-number_bits 32 rcs,
    )
    in
    length-written (front ++ number_bits 32 rcs ++ payload)
    ∙ ap (λ n. (n + 7) / 8)
    (length-append (front ++ number_bits 32 rcs) payload ∙ omega (arith, width))

no_ack-written : (message : Message) (payload : List Bool) → CanSpellNoAck message payload
    → IsWritten (params_of mode.NoAck) side.Fragments message payload
    (written (head (params_of mode.NoAck) message ++ payload))
no_ack-written (form.Regular w fcn from) payload (ew, ef, long) =
    let bits : List Bool = fragment_head 0 1 w fcn ++ payload in
    record {
      padding = zeros bits;
      short = omega arith;
      spells = (
        IsRegular-written 0 1 w fcn payload (omega arith) (omega arith),
        omega
            (arith, length-fragment 0 1 w fcn payload),
      );
    }
no_ack-written (form.All1 w rcs from) payload (ew, range) =
    let bits : List Bool = fragment_head 0 1 w 1 ++ number_bits 32 rcs ++ payload in
    record {
      padding = zeros bits;
      short = omega arith;
      spells = (
        IsAll1-written 0 1 w rcs payload (omega arith) range,
        omega
            (arith, length-all1 0 1 w rcs payload),
      );
    }
no_ack-written (form.Ack w c bitmap) payload h = absurd h
no_ack-written (form.AckReq w) payload h = absurd h
no_ack-written form.SenderAbort payload e =
    record {
      padding = 0;
      short = omega arith;
      spells = (IsSenderAbort-written 0 1 payload e, length-fragment 0 1 0 1 payload ∙ rw e);
    }
no_ack-written form.ReceiverAbort payload h = absurd h

ack_always-written : (message : Message) (payload : List Bool) → CanSpellAckAlways message payload
    → IsWritten (params_of mode.AckAlways) side.Fragments message payload
    (written (head (params_of mode.AckAlways) message ++ payload))
ack_always-written (form.Regular w fcn from) payload (ew, ef, long) =
    let bits : List Bool = fragment_head 1 1 w fcn ++ payload in
    record {
      padding = zeros bits;
      short = omega arith;
      spells = (
        IsRegular-written 1 1 w fcn payload ew (omega arith),
        omega
            (arith, length-fragment 1 1 w fcn payload),
      );
    }
ack_always-written (form.All1 w rcs from) payload (ew, range) =
    let bits : List Bool = fragment_head 1 1 w 1 ++ number_bits 32 rcs ++ payload in
    record {
      padding = zeros bits;
      short = omega arith;
      spells =
          (IsAll1-written 1 1 w rcs payload ew range, omega (arith, length-all1 1 1 w rcs payload));
    }
ack_always-written (form.Ack w c bitmap) payload h = absurd h
ack_always-written (form.AckReq w) payload (ew, e) =
    record {
      padding = 0;
      short = omega arith;
      spells = (IsAckReq-written 1 1 w payload e ew, length-fragment 1 1 w 0 payload ∙ rw e);
    }
ack_always-written form.SenderAbort payload e =
    record {
      padding = 0;
      short = omega arith;
      spells = (IsSenderAbort-written 1 1 payload e, length-fragment 1 1 1 1 payload ∙ rw e);
    }
ack_always-written form.ReceiverAbort payload h = absurd h

ack_on_error-written : (message : Message) (payload : List Bool)
    → CanSpellAckOnError message payload
    → IsWritten (params_of mode.AckOnError) side.Fragments message payload
    (written (head (params_of mode.AckOnError) message ++ payload))
ack_on_error-written (form.Regular w fcn from) payload (ew, ef, long, few) =
    let bits : List Bool = fragment_head 2 6 w fcn ++ payload in
    record {
      padding = zeros bits;
      short = omega arith;
      spells = (
        IsRegular-written 2 6 w fcn payload ew ef,
        omega
            (arith, length-fragment 2 6 w fcn payload),
        omega
            (arith, few, length-fragment 2 6 w fcn payload),
      );
    }
ack_on_error-written (form.All1 w rcs from) payload (ew, range, few) =
    let bits : List Bool = fragment_head 2 6 w 63 ++ number_bits 32 rcs ++ payload in
    record {
      padding = zeros bits;
      short = omega arith;
      spells = (
        IsAll1-written 2 6 w rcs payload ew range,
        omega (arith, length-all1 2 6 w rcs payload),
        omega (arith, few, length-all1 2 6 w rcs payload),
      );
    }
ack_on_error-written (form.Ack w c bitmap) payload h = absurd h
ack_on_error-written (form.AckReq w) payload (ew, e) =
    record {
      padding = 0;
      short = omega arith;
      spells = (IsAckReq-written 2 6 w payload e ew, length-fragment 2 6 w 0 payload ∙ rw e);
    }
ack_on_error-written form.SenderAbort payload e =
    record {
      padding = 0;
      short = omega arith;
      spells = (IsSenderAbort-written 2 6 payload e, length-fragment 2 6 3 63 payload ∙ rw e);
    }
ack_on_error-written form.ReceiverAbort payload h = absurd h

ack-all-written : (w_bits w bitmap : ℕ) (payload : List Bool) → w_bits ≤ 2 → w < 2 ^ w_bits
    → bitmap ≡ 0 → payload ≡ []
    → IsAckOfAll w_bits w bitmap [] (written (answer_head w_bits w 1 ++ payload))
    × (length (written (answer_head w_bits w 1 ++ payload)) ≡ 1)
ack-all-written w_bits w bitmap payload narrow h z e =
    let none : length payload ≡ 0 = ap length e in (
      record {
        window = h;
        no_bitmap = z;
        no_payload = refl;
        padding = payload ++ replicate (zeros (answer_head w_bits w 1 ++ payload)) false;
        bits = octets-written (answer_head w_bits w 1) payload;
      },
      omega (arith, none, length-fragment w_bits 1 w 1 payload),
    )

ack-some-written : (w_bits size w bitmap : ℕ) → w < 2 ^ w_bits → bitmap < 2 ^ size
    → let kept : List Bool = kept_bits (w_bits + 1) (number_bits size bitmap) in
    IsAckOfSome w_bits size w bitmap [] (written (answer_head w_bits w 0 ++ kept))
ack-some-written w_bits size w bitmap h f =
    let bitmap_bits : List Bool = number_bits size bitmap in
    let kept : List Bool = kept_bits (w_bits + 1) bitmap_bits in
    let count : ℕ = zeros (answer_head w_bits w 0 ++ kept) in
    let width : length (answer_head w_bits w 0 ++ kept) ≡ kept_length (w_bits + 1) bitmap_bits =
    length-append (answer_head w_bits w 0) kept
    ∙ omega (
      arith,
      length-fragment_head w_bits 1 w 0,
      length-kept_bits (w_bits + 1)
          bitmap_bits,
    )
    in
    let fill : count ≡ (8 - kept_length (w_bits + 1) bitmap_bits % 8) % 8 =
    ap (λ n. (8 - n % 8) % 8) width in
    record {
      window = h;
      fits = f;
      no_payload = refl;
      rest = kept ++ replicate count false;
      bits = octets-written (answer_head w_bits w 0) kept;
      tiles = subst
          (λ n. number_bits size bitmap ≡ take n
          ((kept ++ replicate count false) ++ replicate n true)) (length-number_bits size bitmap)
          (kept-reads (w_bits + 1) count bitmap_bits fill);
    }

ack-some-length : (w_bits size w bitmap : ℕ) → let kept : List Bool =
    kept_bits (w_bits + 1) (number_bits size bitmap) in let bytes : List ℕ =
    written (answer_head w_bits w 0 ++ kept) in (1 ≤ length bytes)
    × (length bytes ≤ (w_bits + 1 + size + 7) / 8)
ack-some-length w_bits size w bitmap =
    let bitmap_bits : List Bool = number_bits size bitmap in
    let kept : List Bool = kept_bits (w_bits + 1) bitmap_bits in
    let few : length kept ≤ size =
    omega (
      arith,
      length-kept_bits (w_bits + 1) bitmap_bits,
      (kept-bounds (w_bits + 1) bitmap_bits).1,
      length-number_bits size bitmap,
    )
    in (
      omega (arith, length-fragment w_bits 1 w 0 kept),
      omega
          (arith, few, length-fragment w_bits 1 w 0 kept),
    )

abort-written : (payload : List Bool) → payload ≡ []
    → IsReceiverAbort [] (written (number_bits 16 (all_ones 16) ++ payload))
abort-written payload e =
    record {
      no_payload = refl;
      bits =
          ap (λ p. octets (written (number_bits 16 65535 ++ p))) e
          ∙ octets-bytes_of-padded (number_bits 16 65535 ++ [])
          ∙ ap padded (append-nil (number_bits 16 65535))
          ∙ padded-whole (number_bits 16 65535) (ap (λ n. n % 8) (length-number_bits 16 65535));
    }

-- an answer that is written, in a mode with a W of `w_bits` bits and a bitmap of `size`
pub record AnswerWritten (params : FragParams) (most : ℕ) (message : Message)
    (payload : List Bool) : Type 0 where
  pub spells : SpellsAnswer params.w_bits params.window most message []
      (written (head params message ++ payload))

answer-written : (m : FragMode) (most : ℕ) (message : Message) (payload : List Bool)
    → let params : FragParams = params_of m in params.w_bits ≤ 2
    → (params.w_bits + 1 + params.window + 7) / 8 ≤ most
    → CanSpellAnswer params.w_bits params.window message payload
    → AnswerWritten params most message payload
answer-written m most (form.Regular w fcn from) payload narrow few h = absurd h
answer-written m most (form.All1 w rcs from) payload narrow few h = absurd h
answer-written m most (form.Ack w true bitmap) payload narrow few (ew, z, e) =
    record { spells = ack-all-written (params_of m).w_bits w bitmap payload narrow ew z e }
answer-written m most (form.Ack w false bitmap) payload narrow few (ew, f, e) =
    let w_bits : ℕ = (params_of m).w_bits in
    let size : ℕ = (params_of m).window in
    let front : List Bool =
    answer_head w_bits w 0 ++ kept_bits (w_bits + 1) (number_bits size bitmap) in
    let whole : front ++ payload ≡ front = ap (λ p. front ++ p) e ∙ append-nil front in
    let long : (1 ≤ length (written front))
    × (length (written front) ≤ (w_bits + 1 + size + 7) / 8) =
    ack-some-length w_bits size w bitmap in
    record {
      spells =
          subst (λ bits. IsAckOfSome w_bits size w bitmap [] (written bits)
          × (1 ≤ length (written bits)) × (length (written bits) ≤ most)) (sym whole)
          (ack-some-written w_bits size w bitmap ew f, long.0, omega (arith, long.1));
    }
answer-written m most (form.AckReq w) payload narrow few h = absurd h
answer-written m most form.SenderAbort payload narrow few h = absurd h
answer-written m most form.ReceiverAbort payload narrow few e =
    record { spells = abort-written payload e }

ack_always-answered : (message : Message) (payload : List Bool) → CanSpellAnswer 1 1 message payload
    → IsWritten (params_of mode.AckAlways) side.Answers message payload
    (written (head (params_of mode.AckAlways) message ++ payload))
ack_always-answered (form.Regular w fcn from) payload h = absurd h
ack_always-answered (form.All1 w rcs from) payload h = absurd h
ack_always-answered (form.Ack w c bitmap) payload h =
    record {
      padding = 0;
      short = omega arith;
      spells =
          (answer-written mode.AckAlways 1 (form.Ack w c bitmap) payload (omega arith) (omega arith)
          h).spells;
    }
ack_always-answered (form.AckReq w) payload h = absurd h
ack_always-answered form.SenderAbort payload h = absurd h
ack_always-answered form.ReceiverAbort payload h =
    record { padding = 0; short = omega arith; spells = abort-written payload h }

ack_on_error-answered : (message : Message) (payload : List Bool)
    → CanSpellAnswer 2 63 message payload
    → IsWritten (params_of mode.AckOnError) side.Answers message payload
    (written (head (params_of mode.AckOnError) message ++ payload))
ack_on_error-answered (form.Regular w fcn from) payload h = absurd h
ack_on_error-answered (form.All1 w rcs from) payload h = absurd h
ack_on_error-answered (form.Ack w c bitmap) payload h =
    record {
      padding = 0;
      short = omega arith;
      spells =
          (answer-written mode.AckOnError 9 (form.Ack w c bitmap) payload (omega arith)
          (omega arith)
          h).spells;
    }
ack_on_error-answered (form.AckReq w) payload h = absurd h
ack_on_error-answered form.SenderAbort payload h = absurd h
ack_on_error-answered form.ReceiverAbort payload h =
    record { padding = 0; short = omega arith; spells = abort-written payload h }

mode-written : (m : FragMode) (way : Side) (message : Message) (payload : List Bool)
    → CanSpellIn m way message payload
    → IsWritten (params_of m) way message payload (written (head (params_of m) message ++ payload))
mode-written mode.NoAck side.Fragments message payload h = no_ack-written message payload h
mode-written mode.NoAck side.Answers message payload h = absurd h
mode-written mode.AckAlways side.Fragments message payload h = ack_always-written message payload h
mode-written mode.AckAlways side.Answers message payload h = ack_always-answered message payload h
mode-written mode.AckOnError side.Fragments message payload h =
    ack_on_error-written message payload h
mode-written mode.AckOnError side.Answers message payload h =
    ack_on_error-answered message payload h

-- what is written is the message with its payload
pub IsWritten-written : (params : FragParams) (way : Side) (message : Message) (payload : List Bool)
    (bytes : List ℕ) → IsFragParams params → CanSpell params way message payload
    → bytes ≡ written (head params message ++ payload) → IsWritten params way message payload bytes
IsWritten-written params way message payload bytes row h e =
    subst (λ b. IsWritten params way message payload b) (sym e)
    (subst (λ p. IsWritten p way message payload (written (head p message ++ payload))) (sym row)
    (mode-written params.mode way message payload h))

no_ack-fits : (message : Message) (payload : List Bool) → CanSpellNoAck message payload
    → HeadFits (params_of mode.NoAck) message
no_ack-fits (form.Regular w fcn from) payload (ew, ef, long) = (omega arith, omega arith)
no_ack-fits (form.All1 w rcs from) payload (ew, range) = (omega arith, range)
no_ack-fits (form.Ack w c bitmap) payload h = absurd h
no_ack-fits (form.AckReq w) payload h = absurd h
no_ack-fits form.SenderAbort payload e = tt
no_ack-fits form.ReceiverAbort payload h = absurd h

ack_always-fits : (message : Message) (payload : List Bool) → CanSpellAckAlways message payload
    → HeadFits (params_of mode.AckAlways) message
ack_always-fits (form.Regular w fcn from) payload (ew, ef, long) = (ew, omega arith)
ack_always-fits (form.All1 w rcs from) payload (ew, range) = (ew, range)
ack_always-fits (form.Ack w c bitmap) payload h = absurd h
ack_always-fits (form.AckReq w) payload (ew, e) = ew
ack_always-fits form.SenderAbort payload e = tt
ack_always-fits form.ReceiverAbort payload h = absurd h

ack_on_error-fits : (message : Message) (payload : List Bool) → CanSpellAckOnError message payload
    → HeadFits (params_of mode.AckOnError) message
ack_on_error-fits (form.Regular w fcn from) payload (ew, ef, long, few) = (ew, omega arith)
ack_on_error-fits (form.All1 w rcs from) payload (ew, range, few) = (ew, range)
ack_on_error-fits (form.Ack w c bitmap) payload h = absurd h
ack_on_error-fits (form.AckReq w) payload (ew, e) = ew
ack_on_error-fits form.SenderAbort payload e = tt
ack_on_error-fits form.ReceiverAbort payload h = absurd h

answer-fits : (m : FragMode) (message : Message) (payload : List Bool) → let params : FragParams =
    params_of m in CanSpellAnswer params.w_bits params.window message payload
    → HeadFits params message
answer-fits m (form.Regular w fcn from) payload h = absurd h
answer-fits m (form.All1 w rcs from) payload h = absurd h
answer-fits m (form.Ack w true bitmap) payload (ew, z, e) =
    (ew, omega (arith, z, pow_pos (params_of m).window))
answer-fits m (form.Ack w false bitmap) payload (ew, f, e) = (ew, f)
answer-fits m (form.AckReq w) payload h = absurd h
answer-fits m form.SenderAbort payload h = absurd h
answer-fits m form.ReceiverAbort payload e = tt

mode-fits : (m : FragMode) (way : Side) (message : Message) (payload : List Bool)
    → CanSpellIn m way message payload → HeadFits (params_of m) message
mode-fits mode.NoAck side.Fragments message payload h = no_ack-fits message payload h
mode-fits mode.NoAck side.Answers message payload h = absurd h
mode-fits mode.AckAlways side.Fragments message payload h = ack_always-fits message payload h
mode-fits mode.AckAlways side.Answers message payload h =
    answer-fits mode.AckAlways message payload h
mode-fits mode.AckOnError side.Fragments message payload h = ack_on_error-fits message payload h
mode-fits mode.AckOnError side.Answers message payload h =
    answer-fits mode.AckOnError message payload h

pub HeadFits-spelt : (params : FragParams) (way : Side) (message : Message) (payload : List Bool)
    → IsFragParams params → CanSpell params way message payload → HeadFits params message
HeadFits-spelt params way message payload row h =
    subst (λ p. HeadFits p message) (sym row) (mode-fits params.mode way message payload h)

w_bits-narrow : (m : FragMode) → (params_of m).w_bits ≤ 2
w_bits-narrow mode.NoAck = omega arith
w_bits-narrow mode.AckAlways = omega arith
w_bits-narrow mode.AckOnError = omega arith

fcn_bits-narrow : (m : FragMode) → (params_of m).fcn_bits ≤ 6
fcn_bits-narrow mode.NoAck = omega arith
fcn_bits-narrow mode.AckAlways = omega arith
fcn_bits-narrow mode.AckOnError = omega arith

pub w_bits-row : (params : FragParams) → IsFragParams params → params.w_bits ≤ 2
w_bits-row params row =
    subst (λ (p : FragParams). p.w_bits ≤ 2) (sym row) (w_bits-narrow params.mode)

pub fcn_bits-row : (params : FragParams) → IsFragParams params → params.fcn_bits ≤ 6
fcn_bits-row params row =
    subst (λ (p : FragParams). p.fcn_bits ≤ 6) (sym row) (fcn_bits-narrow params.mode)

-- what is put last, after what stands already
pub head_pushed : (old : List Bool) (w_bits fcn_bits w fcn : ℕ)
    → (old ++ number_bits w_bits w) ++ number_bits fcn_bits fcn ≡ old ++ fragment_head w_bits
    fcn_bits w fcn
unfolding fragment_head
head_pushed old w_bits fcn_bits w fcn =
    append_assoc old (number_bits w_bits w) (number_bits fcn_bits fcn)

window-narrow : (m : FragMode) → (params_of m).window ≤ 63
window-narrow mode.NoAck = omega arith
window-narrow mode.AckAlways = omega arith
window-narrow mode.AckOnError = omega arith

pub window-row : (params : FragParams) → IsFragParams params → params.window ≤ 63
window-row params row =
    subst (λ (p : FragParams). p.window ≤ 63) (sym row) (window-narrow params.mode)
