-- Reading an answer from the first byte on gives what the bytes spell.
use Rattle.std.specs.Prelude.{ℕ, ◌≡◌, ◌≢◌, ◌+◌, ◌*◌, ◌^◌, ◌<◌, ◌≤◌, zero, suc, Bool, true, false}
use Rattle.std.specs.Prelude.{List, [], ◌++◌, length, take, drop, replicate, Result, Ok, Err}
use Rattle.std.proofs.Common.{arith, ap, refl, sym, subst, ◌∙◌, inl, inr}
use Rattle.std.proofs.lemmas.Bool.{cases_lt, cases_eq}
use Rattle.std.proofs.lemmas.List.{append-nil, length-append, length-replicate, length-take-le}
use Rattle.std.proofs.lemmas.List.{drop_all}
use Rattle.schc_bits.specs.Bits.{number_bits, bits_value, octets}
use Rattle.schc_bits.proofs.NumberBits.{length-number_bits, bits_value-number_bits}
use Rattle.schc_bits.proofs.NumberBits.{bits_value-below, number_bits-bits_value}
use Rattle.schc_bits.proofs.Octets.{length-octets}
use Rattle.schc_ids.specs.declared.faults.WireFault.{WireFault}
use Rattle.schc_ids.specs.declared.faults.WireFault.TheVariants.{Empty, TooShort, WrongForm}
use Rattle.frag_wire.specs.declared.message.Message.{Message}
use Rattle.frag_wire.specs.declared.message.Message.TheVariants as form
use Rattle.frag_wire.specs.Fields.{number_in}
use Rattle.frag_wire.specs.Forms.{all_ones, fragment_head}
use Rattle.frag_wire.specs.Layouts.{payload_in}
use Rattle.frag_wire.specs.Answers.{answer_head, IsAckOfSome, AnswerBegins, SpellsAnswer}
use Rattle.frag_wire.specs.Answers.{IsAnswerFault, bitmap_in, answer_reading}
use Rattle.frag_wire.proofs.FieldsLemmas.{number_in-below, number_in-is, number_in-splits}
use Rattle.frag_wire.proofs.FormsLemmas.{head-w, head-fcn, head-rest, head-is}

-- sixteen ones are the whole of two bytes
ones-read : (bytes : List ℕ) → octets bytes ≡ number_bits 16 (all_ones 16) → (length bytes ≡ 2)
    × (number_in 0 16 bytes ≡ 65535)
ones-read bytes e =
    let count : 8 * length bytes ≡ 16 = sym (length-octets bytes) ∙ ap length e
    ∙ length-number_bits 16 (all_ones 16) in (
      omega (arith, count),
      number_in-is bytes [] [] 0 16 65535
          (e ∙ sym (append-nil (number_bits 16 65535))) refl (omega arith),
    )

ones-are : (bytes : List ℕ) → length bytes ≡ 2 → number_in 0 16 bytes ≡ 65535
    → octets bytes ≡ number_bits 16 (all_ones 16)
ones-are bytes two e =
    number_in-splits bytes 0 16 (omega arith)
    ∙ ap (λ n. number_bits 16 n ++ drop 16 (octets bytes)) e
    ∙ ap (λ rest. number_bits 16 65535 ++ rest)
    (drop_all 16 (octets bytes) (omega (arith, length-octets bytes)))
    ∙ append-nil (number_bits 16 65535)

-- they begin with any W of ones, and a C of 1
ones-split : (w_bits : ℕ) → w_bits ≤ 2 → (rest : List Bool)
    × (number_bits 16 65535 ≡ answer_head w_bits (all_ones w_bits) 1 ++ rest)
unfolding fragment_head number_bits
ones-split zero h = (number_bits 15 32767, refl)
ones-split (suc zero) h = (number_bits 14 16383, refl)
ones-split (suc (suc zero)) h = (number_bits 13 8191, refl)
ones-split (suc (suc (suc w_bits))) h = absurd (omega arith)

answer-empty : (w_bits size most : ℕ) (bytes : List ℕ) → length bytes ≡ 0
    → answer_reading w_bits size most bytes ≡ Err Empty
unfolding answer_reading
answer-empty w_bits size most bytes h = grind arith

answer-some : (w_bits size most : ℕ) (bytes : List ℕ) → number_in w_bits 1 bytes ≡ 0
    → 1 ≤ length bytes → length bytes ≤ most
    → answer_reading w_bits size most bytes ≡ Ok
    (form.Ack (number_in 0 w_bits bytes) false (bitmap_in (w_bits + 1) size bytes))
unfolding answer_reading
answer-some w_bits size most bytes z h k = grind arith

answer-long : (w_bits size most : ℕ) (bytes : List ℕ) → number_in w_bits 1 bytes ≡ 0
    → most < length bytes → answer_reading w_bits size most bytes ≡ Err WrongForm
unfolding answer_reading
answer-long w_bits size most bytes z h = grind arith

answer-all : (w_bits size most : ℕ) (bytes : List ℕ) → number_in w_bits 1 bytes ≡ 1
    → length bytes ≡ 1
    → answer_reading w_bits size most bytes ≡ Ok (form.Ack (number_in 0 w_bits bytes) true 0)
unfolding answer_reading
answer-all w_bits size most bytes z h = grind arith

answer-abort : (w_bits size most : ℕ) (bytes : List ℕ) → number_in w_bits 1 bytes ≡ 1
    → length bytes ≡ 2 → number_in 0 16 bytes ≡ 65535
    → answer_reading w_bits size most bytes ≡ Ok form.ReceiverAbort
unfolding answer_reading
answer-abort w_bits size most bytes z h k = grind arith

answer-other : (w_bits size most : ℕ) (bytes : List ℕ) → number_in w_bits 1 bytes ≡ 1
    → 3 ≤ length bytes → answer_reading w_bits size most bytes ≡ Err WrongForm
unfolding answer_reading
answer-other w_bits size most bytes z h = grind arith

answer-two : (w_bits size most : ℕ) (bytes : List ℕ) → number_in w_bits 1 bytes ≡ 1
    → length bytes ≡ 2 → number_in 0 16 bytes ≢ 65535
    → answer_reading w_bits size most bytes ≡ Err WrongForm
unfolding answer_reading
answer-two w_bits size most bytes z h k = grind arith

-- the bitmap that is sent is the one that is read
bitmap-read : (bytes : List ℕ) (w_bits size w bitmap : ℕ) (rest : List Bool)
    → octets bytes ≡ answer_head w_bits w 0 ++ rest → bitmap < 2 ^ size
    → number_bits size bitmap ≡ take size (rest ++ replicate size true)
    → bitmap_in (w_bits + 1) size bytes ≡ bitmap
unfolding bitmap_in
bitmap-read bytes w_bits size w bitmap rest e h t =
    ap (λ bits. bits_value (take size (bits ++ replicate size true)))
    (sym (head-rest bytes w_bits 1 w 0 rest e))
    ∙ ap bits_value (sym t)
    ∙ bits_value-number_bits size bitmap h

-- what the bytes spell is what is read
pub answer-spelled : (w_bits size most : ℕ) (message : Message) (payload : List Bool)
    (bytes : List ℕ) → w_bits ≤ 2 → SpellsAnswer w_bits size most message payload bytes
    → (answer_reading w_bits size most bytes ≡ Ok message)
    × (payload ≡ payload_in message (octets bytes))
answer-spelled w_bits size most (form.Regular w fcn from) payload bytes narrow h = absurd h
answer-spelled w_bits size most (form.All1 w rcs from) payload bytes narrow h = absurd h
answer-spelled w_bits size most (form.Ack w true bitmap) payload bytes narrow (r, one) =
    let c-read : number_in w_bits 1 bytes ≡ 1 =
    head-fcn bytes w_bits 1 w 1 r.padding r.bits (omega arith) in
    let w-read : number_in 0 w_bits bytes ≡ w =
    head-w bytes w_bits 1 w 1 r.padding r.bits r.window in
    (rw (← w-read, r.no_bitmap) (answer-all w_bits size most bytes c-read one), r.no_payload)
answer-spelled w_bits size most (form.Ack w false bitmap) payload bytes narrow (r, some, few) =
    let c-read : number_in w_bits 1 bytes ≡ 0 =
    head-fcn bytes w_bits 1 w 0 r.rest r.bits (omega arith) in
    let w-read : number_in 0 w_bits bytes ≡ w = head-w bytes w_bits 1 w 0 r.rest r.bits r.window in
    let map-read : bitmap_in (w_bits + 1) size bytes ≡ bitmap =
    bitmap-read bytes w_bits size w bitmap r.rest r.bits r.fits r.tiles in
    (rw (← w-read, ← map-read) (answer-some w_bits size most bytes c-read some few), r.no_payload)
answer-spelled w_bits size most (form.AckReq w) payload bytes narrow h = absurd h
answer-spelled w_bits size most form.SenderAbort payload bytes narrow h = absurd h
answer-spelled w_bits size most form.ReceiverAbort payload bytes narrow r =
    let both : (length bytes ≡ 2) × (number_in 0 16 bytes ≡ 65535) = ones-read bytes r.bits in
    let split : (rest : List Bool)
    × (number_bits 16 65535 ≡ answer_head w_bits (all_ones w_bits) 1 ++ rest) =
    ones-split w_bits narrow in
    let c-read : number_in w_bits 1 bytes ≡ 1 =
    head-fcn bytes w_bits 1 (all_ones w_bits) 1 split.0 (r.bits ∙ split.1) (omega arith) in
    (answer-abort w_bits size most bytes c-read both.0 both.1, r.no_payload)

-- the cause for which the bytes are no answer is what is read
pub answer-refused : (w_bits size most : ℕ) (fault : WireFault) (bytes : List ℕ)
    → IsAnswerFault w_bits most fault bytes → answer_reading w_bits size most bytes ≡ Err fault
answer-refused w_bits size most Empty bytes h = answer-empty w_bits size most bytes h
answer-refused w_bits size most TooShort bytes h = absurd h
answer-refused w_bits size most WrongForm bytes (inl ((w, b), two, other)) =
    let c-read : number_in w_bits 1 bytes ≡ 1 = head-fcn bytes w_bits 1 w 1 b.rest b.bits b.flag in
    elim (cases_lt (length bytes) 3) [
      | inr three ↦ answer-other w_bits size most bytes c-read three
      | inl few ↦
          let both : length bytes ≡ 2 = omega arith in
          answer-two w_bits size most bytes c-read both (λ e. other (ones-are bytes both e))
    ]
answer-refused w_bits size most WrongForm bytes (inr ((w, b), long)) =
    answer-long w_bits size most bytes (head-fcn bytes w_bits 1 w 0 b.rest b.bits b.flag) long

-- what a reading of the bytes says
abbrev pub MeetsAnswer : ℕ → ℕ → ℕ → List ℕ → Result Message WireFault → Type 0
MeetsAnswer w_bits size most bytes (Ok message) =
    SpellsAnswer w_bits size most message (payload_in message (octets bytes)) bytes
MeetsAnswer w_bits size most bytes (Err fault) = IsAnswerFault w_bits most fault bytes

met-at : (w_bits size most : ℕ) (bytes : List ℕ) (read : Result Message WireFault)
    → answer_reading w_bits size most bytes ≡ read → MeetsAnswer w_bits size most bytes read
    → MeetsAnswer w_bits size most bytes (answer_reading w_bits size most bytes)
met-at w_bits size most bytes read e h = subst (MeetsAnswer w_bits size most bytes) (sym e) h

AnswerBegins-read : (bytes : List ℕ) (w_bits c : ℕ) → w_bits + 1 ≤ 8 * length bytes
    → c ≡ number_in w_bits 1 bytes → AnswerBegins w_bits (number_in 0 w_bits bytes) c bytes
AnswerBegins-read bytes w_bits c h e =
    record {
      window = number_in-below bytes 0 w_bits (omega arith);
      flag = omega (arith, number_in-below bytes w_bits 1 h);
      rest = drop (w_bits + 1) (octets bytes);
      bits = rw e (head-is bytes w_bits 1 h);
    }

IsAckOfSome-read : (bytes : List ℕ) (w_bits size : ℕ) → w_bits + 1 ≤ 8 * length bytes
    → number_in w_bits 1 bytes ≡ 0
    → IsAckOfSome w_bits size (number_in 0 w_bits bytes) (bitmap_in (w_bits + 1) size bytes) []
    bytes
unfolding bitmap_in
IsAckOfSome-read bytes w_bits size h z =
    let begins : AnswerBegins w_bits (number_in 0 w_bits bytes) 0 bytes =
    AnswerBegins-read bytes w_bits 0 h (sym z) in
    let rest : List Bool = drop (w_bits + 1) (octets bytes) in
    let filled : List Bool = rest ++ replicate size true in
    let width : length (take size filled) ≡ size =
    length-take-le size filled
    (omega (arith, length-append rest (replicate size true), length-replicate size true)) in
    record {
      window = begins.window;
      fits = subst (λ n. bits_value (take size filled) < 2 ^ n) width
          (bits_value-below (take size filled));
      no_payload = refl;
      rest = rest;
      bits = subst (λ n. octets bytes ≡ fragment_head w_bits 1 (number_in 0 w_bits bytes) n ++ rest)
          z (head-is bytes w_bits 1 h);
      tiles = subst (λ n. number_bits n (bits_value (take size filled)) ≡ take size filled) width
          (number_bits-bits_value (take size filled));
    }

-- what is read is what the bytes spell, or the cause for which they are no answer
pub answer-met : (w_bits size most : ℕ) (bytes : List ℕ) → w_bits ≤ 2
    → MeetsAnswer w_bits size most bytes (answer_reading w_bits size most bytes)
answer-met w_bits size most bytes narrow =
    elim (cases_lt 0 (length bytes)) [
      | inr none ↦ met-at w_bits size most bytes (Err Empty)
          (answer-empty w_bits size most bytes (omega arith)) (omega arith)
      | inl some ↦
          let enough : w_bits + 1 ≤ 8 * length bytes = omega arith in
          let w : ℕ = number_in 0 w_bits bytes in
          elim (cases_lt (number_in w_bits 1 bytes) 1) [
            | inl low ↦
                let z : number_in w_bits 1 bytes ≡ 0 = omega arith in
                elim (cases_lt most (length bytes)) [
                  | inl long ↦
                      met-at w_bits size most bytes (Err WrongForm)
                      (answer-long w_bits size most bytes z long)
                      (inr ((w, AnswerBegins-read bytes w_bits 0 enough (sym z)), long))
                  | inr few ↦
                      met-at w_bits size most bytes
                      (Ok (form.Ack w false (bitmap_in (w_bits + 1) size bytes)))
                      (answer-some w_bits size most bytes z some few)
                      (IsAckOfSome-read bytes w_bits size enough z, some, few)
                ]
            | inr high ↦
                let o : number_in w_bits 1 bytes ≡ 1 =
                omega (arith, number_in-below bytes w_bits 1 enough) in
                let begins : AnswerBegins w_bits w 1 bytes =
                AnswerBegins-read bytes w_bits 1 enough (sym o) in
                elim (cases_lt (length bytes) 2) [
                  | inl short ↦
                      let one : length bytes ≡ 1 = omega arith in
                      met-at w_bits size most bytes (Ok (form.Ack w true 0))
                      (answer-all w_bits size most bytes o one) (
                        record {
                          window = begins.window;
                          no_bitmap = refl;
                          no_payload =
                              refl;
                          padding = begins.rest;
                          bits = begins.bits;
                        },
                        one,
                      )
                  | inr two ↦
                      elim (cases_lt (length bytes) 3) [
                        | inr three ↦
                            met-at w_bits size most bytes (Err WrongForm)
                            (answer-other w_bits size most bytes o three)
                            (inl (
                              (w, begins),
                              two,
                              λ e. absurd
                                  (omega (arith, (ones-read bytes e).0)),
                            ))
                        | inl few ↦
                            let both : length bytes ≡ 2 = omega arith in
                            elim (cases_eq (number_in 0 16 bytes) 65535) [
                              | inl all ↦
                                  met-at w_bits size most bytes (Ok form.ReceiverAbort)
                                  (answer-abort w_bits size most bytes o both all)
                                  (record { no_payload = refl; bits = ones-are bytes both all })
                              | inr other ↦
                                  met-at w_bits size most bytes (Err WrongForm)
                                  (answer-two w_bits size most bytes o both other)
                                  (inl ((w, begins), two, λ e. other (ones-read bytes e).1))
                            ]
                      ]
                ]
          ]
    ]
