-- Reading ACK-on-Error from the first byte on gives what the bytes spell.
use Rattle.std.specs.Prelude.{ℕ, ◌≡◌, ◌≢◌, ◌+◌, ◌-◌, ◌*◌, ◌<◌, ◌≤◌, Bool, List, ◌++◌, length}
use Rattle.std.specs.Prelude.{Result, Ok, Err}
use Rattle.std.proofs.Common.{arith, refl, sym, subst, ◌∙◌, inl, inr}
use Rattle.std.proofs.lemmas.Bool.{cases_lt, cases_eq}
use Rattle.std.proofs.lemmas.List.{append_assoc}
use Rattle.schc_bits.specs.Bits.{number_bits, octets}
use Rattle.schc_ids.specs.declared.faults.WireFault.{WireFault}
use Rattle.schc_ids.specs.declared.faults.WireFault.TheVariants.{Empty, TooShort, WrongForm}
use Rattle.frag_wire.specs.declared.message.Message.{Message}
use Rattle.frag_wire.specs.declared.message.Message.TheVariants as form
use Rattle.frag_wire.specs.Fields.{number_in}
use Rattle.frag_wire.specs.Forms.{fragment_head}
use Rattle.frag_wire.specs.Layouts.{payload_in}
use Rattle.frag_wire.specs.AckOnError.{tiles_to, SpellsAckOnError, IsAckOnErrorFault, last_reading}
use Rattle.frag_wire.specs.AckOnError.{other_reading, ack_on_error_reading}
use Rattle.frag_wire.proofs.FieldsLemmas.{number_in-below}
use Rattle.frag_wire.proofs.FormsLemmas.{head-w, head-fcn, head-rest, head-rcs, head-payload}
use Rattle.frag_wire.proofs.FormsLemmas.{IsRegular-read, IsAll1-read, IsAckReq-read}
use Rattle.frag_wire.proofs.FormsLemmas.{BeginsWith-read, IsSenderAbort-read}

last-abort : (w : ℕ) (bytes : List ℕ) → w ≡ 3 → length bytes ≡ 1
    → last_reading w bytes ≡ Ok form.SenderAbort
unfolding last_reading
last-abort w bytes e h = grind arith

last-one : (w : ℕ) (bytes : List ℕ) → w ≢ 3 → length bytes ≡ 1 → last_reading w bytes ≡ Err TooShort
unfolding last_reading
last-one w bytes e h = grind arith

last-short : (w : ℕ) (bytes : List ℕ) → 2 ≤ length bytes → length bytes ≤ 4
    → last_reading w bytes ≡ Err TooShort
unfolding last_reading
last-short w bytes h k = grind arith

last-all1 : (w : ℕ) (bytes : List ℕ) → 5 ≤ length bytes → length bytes ≤ 15
    → last_reading w bytes ≡ Ok (form.All1 w (number_in 8 32 bytes) 40)
unfolding last_reading
last-all1 w bytes h k = grind arith

last-long : (w : ℕ) (bytes : List ℕ) → 15 < length bytes → last_reading w bytes ≡ Err WrongForm
unfolding last_reading
last-long w bytes h = grind arith

other-request : (w fcn : ℕ) (bytes : List ℕ) → fcn ≡ 0 → length bytes ≡ 1
    → other_reading w fcn bytes ≡ Ok (form.AckReq w)
unfolding other_reading
other-request w fcn bytes e h = grind arith

other-short : (w fcn : ℕ) (bytes : List ℕ) → 1 ≤ fcn → length bytes ≡ 1
    → other_reading w fcn bytes ≡ Err TooShort
unfolding other_reading
other-short w fcn bytes e h = grind arith

other-regular : (w fcn : ℕ) (bytes : List ℕ) → 2 ≤ length bytes
    → tiles_to w fcn (length bytes - 1) ≤ 252
    → other_reading w fcn bytes ≡ Ok (form.Regular w fcn 8)
unfolding other_reading
other-regular w fcn bytes h k = grind arith

other-past : (w fcn : ℕ) (bytes : List ℕ) → 2 ≤ length bytes
    → 252 < tiles_to w fcn (length bytes - 1) → other_reading w fcn bytes ≡ Err WrongForm
unfolding other_reading
other-past w fcn bytes h k = grind arith

reading-empty : (bytes : List ℕ) → length bytes ≡ 0 → ack_on_error_reading bytes ≡ Err Empty
unfolding ack_on_error_reading
reading-empty bytes h = grind arith

reading-last : (bytes : List ℕ) (w : ℕ) → 1 ≤ length bytes → number_in 0 2 bytes ≡ w
    → number_in 2 6 bytes ≡ 63 → ack_on_error_reading bytes ≡ last_reading w bytes
unfolding ack_on_error_reading
reading-last bytes w h e f = grind arith

reading-other : (bytes : List ℕ) (w fcn : ℕ) → 1 ≤ length bytes → number_in 0 2 bytes ≡ w
    → number_in 2 6 bytes ≡ fcn → fcn ≢ 63 → ack_on_error_reading bytes ≡ other_reading w fcn bytes
unfolding ack_on_error_reading
reading-other bytes w fcn h e f k = grind arith

-- what the bytes spell is what is read, and its payload is what stands from its place on
pub ack_on_error-spelled : (message : Message) (payload : List Bool) (bytes : List ℕ)
    → SpellsAckOnError message payload bytes → (ack_on_error_reading bytes ≡ Ok message)
    × (payload ≡ payload_in message (octets bytes))
ack_on_error-spelled (form.Regular w fcn from) payload bytes (r, long, few) =
    let at : from ≡ 8 = r.place in
    let fcn-read : number_in 2 6 bytes ≡ fcn =
    head-fcn bytes 2 6 w fcn payload r.bits (omega (arith, r.number)) in
    let w-read : number_in 0 2 bytes ≡ w = head-w bytes 2 6 w fcn payload r.bits r.window in (
      rw at (reading-other bytes w fcn (omega arith) w-read fcn-read
          (λ e. absurd (omega (arith, r.number, e))) ∙ other-regular w fcn bytes long few),
      rw at (head-rest bytes 2 6 w fcn payload r.bits),
    )
ack_on_error-spelled (form.All1 w rcs from) payload bytes (r, long, few) =
    let at : from ≡ 40 = r.place in
    let whole : octets bytes ≡ fragment_head 2 6 w 63 ++ (number_bits 32 rcs ++ payload) = r.bits
    ∙ append_assoc (fragment_head 2 6 w 63) (number_bits 32 rcs) payload in
    let fcn-read : number_in 2 6 bytes ≡ 63 =
    head-fcn bytes 2 6 w 63 (number_bits 32 rcs ++ payload) whole (omega arith) in
    let w-read : number_in 0 2 bytes ≡ w =
    head-w bytes 2 6 w 63 (number_bits 32 rcs ++ payload) whole r.window in
    let check : number_in 8 32 bytes ≡ rcs = head-rcs bytes 2 6 w 63 rcs payload r.bits r.check in (
      rw (at, ← check)
          (reading-last bytes w (omega arith) w-read fcn-read ∙ last-all1 w bytes long few),
      rw at (head-payload bytes 2 6 w 63 rcs payload r.bits),
    )
ack_on_error-spelled (form.Ack w c bitmap) payload bytes h = absurd h
ack_on_error-spelled (form.AckReq w) payload bytes (r, one) =
    let fcn-read : number_in 2 6 bytes ≡ 0 =
    head-fcn bytes 2 6 w 0 r.padding r.bits (omega arith) in
    let w-read : number_in 0 2 bytes ≡ w = head-w bytes 2 6 w 0 r.padding r.bits r.window in (
      reading-other bytes w 0 (omega arith) w-read fcn-read (λ e. absurd (omega (arith, e)))
          ∙ other-request w 0 bytes refl one,
      r.no_payload,
    )
ack_on_error-spelled form.SenderAbort payload bytes (r, one) =
    let fcn-read : number_in 2 6 bytes ≡ 63 =
    head-fcn bytes 2 6 3 63 r.padding r.bits (omega arith) in
    let w-read : number_in 0 2 bytes ≡ 3 = head-w bytes 2 6 3 63 r.padding r.bits (omega arith) in
    (reading-last bytes 3 (omega arith) w-read fcn-read ∙ last-abort 3 bytes refl one, r.no_payload)
ack_on_error-spelled form.ReceiverAbort payload bytes h = absurd h

-- the cause for which the bytes are no message is what is read
pub ack_on_error-refused : (fault : WireFault) (bytes : List ℕ) → IsAckOnErrorFault fault bytes
    → ack_on_error_reading bytes ≡ Err fault
ack_on_error-refused Empty bytes h = reading-empty bytes h
ack_on_error-refused TooShort bytes (inl (w, fcn, b, some, most, one)) =
    reading-other bytes w fcn (omega arith) (head-w bytes 2 6 w fcn b.rest b.bits b.window)
    (head-fcn bytes 2 6 w fcn b.rest b.bits b.number) (λ e. absurd (omega (arith, e)))
    ∙ other-short w fcn bytes some one
ack_on_error-refused TooShort bytes (inr (w, b, some, four, inr two)) =
    reading-last bytes w some (head-w bytes 2 6 w 63 b.rest b.bits b.window)
    (head-fcn bytes 2 6 w 63 b.rest b.bits b.number) ∙ last-short w bytes two four
ack_on_error-refused TooShort bytes (inr (w, b, some, four, inl other)) =
    reading-last bytes w some (head-w bytes 2 6 w 63 b.rest b.bits b.window)
    (head-fcn bytes 2 6 w 63 b.rest b.bits b.number)
    ∙ elim (cases_lt (length bytes) 2) [
      | inl short ↦ last-one w bytes other (omega arith)
      | inr two ↦ last-short w bytes two four
    ]
ack_on_error-refused WrongForm bytes (inl (w, fcn, b, most, long, past)) =
    reading-other bytes w fcn (omega arith) (head-w bytes 2 6 w fcn b.rest b.bits b.window)
    (head-fcn bytes 2 6 w fcn b.rest b.bits b.number) (λ e. absurd (omega (arith, e)))
    ∙ other-past w fcn bytes long past
ack_on_error-refused WrongForm bytes (inr (w, b, long)) =
    reading-last bytes w (omega arith) (head-w bytes 2 6 w 63 b.rest b.bits b.window)
    (head-fcn bytes 2 6 w 63 b.rest b.bits b.number) ∙ last-long w bytes long

-- what a reading of the bytes says
abbrev pub MeetsAckOnError : List ℕ → Result Message WireFault → Type 0
MeetsAckOnError bytes (Ok message) =
    SpellsAckOnError message (payload_in message (octets bytes)) bytes
MeetsAckOnError bytes (Err fault) = IsAckOnErrorFault fault bytes

met-at : (bytes : List ℕ) (read other : Result Message WireFault)
    → ack_on_error_reading bytes ≡ other → other ≡ read → MeetsAckOnError bytes read
    → MeetsAckOnError bytes (ack_on_error_reading bytes)
met-at bytes read other e f h = subst (MeetsAckOnError bytes) (sym (e ∙ f)) h

met-last : (bytes : List ℕ) → 1 ≤ length bytes → number_in 2 6 bytes ≡ 63
    → MeetsAckOnError bytes (ack_on_error_reading bytes)
met-last bytes some o =
    let w : ℕ = number_in 0 2 bytes in
    let enough : 2 + 6 ≤ 8 * length bytes = omega arith in
    let e : ack_on_error_reading bytes ≡ last_reading w bytes = reading-last bytes w some refl o in
    elim (cases_lt (length bytes) 2) [
      | inl short ↦
          let one : length bytes ≡ 1 = omega arith in
          elim (cases_eq w 3) [
            | inl three ↦
                met-at bytes (Ok form.SenderAbort) (last_reading w bytes) e
                (last-abort w bytes three one)
                (IsSenderAbort-read bytes 2 6 enough (sym three) (sym o), one)
            | inr other ↦
                met-at bytes (Err TooShort) (last_reading w bytes) e (last-one w bytes other one)
                (inr (
                  w,
                  BeginsWith-read bytes 2 6 w 63 enough refl (sym o),
                  some,
                  omega arith,
                  inl other,
                ))
          ]
      | inr two ↦
          elim (cases_lt (length bytes) 5) [
            | inl short ↦
                let four : length bytes ≤ 4 = omega arith in
                met-at bytes (Err TooShort) (last_reading w bytes) e (last-short w bytes two four)
                (inr (
                  w,
                  BeginsWith-read bytes 2 6 w 63 enough refl (sym o),
                  some,
                  four,
                  inr
                      two,
                ))
            | inr five ↦
                elim (cases_lt 15 (length bytes)) [
                  | inl long ↦
                      met-at bytes (Err WrongForm) (last_reading w bytes) e (last-long w bytes long)
                      (inr (w, BeginsWith-read bytes 2 6 w 63 enough refl (sym o), long))
                  | inr few ↦
                      met-at bytes (Ok (form.All1 w (number_in 8 32 bytes) 40))
                      (last_reading w bytes) e (last-all1 w bytes five few) (
                        IsAll1-read bytes 2 6 w (number_in 8 32 bytes) (omega arith) refl (sym o)
                            refl,
                        five,
                        few,
                      )
                ]
          ]
    ]

met-other : (bytes : List ℕ) → 1 ≤ length bytes → number_in 2 6 bytes ≢ 63
    → MeetsAckOnError bytes (ack_on_error_reading bytes)
met-other bytes some o =
    let w : ℕ = number_in 0 2 bytes in
    let fcn : ℕ = number_in 2 6 bytes in
    let enough : 2 + 6 ≤ 8 * length bytes = omega arith in
    let e : ack_on_error_reading bytes ≡ other_reading w fcn bytes =
    reading-other bytes w fcn some refl refl o in
    let most : fcn ≤ 62 = omega (arith, number_in-below bytes 2 6 enough, o) in
    elim (cases_lt (length bytes) 2) [
      | inl short ↦
          let one : length bytes ≡ 1 = omega arith in
          elim (cases_lt fcn 1) [
            | inl low ↦
                let z : number_in 2 6 bytes ≡ 0 = omega arith in
                met-at bytes (Ok (form.AckReq w)) (other_reading w fcn bytes) e
                (other-request w fcn bytes z one)
                (IsAckReq-read bytes 2 6 w enough refl (sym z), one)
            | inr high ↦
                met-at bytes (Err TooShort) (other_reading w fcn bytes) e
                (other-short w fcn bytes high one)
                (inl (
                  w,
                  fcn,
                  BeginsWith-read bytes 2 6 w fcn enough refl refl,
                  high,
                  most,
                  one,
                ))
          ]
      | inr two ↦
          elim (cases_lt 252 (tiles_to w fcn (length bytes - 1))) [
            | inl past ↦
                met-at bytes (Err WrongForm) (other_reading w fcn bytes) e
                (other-past w fcn bytes two past)
                (inl (
                  w,
                  fcn,
                  BeginsWith-read bytes 2 6 w fcn enough refl refl,
                  most,
                  two,
                  past,
                ))
            | inr few ↦
                met-at bytes (Ok (form.Regular w fcn 8)) (other_reading w fcn bytes) e
                (other-regular w fcn bytes two few)
                (IsRegular-read bytes 2 6 w fcn enough refl refl (omega arith), two, few)
          ]
    ]

-- what is read is what the bytes spell, or the cause for which they are no message
pub ack_on_error-met : (bytes : List ℕ) → MeetsAckOnError bytes (ack_on_error_reading bytes)
ack_on_error-met bytes =
    elim (cases_lt 0 (length bytes)) [
      | inr none ↦ met-at bytes (Err Empty) (Err Empty) (reading-empty bytes (omega arith)) refl
          (omega arith)
      | inl some ↦
          elim (cases_eq (number_in 2 6 bytes) 63) [
            | inl last ↦ met-last bytes some last
            | inr other ↦ met-other bytes some other
          ]
    ]
