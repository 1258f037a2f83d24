-- Reading ACK-Always from the first byte on gives what the bytes spell.
use Rattle.std.specs.Prelude.{ℕ, ◌≡◌, ◌+◌, ◌*◌, ◌≤◌, Bool, List, ◌++◌, length, Result, Ok, Err}
use Rattle.std.proofs.Common.{arith, refl, sym, subst, ◌∙◌, inl, inr}
use Rattle.std.proofs.lemmas.Bool.{cases_lt}
use Rattle.std.proofs.lemmas.List.{append_assoc}
use Rattle.schc_bits.specs.Bits.{number_bits, octets}
use Rattle.schc_ids.specs.declared.faults.WireFault.{WireFault}
use Rattle.schc_ids.specs.declared.faults.WireFault.TheVariants.{Empty, TooShort, WrongForm}
use Rattle.frag_wire.specs.declared.message.Message.{Message}
use Rattle.frag_wire.specs.declared.message.Message.TheVariants as form
use Rattle.frag_wire.specs.Fields.{number_in}
use Rattle.frag_wire.specs.Forms.{fragment_head}
use Rattle.frag_wire.specs.Layouts.{payload_in}
use Rattle.frag_wire.specs.AckAlways.{SpellsAckAlways, IsAckAlwaysFault, ack_always_reading}
use Rattle.frag_wire.proofs.FieldsLemmas.{number_in-below}
use Rattle.frag_wire.proofs.FormsLemmas.{head-w, head-fcn, head-rest, head-rcs, head-payload}
use Rattle.frag_wire.proofs.FormsLemmas.{IsRegular-read, IsAll1-read, IsAckReq-read}
use Rattle.frag_wire.proofs.FormsLemmas.{BeginsWith-read, IsSenderAbort-read}

ack_always-empty : (bytes : List ℕ) → length bytes ≡ 0 → ack_always_reading bytes ≡ Err Empty
unfolding ack_always_reading
ack_always-empty bytes h = grind arith

ack_always-regular : (bytes : List ℕ) → number_in 1 1 bytes ≡ 0 → 2 ≤ length bytes
    → ack_always_reading bytes ≡ Ok (form.Regular (number_in 0 1 bytes) 0 2)
unfolding ack_always_reading
ack_always-regular bytes z h = grind arith

ack_always-request : (bytes : List ℕ) → number_in 1 1 bytes ≡ 0 → length bytes ≡ 1
    → ack_always_reading bytes ≡ Ok (form.AckReq (number_in 0 1 bytes))
unfolding ack_always_reading
ack_always-request bytes z h = grind arith

ack_always-abort : (bytes : List ℕ) → number_in 0 1 bytes ≡ 1 → number_in 1 1 bytes ≡ 1
    → length bytes ≡ 1 → ack_always_reading bytes ≡ Ok form.SenderAbort
unfolding ack_always_reading
ack_always-abort bytes w z h = grind arith

ack_always-wrong : (bytes : List ℕ) → number_in 0 1 bytes ≡ 0 → number_in 1 1 bytes ≡ 1
    → length bytes ≡ 1 → ack_always_reading bytes ≡ Err WrongForm
unfolding ack_always_reading
ack_always-wrong bytes w z h = grind arith

ack_always-all1 : (bytes : List ℕ) → number_in 1 1 bytes ≡ 1 → 5 ≤ length bytes
    → ack_always_reading bytes ≡ Ok (form.All1 (number_in 0 1 bytes) (number_in 2 32 bytes) 34)
unfolding ack_always_reading
ack_always-all1 bytes z h = grind arith

ack_always-between : (bytes : List ℕ) → number_in 1 1 bytes ≡ 1 → 2 ≤ length bytes
    → length bytes ≤ 4 → ack_always_reading bytes ≡ Err TooShort
unfolding ack_always_reading
ack_always-between bytes z h k = grind arith

-- what the bytes spell is what is read, and its payload is what stands from its place on
pub ack_always-spelled : (message : Message) (payload : List Bool) (bytes : List ℕ)
    → SpellsAckAlways message payload bytes → (ack_always_reading bytes ≡ Ok message)
    × (payload ≡ payload_in message (octets bytes))
ack_always-spelled (form.Regular w fcn from) payload bytes (r, long) =
    let fcn-none : fcn ≡ 0 = omega (arith, r.number) in
    let at : from ≡ 2 = r.place in
    let zero-read : number_in 1 1 bytes ≡ 0 = head-fcn bytes 1 1 w fcn payload r.bits (omega arith)
    ∙ fcn-none in
    let w-read : number_in 0 1 bytes ≡ w = head-w bytes 1 1 w fcn payload r.bits r.window in (
      rw (← w-read, fcn-none, at) (ack_always-regular bytes zero-read long),
      rw at
          (head-rest bytes 1 1 w fcn payload r.bits),
    )
ack_always-spelled (form.All1 w rcs from) payload bytes (r, long) =
    let at : from ≡ 34 = r.place in
    let whole : octets bytes ≡ fragment_head 1 1 w 1 ++ (number_bits 32 rcs ++ payload) = r.bits
    ∙ append_assoc (fragment_head 1 1 w 1) (number_bits 32 rcs) payload in
    let one-read : number_in 1 1 bytes ≡ 1 =
    head-fcn bytes 1 1 w 1 (number_bits 32 rcs ++ payload) whole (omega arith) in
    let w-read : number_in 0 1 bytes ≡ w =
    head-w bytes 1 1 w 1 (number_bits 32 rcs ++ payload) whole r.window in
    let check : number_in 2 32 bytes ≡ rcs = head-rcs bytes 1 1 w 1 rcs payload r.bits r.check in (
      rw (← w-read, at, ← check) (ack_always-all1 bytes one-read long),
      rw at
          (head-payload bytes 1 1 w 1 rcs payload r.bits),
    )
ack_always-spelled (form.Ack w c bitmap) payload bytes h = absurd h
ack_always-spelled (form.AckReq w) payload bytes (r, one) =
    let zero-read : number_in 1 1 bytes ≡ 0 =
    head-fcn bytes 1 1 w 0 r.padding r.bits (omega arith) in
    let w-read : number_in 0 1 bytes ≡ w = head-w bytes 1 1 w 0 r.padding r.bits r.window in
    (rw (← w-read) (ack_always-request bytes zero-read one), r.no_payload)
ack_always-spelled form.SenderAbort payload bytes (r, one) =
    let one-read : number_in 1 1 bytes ≡ 1 =
    head-fcn bytes 1 1 1 1 r.padding r.bits (omega arith) in
    let w-read : number_in 0 1 bytes ≡ 1 = head-w bytes 1 1 1 1 r.padding r.bits (omega arith) in
    (ack_always-abort bytes w-read one-read one, r.no_payload)
ack_always-spelled form.ReceiverAbort payload bytes h = absurd h

-- the cause for which the bytes are no message is what is read
pub ack_always-refused : (fault : WireFault) (bytes : List ℕ) → IsAckAlwaysFault fault bytes
    → ack_always_reading bytes ≡ Err fault
ack_always-refused Empty bytes h = ack_always-empty bytes h
ack_always-refused TooShort bytes ((w, b), two, four) =
    ack_always-between bytes (head-fcn bytes 1 1 w 1 b.rest b.bits b.number) two four
ack_always-refused WrongForm bytes (b, one) =
    ack_always-wrong bytes (head-w bytes 1 1 0 1 b.rest b.bits b.window)
    (head-fcn bytes 1 1 0 1 b.rest b.bits b.number) one

-- what a reading of the bytes says
abbrev pub MeetsAckAlways : List ℕ → Result Message WireFault → Type 0
MeetsAckAlways bytes (Ok message) =
    SpellsAckAlways message (payload_in message (octets bytes)) bytes
MeetsAckAlways bytes (Err fault) = IsAckAlwaysFault fault bytes

met-at : (bytes : List ℕ) (read : Result Message WireFault) → ack_always_reading bytes ≡ read
    → MeetsAckAlways bytes read → MeetsAckAlways bytes (ack_always_reading bytes)
met-at bytes read e h = subst (MeetsAckAlways bytes) (sym e) h

-- what is read is what the bytes spell, or the cause for which they are no message
pub ack_always-met : (bytes : List ℕ) → MeetsAckAlways bytes (ack_always_reading bytes)
ack_always-met bytes =
    elim (cases_lt 0 (length bytes)) [
      | inr none ↦ met-at bytes (Err Empty) (ack_always-empty bytes (omega arith)) (omega arith)
      | inl some ↦
          let enough : 1 + 1 ≤ 8 * length bytes = omega arith in
          let w : ℕ = number_in 0 1 bytes in
          elim (cases_lt (number_in 1 1 bytes) 1) [
            | inl low ↦
                let z : number_in 1 1 bytes ≡ 0 = omega arith in
                elim (cases_lt (length bytes) 2) [
                  | inl short ↦
                      let one : length bytes ≡ 1 = omega arith in
                      met-at bytes (Ok (form.AckReq w)) (ack_always-request bytes z one)
                      (IsAckReq-read bytes 1 1 w enough refl (sym z), one)
                  | inr long ↦
                      met-at bytes (Ok (form.Regular w 0 2)) (ack_always-regular bytes z long)
                      (IsRegular-read bytes 1 1 w 0 enough refl (sym z) (omega arith), long)
                ]
            | inr high ↦
                let o : number_in 1 1 bytes ≡ 1 = omega (arith, number_in-below bytes 1 1 enough) in
                elim (cases_lt (length bytes) 2) [
                  | inl short ↦
                      let one : length bytes ≡ 1 = omega arith in
                      elim (cases_lt (number_in 0 1 bytes) 1) [
                        | inl clear ↦
                            let wz : number_in 0 1 bytes ≡ 0 = omega arith in
                            met-at bytes (Err WrongForm) (ack_always-wrong bytes wz o one)
                            (BeginsWith-read bytes 1 1 0 1 enough (sym wz) (sym o), one)
                        | inr set ↦
                            let wo : number_in 0 1 bytes ≡ 1 =
                            omega (arith, number_in-below bytes 0 1 (omega arith)) in
                            met-at bytes (Ok form.SenderAbort) (ack_always-abort bytes wo o one)
                            (IsSenderAbort-read bytes 1 1 enough (sym wo) (sym o), one)
                      ]
                  | inr two ↦
                      elim (cases_lt (length bytes) 5) [
                        | inl short ↦
                            let four : length bytes ≤ 4 = omega arith in
                            met-at bytes (Err TooShort) (ack_always-between bytes o two four)
                            ((w, BeginsWith-read bytes 1 1 w 1 enough refl (sym o)), two, four)
                        | inr long ↦
                            met-at bytes (Ok (form.All1 w (number_in 2 32 bytes) 34))
                            (ack_always-all1 bytes o long) (
                              IsAll1-read bytes 1 1 w (number_in 2 32 bytes) (omega arith) refl
                                  (sym o) refl,
                              long,
                            )
                      ]
                ]
          ]
    ]
