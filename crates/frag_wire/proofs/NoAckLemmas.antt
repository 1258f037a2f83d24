-- Reading No-ACK from the first byte on gives what the bytes spell.
use Rattle.std.specs.Prelude.{ℕ, ◌≡◌, ◌+◌, ◌*◌, ◌≤◌, Bool, List, ◌++◌, length, Result, Ok, Err}
use Rattle.std.proofs.Common.{arith, refl, sym, subst, ◌∙◌, inl, inr}
use Rattle.std.proofs.lemmas.Bool.{cases_lt}
use Rattle.schc_bits.specs.Bits.{octets}
use Rattle.schc_ids.specs.declared.faults.WireFault.{WireFault}
use Rattle.schc_ids.specs.declared.faults.WireFault.TheVariants.{Empty, TooShort, WrongForm}
use Rattle.frag_wire.specs.declared.message.Message.{Message}
use Rattle.frag_wire.specs.declared.message.Message.TheVariants as form
use Rattle.frag_wire.specs.Fields.{number_in}
use Rattle.std.proofs.lemmas.List.{append_assoc}
use Rattle.schc_bits.specs.Bits.{number_bits}
use Rattle.frag_wire.specs.Forms.{fragment_head}
use Rattle.frag_wire.specs.Layouts.{payload_in}
use Rattle.frag_wire.specs.NoAck.{SpellsNoAck, IsNoAckFault, no_ack_reading}
use Rattle.frag_wire.proofs.FieldsLemmas.{number_in-below}
use Rattle.frag_wire.proofs.FormsLemmas.{number_in-none, head-fcn, head-rest, head-rcs}
use Rattle.frag_wire.proofs.FormsLemmas.{head-payload, IsRegular-read, IsAll1-read, BeginsWith-read}
use Rattle.frag_wire.proofs.FormsLemmas.{IsSenderAbort-read}

pub no_ack-empty : (bytes : List ℕ) → length bytes ≡ 0 → no_ack_reading bytes ≡ Err Empty
unfolding no_ack_reading
no_ack-empty bytes h = grind arith

pub no_ack-regular : (bytes : List ℕ) → number_in 0 1 bytes ≡ 0 → 2 ≤ length bytes
    → no_ack_reading bytes ≡ Ok (form.Regular 0 0 1)
unfolding no_ack_reading
no_ack-regular bytes z h = grind arith

pub no_ack-short : (bytes : List ℕ) → number_in 0 1 bytes ≡ 0 → length bytes ≡ 1
    → no_ack_reading bytes ≡ Err TooShort
unfolding no_ack_reading
no_ack-short bytes z h = grind arith

pub no_ack-abort : (bytes : List ℕ) → number_in 0 1 bytes ≡ 1 → length bytes ≡ 1
    → no_ack_reading bytes ≡ Ok form.SenderAbort
unfolding no_ack_reading
no_ack-abort bytes z h = grind arith

pub no_ack-all1 : (bytes : List ℕ) → number_in 0 1 bytes ≡ 1 → 5 ≤ length bytes
    → no_ack_reading bytes ≡ Ok (form.All1 0 (number_in 1 32 bytes) 33)
unfolding no_ack_reading
no_ack-all1 bytes z h = grind arith

pub no_ack-between : (bytes : List ℕ) → number_in 0 1 bytes ≡ 1 → 2 ≤ length bytes
    → length bytes ≤ 4 → no_ack_reading bytes ≡ Err TooShort
unfolding no_ack_reading
no_ack-between bytes z h k = grind arith

-- what the bytes spell is what is read, and its payload is what stands from its place on
pub no_ack-spelled : (message : Message) (payload : List Bool) (bytes : List ℕ)
    → SpellsNoAck message payload bytes → (no_ack_reading bytes ≡ Ok message)
    × (payload ≡ payload_in message (octets bytes))
no_ack-spelled (form.Regular w fcn from) payload bytes (r, long) =
    let fcn-none : fcn ≡ 0 = omega (arith, r.number) in
    let w-none : w ≡ 0 = omega (arith, r.window) in
    let at : from ≡ 1 = r.place in
    let zero-read : number_in 0 1 bytes ≡ 0 = head-fcn bytes 0 1 w fcn payload r.bits (omega arith)
    ∙ fcn-none in (
      rw (w-none, fcn-none, at) (no_ack-regular bytes zero-read long),
      rw at
          (head-rest bytes 0 1 w fcn payload r.bits),
    )
no_ack-spelled (form.All1 w rcs from) payload bytes (r, long) =
    let w-none : w ≡ 0 = omega (arith, r.window) in
    let at : from ≡ 33 = r.place in
    let one-read : number_in 0 1 bytes ≡ 1 =
    head-fcn bytes 0 1 w 1 (number_bits 32 rcs ++ payload)
    (r.bits ∙ append_assoc (fragment_head 0 1 w 1) (number_bits 32 rcs) payload) (omega arith)
    in
    let check : number_in 1 32 bytes ≡ rcs = head-rcs bytes 0 1 w 1 rcs payload r.bits r.check in (
      rw (w-none, at, ← check) (no_ack-all1 bytes one-read long),
      rw at
          (head-payload bytes 0 1 w 1 rcs payload r.bits),
    )
no_ack-spelled (form.Ack w c bitmap) payload bytes h = absurd h
no_ack-spelled (form.AckReq w) payload bytes h = absurd h
no_ack-spelled form.SenderAbort payload bytes (r, one) =
    let one-read : number_in 0 1 bytes ≡ 1 =
    head-fcn bytes 0 1 0 1 r.padding r.bits (omega arith) in
    (no_ack-abort bytes one-read one, r.no_payload)
no_ack-spelled form.ReceiverAbort payload bytes h = absurd h

-- the cause for which the bytes are no message is what is read
pub no_ack-refused : (fault : WireFault) (bytes : List ℕ) → IsNoAckFault fault bytes
    → no_ack_reading bytes ≡ Err fault
no_ack-refused Empty bytes h = no_ack-empty bytes h
no_ack-refused TooShort bytes (inl (b, one)) =
    no_ack-short bytes (head-fcn bytes 0 1 0 0 b.rest b.bits b.number) one
no_ack-refused TooShort bytes (inr (b, two, four)) =
    no_ack-between bytes (head-fcn bytes 0 1 0 1 b.rest b.bits b.number) two four
no_ack-refused WrongForm bytes h = absurd h

-- what a reading of the bytes says
abbrev pub MeetsNoAck : List ℕ → Result Message WireFault → Type 0
MeetsNoAck bytes (Ok message) = SpellsNoAck message (payload_in message (octets bytes)) bytes
MeetsNoAck bytes (Err fault) = IsNoAckFault fault bytes

no_ack-met-at : (bytes : List ℕ) (read : Result Message WireFault) → no_ack_reading bytes ≡ read
    → MeetsNoAck bytes read → MeetsNoAck bytes (no_ack_reading bytes)
no_ack-met-at bytes read e h = subst (MeetsNoAck bytes) (sym e) h

-- what is read is what the bytes spell, or the cause for which they are no message
pub no_ack-met : (bytes : List ℕ) → MeetsNoAck bytes (no_ack_reading bytes)
no_ack-met bytes =
    elim (cases_lt 0 (length bytes)) [
      | inr none ↦ no_ack-met-at bytes (Err Empty) (no_ack-empty bytes (omega arith)) (omega arith)
      | inl some ↦
          let enough : 0 + 1 ≤ 8 * length bytes = omega arith in
          let none-read : 0 ≡ number_in 0 0 bytes = sym (number_in-none bytes) in
          elim (cases_lt (number_in 0 1 bytes) 1) [
            | inl low ↦
                let z : number_in 0 1 bytes ≡ 0 = omega arith in
                elim (cases_lt (length bytes) 2) [
                  | inl short ↦
                      let one : length bytes ≡ 1 = omega arith in
                      no_ack-met-at bytes (Err TooShort) (no_ack-short bytes z one)
                      (inl (BeginsWith-read bytes 0 1 0 0 enough none-read (sym z), one))
                  | inr long ↦
                      no_ack-met-at bytes (Ok (form.Regular 0 0 1)) (no_ack-regular bytes z long) (
                        IsRegular-read bytes 0 1 0 0 enough none-read (sym z) (omega arith),
                        long,
                      )
                ]
            | inr high ↦
                let o : number_in 0 1 bytes ≡ 1 = omega (arith, number_in-below bytes 0 1 enough) in
                elim (cases_lt (length bytes) 2) [
                  | inl short ↦
                      let one : length bytes ≡ 1 = omega arith in
                      no_ack-met-at bytes (Ok form.SenderAbort) (no_ack-abort bytes o one)
                      (IsSenderAbort-read bytes 0 1 enough none-read (sym o), one)
                  | inr two ↦
                      elim (cases_lt (length bytes) 5) [
                        | inl short ↦
                            let four : length bytes ≤ 4 = omega arith in
                            no_ack-met-at bytes (Err TooShort) (no_ack-between bytes o two four)
                            (inr (
                              BeginsWith-read bytes 0 1 0 1 enough none-read (sym o),
                              two,
                              four,
                            ))
                        | inr long ↦
                            no_ack-met-at bytes (Ok (form.All1 0 (number_in 1 32 bytes) 33))
                            (no_ack-all1 bytes o long) (
                              IsAll1-read bytes 0 1 0 (number_in 1 32 bytes) (omega arith)
                                  none-read (sym o) refl,
                              long,
                            )
                      ]
                ]
          ]
    ]
