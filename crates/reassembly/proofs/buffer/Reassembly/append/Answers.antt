use Rattle.std.proofs.Common.{◌%◌, ◌++◌, drop, arith, ap, ◌∙◌}
use Rattle.schc_bits.specs.Bits.{octets}
use Rattle.reassembly.proofs.KeptLemmas.{tail-bits, room-for-byte, byte-kept, room-kept}
use Rattle.reassembly.proofs.buffer.Reassembly.append.Goals as goal

pub loop-byte-init : goal.loop-byte-init
loop-byte-init c = (
  ap (λ bits. c.args.self.now ++ bits)
      (ap (λ bytes. drop (c.args.from % 8) (octets bytes)) c.split_at.ensures.back
      ∙ tail-bits c.args.from c.args.bytes.now),
  omega arith,
)

pub put_byte-requires-clause-room : goal.put_byte-requires-clause-room
put_byte-requires-clause-room c =
    room-for-byte c.args.self.now c.loop-byte.self (drop c.args.from (octets c.args.bytes.now))
    c.loop-byte.first c.in-Some.byte.now c.loop-byte.rest.now c.in-Some.later.now
    c.loop-byte.invariant.1 c.in-Some.ensures.cases.0 c.loop-byte.invariant.0 c.requires.room

pub loop-byte-preserved : goal.loop-byte-preserved
loop-byte-preserved c = (
  byte-kept (c.args.self.now ++ drop c.args.from (octets c.args.bytes.now)) c.loop-byte.self
      c.put_byte.new.self c.loop-byte.first c.in-Some.byte.now c.loop-byte.rest.now
      c.in-Some.later.now
      c.loop-byte.invariant.1 c.in-Some.ensures.cases.0 c.loop-byte.invariant.0 c.put_byte.ensures,
  omega arith,
)

pub returns-clause-most : goal.returns-clause-most
returns-clause-most c =
    room-kept c.args.self.now c.loop-byte.self (drop c.args.from (octets c.args.bytes.now))
    (drop c.loop-byte.first (octets c.loop-byte.rest.now)) c.loop-byte.invariant.0
    c.requires.room
