use Rattle.std.proofs.Common.{arith, ◌≡◌, ◌-◌, min, length}
use Rattle.schc_bits.proofs.WordBytes.{byte-more, bytes-done}
use Rattle.schc_bits.proofs.part.Part.put_bytes.Goals as goal

pub loop-place-preserved : goal.loop-place-preserved
loop-place-preserved c =
    let step : c.min-step.result ≡ min (length c.args.self.now - c.loop-place.place) 8 =
    omega (arith, c.min-step.ensures, c.len-in-loop-place.ensures) in (
      rw c.in_ok-push.ensures.ok
          (byte-more _ _ _ _ _ _ (omega (arith, c.loop-place-test.true, c.len.ensures)) step
          c.byte_at.ensures c.loop-place.invariant.0),
      omega (arith, step, c.loop-place-test.true, c.len.ensures),
    )

pub returns : goal.returns
returns c =
    bytes-done _ _ c.args.self.now c.loop-place.place
    (omega (arith, c.loop-place-test.false, c.len.ensures)) c.loop-place.invariant.0
