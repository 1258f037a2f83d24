use Rattle.std.proofs.Common.{arith, ◌-◌, ◌%◌}
use Rattle.schc_bits.proofs.WordBits.{put-none, put-new, put-within, put-across}
use Rattle.schc_bits.proofs.words.put_bits.Goals as goal

pub returns-then-count-eq0-clause-ok : goal.returns-then-count-eq0-clause-ok
returns-then-count-eq0-clause-ok c = put-none _ _ _ _ c.if-count-eq0.true

pub returns-then-used-eq0-clause-filled : goal.returns-then-used-eq0-clause-filled
returns-then-used-eq0-clause-filled c =
    rw c.in_ok-push.ensures.items
    (put-new _ _ c.args.value _ c.requires.filled c.if-used-eq0.true (omega arith)
    c.requires.width).0

pub returns-then-used-eq0-clause-ok : goal.returns-then-used-eq0-clause-ok
returns-then-used-eq0-clause-ok c =
    rw c.in_ok-push.ensures.items
    (put-new _ _ c.args.value _ c.requires.filled c.if-used-eq0.true (omega arith)
    c.requires.width).1

pub returns-then-count-room-clause-filled : goal.returns-then-count-room-clause-filled
returns-then-count-room-clause-filled c =
    rw c.join.ensures
    (put-within _ _ c.args.value _ _ c.requires.filled (omega arith) (omega arith)
    c.if-count-room.true c.requires.fits).0

pub returns-then-count-room-clause-ok : goal.returns-then-count-room-clause-ok
returns-then-count-room-clause-ok c =
    rw c.join.ensures
    (put-within _ _ c.args.value _ _ c.requires.filled (omega arith) (omega arith)
    c.if-count-room.true c.requires.fits).1

pub returns-clause-filled : goal.returns-clause-filled
returns-clause-filled c =
    rw (c.join-2.ensures, c.in_ok-push-2.ensures.items)
    (put-across _ _ c.args.value c.args.count (64 - c.args.filled % 64)
    (c.args.count - (64 - c.args.filled % 64)) c.requires.filled (omega arith) (omega arith)
    (omega arith) (omega arith) c.requires.width c.requires.fits).0

pub returns-clause-ok : goal.returns-clause-ok
returns-clause-ok c =
    rw (c.join-2.ensures, c.in_ok-push-2.ensures.items)
    (put-across _ _ c.args.value c.args.count (64 - c.args.filled % 64)
    (c.args.count - (64 - c.args.filled % 64)) c.requires.filled (omega arith) (omega arith)
    (omega arith) (omega arith) c.requires.width c.requires.fits).1
