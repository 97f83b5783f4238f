use Rattle.wire.proofs.QuickLaws.{skip_start, skip_more, skip_last, skip_tenth}
use Rattle.varint.specs.Bytes.{byte}
use Rattle.std.proofs.lemmas.Option.{IfSome_then}
use native.Mathlib.Omega.{arith}
use Rattle.wire.proofs.shorts.many_end.Goals as goal

pub loop-i-init : goal.loop-i-init
loop-i-init c = skip_start _ _ _ (omega arith)

pub returns-then-b-lt128 : goal.returns-then-b-lt128
unfolding byte
returns-then-b-lt128 c =
    IfSome_then c.end_of.result c.end_of.ensures
    (λ end q. skip_last c.loop-i.invariant c.wide-b.ensures.0 c.loop-i-test.true q.0 c.if-b-lt128.true q.1)

pub loop-i-preserved : goal.loop-i-preserved
unfolding byte
loop-i-preserved c = skip_more c.loop-i.invariant c.wide-b.ensures.0 c.loop-i-test.true c.if-b-lt128.false c.wide-b.ensures.1

pub returns : goal.returns
unfolding byte
returns c = skip_tenth c.loop-i.invariant c.loop-i-test.false c.wide.ensures.0 (omega arith) (omega arith)
