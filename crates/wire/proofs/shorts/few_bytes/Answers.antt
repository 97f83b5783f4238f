use Rattle.wire.proofs.QuickLaws.{few_one, few_two, few_three}
use Rattle.varint.specs.Bytes.{byte}
use native.Mathlib.Omega.{arith}
use Rattle.wire.proofs.shorts.few_bytes.Goals as goal

pub returns-then-a-lt128 : goal.returns-then-a-lt128
unfolding byte
returns-then-a-lt128 c = few_one _ _ _ _ c.wide-a.ensures.0 (omega arith) (omega arith) c.if-a-lt128.true

pub returns-then-b-lt128 : goal.returns-then-b-lt128
unfolding byte
returns-then-b-lt128 c =
    let q = c.in_ok-next.ensures in
    few_two _ _ _ _ c.wide-a.ensures.0 c.if-a-lt128.false c.wide-a.ensures.1 _ c.wide-b.ensures.0 (omega arith) q.1 (omega arith)
    q.0 c.if-b-lt128.true

pub returns-then-c-lt128 : goal.returns-then-c-lt128
unfolding byte
returns-then-c-lt128 c =
    let q = c.in_ok-next-2.ensures in
    few_three _ _ _ _ c.wide-a.ensures.0 c.if-a-lt128.false c.wide-a.ensures.1 _ c.wide-b.ensures.0 c.if-b-lt128.false
    c.wide-b.ensures.1
    _ c.wide-c.ensures.0 (omega arith) q.1 (omega arith) q.0 c.if-c-lt128.true
