use Rattle.index.proofs.MemoryLaws.{remember_none, remember_far, remember_here, lent_index, lent_replaced}
use native.Mathlib.Omega.{arith}
use Rattle.index.proofs.memories.remember.Goals as goal

pub returns-then-cells-eq0 : goal.returns-then-cells-eq0
returns-then-cells-eq0 c = remember_none _ c.if-cells-eq0.true

pub returns-then-used-place : goal.returns-then-used-place
returns-then-used-place c = remember_far _ (omega (arith, c.if-used-place.true, c.known-used.ensures.0))

pub replace-left-requires : goal.replace-left-requires
replace-left-requires c = (lent_index _ _ _ c.requires c.known-used.ensures.0, omega (arith, c.if-used-place.false))

pub returns : goal.returns
returns c =
    remember_here _ _ (omega (arith, c.if-cells-eq0.false)) (omega (arith, c.if-used-place.false, c.known-used.ensures.0))
    (lent_replaced _ c.replace-left.ensures)
