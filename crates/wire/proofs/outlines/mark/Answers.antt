use Rattle.wire.proofs.OutlineLaws.{marked_set, marked_here, marked_not}
use Rattle.wire.proofs.outlines.mark.Goals as goal

pub returns-then-met-end : goal.returns-then-met-end
returns-then-met-end c = marked_set _ _ _ _ _ c.if-met-end.true

pub returns-then-wanted-number : goal.returns-then-wanted-number
returns-then-wanted-number c = marked_here _ _ _ _ _ c.if-met-end.false c.if-wanted-number.true

pub returns : goal.returns
returns c = marked_not _ _ _ _ _ c.if-met-end.false c.if-wanted-number.false
