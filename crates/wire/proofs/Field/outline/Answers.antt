use mathlib.Core.Path.{ap}
use Rattle.wire.specs.Answers.{contents_of}
use Rattle.wire.specs.declared.Cursor.{Cursor}
use Rattle.wire.proofs.OutlineLaws.{marks_start, marks_end, marks_stop, marks_falls, marks_next}
use Rattle.wire.proofs.Field.outline.Goals as goal

pub loop-here-init : goal.loop-here-init
unfolding contents_of
loop-here-init c = marks_start _ _ _ _ _ _ _ _ (ap (λ (x : Cursor). x.end) c.contents-here.ensures)

pub returns : goal.returns
returns c = marks_end _ c.loop-here.invariant c.contents-here.ensures c.loop-here-test.false

pub returns-in_default : goal.returns-in_default
returns-in_default c =
    marks_stop _ c.loop-here.invariant c.contents-here.ensures c.loop-here-test.true c.field.ensures c.in_default.is

pub loop-here-smaller : goal.loop-here-smaller
loop-here-smaller c = marks_falls c.loop-here.invariant c.loop-here-test.true c.field.ensures c.in-Ok.is

pub loop-here-preserved : goal.loop-here-preserved
loop-here-preserved c =
    marks_next c.loop-here.invariant c.loop-here-test.true c.field.ensures c.in-Ok.is c.mark.ensures
    c.mark-in-loop-here.ensures
    c.mark-in-loop-here-2.ensures c.mark-in-loop-here-3.ensures c.mark-in-loop-here-4.ensures c.mark-in-loop-here-5.ensures
