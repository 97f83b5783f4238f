use mathlib.Core.Path.{◌∙◌}
use Rattle.values.proofs.CarrierLaws.{look_all, look_start, look_done, look_stop, look_here, look_next, look_falls}
use Rattle.values.proofs.carriers.has_foreign.Goals as goal

pub loop-c-init : goal.loop-c-init
loop-c-init c = look_start _ _ _

pub returns : goal.returns
returns c = look_done c.loop-c.invariant c.loop-c-test.false ∙ look_all _ _ _ c.contents-c.ensures

pub returns-in_default : goal.returns-in_default
returns-in_default c =
    look_stop c.loop-c.invariant c.loop-c-test.true c.field.ensures c.in_default.is ∙ look_all _ _ _ c.contents-c.ensures

pub returns-then-is_foreign : goal.returns-then-is_foreign
returns-then-is_foreign c =
    look_here c.loop-c.invariant c.loop-c-test.true c.field.ensures c.in-Ok.is c.is_foreign.ensures c.if-is_foreign.true
    ∙ look_all _ _ _ c.contents-c.ensures

pub loop-c-smaller : goal.loop-c-smaller
loop-c-smaller c = look_falls c.loop-c.invariant c.loop-c-test.true c.field.ensures c.in-Ok.is

pub loop-c-preserved : goal.loop-c-preserved
loop-c-preserved c =
    look_next c.loop-c.invariant c.loop-c-test.true c.field.ensures c.in-Ok.is c.is_foreign.ensures c.if-is_foreign.false
