use native.Mathlib.Omega.{arith}
use mathlib.Core.Path.{refl}
use Rattle.wire.proofs.Along.{found_onward}
use Rattle.schema.specs.Numbers.{Model-functions}
use Rattle.second_walk.proofs.LoopLaws.{onward_fits}
use Rattle.second_walk.proofs.tables.table_at.Goals as goal

pub loop-f-init : goal.loop-f-init
loop-f-init c = (c.requires, omega arith, refl)

pub overflow_sub-f : goal.overflow_sub-f
overflow_sub-f c = (onward_fits (found_onward _ Model-functions _ c.loop-f.invariant.2 c.next_of.ensures c.in-Some.is)).2

pub loop-f-smaller : goal.loop-f-smaller
loop-f-smaller c =
    let o = found_onward _ Model-functions _ c.loop-f.invariant.2 c.next_of.ensures c.in-Some.is in
    let far = o.onward in
    let near = o.inside in
    omega arith

pub loop-f-preserved : goal.loop-f-preserved
loop-f-preserved c =
    let o = found_onward _ Model-functions _ c.loop-f.invariant.2 c.next_of.ensures c.in-Some.is in
    (omega arith, omega arith, o.ends)
