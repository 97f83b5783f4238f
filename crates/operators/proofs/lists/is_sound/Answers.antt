use Rattle.operators.proofs.SearchLaws.{unheaded, judge_start, judge_end, judge_broken, judge_twice, judge_next}
use Rattle.operators.proofs.lists.is_sound.Goals as goal

pub returns-then-not-is_headed : goal.returns-then-not-is_headed
returns-then-not-is_headed c = unheaded _ _ c.is_headed.ensures c.if-not-is_headed.true

pub loop-at-init : goal.loop-at-init
loop-at-init c = judge_start _ _ c.is_headed.ensures c.if-not-is_headed.false

pub returns-then-not-is_well_formed : goal.returns-then-not-is_well_formed
returns-then-not-is_well_formed c =
    judge_broken c.loop-at.invariant c.loop-at-test.true _ c.is_well_formed.ensures c.if-not-is_well_formed.true

pub returns-then-is_some : goal.returns-then-is_some
returns-then-is_some c =
    judge_twice c.loop-at.invariant c.loop-at-test.true _ c.is_well_formed.ensures c.if-not-is_well_formed.false _
    c.after-next.ensures.0 _
    c.domain_of.ensures _ c.entry_of.ensures _ c.is_some.ensures c.if-is_some.true

pub loop-at-preserved : goal.loop-at-preserved
loop-at-preserved c =
    judge_next c.loop-at.invariant c.loop-at-test.true _ c.is_well_formed.ensures c.if-not-is_well_formed.false _
    c.after-next.ensures.0 _
    c.domain_of.ensures _ c.entry_of.ensures _ c.is_some.ensures c.if-is_some.false

pub returns : goal.returns
returns c = judge_end c.loop-at.invariant c.loop-at-test.false
