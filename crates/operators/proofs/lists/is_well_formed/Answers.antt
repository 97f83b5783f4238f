use Rattle.operators.proofs.EntryLaws.{rest_short, past_end, lowest_zero, versions_order}
use Rattle.operators.proofs.lists.is_well_formed.Goals as goal

pub returns-then-two-lt8 : goal.returns-then-two-lt8
returns-then-two-lt8 c = rest_short _ _ _ c.two.ensures.0 c.if-two-lt8.true

pub returns-then-list-after : goal.returns-then-list-after
returns-then-list-after c = past_end _ _ _ c.two.ensures.0 c.if-two-lt8.false _ c.after.ensures.0 c.if-list-after.true

pub returns-then-low-lt1 : goal.returns-then-low-lt1
returns-then-low-lt1 c =
    lowest_zero _ _ _ c.two.ensures.0 c.if-two-lt8.false _ c.after.ensures.0 c.if-list-after.false _ c.lowest-low.ensures
    c.if-low-lt1.true

pub returns : goal.returns
returns c =
    versions_order _ _ _ c.two.ensures.0 c.if-two-lt8.false _ c.after.ensures.0 c.if-list-after.false _ c.lowest-low.ensures
    c.if-low-lt1.false _ c.highest.ensures
