use Rattle.index.proofs.StoreLaws.{popping_start, popping_next, popping_end}
use Rattle.index.proofs.tables.pop_to.Goals as goal

pub loop-i-init : goal.loop-i-init
loop-i-init c = popping_start c.requires.0 c.requires.1

pub loop-i-preserved : goal.loop-i-preserved
loop-i-preserved c =
    popping_next c.loop-i.invariant c.capacity-size.ensures.0 c.loop-i-test.true c.name_of.ensures c.bucket_of-head.ensures.0

pub shape_of-table : goal.shape_of-table
shape_of-table c = c.loop-i.invariant.stays.size

pub returns : goal.returns
returns c =
    let rest = popping_end c.loop-i.invariant c.loop-i-test.false in
    record { indexed = rest.0; stays = rest.1 }
