use Rattle.identities.proofs.RecordLaws.{search_start, search_here, search_less, search_next, search_end, search_none}
use Rattle.std.proofs.Common.{rules}
use Rattle.identities.proofs.records.has_record.Goals as goal

pub returns-then-used-eq0 : goal.returns-then-used-eq0
returns-then-used-eq0 c = search_none _ _ _ _ _ c.if-used-eq0.true

pub loop-i-init : goal.loop-i-init
loop-i-init c =
    search_start c.requires c.capacity-size.ensures.0 _ _ _ c.bucket_of_three.ensures.0 c.bucket_of_three.ensures.1
    c.cell-i.ensures.0

pub returns-then-has_identity : goal.returns-then-has_identity
returns-then-has_identity c =
    search_here c.loop-i.invariant c.loop-i-test.true c.function_of-f.ensures c.has_identity.ensures c.if-has_identity.true

pub loop-i-smaller : goal.loop-i-smaller
loop-i-smaller c = search_less c.requires c.capacity-size.ensures.0 c.loop-i.invariant c.loop-i-test.true (search rules)

pub loop-i-preserved : goal.loop-i-preserved
loop-i-preserved c =
    search_next c.requires c.capacity-size.ensures.0 c.loop-i.invariant c.loop-i-test.true (search rules)
    c.function_of-f.ensures c.has_identity.ensures c.if-has_identity.false

pub returns : goal.returns
returns c = search_end c.loop-i.invariant c.loop-i-test.false
