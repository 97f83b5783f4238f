use Rattle.headers.proofs.EarlierLaws.{search_start, search_done, search_past, search_here, search_next, search_falls}
use Rattle.headers.proofs.earlier.any_before.Goals as goal

pub loop-f-init : goal.loop-f-init
loop-f-init g c = search_start _ _ _ _ _

pub returns : goal.returns
returns g c = search_done c.loop-f.invariant c.next_of.ensures c.in_default.is

pub returns-then-place-f : goal.returns-then-place-f
returns-then-place-f g c = search_past c.loop-f.invariant c.next_of.ensures c.in-Some.is c.if-place-f.true

pub returns-then-test : goal.returns-then-test
returns-then-test g c = search_here c.loop-f.invariant c.next_of.ensures c.in-Some.is c.if-place-f.false c.test.ensures c.if-test.true

pub loop-f-smaller : goal.loop-f-smaller
loop-f-smaller g c = search_falls c.loop-f.invariant c.next_of.ensures c.in-Some.is

pub loop-f-preserved : goal.loop-f-preserved
loop-f-preserved g c = search_next c.loop-f.invariant c.next_of.ensures c.in-Some.is c.if-place-f.false c.test.ensures c.if-test.false
