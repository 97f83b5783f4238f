use Rattle.varint.specs.Answers.{option_of}
use Rattle.operators.proofs.SearchLaws.{seek_start, seek_end, seek_here, seek_next}
use Rattle.operators.proofs.lists.entry_of.Goals as goal

pub loop-at-init : goal.loop-at-init
loop-at-init c = seek_start _ _ _

pub returns-then-same_bytes : goal.returns-then-same_bytes
unfolding option_of
returns-then-same_bytes c =
    seek_here c.loop-at.invariant c.loop-at-test.true _ c.domain_of.ensures _ c.same_bytes.ensures c.if-same_bytes.true

pub loop-at-preserved : goal.loop-at-preserved
loop-at-preserved c =
    seek_next c.loop-at.invariant c.loop-at-test.true _ c.domain_of.ensures _ c.same_bytes.ensures c.if-same_bytes.false _
    c.after-at.ensures.0

pub returns : goal.returns
unfolding option_of
returns c = seek_end c.loop-at.invariant c.loop-at-test.false
