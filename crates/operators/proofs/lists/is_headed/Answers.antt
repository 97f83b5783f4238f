use Rattle.operators.proofs.EntryLaws.{head_short, head_count, head_version}
use Rattle.operators.proofs.lists.is_headed.Goals as goal

pub returns-then-list-lt5 : goal.returns-then-list-lt5
returns-then-list-lt5 c = head_short _ c.if-list-lt5.true

pub returns-then-count-list : goal.returns-then-count-list
returns-then-count-list c = head_count _ c.if-list-lt5.false _ c.four-count.ensures.0 c.if-count-list.true

pub returns : goal.returns
returns c = head_version _ c.if-list-lt5.false _ c.four-count.ensures.0 c.if-count-list.false _ c.byte_at.ensures.0
