use Rattle.operators.proofs.EntryLaws.{highest_is}
use Rattle.operators.proofs.lists.highest.Goals as goal

pub returns : goal.returns
returns c = highest_is _ _ _ c.domain_size.ensures.0 _ c.four.ensures.0
