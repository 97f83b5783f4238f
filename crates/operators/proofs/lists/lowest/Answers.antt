use Rattle.operators.proofs.EntryLaws.{lowest_is}
use Rattle.operators.proofs.lists.lowest.Goals as goal

pub returns : goal.returns
returns c = lowest_is _ _ _ c.domain_size.ensures.0 _ c.four.ensures.0
