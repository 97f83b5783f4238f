use Rattle.operators.proofs.EntryLaws.{domain_is}
use Rattle.operators.proofs.lists.domain_of.Goals as goal

pub returns : goal.returns
returns c = domain_is _ _ _ c.domain_size.ensures.0 _ _ c.between.ensures c.canonical.ensures
