use Rattle.identities.specs.Identified.{holding}
use Rattle.identities.proofs.RecordLaws.{function_read}
use Rattle.identities.proofs.records.function_of.Goals as goal

pub returns : goal.returns
unfolding holding
returns c = function_read _ _ c.capacity.ensures.0 c.cell-start.ensures.0 c.cell.ensures.0
