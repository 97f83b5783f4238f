use Rattle.index.proofs.TableLaws.{name_read}
use Rattle.index.proofs.tables.name_of.Goals as goal

pub returns : goal.returns
returns c = name_read _ _ _ c.capacity.ensures.0 c.cell-start.ensures.0 c.cell.ensures.0 c.between.ensures
