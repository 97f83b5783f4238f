use Rattle.varint.proofs.SliceLaws.{part_cut}
use Rattle.varint.proofs.slices.between.Goals as goal

pub returns : goal.returns
returns c = part_cut _ _ _ _ _ c.min-last.ensures c.min-first.ensures
