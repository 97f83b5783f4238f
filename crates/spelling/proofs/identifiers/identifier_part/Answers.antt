use mathlib.Core.Path.{refl}
use Rattle.spelling.specs.ByteClass.{ByteClass-computes}
use Rattle.spelling.proofs.identifiers.identifier_part.Goals as goal

-- The test over the whole table, computed.
pub part_by-requires : goal.part_by-requires
unfolding ByteClass-computes
part_by-requires c = refl
