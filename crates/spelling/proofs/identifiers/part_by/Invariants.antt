use Prim.Native.Nat.{◌+◌}
use Rattle.spelling.proofs.IdentifierLaws.{Part}
use Rattle.spelling.proofs.identifiers.part_by.Given as goal

abbrev pub invariant-loop-i : goal.invariant-loop-i
invariant-loop-i l = Part l.name (l.i + 1)
