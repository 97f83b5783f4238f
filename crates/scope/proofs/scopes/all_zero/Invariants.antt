use mathlib.Core.Path.{◌≡◌}
use mathlib.Core.Bool.{true}
use lib.ListN.{take, replicate}
use Rattle.scope.proofs.scopes.all_zero.Given as goal

abbrev pub invariant-loop-cell : goal.invariant-loop-cell
invariant-loop-cell l = l.zero ≡ true → take l.cell-index l.cells ≡ replicate l.cell-index 0
