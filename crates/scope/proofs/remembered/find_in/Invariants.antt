use Prim.Native.Nat.{◌≤◌}
use Rattle.std.specs.Prelude.{min}
use Rattle.scope.proofs.ScopeLaws.{Searching}
use Rattle.scope.proofs.remembered.find_in.Given as goal

abbrev pub invariant-loop-i : goal.invariant-loop-i
invariant-loop-i l = record {
  searching : Searching l.model l.cells l.used l.name l.i;
  below : l.i ≤ l.used;
  above : min l.kept l.used ≤ l.i;
}
