use Prim.Native.Nat.{◌-◌, ◌≤◌}
use mathlib.Core.Path.{◌≡◌}
use lib.ListN.{length}
use Rattle.second_walk.proofs.tables.table_at.Given as goal

abbrev pub invariant-loop-f : goal.invariant-loop-f
invariant-loop-f l = (l.split ≤ l.r) × (l.r ≤ l.size) × (l.c.end ≡ length l.model)

abbrev pub decreases-loop-f : goal.decreases-loop-f
decreases-loop-f l = length l.model - l.c.at
