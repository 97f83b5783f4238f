use Prim.Native.Nat.{◌-◌}
use lib.ListN.{length}
use Rattle.walk_c.proofs.ExportLaws.{Counting}
use Rattle.walk_c.proofs.walk_c_varints.Given as goal

abbrev pub invariant-loop-v : goal.invariant-loop-v
invariant-loop-v l = Counting l.bytes l.at l.count

abbrev pub decreases-loop-v : goal.decreases-loop-v
decreases-loop-v l = length l.bytes - l.at
