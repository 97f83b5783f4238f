use Rattle.schema.proofs.WalkLaws.{Going}
use Prim.Native.Nat.{◌-◌}
use Rattle.schema.proofs.walks.+walk.Given as goal

abbrev pub decreases-walk : goal.decreases-walk
decreases-walk l = l.end - l.start

abbrev pub invariant-loop-c : goal.invariant-loop-c
invariant-loop-c l = Going l.s l.kind l.depth l.start l.end l.seen l.c

abbrev pub decreases-loop-c : goal.decreases-loop-c
decreases-loop-c l = l.end - l.c.at
