use Prim.Native.Nat.{◌-◌}
use Rattle.headers.specs.Earlier.{before_from, AnySays}
use Rattle.headers.proofs.EarlierLaws.{Searching}
use Rattle.headers.proofs.earlier.any_before.Given as goal

abbrev pub invariant-loop-f : goal.invariant-loop-f
invariant-loop-f g l = Searching l.model l.number l.initial.c.end l.place (goal.F-post g l.test)
    (AnySays (goal.F-post g l.test) (before_from l.model l.number l.place l.initial.c)) l.c

abbrev pub decreases-loop-f : goal.decreases-loop-f
decreases-loop-f g l = l.initial.c.end - l.c.at
