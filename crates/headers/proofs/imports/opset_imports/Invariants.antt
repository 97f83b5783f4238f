use Prim.Native.Nat.{◌-◌}
use Rattle.headers.proofs.ImportLaws.{Keeping}
use Rattle.headers.proofs.imports.opset_imports.Given as goal

abbrev pub invariant-loop-f : goal.invariant-loop-f
invariant-loop-f l = Keeping l.model l.list l.number l.m l.seed l.top l.initial.lists l.lists l.imports l.c

abbrev pub decreases-loop-f : goal.decreases-loop-f
decreases-loop-f l = l.m.next - l.c.at
