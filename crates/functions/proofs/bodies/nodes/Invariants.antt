use Prim.Native.Nat.{◌-◌}
use mathlib.Core.Bool.{false}
use lib.ListN.{length}
use Rattle.varint.specs.Outcome.{each}
use Rattle.wire.proofs.Along.{all_from}
use Rattle.schema.specs.Numbers.{Function-node, Node-name}
use Rattle.rules.specs.Verdict.{fills}
use Rattle.rules.specs.Count.{node_names, names_in}
use Rattle.scope.specs.Scope.{walk_in}
use Rattle.scope.specs.Recall.{Minds}
use Rattle.messages.specs.Around.{imports_of, attributes_of}
use Rattle.messages.specs.Again.{node_again}
use Rattle.parts.proofs.ListsLaws.{Lists}
use Rattle.cycle.proofs.CycleLaws.{Going}
use Rattle.cycle.proofs.AttributeLaws.{Nested}
use Rattle.functions.proofs.bodies.nodes.Given as goal

abbrev pub invariant-loop-n : goal.invariant-loop-n
invariant-loop-n l = Going l.model Function-node l.f.next l.f.start (node_names l.model (names_in l.model l.left false))
    (λ size. node_again l.model (fills size) (Nested l.model l.left l.s size) l.s l.f)
    (each (node_again l.model (fills (length l.initial.cells)) (Nested l.model l.left l.s (length l.initial.cells)) l.s l.f)
    (walk_in l.model l.initial.cells l.initial.q)
    (all_from l.model Function-node l.f.next l.f.start)) l.initial.cells l.initial.q l.cells l.q l.c
    × Lists l.model l.ix l.top Function-node Node-name l.f l.initial.extra l.cells l.extra l.l l.c × Minds l.model
    (imports_of l.model l.s) (attributes_of l.model l.s) l.ix l.top l.cells l.extra

abbrev pub decreases-loop-n : goal.decreases-loop-n
decreases-loop-n l = l.f.next - l.c.at
