use Prim.Native.Nat.{◌-◌}
use mathlib.Core.Bool.{false}
use lib.ListN.{length}
use Rattle.varint.specs.Outcome.{each}
use Rattle.wire.proofs.Along.{all_from}
use Rattle.rules.specs.Node.{body}
use Rattle.rules.specs.Count.{names_in, node_names, attribute_names}
use Rattle.messages.specs.Around.{imports_of, attributes_of}
use Rattle.scope.specs.Scope.{walk_in}
use Rattle.scope.specs.Recall.{Minds, Minded}
use Rattle.cycle.proofs.CycleLaws.{Going}
use Rattle.cycle.proofs.AttributeLaws.{Nested}
use Rattle.schema.specs.Numbers.{Graph-node, Node-name, Node-attribute, Attribute-name}
use Rattle.rules.specs.Verdict.{fills}
use Rattle.messages.specs.Again.{node_again, attribute_again}
use Rattle.parts.proofs.ListsLaws.{Lists}
use Rattle.cycle.proofs.graphs.+attribute_graph_node.Given as goal

abbrev pub decreases-node : goal.decreases-node
decreases-node l = l.f.next - l.f.start

abbrev pub decreases-graph : goal.decreases-graph
decreases-graph l = l.f.next - l.f.start

abbrev pub decreases-attribute : goal.decreases-attribute
decreases-attribute l = l.f.next - l.f.start

abbrev pub invariant-attribute-loop-g : goal.invariant-attribute-loop-g
invariant-attribute-loop-g l =
    Going l.model l.number l.initial.c.end l.initial.c.at (names_in l.model l.left false)
    (λ size. body (Nested l.model l.left l.s size))
    (each (body (Nested l.model l.left l.s (length l.initial.cells))) (walk_in l.model l.initial.cells l.initial.q)
    (all_from l.model l.number l.initial.c.end l.initial.c.at)) l.initial.cells l.initial.q l.cells l.q l.c
    × Minds l.model (imports_of l.model l.s) (attributes_of l.model l.s) l.ix l.l.top l.cells l.extra × Minded l.model l.ix
    l.l.top l.cells l.initial.extra l.extra

abbrev pub decreases-attribute-loop-g : goal.decreases-attribute-loop-g
decreases-attribute-loop-g l = l.initial.c.end - l.c.at

abbrev pub invariant-graph-loop-n : goal.invariant-graph-loop-n
invariant-graph-loop-n l = Going l.model Graph-node l.f.next l.f.start (node_names l.model (names_in l.model (l.left - 1) false))
    (λ size. node_again l.model (fills size) (Nested l.model (l.left - 1) l.s size) l.s l.f)
    (each (node_again l.model (fills (length l.initial.cells)) (Nested l.model (l.left - 1) l.s (length l.initial.cells)) l.s l.f)
    (walk_in l.model l.initial.cells l.initial.q)
    (all_from l.model Graph-node l.f.next l.f.start)) l.initial.cells l.initial.q l.cells l.q l.c × Lists l.model l.ix l.top
    Graph-node Node-name l.f l.initial.extra l.cells l.extra l.l l.c
    × Minds l.model (imports_of l.model l.s) (attributes_of l.model l.s) l.ix l.top l.cells l.extra

abbrev pub decreases-graph-loop-n : goal.decreases-graph-loop-n
decreases-graph-loop-n l = l.f.next - l.c.at

abbrev pub invariant-node-loop-a : goal.invariant-node-loop-a
invariant-node-loop-a l =
    Going l.model Node-attribute l.f.next l.f.start (attribute_names l.model (names_in l.model l.left false))
    (λ size. attribute_again l.model (fills size) (Nested l.model l.left l.s size) l.s l.f)
    (each (attribute_again l.model (fills (length l.initial.cells)) (Nested l.model l.left l.s (length l.initial.cells)) l.s l.f)
    (walk_in l.model l.initial.cells l.initial.q)
    (all_from l.model Node-attribute l.f.next l.f.start)) l.initial.cells l.initial.q l.cells l.q l.c
    × Lists l.model l.ix l.initial.own.top Node-attribute Attribute-name l.f l.initial.extra l.cells l.extra l.own l.c × Minds
    l.model (imports_of l.model l.s) (attributes_of l.model l.s) l.ix l.initial.own.top l.cells l.extra

abbrev pub decreases-node-loop-a : goal.decreases-node-loop-a
decreases-node-loop-a l = l.f.next - l.c.at
