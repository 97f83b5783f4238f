use mathlib.Core.Path.{sym, ◌∙◌, refl}
use Rattle.varint.proofs.Answers.{passed_on}
use Rattle.scope.proofs.StepLaws.{refused_says, refused_grows, refused_counts}
use Rattle.varint.proofs.Lists.{true_T}
use Rattle.wire.specs.Answers.{contents_of}
use Rattle.scope.proofs.RecallLaws.{minded_none, minded_then, minds_still, minded_fewer, minds_higher, minded_recalled}
use Rattle.schema.proofs.Opened.{attribute_body, graph_node, node_attribute}
use Rattle.cycle.proofs.CycleLaws.{enters_low, own_contents, going_start, going_falls, going_enters, going_shorter, going_countable, going_goes}
use Rattle.cycle.proofs.PromiseLaws.{promised_and, enters_first}
use Rattle.cycle.proofs.AttributeLaws.{inner_judged, inner_countable, inner_minds, inner_nodes, attribute_fits, attribute_stops, attribute_first, attribute_carried, attribute_plain, bodies_countable, bodies_done, bodies_stop, bodies_go}
use native.Mathlib.Omega.{arith}
use Rattle.scope.proofs.ScopeLaws.{keeps_all}
use Rattle.parts.proofs.ListsLaws.{lists_start, lists_fits, lists_found, lists_next, lists_minds}
use Rattle.cycle.proofs.GraphLaws.{opening_countable, outputs_room, nodes_countable, outputs_fit, nodes_count, graph_deep, graph_unopened, first_low, nodes_stop, nodes_done}
use Rattle.cycle.proofs.NodeLaws.{node_inputs_room, node_fits, node_stops, node_first, attributes_countable, closing_countable, attributes_count, attributes_stop, attributes_done, node_low}
use Rattle.cycle.proofs.graphs.+attribute_graph_node.Goals as goal

pub attribute-attribute_head-requires : goal.attribute-attribute_head-requires
attribute-attribute_head-requires t c = record {
  split_in_bounds = c.requires.minds.recalls.both.fits;
  listed = c.requires.minds.resolved;
  listed_2 = c.requires.listed;
}

pub attribute-counting-requires : goal.attribute-counting-requires
attribute-counting-requires t c = attribute_fits _ _ _ _ _ _ _ c.attribute_head.ensures c.requires.countable

pub attribute-returns-in_err-first : goal.attribute-returns-in_err-first
attribute-returns-in_err-first t c =
    rw (passed_on _ c.in_err-first.was c.from_residual.ensures.1) (
    let rest = promised_and (attribute_stops _ _ _ _ _ _ _ _ c.attribute_head.ensures c.counting.ensures c.in_err-first.was)
    (minded_none c.requires.minds.recalls c.requires.minds.fits) in
    record { answer = rest.0; grown = rest.1.0; counts = rest.1.1.0; kept = rest.1.1.1.0; memory = rest.1.1.1.1 }
    )

pub attribute-returns-in_default : goal.attribute-returns-in_default
attribute-returns-in_default t c =
    absurd (attribute_carried c.args.model.now c.args.left c.args.s c.args.n c.args.cells.now c.args.p c.args.f _
    c.attribute_head.ensures c.counting.ensures c.in_ok-first.was c.number_of.ensures c.carrier_of.ensures c.in_default.is)

pub attribute-returns-then-not-is_body : goal.attribute-returns-then-not-is_body
attribute-returns-then-not-is_body t c =
    let rest = promised_and (attribute_plain _ _ _ _ _ _ _ _ c.attribute_head.ensures c.counting.ensures c.in_ok-first.was
    c.number_of.ensures
    c.carrier_of.ensures c.in-Some.is c.is_body.ensures c.requires.enters c.if-not-is_body.true)
    (minded_none c.requires.minds.recalls c.requires.minds.fits) in
    record { answer = rest.0; grown = rest.1.0; counts = rest.1.1.0; kept = rest.1.1.1.0; memory = rest.1.1.1.1 }

pub attribute-loop-g-init : goal.attribute-loop-g-init
unfolding contents_of
attribute-loop-g-init t c =
    rw c.contents-c.ensures (
      going_start _ _ _ _ _ _ _ c.requires.enters.ends,
      c.requires.minds,
      minded_none c.requires.minds.recalls c.requires.minds.fits,
    )

pub attribute-returns : goal.attribute-returns
attribute-returns t c =
    let rest = promised_and (bodies_done _ _ _ _ _ _ _ _ c.attribute_head.ensures c.counting.ensures c.in_ok-first.was
    c.number_of.ensures
    c.carrier_of.ensures c.in-Some.is c.is_body.ensures c.if-not-is_body.false c.contents-c.ensures c.loop-g.invariant.0
    c.next_of.ensures c.requires.enters c.in_default-next_of.is) c.loop-g.invariant.2 in
    record { answer = rest.0; grown = rest.1.0; counts = rest.1.1.0; kept = rest.1.1.1.0; memory = rest.1.1.1.1 }

pub attribute-graph-requires : goal.attribute-graph-requires
unfolding contents_of
attribute-graph-requires t c =
    let g = rw c.contents-c.ensures at c.loop-g.invariant.0 in
    let first = attribute_first _ _ _ _ _ _ c.attribute_head.ensures c.counting.ensures c.in_ok-first.was in
    let room = bodies_countable _ _ c.args.s _ c.args.cells.now _ _ _ c.attribute_head.ensures c.counting.ensures
    c.in_ok-first.was c.number_of.ensures c.carrier_of.ensures c.in-Some.is c.is_body.ensures c.if-not-is_body.false
    c.requires.countable in (
      going_shorter g c.next_of.ensures c.in-Some-next_of.is c.decreases,
      (
        going_enters g c.next_of.ensures c.in-Some-next_of.is c.requires.enters.short c.requires.enters.walked
            (own_contents c.args.f) (attribute_body _ (true_T _ (sym c.is_body.ensures ∙ c.if-not-is_body.false)))
            (enters_low (enters_first {first = c.in_ok-first.first} first.0 first.1 c.requires.enters)),
        (
          inner_minds c.args.s c.nested.ensures _ c.loop-g.invariant.1,
          (
            inner_countable _ _ c.args.s c.nested.ensures _ _ (going_countable g c.next_of.ensures c.in-Some-next_of.is room),
            inner_nodes c.args.s c.nested.ensures,
          ),
        ),
      ),
    )

pub attribute-returns-in_err-inside : goal.attribute-returns-in_err-inside
attribute-returns-in_err-inside t c =
    rw (passed_on _ c.in_err-inside.was c.from_residual-in_err-inside.ensures.1) (
    let rest = promised_and (bodies_stop _ _ _ _ _ _ _ _ c.attribute_head.ensures c.counting.ensures c.in_ok-first.was
    c.number_of.ensures
    c.carrier_of.ensures c.in-Some.is c.is_body.ensures c.if-not-is_body.false c.contents-c.ensures c.loop-g.invariant.0
    c.next_of.ensures c.in-Some-next_of.is _ (inner_judged _ _ _ c.nested.ensures _ _ _ c.graph.ensures.answer)
    c.graph.ensures.grown c.graph.ensures.counts
    c.graph.ensures.kept c.in_err-inside.was) (minded_then c.loop-g.invariant.2 c.graph.ensures.memory) in
    record { answer = rest.0; grown = rest.1.0; counts = rest.1.1.0; kept = rest.1.1.1.0; memory = rest.1.1.1.1 }
    )

pub attribute-loop-g-smaller : goal.attribute-loop-g-smaller
attribute-loop-g-smaller t c = going_falls c.loop-g.invariant.0 c.next_of.ensures c.in-Some-next_of.is

pub attribute-loop-g-preserved : goal.attribute-loop-g-preserved
attribute-loop-g-preserved t c = (
  bodies_go _ _ _ _ _ _ _ _ c.attribute_head.ensures c.counting.ensures c.in_ok-first.was c.number_of.ensures
      c.carrier_of.ensures c.in-Some.is c.is_body.ensures c.if-not-is_body.false c.contents-c.ensures c.loop-g.invariant.0
      c.next_of.ensures
      c.in-Some-next_of.is _ (inner_judged _ _ _ c.nested.ensures _ _ _ c.graph.ensures.answer) c.graph.ensures.grown
      c.graph.ensures.counts c.graph.ensures.kept
      c.in_ok-inside.was c.leaving-q.ensures,
  minds_still c.loop-g.invariant.1 c.graph.ensures.memory,
  minded_then c.loop-g.invariant.2 c.graph.ensures.memory,
)

pub graph-returns-then-left-eq0 : goal.graph-returns-then-left-eq0
graph-returns-then-left-eq0 t c = record {
  answer = refused_says c.refused.ensures _ _ ∙ (let a = c.args in graph_deep _ _ a.s a.cells.now a.p a.f c.if-left-eq0.true);
  grown = refused_grows c.refused.ensures _;
  counts = refused_counts c.refused.ensures _ _;
  kept = keeps_all _ _;
  memory = minded_none c.requires.minds.recalls c.requires.minds.fits;
}

pub graph-opening-requires : goal.graph-opening-requires
graph-opening-requires t c =
    let room = opening_countable _ _ _ _ _ c.if-left-eq0.false c.requires.countable in
    record {
      model_len_bound = c.requires.enters.short;
      walked = c.requires.enters.walked;
      countable = room;
      recalling = c.requires.minds.recalls;
      top_bound = c.requires.minds.fits;
    }

pub graph-returns-in_err-first : goal.graph-returns-in_err-first
graph-returns-in_err-first t c =
    rw (passed_on _ c.in_err-first.was c.from_residual.ensures.1) (
    let rest = promised_and (graph_unopened _ _ _ _ _ _ c.if-left-eq0.false _ _ c.opening.ensures.answer
    c.opening.ensures.kept c.in_err-first.was)
    c.opening.ensures.memory in
    record { answer = rest.0; grown = rest.1.0; counts = rest.1.1.0; kept = rest.1.1.1.0; memory = rest.1.1.1.1 }
    )

pub graph-loop-n-init : goal.graph-loop-n-init
unfolding contents_of
graph-loop-n-init t c =
    rw c.contents-c.ensures (
      going_start _ _ _ _ _ _ _ c.requires.enters.ends,
      lists_start _ _ _ c.opening.ensures.memory.recalls c.opening.ensures.memory.held.fits _ refl,
      minds_still c.requires.minds c.opening.ensures.memory,
    )

pub graph-graph_outputs-requires : goal.graph-graph_outputs-requires
graph-graph_outputs-requires t c = record {
  recalling = c.loop-n.invariant.1.minded.recalls;
  graph_len_bound = outputs_room _ _ _ _ _ c.if-left-eq0.false c.requires.countable;
}

pub graph-counting-requires : goal.graph-counting-requires
graph-counting-requires t c =
    outputs_fit _ _ _ _ _ _ c.if-left-eq0.false _ _ c.opening.ensures.answer c.opening.ensures.kept c.in_ok-first.was
    c.opening.ensures.grown c.loop-n.invariant.0 _ c.graph_outputs.ensures c.requires.countable

pub graph-returns : goal.graph-returns
graph-returns t c =
    let rest = promised_and (nodes_done _ _ _ _ _ _ c.if-left-eq0.false _ _ c.opening.ensures.answer
    c.opening.ensures.kept c.in_ok-first.was
    c.opening.ensures.grown c.loop-n.invariant.0 c.next_of.ensures c.requires.enters c.in_default.is _
    c.graph_outputs.ensures c.counting.ensures)
    (minded_then c.opening.ensures.memory c.loop-n.invariant.1.minded) in
    record { answer = rest.0; grown = rest.1.0; counts = rest.1.1.0; kept = rest.1.1.1.0; memory = rest.1.1.1.1 }

pub graph-overflow_sub-left : goal.graph-overflow_sub-left
graph-overflow_sub-left t c = omega (arith, c.if-left-eq0.false)

pub graph-node-requires : goal.graph-node-requires
graph-node-requires t c =
    let room = nodes_countable _ _ _ _ _ _ c.if-left-eq0.false _ _ c.opening.ensures.answer c.opening.ensures.kept
    c.in_ok-first.was c.requires.countable in (
      going_shorter c.loop-n.invariant.0 c.next_of.ensures c.in-Some.is c.decreases,
      (
        going_enters c.loop-n.invariant.0 c.next_of.ensures c.in-Some.is c.requires.enters.short c.requires.enters.walked
            (own_contents _) graph_node (first_low _ _ _ _ _ _ c.if-left-eq0.false _ _ c.opening.ensures.answer
            c.opening.ensures.kept
            c.in_ok-first.was c.requires.enters),
        (
          minds_higher c.loop-n.invariant.2 c.loop-n.invariant.1.above (lists_fits c.loop-n.invariant.1),
          (
            rw c.requires.nodes_value (lists_found c.loop-n.invariant.1 c.next_of.ensures c.in-Some.is),
            going_countable c.loop-n.invariant.0 c.next_of.ensures c.in-Some.is room,
          ),
        ),
      ),
    )

pub graph-returns-in_err-further : goal.graph-returns-in_err-further
graph-returns-in_err-further t c =
    rw (passed_on _ c.in_err-further.was c.from_residual-in_err-further.ensures.1) (
    let rest = promised_and (nodes_stop _ _ _ _ _ _ c.if-left-eq0.false _ _ c.opening.ensures.answer
    c.opening.ensures.kept c.in_ok-first.was
    c.opening.ensures.grown c.loop-n.invariant.0 c.next_of.ensures c.in-Some.is _ c.node.ensures.answer
    c.node.ensures.grown c.node.ensures.kept c.in_err-further.was)
    (minded_then c.opening.ensures.memory
    (minded_then c.loop-n.invariant.1.minded (minded_fewer c.loop-n.invariant.1.above c.node.ensures.memory))) in
    record { answer = rest.0; grown = rest.1.0; counts = rest.1.1.0; kept = rest.1.1.1.0; memory = rest.1.1.1.1 }
    )

pub graph-list-l-requires : goal.graph-list-l-requires
graph-list-l-requires t c = record {
  remembering = c.node.ensures.memory.recalls.both;
  top_bound = c.node.ensures.memory.held.fits;
  model_len_bound = c.requires.enters.short;
}

pub graph-loop-n-smaller : goal.graph-loop-n-smaller
graph-loop-n-smaller t c = going_falls c.loop-n.invariant.0 c.next_of.ensures c.in-Some.is

pub graph-loop-n-preserved : goal.graph-loop-n-preserved
graph-loop-n-preserved t c = (
  going_goes c.loop-n.invariant.0 c.next_of.ensures c.in-Some.is _ c.node.ensures.answer c.node.ensures.grown
      c.node.ensures.kept (nodes_count _ _ _ _) c.node.ensures.counts c.in_ok-further.was,
  lists_next c.loop-n.invariant.1 c.next_of.ensures c.in-Some.is c.node.ensures.memory c.list-l.ensures,
  lists_minds c.loop-n.invariant.1 c.next_of.ensures c.in-Some.is c.loop-n.invariant.2 c.node.ensures.memory
      c.list-l.ensures,
)

pub node-node_rules-requires : goal.node-node_rules-requires
node-node_rules-requires t c = record {
  recalling = c.requires.minds.recalls;
  imported = c.requires.minds.imported;
  listed = c.requires.listed;
  f_bound = node_inputs_room _ _ _ _ c.requires.countable;
}

pub node-counting-requires : goal.node-counting-requires
node-counting-requires t c = node_fits _ _ _ _ c.requires.countable _ _ _ _ c.node_rules.ensures

pub node-returns-in_err-first : goal.node-returns-in_err-first
node-returns-in_err-first t c =
    rw (passed_on _ c.in_err-first.was c.from_residual.ensures.1) (
    let rest = promised_and (node_stops _ _ _ _ _ _ _ _ c.node_rules.ensures c.counting.ensures c.in_err-first.was)
    (minded_none c.requires.minds.recalls c.requires.minds.fits) in
    record { answer = rest.0; grown = rest.1.0; counts = rest.1.1.0; kept = rest.1.1.1.0; memory = rest.1.1.1.1 }
    )

pub node-loop-a-init : goal.node-loop-a-init
unfolding contents_of
node-loop-a-init t c =
    rw c.contents-c.ensures (
      going_start _ _ _ _ _ _ _ c.requires.enters.ends,
      lists_start _ _ _ c.requires.minds.recalls c.requires.minds.fits _ refl,
      c.requires.minds,
    )

pub node-closing-requires : goal.node-closing-requires
node-closing-requires t c =
    let first = node_first _ _ _ _ _ _ _ c.node_rules.ensures c.counting.ensures c.in_ok-first.was in
    let room = closing_countable _ _ _ _ _ _ _ _ c.node_rules.ensures c.counting.ensures c.in_ok-first.was
    c.loop-a.invariant.0 c.requires.countable in
    let low = node_low c.loop-a.invariant.0 (enters_first {first = c.in_ok-first.first} first.0 first.1 c.requires.enters) in
    record {
      model_len_bound = c.requires.enters.short;
      walked = c.requires.enters.walked;
      nodes_bound = low;
      countable = room;
      recalling = c.loop-a.invariant.1.minded.recalls;
    }

pub node-returns : goal.node-returns
node-returns t c =
    let rest = promised_and (attributes_done _ _ _ _ _ _ _ _ c.node_rules.ensures c.counting.ensures c.in_ok-first.was
    c.loop-a.invariant.0 c.next_of.ensures c.requires.enters c.in_default.is _ c.closing.ensures.answer
    c.closing.ensures.grown c.closing.ensures.kept)
    (minded_then c.loop-a.invariant.1.minded (minded_recalled c.loop-a.invariant.1.minded.held.fits c.closing.ensures.memory)) in
    record { answer = rest.0; grown = rest.1.0; counts = rest.1.1.0; kept = rest.1.1.1.0; memory = rest.1.1.1.1 }

pub node-attribute-requires : goal.node-attribute-requires
node-attribute-requires t c =
    let first = node_first _ _ _ _ _ _ _ c.node_rules.ensures c.counting.ensures c.in_ok-first.was in
    let room = attributes_countable _ _ c.args.s _ _ _ _ _ c.node_rules.ensures c.counting.ensures c.in_ok-first.was
    c.requires.countable in (
      going_shorter c.loop-a.invariant.0 c.next_of.ensures c.in-Some.is c.decreases,
      (
        going_enters c.loop-a.invariant.0 c.next_of.ensures c.in-Some.is c.requires.enters.short c.requires.enters.walked
            (own_contents _) node_attribute (enters_low
            (enters_first {first = c.in_ok-first.first} first.0 first.1 c.requires.enters)),
        (
          minds_higher c.loop-a.invariant.2 c.loop-a.invariant.1.above (lists_fits c.loop-a.invariant.1),
          (
            lists_found c.loop-a.invariant.1 c.next_of.ensures c.in-Some.is,
            going_countable c.loop-a.invariant.0 c.next_of.ensures c.in-Some.is room,
          ),
        ),
      ),
    )

pub node-returns-in_err-further : goal.node-returns-in_err-further
node-returns-in_err-further t c =
    rw (passed_on _ c.in_err-further.was c.from_residual-in_err-further.ensures.1) (
    let rest = promised_and (attributes_stop _ _ _ _ _ _ _ _ c.node_rules.ensures c.counting.ensures c.in_ok-first.was
    c.loop-a.invariant.0 c.next_of.ensures c.in-Some.is _ c.attribute.ensures.answer c.attribute.ensures.grown
    c.attribute.ensures.kept c.in_err-further.was)
    (minded_then c.loop-a.invariant.1.minded (minded_fewer c.loop-a.invariant.1.above c.attribute.ensures.memory)) in
    record { answer = rest.0; grown = rest.1.0; counts = rest.1.1.0; kept = rest.1.1.1.0; memory = rest.1.1.1.1 }
    )

pub node-list-own-requires : goal.node-list-own-requires
node-list-own-requires t c = record {
  remembering = c.attribute.ensures.memory.recalls.both;
  top_bound = c.attribute.ensures.memory.held.fits;
  model_len_bound = c.requires.enters.short;
}

pub node-loop-a-smaller : goal.node-loop-a-smaller
node-loop-a-smaller t c = going_falls c.loop-a.invariant.0 c.next_of.ensures c.in-Some.is

pub node-loop-a-preserved : goal.node-loop-a-preserved
node-loop-a-preserved t c = (
  going_goes c.loop-a.invariant.0 c.next_of.ensures c.in-Some.is _ c.attribute.ensures.answer
      c.attribute.ensures.grown
      c.attribute.ensures.kept (attributes_count _ _ _ _) c.attribute.ensures.counts c.in_ok-further.was,
  lists_next c.loop-a.invariant.1 c.next_of.ensures c.in-Some.is c.attribute.ensures.memory c.list-own.ensures,
  lists_minds c.loop-a.invariant.1 c.next_of.ensures c.in-Some.is c.loop-a.invariant.2 c.attribute.ensures.memory
      c.list-own.ensures,
)
