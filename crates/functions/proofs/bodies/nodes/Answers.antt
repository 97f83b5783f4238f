use Rattle.varint.proofs.Answers.{passed_on}
use mathlib.Core.Path.{refl}
use Rattle.wire.specs.Answers.{contents_of}
use Rattle.schema.proofs.Opened.{function_node}
use Rattle.scope.proofs.RecallLaws.{minded_then, minded_fewer, minds_higher}
use Rattle.parts.proofs.ListsLaws.{lists_start, lists_fits, lists_found, lists_next, lists_minds}
use Rattle.cycle.proofs.CycleLaws.{enters_low, own_contents, going_start, going_falls, going_enters, going_countable, going_goes}
use Rattle.cycle.proofs.PromiseLaws.{promised_and, loop_done, loop_stops}
use Rattle.cycle.proofs.GraphLaws.{nodes_count}
use Rattle.functions.proofs.BodyLaws.{nodes_by, nodes_countable}
use Rattle.functions.proofs.bodies.nodes.Goals as goal

pub loop-n-init : goal.loop-n-init
unfolding contents_of
loop-n-init c =
    rw c.contents-c.ensures (
      going_start _ _ _ _ _ _ _ c.requires.enters.ends,
      lists_start _ _ _ c.requires.minds.recalls c.requires.minds.fits _ refl,
      c.requires.minds,
    )

pub returns : goal.returns
returns c =
    let rest = promised_and (loop_done c.loop-n.invariant.0 c.next_of.ensures c.requires.enters c.in_default.is
    (nodes_by _ _ _ _ _ _)) c.loop-n.invariant.1.minded in
    record { answer = rest.0; grown = rest.1.0; counts = rest.1.1.0; kept = rest.1.1.1.0; memory = rest.1.1.1.1 }

pub node-requires : goal.node-requires
node-requires c =
    record {
      enters = going_enters c.loop-n.invariant.0 c.next_of.ensures c.in-Some.is c.requires.enters.short
          c.requires.enters.walked (own_contents _) function_node
          (enters_low c.requires.enters);
      minds = minds_higher c.loop-n.invariant.2 c.loop-n.invariant.1.above (lists_fits c.loop-n.invariant.1);
      listed = rw c.requires.nodes_value (lists_found c.loop-n.invariant.1 c.next_of.ensures c.in-Some.is);
      countable = going_countable c.loop-n.invariant.0 c.next_of.ensures c.in-Some.is
          (nodes_countable _ _ _ _ c.requires.countable);
    }

pub returns-in_err-further : goal.returns-in_err-further
returns-in_err-further c =
    rw (passed_on _ c.in_err-further.was c.from_residual.ensures.1) (
    let rest = promised_and (loop_stops c.loop-n.invariant.0 c.next_of.ensures c.in-Some.is _ c.node.ensures.answer
    c.node.ensures.grown
    c.node.ensures.kept c.in_err-further.was (nodes_by _ _ _ _ _ _))
    (minded_then c.loop-n.invariant.1.minded (minded_fewer c.loop-n.invariant.1.above c.node.ensures.memory)) in
    record { answer = rest.0; grown = rest.1.0; counts = rest.1.1.0; kept = rest.1.1.1.0; memory = rest.1.1.1.1 }
    )

pub list-l-requires : goal.list-l-requires
list-l-requires c = record {
  remembering = c.node.ensures.memory.recalls.both;
  top_bound = c.node.ensures.memory.held.fits;
  model_len_bound = c.requires.enters.short;
}

pub loop-n-smaller : goal.loop-n-smaller
loop-n-smaller c = going_falls c.loop-n.invariant.0 c.next_of.ensures c.in-Some.is

pub loop-n-preserved : goal.loop-n-preserved
loop-n-preserved c = (
  going_goes c.loop-n.invariant.0 c.next_of.ensures c.in-Some.is _ c.node.ensures.answer c.node.ensures.grown
      c.node.ensures.kept (nodes_count _ _ _ _) c.node.ensures.counts c.in_ok-further.was,
  lists_next c.loop-n.invariant.1 c.next_of.ensures c.in-Some.is c.node.ensures.memory c.list-l.ensures,
  lists_minds c.loop-n.invariant.1 c.next_of.ensures c.in-Some.is c.loop-n.invariant.2 c.node.ensures.memory
      c.list-l.ensures,
)

pub shape_of-cells : goal.shape_of-cells
shape_of-cells c = c.loop-n.invariant.0.adding.kept.size

pub shape_of-extra : goal.shape_of-extra
shape_of-extra c = c.loop-n.invariant.1.minded.size
