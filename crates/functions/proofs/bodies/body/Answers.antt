use Rattle.varint.proofs.Answers.{passed_on}
use mathlib.Core.Path.{◌∙◌}
use Rattle.scope.proofs.RecallLaws.{minded_recalled, minded_then, minds_still}
use Rattle.cycle.proofs.PromiseLaws.{promised_and}
use Rattle.functions.proofs.BodyLaws.{inputs_countable, body_unbound, body_enters, body_nodes_countable, body_stops, body_fits, body_done}
use Rattle.functions.proofs.bodies.body.Goals as goal

pub inputs-requires : goal.inputs-requires
inputs-requires c = record {
  model_len_bound = c.requires.enters.short;
  walked = c.requires.enters.walked;
  countable = inputs_countable _ _ c.args.s c.args.cells.now _ _ c.requires.countable;
  recalling = c.requires.minds.recalls;
}

pub returns-in_err-q : goal.returns-in_err-q
returns-in_err-q c =
    rw (passed_on _ c.in_err-q.was c.from_residual.ensures.1) (
    let rest = promised_and (body_unbound _ _ _ _ _ _ _ _ c.inputs.ensures.answer c.inputs.ensures.grown
    c.inputs.ensures.kept c.in_err-q.was)
    (minded_recalled c.requires.minds.fits c.inputs.ensures.memory) in
    record { answer = rest.0; grown = rest.1.0; counts = rest.1.1.0; kept = rest.1.1.1.0; memory = rest.1.1.1.1 }
    )

pub nodes-requires : goal.nodes-requires
nodes-requires c = record {
  enters = body_enters _ c.args.left c.args.s _ _ _ _ _ c.inputs.ensures.answer c.inputs.ensures.grown
      c.inputs.ensures.kept c.in_ok-q.was c.requires.enters;
  minds = minds_still c.requires.minds (minded_recalled c.requires.minds.fits c.inputs.ensures.memory);
  countable = body_nodes_countable _ _ c.args.s _ _ _ _ _ c.inputs.ensures.answer c.inputs.ensures.grown
      c.inputs.ensures.kept c.in_ok-q.was c.requires.countable;
  nodes_value = c.requires.nodes_value;
}

pub returns-in_err-u : goal.returns-in_err-u
returns-in_err-u c =
    rw (passed_on _ c.in_err-u.was c.from_residual-in_err-u.ensures.1) (
    let rest = promised_and (body_stops _ _ _ _ _ _ _ _ c.inputs.ensures.answer c.inputs.ensures.grown
    c.inputs.ensures.kept c.in_ok-q.was _ _
    c.nodes.ensures.answer c.nodes.ensures.grown c.nodes.ensures.counts c.nodes.ensures.kept c.in_err-u.was)
    (minded_then (minded_recalled c.requires.minds.fits c.inputs.ensures.memory) c.nodes.ensures.memory) in
    record { answer = rest.0; grown = rest.1.0; counts = rest.1.1.0; kept = rest.1.1.1.0; memory = rest.1.1.1.1 }
    )

pub outputs-requires : goal.outputs-requires
outputs-requires c = c.nodes.ensures.memory.recalls

pub counting-requires : goal.counting-requires
counting-requires c =
    body_fits _ _ c.args.s _ _ _ _ _ c.inputs.ensures.answer c.inputs.ensures.grown c.inputs.ensures.kept
    c.in_ok-q.was _ _
    c.nodes.ensures.answer c.nodes.ensures.grown c.nodes.ensures.counts c.nodes.ensures.kept c.in_ok-u.was _
    c.outputs.ensures c.requires.countable

pub returns : goal.returns
returns c =
    let rest = promised_and (body_done _ _ _ _ _ _ _ _ c.inputs.ensures.answer c.inputs.ensures.grown
    c.inputs.ensures.kept c.in_ok-q.was _ _
    c.nodes.ensures.answer c.nodes.ensures.grown c.nodes.ensures.counts c.nodes.ensures.kept c.in_ok-u.was _
    c.outputs.ensures c.counting.ensures)
    (minded_then (minded_recalled c.requires.minds.fits c.inputs.ensures.memory) c.nodes.ensures.memory) in
    record { answer = rest.0; grown = rest.1.0; counts = rest.1.1.0; kept = rest.1.1.1.0; memory = rest.1.1.1.1 }

pub shape_of-cells : goal.shape_of-cells
shape_of-cells c = c.nodes.ensures.kept.size ∙ c.inputs.ensures.kept.size
