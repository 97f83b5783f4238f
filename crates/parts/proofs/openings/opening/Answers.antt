use Rattle.varint.proofs.Answers.{passed_on}
use Rattle.scope.proofs.RecallLaws.{minded_none, minded_then, minded_recalled}
use Rattle.parts.proofs.OpeningLaws.{inputs_defaultable, opening_refused, opening_stops, opening_goes, opening_fits}
use Rattle.parts.proofs.OpeningLaws.{opening_inputs, opening_values}
use Rattle.parts.proofs.openings.opening.Goals as goal

pub counting-requires : goal.counting-requires
counting-requires c = opening_fits _ _ _ _ c.requires.countable _ c.graph_rules.ensures

pub returns-in_err-first : goal.returns-in_err-first
returns-in_err-first c =
    rw (passed_on _ c.in_err-first.was c.from_residual.ensures.1) (
    let d = opening_refused _ _ _ _ _ _ c.graph_rules.ensures c.counting.ensures c.in_err-first.was in
    record { answer = d.0; grown = d.1.0; kept = d.1.1; memory = minded_none c.requires.recalling c.requires.top_bound }
    )

pub inputs-requires : goal.inputs-requires
inputs-requires c =
    let room = opening_inputs _ _ _ _ c.requires.countable _ c.graph_rules.ensures c.counting.ensures c.in_ok-first.was in
    record {
      model_len_bound = c.requires.model_len_bound;
      walked = c.requires.walked;
      countable = room;
      recalling = c.requires.recalling;
    }

pub returns-in_err-q : goal.returns-in_err-q
returns-in_err-q c =
    rw (passed_on _ c.in_err-q.was c.from_residual-in_err-q.ensures.1) (
    let d = opening_stops _ _ _ _ _ _ c.graph_rules.ensures c.counting.ensures c.in_ok-first.was _ _
    c.inputs.ensures.answer c.inputs.ensures.grown c.inputs.ensures.kept c.in_err-q.was in
    record {
      answer = d.0;
      grown = d.1.0;
      kept = d.1.1;
      memory = minded_recalled c.requires.top_bound c.inputs.ensures.memory;
    }
    )

pub initializers-requires : goal.initializers-requires
initializers-requires c =
    let room = opening_values _ _ _ _ c.requires.countable _ c.graph_rules.ensures c.counting.ensures c.in_ok-first.was
    c.args.cells.now _ _ c.inputs.ensures.answer c.in_ok-q.was in
    record {
      model_len_bound = c.requires.model_len_bound;
      walked = c.requires.walked;
      countable = room;
      recalling = c.inputs.ensures.memory.recalls;
      defaultable = inputs_defaultable _ c.args.cells.now _ c.in_ok-first.first _ _ _ c.inputs.ensures.answer c.in_ok-q.was;
      top_bound = (minded_recalled c.requires.top_bound c.inputs.ensures.memory).held.fits;
    }

pub returns : goal.returns
returns c =
    let d = opening_goes _ _ _ _ _ _ c.graph_rules.ensures c.counting.ensures c.in_ok-first.was _ _
    c.inputs.ensures.answer c.inputs.ensures.grown c.inputs.ensures.kept c.in_ok-q.was _ _
    c.initializers.ensures.answer c.initializers.ensures.grown c.initializers.ensures.kept in
    record {
      answer = d.0;
      grown = d.1.0;
      kept = d.1.1;
      memory = minded_then (minded_recalled c.requires.top_bound c.inputs.ensures.memory) c.initializers.ensures.memory;
    }
