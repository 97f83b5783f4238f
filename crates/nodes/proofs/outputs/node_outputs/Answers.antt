use Rattle.varint.proofs.Answers.{passed_on}
use mathlib.Core.Path.{◌∙◌}
use Rattle.wire.proofs.Along.{along_start, along_contents}
use Rattle.scope.proofs.RecallLaws.{recalled_none, recalled_then}
use Rattle.scope.proofs.RecordLaws.{node_output_lem}
use Rattle.scope.proofs.StepLaws.{adding_start, adding_done, adding_falls, adding_countable, from_contents, adding_direct, adding_stops, adding_goes}
use Rattle.nodes.proofs.OutputLaws.{output_counts}
use Rattle.nodes.proofs.outputs.node_outputs.Goals as goal

pub loop-f-init : goal.loop-f-init
loop-f-init c = (adding_start _ _ _ _ _ _ _ (along_start _ _ _ _ _), recalled_none c.requires.recalling)

pub returns : goal.returns
returns c =
    let d = adding_done c.loop-f.invariant.0 c.next_of.ensures c.in_default.is in
    record {
      answer = d.0 ∙ along_contents _ _ _ _ _ c.contents-c.ensures;
      grown = d.1.0;
      kept = d.1.1;
      memory = c.loop-f.invariant.1;
    }

pub node_output-requires : goal.node_output-requires
node_output-requires c =
    record {
      direct = adding_direct c.loop-f.invariant.0 c.next_of.ensures c.in-Some.is c.requires.walked c.contents-c.ensures
          node_output_lem;
      countable = adding_countable c.loop-f.invariant.0 c.next_of.ensures c.in-Some.is
          (from_contents _ _ _ _ _ c.contents-c.ensures c.requires.countable);
      model_len_bound = c.requires.model_len_bound;
      recalling = c.loop-f.invariant.1.recalls;
    }

pub returns-in_err-further : goal.returns-in_err-further
returns-in_err-further c =
    rw (passed_on _ c.in_err-further.was c.from_residual.ensures.1) (
    let d = adding_stops c.loop-f.invariant.0 c.next_of.ensures c.in-Some.is _ c.node_output.ensures.answer
    c.node_output.ensures.grown c.node_output.ensures.kept c.in_err-further.was in
    record {
      answer = d.0 ∙ along_contents _ _ _ _ _ c.contents-c.ensures;
      grown = d.1.0;
      kept = d.1.1;
      memory = recalled_then c.loop-f.invariant.1 c.node_output.ensures.memory;
    }
    )

pub loop-f-smaller : goal.loop-f-smaller
loop-f-smaller c = adding_falls c.loop-f.invariant.0 c.next_of.ensures c.in-Some.is

pub loop-f-preserved : goal.loop-f-preserved
loop-f-preserved c = (
  adding_goes c.loop-f.invariant.0 c.next_of.ensures c.in-Some.is _ c.node_output.ensures.answer
      c.node_output.ensures.grown c.node_output.ensures.kept (output_counts _) c.in_ok-further.was,
  recalled_then c.loop-f.invariant.1 c.node_output.ensures.memory,
)
