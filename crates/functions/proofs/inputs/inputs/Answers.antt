use Rattle.varint.proofs.Answers.{passed_on}
use mathlib.Core.Path.{◌∙◌}
use Rattle.wire.proofs.Along.{along_start, along_contents}
use Rattle.scope.proofs.RecallLaws.{recalled_none, recalled_then}
use Rattle.scope.proofs.RecordLaws.{function_input_lem}
use Rattle.scope.proofs.StepLaws.{adding_start, adding_done, adding_falls, adding_countable, from_contents, adding_direct, adding_stops, adding_goes}
use Rattle.functions.proofs.InputLaws.{input_counts}
use Rattle.functions.proofs.inputs.inputs.Goals as goal

pub loop-name-init : goal.loop-name-init
loop-name-init c = (adding_start _ _ _ _ _ _ _ (along_start _ _ _ _ _), recalled_none c.requires.recalling)

pub returns : goal.returns
returns c =
    let d = adding_done c.loop-name.invariant.0 c.next_of.ensures c.in_default.is in
    record {
      answer = d.0 ∙ along_contents _ _ _ _ _ c.contents-c.ensures;
      grown = d.1.0;
      kept = d.1.1;
      memory = c.loop-name.invariant.1;
    }

pub input-requires : goal.input-requires
input-requires c =
    record {
      direct = adding_direct c.loop-name.invariant.0 c.next_of.ensures c.in-Some.is c.requires.walked c.contents-c.ensures
          function_input_lem;
      countable = adding_countable c.loop-name.invariant.0 c.next_of.ensures c.in-Some.is
          (from_contents _ _ _ _ _ c.contents-c.ensures c.requires.countable);
      model_len_bound = c.requires.model_len_bound;
      recalling = c.loop-name.invariant.1.recalls;
    }

pub returns-in_err-further : goal.returns-in_err-further
returns-in_err-further c =
    rw (passed_on _ c.in_err-further.was c.from_residual.ensures.1) (
    let d = adding_stops c.loop-name.invariant.0 c.next_of.ensures c.in-Some.is _ c.input.ensures.answer
    c.input.ensures.grown c.input.ensures.kept c.in_err-further.was in
    record {
      answer = d.0 ∙ along_contents _ _ _ _ _ c.contents-c.ensures;
      grown = d.1.0;
      kept = d.1.1;
      memory = recalled_then c.loop-name.invariant.1 c.input.ensures.memory;
    }
    )

pub loop-name-smaller : goal.loop-name-smaller
loop-name-smaller c = adding_falls c.loop-name.invariant.0 c.next_of.ensures c.in-Some.is

pub loop-name-preserved : goal.loop-name-preserved
loop-name-preserved c = (
  adding_goes c.loop-name.invariant.0 c.next_of.ensures c.in-Some.is _ c.input.ensures.answer
      c.input.ensures.grown c.input.ensures.kept (input_counts _) c.in_ok-further.was,
  recalled_then c.loop-name.invariant.1 c.input.ensures.memory,
)
