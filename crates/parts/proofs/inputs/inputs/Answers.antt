use Rattle.varint.proofs.Answers.{passed_on}
use Rattle.scope.proofs.RecallLaws.{recalled_none, recalled_then}
use mathlib.Core.Path.{refl, ◌∙◌}
use Rattle.wire.proofs.Along.{along_start, along_contents}
use Rattle.schema.proofs.Opened.{graph_input}
use Rattle.parts.proofs.InputLaws.{inputs_any, input_counts}
use Rattle.scope.proofs.StepLaws.{adding_start, adding_done, adding_falls, adding_walked, adding_countable, from_contents, adding_stops, adding_goes}
use Rattle.parts.proofs.inputs.inputs.Goals as goal

pub loop-f-init : goal.loop-f-init
loop-f-init c = (adding_start _ _ _ _ _ _ _ (along_start _ _ _ _ _), recalled_none c.requires.recalling)

pub returns : goal.returns
returns c =
    let d = adding_done c.loop-f.invariant.0 c.next_of.ensures c.in_default.is in
    record {
      answer = λ k e. d.0 ∙ along_contents _ _ _ _ _ c.contents-c.ensures ∙ inputs_any _ _ _ k e _ _;
      grown = d.1.0;
      kept = d.1.1;
      memory = c.loop-f.invariant.1;
    }

pub input-requires : goal.input-requires
input-requires c =
    record {
      model_len_bound = c.requires.model_len_bound;
      walked = adding_walked c.loop-f.invariant.0 c.next_of.ensures c.in-Some.is c.requires.walked c.contents-c.ensures
          graph_input;
      countable = adding_countable c.loop-f.invariant.0 c.next_of.ensures c.in-Some.is
          (from_contents _ _ _ _ _ c.contents-c.ensures c.requires.countable);
      recalling = c.loop-f.invariant.1.recalls;
    }

pub returns-in_err-further : goal.returns-in_err-further
returns-in_err-further c =
    rw (passed_on _ c.in_err-further.was c.from_residual.ensures.1) (
    let d =
    adding_stops c.loop-f.invariant.0 c.next_of.ensures c.in-Some.is _ (c.input.ensures.answer _ refl)
    c.input.ensures.grown
    c.input.ensures.kept c.in_err-further.was in
    record {
      answer = λ k e. d.0 ∙ along_contents _ _ _ _ _ c.contents-c.ensures ∙ inputs_any _ _ _ k e _ _;
      grown = d.1.0;
      kept = d.1.1;
      memory = recalled_then c.loop-f.invariant.1 c.input.ensures.memory;
    }
    )

pub loop-f-smaller : goal.loop-f-smaller
loop-f-smaller c = adding_falls c.loop-f.invariant.0 c.next_of.ensures c.in-Some.is

pub loop-f-preserved : goal.loop-f-preserved
loop-f-preserved c = (
  adding_goes c.loop-f.invariant.0 c.next_of.ensures c.in-Some.is _ (c.input.ensures.answer _ refl)
      c.input.ensures.grown
      c.input.ensures.kept (input_counts _ _) c.in_ok-further.was,
  recalled_then c.loop-f.invariant.1 c.input.ensures.memory,
)
