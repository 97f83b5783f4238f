use Rattle.varint.proofs.Answers.{passed_on}
use native.Mathlib.Omega.{arith}
use Rattle.scope.proofs.RecallLaws.{minded_then, minded_recalled}
use Rattle.parts.proofs.ListsLaws.{lists_start, lists_fits, lists_found, lists_next}
use Rattle.parts.proofs.InitializerLaws.{default_kept, used_after, initializer_counts}
use Rattle.schema.proofs.Opened.{graph_initializer}
use mathlib.Core.Path.{◌∙◌}
use Rattle.wire.proofs.Along.{along_start, along_contents}
use Rattle.scope.proofs.StepLaws.{adding_start, adding_done, adding_falls, adding_walked, adding_countable, from_contents, adding_stops, adding_goes}
use Rattle.parts.proofs.initializers.initializers.Goals as goal

pub loop-f-init : goal.loop-f-init
loop-f-init c = (
  adding_start _ _ _ _ _ _ _ (along_start _ _ _ _ _),
  lists_start _ _ _ c.requires.recalling c.requires.top_bound _ c.contents-c.ensures,
  c.requires.defaultable,
  omega arith,
)

pub returns : goal.returns
returns c =
    let d = adding_done c.loop-f.invariant.0 c.next_of.ensures c.in_default.is in
    record {
      answer = d.0 ∙ along_contents _ _ _ _ _ c.contents-c.ensures;
      grown = d.1.0;
      kept = d.1.1;
      memory = c.loop-f.invariant.1.minded;
    }

pub initializer-requires : goal.initializer-requires
initializer-requires c =
    record {
      model_len_bound = c.requires.model_len_bound;
      walked = adding_walked c.loop-f.invariant.0 c.next_of.ensures c.in-Some.is c.requires.walked c.contents-c.ensures
          graph_initializer;
      countable = adding_countable c.loop-f.invariant.0 c.next_of.ensures c.in-Some.is
          (from_contents _ _ _ _ _ c.contents-c.ensures c.requires.countable);
      recalling = c.loop-f.invariant.1.minded.recalls;
      defaultable = c.loop-f.invariant.2;
      listed = lists_found c.loop-f.invariant.1 c.next_of.ensures c.in-Some.is;
    }

pub returns-in_err-further : goal.returns-in_err-further
returns-in_err-further c =
    rw (passed_on _ c.in_err-further.was c.from_residual.ensures.1) (
    let d = adding_stops c.loop-f.invariant.0 c.next_of.ensures c.in-Some.is _ c.initializer.ensures.answer
    c.initializer.ensures.grown c.initializer.ensures.kept c.in_err-further.was in
    record {
      answer = d.0 ∙ along_contents _ _ _ _ _ c.contents-c.ensures;
      grown = d.1.0;
      kept = d.1.1;
      memory = minded_then c.loop-f.invariant.1.minded
          (minded_recalled c.loop-f.invariant.1.minded.held.fits c.initializer.ensures.memory);
    }
    )

pub loop-f-smaller : goal.loop-f-smaller
loop-f-smaller c = adding_falls c.loop-f.invariant.0 c.next_of.ensures c.in-Some.is

pub loop-f-preserved : goal.loop-f-preserved
loop-f-preserved c = (
  adding_goes c.loop-f.invariant.0 c.next_of.ensures c.in-Some.is _ c.initializer.ensures.answer
      c.initializer.ensures.grown
      c.initializer.ensures.kept (initializer_counts _ _ _) c.in_ok-further.was,
  lists_next c.loop-f.invariant.1 c.next_of.ensures c.in-Some.is
      (minded_recalled (lists_fits c.loop-f.invariant.1) c.initializer.ensures.memory) c.list-l.ensures,
  default_kept c.loop-f.invariant.2
      c.loop-f.invariant.3 c.initializer.ensures.kept,
  used_after _ _ c.loop-f.invariant.3 c.initializer.ensures.grown c.in_ok-further.was,
)

pub list-l-requires : goal.list-l-requires
list-l-requires c = record {
  remembering = c.initializer.ensures.memory.recalls.both;
  top_bound = (minded_recalled (lists_fits c.loop-f.invariant.1) c.initializer.ensures.memory).held.fits;
  model_len_bound = c.requires.model_len_bound;
}
