use mathlib.Core.Path.{refl, ◌∙◌}
use Rattle.wire.proofs.OutlineLaws.{started_first}
use Rattle.headers.proofs.HeaderLaws.{refused_heading, imported_heading}
use Rattle.varint.proofs.Answers.{erred}
use Rattle.scope.proofs.StepLaws.{refused_says}
use Rattle.scope.proofs.RecallLaws.{recalling_held, recalling_without}
use Rattle.second_walk.proofs.MainLaws.{main_few, main_unheaded, main_missing, main_found, main_enters, main_countable, main_minds}
use Rattle.second_walk.proofs.mains.main_graph.Goals as goal

pub head-requires : goal.head-requires
head-requires c = record {
  outlined = c.requires.outlined;
  remembering = c.requires.recalling.both;
  model_len_bound = c.requires.model_len_bound;
}

pub returns-in_err-imports : goal.returns-in_err-imports
returns-in_err-imports c =
    let none = main_unheaded _ _ _ _ c.head.ensures.answer (refused_heading c.in_err-imports.was) _ (erred c.from_residual.ensures.1) in
    record {
      answer = none.0;
      few = none.1;
      size = refl;
      lent = c.head.ensures.held.size;
      memory = recalling_held c.requires.recalling c.head.ensures.held;
    }

pub graph-requires : goal.graph-requires
graph-requires c =
    let enters = main_enters _ c.requires.model_len_bound c.requires.model_value c.whole-m.ensures _
    (started_first _ _ _ (rw c.whole-m.ensures c.requires.outlined.graph) _ c.first_from.ensures) c.in-Some.is in
    record {
      enters = enters;
      minds = main_minds c.requires.recalling c.head.ensures.held c.head.ensures.imported c.in_ok-imports.was _
          c.whole-m.ensures;
      countable = main_countable _ _ enters;
      nodes_value = refl;
    }

pub returns-in_default : goal.returns-in_default
returns-in_default c =
    let none = main_missing _ _ _ _ c.head.ensures.answer (imported_heading c.in_ok-imports.was) c.whole-m.ensures _
    (started_first _ _ _ (rw c.whole-m.ensures c.requires.outlined.graph) _ c.first_from.ensures) c.in_default.is _ _
    (refused_says c.refused.ensures _ _) in
    record {
      answer = none.0;
      few = none.1;
      size = refl;
      lent = c.head.ensures.held.size;
      memory = recalling_held c.requires.recalling c.head.ensures.held;
    }

pub returns : goal.returns
returns c =
    let enters = main_enters _ c.requires.model_len_bound c.requires.model_value c.whole-m.ensures _
    (started_first _ _ _ (rw c.whole-m.ensures c.requires.outlined.graph) _ c.first_from.ensures) c.in-Some.is in record {
      answer = c.graph.ensures.answer
          ∙ main_found _ _ _ _ c.head.ensures.answer (imported_heading c.in_ok-imports.was) c.whole-m.ensures _
          (started_first _ _ _ (rw c.whole-m.ensures c.requires.outlined.graph) _ c.first_from.ensures) c.requires.version_value
          c.in-Some.is _;
      few = main_few _ _ c.args.version _ _ c.args.cells.now _ _ enters c.graph.ensures.answer c.graph.ensures.counts;
      size = c.graph.ensures.kept.size;
      lent = c.graph.ensures.memory.size ∙ c.head.ensures.held.size;
      memory = recalling_without c.graph.ensures.memory.recalls;
    }

pub shape_of-extra : goal.shape_of-extra
shape_of-extra c = c.graph.ensures.memory.size ∙ c.head.ensures.held.size
