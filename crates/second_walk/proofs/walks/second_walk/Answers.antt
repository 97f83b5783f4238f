use Rattle.varint.proofs.Answers.{passed_on}
use native.Mathlib.Omega.{arith}
use mathlib.Core.Path.{sym, ◌∙◌}
use lib.Seq.{length-take-le}
use Rattle.second_walk.proofs.PartLaws.{first_on}
use Rattle.second_walk.proofs.ZeroLaws.{recalling_none, defining_none}
use Rattle.second_walk.proofs.WalkLaws.{walk_stops, walk_goes, walk_few}
use Rattle.second_walk.proofs.walks.second_walk.Goals as goal

pub slice_bounds-main_graph-end-2 : goal.slice_bounds-main_graph-end-2
slice_bounds-main_graph-end-2 c = sym (length-take-le _ _ c.table_at-last.ensures.1)

pub main_graph-requires : goal.main_graph-requires
main_graph-requires c = record {
  outlined = c.model_outline-o.ensures;
  version_value = c.ir_version-version.ensures;
  recalling = recalling_none c.requires.extra_value c.table_at-last.ensures.1 _ _ _ c.table_at-last.ensures.0;
  model_len_bound = c.requires.model_len_bound;
  model_value = c.requires.model_value;
}

pub returns-in_err-p : goal.returns-in_err-p
returns-in_err-p c =
    rw (passed_on _ c.in_err-p.was c.from_residual.ensures.1) (record {
      answer = walk_stops _ _ _ _ _ c.main_graph.ensures.answer c.in_err-p.was;
      size = c.main_graph.ensures.size;
    })

pub functions-requires : goal.functions-requires
functions-requires c =
    let on = first_on c.args.extra.now c.table_at-last.ensures.1 c.main_graph.ensures.lent
    c.main_graph.ensures.memory in
    record {
      model_len_bound = c.requires.model_len_bound;
      model_value = c.requires.model_value;
      starts = c.model_outline-o.ensures.functions;
      last_in_bounds = omega (arith, c.table_at-last.ensures.1, on.0);
      recalling = on.1.0;
      identified = rw on.1.1 (defining_none c.requires.extra_value c.table_at-last.ensures.1 _ _ _);
      few_counted = walk_few _ _ _ _ _ c.main_graph.ensures.answer c.main_graph.ensures.few c.in_ok-p.was;
    }

pub returns : goal.returns
returns c =
    record {
      answer = c.functions.ensures.answer
          ∙ walk_goes _ _ _ _ _ c.main_graph.ensures.answer c.ir_version-version.ensures c.in_ok-p.was
          c.main_graph.ensures.size;
      size = c.functions.ensures.size ∙ c.main_graph.ensures.size;
    }
