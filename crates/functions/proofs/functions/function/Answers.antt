use Rattle.varint.proofs.Answers.{erred}
use mathlib.Core.Path.{refl, ◌∙◌}
use Rattle.scope.proofs.RecallLaws.{recalling_held, recalling_without}
use Rattle.functions.proofs.FunctionLaws.{function_unread, function_begun, begun_fits, begun_enters, begun_minds, begun_countable, begun_counts}
use Rattle.scope.specs.Scope.{counted}
use Rattle.functions.specs.Function.{within}
use Rattle.functions.proofs.functions.function.Goals as goal

pub head-requires : goal.head-requires
head-requires c = record {
  remembering = c.requires.recalling.both;
  model_len_bound = c.requires.enters.short;
  next_in_bounds = c.requires.enters.walked.inside;
}

pub overflow_add-start : goal.overflow_add-start
overflow_add-start c = record {
  fits = begun_fits _ _ _ c.args.version _ c.args.cells.now _ _ _ c.head.ensures.answer c.in_ok-d.was _ _
      c.head.ensures.declared c.requires.countable;
}

pub body-requires : goal.body-requires
unfolding within
body-requires c = record {
  enters = begun_enters c.requires.enters refl;
  minds = begun_minds c.requires.recalling c.head.ensures.held _ _ c.head.ensures.declared c.in_ok-d.was;
  countable = begun_countable _ _ _ c.args.version _ c.args.cells.now _ _ _ c.head.ensures.answer c.in_ok-d.was _ _
      c.head.ensures.declared c.requires.countable;
  nodes_value = refl;
}

pub returns-in_err-d : goal.returns-in_err-d
unfolding counted
returns-in_err-d c = rw (erred c.from_residual.ensures.1) (record {
  answer = function_unread _ _ c.args.left c.args.version _ c.args.cells.now c.args.p _ _ c.head.ensures.answer c.in_err-d.was _;
  counts = tt;
  size = refl;
  lent = c.head.ensures.held.size;
  memory = recalling_held c.requires.recalling c.head.ensures.held;
})

pub returns : goal.returns
unfolding within
returns c = record {
  answer = c.body.ensures.answer ∙ function_begun _ _ c.args.left c.args.version _ c.args.cells.now c.args.p _ _
      c.head.ensures.answer c.in_ok-d.was;
  counts = begun_counts _ _ _ refl _ c.body.ensures.counts;
  size = c.body.ensures.kept.size;
  lent = c.body.ensures.memory.size ∙ c.head.ensures.held.size;
  memory = recalling_without c.body.ensures.memory.recalls;
}
