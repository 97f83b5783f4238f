use Rattle.scope.proofs.RecallLaws.{recalled_none}
use native.Mathlib.Omega.{arith}
use mathlib.Core.Path.{subst, ◌∙◌}
use Rattle.varint.proofs.Answers.{passed_on}
use Rattle.scope.proofs.StepLaws.{refused_says, refused_grows}
use Rattle.scope.specs.Scope.{walk_in, grows}
use Rattle.scope.proofs.ScopeLaws.{keeps_all}
use Rattle.nodes.proofs.ClosingLaws.{closing_none, closing_stops, closing_went, closing_still}
use Rattle.nodes.proofs.nodes.closing.Goals as goal

pub returns-then-not-has : goal.returns-then-not-has
returns-then-not-has c = record {
  answer = refused_says c.refused.ensures _ _ ∙ closing_none _ _ _ _ c.has.ensures c.if-not-has.true;
  grown = refused_grows c.refused.ensures _;
  kept = keeps_all _ _;
  memory = recalled_none c.requires.recalling;
}

pub node_outputs-requires : goal.node_outputs-requires
node_outputs-requires c = record {
  model_len_bound = c.requires.model_len_bound;
  walked = c.requires.walked;
  countable = c.requires.countable;
  recalling = c.requires.recalling;
}

pub returns-in_err-q : goal.returns-in_err-q
returns-in_err-q c =
    rw (passed_on _ c.in_err-q.was c.from_residual.ensures.1) (
    record {
      answer = closing_stops _ _ _ _ c.has.ensures c.if-not-has.false _ _ c.node_outputs.ensures.answer c.in_err-q.was;
      grown = c.node_outputs.ensures.grown;
      kept = c.node_outputs.ensures.kept;
      memory = c.node_outputs.ensures.memory;
    }
    )

pub overflow_add-result : goal.overflow_add-result
unfolding walk_in
overflow_add-result c =
    let still = closing_still _ _ _ _ c.has.ensures c.if-not-has.false _ _ c.node_outputs.ensures.answer c.in_ok-q.was in
    let low = c.requires.nodes_bound in
    omega arith

pub returns : goal.returns
unfolding grows
returns c = record {
  answer = closing_went _ _ _ _ c.has.ensures c.if-not-has.false _ _ c.node_outputs.ensures.answer c.in_ok-q.was;
  grown = subst (grows c.args.p) c.in_ok-q.was c.node_outputs.ensures.grown;
  kept = c.node_outputs.ensures.kept;
  memory = c.node_outputs.ensures.memory;
}
