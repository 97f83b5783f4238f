use native.Mathlib.Omega.{arith}
use mathlib.Core.Path.{sym, ap, ◌∙◌}
use Rattle.varint.proofs.Answers.{erred}
use Rattle.varint.specs.Lists.{is_empty}
use Rattle.values.proofs.NameLaws.{empty_some, tested_few}
use Rattle.scope.specs.Scope.{step_says, grows, Countable}
use Rattle.scope.proofs.ScopeLaws.{keeps_all}
use Rattle.scope.proofs.RecallLaws.{recalled_none}
use Rattle.messages.specs.Again.{field_names}
use Rattle.nodes.proofs.OutputLaws.{output_out, output_bad, output_new, odd_says}
use Rattle.scope.proofs.StepLaws.{odd_grows, odd_keeps, refused_says, refused_grows}
use Rattle.nodes.proofs.outputs.node_output.Goals as goal

pub returns-then-text-eq0 : goal.returns-then-text-eq0
unfolding step_says grows
returns-then-text-eq0 c = record {
  answer = output_out _ _ _ _ c.text-text.ensures c.if-text-eq0.true;
  grown = omega arith;
  kept = keeps_all _ _;
  memory = recalled_none c.requires.recalling;
}

pub with_odd-requires : goal.with_odd-requires
unfolding Countable field_names
with_odd-requires c =
    let few = tested_few _ c.tested.ensures c.in_ok-odd.was in
    let room = c.requires.countable in
    omega arith

pub define-requires : goal.define-requires
define-requires c = record {
  direct = c.requires.direct;
  name_value = ap is_empty (sym c.text-text.ensures) ∙ empty_some _ c.if-text-eq0.false;
  model_len_bound = c.requires.model_len_bound;
  recalling = c.requires.recalling;
}

pub returns-in_err-odd : goal.returns-in_err-odd
returns-in_err-odd c =
    let e = erred c.from_residual.ensures.1 in
    record {
      answer = refused_says e _ _ ∙ output_bad _ _ _ _ c.text-text.ensures c.if-text-eq0.false (c.tested.ensures _) c.in_err-odd.was;
      grown = refused_grows e _;
      kept = keeps_all _ _;
      memory = recalled_none c.requires.recalling;
    }

pub returns : goal.returns
returns c =
    record {
      answer = odd_says _ _ c.with_odd.ensures _ _ _ _ _ _ c.define.ensures.answer
          ∙ output_new _ _ _ _ c.text-text.ensures c.if-text-eq0.false (c.tested.ensures _) c.in_ok-odd.was;
      grown = odd_grows _ _ c.with_odd.ensures _ c.define.ensures.grown;
      kept = odd_keeps _ _ c.with_odd.ensures c.define.ensures.kept;
      memory = c.define.ensures.memory;
    }
