use Rattle.varint.proofs.Answers.{erred}
use native.Mathlib.Omega.{arith}
use mathlib.Core.Path.{◌∙◌}
use Rattle.values.proofs.NameLaws.{field_some, field_few}
use Rattle.scope.specs.Scope.{step_says, grows, Countable}
use Rattle.scope.proofs.ScopeLaws.{keeps_all}
use Rattle.scope.proofs.RecallLaws.{recalled_none}
use Rattle.scope.proofs.StepLaws.{odd_grows, odd_keeps}
use Rattle.messages.specs.Again.{field_names}
use Rattle.nodes.proofs.OutputLaws.{odd_says}
use Rattle.functions.proofs.InputLaws.{input_bad, input_new}
use Rattle.functions.proofs.inputs.input.Goals as goal

pub with_odd-requires : goal.with_odd-requires
unfolding Countable field_names
with_odd-requires c =
    let few = field_few _ _ _ _ c.test_name.ensures c.in_ok-odd.was in
    let room = c.requires.countable in
    omega arith

pub define-requires : goal.define-requires
define-requires c = record {
  direct = c.requires.direct;
  name_value = field_some _ _ _ _ c.test_name.ensures c.in_ok-odd.was;
  model_len_bound = c.requires.model_len_bound;
  recalling = c.requires.recalling;
}

pub returns-in_err-odd : goal.returns-in_err-odd
unfolding step_says grows
returns-in_err-odd c = rw (erred c.from_residual.ensures.1) (record {
  answer = input_bad _ _ _ c.test_name.ensures _ _ c.in_err-odd.was;
  grown = tt;
  kept = keeps_all _ _;
  memory = recalled_none c.requires.recalling;
})

pub returns : goal.returns
returns c = record {
  answer = odd_says _ _ c.with_odd.ensures _ _ _ _ _ _ c.define.ensures.answer
      ∙ input_new _ _ _ c.test_name.ensures _ _ c.in_ok-odd.was;
  grown = odd_grows _ _ c.with_odd.ensures _ c.define.ensures.grown;
  kept = odd_keeps _ _ c.with_odd.ensures c.define.ensures.kept;
  memory = c.define.ensures.memory;
}
