use Rattle.varint.proofs.Answers.{erred, passed_on}
use mathlib.Core.Path.{ap, ◌∙◌}
use Rattle.scope.specs.Scope.{step_says, grows}
use Rattle.scope.proofs.RecallLaws.{recalled_none}
use Rattle.scope.proofs.ScopeLaws.{keeps_all}
use Rattle.scope.proofs.RecordLaws.{value_info_name, name_first}
use Rattle.scope.proofs.StepLaws.{odd_grows, odd_keeps}
use Rattle.values.proofs.NameLaws.{named_some, named_first, named_few}
use Rattle.parts.proofs.InputLaws.{input_unnamed, input_stops, input_goes, input_fits, input_adds, input_grows}
use Rattle.parts.proofs.inputs.input.Goals as goal

pub with_odd-requires : goal.with_odd-requires
with_odd-requires c = input_fits _ _ _ _ c.requires.countable (named_few _ _ _ _ _ c.read_name.ensures c.in_ok-name.was)

pub define-requires : goal.define-requires
define-requires c = record {
  direct = name_first c.requires.walked value_info_name (named_first _ _ _ _ _ c.read_name.ensures c.in_ok-name.was);
  name_value = named_some _ _ _ _ _ c.read_name.ensures c.in_ok-name.was;
  model_len_bound = c.requires.model_len_bound;
  recalling = c.requires.recalling;
}

pub returns-in_err-q : goal.returns-in_err-q
returns-in_err-q c =
    let e = c.with_odd.ensures in
    rw (passed_on _ c.in_err-q.was c.from_residual-in_err-q.ensures.1) (record {
      answer = λ k i. input_stops _ _ k _ _ _ _ c.read_name.ensures c.in_ok-name.was e _ _ c.define.ensures.answer
          c.in_err-q.was;
      grown = odd_grows _ _ e _ c.define.ensures.grown;
      kept = odd_keeps _ _ e c.define.ensures.kept;
      memory = c.define.ensures.memory;
    })

pub counting-requires : goal.counting-requires
counting-requires c =
    input_adds _ _ _ _ c.requires.countable (named_few _ _ _ _ _ c.read_name.ensures c.in_ok-name.was) c.with_odd.ensures
    _ _ _ _ _ c.define.ensures.answer c.in_ok-q.was _ c.main_type.ensures

pub returns-in_err-name : goal.returns-in_err-name
unfolding step_says grows
returns-in_err-name c = rw (erred c.from_residual.ensures.1) (record {
  answer = λ k e. input_unnamed _ _ k _ _ _ _ c.read_name.ensures c.in_err-name.was;
  grown = tt;
  kept = keeps_all _ _;
  memory = recalled_none c.requires.recalling;
})

pub returns : goal.returns
returns c =
    let e = c.with_odd.ensures in
    record {
      answer = λ k i. ap (step_says _ _) c.counting.ensures
          ∙ input_goes _ _ k _ _ _ _ c.read_name.ensures c.in_ok-name.was e _ _ c.define.ensures.answer c.in_ok-q.was _
          (c.main_type.ensures k _ i);
      grown = rw c.counting.ensures (input_grows _ _ (odd_grows _ _ e _ c.define.ensures.grown) c.in_ok-q.was _);
      kept = odd_keeps _ _ e c.define.ensures.kept;
      memory = c.define.ensures.memory;
    }
