use Rattle.varint.proofs.Answers.{erred, passed_on}
use mathlib.Core.Path.{subst, ◌∙◌}
use Rattle.scope.specs.Scope.{step_says, grows}
use Rattle.scope.proofs.RecallLaws.{recalled_none}
use Rattle.scope.proofs.ScopeLaws.{keeps_all}
use Rattle.scope.proofs.RecordLaws.{tensor_name, name_first}
use Rattle.scope.proofs.StepLaws.{refused_says, refused_grows, odd_grows, odd_keeps}
use Rattle.values.proofs.NameLaws.{named_some, named_first, named_few}
use Rattle.parts.proofs.InitializerLaws.{initializer_unnamed, initializer_stops, initializer_mistyped, initializer_goes, initializer_fits}
use Rattle.parts.proofs.initializers.initializer.Goals as goal

pub with_odd-t-requires : goal.with_odd-t-requires
with_odd-t-requires c = initializer_fits _ _ _ c.requires.countable (named_few _ _ _ _ _ c.read_name.ensures c.in_ok-name.was)

pub declare-requires : goal.declare-requires
declare-requires c = record {
  direct = name_first c.requires.walked tensor_name (named_first _ _ _ _ _ c.read_name.ensures c.in_ok-name.was);
  model_len_bound = c.requires.model_len_bound;
  recalling = c.requires.recalling;
  defaultable = c.requires.defaultable;
  listed = c.requires.listed;
  name_value = named_some _ _ _ _ _ c.read_name.ensures c.in_ok-name.was;
}

pub returns-in_err-q : goal.returns-in_err-q
returns-in_err-q c =
    let e = c.with_odd-t.ensures in
    rw (passed_on _ c.in_err-q.was c.from_residual-in_err-q.ensures.1) (record {
      answer = initializer_stops _ _ _ _ _ _ _ _ c.read_name.ensures c.in_ok-name.was e _ _ c.declare.ensures.answer
          c.in_err-q.was;
      grown = odd_grows _ _ e _ c.declare.ensures.grown;
      kept = odd_keeps _ _ e c.declare.ensures.kept;
      memory = c.declare.ensures.memory;
    })

pub returns-then-is_element : goal.returns-then-is_element
unfolding step_says
returns-then-is_element c =
    let e = c.with_odd-t.ensures in
    record {
      answer = initializer_goes _ _ _ _ _ _ _ _ c.read_name.ensures c.in_ok-name.was e _ _ c.declare.ensures.answer c.in_ok-q.was
          c.number_of.ensures c.is_element.ensures c.if-is_element.true;
      grown = subst (grows _) c.in_ok-q.was (odd_grows _ _ e _ c.declare.ensures.grown);
      kept = odd_keeps _ _ e c.declare.ensures.kept;
      memory = c.declare.ensures.memory;
    }

pub returns-in_err-name : goal.returns-in_err-name
unfolding step_says grows
returns-in_err-name c = rw (erred c.from_residual.ensures.1) (record {
  answer = initializer_unnamed _ _ _ _ _ _ _ _ c.read_name.ensures c.in_err-name.was;
  grown = tt;
  kept = keeps_all _ _;
  memory = recalled_none c.requires.recalling;
})

pub returns : goal.returns
returns c =
    let e = c.with_odd-t.ensures in
    record {
      answer = refused_says c.refused.ensures _ _
          ∙ initializer_mistyped _ _ _ _ _ _ _ _ c.read_name.ensures c.in_ok-name.was e _ _ c.declare.ensures.answer
          c.in_ok-q.was c.number_of.ensures c.is_element.ensures c.if-is_element.false c.place_of.ensures;
      grown = refused_grows c.refused.ensures _;
      kept = odd_keeps _ _ e c.declare.ensures.kept;
      memory = c.declare.ensures.memory;
    }
