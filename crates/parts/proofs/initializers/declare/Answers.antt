use Rattle.scope.proofs.StepLaws.{refused_says, refused_grows}
use native.Mathlib.Omega.{arith}
use mathlib.Core.Path.{◌∙◌}
use Rattle.scope.specs.Scope.{step_says, grows}
use Rattle.scope.proofs.ScopeLaws.{keeps_all}
use Rattle.scope.proofs.RecallLaws.{recalled_none}
use Rattle.parts.proofs.InitializerLaws.{declare_lacks, declare_default, declare_new}
use Rattle.parts.proofs.initializers.declare.Goals as goal

pub bears_input-own-requires : goal.bears_input-own-requires
bears_input-own-requires c = record { recalling = c.requires.recalling; name_value = rw c.text.ensures c.requires.name_value }

pub returns-then-lacks_input : goal.returns-then-lacks_input
returns-then-lacks_input c = record {
  answer = refused_says c.refused.ensures _ _
      ∙ declare_lacks _ _ _ _ _ _ _ c.text.ensures (c.bears_input-own.ensures _ c.requires.defaultable) (c.lacks_input.ensures _)
      c.if-lacks_input.true;
  grown = refused_grows c.refused.ensures _;
  kept = keeps_all _ _;
  memory = recalled_none c.requires.recalling;
}

pub is_default-requires : goal.is_default-requires
is_default-requires c = record {
  split_in_bounds = c.requires.recalling.both.fits;
  listed = c.requires.listed;
  name_value = rw c.text-2.ensures c.requires.name_value;
}

pub returns-then-is_default : goal.returns-then-is_default
unfolding step_says grows
returns-then-is_default c = record {
  answer = declare_default _ _ _ _ _ _ _ c.text.ensures (c.bears_input-own.ensures _ c.requires.defaultable)
      (c.lacks_input.ensures _) c.if-lacks_input.false c.text-2.ensures c.is_default.ensures c.if-is_default.true;
  grown = omega arith;
  kept = keeps_all _ _;
  memory = recalled_none c.requires.recalling;
}

pub define-requires : goal.define-requires
define-requires c = record {
  direct = c.requires.direct;
  name_value = c.requires.name_value;
  model_len_bound = c.requires.model_len_bound;
  recalling = c.requires.recalling;
}

pub returns : goal.returns
returns c = record {
  answer = c.define.ensures.answer
      ∙ declare_new _ _ _ _ _ _ _ c.text.ensures (c.bears_input-own.ensures _ c.requires.defaultable) (c.lacks_input.ensures _)
      c.if-lacks_input.false c.text-2.ensures c.is_default.ensures c.if-is_default.false;
  grown = c.define.ensures.grown;
  kept = c.define.ensures.kept;
  memory = c.define.ensures.memory;
}
