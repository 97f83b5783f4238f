use native.Mathlib.Omega.{arith}
use mathlib.Core.Path.{ap, ◌∙◌}
use Rattle.varint.specs.Lists.{is_empty}
use Rattle.scope.specs.Scope.{grows}
use Rattle.scope.proofs.ScopeLaws.{define_twice, define_full, define_new, keeps_all, keeps_stored}
use Rattle.scope.proofs.StepLaws.{refused_says, refused_grows}
use Rattle.scope.proofs.RecordLaws.{direct_fits}
use Rattle.scope.proofs.RecallLaws.{recalled_none, recalled_more}
use Rattle.scope.proofs.remembered.define.Goals as goal

pub find-requires : goal.find-requires
find-requires c = record {
  recalling = c.requires.recalling;
  name_value = ap is_empty c.text.ensures ∙ c.requires.name_value;
}

pub returns-in-Some : goal.returns-in-Some
returns-in-Some c = record {
  answer = c.repeated.ensures.answer _ _ ∙ define_twice _ _ _ _ _ c.text.ensures _ c.find.ensures c.in-Some.is;
  grown = c.repeated.ensures.grown _;
  kept = keeps_all _ _;
  memory = recalled_none c.requires.recalling;
}

pub returns-then-room-used : goal.returns-then-room-used
returns-then-room-used c = let full = rw c.room.ensures at c.if-room-used.true in
    record {
      answer = refused_says c.refused.ensures _ _ ∙ define_full _ _ _ _ _ c.text.ensures _ c.find.ensures c.in_default.is full;
      grown = refused_grows c.refused.ensures _;
      kept = keeps_all _ _;
      memory = recalled_none c.requires.recalling;
    }

pub store-requires : goal.store-requires
store-requires c = record {
  i_bound = rw c.room.ensures at c.if-room-used.false;
  place_bound = direct_fits _ _ c.requires.direct _ c.requires.model_len_bound;
}

pub returns : goal.returns
unfolding grows
returns c =
    let fits = rw c.room.ensures at c.if-room-used.false in
    let direct = c.requires.direct in
    record {
      answer = define_new _ _ _ _ _ c.text.ensures _ c.find.ensures c.in_default.is direct _ c.store.ensures _ c.max.ensures fits;
      grown = omega arith;
      kept = keeps_stored _ _ _ _ c.store.ensures;
      memory = recalled_more c.requires.recalling _ fits c.args.name direct c.store.ensures c.remember.ensures;
    }
