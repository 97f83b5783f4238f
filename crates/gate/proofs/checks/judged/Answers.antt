use mathlib.Core.Path.{◌∙◌, ap, refl, sym}
use Rattle.varint.proofs.Answers.{erred}
use Rattle.rules.proofs.Size.{size_fits}
use Rattle.gate.specs.Meaning.{meaning}
use Rattle.gate.proofs.CheckLaws.{walk_sound, verdict_large, verdict_unsound, verdict_unwalked, verdict_refused, verdict_accepted}
use Rattle.gate.proofs.checks.judged.Goals as goal

pub returns-then-is_too_large : goal.returns-then-is_too_large
unfolding meaning
returns-then-is_too_large c = record {
  answer = ap meaning c.refused.ensures ∙ verdict_large _ _ _ c.is_too_large.ensures c.if-is_too_large.true;
  size = refl;
}

pub returns-then-not-is_sound : goal.returns-then-not-is_sound
unfolding meaning
returns-then-not-is_sound c = record {
  answer = ap meaning c.refused-then-not-is_sound.ensures
      ∙ verdict_unsound _ _ _ c.is_too_large.ensures c.if-is_too_large.false c.is_sound.ensures c.if-not-is_sound.true;
  size = refl;
}

pub second_walk-requires : goal.second_walk-requires
second_walk-requires c = record {
  extra_value = c.requires.extra_value;
  split_in_bounds = c.requires.split_in_bounds;
  model_len_bound = size_fits c.args.model.now (sym c.is_too_large.ensures ∙ c.if-is_too_large.false);
  model_value = walk_sound _ c.first_walk.ensures c.in_ok-first_walk.was;
}

pub returns-in_err-first_walk : goal.returns-in_err-first_walk
unfolding meaning
returns-in_err-first_walk c = rw (erred c.from_residual.ensures.1) (record {
  answer = verdict_unwalked _ _ _ c.is_too_large.ensures c.if-is_too_large.false c.is_sound.ensures c.if-not-is_sound.false _
      c.first_walk.ensures c.in_err-first_walk.was;
  size = refl;
})

pub returns-in_err-p : goal.returns-in_err-p
unfolding meaning
returns-in_err-p c =
    rw (erred c.from_residual-in_err-p.ensures.1) (record {
      answer = verdict_refused _ _ _ c.is_too_large.ensures c.if-is_too_large.false c.is_sound.ensures c.if-not-is_sound.false _
          c.first_walk.ensures
          c.in_ok-first_walk.was _ _ c.second_walk.ensures.answer c.in_err-p.was;
      size = c.second_walk.ensures.size;
    })

pub returns : goal.returns
unfolding meaning
returns c =
    record {
      answer = verdict_accepted _ _ _ c.is_too_large.ensures c.if-is_too_large.false c.is_sound.ensures c.if-not-is_sound.false _
          c.first_walk.ensures
          c.in_ok-first_walk.was _ _ c.second_walk.ensures.answer c.in_ok-p.was;
      size = c.second_walk.ensures.size;
    }
