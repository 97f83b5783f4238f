use native.Mathlib.Omega.{arith}
use mathlib.Core.Path.{ap, ◌∙◌}
use Rattle.varint.proofs.Answers.{erred}
use Rattle.index.proofs.ListingLaws.{held_then}
use Rattle.signatures.specs.Signature.{attributes_says}
use Rattle.signatures.proofs.AnswerLaws.{refused_none, told_listed, told_few, counting_as, counting_lists, room}
use Rattle.signatures.proofs.CountLaws.{attributes_few, defaults_few, names_both}
use Rattle.signatures.proofs.SignatureLaws.{attributes_refused, attributes_listed}
use Rattle.signatures.proofs.signatures.all_attributes.Goals as goal

pub returns-in_err-l : goal.returns-in_err-l
unfolding attributes_says
returns-in_err-l c = record {
  answer = λ w. ap (attributes_says w) (erred c.from_residual.ensures.1)
      ∙ attributes_refused _ _ c.attribute_names.ensures.answer c.in_err-l.was w;
  listed = refused_none (erred c.from_residual.ensures.1) _ _ _ _ _;
  held = c.attribute_names.ensures.held;
}

pub defaults-requires : goal.defaults-requires
defaults-requires c = record {
  listed_2 = told_listed _ _ _ _ _ c.attribute_names.ensures.listed c.in_ok-l.was;
  model_len_bound = c.requires.model_len_bound;
  next_in_bounds = c.requires.next_in_bounds;
}

pub counting-requires : goal.counting-requires
counting-requires c =
    let first = attributes_few c.args.model.now c.args.f in
    let second = defaults_few c.args.model.now c.args.f in
    room _ _ (told_few _ _ _ _ _ c.attribute_names.ensures.listed c.in_ok-l.was) _ _ _ _ _ c.defaults.ensures.listed
    (omega arith)

pub returns : goal.returns
returns c =
    let few = told_few _ _ _ _ _ c.attribute_names.ensures.listed c.in_ok-l.was in record {
      answer = λ w. counting_as _ _ c.counting.ensures w
          ∙ attributes_listed _ _ c.attribute_names.ensures.answer c.in_ok-l.was _ c.defaults.ensures.answer w;
      listed = rw (names_both c.args.model.now c.args.f)
          (counting_lists _ _ c.counting.ensures few _ _ _ _ _ c.defaults.ensures.listed);
      held = held_then c.attribute_names.ensures.held c.defaults.ensures.held;
    }
