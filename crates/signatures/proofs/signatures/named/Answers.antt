use native.Mathlib.Omega.{arith}
use mathlib.Core.Path.{ap, ◌∙◌}
use Rattle.varint.proofs.Answers.{erred}
use Rattle.index.proofs.ListingLaws.{held_all}
use Rattle.values.proofs.NameLaws.{named_few}
use Rattle.signatures.specs.Signature.{attributes_says}
use Rattle.signatures.proofs.AnswerLaws.{refused_none, counting_as, counting_lists, room}
use Rattle.signatures.proofs.CountLaws.{attributes_few, defaults_few, names_both}
use Rattle.signatures.proofs.SignatureLaws.{function_misnamed, function_twice, function_once}
use Rattle.signatures.proofs.signatures.named.Goals as goal

pub returns-in_err-odd : goal.returns-in_err-odd
unfolding attributes_says
returns-in_err-odd c =
    record {
      answer = λ w. ap (attributes_says w) (erred c.from_residual.ensures.1)
          ∙ function_misnamed _ _ _ c.read_name.ensures c.in_err-odd.was w;
      listed = refused_none (erred c.from_residual.ensures.1) _ _ _ _ _;
      held = held_all c.requires.indexed (omega arith);
    }

pub returns-then-twice : goal.returns-then-twice
unfolding attributes_says
returns-then-twice c =
    record {
      answer = λ w. ap (attributes_says w) c.refused.ensures
          ∙ function_twice _ _ _ c.read_name.ensures c.in_ok-odd.was w c.if-twice.true;
      listed = refused_none c.refused.ensures _ _ _ _ _;
      held = held_all c.requires.indexed (omega arith);
    }

pub counting-requires : goal.counting-requires
counting-requires c =
    let first = attributes_few c.args.model.now c.args.f in
    let second = defaults_few c.args.model.now c.args.f in
    let both = names_both c.args.model.now c.args.f in
    room _ _ (named_few _ _ _ _ _ c.read_name.ensures c.in_ok-odd.was) _ _ _ _ _ c.all_attributes.ensures.listed (omega arith)

pub returns : goal.returns
returns c =
    record {
      answer = λ w. counting_as _ _ c.counting.ensures w
          ∙ function_once _ _ _ c.read_name.ensures c.in_ok-odd.was w c.if-twice.false (c.all_attributes.ensures.answer _);
      listed = counting_lists _ _ c.counting.ensures (named_few _ _ _ _ _ c.read_name.ensures c.in_ok-odd.was)
          _ _ _ _ _ c.all_attributes.ensures.listed;
      held = c.all_attributes.ensures.held;
    }
