use native.Mathlib.Omega.{arith}
use mathlib.Core.Path.{sym, subst, ◌∙◌}
use Rattle.varint.proofs.Answers.{erred}
use Rattle.wire.proofs.Along.{along_contents}
use Rattle.index.specs.Listing.{Listed}
use Rattle.index.proofs.ListingLaws.{held_all, held_fewer, held_then}
use Rattle.values.specs.Answers.{tally_says}
use Rattle.values.proofs.TallyLaws.{tallying_start, tallying_done, tallying_stops, tallying_goes, tallying_falls}
use Rattle.headers.proofs.BehindLaws.{behind_start, behind_found, behind_next, behind_done}
use Rattle.signatures.specs.Signature.{attributes_says, lists_all}
use Rattle.signatures.proofs.AnswerLaws.{refused_as, refused_none}
use Rattle.signatures.proofs.CountLaws.{default_few, defaults_few, tallied_few, tallied_sum}
use Rattle.signatures.proofs.AroundLaws.{before_second, all_first, all_second}
use Rattle.signatures.proofs.defaults.defaults.Goals as goal

pub loop-a-init : goal.loop-a-init
loop-a-init c = (
  tallying_start _ _ _ _ _ _,
  behind_start _ _ _ (subst (Listed _ _ _ _) (all_first _ _) c.requires.listed_2) c.contents-c.ensures,
  held_all c.requires.listed_2.index (omega arith),
)

pub returns : goal.returns
unfolding tally_says attributes_says lists_all
returns c =
    record {
      answer = λ w. tallying_done c.loop-a.invariant.0 c.next_of.ensures c.in_default.is w tt
          ∙ along_contents _ _ _ _ _ c.contents-c.ensures;
      listed = (
        subst (Listed _ _ _ _) (sym (all_second _ _)) (behind_done c.loop-a.invariant.1 c.next_of.ensures c.in_default.is),
        tallied_few c.loop-a.invariant.0 _ c.contents-c.ensures,
      );
      held = c.loop-a.invariant.2;
    }

pub default_name-requires : goal.default_name-requires
default_name-requires c =
    subst (Listed _ _ _ _) (sym (before_second _ _ _)) (behind_found c.loop-a.invariant.1 c.next_of.ensures c.in-Some.is)

pub returns-in_err-more : goal.returns-in_err-more
returns-in_err-more c =
    record {
      answer = λ w. refused_as (erred c.from_residual.ensures.1) c.in_err-more.was w
          ∙ tallying_stops c.loop-a.invariant.0 c.next_of.ensures c.in-Some.is (λ v _. tt)
          (λ v _. c.default_name.ensures v)
          c.in_err-more.was w tt
          ∙ along_contents _ _ _ _ _ c.contents-c.ensures;
      listed = refused_none (erred c.from_residual.ensures.1) _ _ _ _ _;
      held = c.loop-a.invariant.2;
    }

pub list_name-l-requires : goal.list_name-l-requires
list_name-l-requires c = record {
  indexed = c.loop-a.invariant.1.listed.index;
  top_bound = c.loop-a.invariant.1.listed.fits;
  model_len_bound = c.requires.model_len_bound;
}

pub overflow_add-odd : goal.overflow_add-odd
overflow_add-odd c =
    let sum = tallied_sum c.loop-a.invariant.0 _ c.contents-c.ensures c.next_of.ensures c.in-Some.is
    (default_few _ _ _ c.default_name.ensures c.in_ok-more.was) in
    let few = defaults_few c.args.model.now c.args.f in
    omega arith

pub loop-a-smaller : goal.loop-a-smaller
loop-a-smaller c = tallying_falls c.loop-a.invariant.0 c.next_of.ensures c.in-Some.is

pub loop-a-preserved : goal.loop-a-preserved
loop-a-preserved c = (
  tallying_goes c.loop-a.invariant.0 c.next_of.ensures c.in-Some.is (λ v _. tt) (λ v _. c.default_name.ensures v)
      c.in_ok-more.was
      (default_few _ _ _ c.default_name.ensures c.in_ok-more.was),
  behind_next c.loop-a.invariant.1 c.next_of.ensures c.in-Some.is c.list_name-l.ensures,
  held_then c.loop-a.invariant.2 (held_fewer (omega arith) c.list_name-l.ensures.held),
)
