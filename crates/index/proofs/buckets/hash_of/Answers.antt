use Rattle.index.proofs.BucketLaws.{digit_fits, number_start, number_next, number_end, digit_inside}
use Rattle.index.specs.Bucket.{PRIME}
use lib.Dec.{lit<}
use lib.ListN.{length}
use mathlib.Core.Path.{refl}
use native.Mathlib.Nat.{mod-lt}
use native.Mathlib.Omega.{arith}
use Rattle.index.proofs.buckets.hash_of.Goals as goal

pub loop-k-init : goal.loop-k-init
loop-k-init c = (number_start _ _, omega (arith, mod-lt (length c.args.s.now) {m = PRIME} (lit< tt)))

pub overflow_mul-h : goal.overflow_mul-h
overflow_mul-h c = omega (arith, digit_fits c.loop-k.h c.args.base c.loop-k.invariant.1 c.requires)

pub digit_at-requires : goal.digit_at-requires
digit_at-requires c = digit_inside _ _ _ refl c.loop-k-test.true

pub overflow_add-h : goal.overflow_add-h
overflow_add-h c = omega (arith, digit_fits c.loop-k.h c.args.base c.loop-k.invariant.1 c.requires, c.digit_at.ensures.1)

pub fold-h-requires : goal.fold-h-requires
fold-h-requires c = omega (arith, digit_fits c.loop-k.h c.args.base c.loop-k.invariant.1 c.requires, c.digit_at.ensures.1)

pub loop-k-preserved : goal.loop-k-preserved
loop-k-preserved c = (number_next _ _ _ c.loop-k.invariant.0 c.digit_at.ensures.0 c.fold-h.ensures.0, c.fold-h.ensures.1)

pub returns : goal.returns
returns c = (number_end _ _ _ refl c.loop-k.invariant.0 c.loop-k.auto.k-end c.loop-k-test.false, mod-lt _ (lit< tt))
