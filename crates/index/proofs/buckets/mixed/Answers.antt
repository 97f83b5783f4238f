use Prim.Native.Nat.{ℕ, ◌+◌, ◌*◌, ◌/◌, ◌%◌}
use native.Mathlib.Omega.{arith}
use native.Mathlib.Nat.{mod-lt}
use mathlib.Core.Path.{ap}
use lib.Dec.{lit<}
use Rattle.index.specs.Bucket.{PRIME, mixed}
use Rattle.index.proofs.BucketLaws.{scale_fits, scale_lt}
use Rattle.index.proofs.buckets.mixed.Goals as goal

pub overflow_mul-result : goal.overflow_mul-result
overflow_mul-result c =
    omega (
      arith,
      scale_fits c.args.x c.hash_of-h.result (c.args.seed / 4294967296 % 2147483646 + 1) c.requires c.hash_of-h.ensures.1
          (scale_lt _),
    )

pub returns : goal.returns
unfolding mixed
returns c = (
  ap (λ (h : ℕ). (c.args.x + h) * (c.args.seed / 4294967296 % 2147483646 + 1) % PRIME) c.hash_of-h.ensures.0,
  mod-lt _ (lit< tt),
)
