use Prim.Native.Nat.{ℕ, ◌*◌, ◌/◌}
use mathlib.Core.Path.{ap, ◌∙◌}
use Rattle.index.specs.Bucket.{bucket}
use Rattle.index.proofs.buckets.bucket_of.Goals as goal

pub returns : goal.returns
unfolding bucket
returns c = (c.scaled.ensures.0 ∙ ap (λ (x : ℕ). x * c.args.size / 2147483648) c.mixed.ensures.0, c.scaled.ensures.1)
