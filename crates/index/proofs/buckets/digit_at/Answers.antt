use native.Mathlib.Omega.{arith}
use Rattle.index.proofs.BucketLaws.{digit_of}
use Rattle.index.proofs.buckets.digit_at.Goals as goal

pub returns : goal.returns
returns c = (digit_of _ _ c.byte_at.ensures.0 c.byte_at-2.ensures.0 c.byte_at-3.ensures.0, omega arith)
