use Rattle.index.proofs.BucketLaws.{three_mixed}
use Rattle.index.proofs.buckets.bucket_of_three.Goals as goal

pub returns : goal.returns
returns c =
    (three_mixed _ _ _ _ _ c.mixed-x.ensures.0 c.mixed-y.ensures.0 c.mixed-z.ensures.0 c.scaled.ensures.0, c.scaled.ensures.1)
