use Rattle.index.specs.Bucket.{number}
use mathlib.Core.Path.{◌≡◌}
use Prim.Native.Nat.{◌^◌, ◌<◌}
use Rattle.index.proofs.buckets.hash_of.Given as goal

abbrev pub invariant-loop-k : goal.invariant-loop-k
invariant-loop-k l = (l.h ≡ number l.base l.s l.k) × (l.h < 2 ^ 33)
