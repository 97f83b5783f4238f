-- All that is known of the limit of a model's size where it is not computed with: no proof elsewhere has the number.
use Prim.Native.Nat.{◌^◌, ◌<◌}
use native.Mathlib.Omega.{arith}
use mathlib.Core.Path.{◌≡◌}
use mathlib.Core.Bool.{false}
use lib.ListN.{length}
use lib.Dec.{ltb, lit<}
use borrow.Author.Tests.{ltb-false}
use Rattle.varint.specs.Bytes.{Bytes}
use Rattle.rules.specs.Verdict.{LARGEST}

largest_short : LARGEST < 2 ^ 31
unfolding LARGEST
largest_short = lit< tt

pub largest_some : 0 < LARGEST
unfolding LARGEST
largest_some = lit< tt

pub size_short : (model : Bytes) → ltb LARGEST (length model) ≡ false → length model < 2 ^ 31
size_short model e = omega (arith, largest_short, ltb-false LARGEST (length model) e)

-- so places and lengths fit a cell
pub size_fits : (model : Bytes) → ltb LARGEST (length model) ≡ false → length model < 2 ^ 32
size_fits model e = omega (arith, size_short model e)
