use mathlib.Core.Path.{◌≡◌}
use Prim.Native.Nat.{◌*◌}
use lib.ListN.{drop}
use Rattle.varint.specs.Bytes.{same}
use Rattle.varint.proofs.slices.same_bytes.Given as goal

abbrev pub invariant-loop-i : goal.invariant-loop-i
invariant-loop-i l = same (drop (8 * l.i) l.fn.a) (drop (8 * l.i) l.fn.b) ≡ same l.fn.a l.fn.b
