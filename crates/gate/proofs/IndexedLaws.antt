-- Extra cells: how many there are, tested by a quotient.
use Prim.Native.Nat.{ℕ, ◌*◌, ◌/◌, ◌≤◌, ◌<◌}
use native.Mathlib.Omega.{arith}
use mathlib.Core.Path.{◌≡◌, sym, ap}
use mathlib.Core.Bool.{Bool, true, false}
use borrow.Author.Tests.{lt-ltb, le-ltb}
use Rattle.varint.specs.Outcome.{Judged, refused}
use Rattle.rules.specs.Verdict.{Counts}
use Rattle.gate.specs.Meaning.{indexed}

pub indexed_few : {n extra : ℕ} (cells : ℕ) (v : Judged Counts) → n ≡ extra → n / 4 < cells → refused 65 0 ≡ indexed extra cells v
unfolding indexed
indexed_few {n} {extra} cells v e h = ap (λ (t : Bool). elim t [ true ↦ refused 65 0 | false ↦ v ]) (sym (lt-ltb extra (4 * cells) (omega arith)))

pub indexed_enough : {n extra : ℕ} (cells : ℕ) (v : Judged Counts) → n ≡ extra → cells ≤ n / 4 → v ≡ indexed extra cells v
unfolding indexed
indexed_enough {n} {extra} cells v e h = ap (λ (t : Bool). elim t [ true ↦ refused 65 0 | false ↦ v ]) (sym (le-ltb extra (4 * cells) (omega arith)))
