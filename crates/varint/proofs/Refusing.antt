-- A rule before others: broken, it decides; kept, it is passed over.
use Prim.Native.Nat.{ℕ}
use mathlib.Core.Path.{◌≡◌, ap}
use mathlib.Core.Bool.{Bool, true, false}
use Rattle.varint.specs.Outcome.{pass, ◌>>◌, Judged, refused, refuse◌at:◌when:◌}

module _ {A : Type 0} (n p : ℕ) {b : Bool} (o : Judged A) where
  pub when_broken : b ≡ true → (refuse n at: p when: b >> o) ≡ refused n p
  unfolding ◌>>◌ refuse◌at:◌when:◌
  when_broken e = ap (λ (t : Bool). refuse n at: p when: t >> o) e

  pub when_kept : b ≡ false → (refuse n at: p when: b >> o) ≡ o
  unfolding ◌>>◌ refuse◌at:◌when:◌
  when_kept e = ap (λ (t : Bool). refuse n at: p when: t >> o) e

module _ (n p : ℕ) {b : Bool} where
  pub broken : b ≡ true → refuse n at: p when: b ≡ refused n p
  unfolding refuse◌at:◌when:◌
  broken e = ap (λ (t : Bool). refuse n at: p when: t) e

  pub kept : b ≡ false → refuse n at: p when: b ≡ pass tt
  unfolding refuse◌at:◌when:◌
  kept e = ap (λ (t : Bool). refuse n at: p when: t) e
