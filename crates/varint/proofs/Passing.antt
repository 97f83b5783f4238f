-- What follows where a chain of rules has passed: each of them did.
use Prim.Native.Nat.{ℕ}
use mathlib.Core.Path.{◌≡◌, refl, sym, subst}
use mathlib.Core.Bool.{Bool, true, false, not}
use lib.Dec.{T}
use Rattle.varint.specs.Outcome.{Outcome, pass, fail, ◌>>=◌, ◌>>◌, refuse◌at:◌when:◌}
use Rattle.varint.proofs.Tells.{Tells}

-- a fault is no pass
abbrev Passes : {E A : Type 0} → Outcome E A → Type 0
Passes (pass a) = Unit {0}
Passes (fail e) = ⊥

pub fail_no_pass : {E A : Type 0} (e : E) (a : A) → ◌≡◌ {A = Outcome E A} (fail e) (pass a) → ⊥
fail_no_pass e a p = subst Passes (sym p) tt

pub pass_same : {E A : Type 0} (a b : A) → ◌≡◌ {A = Outcome E A} (pass a) (pass b) → a ≡ b
pass_same a b e = cc

pub fail_same : {E A : Type 0} (e f : E) → ◌≡◌ {A = Outcome E A} (fail e) (fail f) → e ≡ f
fail_same e f k = cc

pub passed_bind : {E A B : Type 0} (o : Outcome E A) (f : A → Outcome E B) (b : B) → (o >>= f) ≡ pass b → (a : A) × (o ≡ pass a) × (f a ≡ pass b)
unfolding ◌>>=◌
passed_bind (pass a) f b p = (a, refl, p)
passed_bind (fail e) f b p = absurd (fail_no_pass e b p)

pub passed_seq : {E B : Type 0} (o : Outcome E (Unit {0})) (k : Outcome E B) (b : B) → (o >> k) ≡ pass b → (o ≡ pass tt) × (k ≡ pass b)
unfolding ◌>>◌
passed_seq (pass u) k b p = (refl, p)
passed_seq (fail e) k b p = absurd (fail_no_pass e b p)

pub passed_rule : (n p : ℕ) (b : Bool) → refuse n at: p when: b ≡ pass tt → T (not b)
unfolding refuse◌at:◌when:◌
passed_rule n p true e = fail_no_pass _ tt e
passed_rule n p false e = tt

-- a value that passed has what the outcome tells of it
pub passed_tells : {E A : Type 0} (Q : A → Type 0) (P : E → Type 0) (o : Outcome E A) (a : A) → Tells Q P o → o ≡ pass a → Q a
passed_tells Q P o a t e = rw e at t
