-- What an outcome tells: a value has one property, a fault has another. One law for each way in which outcomes are put together.
use Prim.Native.Nat.{ℕ}
use mathlib.Core.Path.{◌≡◌, refl, ap, ◌∙◌}
use mathlib.Core.Bool.{Bool, true, false, not}
use mathlib.Core.List.{List, [], ◌∷◌}
use mathlib.Core.Option.{Option, none, some}
use lib.Dec.{T}
use Rattle.varint.specs.Outcome.{Outcome, pass, fail, ◌>>=◌, ◌>>◌, each, Judged, refuse◌at:◌when:◌, refuse◌at:◌first:◌when:◌}
use Rattle.varint.specs.declared.Refusal.{Refusal}
use Rattle.varint.specs.Lists.{contains}
use Rattle.varint.proofs.Lists.{All, If}

abbrev pub Tells : {E A : Type 0} → (A → Type 0) → (E → Type 0) → Outcome E A → Type 0
Tells Q P (pass a) = Q a
Tells Q P (fail e) = P e

-- Any value will do.
abbrev pub Any : {A : Type 0} → A → Type 0
Any a = Unit {0}

pub any_all : {A : Type 0} (l : List A) → All Any l
any_all [] = tt
any_all (a ∷ l) = (tt, any_all l)

-- A refusal with one of these numbers, at a place that has the property, and no second number.
abbrev pub Among : List ℕ → (ℕ → Type 0) → Refusal → Type 0
Among numbers Q r = T (contains r.number numbers) × Q r.place × (r.first ≡ 0)

pub anything : {E A : Type 0} (o : Outcome E A) → Tells Any Any o
anything (pass a) = tt
anything (fail e) = tt

module _ {E A B : Type 0} (Q : A → Type 0) (R : B → Type 0) (P : E → Type 0) where
  pub tells_bind : (o : Outcome E A) (f : A → Outcome E B) → Tells Q P o → ((a : A) → Q a → Tells R P (f a)) → Tells R P (o >>= f)
  unfolding ◌>>=◌
  tells_bind (pass a) f t k = k a t
  tells_bind (fail e) f t k = t

module _ {E A : Type 0} (Q R : A → Type 0) (P S : E → Type 0) where
  pub tells_weaken : (o : Outcome E A) → ((a : A) → Q a → R a) → ((e : E) → P e → S e) → Tells Q P o → Tells R S o
  tells_weaken (pass a) f g t = f a t
  tells_weaken (fail e) f g t = g e t

module _ {E B : Type 0} (R : B → Type 0) (P : E → Type 0) where
  pub tells_seq : (o : Outcome E (Unit {0})) (k : Outcome E B) → Tells Any P o → Tells R P k → Tells R P (o >> k)
  unfolding ◌>>◌
  tells_seq (pass u) k t h = h
  tells_seq (fail e) k t h = t

  pub tells_if : (b : Bool) (x y : Outcome E B) → (T b → Tells R P x) → (T (not b) → Tells R P y) → Tells {A = B} R P (elim b [ true ↦ x | false ↦ y ])
  tells_if true x y h k = h tt
  tells_if false x y h k = k tt

  pub tells_option : {X : Type 0} (Q : X → Type 0) (o : Option X) (x : Outcome E B) (k : X → Outcome E B)
      → If Q o → Tells R P x → ((a : X) → Q a → Tells R P (k a))
      → Tells {A = B} R P (elim o [ none ↦ x | some a ↦ k a ])
  tells_option Q none x k q h i = h
  tells_option Q (some a) x k q h i = i a q

-- A rule that is broken, or the rest of what follows it.
module _ {B : Type 0} (R : B → Type 0) (P : Refusal → Type 0) where
  pub tells_rule : (n p : ℕ) (b : Bool) (k : Judged B) → (T b → P (record { number = n; place = p; first = 0 })) → (T (not b) → Tells R P k) → Tells R P (refuse n at: p when: b >> k)
  unfolding ◌>>◌ refuse◌at:◌when:◌
  tells_rule n p true k h i = h tt
  tells_rule n p false k h i = i tt

  pub tells_first : (n p q : ℕ) (b : Bool) (k : Judged B)
      → (T b → P (record { number = n; place = p; first = q })) → (T (not b) → Tells R P k)
      → Tells R P (refuse n at: p first: q when: b >> k)
  unfolding ◌>>◌ refuse◌at:◌first:◌when:◌
  tells_first n p q true k h i = h tt
  tells_first n p q false k h i = i tt

pub tells_last : (P : Refusal → Type 0) (n p : ℕ) (b : Bool) → (T b → P (record { number = n; place = p; first = 0 })) → Tells Any P (refuse n at: p when: b)
unfolding refuse◌at:◌when:◌
tells_last P n p true h = h tt
tells_last P n p false h = tt

-- A property of the state that each step keeps, over elements that all have another.
module _ {E A S : Type 0} (Q : A → Type 0) (R : S → Type 0) (P : E → Type 0) where
  pub tells_each : (step : S → A → Outcome E S) → ((s : S) (a : A) → R s → Q a → Tells R P (step s a)) → (list : List A) → All Q list → (s : S) → R s → Tells R P (each step s list)
  unfolding each
  tells_each step one [] q s r = r
  tells_each step one (a ∷ more) q s r =
      tells_bind R R P (step s a) (λ t. each step t more) (one s a r q.0) (λ t k. tells_each step one more q.1 t k)

-- steps that agree on each element
module _ {E A S : Type 0} (Q : A → Type 0) (step move : S → A → Outcome E S) (agree : (s : S) (a : A) → Q a → step s a ≡ move s a) where
  pub each_agree : (list : List A) → All Q list → (s : S) → each step s list ≡ each move s list
  unfolding each
  each_agree [] q s = refl
  each_agree (a ∷ more) q s =
      ap (λ (o : Outcome E S). o >>= λ t. each step t more) (agree s a q.0) ∙ ap (λ (f : S → Outcome E S). move s a >>= f) (λ i t. each_agree more q.1 t i)
