-- A judge beside a runner: where the judge passes the runner does, and a refusal that is tied to a stop meets that stop. One law
-- for each way in which the two are put together.
use Prim.Native.Nat.{ℕ}
use mathlib.Core.Path.{◌≡◌, refl, sym, ap, ◌∙◌}
use mathlib.Core.Bool.{Bool, true, false, not, ◌||◌}
use mathlib.Core.List.{List, [], ◌∷◌, ◌++◌, map, flat_map}
use mathlib.Core.Option.{Option, none, some}
use lib.Dec.{T, T_not, not_T, eqb, eqb→eq}
use Rattle.varint.specs.Outcome.{Outcome, pass, fail, ◌>>=◌, ◌>>◌, each, Judged, Rule, refuse◌at:◌when:◌}
use Rattle.varint.specs.declared.Refusal.{Refusal}
use Rattle.varint.specs.Lists.{contains}
use Rattle.varint.proofs.Tells.{Tells, Any, Among, tells_weaken, tells_last}
use Rattle.rules.specs.Runner.{Stop, binding, reading}

-- "The refusals that demand 3 ties to a stop are 23, on a binding, and 30 and 35, on a read, and no others."
abbrev pub stop_of : Refusal → Option Stop
stop_of r = elim (eqb r.number 23) [
  | true ↦ some (binding r.place r.first)
  | false ↦ elim (eqb r.number 30 || eqb r.number 35) [ true ↦ some (reading r.place) | false ↦ none ]
]

abbrev pub TiedTo : {B : Type 0} → Option Stop → Outcome Stop B → Type 0
TiedTo none o = Unit {0}
TiedTo (some e) o = o ≡ fail e

abbrev pub Matches : {A B : Type 0} → (A → B → Type 0) → Judged A → Outcome Stop B → Type 0
Matches R (pass a) o = (b : _) × (o ≡ pass b) × R a b
Matches R (fail r) o = TiedTo (stop_of r) o

-- ---- rules that only the judge has: none of their refusals is tied to a stop

abbrev pub Quiet : {A : Type 0} → Judged A → Type 0
Quiet j = Tells Any (λ r. stop_of r ≡ none) j

-- none of 23, 30 and 35 is among the numbers
abbrev Untied : List ℕ → Type 0
Untied ns = T (not (contains 23 ns)) × T (not (contains 30 ns)) × T (not (contains 35 ns))

not_one_of : (n k : ℕ) (ns : List ℕ) → T (not (contains k ns)) → T (contains n ns) → T (not (eqb n k))
not_one_of n k ns h t = not_T (eqb n k) (λ e. T_not (contains n ns) (rw (← (eqb→eq n k e)) at h) t)

silent : (p q : ℕ) (a b c : Bool) → T (not a) → T (not b) → T (not c)
    → ◌≡◌ {A = Option Stop} (elim a [ true ↦ some (binding p q) | false ↦ elim (b || c) [ true ↦ some (reading p) | false ↦ none ] ]) none
silent p q true b c h i j = absurd h
silent p q false true c h i j = absurd i
silent p q false false true h i j = absurd j
silent p q false false false h i j = refl

pub told_among : {A : Type 0} (R : A → Type 0) (Q : ℕ → Type 0) (ns : List ℕ) (j : Judged A)
    → Untied ns → Tells R (Among ns Q) j → Tells R (λ r. stop_of r ≡ none) j
told_among R Q ns j u t = tells_weaken R R (Among ns Q) (λ r. stop_of r ≡ none) j (λ a h. h) (λ r h.
    silent r.place r.first (eqb r.number 23) (eqb r.number 30) (eqb r.number 35) (not_one_of r.number 23 ns u.0 h.0)
    (not_one_of r.number 30 ns u.1 h.0) (not_one_of r.number 35 ns u.2 h.0)) t

pub quiet_among : {A : Type 0} (R : A → Type 0) (Q : ℕ → Type 0) (ns : List ℕ) (j : Judged A) → Untied ns → Tells R (Among ns Q) j → Quiet j
quiet_among R Q ns j u t = tells_weaken R Any (λ r. stop_of r ≡ none) (λ r. stop_of r ≡ none) j (λ a h. tt) (λ r h. h) (told_among R Q ns j u t)

pub quiet_rule : (n p : ℕ) (b : Bool) → stop_of (record { number = n; place = p; first = 0 }) ≡ none → Quiet (refuse n at: p when: b)
quiet_rule n p b h = tells_last (λ r. stop_of r ≡ none) n p b (λ t. h)

-- ---- one after the other

tied_bind : {B C : Type 0} (s : Option Stop) (o : Outcome Stop B) (g : B → Outcome Stop C) → TiedTo s o → TiedTo s (o >>= g)
unfolding ◌>>=◌
tied_bind none o g t = tt
tied_bind (some e) o g t = rw t refl

module _ {A B C D : Type 0} (R : A → B → Type 0) (S : C → D → Type 0) where
  pub bind_matches : (j : Judged A) (o : Outcome Stop B) (f : A → Judged C) (g : B → Outcome Stop D)
      → Matches R j o → ((a : A) (b : B) → R a b → Matches S (f a) (g b))
      → Matches S (j >>= f) (o >>= g)
  unfolding ◌>>=◌
  bind_matches (pass a) o f g m k = rw m.1 (k a m.0 m.2)
  bind_matches (fail r) o f g m k = tied_bind (stop_of r) o g m

module _ {A B C : Type 0} (R : A → B → Type 0) (S : C → B → Type 0) where
  -- a judge's step after a shared one
  pub after_matches : (j : Judged A) (o : Outcome Stop B) (f : A → Judged C) → Matches R j o → ((a : A) (b : B) → R a b → Matches S (f a) (pass b)) → Matches S (j >>= f) o
  unfolding ◌>>=◌
  after_matches (pass a) o f m k = rw m.1 (k a m.0 m.2)
  after_matches (fail r) o f m k = m

module _ {B C : Type 0} (R : B → Type 0) (S : C → B → Type 0) where
  pub then_matches : (j : Rule) (k : Judged C) (o : Outcome Stop B)
      → Matches (λ _ b. R b) j o → ((b : B) → R b → Matches S k (pass b))
      → Matches S (j >> k) o
  unfolding ◌>>◌
  then_matches (pass u) k o m h = rw m.1 (h m.0 m.2)
  then_matches (fail r) k o m h = m

-- a step of the judge alone, and what it tells of its value
module _ {A C D : Type 0} (R : A → Type 0) (S : C → D → Type 0) where
  pub told_matches : (j : Judged A) (f : A → Judged C) (o : Outcome Stop D)
      → Tells R (λ r. stop_of r ≡ none) j → ((a : A) → R a → Matches S (f a) o)
      → Matches S (j >>= f) o
  unfolding ◌>>=◌
  told_matches (pass a) f o q k = k a q
  told_matches (fail r) f o q k = rw q tt

module _ {A D : Type 0} (R : A → Type 0) (S : A → D → Type 0) where
  pub told_passes : (j : Judged A) (d : D) → Tells R (λ r. stop_of r ≡ none) j → ((a : A) → R a → S a d) → Matches S j (pass d)
  told_passes (pass a) d q k = (d, refl, k a q)
  told_passes (fail r) d q k = rw q tt

module _ {A C D : Type 0} (S : C → D → Type 0) where
  pub quiet_matches : (j : Judged A) (f : A → Judged C) (o : Outcome Stop D) → Quiet j → ((a : A) → Matches S (f a) o) → Matches S (j >>= f) o
  quiet_matches j f o q k = told_matches Any S j f o q (λ a _. k a)

module _ {C D : Type 0} (S : C → D → Type 0) where
  pub quiet_then : (j : Rule) (k : Judged C) (o : Outcome Stop D) → Quiet j → Matches S k o → Matches S (j >> k) o
  unfolding ◌>>◌
  quiet_then (pass a) k o q m = m
  quiet_then (fail r) k o q m = rw q tt

module _ {A C D : Type 0} (S : C → D → Type 0) where
  -- a rule of the judge alone, in front of a step
  pub quiet_seq : (j : Rule) (k : Judged A) (f : A → Judged C) (o : Outcome Stop D) → Quiet j → Matches S (k >>= f) o → Matches S (j >> k >>= f) o
  unfolding ◌>>=◌ ◌>>◌
  quiet_seq (pass u) k f o q m = m
  quiet_seq (fail r) k f o q m = rw q tt

-- ---- along a list

module _ {A S T : Type 0} (R : S → T → Type 0) (step : S → A → Judged S) (move : T → A → Outcome Stop T)
    (one : (s : S) (t : T) (a : A) → R s t → Matches R (step s a) (move t a)) where
  pub each_matches : (as' : List A) (s : S) (t : T) → R s t → Matches R (each step s as') (each move t as')
  unfolding each
  each_matches [] s t r = (t, refl, r)
  each_matches (a ∷ more) s t r =
      bind_matches R R (step s a) (move t a) (λ s. each step s more) (λ t. each move t more) (one s t a r) (λ s t r. each_matches more s t r)

-- ---- a script, part by part

pub bind_assoc : {E A B C : Type 0} (o : Outcome E A) (f : A → Outcome E B) (g : B → Outcome E C) → (o >>= f >>= g) ≡ (o >>= λ a. f a >>= g)
unfolding ◌>>=◌
bind_assoc (pass a) f g = refl
bind_assoc (fail e) f g = refl

pub bind_pass : {E T : Type 0} (o : Outcome E T) → (o >>= λ s. pass s) ≡ o
unfolding ◌>>=◌
bind_pass (pass s) = refl
bind_pass (fail e) = refl

module _ {E A T : Type 0} (move : T → A → Outcome E T) where
  pub each_append : (xs ys : List A) (t : T) → each move t (xs ++ ys) ≡ (each move t xs >>= λ s. each move s ys)
  unfolding each ◌>>=◌
  each_append [] ys t = refl
  each_append (x ∷ xs) ys t = ap (λ (f : T → Outcome E T). move t x >>= f) (λ i s. each_append xs ys s i) ∙ sym (bind_assoc (move t x) (λ s. each move s xs) (λ s. each move s ys))

  pub each_map : {B : Type 0} (k : B → A) (bs : List B) (t : T) → each move t (map k bs) ≡ each (λ s b. move s (k b)) t bs
  unfolding each ◌>>=◌
  each_map k [] t = refl
  each_map k (b ∷ bs) t = ap (λ (f : T → Outcome E T). move t (k b) >>= f) (λ i s. each_map k bs s i)

  pub each_flat : {B : Type 0} (k : B → List A) (bs : List B) (t : T) → each move t (flat_map k bs) ≡ each (λ s b. each move s (k b)) t bs
  unfolding each flat_map
  each_flat k [] t = refl
  each_flat k (b ∷ bs) t = each_append (k b) (flat_map k bs) t ∙ ap (λ (f : T → Outcome E T). each move t (k b) >>= f) (λ i s. each_flat k bs s i)
