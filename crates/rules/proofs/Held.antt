-- A judge with some cells beside one with more room, put together from steps: only a 40 tells them apart, and an acceptance with more room
-- becomes one exactly when the names visible together do not fit.
use Prim.Native.Nat.{ℕ, ◌≤◌, ◌<◌, zero-le}
use native.Mathlib.Omega.{arith}
use mathlib.Core.Path.{◌≡◌, refl, sym, ap, ◌∙◌}
use mathlib.Core.Logic.{◌⊎◌, inl, inr}
use mathlib.Core.List.{List, [], ◌∷◌}
use Rattle.varint.specs.Outcome.{pass, fail, ◌>>=◌, ◌>>◌, each, Judged, Rule, refused, refuse◌at:◌when:◌}
use Rattle.varint.specs.declared.Refusal.{Refusal}
use Rattle.varint.proofs.Tells.{Tells, Any}
use Rattle.varint.proofs.Passing.{fail_no_pass}
use Rattle.rules.specs.Names.{Name}
use Rattle.rules.specs.Walk.{Walk, with_tested, Along, tested, naming}

-- the cells were full
abbrev pub Full : {A : Type 0} → Judged A → Type 0
Full j = (p : ℕ) × (j ≡ refused 40 p)

-- the same answer, or the cells were full
abbrev pub UnlessFull : {A : Type 0} → Judged A → Judged A → Type 0
UnlessFull j u = (j ≡ u) ⊎ Full j

full_bind : {A B : Type 0} (j : Judged A) (f : A → Judged B) → Full j → Full (j >>= f)
unfolding ◌>>=◌
full_bind j f h = (h.0, rw h.1 refl)

pub unless_bind : {A B : Type 0} (j u : Judged A) (f : A → Judged B) → UnlessFull j u → UnlessFull (j >>= f) (u >>= f)
unless_bind j u f (inl e) = inl (ap (λ (o : Judged _). o >>= f) e)
unless_bind j u f (inr h) = inr (full_bind j f h)

-- the most names together so far
abbrev pub most : Walk → ℕ
most w = w.most

abbrev pub most_of : Along → ℕ
most_of w = w.walk.most

-- `fit` names fit the cells
module _ (fit : ℕ) where
  -- `n` names fit and the limited judge passes with the same value, or they do not and it finds the cells full
  abbrev pub Either : {A : Type 0} → ℕ → Judged A → A → Type 0
  Either n j a = ((n ≤ fit) × (j ≡ pass a)) ⊎ ((fit < n) × Full j)

  -- The limited judge `j` beside the one with more room, from a state with at most `lo` names together; `m` reads that number off
  -- a state.
  abbrev pub Held : {A : Type 0} → (A → ℕ) → ℕ → Judged A → Judged A → Type 0
  Held m lo j (pass a) = (lo ≤ m a) × (lo ≤ fit → Either (m a) j a)
  Held m lo j (fail r) = lo ≤ fit → UnlessFull j (fail r)

  pub held_pass : {A : Type 0} (m : A → ℕ) (a : A) → Held m (m a) (pass a) (pass a)
  held_pass m a = (omega arith, λ h. inl (h, refl))

  module _ {A B : Type 0} (m : A → ℕ) (k : B → ℕ) where
    pub held_bind : (lo : ℕ) (j u : Judged A) (f g : A → Judged B) → Held m lo j u → ((a : A) → Held k (m a) (f a) (g a)) → Held k lo (j >>= f) (u >>= g)
    unfolding ◌>>=◌
    held_bind lo j (fail r) f g h n = λ l. unless_bind j (fail r) f (h l)
    held_bind lo j (pass a) f g h n = go (g a) (n a)
      where
        go : (o : Judged B) → Held k (m a) (f a) o → Held k lo (j >>= f) o
        go (pass b) i = (
          omega arith,
          λ l. elim (h.1 l) [
            | inl e ↦ rw e.1 (i.1 e.0)
            | inr e ↦ inr (let x = e.0 in omega arith, full_bind j f e.1)
          ],
        )
        go (fail r) i = λ l. elim (h.1 l) [ inl e ↦ rw e.1 (i e.0) | inr e ↦ inr (full_bind j f e.1) ]

  -- a step that has no state, and the rest
  pub skip : {A B : Type 0} (k : B → ℕ) (lo : ℕ) (j : Judged A) (f g : A → Judged B) → ((a : A) → Held k lo (f a) (g a)) → Held k lo (j >>= f) (j >>= g)
  unfolding ◌>>=◌
  skip k lo (pass a) f g h = h a
  skip k lo (fail r) f g h = λ l. inl refl

  pub same_seq : {B : Type 0} (k : B → ℕ) (lo : ℕ) (j : Rule) (f g : Judged B) → Held k lo f g → Held k lo (j >> f) (j >> g)
  unfolding ◌>>◌
  same_seq k lo (pass a) f g h = h
  same_seq k lo (fail r) f g h = λ l. inl refl

  pub held_each : {A S : Type 0} (m : S → ℕ) (step move : S → A → Judged S) → ((s : S) (a : A) → Held m (m s) (step s a) (move s a))
      → (s : S) (list : List A)
      → Held m (m s) (each step s list) (each move s list)
  unfolding each
  held_each m step move one s [] = held_pass m s
  held_each m step move one s (a ∷ more) = held_bind m m (m s) (step s a) (move s a) _ _ (one s a) (λ t. held_each m step move one t more)

  -- a step that knows no cells and takes no name
  pub held_same : {A : Type 0} (m : A → ℕ) (lo : ℕ) (j : Judged A) → Tells (λ a. m a ≡ lo) Any j → Held m lo j j
  held_same m lo (pass a) t = (omega arith, λ h. inl (omega arith, refl))
  held_same m lo (fail r) t = λ l. inl refl

  pub held_tested : (w : Walk) (x : Name) → Held most (most w) (tested w x) (tested w x)
  unfolding tested with_tested
  held_tested w x = same_seq most (most w) (refuse 21 at: _ when: _) _ _ (held_pass most (with_tested w x))

  pub held_naming : (empty : ℕ) (w : Walk) (x : Name) → Held most (most w) (naming empty w x) (naming empty w x)
  unfolding naming
  held_naming empty w x = same_seq most (most w) (refuse empty at: _ when: _) (tested w x) (tested w x) (held_tested w x)

  -- ---- from the one to the other

  pub unless_full : (j u : Judged Walk) → Held most 0 j u → UnlessFull j u
  unless_full j (fail r) h = h zero-le
  unless_full j (pass a) h = elim (h.1 zero-le) [ inl e ↦ inl e.1 | inr e ↦ inr e.1 ]

  no_pass : (j : Judged Walk) (r : Refusal) (w : Walk) → UnlessFull j (fail r) → j ≡ pass w → ⊥
  no_pass j r w (inl f) e = fail_no_pass r w (sym f ∙ e)
  no_pass j r w (inr f) e = fail_no_pass _ w (sym f.1 ∙ e)

  pub fits : (j u : Judged Walk) → Held most 0 j u → (w : Walk) → j ≡ pass w → (u ≡ pass w) × (w.most ≤ fit)
  fits j (fail r) h w e = absurd (no_pass j r w (h zero-le) e)
  fits j (pass a) h w e = go (h.1 zero-le)
    where
      go : Either a.most j a → (◌≡◌ {A = Judged Walk} (pass a) (pass w)) × (w.most ≤ fit)
      go (inl f) = let q = f.1 in let same : a ≡ w = cc in (ap pass same, rw same at f.0)
      go (inr f) = absurd (fail_no_pass _ w (sym f.1.1 ∙ e))

  pub passes : (j u : Judged Walk) → Held most 0 j u → (w : Walk) → u ≡ pass w → w.most ≤ fit → j ≡ pass w
  passes j u h w e l = go ((rw e at h).1 zero-le)
    where
      go : Either w.most j w → j ≡ pass w
      go (inl f) = f.1
      go (inr f) = let q = f.0 in absurd (omega arith)
