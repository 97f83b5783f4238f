-- The judge's names and the runner's, under no choices: what a rule of names does to both. The names in scope are the names bound.
use Prim.Native.Nat.{ℕ, ◌+◌, max}
use mathlib.Core.Path.{◌≡◌, refl, sym, ap, ap₂, ◌∙◌}
use mathlib.Core.Bool.{Bool, true, false, not, ◌||◌, true≢false}
use mathlib.Core.List.{List, [], ◌∷◌}
use mathlib.Core.Option.{Option, none, some}
use lib.ListN.{length}
use Rattle.varint.specs.Outcome.{Outcome, pass, ◌>>=◌, ◌>>◌, Judged, refuse◌at:◌when:◌, refuse◌at:◌first:◌when:◌}
use Rattle.varint.specs.Lists.{is_empty, present, contains}
use Rattle.varint.specs.Bytes.{Bytes, same}
use Rattle.wire.specs.Message.{Message, bytes_of, message}
use Rattle.varint.proofs.Tells.{Any, any_all}
use Rattle.schema.specs.Numbers.{Node-name}
use Rattle.spelling.specs.Utf8.{well_formed}
use Rattle.rules.specs.Names.{Name}
use Rattle.rules.specs.Walk.{Context, in_main, Walk, with_name, with_tested, Along, visible, defined_at, tested, naming, define}
use Rattle.rules.specs.Types.{declared_type}
use Rattle.rules.specs.Node.{node_name}
use Rattle.rules.specs.Runner.{reading, Run, find, with_bound, with_read, bind, read}
use Rattle.rules.specs.Count.{odds}
use Rattle.rules.proofs.Rules.{Adds, Type-refusals, in_type, main_type_tells, node_name_tells}
use Rattle.rules.proofs.Matching.{stop_of, Matches, told_among, quiet_rule, told_matches, told_passes, quiet_then}

-- the judge's state and the runner's, under no choices
abbrev pub InStep : Walk → Run → Type 0
InStep w r = (w.scope ≡ r.bound) × (r.choices ≡ []) × (w.most ≡ r.most)

abbrev pub InStepAlong : Along → Run → Type 0
InStepAlong w r = InStep w.walk r

-- odd names are no concern of the runner
pub in_step_adds : (w v : Walk) (k : ℕ) (r : Run) → InStep w r → Adds w k v → InStep v r
in_step_adds w v k r h a = (a.0 ∙ h.0, h.1, a.2 ∙ h.2)

visible_found : (x : Bytes) (l : List Name) → visible x l ≡ present (find x l)
unfolding visible find present
visible_found x [] = refl
visible_found x (n ∷ l) = go (same x n.bytes) (visible_found x l)
  where
    go : (b : Bool) → visible x l ≡ present (find x l) → (b || visible x l) ≡ present {A = ℕ} (elim b [ true ↦ some n.place | false ↦ find x l ])
    go true e = refl
    go false e = e

-- the place of the definition already visible is the defining place
defined_found : (x : Bytes) (l : List Name) (p : ℕ) → find x l ≡ some p → defined_at x l ≡ p
unfolding find defined_at present
defined_found x [] p e = absurd (true≢false (sym (ap present e)))
defined_found x (n ∷ l) p e = go (same x n.bytes) e (defined_found x l p)
  where
    go : (b : Bool) → ◌≡◌ {A = Option ℕ} (elim b [ true ↦ some n.place | false ↦ find x l ]) (some p) → (find x l ≡ some p → defined_at x l ≡ p)
        → elim b [ true ↦ n.place | false ↦ defined_at x l ] ≡ p
    go true e ih = cc
    go false e ih = ih e

-- ---- names

found_in_step : (w : Walk) (x : Name) (r : Run) (o : Option ℕ) → InStep w r → find x.bytes r.bound ≡ o → visible x.bytes w.scope ≡ present o
found_in_step w x r o h e = visible_found x.bytes w.scope ∙ ap (λ (l : List Name). present (find x.bytes l)) h.0 ∙ ap present e

pub define_matches : (full : ℕ → Bool) (w : Walk) (x : Name) (r : Run) → InStep w r → Matches InStep (define full w x) (bind r x)
unfolding define bind with_name with_bound present ◌>>◌ refuse◌at:◌when:◌ refuse◌at:◌first:◌when:◌
define_matches full w x r h = go (find x.bytes r.bound) refl
  where
    go : (o : Option ℕ) → find x.bytes r.bound ≡ o → Matches InStep (define full w x) (bind r x)
    go none e = rw (found_in_step w x r none h e, e, define, bind)
        (quiet_then InStep (refuse 40 at: x.place when: full (length w.scope)) (pass (with_name w x)) (pass (with_bound r x))
        (quiet_rule 40 x.place (full (length w.scope)) refl)
        (with_bound r x, refl, (ap (λ (l : List Name). x ∷ l) h.0, h.1, ap₂ (λ (n : ℕ) (l : List Name). max n (length l + 1)) h.2 h.0)))
    go (some p) e =
        let first : defined_at x.bytes w.scope ≡ p = defined_found x.bytes w.scope p (ap (find x.bytes) h.0 ∙ e) in
        rw (found_in_step w x r (some p) h e, first, e, define, bind) refl

-- a rule that tests whether a name is visible, with a number that is tied to a read
pub read_matches : (n : ℕ) (w : Walk) (x : Name) (r : Run) → ((p : ℕ) → stop_of (record { number = n; place = p; first = 0 }) ≡ some (reading p)) → InStep w r
    → Matches (λ _ s. InStep w s) (refuse n at: x.place when: not (visible x.bytes w.scope)) (read r x)
unfolding read with_read present refuse◌at:◌when:◌
read_matches n w x r q h = go (find x.bytes r.bound) refl
  where
    go : (o : Option ℕ) → find x.bytes r.bound ≡ o → Matches (λ _ s. InStep w s) (refuse n at: x.place when: not (visible x.bytes w.scope)) (read r x)
    go none e = rw (found_in_step w x r none h e, e, read) (rw (q x.place) refl)
    go (some p) e = rw (found_in_step w x r (some p) h e, e, read) (with_read r x.place p, refl, h)

module _ {C D : Type 0} (S : C → D → Type 0) (w : Walk) (x : Name) (f : Walk → Judged C) (o : Outcome _ D) where
  pub tested_matches : Matches S (f (with_tested w x)) o → Matches S (tested w x >>= f) o
  unfolding tested ◌>>=◌ ◌>>◌ refuse◌at:◌when:◌
  tested_matches h = go (not (well_formed x.bytes))
    where
      go : (b : Bool) → Matches S (refuse 21 at: x.place when: b >> pass (with_tested w x) >>= f) o
      go true = tt
      go false = h

  pub naming_matches : (empty : ℕ) → ((p : ℕ) → stop_of (record { number = empty; place = p; first = 0 }) ≡ none)
      → Matches S (f (with_tested w x)) o → Matches S (naming empty w x >>= f) o
  unfolding naming ◌>>=◌ ◌>>◌ refuse◌at:◌when:◌
  naming_matches empty q h = go (is_empty x.bytes)
    where
      go : (a : Bool) → Matches S (refuse empty at: x.place when: a >> tested w x >>= f) o
      go true = rw (q x.place) tt
      go false = tested_matches h

module _ (model : Bytes) where
  pub type_matches : (c : Context) (v : Message) (w : Walk) (r : Run) → InStep w r → Matches InStep (in_main c (declared_type model v) w) (pass r)
  unfolding contains
  type_matches c v w r h =
      let k = odds (in_type model Any Any (λ f g. tt) (λ f g. any_all (message model f).fields) c v) in
      told_passes (Adds w k) InStep (in_main c (declared_type model v) w) r
      (told_among (Adds w k) Any Type-refusals (in_main c (declared_type model v) w) (tt, tt, tt)
      (main_type_tells model Any Any (λ f g. tt) (λ f g. any_all (message model f).fields) c v w (tt, any_all v.fields)))
      (λ u a. in_step_adds w u k r h a)

  pub node_name_matches : {D : Type 0} (S : Along → D → Type 0) (earlier : List Bytes) (w : Walk) (m : Message) (f : Along → Judged Along) (o : Outcome _ D)
      → ((n : Along) → Adds w (odds (bytes_of model Node-name m ∷ [])) n.walk → Matches S (f n) o)
      → Matches S (node_name model earlier w m >>= f) o
  unfolding contains
  node_name_matches S earlier w m f o h =
      let R : Along → Type 0 = λ n. Adds w (odds (bytes_of model Node-name m ∷ [])) n.walk in
      told_matches R S (node_name model earlier w m) f o
      (told_among R Any (21 ∷ 29 ∷ []) (node_name model earlier w m) (tt, tt, tt)
      (node_name_tells model Any Any (λ f g. tt) (λ f g. any_all (message model f).fields) earlier w m (tt, any_all m.fields))) h
