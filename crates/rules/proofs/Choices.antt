-- The choices: where the run that enters every body once ends, every run ends, and reads nothing that that one does not
-- read. A fact about the runner alone.
use Prim.Native.Nat.{ℕ, zero, suc}
use mathlib.Core.Path.{◌≡◌, refl, ap}
use mathlib.Core.Bool.{Bool, true, false}
use mathlib.Core.List.Memᴰ
use mathlib.Core.List.{List, [], ◌∷◌, Memᴰ}
use mathlib.Core.Option.{Option, none, some}
use lib.ListN.{length}
use Rattle.varint.specs.Outcome.{pass, fail, ◌>>=◌, each}
use Rattle.wire.specs.declared.Field.{Field}
use Rattle.varint.specs.Bytes.{Bytes}
use Rattle.wire.specs.Message.{first_of, message, whole}
use Rattle.schema.specs.Numbers.{Model-graph}
use Rattle.rules.specs.Names.{Name}
use Rattle.rules.specs.Runner.{Action, binds, reads, visits, script, function_script, Read, Run, Ran, begin, find, with_bound, with_read}
use Rattle.rules.specs.Runner.{bind, read, chosen, unchosen, choose, forget, unbound, times, perform, run_graph, run_function, run_main, run_to, run}
use Rattle.rules.proofs.Visits.{visit_once}

abbrev pub Sub : List Read → List Read → Type 0
Sub a b = (x : Read) → Memᴰ x a → Memᴰ x b

-- a state under no choices, and one under some, with the same names bound
abbrev pub Beside : Run → Run → Type 0
Beside r₀ r = (r₀.choices ≡ []) × (r₀.bound ≡ r.bound)

-- From the traces t₀ and t: where the first run passes so does the second, beside it, and each read that the second adds is
-- one of the first's.
abbrev pub Follows : List Read → List Read → Ran → Ran → Type 0
Follows t₀ t (pass e₀) o =
    (e : Run) × (o ≡ pass e) × Beside e₀ e × Sub t₀ e₀.trace × ((U : List Read) → Sub e₀.trace U → Sub t U → Sub e.trace U)
Follows t₀ t (fail s) o = Unit {0}

follows_from : (t₀ t s₀ s : List Read) (o₀ o : Ran) → Sub t₀ s₀ → ((U : List Read) → Sub s₀ U → Sub t U → Sub s U) → Follows s₀ s o₀ o → Follows t₀ t o₀ o
follows_from t₀ t s₀ s (pass e₀) o sub up m =
    (m.0, m.1, m.2, (λ x h. m.3 x (sub x h)), λ U a b. m.4 U a (up U (λ x h. a x (m.3 x h)) b))
follows_from t₀ t s₀ s (fail e) o sub up m = tt

follows_bind : (t₀ t : List Read) (o₀ o : Ran) (g₀ g : Run → Ran) → Follows t₀ t o₀ o
    → ((s₀ s : Run) → Beside s₀ s → Follows s₀.trace s.trace (g₀ s₀) (g s))
    → Follows t₀ t (o₀ >>= g₀) (o >>= g)
unfolding ◌>>=◌
follows_bind t₀ t (pass s₀) o g₀ g m k = rw m.1 (follows_from t₀ t s₀.trace m.0.trace (g₀ s₀) (g m.0) m.3 m.4 (k s₀ m.0 m.2))
follows_bind t₀ t (fail e) o g₀ g m k = tt

follows_each : {A : Type 0} (move₀ move : Run → A → Ran)
    → ((r₀ r : Run) (a : A) → Beside r₀ r → Follows r₀.trace r.trace (move₀ r₀ a) (move r a)) → (as' : List A) (r₀ r : Run) → Beside r₀ r
    → Follows r₀.trace r.trace (each move₀ r₀ as') (each move r as')
unfolding each
follows_each move₀ move one [] r₀ r h = (r, refl, h, (λ x m. m), λ U a b. b)
follows_each move₀ move one (a ∷ more) r₀ r h =
    follows_bind r₀.trace r.trace (move₀ r₀ a) (move r a) _ _ (one r₀ r a h) (λ s₀ s k. follows_each move₀ move one more s₀ s k)

follows_bound : (r₀ r : Run) (x : Name) → Beside r₀ r → Follows r₀.trace r.trace (bind r₀ x) (bind r x)
unfolding bind with_bound
follows_bound r₀ r x h = go (find x.bytes r₀.bound) refl (rw h.1 refl)
  where
    go : (o : Option ℕ) → find x.bytes r₀.bound ≡ o → find x.bytes r.bound ≡ o → Follows r₀.trace r.trace (bind r₀ x) (bind r x)
    go none e e' = rw (e, e', bind) (with_bound r x, refl, (h.0, ap (λ (l : List Name). x ∷ l) h.1), (λ y m. m), λ U a b. b)
    go (some p) e e' = rw (e, bind) tt

sub_cons : (y : Read) (s t U : List Read) → Sub (y ∷ s) U → Sub t U → Sub (y ∷ t) U
sub_cons y s t U a b x (Memᴰ.head e) = Memᴰ.cast e (a y (Memᴰ.head refl))
sub_cons y s t U a b x (Memᴰ.tail m) = b x m

follows_read : (r₀ r : Run) (x : Name) → Beside r₀ r → Follows r₀.trace r.trace (read r₀ x) (read r x)
unfolding read with_read
follows_read r₀ r x h = go (find x.bytes r₀.bound) refl (rw h.1 refl)
  where
    go : (o : Option ℕ) → find x.bytes r₀.bound ≡ o → find x.bytes r.bound ≡ o → Follows r₀.trace r.trace (read r₀ x) (read r x)
    go none e e' = rw (e, read) tt
    go (some p) e e' =
        rw (e, e', read) (
          with_read r x.place p,
          refl,
          h,
          (λ y m. Memᴰ.tail m),
          λ U a b. sub_cons (record { field = x.place; found = p }) r₀.trace r.trace U a b,
        )

-- ---- one level: `K` runs the graphs further in

module _ (K : Run → Field → Ran) (nest : (r₀ r : Run) (f : Field) → Beside r₀ r → Follows r₀.trace r.trace (K r₀ f) (K r f)) where
  -- a body that the run with no choices passes, any number of times
  follows_times : (f : Field) (r₀ s₀ : Run) → ((r : Run) → Beside r₀ r → Follows r₀.trace r.trace (pass s₀) (K r f)) → (count : ℕ) (r : Run)
      → Beside r₀ r
      → Follows r₀.trace r.trace (pass (forget r₀ s₀)) (times count (λ s. K s f) r)
  unfolding times forget ◌>>=◌
  follows_times f r₀ s₀ once zero r h = (r, refl, ((once r h).2.0, h.1), (once r h).3, λ U a b. b)
  follows_times f r₀ s₀ once (suc count) r h =
      let m = once r h in
      let n = follows_times f r₀ s₀ once count (forget r m.0) h in
      rw m.1 (n.0, n.1, n.2, n.3, λ U a b. n.4 U a (m.4 U a b))

  follows_visit : (r₀ r : Run) (f : Field) → Beside r₀ r → Follows r₀.trace r.trace (perform K r₀ (visits f)) (perform K r (visits f))
  unfolding perform choose unchosen ◌>>=◌
  follows_visit r₀ r f h = rw (visit_once K r₀ f h.0) (go (K start f) (λ s k. nest start s f k))
    where
      start : Run
      start = choose r₀

      go : (o₀ : Ran) → ((s : Run) → Beside start s → Follows r₀.trace s.trace o₀ (K s f))
          → Follows r₀.trace r.trace (o₀ >>= λ s. pass (forget start s)) (perform K r (visits f))
      go (pass s₀) k = follows_times f start s₀ k (chosen r.choices) (choose r) (ap unchosen h.0, h.1)
      go (fail e) k = tt

  follows_perform : (r₀ r : Run) (a : Action) → Beside r₀ r → Follows r₀.trace r.trace (perform K r₀ a) (perform K r a)
  unfolding perform
  follows_perform r₀ r (binds x) h = follows_bound r₀ r x h
  follows_perform r₀ r (reads x) h = follows_read r₀ r x h
  follows_perform r₀ r (visits f) h = follows_visit r₀ r f h

module _ (model : Bytes) where
  follows_graph : (bound : ℕ) (main : Bool) (r₀ r : Run) (f : Field) → Beside r₀ r → Follows r₀.trace r.trace (run_graph model bound main r₀ f) (run_graph model bound main r f)
  unfolding run_graph
  follows_graph zero main r₀ r f h = (r, refl, h, (λ x m. m), λ U a b. b)
  follows_graph (suc bound) main r₀ r f h =
      follows_each (perform K) (perform K) (follows_perform K (λ r₀ r f h. follows_graph bound false r₀ r f h)) (script model main f) r₀ r h
    where
      K : Run → Field → Ran
      K s g = run_graph model bound false s g

  follows_main : (bound : ℕ) (choices : List ℕ) → Follows [] [] (run_main model bound []) (run_main model bound choices)
  unfolding run_main begin
  follows_main bound choices = go (first_of Model-graph (message model (whole model)))
    where
      go : (o : Option Field) → Follows [] []
          (elim o [ none ↦ pass (begin []) | some g ↦ run_graph model bound true (begin []) g ])
          (elim o [ none ↦ pass (begin choices) | some g ↦ run_graph model bound true (begin choices) g ])
      go none = (begin choices, refl, (refl, refl), (λ x m. m), λ U a b. b)
      go (some g) = follows_graph bound true (begin []) (begin choices) g (refl, refl)

  follows_function : (bound : ℕ) (r₀ r : Run) (f : Field) → Beside r₀ r → Follows r₀.trace r.trace (run_function model bound r₀ f) (run_function model bound r f)
  unfolding run_function unbound
  follows_function bound r₀ r f h =
      let K : Run → Field → Ran = run_graph model bound false in
      let same = h.1 in
      follows_each (perform K) (perform K) (follows_perform K (follows_graph bound false)) (function_script model f) (unbound r₀) (unbound r) (h.0, cc)

  pub follows_run : (choices : List ℕ) → Follows [] [] (run model []) (run model choices)
  unfolding run run_to
  follows_run choices =
      follows_bind [] [] (run_main model (length model) []) (run_main model (length model) choices) _ _ (follows_main (length model) choices) (λ s₀ s k.
      follows_each (run_function model (length model)) (run_function model (length model)) (follows_function (length model)) _ s₀ s k)
