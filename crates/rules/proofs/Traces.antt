-- The reads of the run that enters every body once: no two are of one field, so the defining place is a function of the field.
use Prim.Native.Nat.{ℕ, zero, suc, ◌<◌}
use native.Mathlib.Omega.{arith}
use mathlib.Core.Path.{◌≡◌, refl, sym, ap, ◌∙◌}
use mathlib.Core.Logic.{◌⊎◌, inl, inr}
use mathlib.Core.Bool.{Bool, true, false}
use mathlib.Core.List.Memᴰ
use mathlib.Core.List.{List, [], ◌∷◌, Memᴰ}
use mathlib.Core.Option.{Option, none, some}
use lib.ListN.{length}
use Rattle.varint.specs.Outcome.{pass, fail, ◌>>=◌, each}
use Rattle.wire.specs.declared.Field.{Field}
use Rattle.varint.specs.Lists.{first}
use Rattle.varint.specs.Bytes.{Bytes}
use Rattle.wire.specs.Message.{all_of, first_of, message, whole}
use Rattle.wire.specs.Order.{Ordered}
use Rattle.wire.proofs.Fields.{all_of_ordered}
use Rattle.schema.specs.Numbers.{Model-graph, Model-functions}
use Rattle.rules.specs.Names.{Name}
use Rattle.rules.specs.Runner.{Action, binds, reads, visits, script, function_script, Read, binding, reading, Run, Ran, begin, find}
use Rattle.rules.specs.Runner.{with_bound, with_read, bind, read, unchosen, choose, forget, unbound, perform, run_graph, run_function, run_main, run_to, run}
use Rattle.rules.proofs.Visits.{visit_once}
use Rattle.rules.proofs.Scripts.{Within, Span, Spans, spans_within, At, Reach, Scattered, Tidy, parts_apart, tidy_script, tidy_function}

abbrev Never : ℕ → Type 0
Never p = ⊥

-- a field is read once, or always with the same answer
abbrev pub Functional : List Read → Type 0
Functional t = (x y : Read) → Memᴰ x t → Memᴰ y t → x.field ≡ y.field → x.found ≡ y.found

abbrev Clear : (ℕ → Type 0) → List Read → Type 0
Clear Q t = (x : Read) → Memᴰ x t → Q x.field → ⊥

-- the run with no choices keeps its trace functional, and adds only reads of places with the property
abbrev Keeps : (ℕ → Type 0) → List Read → Ran → Type 0
Keeps Q t (pass e) = (e.choices ≡ []) × Functional e.trace × ((x : Read) → Memᴰ x e.trace → Memᴰ x t ⊎ Q x.field)
Keeps Q t (fail s) = Unit {0}

-- a state to start from
abbrev Ready : (ℕ → Type 0) → Run → Type 0
Ready Q r = (r.choices ≡ []) × Functional r.trace × Clear Q r.trace

keeps_weaken : (P Q : ℕ → Type 0) (t : List Read) (o : Ran) → ((p : ℕ) → P p → Q p) → Keeps P t o → Keeps Q t o
keeps_weaken P Q t (pass e) h k = (k.0, k.1, λ x m. go x (k.2 x m))
  where
    go : (x : Read) → Memᴰ x t ⊎ P x.field → Memᴰ x t ⊎ Q x.field
    go x (inl a) = inl a
    go x (inr a) = inr (h x.field a)
keeps_weaken P Q t (fail s) h k = tt

-- one action, then others that read elsewhere
keeps_bind : (P Q : ℕ → Type 0) (t : List Read) (o : Ran) (g : Run → Ran)
    → Clear Q t → ((p : ℕ) → P p → Q p → ⊥) → Keeps P t o → ((s : Run) → Ready Q s → Keeps Q s.trace (g s))
    → Keeps (λ p. P p ⊎ Q p) t (o >>= g)
unfolding ◌>>=◌
keeps_bind P Q t (fail e) g c d k h = tt
keeps_bind P Q t (pass s) g c d k h = last (g s) (h s (k.0, k.1, λ x m q. clear x q (k.2 x m)))
  where
    clear : (x : Read) → Q x.field → Memᴰ x t ⊎ P x.field → ⊥
    clear x q (inl a) = c x a q
    clear x q (inr a) = d x.field a q

    old : (x : Read) → Memᴰ x t ⊎ P x.field → Memᴰ x t ⊎ (P x.field ⊎ Q x.field)
    old x (inl a) = inl a
    old x (inr a) = inr (inl a)

    step : (x : Read) → Memᴰ x s.trace ⊎ Q x.field → Memᴰ x t ⊎ (P x.field ⊎ Q x.field)
    step x (inl m) = old x (k.2 x m)
    step x (inr a) = inr (inr a)

    last : (o : Ran) → Keeps Q s.trace o → Keeps (λ p. P p ⊎ Q p) t o
    last (pass e) n = (n.0, n.1, λ x m. step x (n.2 x m))
    last (fail z) n = tt

keeps_bound : (r : Run) (x : Name) → Ready Never r → Keeps Never r.trace (bind r x)
unfolding bind with_bound
keeps_bound r x h = go (find x.bytes r.bound)
  where
    go : (o : Option ℕ) → Keeps Never r.trace (elim o [ none ↦ pass (with_bound r x) | some p ↦ fail (binding x.place p) ])
    go none = (h.0, h.1, λ y m. inl m)
    go (some p) = tt

module _ (new : Read) (t : List Read) (f : Functional t) (c : Clear (λ p. p ≡ new.field) t) where
  functional_cons : Functional (new ∷ t)
  functional_cons x y (Memᴰ.head a) (Memᴰ.head b) e = ap (λ (r : Read). r.found) (a ∙ sym b)
  functional_cons x y (Memᴰ.head a) (Memᴰ.tail m) e = absurd (c y m (sym e ∙ ap (λ (r : Read). r.field) a))
  functional_cons x y (Memᴰ.tail m) (Memᴰ.head b) e = absurd (c x m (e ∙ ap (λ (r : Read). r.field) b))
  functional_cons x y (Memᴰ.tail m) (Memᴰ.tail n) e = f x y m n e

  added : (x : Read) → Memᴰ x (new ∷ t) → Memᴰ x t ⊎ (x.field ≡ new.field)
  added x (Memᴰ.head a) = inr (ap (λ (r : Read). r.field) a)
  added x (Memᴰ.tail m) = inl m

keeps_read : (r : Run) (x : Name) → Ready (λ p. p ≡ x.place) r → Keeps (λ p. p ≡ x.place) r.trace (read r x)
unfolding read with_read
keeps_read r x h = go (find x.bytes r.bound)
  where
    go : (o : Option ℕ) → Keeps (λ p. p ≡ x.place) r.trace (elim o [ none ↦ fail (reading x.place) | some p ↦ pass (with_read r x.place p) ])
    go none = tt
    go (some p) = (h.0, functional_cons (record { field = x.place; found = p }) r.trace h.1 h.2, added (record { field = x.place; found = p }) r.trace h.1 h.2)

module _ (K : Run → Field → Ran) (nest : (r : Run) (f : Field) → Ready (Within f) r → Keeps (Within f) r.trace (K r f)) where
  keeps_perform : (r : Run) (a : Action) → Ready (At a) r → Keeps (At a) r.trace (perform K r a)
  unfolding perform ◌>>=◌ forget choose unchosen
  keeps_perform r (binds x) h = keeps_bound r x h
  keeps_perform r (reads x) h = keeps_read r x h
  keeps_perform r (visits f) h = rw (visit_once K r f h.0) (go (K (choose r) f) (nest (choose r) f (ap unchosen h.0, h.1, h.2)))
    where
      go : (o : Ran) → Keeps (Within f) r.trace o → Keeps (Within f) r.trace (o >>= λ s. pass (forget (choose r) s))
      go (pass s) k = k
      go (fail e) k = tt

  keeps_each : (acts : List Action) → Scattered acts → (r : Run) → Ready (Reach acts) r → Keeps (Reach acts) r.trace (each (perform K) r acts)
  unfolding each
  keeps_each [] s r h = (h.0, h.1, λ x m. inl m)
  keeps_each (a ∷ more) s r h =
      keeps_bind (At a) (Reach more) r.trace (perform K r a) (λ t. each (perform K) t more) (λ x m q. h.2 x m (inr q)) s.0
      (keeps_perform r a (h.0, h.1, λ x m q. h.2 x m (inl q))) (λ t k. keeps_each more s.1 t k)

  keeps_tidy : (Q : ℕ → Type 0) (acts : List Action) → Tidy Q acts → (r : Run) → Ready Q r → Keeps Q r.trace (each (perform K) r acts)
  keeps_tidy Q acts t r h = keeps_weaken (Reach acts) Q r.trace (each (perform K) r acts) t.1 (keeps_each acts t.0 r (h.0, h.1, λ x m q. h.2 x m (t.1 x.field q)))

module _ (model : Bytes) where
  keeps_graph : (bound : ℕ) (main : Bool) (r : Run) (f : Field) → Ready (Within f) r → Keeps (Within f) r.trace (run_graph model bound main r f)
  unfolding run_graph
  keeps_graph zero main r f h = (h.0, h.1, λ x m. inl m)
  keeps_graph (suc bound) main r f h =
      keeps_tidy (run_graph model bound false) (λ r f h. keeps_graph bound false r f h) (Within f) (script model main f) (tidy_script model main f) r h

  keeps_function : (bound : ℕ) (r : Run) (f : Field) → f.place < f.start → Ready (Span f) r → Keeps (Span f) r.trace (run_function model bound r f)
  unfolding run_function unbound
  keeps_function bound r f l h =
      let t = tidy_function model f in
      keeps_tidy (run_graph model bound false) (λ r f h. keeps_graph bound false r f h) (Span f) (function_script model f)
      (t.0, λ p a. let i = t.1 p a in (omega arith, i.1)) (unbound r) h

  -- functions lie apart, and so do their reads
  keeps_functions : (bound lo hi : ℕ) (fs : List Field) → Ordered lo hi fs → (r : Run) → Ready (Spans fs) r
      → Keeps (Spans fs) r.trace (each (run_function model bound) r fs)
  unfolding each
  keeps_functions bound lo hi [] o r h = (h.0, h.1, λ x m. inl m)
  keeps_functions bound lo hi (f ∷ fs) o r h =
      keeps_bind (Span f) (Spans fs) r.trace (run_function model bound r f) (λ s. each (run_function model bound) s fs) (λ x m q. h.2 x m (inr q))
      (λ p a b. let i = spans_within f.next hi fs o.4 p b in omega arith)
      (keeps_function bound r f o.1 (h.0, h.1, λ x m q. h.2 x m (inl q))) (λ s k. keeps_functions bound f.next hi fs o.4 s k)

  -- the main graph is the first of the fields with its number
  abbrev Main : ℕ → Type 0
  Main = Spans (all_of Model-graph (message model (whole model)))

  keeps_main : (bound : ℕ) → Keeps Main [] (run_main model bound [])
  unfolding run_main first_of first begin
  keeps_main bound = go (all_of Model-graph (message model (whole model))) (all_of_ordered model Model-graph (whole model))
    where
      nothing : Functional []
      nothing x y m n q = absurd (Memᴰ.not-nil m)

      go : (fs : List Field) → Ordered (whole model).start (whole model).next fs
          → Keeps (Spans fs) [] (elim (first fs) [ none ↦ pass (begin []) | some g ↦ run_graph model bound true (begin []) g ])
      go [] o = (refl, nothing, λ x m. inl m)
      go (g ∷ fs) o =
          keeps_weaken (Within g) (Spans (g ∷ fs)) [] (run_graph model bound true (begin []) g) (λ p i. inl (omega arith, i.1))
          (keeps_graph bound true (begin []) g (refl, nothing, λ x m q. absurd (Memᴰ.not-nil m)))

  -- of the run with no choices
  pub functional : (e : Run) → run model [] ≡ pass e → Functional e.trace
  unfolding run run_to
  functional e h =
      let functions = all_of Model-functions (message model (whole model)) in
      let apart : (p : ℕ) → Main p → Spans functions p → ⊥ = parts_apart model Model-graph Model-functions (whole model) (λ e. omega arith) in
      let kept = keeps_bind Main (Spans functions) [] (run_main model (length model) []) (λ r. each (run_function model (length model)) r functions)
      (λ x m q. absurd (Memᴰ.not-nil m)) apart (keeps_main (length model))
      (λ s k. keeps_functions (length model) (whole model).start (whole model).next functions (all_of_ordered model Model-functions (whole model)) s k) in
      (rw h at kept).1
