-- Where a script reads: the fields of a message lie apart, so no two actions of a script read in one field.
use Prim.Native.Nat.{ℕ, ◌≤◌, ◌<◌}
use native.Mathlib.Omega.{arith}
use mathlib.Core.Path.{◌≡◌, refl, sym, ap, ◌∙◌}
use mathlib.Core.Logic.{◌⊎◌, inl, inr}
use mathlib.Core.Bool.{Bool, true, false, not}
use mathlib.Core.List.{List, [], ◌∷◌, ◌++◌, map, map-append, flat_map}
use mathlib.Core.Option.{none, some}
use lib.Dec.{T, eqb, eqb→eq}
use Rattle.wire.specs.declared.Field.{Field}
use Rattle.varint.specs.Lists.{first, keep}
use Rattle.varint.specs.Bytes.{Bytes, same, member}
use Rattle.wire.specs.Message.{all_of, first_of, place_of, text, message}
use Rattle.wire.specs.Order.{Ordered}
use Rattle.varint.proofs.Lists.{true_T, All, all_append, all_flat, all_mapped}
use Rattle.varint.proofs.Tells.{Any, any_all}
use Rattle.wire.proofs.Fields.{message_ordered, keep_ordered, all_of_ordered, ordered_flat}
use Rattle.schema.specs.Numbers.{Function-input, Function-output, Function-node, Graph-node, Graph-initializer, Graph-input, Graph-output}
use Rattle.schema.specs.Numbers.{Node-input, Node-output, Node-attribute, Tensor-name, ValueInfo-name}
use Rattle.rules.specs.Names.{Name, name_of, name_in, bodies_of, bodies_in}
use Rattle.rules.specs.Runner.{Action, binds, reads, visits, unless_empty, initializers, node_script, waiting_in, script, function_script}

-- ---- places

-- inside the contents of a field, and inside the field with its tag
abbrev pub Within : Field → ℕ → Type 0
Within f p = (f.start ≤ p) × (p < f.next)

abbrev pub Span : Field → ℕ → Type 0
Span f p = (f.place ≤ p) × (p < f.next)

abbrev pub Spans : List Field → ℕ → Type 0
Spans [] p = ⊥
Spans (f ∷ fs) p = Span f p ⊎ Spans fs p

pub spans_within : (lo hi : ℕ) (fs : List Field) → Ordered lo hi fs → (p : ℕ) → Spans fs p → (lo ≤ p) × (p < hi)
spans_within lo hi [] o p s = elim s [ ]
spans_within lo hi (f ∷ fs) o p (inl s) = (omega arith, omega arith)
spans_within lo hi (f ∷ fs) o p (inr s) = let h = spans_within f.next hi fs o.4 p s in (omega arith, omega arith)

-- fields that pass two tests of which no field passes both lie apart
module _ (test other : Field → Bool) (apart : (f : Field) → T (test f) → T (other f) → ⊥) where
  spans_apart : (lo hi : ℕ) (fs : List Field) → Ordered lo hi fs → (p : ℕ) → Spans (keep test fs) p → Spans (keep other fs) p → ⊥
  unfolding keep
  spans_apart lo hi [] o p s t = s
  spans_apart lo hi (f ∷ fs) o p s t = go (test f) (other f) refl refl s t (λ a b. spans_apart f.next hi fs o.4 p a b)
    where
      later : (u : Field → Bool) → Span f p → Spans (keep u fs) p → ⊥
      later u a b = let i = spans_within f.next hi (keep u fs) (keep_ordered u f.next hi fs o.4) p b in omega arith

      go : (b c : Bool) → test f ≡ b → other f ≡ c → Spans (elim b [ true ↦ f ∷ keep test fs | false ↦ keep test fs ]) p
          → Spans (elim c [ true ↦ f ∷ keep other fs | false ↦ keep other fs ]) p → (Spans (keep test fs) p → Spans (keep other fs) p → ⊥)
          → ⊥
      go true true e e' s t ih = apart f (true_T (test f) e) (true_T (other f) e')
      go true false e e' (inl a) t ih = later other a t
      go true false e e' (inr a) t ih = ih a t
      go false true e e' s (inl a) ih = later test a s
      go false true e e' s (inr a) ih = ih s a
      go false false e e' s t ih = ih s t

-- ---- what an action reads

abbrev pub At : Action → ℕ → Type 0
At (binds x) p = ⊥
At (reads x) p = p ≡ x.place
At (visits f) p = Within f p

abbrev pub Reach : List Action → ℕ → Type 0
Reach [] p = ⊥
Reach (a ∷ more) p = At a p ⊎ Reach more p

-- no place is read by two actions, and each place that is read has the property
abbrev pub Scattered : List Action → Type 0
Scattered [] = Unit {0}
Scattered (a ∷ more) = ((p : ℕ) → At a p → Reach more p → ⊥) × Scattered more

abbrev pub Tidy : (ℕ → Type 0) → List Action → Type 0
Tidy Q acts = Scattered acts × ((p : ℕ) → Reach acts p → Q p)

reach_append : (xs ys : List Action) (p : ℕ) → Reach (xs ++ ys) p → Reach xs p ⊎ Reach ys p
reach_append [] ys p r = inr r
reach_append (x ∷ xs) ys p (inl a) = inl (inl a)
reach_append (x ∷ xs) ys p (inr r) = go (reach_append xs ys p r)
  where
    go : Reach xs p ⊎ Reach ys p → (At x p ⊎ Reach xs p) ⊎ Reach ys p
    go (inl a) = inl (inr a)
    go (inr a) = inr a

scattered_append : (xs ys : List Action) → Scattered xs → Scattered ys → ((p : ℕ) → Reach xs p → Reach ys p → ⊥) → Scattered (xs ++ ys)
scattered_append [] ys s t d = t
scattered_append (x ∷ xs) ys s t d = ((λ p a r. go p a (reach_append xs ys p r)), scattered_append xs ys s.1 t (λ p a b. d p (inr a) b))
  where
    go : (p : ℕ) → At x p → Reach xs p ⊎ Reach ys p → ⊥
    go p a (inl r) = s.0 p a r
    go p a (inr r) = d p (inl a) r

-- two scripts, one after the other, that read in places apart
module _ (P Q R : ℕ → Type 0) where
  tidy_append : (xs ys : List Action) → ((p : ℕ) → P p → Q p → ⊥) → ((p : ℕ) → P p → R p) → ((p : ℕ) → Q p → R p) → Tidy P xs → Tidy Q ys → Tidy R (xs ++ ys)
  tidy_append xs ys d h k s t = (scattered_append xs ys s.0 t.0 (λ p a b. d p (s.1 p a) (t.1 p b)), λ p r. go p (reach_append xs ys p r))
    where
      go : (p : ℕ) → Reach xs p ⊎ Reach ys p → R p
      go p (inl r) = h p (s.1 p r)
      go p (inr r) = k p (t.1 p r)

tidy_nil : (Q : ℕ → Type 0) → Tidy Q []
tidy_nil Q = (tt, λ p r. absurd r)

tidy_one : (Q : ℕ → Type 0) (a : Action) → ((p : ℕ) → At a p → Q p) → Tidy Q (a ∷ [])
tidy_one Q a h = (((λ p x r. r), tt), λ p r. go p r)
  where
    go : (p : ℕ) → At a p ⊎ ⊥ → Q p
    go p (inl x) = h p x
    go p (inr x) = absurd x

-- a script for each field, each of which reads only inside its field
tidy_flat : (k : Field → List Action) → ((f : Field) → f.place < f.start → f.start ≤ f.next → Tidy (Span f) (k f))
    → (lo hi : ℕ) (fs : List Field) → Ordered lo hi fs
    → Tidy (Spans fs) (flat_map k fs)
unfolding flat_map
tidy_flat k one lo hi [] o = (tt, λ p r. r)
tidy_flat k one lo hi (f ∷ fs) o =
    tidy_append (Span f) (Spans fs) (Spans (f ∷ fs)) (k f) (flat_map k fs) (λ p a b. let h = spans_within f.next hi fs o.4 p b in omega arith)
    (λ p a. inl a) (λ p a. inr a) (one f o.1 o.2) (tidy_flat k one f.next hi fs o.4)

map_flat : (k : Field → Action) (fs : List Field) → map k fs ≡ flat_map (λ f. k f ∷ []) fs
unfolding flat_map
map_flat k [] = refl
map_flat k (f ∷ fs) = ap (λ (l : List Action). k f ∷ l) (map_flat k fs)

map_flat_map : (k : Field → Action) (j : Field → List Field) (fs : List Field) → map k (flat_map j fs) ≡ flat_map (λ f. map k (j f)) fs
unfolding flat_map
map_flat_map k j [] = refl
map_flat_map k j (f ∷ fs) = map-append k (j f) (flat_map j fs) ∙ ap (λ (l : List Action). map k (j f) ++ l) (map_flat_map k j fs)

-- ---- scripts that only bind

abbrev Never : ℕ → Type 0
Never p = ⊥

abbrev OnlyBinds : List Action → Type 0
OnlyBinds = All (λ a. (p : ℕ) → At a p → ⊥)

tidy_binds : (acts : List Action) → OnlyBinds acts → Tidy Never acts
tidy_binds [] b = tidy_nil Never
tidy_binds (a ∷ acts) b = let t = tidy_binds acts b.1 in (((λ p x r. b.0 p x), t.0), λ p r. go p r (t.1 p))
  where
    go : (p : ℕ) → At a p ⊎ Reach acts p → (Reach acts p → ⊥) → ⊥
    go p (inl x) h = b.0 p x
    go p (inr r) h = h r

binds_unless : (x : Name) → OnlyBinds (unless_empty binds x)
unfolding unless_empty
binds_unless x = go x.bytes
  where
    go : (t : Bytes) → OnlyBinds (elim t [ [] ↦ [] | b ∷ more ↦ binds x ∷ [] ])
    go [] = tt
    go (b ∷ t) = ((λ p a. a), tt)

binds_map : (named : Field → Name) (fs : List Field) → OnlyBinds (map (λ i. binds (named i)) fs)
binds_map named fs = all_mapped Any (λ a. (p : ℕ) → At a p → ⊥) (λ i. binds (named i)) (λ i _ p a. a) fs (any_all fs)

module _ (model : Bytes) where
  binds_initializers : (waiting : List Bytes) (fs : List Field) → OnlyBinds (initializers model waiting fs)
  unfolding initializers
  binds_initializers waiting [] = tt
  binds_initializers waiting (f ∷ fs) = go (member x.bytes waiting) (λ w. binds_initializers w fs)
    where
      x : Name
      x = name_of model Tensor-name (message model f)

      go : (b : Bool) → ((w : List Bytes) → OnlyBinds (initializers model w fs))
          → OnlyBinds (elim b [
            | true ↦ initializers model (keep (λ y. not (same x.bytes y)) waiting) fs
            | false ↦ binds x ∷ initializers model waiting fs
          ])
      go true ih = ih _
      go false ih = ((λ p a. a), ih waiting)

  -- ---- the parts of a node, of a graph and of a function

  tidy_own : (f : Field) → f.place < f.start → f.start ≤ f.next → Tidy (Span f) (reads (name_in model f) ∷ [])
  unfolding name_in
  tidy_own f h k = tidy_one (Span f) (reads (name_in model f)) (λ p e. let e' : p ≡ f.place = e in (omega arith, omega arith))

  tidy_input : (f : Field) → f.place < f.start → f.start ≤ f.next → Tidy (Span f) (unless_empty reads (name_in model f))
  unfolding unless_empty name_in
  tidy_input f h k = go (text model f)
    where
      go : (t : Bytes) → Tidy (Span f) (elim t [ [] ↦ [] | b ∷ more ↦ reads (name_in model f) ∷ [] ])
      go [] = tidy_nil (Span f)
      go (b ∷ t) = tidy_own f h k

  pub bodies_ordered : (n : Field) → Ordered n.start n.next (bodies_in model n)
  unfolding bodies_in bodies_of
  bodies_ordered n =
      ordered_flat (λ a. bodies_of (message model a)) (λ a. keep_ordered _ a.start a.next (message model a).fields (message_ordered model a))
      n.start n.next (all_of Node-attribute (message model n)) (all_of_ordered model Node-attribute n)

  tidy_attribute : (a : Field) → a.place < a.start → a.start ≤ a.next → Tidy (Span a) (map visits (bodies_of (message model a)))
  unfolding bodies_of
  tidy_attribute a h k = rw (map_flat visits)
      (let o = keep_ordered _ a.start a.next (message model a).fields (message_ordered model a) in
      let t = tidy_flat (λ b. visits b ∷ []) (λ b h k. tidy_one (Span b) (visits b) (λ p i. let j : Within b p = i in (omega arith, omega arith)))
      a.start a.next (bodies_of (message model a)) o in
      (t.0, λ p r. let i = spans_within a.start a.next (bodies_of (message model a)) o p (t.1 p r) in (omega arith, omega arith)))

  tidy_bodies : (n : Field) → Tidy (Spans (all_of Node-attribute (message model n))) (map visits (bodies_in model n))
  unfolding bodies_in
  tidy_bodies n = rw (map_flat_map visits (λ a. bodies_of (message model a)))
      (tidy_flat (λ a. map visits (bodies_of (message model a))) tidy_attribute n.start n.next (all_of Node-attribute (message model n))
      (all_of_ordered model Node-attribute n))

  -- a graph's output is read at its name's tag, or at its own
  place_within : (n : ℕ) (f : Field) → f.place < f.start → f.start ≤ f.next → Span f (place_of n (message model f))
  unfolding place_of first_of message first
  place_within n f h k = go (all_of n (message model f)) (all_of_ordered model n f)
    where
      go : (fs : List Field) → Ordered f.start f.next fs → Span f (elim (first fs) [ none ↦ f.place | some g ↦ g.place ])
      go [] o = (omega arith, omega arith)
      go (g ∷ fs) o = (omega arith, omega arith)

  tidy_output : (f : Field) → f.place < f.start → f.start ≤ f.next → Tidy (Span f) (reads (name_of model ValueInfo-name (message model f)) ∷ [])
  unfolding name_of
  tidy_output f h k =
      tidy_one (Span f) (reads (name_of model ValueInfo-name (message model f)))
      (λ p e. let i = place_within ValueInfo-name f h k in let e' : p ≡ place_of ValueInfo-name (message model f) = e in rw e' i)

  parts_within : (n : ℕ) (f : Field) (p : ℕ) → Spans (all_of n (message model f)) p → Within f p
  parts_within n f p s = spans_within f.start f.next (all_of n (message model f)) (all_of_ordered model n f) p s

  -- parts of a message with two numbers
  pub parts_apart : (n m : ℕ) (f : Field) → (n ≡ m → ⊥) → (p : ℕ) → Spans (all_of n (message model f)) p → Spans (all_of m (message model f)) p → ⊥
  unfolding all_of
  parts_apart n m f d p s t =
      spans_apart (λ g. eqb n g.number) (λ g. eqb m g.number) (λ g a b. d (eqb→eq n g.number a ∙ sym (eqb→eq m g.number b))) f.start
      f.next (message model f).fields (message_ordered model f) p s t

  tidy_node : (f : Field) → f.place < f.start → f.start ≤ f.next → Tidy (Span f) (node_script model f)
  unfolding node_script
  tidy_node f h k =
      let m = message model f in
      let in_f : (p : ℕ) → Within f p → Span f p = λ p i. (omega arith, i.1) in
      tidy_append (Span f) Never (Span f) (flat_map (λ i. unless_empty reads (name_in model i)) (all_of Node-input m) ++ map visits (bodies_in model f))
      (flat_map (λ o. unless_empty binds (name_in model o)) (all_of Node-output m))
      (λ p a b. b) (λ p a. a) (λ p a. absurd a)
      (tidy_append (Spans (all_of Node-input m)) (Spans (all_of Node-attribute m)) (Span f)
      (flat_map (λ i. unless_empty reads (name_in model i)) (all_of Node-input m)) (map visits (bodies_in model f))
      (parts_apart Node-input Node-attribute f (λ e. omega arith)) (λ p a. in_f p (parts_within Node-input f p a)) (λ p a. in_f p (parts_within Node-attribute f p a))
      (tidy_flat (λ i. unless_empty reads (name_in model i)) tidy_input f.start f.next (all_of Node-input m) (all_of_ordered model Node-input f))
      (tidy_bodies f))
      (tidy_binds (flat_map (λ o. unless_empty binds (name_in model o)) (all_of Node-output m))
      (all_flat Any (λ a. (p : ℕ) → At a p → ⊥) (λ o. unless_empty binds (name_in model o)) (λ o _. binds_unless (name_in model o)) (all_of Node-output m)
      (any_all (all_of Node-output m))))

  -- a script that only binds, the nodes, and outputs that are each read inside their own field: a graph's, or a function's
  tidy_body : (nodes outputs : ℕ) → (nodes ≡ outputs → ⊥) → (opening : List Action) → OnlyBinds opening → (out : Field → Action)
      → ((o : Field) → o.place < o.start → o.start ≤ o.next → Tidy (Span o) (out o ∷ [])) → (f : Field)
      → Tidy (Within f) (opening ++ flat_map (node_script model) (all_of nodes (message model f)) ++ map out (all_of outputs (message model f)))
  tidy_body nodes outputs d opening b out one f =
      let m = message model f in
      tidy_append (Spans (all_of nodes m)) (Spans (all_of outputs m)) (Within f)
      (opening ++ flat_map (node_script model) (all_of nodes m)) (map out (all_of outputs m))
      (parts_apart nodes outputs f d) (parts_within nodes f) (parts_within outputs f)
      (tidy_append Never (Spans (all_of nodes m)) (Spans (all_of nodes m)) opening (flat_map (node_script model) (all_of nodes m))
      (λ p a b. a) (λ p a. absurd a) (λ p a. a) (tidy_binds opening b)
      (tidy_flat (node_script model) tidy_node f.start f.next (all_of nodes m) (all_of_ordered model nodes f)))
      (rw (map_flat out) (tidy_flat (λ o. out o ∷ []) one f.start f.next (all_of outputs m) (all_of_ordered model outputs f)))

  pub tidy_script : (main : Bool) (f : Field) → Tidy (Within f) (script model main f)
  unfolding script
  tidy_script main f =
      let g = message model f in
      let inputs = map (λ i. binds (name_of model ValueInfo-name (message model i))) (all_of Graph-input g) in
      let values = initializers model (waiting_in model main g) (all_of Graph-initializer g) in
      tidy_body Graph-node Graph-output (λ e. omega arith) (inputs ++ values)
      (all_append (λ a. (p : ℕ) → At a p → ⊥) inputs values (binds_map (λ i. name_of model ValueInfo-name (message model i)) (all_of Graph-input g))
      (binds_initializers (waiting_in model main g) (all_of Graph-initializer g)))
      (λ o. reads (name_of model ValueInfo-name (message model o))) tidy_output f

  pub tidy_function : (f : Field) → Tidy (Within f) (function_script model f)
  unfolding function_script
  tidy_function f =
      let inputs = all_of Function-input (message model f) in
      tidy_body Function-node Function-output (λ e. omega arith) (map (λ i. binds (name_in model i)) inputs) (binds_map (name_in model) inputs)
      (λ o. reads (name_in model o)) tidy_own f
