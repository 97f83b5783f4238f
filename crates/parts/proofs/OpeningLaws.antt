-- A graph up to its nodes: the order of the code's tests, and what they count.
use Rattle.std.specs.Prelude.{Err, Ok}
use Rattle.varint.specs.Answers.{Answer}
use Prim.Native.Nat.{ℕ, ◌+◌, ◌≤◌}
use native.Mathlib.Omega.{arith}
use mathlib.Core.Path.{◌≡◌, refl, sym, ap, subst, ◌∙◌}
use mathlib.Core.Bool.{Bool, true, false, ◌||◌}
use mathlib.Core.List.{List, [], ◌∷◌, map, flat_map}
use lib.ListN.{length, length-append}
use Rattle.varint.specs.Outcome.{fail, pass, ◌>>=◌, ◌>>◌, each, Judged, refused, refuse◌at:◌when:◌}
use Rattle.varint.specs.declared.Refusal.{Refusal}
use Rattle.wire.specs.declared.Field.{Field}
use Rattle.varint.specs.Lists.{present}
use Rattle.varint.specs.Bytes.{Bytes, same, member}
use Rattle.wire.specs.Message.{all_of, first_of, place_of, bytes_of, message}
use Rattle.varint.proofs.Tells.{Tells, Any, tells_bind, tells_weaken}
use Rattle.varint.proofs.Lists.{or_shift, or_false}
use Rattle.varint.proofs.Passing.{pass_same, passed_tells, passed_bind, passed_seq}
use Rattle.varint.proofs.Answers.{says}
use Rattle.varint.proofs.Refusing.{when_broken, when_kept}
use Rattle.schema.specs.Numbers.{Graph-name, Graph-initializer, Graph-input, Graph-sparse_initializer, ValueInfo-name}
use Rattle.rules.specs.Names.{Name, name_of, inputs_of}
use Rattle.rules.specs.Walk.{Context, Walk, start, with_name, naming, define}
use Rattle.rules.specs.Verdict.{fills}
use Rattle.rules.specs.Graph.{input}
use Rattle.rules.specs.Count.{odds, value_names}
use Rattle.rules.proofs.Rules.{Adds, odds_append, naming_tells}
use Rattle.rules.proofs.Counting.{past, Grew, names_each, grew_type, grew_input}
use Rattle.rules.proofs.NamesFew.{odds_few}
use Rattle.scope.specs.Scope.{bytes_in, walk_in, step_says, counting, Countable, grows, Keeps, Defaultable}
use Rattle.messages.specs.Around.{context}
use Rattle.messages.specs.Again.{tensor_names, opening_names, graph_rules, initializer_again, opening}
use Rattle.messages.specs.declared.contexts.Surroundings.{Surroundings}
use Rattle.index.specs.Table.{seek, since}
use Rattle.index.proofs.UseLaws.{since_none}
use Rattle.index.proofs.ListingLaws.{since_more}
use Rattle.values.specs.Answers.{more, tally_says, naming_says, name_field, Addable}
use Rattle.scope.specs.declared.scopes.Progress.{Progress}
use Rattle.scope.proofs.ScopeLaws.{bytes_length, keeps_all, keeps_fewer, keeps_then}
use Rattle.scope.proofs.StepLaws.{plain, counting_says, counting_grows, counting_few, countable_adds}
use Rattle.values.proofs.NameLaws.{named_passes, named_fails}
use Rattle.values.proofs.TallyLaws.{tally_few}
use Rattle.parts.proofs.InitializerLaws.{initializer_grew}

-- ---- the rules before the inputs: n is the answer of reading the name

module _ (model : Bytes) (f : Field) (w : Walk) where
  Sparse : Walk → Judged Walk
  Sparse t = refuse 16 at: place_of Graph-sparse_initializer (message model f) when: present (first_of Graph-sparse_initializer (message model f)) >> pass t

  rules_by : {o : Judged Walk} → o ≡ naming 20 w (name_of model Graph-name (message model f)) → (o >>= Sparse) ≡ graph_rules model w f
  unfolding graph_rules Sparse
  rules_by e = ap (λ (o : Judged Walk). o >>= Sparse) e

  module _ {n : Answer (Field × ℕ)} (named : (v : Walk) → naming_says v n ≡ name_field model 20 Graph-name v (message model f)) where
    pub graph_misnamed : {x : Refusal} → n ≡ Err x → fail x ≡ graph_rules model w f
    unfolding ◌>>=◌
    graph_misnamed e = rules_by (named_fails _ _ _ _ _ named w e)

    -- h is whether there is a sparse initializer
    module _ {g : Field} {j : ℕ} (e : n ≡ Ok (g, j)) {h : Bool} (eh : h ≡ present (first_of Graph-sparse_initializer (message model f))) where
      graph_named : (refuse 16 at: place_of Graph-sparse_initializer (message model f) when: h >> pass (more w j)) ≡ graph_rules model w f
      unfolding ◌>>=◌ Sparse
      graph_named =
          ap (λ (b : Bool). refuse 16 at: place_of Graph-sparse_initializer (message model f) when: b >> pass (more w j)) eh
          ∙ rules_by (named_passes _ _ _ _ _ named w e)

      pub graph_sparse : h ≡ true → {p : ℕ} → p ≡ place_of Graph-sparse_initializer (message model f) → refused 16 p ≡ graph_rules model w f
      graph_sparse k ep = ap (refused 16) ep ∙ sym (when_broken 16 _ _ k) ∙ graph_named

      pub graph_ruled : h ≡ false → pass (more w j) ≡ graph_rules model w f
      graph_ruled k = sym (when_kept 16 _ _ k) ∙ graph_named

-- ---- the whole: r is what they count

pub grows_then : (p q : Progress) (r : Answer Progress) → grows p (Ok q) → grows q r → grows p r
unfolding grows
grows_then p q (Ok u) h k = omega arith
grows_then p q (Err x) h k = tt

module _ (model : Bytes) (s : Surroundings) (cells : List ℕ) (p : Progress) (f : Field) where
  abbrev Opened : Judged Walk
  Opened = opening model (fills (length cells)) s (walk_in model cells p) f

  abbrev Inputs : Context → Walk → Judged Walk
  Inputs c w = each (input model (fills (length cells)) c) w (all_of Graph-input (message model f))

  abbrev Initializers : (size : ℕ) → Walk → Judged Walk
  Initializers size v = each (initializer_again model (fills size) s f) v (all_of Graph-initializer (message model f))

  opening_by : {o : Judged Walk} → o ≡ graph_rules model (walk_in model cells p) f
      → (o >>= λ w. Inputs (context model s) w >>= Initializers (length cells)) ≡ Opened
  unfolding opening
  opening_by e = ap (λ (o : Judged Walk). o >>= λ w. Inputs (context model s) w >>= Initializers (length cells)) e

  -- n is the step of that
  module _ (r : Answer ℕ) (ruled : (w : Walk) → tally_says w r ≡ graph_rules model w f) {n : Answer Progress} (stepped : n ≡ counting p r) where
    named : {t : Answer Progress} → n ≡ t → step_says model cells t ≡ graph_rules model (walk_in model cells p) f
    named e = ap (step_says model cells) (sym e ∙ stepped) ∙ counting_says model cells p r ∙ ruled (walk_in model cells p)

    begun : {q : Progress} → n ≡ Ok q → grows p (Ok q)
    begun e = subst (grows p) (sym stepped ∙ e) (counting_grows p r)

    pub opening_refused : {x : Refusal} → n ≡ Err x → (step_says model cells n ≡ Opened) × (grows p n × Keeps p.used cells cells)
    unfolding step_says grows ◌>>=◌
    opening_refused {x} k = (ap (step_says model cells) k ∙ opening_by (named k), (rw k tt, keeps_all _ _))

    -- a is the answer for the inputs, with the cells `later`
    module _ {t : Progress} (k : n ≡ Ok t) (later : List ℕ) (a : Answer Progress)
        (answer : (c : Context) → c.main ≡ s.main → step_says model later a ≡ Inputs c (walk_in model cells t))
        (more : grows t a) (kept : Keeps t.used cells later) where
      still : Keeps p.used cells later
      unfolding grows
      still = keeps_fewer (begun k) kept

      opening_ruled : {u : Answer Progress} → a ≡ u → (step_says model later u >>= Initializers (length cells)) ≡ Opened
      unfolding context step_says ◌>>=◌
      opening_ruled e =
          ap (λ (o : Judged Walk). o >>= Initializers (length cells)) (says (step_says model later) (answer (context model s) refl) e)
          ∙ opening_by (named k)

      pub opening_stops : {x : Refusal} → a ≡ Err x → (step_says model later a ≡ Opened) × (grows p a × Keeps p.used cells later)
      unfolding step_says ◌>>=◌
      opening_stops e = (ap (step_says model later) e ∙ opening_ruled e, (grows_then p t a (begun k) more, still))

      -- u is the answer for the initializers, with the cells `last`
      pub opening_goes : {q : Progress} → a ≡ Ok q → (last : List ℕ) (u : Answer Progress)
          → step_says model last u ≡ Initializers (length later) (walk_in model later q) → grows q u
          → Keeps q.used later last
          → (step_says model last u ≡ Opened) × (grows p u × Keeps p.used cells last)
      unfolding step_says grows ◌>>=◌
      opening_goes {q} e last u inner on held =
          let went : grows p (Ok q) = grows_then p t (Ok q) (begun k) (rw e at more) in (
            inner ∙ ap (λ (size : ℕ). Initializers size (walk_in model later q)) kept.size ∙ opening_ruled e,
            (grows_then p q u went on, keeps_then still (keeps_fewer went held)),
          )

-- ---- what it counts

module _ (model : Bytes) where
  rules_grew : (w : Walk) (f : Field) → Tells (Adds w (odds (bytes_of model Graph-name (message model f) ∷ []))) Any (graph_rules model w f)
  unfolding graph_rules name_of
  rules_grew w f =
      let x = name_of model Graph-name (message model f) in
      tells_bind (Adds w (odds (x.bytes ∷ []))) (Adds w (odds (x.bytes ∷ []))) Any (naming 20 w x) _ (naming_tells Any w x 20 tt tt) (λ t h.
      past (Adds w (odds (x.bytes ∷ []))) (refuse 16 at: _ when: _) _ h)

  pub rules_few : (f : Field) {r : Answer ℕ} → ((w : Walk) → tally_says w r ≡ graph_rules model w f) → {k : ℕ} → r ≡ Ok k → k ≤ 1
  rules_few f e i =
      let names = bytes_of model Graph-name (message model f) ∷ [] in
      tally_few start (e start) names (Adds start (odds names)) (λ v a. a.3) (rules_grew start f) i

module _ (model : Bytes) (full : ℕ → Bool) (s : Surroundings) where
  pub opening_grew : (w : Walk) (f : Field) → Tells (Grew w 0 (odds (opening_names model s.main f))) Any (opening model full s w f)
  unfolding opening opening_names context
  opening_grew w f =
      let g = message model f in
      let x = bytes_of model Graph-name g in
      let ins : List Bytes = flat_map (value_names model s.main) (all_of Graph-input g) in
      let values : List Bytes = flat_map (tensor_names model) (all_of Graph-initializer g) in
      let R : Walk → Type 0 = Grew w 0 (odds (opening_names model s.main f)) in
      let e : odds (opening_names model s.main f) ≡ odds (x ∷ []) + odds ins + odds values =
      odds_append (x ∷ ins) values ∙ ap (λ (n : ℕ). n + odds values) (odds_append (x ∷ []) ins) in
      tells_bind (Adds w (odds (x ∷ []))) R Any (graph_rules model w f) _ (rules_grew model w f) (λ t h.
      tells_bind (Grew t 0 (odds ins)) R Any (each (input model full (context model s)) t (all_of Graph-input g)) _
      (names_each (λ v. v) (value_names model s.main) (input model full (context model s)) (grew_input model full (context model s))
      (all_of Graph-input g) t) (λ v i.
      tells_weaken (Grew v 0 (odds values)) R Any Any (each (initializer_again model full s f) v (all_of Graph-initializer g))
      (λ u j. (omega arith, omega arith)) (λ r _. tt)
      (names_each (λ u. u) (tensor_names model) (initializer_again model full s f) (initializer_grew model full s f) (all_of Graph-initializer g) v)))

  -- it counts no node
  pub opening_stays : (w : Walk) (f : Field) (v : Walk) → opening model full s w f ≡ pass v → v.nodes ≡ w.nodes
  opening_stays w f v e = let g = passed_tells _ Any _ v (opening_grew w f) e in omega arith

-- what is left of the room for them, after each
module _ (model : Bytes) (main : Bool) (p : Progress) (f : Field) (room : Countable p (opening_names model main f)) where
  abbrev Ins : List Bytes
  Ins = flat_map (value_names model main) (all_of Graph-input (message model f))

  abbrev Values : List Bytes
  Values = flat_map (tensor_names model) (all_of Graph-initializer (message model f))

  lengths : length (opening_names model main f) ≡ 1 + length Ins + length Values
  unfolding opening_names
  lengths = let e = length-append (bytes_of model Graph-name (message model f) ∷ Ins) Values in omega arith

  pub opening_fits : (r : Answer ℕ) → ((w : Walk) → tally_says w r ≡ graph_rules model w f) → Addable p.odd r
  unfolding Countable
  opening_fits r ruled =
      countable_adds p r (bytes_of model Graph-name (message model f) ∷ []) (λ l i. rules_few model f ruled i)
      (let n = lengths in let h = room in omega arith)

  module _ (r : Answer ℕ) (ruled : (w : Walk) → tally_says w r ≡ graph_rules model w f) {n : Answer Progress} (stepped : n ≡ counting p r) {t : Progress} (e : n ≡ Ok t) where
    after_name : (t.used ≡ p.used) × (t.nodes ≡ p.nodes) × (t.odd ≤ p.odd + 1)
    after_name = counting_few p r 1 (λ l i. rules_few model f ruled i) stepped e

    pub opening_inputs : Countable t Ins
    unfolding Countable
    opening_inputs = let all = lengths in let h = room in let a = after_name.2 in omega arith

    -- s is the answer for the inputs, with the cells `later`
    pub opening_values : (cells later : List ℕ) (s : Answer Progress)
        → ((c : Context) → c.main ≡ main
        → step_says model later s ≡ each (input model (fills (length cells)) c) (walk_in model cells t) (all_of Graph-input (message model f)))
        → {q : Progress} → s ≡ Ok q → Countable q Values
    unfolding Countable step_says walk_in
    opening_values cells later s answer {q} i =
        let passed = sym (says (step_says model later) (answer (plain main) refl) i) in
        let g = (passed_tells _ Any _ _ (names_each (λ v. v) (value_names model main) (input model (fills (length cells)) (plain main))
        (grew_input model (fills (length cells)) (plain main)) (all_of Graph-input (message model f)) (walk_in model cells t)) passed).1 in
        let few = odds_few Ins in
        let all = lengths in
        let h = room in
        let a = after_name.2 in
        omega arith

-- ---- the names of a graph's inputs are the records that they added

module _ (model : Bytes) (full : ℕ → Bool) (c : Context) where
  abbrev Names : List Field → List Bytes
  Names l = map (λ f. bytes_of model ValueInfo-name (message model f)) l

  abbrev Texts : List Name → List Bytes
  Texts l = map (λ n. n.bytes) l

  input_scope : (w : Walk) (f : Field) (v : Walk) → input model full c w f ≡ pass v → v.scope ≡ name_of model ValueInfo-name (message model f) ∷ w.scope
  unfolding input define with_name
  input_scope w f v e =
      let x = name_of model ValueInfo-name (message model f) in
      let named = passed_bind _ _ v e in
      let t = (passed_tells _ Any _ _ (naming_tells Any w x 22 tt tt) named.1).0 in
      let defined = passed_bind _ _ v named.2 in
      let y = pass_same _ _ (passed_seq _ _ _ (passed_seq _ _ _ defined.1).1).1 in
      let z = (passed_tells _ Any _ _ (grew_type model c (message model f) defined.0) defined.2).0 in
      z ∙ ap (λ (u : Walk). u.scope) (sym y) ∙ ap (λ (l : List Name). x ∷ l) t

  inputs_since : (outer : ℕ) (l : List Field) (w v : Walk) → each (input model full c) w l ≡ pass v → outer ≤ length (Texts w.scope) → (x : Bytes)
      → since outer (seek x (Texts v.scope)) ≡ (member x (Names l) || since outer (seek x (Texts w.scope)))
  unfolding each member name_of
  inputs_since outer [] w v e h x = ap (λ (u : Walk). since outer (seek x (Texts u.scope))) (sym (pass_same w v e))
  inputs_since outer (f ∷ l) w v e h x =
      let p = passed_bind (input model full c w f) (λ u. each (input model full c) u l) v e in
      let one = input_scope w f p.0 p.1 in
      let y = bytes_of model ValueInfo-name (message model f) in
      let further = ap (λ (s : List Name). length (Texts s)) one in
      inputs_since outer l p.0 v p.2 (omega arith) x
      ∙ ap (λ (s : List Name). member x (Names l) || since outer (seek x (Texts s))) one
      ∙ ap (λ (b : Bool). member x (Names l) || b) (since_more x y (Texts w.scope) outer h)
      ∙ or_shift (member x (Names l)) (same x y) (since outer (seek x (Texts w.scope)))

pub inputs_defaultable : (model : Bytes) (cells later : List ℕ) (p : Progress) {q : Progress} (f : Field) (main : Bool) (s : Answer Progress)
    → ((c : Context) → c.main ≡ main
    → step_says model later s ≡ each (input model (fills (length cells)) c) (walk_in model cells p) (all_of Graph-input (message model f)))
    → s ≡ Ok q
    → Defaultable model f later p.used q.used
unfolding step_says walk_in bytes_in inputs_of
inputs_defaultable model cells later p {q} f main s answer e = record {
  names = λ x.
      let passed = sym (says (step_says model later) (answer (plain main) refl) e) in
      let many = bytes_length model cells p.used in
      inputs_since model (fills (length cells)) (plain main) p.used (all_of Graph-input (message model f)) (walk_in model cells p) (walk_in model later q) passed (omega arith) x
      ∙ ap (λ (b : Bool). member x (inputs_of model (message model f)) || b) (since_none x (bytes_in model cells p.used) p.used (omega arith))
      ∙ or_false (member x (inputs_of model (message model f)));
}
