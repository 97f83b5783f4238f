-- The counts of nodes and of odd names: where the judge passes a graph it has counted just the node fields, and the names that
-- are no identifiers, of that graph and of those within.
use Prim.Native.Nat.{ℕ, zero, suc, ◌+◌}
use native.Mathlib.Omega.{arith}
use native.Mathlib.Nat.{add-suc}
use mathlib.Core.Path.{◌≡◌, refl, ap, ◌∙◌}
use mathlib.Core.Bool.{Bool, false}
use mathlib.Core.List.{List, [], ◌∷◌, ◌++◌, flat_map}
use lib.ListN.{length, length-append}
use Rattle.varint.specs.Outcome.{pass, ◌>>=◌, ◌>>◌, each, Judged, Rule, refuse◌at:◌when:◌, refuse◌at:◌first:◌when:◌}
use Rattle.wire.specs.declared.Field.{Field}
use Rattle.varint.specs.Lists.{is_empty, keep}
use Rattle.varint.specs.Bytes.{Bytes}
use Rattle.wire.specs.Message.{Message, all_of, text, bytes_of, message}
use Rattle.varint.proofs.Lists.{flat_flat}
use Rattle.varint.proofs.Tells.{Tells, Any, any_all, Among, anything, tells_bind, tells_weaken, tells_seq, tells_if}
use Rattle.schema.specs.Numbers.{Graph-node, Graph-name, Graph-initializer, Graph-input, Graph-output, ValueInfo-name}
use Rattle.schema.specs.Numbers.{Tensor-name, Node-input, Node-output, Node-name, Node-op_type, Node-attribute, Attribute-name, Dimension-dim_param}
use Rattle.rules.specs.Names.{Name, name_of, name_in, bodies_of, inputs_of, bodies_in}
use Rattle.rules.specs.Walk.{Context, nested_in, in_main, Walk, GraphJudge, with_name, with_node, leaving, Along, along, tested, naming, define}
use Rattle.rules.specs.Types.{dim, declared_type}
use Rattle.rules.specs.Node.{node_name, node_input, node_output, body, attribute, node}
use Rattle.rules.specs.Graph.{input, is_default, default_or_new, initializer, output, graph_with, graph}
use Rattle.rules.specs.Count.{nodes_in, odds, value_names, attribute_names, node_names, graph_names, names_in}
use Rattle.rules.proofs.Rules.{Adds, dim_tells, odds_append, odds_none, map_flat, tested_tells, naming_tells}
use Rattle.rules.proofs.Rules.{Type-refusals, in_type, main_type_tells, node_name_tells}

-- what comes after a step of which nothing is asked
pub after : {A B : Type 0} (R : B → Type 0) (j : Judged A) (f : A → Judged B) → ((a : A) → Tells R Any (f a)) → Tells R Any (j >>= f)
after R j f h = tells_bind Any R Any j f (anything j) (λ a _. h a)

pub past : {B : Type 0} (R : B → Type 0) (j : Rule) (k : Judged B) → Tells R Any k → Tells R Any (j >> k)
past R j k h = tells_seq R Any j k (anything j) h

-- both counts of a walk grow
abbrev pub Grew : Walk → (nodes names : ℕ) → Walk → Type 0
Grew w k j v = (v.nodes ≡ w.nodes + k) × (v.odd ≡ w.odd + j)

-- the same of a state that holds a walk
abbrev pub GrewIn : {S : Type 0} → (S → Walk) → S → (nodes names : ℕ) → S → Type 0
GrewIn walk_of s k j t = Grew (walk_of s) k j (walk_of t)

module _ {A S : Type 0} (walk_of : S → Walk) (k : A → List Field) (j : A → List Bytes) (step : S → A → Judged S)
    (one : (s : S) (a : A) → Tells (GrewIn walk_of s (length (k a)) (odds (j a))) Any (step s a)) where
  pub grew_each : (as' : List A) (s : S) → Tells (GrewIn walk_of s (length (flat_map k as')) (odds (flat_map j as'))) Any (each step s as')
  unfolding each flat_map odds keep
  grew_each [] s = (omega arith, omega arith)
  grew_each (a ∷ more) s =
      let R : S → Type 0 = GrewIn walk_of s (length (k a ++ flat_map k more)) (odds (j a ++ flat_map j more)) in
      let l = length-append (k a) (flat_map k more) in
      let m = odds_append (j a) (flat_map j more) in
      tells_bind (GrewIn walk_of s (length (k a)) (odds (j a))) R Any (step s a) _ (one s a) (λ t e.
      tells_weaken (GrewIn walk_of t (length (flat_map k more)) (odds (flat_map j more))) R Any Any (each step t more)
      (λ u q. (omega arith, omega arith)) (λ r _. tt) (grew_each more t))

no_nodes : {A : Type 0} (l : List A) → length (flat_map {B = Field} (λ _. []) l) ≡ 0
unfolding flat_map
no_nodes [] = refl
no_nodes (a ∷ l) = no_nodes l

-- steps with no nodes in them
module _ {A S : Type 0} (walk_of : S → Walk) (j : A → List Bytes) (step : S → A → Judged S)
    (one : (s : S) (a : A) → Tells (GrewIn walk_of s 0 (odds (j a))) Any (step s a)) where
  pub names_each : (as' : List A) (s : S) → Tells (GrewIn walk_of s 0 (odds (flat_map j as'))) Any (each step s as')
  names_each as' s = rw (no_nodes as') at (grew_each walk_of (λ _. []) j step one as' s)

abbrev pub itself : Walk → Walk
itself w = w

abbrev along' : Along → Walk
along' w = w.walk

pub grew_define : (full : ℕ → Bool) (w : Walk) (x : Name) → Tells (Grew w 0 0) Any (define full w x)
unfolding define with_name
grew_define full w x = past (Grew w 0 0) (refuse 23 at: _ first: _ when: _) _ (past (Grew w 0 0) (refuse 40 at: _ when: _) _ (omega arith, omega arith))

module _ (model : Bytes) where
  pub grew_dim : (w : Walk) (f : Field) → Tells (Adds w (odds (bytes_of model Dimension-dim_param (message model f) ∷ []))) Any (dim model w f)
  grew_dim w f =
      tells_weaken (Adds w _) (Adds w _) (Among Type-refusals Any) Any (dim model w f) (λ u a. a) (λ r _. tt)
      (dim_tells model Any Any (λ g h. tt) (λ g h. any_all (message model g).fields) w f tt)

  abbrev pub typed : Context → Message → List Bytes
  typed c v = in_type model Any Any (λ f g. tt) (λ f g. any_all (message model f).fields) c v

  pub grew_type : (c : Context) (v : Message) (w : Walk) → Tells (Adds w (odds (typed c v))) Any (in_main c (declared_type model v) w)
  grew_type c v w =
      tells_weaken (Adds w _) (Adds w _) (Among Type-refusals Any) Any (in_main c (declared_type model v) w) (λ u a. a) (λ r _. tt)
      (main_type_tells model Any Any (λ f g. tt) (λ f g. any_all (message model f).fields) c v w (tt, any_all v.fields))

  pub grew_name : (earlier : List Bytes) (w : Walk) (m : Message)
      → Tells (λ n. Adds w (odds (bytes_of model Node-name m ∷ [])) n.walk) Any (node_name model earlier w m)
  grew_name earlier w m =
      let R : Along → Type 0 = λ n. Adds w (odds (bytes_of model Node-name m ∷ [])) n.walk in
      tells_weaken R R (Among (21 ∷ 29 ∷ []) Any) Any (node_name model earlier w m) (λ n a. a) (λ r _. tt)
      (node_name_tells model Any Any (λ f g. tt) (λ f g. any_all (message model f).fields) earlier w m (tt, any_all m.fields))

module _ (model : Bytes) (full : ℕ → Bool) where
  pub grew_node_input : (w : Walk) (f : Field) → Tells (Grew w 0 (odds (text model f ∷ []))) Any (node_input model w f)
  unfolding node_input name_in
  grew_node_input w f =
      let R : Walk → Type 0 = Grew w 0 (odds (text model f ∷ [])) in
      tells_if R Any (is_empty (text model f)) _ _ (λ b. let e = odds_none (text model f) b in (omega arith, omega arith)) (λ b.
      tells_bind (Adds w (odds (text model f ∷ []))) R Any (tested w (name_in model f)) _ (tested_tells Any w (name_in model f) b tt) (λ v h.
      past R (refuse 30 at: _ when: _) (pass v) (omega arith, omega arith)))

  pub grew_node_output : (w : Walk) (f : Field) → Tells (Grew w 0 (odds (text model f ∷ []))) Any (node_output model full w f)
  unfolding node_output name_in
  grew_node_output w f =
      let R : Walk → Type 0 = Grew w 0 (odds (text model f ∷ [])) in
      tells_if R Any (is_empty (text model f)) _ _ (λ b. let e = odds_none (text model f) b in (omega arith, omega arith)) (λ b.
      tells_bind (Adds w (odds (text model f ∷ []))) R Any (tested w (name_in model f)) _ (tested_tells Any w (name_in model f) b tt) (λ v h.
      tells_weaken (Grew v 0 0) R Any Any (define full v (name_in model f)) (λ u i. (omega arith, omega arith)) (λ r _. tt)
      (grew_define full v (name_in model f))))

  module _ (c : Context) where
    pub grew_input : (w : Walk) (f : Field) → Tells (Grew w 0 (odds (value_names model c.main f))) Any (input model full c w f)
    unfolding input name_of value_names
    grew_input w f =
        let x = name_of model ValueInfo-name (message model f) in
        let R : Walk → Type 0 = Grew w 0 (odds (value_names model c.main f)) in
        let e = odds_append (x.bytes ∷ []) (typed model c (message model f)) in
        tells_bind (Adds w (odds (x.bytes ∷ []))) R Any (naming 22 w x) _ (naming_tells Any w x 22 tt tt) (λ t h.
        tells_bind (Grew t 0 0) R Any (define full t x) _ (grew_define full t x) (λ v i.
        tells_weaken (Adds v _) R Any Any (in_main c (declared_type model (message model f)) v) (λ u l. (omega arith, omega arith)) (λ r _. tt)
        (grew_type model c (message model f) v)))

    pub grew_output : (w : Walk) (f : Field) → Tells (Grew w 0 (odds (value_names model c.main f))) Any (output model c w f)
    unfolding output name_of value_names
    grew_output w f =
        let x = name_of model ValueInfo-name (message model f) in
        let R : Walk → Type 0 = Grew w 0 (odds (value_names model c.main f)) in
        let e = odds_append (x.bytes ∷ []) (typed model c (message model f)) in
        tells_bind (Adds w (odds (x.bytes ∷ []))) R Any (naming 22 w x) _ (naming_tells Any w x 22 tt tt) (λ v h.
        past R (refuse 35 at: _ when: _) _
        (tells_weaken (Adds v _) R Any Any (in_main c (declared_type model (message model f)) v) (λ u l. (omega arith, omega arith)) (λ r _. tt)
        (grew_type model c (message model f) v)))

    pub grew_default : (inputs earlier : List Bytes) (w : Walk) (x : Name) → Tells (Grew w 0 0) Any (default_or_new full c inputs earlier w x)
    unfolding default_or_new
    grew_default inputs earlier w x =
        tells_if (Grew w 0 0) Any (is_default c inputs earlier x.bytes) _ _ (λ b. (omega arith, omega arith)) (λ b. grew_define full w x)

    grew_initializer : (inputs : List Bytes) (w : Along) (f : Field)
        → Tells (GrewIn along' w 0 (odds (bytes_of model Tensor-name (message model f) ∷ []))) Any (initializer model full c inputs w f)
    unfolding initializer name_of
    grew_initializer inputs w f =
        let x = name_of model Tensor-name (message model f) in
        let R : Along → Type 0 = GrewIn along' w 0 (odds (x.bytes ∷ [])) in
        tells_bind (Adds w.walk (odds (x.bytes ∷ []))) R Any (naming 22 w.walk x) _ (naming_tells Any w.walk x 22 tt tt) (λ t h.
        past R (refuse 43 at: _ when: _) _
        (tells_bind (Grew t 0 0) R Any (default_or_new full c inputs w.earlier t x) _ (grew_default inputs w.earlier t x) (λ v i.
        past R (refuse 26 at: _ when: _) _ (omega arith, omega arith))))

    -- ---- one level: `J` counts the graphs further in as `k` lists their nodes and `l` their names

    module _ (J : GraphJudge) (k : Field → List Field) (l : Field → List Bytes)
        (nest : (w : Walk) (f : Field) → Tells (Grew w (length (k f)) (odds (l f))) Any (J w f)) where
      grew_body : (w : Walk) (f : Field) → Tells (Grew w (length (k f)) (odds (l f))) Any (body J w f)
      unfolding body leaving
      grew_body w f = tells_bind (Grew w (length (k f)) (odds (l f))) (Grew w (length (k f)) (odds (l f))) Any (J w f) _ (nest w f) (λ v e. e)

      grew_attribute : (w : Along) (f : Field)
          → Tells (GrewIn along' w (length (flat_map k (bodies_of (message model f)))) (odds (attribute_names model l f))) Any (attribute model c J w f)
      unfolding attribute name_of attribute_names
      grew_attribute w f =
          let x = name_of model Attribute-name (message model f) in
          let bodies = bodies_of (message model f) in
          let R : Along → Type 0 = GrewIn along' w (length (flat_map k bodies)) (odds (attribute_names model l f)) in
          let e = odds_append (x.bytes ∷ []) (flat_map l bodies) in
          tells_bind (Adds w.walk (odds (x.bytes ∷ []))) R Any (naming 22 w.walk x) _ (naming_tells Any w.walk x 22 tt tt) (λ t h.
          past R (refuse 31 at: _ when: _) _ (past R (refuse 33 at: _ when: _) _ (past R (refuse 32 at: _ when: _) _
          (tells_bind (Grew t (length (flat_map k bodies)) (odds (flat_map l bodies))) R Any (each (body J) t bodies) _
          (grew_each itself k l (body J) grew_body bodies t) (λ v i. (omega arith, omega arith))))))

      grew_node : (w : Along) (f : Field)
          → Tells (GrewIn along' w (length (f ∷ flat_map k (bodies_in model f))) (odds (node_names model l f))) Any (node model full c J w f)
      unfolding node with_node along bodies_in name_of node_names
      grew_node w f =
          let m = message model f in
          let x = name_of model Node-op_type m in
          let name = bytes_of model Node-name m in
          let inner : List Field = flat_map (λ a. flat_map k (bodies_of (message model a))) (all_of Node-attribute m) in
          let inside : List Bytes = flat_map (attribute_names model l) (all_of Node-attribute m) in
          let ins : List Bytes = flat_map (λ i. text model i ∷ []) (all_of Node-input m) in
          let outs : List Bytes = flat_map (λ o. text model o ∷ []) (all_of Node-output m) in
          let R : Along → Type 0 = GrewIn along' w (length (f ∷ flat_map k (bodies_in model f))) (odds (node_names model l f)) in
          let q : length (flat_map k (bodies_in model f)) ≡ length inner =
          ap (λ (l : List Field). length l) (flat_flat k (λ a. bodies_of (message model a)) (all_of Node-attribute m)) in
          let e : odds (node_names model l f) ≡ odds (x.bytes ∷ []) + (odds (name ∷ []) + odds ins) + odds inside + odds outs =
          rw (map_flat (text model) (all_of Node-input m), map_flat (text model) (all_of Node-output m)) (
          odds_append ((x.bytes ∷ name ∷ ins) ++ inside) outs
          ∙ ap (λ (n : ℕ). n + odds outs) (odds_append (x.bytes ∷ name ∷ ins) inside
          ∙ ap (λ (n : ℕ). n + odds inside) (odds_append (x.bytes ∷ []) (name ∷ ins)
          ∙ ap (λ (n : ℕ). odds (x.bytes ∷ []) + n) (odds_append (name ∷ []) ins)))) in
          tells_bind (Adds w.walk (odds (x.bytes ∷ []))) R Any (naming 27 w.walk x) _ (naming_tells Any w.walk x 27 tt tt) (λ t h.
          past R (refuse 28 at: _ when: _) _
          (tells_bind (λ n. Adds t (odds (name ∷ [])) n.walk) R Any (node_name model w.earlier t m) _
          (grew_name model w.earlier t m) (λ n h₂.
          tells_bind (Grew n.walk 0 (odds ins)) R Any (each (node_input model) n.walk (all_of Node-input m)) _
          (names_each itself (λ i. text model i ∷ []) (node_input model) grew_node_input (all_of Node-input m) n.walk) (λ i h₃.
          tells_bind (λ a. Grew i (length inner) (odds inside) a.walk) R Any (each (attribute model c J) (along i) (all_of Node-attribute m)) _
          (grew_each along' (λ a. flat_map k (bodies_of (message model a))) (attribute_names model l) (attribute model c J) grew_attribute
          (all_of Node-attribute m) (along i)) (λ a h₄.
          past R (refuse 34 at: _ when: _) _
          (tells_bind (Grew a.walk 0 (odds outs)) R Any (each (node_output model full) a.walk (all_of Node-output m)) _
          (names_each itself (λ o. text model o ∷ []) (node_output model full) grew_node_output (all_of Node-output m) a.walk)
          (λ v h₅. (omega arith, omega arith))))))))

      -- the nodes of a graph or of a function
      pub grew_nodes : (ns : List Field) (w : Along)
          → Tells (GrewIn along' w (length (flat_map (λ n. n ∷ flat_map k (bodies_in model n)) ns)) (odds (flat_map (node_names model l) ns))) Any (each (node model full c J) w ns)
      grew_nodes = grew_each along' (λ n. n ∷ flat_map k (bodies_in model n)) (node_names model l) (node model full c J) grew_node

      grew_graph : (w : Walk) (f : Field)
          → Tells (Grew w (length (flat_map (λ n. n ∷ flat_map k (bodies_in model n)) (all_of Graph-node (message model f))))
          (odds (graph_names model l c.main f))) Any (graph_with model full c J w f)
      unfolding graph_with along name_of graph_names
      grew_graph w f =
          let g = message model f in
          let x = name_of model Graph-name g in
          let nodes : List Field = flat_map (λ n. n ∷ flat_map k (bodies_in model n)) (all_of Graph-node g) in
          let ins : List Bytes = flat_map (value_names model c.main) (all_of Graph-input g) in
          let values : List Bytes = flat_map (λ t. bytes_of model Tensor-name (message model t) ∷ []) (all_of Graph-initializer g) in
          let inside : List Bytes = flat_map (node_names model l) (all_of Graph-node g) in
          let outs : List Bytes = flat_map (value_names model c.main) (all_of Graph-output g) in
          let R : Walk → Type 0 = Grew w (length nodes) (odds (graph_names model l c.main f)) in
          let e : odds (graph_names model l c.main f) ≡ odds (x.bytes ∷ []) + odds ins + odds values + odds inside + odds outs =
          rw (map_flat (λ t. bytes_of model Tensor-name (message model t))) (
          odds_append ((x.bytes ∷ ins) ++ values ++ inside) outs
          ∙ ap (λ (n : ℕ). n + odds outs) (odds_append ((x.bytes ∷ ins) ++ values) inside
          ∙ ap (λ (n : ℕ). n + odds inside) (odds_append (x.bytes ∷ ins) values
          ∙ ap (λ (n : ℕ). n + odds values) (odds_append (x.bytes ∷ []) ins)))) in
          tells_bind (Adds w (odds (x.bytes ∷ []))) R Any (naming 20 w x) _ (naming_tells Any w x 20 tt tt) (λ t h.
          past R (refuse 16 at: _ when: _) _
          (tells_bind (Grew t 0 (odds ins)) R Any (each (input model full c) t (all_of Graph-input g)) _
          (names_each itself (value_names model c.main) (input model full c) grew_input (all_of Graph-input g) t) (λ v h₂.
          tells_bind (λ i. Grew v 0 (odds values) i.walk) R Any (each (initializer model full c (inputs_of model g)) (along v) (all_of Graph-initializer g)) _
          (names_each along' (λ t. bytes_of model Tensor-name (message model t) ∷ []) (initializer model full c (inputs_of model g))
          (grew_initializer (inputs_of model g)) (all_of Graph-initializer g) (along v)) (λ i h₃.
          tells_bind (λ n. Grew i.walk (length nodes) (odds inside) n.walk) R Any (each (node model full c J) (along i.walk) (all_of Graph-node g)) _
          (grew_nodes (all_of Graph-node g) (along i.walk)) (λ n h₄.
          tells_weaken (Grew n.walk 0 (odds outs)) R Any Any (each (output model c) n.walk (all_of Graph-output g))
          (λ u h₅. (omega arith, omega arith)) (λ r _. tt)
          (names_each itself (value_names model c.main) (output model c) grew_output (all_of Graph-output g) n.walk))))))

-- the plain counts have as many depths as the judge, or more
pub grew_depths : (model : Bytes) (full : ℕ → Bool) (left more : ℕ) (c : Context) (w : Walk) (f : Field)
    → Tells (Grew w (length (nodes_in model (more + left) f)) (odds (names_in model (more + left) c.main f))) Any (graph model full left c w f)
unfolding graph nodes_in names_in nested_in
grew_depths model full zero more c w f = tt
grew_depths model full (suc left) more c w f = rw add-suc
    (grew_graph model full c (graph model full left (nested_in c)) (nodes_in model (more + left)) (names_in model (more + left) false)
    (λ w f. grew_depths model full left more (nested_in c) w f) w f)
