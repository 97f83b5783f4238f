-- Which numbers the rules refuse with, and at which places, over any property `Q` of places that holds of every field that the
-- walk can come to: `Good` is a property of fields that passes on to the fields inside.
use Prim.Native.Nat.{ℕ, ◌+◌}
use native.Mathlib.Omega.{arith}
use mathlib.Core.Path.{◌≡◌, refl, ap, ◌∙◌}
use mathlib.Core.Bool.{Bool, true, false, not}
use mathlib.Core.List.{List, [], ◌∷◌, ◌++◌, map, flat_map}
use mathlib.Core.Option.{Option, none, some}
use lib.ListN.{length}
use lib.Dec.{T}
use Rattle.varint.specs.Outcome.{pass, each, Judged, refused}
use Rattle.varint.specs.declared.Refusal.{Refusal}
use Rattle.wire.specs.declared.Field.{Field}
use Rattle.varint.specs.Lists.{is_empty, contains, keep}
use Rattle.varint.specs.Bytes.{Bytes}
use Rattle.wire.specs.Message.{Message, all_of, first_of, place_of, text, bytes_of, message}
use Rattle.varint.proofs.Lists.{All, If, all_keep, all_first, subset, contains_subset}
use Rattle.varint.proofs.Tells.{Tells, Any, Among, tells_bind, tells_weaken, tells_if, tells_rule, tells_each}
use Rattle.schema.specs.Numbers.{Model-ir_version, Model-opset_import, ValueInfo-type, TypeProto-tensor}
use Rattle.schema.specs.Numbers.{TensorType-elem_type, TensorType-shape, Shape-dim, Dimension-dim_value, Dimension-dim_param, Node-name}
use Rattle.spelling.specs.Identifier.{identifier, oddity}
use Rattle.rules.specs.Names.{Name, name_of, name_in, bodies_of}
use Rattle.rules.specs.Walk.{Context, in_main, Walk, with_tested, tested, naming}
use Rattle.rules.specs.Types.{dim_param, dim, tensor_type, declared_type}
use Rattle.rules.specs.Count.{is_odd, odds, part_of, dim_params}
use Rattle.rules.specs.Node.{node_name}
use Rattle.rules.specs.Import.{opset_import}
use Rattle.rules.specs.Header.{header}

pub more_numbers : {A : Type 0} (R : A → Type 0) (Q : ℕ → Type 0) (xs ys : List ℕ) (o : Judged A) → T (subset xs ys) → Tells R (Among xs Q) o → Tells R (Among ys Q) o
more_numbers R Q xs ys o s t = tells_weaken R R (Among xs Q) (Among ys Q) o (λ a h. h) (λ r h. (contains_subset xs ys r.number s h.0, h.1, h.2)) t

abbrev pub Type-refusals : List ℕ
Type-refusals = 21 ∷ 24 ∷ 25 ∷ 37 ∷ 38 ∷ []

abbrev pub Import-refusals : List ℕ
Import-refusals = 13 ∷ 14 ∷ []

abbrev pub Header-refusals : List ℕ
Header-refusals = 10 ∷ 11 ∷ 12 ∷ 13 ∷ 14 ∷ []

-- ---- a rule that only tests names leaves the walk as it was, but for the odd ones among them

abbrev pub Adds : Walk → ℕ → Walk → Type 0
Adds w k v = (v.scope ≡ w.scope) × (v.nodes ≡ w.nodes) × (v.most ≡ w.most) × (v.odd ≡ w.odd + k)

pub odds_append : (xs ys : List Bytes) → odds (xs ++ ys) ≡ odds xs + odds ys
unfolding odds keep
odds_append [] ys = omega arith
odds_append (x ∷ xs) ys = go (is_odd x) (odds_append xs ys)
  where
    go : (b : Bool) → length (keep is_odd (xs ++ ys)) ≡ length (keep is_odd xs) + length (keep is_odd ys)
        → length {A = Bytes} (elim b as (λ _. List Bytes) [ true ↦ x ∷ keep is_odd (xs ++ ys) | false ↦ keep is_odd (xs ++ ys) ])
        ≡ length {A = Bytes} (elim b as (λ _. List Bytes) [ true ↦ x ∷ keep is_odd xs | false ↦ keep is_odd xs ]) + length (keep is_odd ys)
    go true e = omega arith
    go false e = e

pub odds_none : (x : Bytes) → T (is_empty x) → odds (x ∷ []) ≡ 0
unfolding odds keep is_odd is_empty
odds_none [] t = refl
odds_none (b ∷ x) t = absurd t

pub odds_some : (x : Bytes) → T (not (is_empty x)) → odds (x ∷ []) ≡ oddity x
unfolding odds keep is_odd is_empty oddity
odds_some [] t = absurd t
odds_some (b ∷ x) t = go (identifier (b ∷ x))
  where
    go : (i : Bool)
        → length {A = Bytes} (elim (not i) as (λ _. List Bytes) [ true ↦ (b ∷ x) ∷ [] | false ↦ [] ]) ≡ (elim i as (λ _. ℕ) [ true ↦ 0 | false ↦ 1 ])
    go true = refl
    go false = refl

pub map_flat : {A B : Type 0} (k : A → B) (l : List A) → map k l ≡ flat_map (λ a. k a ∷ []) l
unfolding flat_map
map_flat k [] = refl
map_flat k (a ∷ l) = ap (λ (m : List _). k a ∷ m) (map_flat k l)

module _ (P : Refusal → Type 0) (w : Walk) (x : Name) where
  pub tested_tells : T (not (is_empty x.bytes)) → P (record { number = 21; place = x.place; first = 0 })
      → Tells (Adds w (odds (x.bytes ∷ []))) P (tested w x)
  unfolding tested with_tested
  tested_tells t p =
      tells_rule (Adds w (odds (x.bytes ∷ []))) P 21 _ _ _ (λ b. p) (λ b. let e = odds_some x.bytes t in (refl, refl, refl, omega arith))

  pub naming_tells : (empty : ℕ) → P (record { number = empty; place = x.place; first = 0 }) → P (record { number = 21; place = x.place; first = 0 })
      → Tells (Adds w (odds (x.bytes ∷ []))) P (naming empty w x)
  unfolding naming
  naming_tells empty q p = tells_rule (Adds w (odds (x.bytes ∷ []))) P empty _ _ _ (λ b. q) (λ b. tested_tells b p)

-- steps over a state that holds a walk
module _ {A S : Type 0} (walk_of : S → Walk) (Good : A → Type 0) (P : Refusal → Type 0) (k : A → List Bytes) (step : S → A → Judged S)
    (one : (s : S) (a : A) → Good a → Tells (λ t. Adds (walk_of s) (odds (k a)) (walk_of t)) P (step s a)) where
  pub adds_along : (list : List A) → All Good list → (s : S) → Tells (λ t. Adds (walk_of s) (odds (flat_map k list)) (walk_of t)) P (each step s list)
  unfolding each flat_map odds keep
  adds_along [] g s = (refl, refl, refl, omega arith)
  adds_along (a ∷ more) g s =
      let R : S → Type 0 = λ u. Adds (walk_of s) (odds (k a ++ flat_map k more)) (walk_of u) in
      tells_bind (λ t. Adds (walk_of s) (odds (k a)) (walk_of t)) R P (step s a) _ (one s a g.0) (λ t h.
      tells_weaken (λ u. Adds (walk_of t) (odds (flat_map k more)) (walk_of u)) R P P (each step t more)
      (λ u i. let e = odds_append (k a) (flat_map k more) in (i.0 ∙ h.0, i.1 ∙ h.1, i.2 ∙ h.2, omega arith)) (λ r p. p) (adds_along more g.1 t))

module _ {A : Type 0} (Good : A → Type 0) (P : Refusal → Type 0) (k : A → List Bytes) (step : Walk → A → Judged Walk)
    (one : (w : Walk) (a : A) → Good a → Tells (Adds w (odds (k a))) P (step w a)) where
  pub adds_each : (list : List A) → All Good list → (w : Walk) → Tells (Adds w (odds (flat_map k list))) P (each step w list)
  adds_each = adds_along (λ w. w) Good P k step one

module _ (model : Bytes) (Good : Field → Type 0) (Q : ℕ → Type 0) (good_at : (f : Field) → Good f → Q f.place)
    (good_in : (f : Field) → Good f → All Good (message model f).fields) where
  abbrev pub GoodMessage : Message → Type 0
  GoodMessage m = Q m.place × All Good m.fields

  pub good_message : (f : Field) → Good f → GoodMessage (message model f)
  unfolding message
  good_message f g = (good_at f g, good_in f g)

  pub good_all : (n : ℕ) (m : Message) → GoodMessage m → All Good (all_of n m)
  unfolding all_of
  good_all n m g = all_keep _ Good m.fields g.1

  pub good_bodies : (m : Message) → GoodMessage m → All Good (bodies_of m)
  unfolding bodies_of
  good_bodies m g = all_keep _ Good m.fields g.1

  pub good_first : (n : ℕ) (m : Message) → GoodMessage m → If Good (first_of n m)
  unfolding first_of
  good_first n m g = all_first Good (all_of n m) (good_all n m g)

  pub good_place : (n : ℕ) (m : Message) → GoodMessage m → Q (place_of n m)
  unfolding place_of
  good_place n m g = go (first_of n m) (good_first n m g)
    where
      go : (o : Option Field) → If Good o → Q (elim o [ none ↦ m.place | some f ↦ f.place ])
      go none h = g.0
      go (some f) h = good_at f h

  -- ---- types

  param_tells : (w : Walk) (d : Message) → GoodMessage d
      → Tells (Adds w (odds (bytes_of model Dimension-dim_param d ∷ []))) (Among Type-refusals Q) (dim_param model w d)
  unfolding dim_param bytes_of contains name_in is_empty
  param_tells w d g = go (first_of Dimension-dim_param d) (good_first Dimension-dim_param d g)
    where
      go : (o : Option Field) → If Good o
          → Tells (Adds w (odds ((elim o as (λ _. Bytes) [ none ↦ [] | some f ↦ text model f ]) ∷ []))) (Among Type-refusals Q)
          (elim o as (λ _. Judged Walk) [ none ↦ pass w | some p ↦ naming 21 w (name_in model p) ])
      go none h = let e = odds_none [] tt in (refl, refl, refl, omega arith)
      go (some p) h = naming_tells (Among Type-refusals Q) w (name_in model p) 21 (tt, good_at p h, refl) (tt, good_at p h, refl)

  -- the name of a dimension
  abbrev pub in_dim : Field → List Bytes
  in_dim d = bytes_of model Dimension-dim_param (message model d) ∷ []

  pub dim_tells : (w : Walk) (f : Field) → Good f → Tells (Adds w (odds (in_dim f))) (Among Type-refusals Q) (dim model w f)
  unfolding dim contains
  dim_tells w f g =
      let h = good_message f g in
      tells_rule _ (Among Type-refusals Q) 38 _ _ _ (λ b. (tt, good_place Dimension-dim_value (message model f) h, refl))
      (λ b. param_tells w (message model f) h)

  -- a part of `m` that is there, or a message of no fields
  abbrev or_none : Message → Option Field → Message
  or_none m o = elim o as (λ _. Message) [ none ↦ record { place = m.place; fields = [] } | some f ↦ message model f ]

  tensor_tells : (t : Message) (w : Walk) → GoodMessage t → Tells (Adds w (odds (dim_params model t))) (Among Type-refusals Q) (tensor_type model t w)
  unfolding tensor_type dim_params part_of contains
  tensor_tells t w g = rw (map_flat (λ d. bytes_of model Dimension-dim_param (message model d)))
      (tells_rule _ (Among Type-refusals Q) 25 _ _ _ (λ b. (tt, good_place TensorType-elem_type t g, refl))
      (λ b. go (first_of TensorType-shape t) (good_first TensorType-shape t g)))
    where
      go : (o : Option Field) → If Good o
          → Tells (Adds w (odds (flat_map in_dim (all_of Shape-dim (or_none t o))))) (Among Type-refusals Q)
          (elim o as (λ _. Judged Walk) [ none ↦ refused 37 t.place | some shape ↦ each (dim model) w (all_of Shape-dim (message model shape)) ])
      go none h = (tt, g.0, refl)
      go (some shape) h =
          adds_each Good (Among Type-refusals Q) in_dim (dim model) dim_tells (all_of Shape-dim (message model shape))
          (good_all Shape-dim (message model shape) (good_message shape h)) w

  -- the names of the type that a ValueInfo declares
  abbrev pub type_names : Message → List Bytes
  type_names v = dim_params model (part_of model TypeProto-tensor (part_of model ValueInfo-type v))

  pub type_tells : (v : Message) (w : Walk) → GoodMessage v → Tells (Adds w (odds (type_names v))) (Among Type-refusals Q) (declared_type model v w)
  unfolding declared_type part_of contains message
  type_tells v w g = outer (first_of ValueInfo-type v) (good_first ValueInfo-type v g)
    where
      inner : (type : Field) → Good type → (o : Option Field) → If Good o
          → Tells (Adds w (odds (dim_params model (or_none (message model type) o)))) (Among Type-refusals Q)
          (elim o as (λ _. Judged Walk) [ none ↦ refused 24 type.place | some tensor ↦ tensor_type model (message model tensor) w ])
      inner type h none k = (tt, good_at type h, refl)
      inner type h (some tensor) k = tensor_tells (message model tensor) w (good_message tensor k)

      outer : (o : Option Field) → If Good o
          → Tells (Adds w (odds (dim_params model (part_of model TypeProto-tensor (or_none v o))))) (Among Type-refusals Q)
          (elim o as (λ _. Judged Walk) [
            | none ↦ refused 24 v.place
            | some type ↦ elim (first_of TypeProto-tensor (message model type)) as (λ _. Judged Walk) [
              | none ↦ refused 24 type.place
              | some tensor ↦ tensor_type model (message model tensor) w
            ]
          ])
      outer none h = (tt, g.0, refl)
      outer (some type) h =
          inner type h (first_of TypeProto-tensor (message model type)) (good_first TypeProto-tensor (message model type) (good_message type h))

  -- the names of the type, in the main graph
  abbrev pub in_type : Context → Message → List Bytes
  in_type c v = elim c.main as (λ _. List Bytes) [ true ↦ type_names v | false ↦ [] ]

  pub main_type_tells : (c : Context) (v : Message) (w : Walk) → GoodMessage v
      → Tells (Adds w (odds (in_type c v))) (Among Type-refusals Q) (in_main c (declared_type model v) w)
  unfolding in_main odds keep
  main_type_tells c v w g = go c.main
    where
      go : (b : Bool)
          → Tells (Adds w (odds (elim b as (λ _. List Bytes) [ true ↦ type_names v | false ↦ [] ]))) (Among Type-refusals Q)
          (elim b as (λ _. Judged Walk) [ true ↦ declared_type model v w | false ↦ pass w ])
      go true = type_tells v w g
      go false = (refl, refl, refl, omega arith)

  -- ---- the name of a node

  pub node_name_tells : (earlier : List Bytes) (w : Walk) (m : Message) → GoodMessage m
      → Tells (λ n. Adds w (odds (bytes_of model Node-name m ∷ [])) n.walk) (Among (21 ∷ 29 ∷ []) Q) (node_name model earlier w m)
  unfolding node_name name_of contains
  node_name_tells earlier w m g =
      tells_if _ (Among (21 ∷ 29 ∷ []) Q) (is_empty (bytes_of model Node-name m)) _ _
      (λ b. let e = odds_none (bytes_of model Node-name m) b in (refl, refl, refl, omega arith)) (λ b.
      tells_bind (Adds w (odds (bytes_of model Node-name m ∷ []))) (λ n. Adds w (odds (bytes_of model Node-name m ∷ [])) n.walk) (Among (21 ∷ 29 ∷ []) Q)
      (tested w (name_of model Node-name m)) _
      (tested_tells (Among (21 ∷ 29 ∷ []) Q) w (name_of model Node-name m) b (tt, good_place Node-name m g, refl)) (λ v h.
      tells_rule _ (Among (21 ∷ 29 ∷ []) Q) 29 _ _ _ (λ b. (tt, good_place Node-name m g, refl)) (λ b. h)))

  -- ---- imports and the header

  import_tells : (list : Bytes) (imports : List Bytes) (f : Field) → Good f → Tells Any (Among Import-refusals Q) (opset_import model list imports f)
  unfolding opset_import contains message
  import_tells list imports f g =
      tells_rule Any (Among Import-refusals Q) 13 _ _ _ (λ b. (tt, good_at f g, refl))
      (λ b. tells_rule Any (Among Import-refusals Q) 14 _ _ _ (λ b. (tt, good_at f g, refl)) (λ b. tt))

  -- the imports of a model or of a function, which are its fields with number `n`, among all that it can be refused for
  pub imports_tell : (list : Bytes) (numbers : List ℕ) (n : ℕ) (m : Message) → T (subset Import-refusals numbers) → GoodMessage m
      → Tells Any (Among numbers Q) (each (opset_import model list) [] (all_of n m))
  imports_tell list numbers n m s g =
      more_numbers Any Q Import-refusals numbers (each (opset_import model list) [] (all_of n m)) s
      (tells_each Good Any (Among Import-refusals Q) (opset_import model list) (λ imports f _ k. import_tells list imports f k)
      (all_of n m) (good_all n m g) [] tt)

  pub header_tells : (list : Bytes) (m : Message) → GoodMessage m → Tells Any (Among Header-refusals Q) (header model list m)
  unfolding header contains subset
  header_tells list m g =
      tells_rule Any (Among Header-refusals Q) 10 _ _ _ (λ b. (tt, good_place Model-ir_version m g, refl)) (λ b.
      tells_rule Any (Among Header-refusals Q) 11 _ _ _ (λ b. (tt, g.0, refl)) (λ b.
      tells_rule Any (Among Header-refusals Q) 12 _ _ _ (λ b. (tt, g.0, refl)) (λ b.
      imports_tell list Header-refusals Model-opset_import m tt g)))
