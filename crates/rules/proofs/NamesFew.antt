-- A model has few names: fields lie apart, and each takes a byte or more.
use Prim.Native.Nat.{ℕ, zero, suc, ◌+◌, ◌-◌, ◌*◌, ◌≤◌, ◌<◌}
use native.Mathlib.Omega.{arith}
use mathlib.Core.Path.{◌≡◌, ap}
use mathlib.Core.Bool.{Bool, true, false}
use mathlib.Core.List.{List, [], ◌∷◌, ◌++◌, map, flat_map}
use mathlib.Core.Option.{Option, none, some}
use lib.ListN.{length, length-map, length-append}
use Rattle.varint.specs.Lists.{keep}
use Rattle.varint.specs.Bytes.{Bytes}
use Rattle.varint.proofs.Lists.{If, all_first}
use Rattle.wire.specs.declared.Field.{Field}
use Rattle.wire.specs.Wire.{fields}
use Rattle.wire.specs.Order.{Ordered}
use Rattle.wire.specs.Message.{Message, all_of, first_of, text, bytes_of, message}
use Rattle.wire.proofs.Reading.{Fits}
use Rattle.wire.proofs.Fields.{fields_ordered, message_ordered, ordered_widen, keep_ordered, ordered_all, all_of_ordered}
use Rattle.wire.proofs.Along.{all_from}
use Rattle.schema.specs.Numbers.{Graph-node, Graph-initializer, Graph-input, Graph-output, Node-input, Node-output, Node-attribute}
use Rattle.schema.specs.Numbers.{Function-input, Function-output, Function-attribute, Function-node, Function-attribute_proto, Attribute-name}
use Rattle.schema.specs.Numbers.{Tensor-name, ValueInfo-type, TypeProto-tensor, TensorType-shape, Shape-dim}
use Rattle.rules.specs.Names.{bodies_of}
use Rattle.rules.specs.Count.{is_odd, odds, part_of, dim_params, value_names, attribute_names, node_names, graph_names, names_in, function_names}

-- ---- lengths of lists

keep_few : {A : Type 0} (test : A → Bool) (l : List A) → length (keep test l) ≤ length l
unfolding keep
keep_few test [] = omega arith
keep_few {A} test (a ∷ l) = go (test a) (keep_few test l)
  where
    go : (b : Bool) → length (keep test l) ≤ length l → length {A = A} (elim b [ true ↦ a ∷ keep test l | false ↦ keep test l ]) ≤ suc (length l)
    go true h = omega arith
    go false h = omega arith

pub odds_few : (l : List Bytes) → odds l ≤ length l
unfolding odds
odds_few l = keep_few is_odd l

-- ---- fields that lie apart

pub ordered_few : (lo hi : ℕ) (fs : List Field) → Ordered lo hi fs → length fs ≤ hi - lo
ordered_few lo hi [] o = omega arith
ordered_few lo hi (f ∷ fs) o = let h = ordered_few f.next hi fs o.4 in omega arith

pub from_few : (s : Bytes) (number end pos : ℕ) → length (all_from s number end pos) ≤ end - pos
unfolding all_from
from_few s number end pos = ordered_few pos end (all_from s number end pos) (keep_ordered _ pos end (fields s end pos) (fields_ordered s end pos))

map_few : {B : Type 0} (g : Field → B) (lo hi : ℕ) (fs : List Field) → Ordered lo hi fs → length (map g fs) ≤ hi - lo
map_few g lo hi fs o = let h = length-map fs g in let k = ordered_few lo hi fs o in omega arith

-- what so many bytes may hold at most; two pieces hold no more than the two as one
abbrev Joins : (ℕ → ℕ) → Type 0
Joins most = (a b : ℕ) → most a + most b ≤ most (a + b)

-- a part holds no more than the whole
joins_grows : (most : ℕ → ℕ) → Joins most → (a b : ℕ) → a ≤ b → most a ≤ most b
joins_grows most j a b h =
    let k = j a (b - a) in
    let e : most (a + (b - a)) ≡ most b = ap most (omega arith) in
    omega arith

-- each field, its tag counted in, holds no more than its bytes may
abbrev pub Within : (ℕ → ℕ) → (Field → List Bytes) → Type 0
Within most g = (f : Field) → f.place < f.start → f.start ≤ f.next → length (g f) ≤ most (f.next - f.place)

spread : (most : ℕ → ℕ) → Joins most → (g : Field → List Bytes) → Within most g → (lo hi : ℕ) (fs : List Field) → Ordered lo hi fs
    → length (flat_map g fs) ≤ most (hi - lo)
unfolding flat_map
spread most j g w lo hi [] o = omega arith
spread most j g w lo hi (f ∷ fs) o =
    let e = length-append (g f) (flat_map g fs) in
    let h = w f o.1 o.2 in
    let i = spread most j g w f.next hi fs o.4 in
    let k = j (f.next - f.place) (hi - f.next) in
    let l = joins_grows most j (f.next - f.place + (hi - f.next)) (hi - lo) (omega arith) in
    omega arith

-- ---- the names of a graph

module _ (model : Bytes) where
  -- the fields with one number
  map_all : {B : Type 0} (g : Field → B) (n : ℕ) (f : Field) → length (map g (all_of n (message model f))) ≤ f.next - f.start
  map_all g n f = map_few g f.start f.next (all_of n (message model f)) (all_of_ordered model n f)

  spread_all : (most : ℕ → ℕ) → Joins most → (g : Field → List Bytes) → Within most g → (n : ℕ) (f : Field)
      → length (flat_map g (all_of n (message model f))) ≤ most (f.next - f.start)
  spread_all most j g w n f = spread most j g w f.start f.next (all_of n (message model f)) (all_of_ordered model n f)

  -- the part of a message lies where the message lies
  part_ordered : (n lo hi : ℕ) (m : Message) → Ordered lo hi m.fields → Ordered lo hi (part_of model n m).fields
  unfolding part_of first_of all_of
  part_ordered n lo hi m o =
      go (first_of n m) (all_first (Fits lo hi) (all_of n m) (ordered_all lo hi (all_of n m) (keep_ordered _ lo hi m.fields o)))
    where
      go : (p : Option Field) → If (Fits lo hi) p
          → Ordered lo hi (elim p as (λ _. Message) [ none ↦ record { place = m.place; fields = [] } | some f ↦ message model f ]).fields
      go none h = tt
      go (some f) h = ordered_widen lo f.start hi f.next (message model f).fields (omega arith) (omega arith) (message_ordered model f)

  dims_few : (lo hi : ℕ) (t : Message) → Ordered lo hi t.fields → length (dim_params model t) ≤ hi - lo
  unfolding dim_params all_of
  dims_few lo hi t o =
      map_few _ lo hi (all_of Shape-dim (part_of model TensorType-shape t)) (keep_ordered _ lo hi _ (part_ordered TensorType-shape lo hi t o))

  -- the tag has a byte for the name, and each dimension is a byte or more of the content
  values_few : (main : Bool) → Within (λ n. n) (value_names model main)
  unfolding value_names
  values_few main f h k = go main
    where
      held : Message
      held = part_of model ValueInfo-type (message model f)

      go : (b : Bool)
          → suc (length {A = Bytes} (elim b [ true ↦ dim_params model (part_of model TypeProto-tensor held) | false ↦ [] ])) ≤ f.next - f.place
      go true =
          let o = part_ordered ValueInfo-type f.start f.next (message model f) (message_ordered model f) in
          let t = part_ordered TypeProto-tensor f.start f.next held o in
          let d = dims_few f.start f.next (part_of model TypeProto-tensor held) t in
          omega arith
      go false = omega arith

  -- `most` for the graphs inside
  module _ (inner : Field → List Bytes) (most : ℕ → ℕ) (j : Joins most) (w : Within most inner) where
    attribute_few : Within (λ n. most n + n) (attribute_names model inner)
    unfolding attribute_names bodies_of
    attribute_few f h k =
        let b = spread most j inner w f.start f.next (bodies_of (message model f))
        (keep_ordered _ f.start f.next (message model f).fields (message_ordered model f)) in
        let l = joins_grows most j (f.next - f.start) (f.next - f.place) (omega arith) in
        omega arith

    node_few : Within (λ n. most n + 3 * n) (node_names model inner)
    unfolding node_names
    node_few f h k =
        let m = message model f in
        let ins = map (text model) (all_of Node-input m) in
        let attributes = flat_map (attribute_names model inner) (all_of Node-attribute m) in
        let outs = map (text model) (all_of Node-output m) in
        let e : length (ins ++ attributes ++ outs) ≡ length (ins ++ attributes) + length outs = length-append (ins ++ attributes) outs in
        let e' : length (ins ++ attributes) ≡ length ins + length attributes = length-append ins attributes in
        let i = map_all (text model) Node-input f in
        let o = map_all (text model) Node-output f in
        let a = spread_all (λ n. most n + n) (λ x y. let z = j x y in omega arith) (attribute_names model inner) attribute_few Node-attribute f in
        let l = joins_grows most j (f.next - f.start) (f.next - f.place) (omega arith) in
        omega arith

    graph_few : (main : Bool) → Within (λ n. most n + 6 * n) (graph_names model inner main)
    unfolding graph_names
    graph_few main f h k =
        let g = message model f in
        let ins = flat_map (value_names model main) (all_of Graph-input g) in
        let starts = map (λ t. bytes_of model Tensor-name (message model t)) (all_of Graph-initializer g) in
        let nodes = flat_map (node_names model inner) (all_of Graph-node g) in
        let outs = flat_map (value_names model main) (all_of Graph-output g) in
        let e : length (ins ++ starts ++ nodes ++ outs) ≡ length (ins ++ starts ++ nodes) + length outs = length-append (ins ++ starts ++ nodes) outs in
        let e' : length (ins ++ starts ++ nodes) ≡ length (ins ++ starts) + length nodes = length-append (ins ++ starts) nodes in
        let e'' : length (ins ++ starts) ≡ length ins + length starts = length-append ins starts in
        let i = spread_all (λ n. n) (λ x y. omega arith) (value_names model main) (values_few main) Graph-input f in
        let s = map_all (λ t. bytes_of model Tensor-name (message model t)) Graph-initializer f in
        let n = spread_all (λ x. most x + 3 * x) (λ x y. let z = j x y in omega arith) (node_names model inner) node_few Graph-node f in
        let o = spread_all (λ n. n) (λ x y. omega arith) (value_names model main) (values_few main) Graph-output f in
        let l = joins_grows most j (f.next - f.start) (f.next - f.place) (omega arith) in
        omega arith

-- ---- to so many depths: six names a byte for each

most : (left : ℕ) → ℕ → ℕ
most zero n = 0
most (suc left) n = most left n + 6 * n

most_joins : (left : ℕ) → Joins (most left)
unfolding most
most_joins zero a b = omega arith
most_joins (suc left) a b = let h = most_joins left a b in omega arith

names_most : (model : Bytes) (left : ℕ) (main : Bool) → Within (most left) (names_in model left main)
unfolding names_in most
names_most model zero main f h k = omega arith
names_most model (suc left) main f h k =
    graph_few model (names_in model left false) (most left) (most_joins left) (names_most model left false) main f h k

-- ---- the names of a main graph to eight depths, and of a function

pub names_few : (model : Bytes) (main : Bool) → Within (λ n. 48 * n) (names_in model 8 main)
unfolding most
names_few model main f h k = let n = names_most model 8 main f h k in omega arith

-- its own name has the byte of the tag
pub function_names_few : (model : Bytes) → Within (λ n. 49 * n) (function_names model (names_in model 7 false))
unfolding function_names most
function_names_few model f h k =
    let m = message model f in
    let attributes = map (text model) (all_of Function-attribute m) in
    let defaults = map (λ a. bytes_of model Attribute-name (message model a)) (all_of Function-attribute_proto m) in
    let ins = map (text model) (all_of Function-input m) in
    let nodes = flat_map (node_names model (names_in model 7 false)) (all_of Function-node m) in
    let outs = map (text model) (all_of Function-output m) in
    let e : length (attributes ++ defaults ++ ins ++ nodes ++ outs) ≡ length (attributes ++ defaults ++ ins ++ nodes) + length outs =
    length-append (attributes ++ defaults ++ ins ++ nodes) outs in
    let e' : length (attributes ++ defaults ++ ins ++ nodes) ≡ length (attributes ++ defaults ++ ins) + length nodes = length-append (attributes ++ defaults ++ ins) nodes in
    let e'' : length (attributes ++ defaults ++ ins) ≡ length (attributes ++ defaults) + length ins = length-append (attributes ++ defaults) ins in
    let e''' : length (attributes ++ defaults) ≡ length attributes + length defaults = length-append attributes defaults in
    let a = map_all model (text model) Function-attribute f in
    let d = map_all model (λ a. bytes_of model Attribute-name (message model a)) Function-attribute_proto f in
    let i = map_all model (text model) Function-input f in
    let o = map_all model (text model) Function-output f in
    let n = spread_all model (λ x. most 7 x + 3 * x) (λ x y. let z = most_joins 7 x y in omega arith) (node_names model (names_in model 7 false))
    (node_few model (names_in model 7 false) (most 7) (most_joins 7) (names_most model 7 false)) Function-node f in
    omega arith
