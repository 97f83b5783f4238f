-- The second walk of document 01 over a node and its attributes.
use Rattle.std.specs.Prelude.{ℕ, Bool, true, false, not, ◌&&◌, ◌||◌, List, [], ◌∷◌, map, eqb}
use Rattle.std.proofs.Math.Option.{none, some}
use Rattle.varint.specs.Outcome.{pass, ◌>>=◌, ◌>>◌, each, Judged, refuse◌at:◌when:◌}
use Rattle.wire.specs.declared.Field.{Field}
use Rattle.varint.specs.Lists.{is_empty, present, contains, lookup}
use Rattle.varint.specs.Bytes.{Bytes, member}
use Rattle.wire.specs.Message.{Message, all_of, number_of, place_of, text, bytes_of, message}
use Rattle.operators.specs.Operators.{domain, Operators-computes}
use Rattle.schema.specs.Numbers.{Node-input, Node-output, Node-name, Node-op_type, Node-attribute, Node-domain, Attribute-name, Attribute-type, Attribute-ref_attr_name}
use Rattle.rules.specs.Names.{name_of, name_in, bodies_of}
use Rattle.rules.specs.Walk.{Context, Walk, GraphJudge, with_node, leaving, Along, along, visible, tested, naming, define, Walk-computes}

-- ---- attribute values

-- "Type number and carrier: 1→2, 2→3, ..". A carrier is a field that holds a value; the word is document 01's.
unfoldable pub carriers : List (ℕ × ℕ)
carriers =
    (1, 2)
    ∷ (2, 3)
    ∷ (3, 4)
    ∷ (4, 5)
    ∷ (5, 6)
    ∷ (6, 7)
    ∷ (7, 8)
    ∷ (8, 9)
    ∷ (9, 10)
    ∷ (10, 11)
    ∷ (11, 22)
    ∷ (12, 23)
    ∷ (13, 14)
    ∷ (14, 15)
    ∷ []

-- The fields that are carriers.
unfoldable pub carrier_numbers : List ℕ
carrier_numbers = map (λ c. c.1) carriers

-- "types 4, 5, 11 or 13 lack theirs. The rest may be absent."
unfoldable pub needed : ℕ → Bool
needed type = contains type (4 ∷ 5 ∷ 11 ∷ 13 ∷ [])

-- "another carrier occurs": one of these other than `mine`.
unfoldable pub foreign : (mine : ℕ) → List (ℕ × ℕ) → Message → Bool
foreign mine [] a = false
foreign mine (c ∷ more) a = (not (eqb c.1 mine) && not (is_empty (all_of c.1 a))) || foreign mine more a

-- "Refusal 32 when type is outside 1..14, another carrier occurs, or types 4, 5, 11 or 13 lack theirs."
unfoldable pub bad_value : (type : ℕ) → Message → Bool
bad_value type a = elim (lookup type carriers) [
  | none ↦ true
  | some mine ↦ foreign mine carriers a || (needed type && is_empty (all_of mine a))
]

-- "a ref_attr_name must be one of the function's attributes, otherwise 33"
unfoldable pub unresolved : Context → (reference : Bytes) → Bool
unresolved c reference = not (is_empty reference) && not (member reference c.attributes)

-- "such an attribute has a type in 1..14 and no carrier, otherwise 32": each of the fourteen is another one than 0.
unfoldable pub bad_reference : (type : ℕ) → Message → Bool
bad_reference type a = not (present (lookup type carriers)) || foreign 0 carriers a

-- 32, of an attribute that is a reference or holds its own value.
unfoldable pub bad_attribute : (reference : Bytes) → Message → Bool
bad_attribute reference a = elim (is_empty reference) [
  | true ↦ bad_value (number_of Attribute-type a) a
  | false ↦ bad_reference (number_of Attribute-type a) a
]

-- ---- names of a node

module _ (model : Bytes) where
  -- "a nonempty node name (21, 29)": the names used in the graph, with this one.
  unfoldable pub node_name : (earlier : List Bytes) → Walk → Message → Judged Along
  node_name earlier w m = elim (is_empty (bytes_of model Node-name m)) [
    | true ↦ pass (record { walk = w; earlier = earlier })
    | false ↦ do
      let x = name_of model Node-name m
      v ← tested w x
      refuse 29 at: x.place when: member x.bytes earlier
      pass (record { walk = v; earlier = x.bytes ∷ earlier })
  ]

  -- "An empty input or output means "left out" and is passed over. Input: 21, 30."
  unfoldable pub node_input : Walk → Field → Judged Walk
  node_input w f = elim (is_empty (text model f)) [
    | true ↦ pass w
    | false ↦ do
      v ← tested w (name_in model f)
      refuse 30 at: f.place when: not (visible (text model f) v.scope)
      pass v
  ]

  -- "Output: 21, 23, 40, and is visible from then on."
  unfoldable pub node_output : (full : ℕ → Bool) → Walk → Field → Judged Walk
  node_output full w f = elim (is_empty (text model f)) [
    | true ↦ pass w
    | false ↦ do
      v ← tested w (name_in model f)
      define full v (name_in model f)
  ]

-- ---- attribute and node; `nested` judges a graph that an attribute holds

-- "Their names vanish when the graph ends."
unfoldable pub body : (nested : GraphJudge) → Walk → Field → Judged Walk
body nested w f = do
  v ← nested w f
  pass (leaving w v)

-- "Attribute: 22, 21, 31, 33, 32; then its graphs in order"
unfoldable pub attribute : (model : Bytes) → Context → (nested : GraphJudge) → Along → Field → Judged Along
attribute model c nested w f = do
  let a = message model f
  let x = name_of model Attribute-name a
  let reference = bytes_of model Attribute-ref_attr_name a
  t ← naming 22 w.walk x
  refuse 31 at: x.place when: member x.bytes w.earlier
  refuse 33 at: a.place when: unresolved c reference
  refuse 32 at: a.place when: bad_attribute reference a
  v ← each (body nested) t (bodies_of a)
  pass (record { walk = v; earlier = x.bytes ∷ w.earlier })

-- "Node: op_type (27, 21); 28; a nonempty node name (21, 29); inputs; attributes; 34; outputs."
unfoldable pub node : (model : Bytes) → (full : ℕ → Bool) → Context → (nested : GraphJudge) → Along → Field → Judged Along
node model full c nested w f = do
  let m = message model f
  t ← naming 27 w.walk (name_of model Node-op_type m)
  refuse 28 at: place_of Node-domain m when: not (member (domain (bytes_of model Node-domain m)) c.imports)
  n ← node_name model w.earlier t m
  i ← each (node_input model) n.walk (all_of Node-input m)
  a ← each (attribute model c nested) (along i) (all_of Node-attribute m)
  refuse 34 at: m.place when: is_empty (all_of Node-output m)
  v ← each (node_output model full) a.walk (all_of Node-output m)
  pass (record { walk = with_node v; earlier = n.earlier })

-- This file and what it is built on, for whoever computes with it.
unfoldable pub Node-computes : Unit {0}
unfolding Operators-computes Walk-computes carriers needed foreign bad_value unresolved bad_reference bad_attribute node_name node_input node_output body attribute node
Node-computes = tt
