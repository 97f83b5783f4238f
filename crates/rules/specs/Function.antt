-- Document 02, Req 01: function bodies. "Functions are judged in list order after the main graph, each so: name (22, 21); 41; field 6 names,
-- then field 11 (22, 21, 42, 33, 32); imports (12, 13, 14); inputs (22, 21, 23, 40); nodes (29 within the function); outputs (22, 21, 35)."
use Rattle.std.specs.Prelude.{ℕ, Bool, false, not, ◌||◌, List, [], ◌∷◌}
use Rattle.varint.specs.Outcome.{pass, ◌>>=◌, ◌>>◌, each, Judged, refuse◌at:◌when:◌}
use Rattle.wire.specs.declared.Field.{Field}
use Rattle.varint.specs.Lists.{is_empty, contains}
use Rattle.varint.specs.Bytes.{Bytes, member}
use Rattle.wire.specs.Message.{Message, all_of, number_of, bytes_of, message}
use Rattle.schema.specs.Numbers.{Function-name, Function-input, Function-output, Function-attribute, Function-node, Function-opset_import}
use Rattle.schema.specs.Numbers.{Function-attribute_proto, Attribute-name, Attribute-type, Attribute-ref_attr_name}
use Rattle.rules.specs.Names.{name_of, name_in}
use Rattle.rules.specs.Walk.{Context, nested_in, Walk, GraphJudge, afresh, Along, along, visible, naming, define}
use Rattle.rules.specs.Import.{opset_import, Import-computes}
use Rattle.rules.specs.Identity.{Identity, identity_of, identified, Identity-computes}
use Rattle.rules.specs.Node.{bad_value, node}
use Rattle.rules.specs.Graph.{graph, Graph-computes}

-- ---- attributes: "A name in both attribute lists, or twice in one, is 42."

-- "A default may not be a graph or graphs (32)", by its type.
unfoldable pub bad_default : (type : ℕ) → Message → Bool
bad_default type a = contains type (5 ∷ 10 ∷ []) || bad_value type a

module _ (model : Bytes) where
  -- "field 6 names": with the names of the attributes before it.
  unfoldable pub function_attribute : Along → Field → Judged Along
  function_attribute w f = do
    let x = name_in model f
    t ← naming 22 w.walk x
    refuse 42 at: x.place when: member x.bytes w.earlier
    pass (record { walk = t; earlier = x.bytes ∷ w.earlier })

  -- "then field 11 (22, 21, 42, 33, 32)". "A default may not be .. nor a reference (33)."
  unfoldable pub function_default : Along → Field → Judged Along
  function_default w f = do
    let a = message model f
    let x = name_of model Attribute-name a
    t ← naming 22 w.walk x
    refuse 42 at: x.place when: member x.bytes w.earlier
    refuse 33 at: a.place when: not (is_empty (bytes_of model Attribute-ref_attr_name a))
    refuse 32 at: a.place when: bad_default (number_of Attribute-type a) a
    pass (record { walk = t; earlier = x.bytes ∷ w.earlier })

  -- ---- the body

  -- "inputs (22, 21, 23, 40)"
  unfoldable pub function_input : (full : ℕ → Bool) → Walk → Field → Judged Walk
  function_input full w f = do
    t ← naming 22 w (name_in model f)
    define full t (name_in model f)

  -- "outputs (22, 21, 35)"
  unfoldable pub function_output : Walk → Field → Judged Walk
  function_output w f = do
    let x = name_in model f
    v ← naming 22 w x
    refuse 35 at: x.place when: not (visible x.bytes v.scope)
    pass v

  -- "inputs ..; nodes ..; outputs": "uses its own imports". `nested` judges a graph inside it.
  unfoldable pub function_body : (full : ℕ → Bool) → Context → (nested : GraphJudge) → Walk → Message → Judged Walk
  function_body full c nested w m = do
    i ← each (function_input full) w (all_of Function-input m)
    n ← each (node model full c nested) (along i) (all_of Function-node m)
    each function_output n.walk (all_of Function-output m)

-- ---- the function

-- What a function says before its body: the walk, and what surrounds the body.
pub record Heading : Type 0 where
  pub walk : Walk
  pub around : Context

-- A walk along functions, and who the earlier ones are.
pub record Functions : Type 0 where
  pub walk : Walk
  pub earlier : List Identity

unfoldable pub functions : Walk → Functions
functions w = record { walk = w; earlier = [] }

module _ (model list : Bytes) where
  -- "imports (12, 13, 14)"
  unfoldable pub function_imports : Message → Judged (List Bytes)
  function_imports m = do
    refuse 12 at: m.place when: is_empty (all_of Function-opset_import m)
    each (opset_import model list) [] (all_of Function-opset_import m)

  -- "name (22, 21); 41; field 6 names, then field 11 ..; imports". "a repeat is 41, at the function's tag"
  unfoldable pub function_head : (ir_version : ℕ) → (earlier : List Identity) → Walk → Message → Judged Heading
  function_head v earlier w m = do
    t ← naming 22 w (name_of model Function-name m)
    refuse 41 at: m.place when: identified (identity_of model v m) earlier
    a ← each (function_attribute model) (along t) (all_of Function-attribute m)
    d ← each (function_default model) a (all_of Function-attribute_proto m)
    imports ← function_imports m
    pass (record { walk = d.walk; around = record { imports = imports; main = false; ir_version = v; attributes = d.earlier } })

  -- "A function is at depth 1": `left` depths are left for the graphs inside it.
  unfoldable pub function : (full : ℕ → Bool) → (left ir_version : ℕ) → Functions → Field → Judged Functions
  function full left v w f = do
    let m = message model f
    h ← function_head v w.earlier (afresh w.walk) m
    b ← function_body model full h.around (λ u g. graph model full left (nested_in h.around) u g) h.walk m
    pass (record { walk = b; earlier = identity_of model v m ∷ w.earlier })

-- This file and what it is built on, for whoever computes with it.
unfoldable pub Function-computes : Unit {0}
unfolding Import-computes Identity-computes Graph-computes bad_default function_attribute function_default function_input function_output functions
    function_imports function_head function_body function
Function-computes = tt
