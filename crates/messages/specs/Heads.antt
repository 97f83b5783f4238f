-- What the code asks of an attribute or a node before anything that needs a scope. No rule speaks of this; contracts of the code do, and
-- `graph_again_lem` in `second_walk` says that a walk which asks so is the second walk of document 01.
use Rattle.std.specs.Prelude.{not}
use Rattle.varint.specs.Outcome.{pass, ◌>>=◌, ◌>>◌, Judged, Rule, refuse◌at:◌when:◌}
use Rattle.wire.specs.declared.Field.{Field}
use Rattle.varint.specs.Bytes.{Bytes, member}
use Rattle.wire.specs.Message.{place_of, bytes_of, message}
use Rattle.operators.specs.Operators.{domain}
use Rattle.schema.specs.Numbers.{Node-name, Node-op_type, Node-attribute, Node-domain, Attribute-name, Attribute-ref_attr_name}
use Rattle.rules.specs.Names.{name_of}
use Rattle.rules.specs.Walk.{Walk, Along, naming}
use Rattle.rules.specs.Node.{unresolved, bad_attribute, node_name}
use Rattle.headers.specs.Earlier.{earlier_in}
use Rattle.messages.specs.Around.{imports_of, context}
use Rattle.messages.specs.declared.contexts.Surroundings.{Surroundings}

-- A walk along a list, without the names behind it.
unfoldable pub walk_of : Judged Along → Judged Walk
walk_of o = o >>= λ a. pass a.walk

module _ (model : Bytes) (s : Surroundings) where
  -- Of the value of an attribute: "33, 32"
  unfoldable pub value_rules : Field → Rule
  value_rules f = do
    let reference = bytes_of model Attribute-ref_attr_name (message model f)
    refuse 33 at: f.place when: unresolved (context model s) reference
    refuse 32 at: f.place when: bad_attribute reference (message model f)

  -- "Attribute: 22, 21, 31, 33, 32"
  unfoldable pub attribute_rules : (node : Field) → Walk → Field → Judged Walk
  attribute_rules node w f = do
    let x = name_of model Attribute-name (message model f)
    t ← naming 22 w x
    refuse 31 at: x.place when: member x.bytes (earlier_in model Node-attribute Attribute-name node f)
    value_rules f
    pass t

  -- "op_type (27, 21); 28; a nonempty node name (21, 29)"
  unfoldable pub node_head : (graph : Field) → Walk → Field → Judged Walk
  node_head graph w f = do
    let m = message model f
    t ← naming 27 w (name_of model Node-op_type m)
    refuse 28 at: place_of Node-domain m when: not (member (domain (bytes_of model Node-domain m)) (imports_of model s))
    walk_of (node_name model (earlier_in model s.nodes Node-name graph f) t m)
