-- What surrounds a graph or the body of a function, as the code hands it on: nothing is kept of imports and attributes, they are read again where they stand. No
-- rule speaks of this; contracts of the code do.
use Rattle.std.specs.Prelude.{ℕ, false, List, [], ◌++◌}
use Rattle.wire.specs.declared.Field.{Field}
use Rattle.varint.specs.Bytes.{Bytes}
use Rattle.wire.specs.Message.{all_of, message}
use Rattle.schema.specs.Numbers.{Model-opset_import, Function-attribute, Function-opset_import, Function-attribute_proto, Graph-node, Attribute-name}
use Rattle.rules.specs.Walk.{Context}
use Rattle.headers.specs.Earlier.{before, names_in, texts_in}
use Rattle.headers.specs.Imports.{imports_in}
use Rattle.messages.specs.declared.contexts.Owner.{Owner}
use Rattle.messages.specs.declared.contexts.Owner.TheVariants.{Model, Function}
use Rattle.messages.specs.declared.contexts.Surroundings.{Surroundings}

-- The field of the model, or of the function.
unfoldable pub field_of : Owner → Field
field_of (Model f) = f
field_of (Function f) = f

-- A graph inside this one.
unfoldable pub inside : Surroundings → Surroundings
inside s = record { main = false; version = s.version; nodes = Graph-node; owner = s.owner }

-- The number of the owner's fields that hold its imports.
unfoldable pub import_number : Surroundings → ℕ
import_number s = elim s.owner [ Model f ↦ Model-opset_import | Function f ↦ Function-opset_import ]

module _ (model : Bytes) where
  -- The attributes of a function: "field 6 names, then field 11". Of the first list as far as it stands before one place, of the second as far as before
  -- another.
  unfoldable pub attributes_before : (function : Field) → (first second : ℕ) → List Bytes
  attributes_before f first second =
      texts_in model (before first (all_of Function-attribute (message model f)))
      ++ names_in model Attribute-name (before second (all_of Function-attribute_proto (message model f)))

  unfoldable pub attributes_of : Surroundings → List Bytes
  attributes_of s = elim s.owner [ Model f ↦ [] | Function f ↦ attributes_before f f.next f.next ]

  unfoldable pub imports_of : Surroundings → List Bytes
  imports_of s = imports_in model (import_number s) (field_of s.owner)

  unfoldable pub context : Surroundings → Context
  context s = record { imports = imports_of s; main = s.main; ir_version = s.version; attributes = attributes_of s }
