-- The functions of a model, and who they are. No rule speaks of this; contracts of the code do.
use Rattle.std.specs.Prelude.{ℕ, List}
use Rattle.varint.specs.Bytes.{Bytes}
use Rattle.wire.specs.Message.{all_of, bytes_of, message, whole}
use Rattle.wire.specs.declared.Field.{Field}
use Rattle.operators.specs.Operators.{domain}
use Rattle.schema.specs.Numbers.{Model-functions, Function-domain}
use Rattle.rules.specs.Identity.{Identity, identity_of}
use Rattle.headers.specs.Earlier.{before}

-- The identity with these parts.
abbrev pub identity_by : (name home overload : Bytes) → Identity
identity_by name home overload = record { name = name; domain = home; overload = overload }

-- Who the function in a field is.
abbrev pub identity_in : (model : Bytes) (version : ℕ) → Field → Identity
identity_in model version f = identity_of model version (message model f)

-- The domain of the function in a field.
abbrev pub domain_in : (model : Bytes) → Field → Bytes
domain_in model f = domain (bytes_of model Function-domain (message model f))

-- The functions that stand before a place, in wire order.
unfoldable pub functions_before : (model : Bytes) → (place : ℕ) → List Field
functions_before model place = before place (all_of Model-functions (message model (whole model)))
