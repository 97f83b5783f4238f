-- The domains that a model or a function imports, in wire order. No rule speaks of this list; contracts of the code do.
use Rattle.std.specs.Prelude.{ℕ, ◌≡◌, List, map, eqb}
use Rattle.varint.specs.Lists.{keep}
use Rattle.wire.specs.declared.Field.{Field}
use Rattle.varint.specs.Bytes.{Bytes}
use Rattle.wire.specs.Wire.{fields}
use Rattle.wire.specs.Message.{all_of, bytes_of, message}
use Rattle.operators.specs.Operators.{domain}
use Rattle.schema.specs.Numbers.{OperatorSetId-domain}
use Rattle.headers.specs.Earlier.{before}

unfoldable pub import_of : (model : Bytes) → Field → Bytes
import_of model f = domain (bytes_of model OperatorSetId-domain (message model f))

-- They stand in the fields `number` of the message in `m`.
module _ (model : Bytes) (number : ℕ) (m : Field) where
  unfoldable pub imports_in : List Bytes
  imports_in = map (import_of model) (all_of number (message model m))

  unfoldable pub imports_before : (place : ℕ) → List Bytes
  imports_before place = map (import_of model) (before place (all_of number (message model m)))

  -- From this place on the message has all of them.
  abbrev pub ImportsFrom : (pos : ℕ) → Type 0
  ImportsFrom pos = keep (λ f. eqb number f.number) (fields model m.next pos) ≡ all_of number (message model m)
