-- The imports of a model or of a function: "each import in order (13 then 14)".
use Rattle.std.specs.Prelude.{not, List, ◌∷◌}
use Rattle.varint.specs.Outcome.{pass, ◌>>◌, Judged, refuse◌at:◌when:◌}
use Rattle.wire.specs.declared.Field.{Field}
use Rattle.varint.specs.Bytes.{Bytes, member}
use Rattle.wire.specs.Message.{number_of, bytes_of, message, Message-computes}
use Rattle.operators.specs.Operators.{domain, allows, Operators-computes}
use Rattle.schema.specs.Numbers.{OperatorSetId-domain, OperatorSetId-version}

-- The domains imported so far, and with this one.
unfoldable pub opset_import : (model list : Bytes) → List Bytes → Field → Judged (List Bytes)
opset_import model list imports f = do
  let m = message model f
  let d = domain (bytes_of model OperatorSetId-domain m)
  refuse 13 at: m.place when: member d imports
  refuse 14 at: m.place when: not (allows list d (number_of OperatorSetId-version m))
  pass (d ∷ imports)

-- This file and what it is built on, for whoever computes with it.
unfoldable pub Import-computes : Unit {0}
unfolding Message-computes Operators-computes opset_import
Import-computes = tt
