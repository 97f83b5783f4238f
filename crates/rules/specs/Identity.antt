-- Document 02, Req 01: "Name and domain identify a function, from IR 10 overload too".
use Rattle.std.specs.Prelude.{ℕ, Bool, true, false, ◌&&◌, ◌||◌, List, [], ◌∷◌, leb}
use Rattle.varint.specs.Bytes.{Bytes, same}
use Rattle.wire.specs.Message.{Message, bytes_of, Message-computes}
use Rattle.operators.specs.Operators.{domain, Operators-computes}
use Rattle.schema.specs.Numbers.{Function-name, Function-domain, Function-overload}

-- Who a function is.
pub record Identity : Type 0 where
  pub name : Bytes
  pub domain : Bytes
  pub overload : Bytes

-- "The empty domain and `ai.onnx` are one domain, here and in models."
unfoldable pub identity_of : (model : Bytes) → (ir_version : ℕ) → (function : Message) → Identity
identity_of model v f = record {
  name = bytes_of model Function-name f;
  domain = domain (bytes_of model Function-domain f);
  overload = elim (leb 10 v) [ true ↦ bytes_of model Function-overload f | false ↦ [] ];
}

unfoldable pub same_identity : Identity → Identity → Bool
same_identity a b = same a.name b.name && same a.domain b.domain && same a.overload b.overload

-- Is it one of these?
unfoldable pub identified : Identity → List Identity → Bool
identified x [] = false
identified x (y ∷ more) = same_identity x y || identified x more

-- This file and what it is built on, for whoever computes with it.
unfoldable pub Identity-computes : Unit {0}
unfolding Message-computes Operators-computes identity_of same_identity identified
Identity-computes = tt
