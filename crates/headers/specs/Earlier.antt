-- Names that stood earlier in a list, as the code sees them: it keeps none of them, and reads them again. No rule speaks of this;
-- contracts of the code do.
use Rattle.std.specs.Prelude.{ℕ, ◌≡◌, Bool, true, false, List, [], ◌∷◌, map, eqb, leb, MatchBool}
use Rattle.wire.specs.declared.Field.{Field}
use Rattle.wire.specs.declared.Cursor.{Cursor}
use Rattle.varint.specs.Bytes.{Bytes}
use Rattle.varint.specs.Lists.{keep}
use Rattle.wire.specs.Wire.{fields}
use Rattle.wire.specs.Message.{all_of, text, bytes_of, message}

-- Those of the fields that stand before a place, where they are in wire order.
unfoldable pub before : (place : ℕ) → List Field → List Field
before place [] = []
before place (f ∷ more) = elim (leb place f.place) [ true ↦ [] | false ↦ f ∷ before place more ]

-- The fields with this number that stand from a cursor on, and before a place.
unfoldable pub before_from : (model : Bytes) → (number place : ℕ) → Cursor → List Field
before_from model number place c = before place (keep (λ f. eqb number f.number) (fields model c.end c.at))

-- Does one of these fields pass a test? `Says f b`: of `f` it says `b`. The fields are tested in order, and no more after one that passes.
abbrev pub AnySays : (Says : Field → Bool → Type 0) → List Field → (result : Bool) → Type 0
AnySays Says [] r = r ≡ false
AnySays Says (f ∷ more) r = (b : Bool) × Says f b × MatchBool b (r ≡ true) (AnySays Says more r)

-- The names, in field `name`, of the messages that these fields hold.
unfoldable pub names_in : (model : Bytes) → (name : ℕ) → List Field → List Bytes
names_in model name fs = map (λ f. bytes_of model name (message model f)) fs

-- The names that these fields are.
unfoldable pub texts_in : (model : Bytes) → List Field → List Bytes
texts_in model fs = map (text model) fs

-- Of the messages in the fields `number` of the message in `m`: the names, in field `name`, of those that stand before `f`.
unfoldable pub earlier_in : (model : Bytes) → (number name : ℕ) → (m f : Field) → List Bytes
earlier_in model number name m f = names_in model name (before f.place (all_of number (message model m)))
