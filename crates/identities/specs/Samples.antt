-- A model with three functions of one name: who they are, who stood before, and their records in a table.
use Rattle.std.specs.Prelude.{ℕ, ◌≡◌, refl, true, false, List, [], ◌∷◌, ◌++◌, map}
use Rattle.varint.specs.Bytes.{Bytes}
use Rattle.varint.specs.Notation.{hex, ascii, Notation-computes}
use Rattle.wire.specs.Message.{all_of, message, whole}
use Rattle.wire.specs.declared.Field.{Field}
use Rattle.schema.specs.Numbers.{Model-functions}
use Rattle.rules.specs.Identity.{Identity, identified}
use Rattle.identities.specs.Functions.{identity_by, identity_in, functions_before}
use Rattle.identities.specs.Identified.{identities_in, Identified-computes}

-- The second names `ai.onnx`, the third no domain; the first alone has an overload.
model : Bytes
model =
    hex "CA 01 09" ++ hex "0A 01 66 52 01 64 6A 01 6F"
    ++ hex "CA 01 0C" ++ hex "0A 01 66 52 07 61 69 2E 6F 6E 6E 78"
    ++ hex "CA 01 03" ++ hex "0A 01 66"

functions : List Field
functions = all_of Model-functions (message model (whole model))

-- Room for three records after three buckets.
table : List ℕ
table = 0 ∷ 0 ∷ 0 ∷ 3 ∷ 9 ∷ 0 ∷ 15 ∷ 12 ∷ 0 ∷ 30 ∷ 3 ∷ 0 ∷ []

-- IR version, and who they are, the newest first.
identities : List (ℕ × List Identity)
identities =
    (9, identity_by (ascii "f") [] [] ∷ identity_by (ascii "f") [] [] ∷ identity_by (ascii "f") (ascii "d") [] ∷ [])
    ∷ (10, identity_by (ascii "f") [] [] ∷ identity_by (ascii "f") [] [] ∷ identity_by (ascii "f") (ascii "d") (ascii "o") ∷ [])
    ∷ []

identities_hold : map (λ s. identities_in model s.0 table 3) identities ≡ map (λ s. s.1) identities
unfolding identities model table Notation-computes Identified-computes
identities_hold = refl

-- Did the same one stand before?
earlier_hold : map (λ f. identified (identity_in model 10 f) (map (identity_in model 10) (functions_before model f.place))) functions ≡ false ∷ false ∷ true ∷ []
unfolding functions model Notation-computes Identified-computes
earlier_hold = refl
