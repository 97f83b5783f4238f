-- What a function says before its body, as the code reads it: nothing is kept of the names that stood earlier, they are read again where they stand. No rule
-- speaks of this; contracts of the code do, and `head_again` in proofs/HeadLaws.antt says that it is the head of a function.
use Rattle.varint.specs.Answers.{Answer}
use Rattle.std.specs.Prelude.{ℕ, ◌+◌, ◌^◌, ◌≤◌, ◌<◌, Bool, not, length, Err, Ok}
use mathlib.Core.List.{List, [], ◌∷◌, ◌++◌, flat_map}
use Rattle.varint.specs.Outcome.{pass, fail, ◌>>=◌, ◌>>◌, each, Judged, Rule, refuse◌at:◌when:◌}
use Rattle.wire.specs.declared.Field.{Field}
use Rattle.varint.specs.Lists.{is_empty}
use Rattle.varint.specs.Bytes.{Bytes, member}
use Rattle.wire.specs.Message.{all_of, number_of, text, bytes_of, message}
use Rattle.schema.specs.Numbers.{Function-name, Function-attribute, Function-opset_import, Function-attribute_proto}
use Rattle.schema.specs.Numbers.{Attribute-name, Attribute-type, Attribute-ref_attr_name}
use Rattle.schema.specs.Answers.{silent}
use Rattle.rules.specs.Names.{name_of, name_in}
use Rattle.rules.specs.Walk.{Walk, naming}
use Rattle.rules.specs.Function.{bad_default, function_imports}
use Rattle.index.specs.Listing.{Listed}
use Rattle.index.specs.declared.listings.Listing.{Listing}
use Rattle.values.specs.Answers.{more}
use Rattle.headers.specs.Imports.{imports_in}
use Rattle.headers.specs.Imported.{Imported}
use Rattle.messages.specs.Around.{attributes_before}
use Rattle.messages.specs.Again.{field_names}
use Rattle.signatures.specs.declared.signatures.Declaration.{Declaration}

-- ---- the rules, of the function in `f`

module _ (model : Bytes) where
  -- Of the value of a default: "33, 32"
  unfoldable pub default_rules : Field → Rule
  default_rules a = do
    refuse 33 at: a.place when: not (is_empty (bytes_of model Attribute-ref_attr_name (message model a)))
    refuse 32 at: a.place when: bad_default (number_of Attribute-type (message model a)) (message model a)

module _ (model : Bytes) (f : Field) where
  -- "field 6 names (22, 21, 42)"
  unfoldable pub attribute_again : Walk → Field → Judged Walk
  attribute_again w a = do
    t ← naming 22 w (name_in model a)
    refuse 42 at: a.place when: member (text model a) (attributes_before model f a.place f.start)
    pass t

  -- "field 11 (22, 21, 42, 33, 32)"
  unfoldable pub default_again : Walk → Field → Judged Walk
  default_again w a = do
    let x = name_of model Attribute-name (message model a)
    t ← naming 22 w x
    refuse 42 at: x.place when: member x.bytes (attributes_before model f f.next a.place)
    default_rules model a
    pass t

-- The names that are tested: of a default, and of all attributes.
unfoldable pub default_names : (model : Bytes) → Field → List Bytes
default_names model a = bytes_of model Attribute-name (message model a) ∷ []

unfoldable pub attribute_names : (model : Bytes) → Field → List Bytes
attribute_names model f =
    let m = message model f in
    flat_map (field_names model) (all_of Function-attribute m) ++ flat_map (default_names model) (all_of Function-attribute_proto m)

module _ (model : Bytes) where
  -- "field 6 names, then field 11"
  unfoldable pub attributes_again : Walk → Field → Judged Walk
  attributes_again w f = do
    let m = message model f
    a ← each (attribute_again model f) w (all_of Function-attribute m)
    each (default_again model f) a (all_of Function-attribute_proto m)

  -- "name (22, 21); 41": `twice` says whether the function stood before.
  unfoldable pub named_again : (twice : Bool) → Walk → Field → Judged Walk
  named_again twice w f = do
    t ← naming 22 w (name_of model Function-name (message model f))
    refuse 41 at: f.place when: twice
    attributes_again t f

  -- "imports (12, 13, 14)"
  unfoldable pub signature_again : (list : Bytes) → (twice : Bool) → Walk → Field → Judged Walk
  signature_again list twice w f = do
    d ← named_again twice w f
    silent (function_imports model list (message model f))
    pass d

-- ---- what the answers of the code say

unfoldable pub attributes_says : Walk → Answer (Listing × ℕ) → Judged Walk
attributes_says w (Ok (l, k)) = pass (more w k)
attributes_says w (Err r) = fail r

-- So many odd names more, and room for both in 64 bits.
unfoldable pub counting : ℕ → Answer (Listing × ℕ) → Answer (Listing × ℕ)
counting k (Ok (l, n)) = Ok (l, k + n)
counting k (Err r) = Err r

unfoldable pub Room : ℕ → Answer (Listing × ℕ) → Type 0
Room k (Ok (l, n)) = k + n < 2 ^ 64
Room k (Err r) = Unit {0}

unfoldable pub signature_says : Walk → Answer Declaration → Judged Walk
signature_says w (Ok d) = pass (more w d.odd)
signature_says w (Err r) = fail r

-- The names are listed, and no more are counted than there are.
unfoldable pub lists_all : (model : Bytes) (seed : ℕ) (cells : List ℕ) (names : List Bytes) (most : ℕ) → Answer (Listing × ℕ) → Type 0
lists_all model seed cells names most (Ok (l, k)) = Listed model seed cells l names × (k ≤ most)
lists_all model seed cells names most (Err r) = Unit {0}

-- So are attributes and imports.
unfoldable pub declares : (model : Bytes) (seed : ℕ) (cells : List ℕ) (f : Field) → Answer Declaration → Type 0
declares model seed cells f (Ok d) =
    Listed model seed cells d.attributes (attributes_before model f f.next f.next)
    × Imported model seed cells d.imports (imports_in model Function-opset_import f)
    × (d.attributes.top ≤ d.imports.listing.top)
    × (d.odd ≤ 1 + length (attribute_names model f))
declares model seed cells f (Err r) = Unit {0}
