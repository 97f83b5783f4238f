-- Functions of a model in a table: a record has the start and the length of a function's contents, and goes by who the function is.
use Rattle.std.specs.Prelude.{ℕ, zero, suc, ◌+◌, ◌-◌, ◌≡◌, Bool, false, List, [], ◌∷◌, ◌++◌, length, ltb, Option, Some, None, is_some}
use Rattle.varint.specs.Bytes.{Bytes}
use Rattle.wire.specs.Wire.{LEN}
use Rattle.wire.specs.declared.Field.{Field}
use Rattle.rules.specs.Identity.{Identity, Identity-computes}
use Rattle.headers.specs.Earlier.{before}
use Rattle.index.specs.Bucket.{bucket3, Bucket-computes}
use Rattle.index.specs.Table.{capacity, start_in, length_in, Chained, Table-computes}
use Rattle.identities.specs.Functions.{identity_in, functions_before}

-- A field with these contents. No more of a field matters to who a function is.
unfoldable pub holding : (start len : ℕ) → Field
holding start len = record { place = 0; number = 0; wire = LEN; value = 0; start = start; next = start + len }

-- The function of a record.
unfoldable pub function_in : (table : List ℕ) → (i : ℕ) → Field
function_in table i = holding (start_in table i) (length_in table i)

-- Who the functions of the first `used` records are, the newest first.
unfoldable pub identities_in : (model : Bytes) (version : ℕ) (table : List ℕ) → (used : ℕ) → List Identity
identities_in model version table zero = []
identities_in model version table (suc n) = identity_in model version (function_in table n) ∷ identities_in model version table n

-- One of `size` buckets, that of an identity.
unfoldable pub bucket_of : (seed size : ℕ) → Identity → ℕ
bucket_of seed size x = bucket3 seed size x.name x.domain x.overload

-- A function goes by the bucket of its identity.
unfoldable pub by_identity : (model : Bytes) (seed version size : ℕ) → (start len : ℕ) → ℕ
by_identity model seed version size start len = bucket_of seed size (identity_in model version (holding start len))

-- From record `i` on each record is of one of these functions, in this order.
abbrev pub Recorded : (table : List ℕ) (i : ℕ) → List Field → Type 0
Recorded table i [] = Unit {0}
Recorded table i (f ∷ more) = (start_in table i ≡ f.start) × (length_in table i ≡ f.next - f.start) × Recorded table (suc i) more

-- A table has all of these functions, and so many they are.
pub record HasAll (model : Bytes) (seed version : ℕ) (table : List ℕ) (count : ℕ) (functions : List Field) : Type 0 where
  pub chained : Chained (by_identity model seed version (capacity (length table))) table count
  pub counted : count ≡ length functions
  pub recorded : Recorded table 0 functions

-- What a table has of these functions: all of them, where it is known how many.
unfoldable pub Identified : (model : Bytes) (seed version : ℕ) (table : List ℕ) (known : Option ℕ) (functions : List Field) → Type 0
Identified model seed version table (Some count) functions = HasAll model seed version table count functions
Identified model seed version table None functions = Unit {0}

-- Does a table of this capacity have all functions, and room for one more?
unfoldable pub has_room : (known : Option ℕ) (size : ℕ) → Bool
has_room (Some count) size = ltb count size
has_room None size = false

-- A function was added: what a table had of some functions it has of them and this one. It has all as long as there is room, and where
-- it does not it is left alone.
pub record Added (model : Bytes) (seed version : ℕ) (known : Option ℕ) (f : Field) (before after : List ℕ) (r : Option ℕ) : Type 0 where
  pub size : length after ≡ length before
  pub whole : is_some r ≡ has_room known (capacity (length before))
  pub alone : r ≡ None → after ≡ before
  pub identified : (functions : List Field) → Identified model seed version before known functions → Identified model seed version after r (functions ++ (f ∷ []))

-- Definitions of this crate and what they are built on, for whoever computes with them.
unfoldable pub Identified-computes : Unit {0}
unfolding Table-computes Bucket-computes Identity-computes before functions_before holding function_in identities_in bucket_of by_identity
Identified-computes = tt
