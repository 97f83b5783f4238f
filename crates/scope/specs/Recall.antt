-- What extra cells hold: the first `split` of them remember names of the scope, the others lists of names. No rule speaks of this; contracts
-- of the code do, and no answer depends on it.
use Rattle.std.specs.Prelude.{ℕ, ◌≤◌, ◌≡◌, List, length, take, drop}
use Rattle.wire.specs.declared.Field.{Field}
use Rattle.varint.specs.Bytes.{Bytes}
use Rattle.wire.specs.Message.{text}
use Rattle.index.specs.Table.{Indexed}
use Rattle.index.specs.Memory.{known, table_of, Remembers, Remembered}
use Rattle.index.specs.Listing.{Listed, Held, Added}
use Rattle.index.specs.declared.listings.Listing.{Listing}
use Rattle.headers.specs.Imported.{Imported}
use Rattle.scope.specs.Scope.{recorded}
use Rattle.scope.specs.declared.remembered.Index.{Index}

-- Cells that remember names of the scope in `cells`: by place, and of no number of names in use. Where there are none, nothing is remembered.
pub record Recalls (model : Bytes) (seed : ℕ) (cells names : List ℕ) : Type 0 where
  pub memory : Remembers model seed (λ i. (recorded model cells i).bytes) names

-- Both parts of the extra cells are indexed.
pub record Remembering (model : Bytes) (ix : Index) (extra : List ℕ) : Type 0 where
  pub fits : ix.split ≤ length extra
  pub names : Indexed model ix.seed (table_of (take ix.split extra)) (known (take ix.split extra))
  pub lists : Indexed model ix.seed (table_of (drop ix.split extra)) (known (drop ix.split extra))

-- And the first remembers the scope.
pub record Recalling (model : Bytes) (ix : Index) (cells extra : List ℕ) : Type 0 where
  pub both : Remembering model ix extra
  pub scope : Recalls model ix.seed cells (take ix.split extra)

-- A name was remembered; the lists are as they were.
pub record RememberedOn (model : Bytes) (ix : Index) (place : ℕ) (name : Field) (before after : List ℕ) : Type 0 where
  pub size : length after ≡ length before
  pub names : Remembered model ix.seed place (text model name) (take ix.split before) (take ix.split after)
  pub lists : drop ix.split after ≡ drop ix.split before

-- A list has one name more; what is remembered of the scope is as it was.
pub record AddedOn (model : Bytes) (ix : Index) (l : Listing) (name : Bytes) (before after : List ℕ) (r : Listing) : Type 0 where
  pub size : length after ≡ length before
  pub names : take ix.split after ≡ take ix.split before
  pub lists : Added model ix.seed l name (drop ix.split before) (drop ix.split after) r

-- Lists were changed alone: the part for the scope is as it was, the other still indexed.
pub record HeldOn (model : Bytes) (ix : Index) (before after : List ℕ) : Type 0 where
  pub size : length after ≡ length before
  pub names : take ix.split after ≡ take ix.split before
  pub lists : Held model ix.seed 0 (drop ix.split before) (drop ix.split after)

-- ---- what functions promise of the extra cells, where they were `before` and are `after`

-- Of those that change the scope alone.
pub record Recalled (model : Bytes) (ix : Index) (cells before after : List ℕ) : Type 0 where
  pub recalls : Recalling model ix cells after
  pub size : length after ≡ length before
  pub lists : drop ix.split after ≡ drop ix.split before

-- Of those that go on with lists above the oldest `top` names.
pub record Minded (model : Bytes) (ix : Index) (top : ℕ) (cells before after : List ℕ) : Type 0 where
  pub recalls : Recalling model ix cells after
  pub size : length after ≡ length before
  pub held : Held model ix.seed top (drop ix.split before) (drop ix.split after)

-- What a graph goes by, whose lists begin at `top`: the lists hold the imports and the attributes around it below that.
pub record Minds (model : Bytes) (imports attributes : List Bytes) (ix : Index) (top : ℕ) (cells extra : List ℕ) : Type 0 where
  pub recalls : Recalling model ix cells extra
  pub imported : Imported model ix.seed (drop ix.split extra) ix.imports imports
  pub resolved : Listed model ix.seed (drop ix.split extra) ix.attributes attributes
  pub above : ix.imports.listing.top ≤ top
  pub beyond : ix.attributes.top ≤ top
  pub fits : top ≤ known (drop ix.split extra)
