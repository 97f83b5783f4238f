-- A list of names on a memory: where its own names stand among those that are remembered, and whether they all are. Lists nest: what is
-- remembered after a list's own names belongs to lists that were begun later, and is forgotten when the list gets another name.
use Rattle.std.specs.Prelude.{ℕ, ◌≤◌, ◌≡◌, true, false, ◌||◌, List, length}
use Rattle.varint.specs.Lists.{is_empty}
use Rattle.varint.specs.Bytes.{Bytes, same, member}
use Rattle.index.specs.Table.{names_in, seek, since, Indexed}
use Rattle.index.specs.Memory.{known, table_of}
use Rattle.index.specs.declared.listings.Listing.{Listing}

-- The listing of these names: if it is whole, a name is found among its own exactly if it is one of them. The empty name is never listed.
pub record Listed (model : Bytes) (seed : ℕ) (cells : List ℕ) (l : Listing) (names : List Bytes) : Type 0 where
  pub index : Indexed model seed (table_of cells) (known cells)
  pub rises : l.base ≤ l.top
  pub fits : l.top ≤ known cells
  pub finds : l.whole ≡ true → (x : Bytes) → is_empty x ≡ false → since l.base (seek x (names_in model (table_of cells) l.top)) ≡ member x names

-- What stays of a memory: its size, and its oldest `top` names.
pub record Held (model : Bytes) (seed : ℕ) (top : ℕ) (before after : List ℕ) : Type 0 where
  pub size : length after ≡ length before
  pub index : Indexed model seed (table_of after) (known after)
  pub fits : top ≤ known after
  pub names : names_in model (table_of after) top ≡ names_in model (table_of before) top

-- The names with one more: of names that are not empty, those are found and this one.
abbrev pub With : (name : Bytes) (names later : List Bytes) → Type 0
With name names later = (x : Bytes) → is_empty x ≡ false → member x later ≡ (same x name || member x names)

-- A name was added to a list: what listed its names before lists them now, and this one.
pub record Added (model : Bytes) (seed : ℕ) (l : Listing) (name : Bytes) (before after : List ℕ) (r : Listing) : Type 0 where
  pub held : Held model seed l.top before after
  pub rises : l.top ≤ r.top
  pub listed : (names later : List Bytes) → Listed model seed before l names → With name names later → Listed model seed after r later
