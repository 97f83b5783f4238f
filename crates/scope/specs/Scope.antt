-- How lent cells hold what is visible: a record is the place of the field that holds a name, and the length of the name. No rule speaks
-- of this; contracts of the code do.
use Rattle.std.specs.declared.option.Option.{Option}
use Rattle.varint.specs.Answers.{Answer}
use Rattle.std.specs.Prelude.{ℕ, zero, suc, ◌+◌, ◌-◌, ◌*◌, ◌^◌, ◌≤◌, ◌<◌, ◌≡◌, true, false, List, [], ◌∷◌, map, length, take, get_or, set, leb, Err, None, Ok, Some}
use Rattle.varint.specs.Outcome.{pass, fail, Judged}
use Rattle.wire.specs.declared.Field.{Field}
use Rattle.varint.specs.Bytes.{Bytes, part, member}
use Rattle.wire.specs.Message.{message}
use Rattle.wire.specs.Encoding.{contents_at}
use Rattle.schema.specs.declared.Kind.{Kind}
use Rattle.schema.specs.Opened.{Walked}
use Rattle.index.specs.Table.{seek, since}
use Rattle.rules.specs.Names.{Name, inputs_of}
use Rattle.rules.specs.Walk.{Walk}
use Rattle.rules.specs.Verdict.{WIDTH}
use Rattle.scope.specs.declared.scopes.Progress.{Progress}

-- "Each scope record now holds place and length": those of record i. A cell that is not there reads as 0.
unfoldable pub place_in : (cells : List ℕ) → (i : ℕ) → ℕ
place_in cells i = get_or cells (WIDTH * i) 0

unfoldable pub length_in : (cells : List ℕ) → (i : ℕ) → ℕ
length_in cells i = get_or cells (WIDTH * i + 1) 0

-- The cells with record i written.
unfoldable pub stored : (cells : List ℕ) → (i place len : ℕ) → List ℕ
stored cells i place len = set (set cells (WIDTH * i) place) (WIDTH * i + 1) len

-- The place in the record that was found.
unfoldable pub first_in : (cells : List ℕ) → Option ℕ → ℕ
first_in cells (Some i) = place_in cells i
first_in cells None = 0

module _ (model : Bytes) where
  -- The name of a record: so many bytes after the tag and the length; where the model ends before that, the empty name.
  unfoldable pub name_at : (place len : ℕ) → Name
  name_at p n = record {
    bytes = elim (leb (contents_at p n + n) (length model)) [ true ↦ part (contents_at p n) n model | false ↦ [] ];
    place = p;
  }

  unfoldable pub recorded : (cells : List ℕ) → (i : ℕ) → Name
  recorded cells i = name_at (place_in cells i) (length_in cells i)

  -- The names of the first `used` records, the newest first.
  unfoldable pub scope_in : (cells : List ℕ) → (used : ℕ) → List Name
  scope_in cells zero = []
  scope_in cells (suc n) = recorded cells n ∷ scope_in cells n

  -- Their bytes, which are searched.
  unfoldable pub bytes_in : (cells : List ℕ) → (used : ℕ) → List Bytes
  bytes_in cells used = map (λ n. n.bytes) (scope_in cells used)

  -- The walk that has come so far, with these cells.
  unfoldable pub walk_in : (cells : List ℕ) → Progress → Walk
  walk_in cells p = record { scope = scope_in cells p.used; nodes = p.nodes; most = p.most; odd = p.odd }

  -- What an answer says, with the cells as they are after it.
  unfoldable pub step_says : (cells : List ℕ) → Answer Progress → Judged Walk
  step_says cells (Ok p) = pass (walk_in cells p)
  step_says cells (Err r) = fail r

-- So many odd names more.
unfoldable pub with_odd : Progress → ℕ → Progress
with_odd p k = record { used = p.used; nodes = p.nodes; most = p.most; odd = p.odd + k }

-- The step of a rule that tests names and adds none.
unfoldable pub counting : Progress → Answer ℕ → Answer Progress
counting p (Ok k) = Ok (with_odd p k)
counting p (Err r) = Err r

-- There is room in 64 bits to count every one of these names.
unfoldable pub Countable : Progress → List Bytes → Type 0
Countable p names = p.odd + length names < 2 ^ 64

-- After a nested graph: the names are those before it, the counts are those with it.
unfoldable pub left : (before after : Progress) → Progress
left before after = record { used = before.used; nodes = after.nodes; most = after.most; odd = after.odd }

-- Names are added, and none is taken away.
unfoldable pub grows : Progress → Answer Progress → Type 0
grows p (Ok q) = p.used ≤ q.used
grows p (Err r) = Unit {0}

-- A name that a record can hold: it lies in the model, and its bytes are found by place and length.
pub record Direct (model : Bytes) (name : Field) : Type 0 where
  pub inside : name.next ≤ length model
  pub ends : name.start ≤ name.next
  pub there : name.start ≡ contents_at name.place (name.next - name.start)

-- The walk may go into a field: the model is short enough for a cell to hold any place of it, the first walk passed the field's message,
-- and so few nodes have been counted that with one for each byte of the field they are no more than 2^33.
pub record Enters (model : Bytes) (kind : Kind) (p : Progress) (f : Field) : Type 0 where
  pub short : length model < 2 ^ 32
  pub walked : Walked model kind f
  pub tagged : f.place < f.start
  pub ends : f.start ≤ f.next
  pub few : p.nodes + f.next ≤ f.place + 2 ^ 33

-- What is counted of a field are no more nodes than it has bytes.
unfoldable pub counted : Field → Progress → Answer Progress → Type 0
counted f p (Ok q) = q.nodes + f.place ≤ p.nodes + f.next
counted f p (Err r) = Unit {0}

-- What stays of the cells: their number, and the records in use.
pub record Keeps (used : ℕ) (before after : List ℕ) : Type 0 where
  pub size : length after ≡ length before
  pub below : take (WIDTH * used) after ≡ take (WIDTH * used) before

-- The names of a graph's inputs are those of the records from `outer` on, up to `inner`.
pub record Defaultable (model : Bytes) (graph : Field) (cells : List ℕ) (outer inner : ℕ) : Type 0 where
  pub names : (x : Bytes) → since outer (seek x (bytes_in model cells inner)) ≡ member x (inputs_of model (message model graph))
