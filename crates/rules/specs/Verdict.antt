-- The answer to a model, an operator list and a number of cells: "either *accepted* with two counts, or *refused* with a number
-- and a place", and a second number; "An acceptance gains a third count".
use Rattle.std.specs.Prelude.{ℕ, ◌/◌, Bool, not, length, leb, ltb}
use Rattle.varint.specs.Outcome.{pass, ◌>>=◌, ◌>>◌, Judged, refuse◌at:◌when:◌}
use Rattle.varint.specs.Bytes.{Bytes}
use Rattle.operators.specs.Operators.{sound}
use Rattle.schema.specs.FirstWalk.{first_walk, FirstWalk-computes}
use Rattle.rules.specs.Walk.{Walk}
use Rattle.rules.specs.Header.{second_walk, Header-computes}

-- "nodes in all graphs, and the largest number of names visible together at any moment of the walk"; "nonempty fields that the
-- second walk tests for 21 and that are not identifiers"
pub record Counts : Type 0 where
  pub nodes : ℕ
  pub names : ℕ
  pub odd : ℕ

unfoldable pub counts : Walk → Counts
counts w = record { nodes = w.nodes; names = w.most; odd = w.odd }

-- "Raise the size in refusal 7 from 67,108,864 to 2,147,483,647 bytes."
unfoldable pub LARGEST : ℕ
LARGEST = 2_147_483_647

-- Cells, document 01's term, are what the caller lends. "Each scope record now holds place and length, so a name takes two cells".
unfoldable pub WIDTH : ℕ
WIDTH = 2

-- How many names they hold: "half the cells, rounded down".
unfoldable pub room : (cells : ℕ) → ℕ
room cells = cells / WIDTH

-- "visible names already equal the cells", of which a name takes two.
unfoldable pub fills : (cells visible : ℕ) → Bool
fills cells visible = leb (room cells) visible

-- "7 .. (tested first of all)", "8 .. (second)", the first walk, the second.
unfoldable pub verdict : (model list : Bytes) → (cells : ℕ) → Judged Counts
verdict model list cells = do
  refuse 7 at: 0 when: ltb LARGEST (length model)
  refuse 8 at: 0 when: not (sound list)
  first_walk model
  w ← second_walk model list (fills cells)
  pass (counts w)

-- This file and what it is built on, for whoever computes with it.
unfoldable pub Verdict-computes : Unit {0}
unfolding FirstWalk-computes Header-computes counts LARGEST WIDTH room fills verdict
Verdict-computes = tt
