-- What the second walk carries through the graphs, and its rules of names.
use Rattle.std.specs.Prelude.{ℕ, ◌+◌, max, Bool, true, false, not, ◌||◌, List, [], ◌∷◌, length}
use Rattle.varint.specs.Outcome.{pass, ◌>>◌, Judged, refuse◌at:◌when:◌, refuse◌at:◌first:◌when:◌}
use Rattle.wire.specs.declared.Field.{Field}
use Rattle.varint.specs.Lists.{is_empty}
use Rattle.varint.specs.Bytes.{Bytes, same}
use Rattle.spelling.specs.Identifier.{oddity, Identifier-computes}
use Rattle.spelling.specs.Utf8.{well_formed, Utf8-computes}
use Rattle.rules.specs.Names.{Name, Names-computes}

-- What surrounds a graph or the body of a function: the domains that its model or its function imports, whether it is the main graph, its model's IR
-- version, and the attributes that a reference may name: those of the function around it, and outside functions none.
pub record Context : Type 0 where
  pub imports : List Bytes
  pub main : Bool
  pub ir_version : ℕ
  pub attributes : List Bytes

-- A graph inside this one.
unfoldable pub nested_in : Context → Context
nested_in c = record { imports = c.imports; main = false; ir_version = c.ir_version; attributes = c.attributes }

-- What is visible, the newest first; the nodes so far; the most names visible together so far; and how many names that were tested for 21
-- so far are not identifiers.
pub record Walk : Type 0 where
  pub scope : List Name
  pub nodes : ℕ
  pub most : ℕ
  pub odd : ℕ

-- A rule of the main graph alone.
unfoldable pub in_main : Context → (Walk → Judged Walk) → Walk → Judged Walk
in_main c rule w = elim c.main [ true ↦ rule w | false ↦ pass w ]

-- What judges a graph: the walk before it, its field, and the walk after it.
abbrev pub GraphJudge : Type 0
GraphJudge = Walk → Field → Judged Walk

unfoldable pub start : Walk
start = record { scope = []; nodes = 0; most = 0; odd = 0 }

unfoldable pub with_name : Walk → Name → Walk
with_name w x = record { scope = x ∷ w.scope; nodes = w.nodes; most = max w.most (length w.scope + 1); odd = w.odd }

unfoldable pub with_node : Walk → Walk
with_node w = record { scope = w.scope; nodes = w.nodes + 1; most = w.most; odd = w.odd }

unfoldable pub with_tested : Walk → Name → Walk
with_tested w x = record { scope = w.scope; nodes = w.nodes; most = w.most; odd = w.odd + oddity x.bytes }

-- "Their names vanish when the graph ends": the walk `after` a nested graph, where it was `before`.
unfoldable pub leaving : (before after : Walk) → Walk
leaving before after = record { scope = before.scope; nodes = after.nodes; most = after.most; odd = after.odd }

-- "its body starts with only its inputs visible": no name is, at first.
unfoldable pub afresh : Walk → Walk
afresh w = leaving start w

-- A walk along initializers, nodes or attributes, and the names of those that stood earlier in the list.
pub record Along : Type 0 where
  pub walk : Walk
  pub earlier : List Bytes

unfoldable pub along : Walk → Along
along w = record { walk = w; earlier = [] }

unfoldable pub visible : Bytes → List Name → Bool
visible x [] = false
visible x (n ∷ more) = same x n.bytes || visible x more

-- "the place of the definition already visible"; 0 where there is none.
unfoldable pub defined_at : Bytes → List Name → ℕ
defined_at x [] = 0
defined_at x (n ∷ more) = elim (same x n.bytes) [ true ↦ n.place | false ↦ defined_at x more ]

-- "wherever 21 is tested, it is given exactly to bytes that are not well-formed UTF-8"; a name that is so tested is counted where it is
-- not an identifier.
unfoldable pub tested : Walk → Name → Judged Walk
tested w x = do
  refuse 21 at: x.place when: not (well_formed x.bytes)
  pass (with_tested w x)

-- A name that may not be empty, which is refusal `empty`; then 21.
unfoldable pub naming : (empty : ℕ) → Walk → Name → Judged Walk
naming empty w x = do
  refuse empty at: x.place when: is_empty x.bytes
  tested w x

-- A new name: 23, 40, "and is visible from then on". `full` says of a number of visible names whether they fill the cells.
unfoldable pub define : (full : ℕ → Bool) → Walk → Name → Judged Walk
define full w x = do
  refuse 23 at: x.place first: defined_at x.bytes w.scope when: visible x.bytes w.scope
  refuse 40 at: x.place when: full (length w.scope)
  pass (with_name w x)

-- This file and what it is built on, for whoever computes with it.
unfoldable pub Walk-computes : Unit {0}
unfolding Identifier-computes Utf8-computes Names-computes nested_in in_main start with_name with_node with_tested leaving afresh along visible
    defined_at tested naming define
Walk-computes = tt
