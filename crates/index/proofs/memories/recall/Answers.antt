use Rattle.index.proofs.MemoryLaws.{known_some, table_lent, lent_index}
use Rattle.index.proofs.TableLaws.{seek_none}
use Rattle.index.specs.Table.{names_in, seek}
use Prim.Native.Nat.{ℕ}
use mathlib.Core.List.{List}
use mathlib.Core.Path.{ap, ◌∙◌}
use native.Mathlib.Omega.{arith}
use Rattle.index.proofs.memories.recall.Goals as goal

pub returns-then-below-eq0 : goal.returns-then-below-eq0
returns-then-below-eq0 c = seek_none _ _ _ _ c.if-below-eq0.true

pub slice_bounds-find-count : goal.slice_bounds-find-count
slice_bounds-find-count c = known_some c.args.cells.now (omega (arith, c.if-below-eq0.false, c.requires.1))

pub slice_bounds-find-start : goal.slice_bounds-find-start
slice_bounds-find-start c = known_some c.args.cells.now (omega (arith, c.if-below-eq0.false, c.requires.1))

pub find-requires : goal.find-requires
find-requires c = (lent_index _ _ _ c.requires.0 c.known-used.ensures.0, omega (arith, c.requires.1, c.known-used.ensures.0))

pub returns : goal.returns
returns c = c.find.ensures ∙ ap (λ (t : List ℕ). seek c.args.name.now (names_in c.args.model.now t c.args.below)) (table_lent _)
