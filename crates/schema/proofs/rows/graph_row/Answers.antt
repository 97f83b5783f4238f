use mathlib.Core.List.{[], ◌∷◌}
use Rattle.varint.specs.Lists.{contains}
use Rattle.varint.proofs.Lists.{subset}
use Rattle.schema.specs.declared.Kind.TheVariants.{Graph}
use Rattle.schema.specs.Rows.{Rows-computes}
use Rattle.schema.proofs.RowLaws.{row_at, row_unknown, numbers}
use Rattle.std.proofs.Common.{rules}
use Rattle.schema.proofs.rows.graph_row.Goals as goal

pub returns-in-1 : goal.returns-in-1
unfolding Rows-computes contains subset numbers
returns-in-1 c = row_at Graph 1 c.in-1.is

pub returns-in-2 : goal.returns-in-2
unfolding Rows-computes contains subset numbers
returns-in-2 c = row_at Graph 2 c.in-2.is

pub returns-in-5 : goal.returns-in-5
unfolding Rows-computes contains subset numbers
returns-in-5 c = row_at Graph 5 c.in-5.is

pub returns-in-11 : goal.returns-in-11
unfolding Rows-computes contains subset numbers
returns-in-11 c = row_at Graph 11 c.in-11.is

pub returns-in-12 : goal.returns-in-12
unfolding Rows-computes contains subset numbers
returns-in-12 c = row_at Graph 12 c.in-12.is

pub returns-in-13 : goal.returns-in-13
unfolding Rows-computes contains subset numbers
returns-in-13 c = row_at Graph 13 c.in-13.is

pub returns-in-15 : goal.returns-in-15
unfolding Rows-computes contains subset numbers
returns-in-15 c = row_at Graph 15 c.in-15.is

pub returns-in_default : goal.returns-in_default
unfolding Rows-computes contains subset numbers
returns-in_default c = row_unknown Graph (15 ∷ 13 ∷ 12 ∷ 11 ∷ 5 ∷ 2 ∷ 1 ∷ []) c.args.number tt (search rules)
