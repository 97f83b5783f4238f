use mathlib.Core.List.{[], ◌∷◌}
use Rattle.varint.specs.Lists.{contains}
use Rattle.varint.proofs.Lists.{subset}
use Rattle.schema.specs.declared.Kind.TheVariants.{Node}
use Rattle.schema.specs.Rows.{Rows-computes}
use Rattle.schema.proofs.RowLaws.{row_at, row_unknown, numbers}
use Rattle.std.proofs.Common.{rules}
use Rattle.schema.proofs.rows.node_row.Goals as goal

pub returns-in-1 : goal.returns-in-1
unfolding Rows-computes contains subset numbers
returns-in-1 c = row_at Node 1 c.in-1.is

pub returns-in-2 : goal.returns-in-2
unfolding Rows-computes contains subset numbers
returns-in-2 c = row_at Node 2 c.in-2.is

pub returns-in-3 : goal.returns-in-3
unfolding Rows-computes contains subset numbers
returns-in-3 c = row_at Node 3 c.in-3.is

pub returns-in-4 : goal.returns-in-4
unfolding Rows-computes contains subset numbers
returns-in-4 c = row_at Node 4 c.in-4.is

pub returns-in-5 : goal.returns-in-5
unfolding Rows-computes contains subset numbers
returns-in-5 c = row_at Node 5 c.in-5.is

pub returns-in-7 : goal.returns-in-7
unfolding Rows-computes contains subset numbers
returns-in-7 c = row_at Node 7 c.in-7.is

pub returns-in_default : goal.returns-in_default
unfolding Rows-computes contains subset numbers
returns-in_default c = row_unknown Node (7 ∷ 5 ∷ 4 ∷ 3 ∷ 2 ∷ 1 ∷ []) c.args.number tt (search rules)
