use mathlib.Core.List.{[], ◌∷◌}
use Rattle.varint.specs.Lists.{contains}
use Rattle.varint.proofs.Lists.{subset}
use Rattle.schema.specs.declared.Kind.TheVariants.{Function}
use Rattle.schema.specs.Rows.{Rows-computes}
use Rattle.schema.proofs.RowLaws.{row_at, row_unknown, numbers}
use Rattle.std.proofs.Common.{rules}
use Rattle.schema.proofs.rows.function_row.Goals as goal

pub returns-in-1 : goal.returns-in-1
unfolding Rows-computes contains subset numbers
returns-in-1 c = row_at Function 1 c.in-1.is

pub returns-in-4 : goal.returns-in-4
unfolding Rows-computes contains subset numbers
returns-in-4 c = row_at Function 4 c.in-4.is

pub returns-in-5 : goal.returns-in-5
unfolding Rows-computes contains subset numbers
returns-in-5 c = row_at Function 5 c.in-5.is

pub returns-in-6 : goal.returns-in-6
unfolding Rows-computes contains subset numbers
returns-in-6 c = row_at Function 6 c.in-6.is

pub returns-in-7 : goal.returns-in-7
unfolding Rows-computes contains subset numbers
returns-in-7 c = row_at Function 7 c.in-7.is

pub returns-in-9 : goal.returns-in-9
unfolding Rows-computes contains subset numbers
returns-in-9 c = row_at Function 9 c.in-9.is

pub returns-in-10 : goal.returns-in-10
unfolding Rows-computes contains subset numbers
returns-in-10 c = row_at Function 10 c.in-10.is

pub returns-in-11 : goal.returns-in-11
unfolding Rows-computes contains subset numbers
returns-in-11 c = row_at Function 11 c.in-11.is

pub returns-in-13 : goal.returns-in-13
unfolding Rows-computes contains subset numbers
returns-in-13 c = row_at Function 13 c.in-13.is

pub returns-in_default : goal.returns-in_default
unfolding Rows-computes contains subset numbers
returns-in_default c = row_unknown Function (13 ∷ 11 ∷ 10 ∷ 9 ∷ 7 ∷ 6 ∷ 5 ∷ 4 ∷ 1 ∷ []) c.args.number tt (search rules)
