use mathlib.Core.List.{[], ◌∷◌}
use Rattle.varint.specs.Lists.{contains}
use Rattle.varint.proofs.Lists.{subset}
use Rattle.schema.specs.declared.Kind.TheVariants.{Model}
use Rattle.schema.specs.Rows.{Rows-computes}
use Rattle.schema.proofs.RowLaws.{row_at, row_unknown, numbers}
use Rattle.std.proofs.Common.{rules}
use Rattle.schema.proofs.rows.model_row.Goals as goal

pub returns-in-1 : goal.returns-in-1
unfolding Rows-computes contains subset numbers
returns-in-1 c = row_at Model 1 c.in-1.is

pub returns-in-7 : goal.returns-in-7
unfolding Rows-computes contains subset numbers
returns-in-7 c = row_at Model 7 c.in-7.is

pub returns-in-8 : goal.returns-in-8
unfolding Rows-computes contains subset numbers
returns-in-8 c = row_at Model 8 c.in-8.is

pub returns-in-25 : goal.returns-in-25
unfolding Rows-computes contains subset numbers
returns-in-25 c = row_at Model 25 c.in-25.is

pub returns-in_default : goal.returns-in_default
unfolding Rows-computes contains subset numbers
returns-in_default c = row_unknown Model (25 ∷ 8 ∷ 7 ∷ 1 ∷ []) c.args.number tt (search rules)
