use mathlib.Core.List.{[], ◌∷◌}
use Rattle.varint.specs.Lists.{contains}
use Rattle.varint.proofs.Lists.{subset}
use Rattle.schema.specs.declared.Kind.TheVariants.{Shape}
use Rattle.schema.specs.Rows.{Rows-computes}
use Rattle.schema.proofs.RowLaws.{row_at, row_unknown, numbers}
use Rattle.std.proofs.Common.{rules}
use Rattle.schema.proofs.rows.shape_row.Goals as goal

pub returns-in-1 : goal.returns-in-1
unfolding Rows-computes contains subset numbers
returns-in-1 c = row_at Shape 1 c.in-1.is

pub returns-in_default : goal.returns-in_default
unfolding Rows-computes contains subset numbers
returns-in_default c = row_unknown Shape (1 ∷ []) c.args.number tt (search rules)
