use mathlib.Core.List.{[], ◌∷◌}
use Rattle.varint.specs.Lists.{contains}
use Rattle.varint.proofs.Lists.{subset}
use Rattle.schema.specs.declared.Kind.TheVariants.{Tensor}
use Rattle.schema.specs.Rows.{Rows-computes}
use Rattle.schema.proofs.RowLaws.{row_at, row_unknown, numbers}
use Rattle.std.proofs.Common.{rules}
use Rattle.schema.proofs.rows.tensor_row.Goals as goal

pub returns-in-2 : goal.returns-in-2
unfolding Rows-computes contains subset numbers
returns-in-2 c = row_at Tensor 2 c.in-2.is

pub returns-in-8 : goal.returns-in-8
unfolding Rows-computes contains subset numbers
returns-in-8 c = row_at Tensor 8 c.in-8.is

pub returns-in_default : goal.returns-in_default
unfolding Rows-computes contains subset numbers
returns-in_default c = row_unknown Tensor (8 ∷ 2 ∷ []) c.args.number tt (search rules)
