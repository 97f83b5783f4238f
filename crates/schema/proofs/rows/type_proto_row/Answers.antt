use mathlib.Core.List.{[], ◌∷◌}
use Rattle.varint.specs.Lists.{contains}
use Rattle.varint.proofs.Lists.{subset}
use Rattle.schema.specs.declared.Kind.TheVariants.{TypeProto}
use Rattle.schema.specs.Rows.{Rows-computes}
use Rattle.schema.proofs.RowLaws.{row_at, row_unknown, numbers}
use Rattle.std.proofs.Common.{rules}
use Rattle.schema.proofs.rows.type_proto_row.Goals as goal

pub returns-in-1 : goal.returns-in-1
unfolding Rows-computes contains subset numbers
returns-in-1 c = row_at TypeProto 1 c.in-1.is

pub returns-in-4 : goal.returns-in-4
unfolding Rows-computes contains subset numbers
returns-in-4 c = row_at TypeProto 4 c.in-4.is

pub returns-in-5 : goal.returns-in-5
unfolding Rows-computes contains subset numbers
returns-in-5 c = row_at TypeProto 5 c.in-5.is

pub returns-in-7 : goal.returns-in-7
unfolding Rows-computes contains subset numbers
returns-in-7 c = row_at TypeProto 7 c.in-7.is

pub returns-in-8 : goal.returns-in-8
unfolding Rows-computes contains subset numbers
returns-in-8 c = row_at TypeProto 8 c.in-8.is

pub returns-in-9 : goal.returns-in-9
unfolding Rows-computes contains subset numbers
returns-in-9 c = row_at TypeProto 9 c.in-9.is

pub returns-in_default : goal.returns-in_default
unfolding Rows-computes contains subset numbers
returns-in_default c = row_unknown TypeProto (9 ∷ 8 ∷ 7 ∷ 5 ∷ 4 ∷ 1 ∷ []) c.args.number tt (search rules)
