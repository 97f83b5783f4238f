use mathlib.Core.List.{[], ◌∷◌}
use Rattle.varint.specs.Lists.{contains}
use Rattle.varint.proofs.Lists.{subset}
use Rattle.schema.specs.declared.Kind.TheVariants.{Attribute}
use Rattle.schema.specs.Rows.{Rows-computes}
use Rattle.schema.proofs.RowLaws.{row_at, row_unknown, numbers}
use Rattle.std.proofs.Common.{rules}
use Rattle.schema.proofs.rows.attribute_row.Goals as goal

pub returns-in-1 : goal.returns-in-1
unfolding Rows-computes contains subset numbers
returns-in-1 c = row_at Attribute 1 c.in-1.is

pub returns-in-2 : goal.returns-in-2
unfolding Rows-computes contains subset numbers
returns-in-2 c = row_at Attribute 2 c.in-2.is

pub returns-in-3 : goal.returns-in-3
unfolding Rows-computes contains subset numbers
returns-in-3 c = row_at Attribute 3 c.in-3.is

pub returns-in-4 : goal.returns-in-4
unfolding Rows-computes contains subset numbers
returns-in-4 c = row_at Attribute 4 c.in-4.is

pub returns-in-5 : goal.returns-in-5
unfolding Rows-computes contains subset numbers
returns-in-5 c = row_at Attribute 5 c.in-5.is

pub returns-in-6 : goal.returns-in-6
unfolding Rows-computes contains subset numbers
returns-in-6 c = row_at Attribute 6 c.in-6.is

pub returns-in-7 : goal.returns-in-7
unfolding Rows-computes contains subset numbers
returns-in-7 c = row_at Attribute 7 c.in-7.is

pub returns-in-8 : goal.returns-in-8
unfolding Rows-computes contains subset numbers
returns-in-8 c = row_at Attribute 8 c.in-8.is

pub returns-in-9 : goal.returns-in-9
unfolding Rows-computes contains subset numbers
returns-in-9 c = row_at Attribute 9 c.in-9.is

pub returns-in-10 : goal.returns-in-10
unfolding Rows-computes contains subset numbers
returns-in-10 c = row_at Attribute 10 c.in-10.is

pub returns-in-11 : goal.returns-in-11
unfolding Rows-computes contains subset numbers
returns-in-11 c = row_at Attribute 11 c.in-11.is

pub returns-in-14 : goal.returns-in-14
unfolding Rows-computes contains subset numbers
returns-in-14 c = row_at Attribute 14 c.in-14.is

pub returns-in-15 : goal.returns-in-15
unfolding Rows-computes contains subset numbers
returns-in-15 c = row_at Attribute 15 c.in-15.is

pub returns-in-20 : goal.returns-in-20
unfolding Rows-computes contains subset numbers
returns-in-20 c = row_at Attribute 20 c.in-20.is

pub returns-in-21 : goal.returns-in-21
unfolding Rows-computes contains subset numbers
returns-in-21 c = row_at Attribute 21 c.in-21.is

pub returns-in-22 : goal.returns-in-22
unfolding Rows-computes contains subset numbers
returns-in-22 c = row_at Attribute 22 c.in-22.is

pub returns-in-23 : goal.returns-in-23
unfolding Rows-computes contains subset numbers
returns-in-23 c = row_at Attribute 23 c.in-23.is

pub returns-in_default : goal.returns-in_default
unfolding Rows-computes contains subset numbers
returns-in_default c =
    row_unknown Attribute (23 ∷ 22 ∷ 21 ∷ 20 ∷ 15 ∷ 14 ∷ 11 ∷ 10 ∷ 9 ∷ 8 ∷ 7 ∷ 6 ∷ 5 ∷ 4 ∷ 3 ∷ 2 ∷ 1 ∷ []) c.args.number tt
    (search rules)
