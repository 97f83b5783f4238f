use Rattle.varint.specs.Answers.{outcome_of}
use Rattle.wire.proofs.ShortLaws.{short_answer}
use Rattle.varint.proofs.Answers.{says}
use native.Mathlib.Omega.{arith}
use Rattle.wire.proofs.Cursor.field.Goals as goal

pub returns-in-Err : goal.returns-in-Err
returns-in-Err c = says outcome_of c.quick_field.ensures c.in-Err.is

pub returns-in-Ok : goal.returns-in-Ok
returns-in-Ok c = says outcome_of c.quick_field.ensures c.in-Ok.is

pub overflow_add-next : goal.overflow_add-next
overflow_add-next c = let q = c.in-Some.ensures.inside in record { fits = omega arith }

pub short_field-requires : goal.short_field-requires
short_field-requires c = let q = c.in-Some.ensures in (q.room, q.there)

pub returns : goal.returns
returns c = short_answer c.in-Some.ensures c.short_field.ensures
