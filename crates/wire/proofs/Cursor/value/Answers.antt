use Rattle.varint.specs.Answers.{outcome_of}
use Rattle.wire.proofs.QuickLaws.{value_answer, long_answer}
use Rattle.varint.proofs.Answers.{says}
use Rattle.wire.proofs.Cursor.value.Goals as goal

pub returns-in-Some : goal.returns-in-Some
returns-in-Some c = value_answer c.in-Some.ensures

pub returns-in-Some-long_end : goal.returns-in-Some-long_end
returns-in-Some-long_end c = long_answer c.in-Some-long_end.ensures c.number_at.ensures c.field_of-long.ensures

pub returns-in-Err : goal.returns-in-Err
returns-in-Err c = says outcome_of c.any_value.ensures c.in-Err.is

pub returns-in-Ok : goal.returns-in-Ok
returns-in-Ok c = says outcome_of c.any_value.ensures c.in-Ok.is
