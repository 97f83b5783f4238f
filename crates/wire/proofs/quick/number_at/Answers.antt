use Rattle.wire.proofs.QuickLaws.{number_of_read, number_of_refused}
use Rattle.wire.proofs.quick.number_at.Goals as goal

pub returns-in-Ok : goal.returns-in-Ok
returns-in-Ok c = λ v e. number_of_read c.read_varint.ensures v e c.in-Ok.is

pub returns-in-Err : goal.returns-in-Err
returns-in-Err c = λ v e. number_of_refused c.read_varint.ensures v e c.in-Err.is
