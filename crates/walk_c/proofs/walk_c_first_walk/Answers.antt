use Rattle.walk_c.proofs.ExportLaws.{answer_sound, answer_refused}
use Rattle.walk_c.proofs.walk_c_first_walk.Goals as goal

pub returns-in-Ok : goal.returns-in-Ok
returns-in-Ok c = answer_sound c.first_walk.ensures c.in-Ok.is

pub returns-in-Err : goal.returns-in-Err
returns-in-Err c = answer_refused c.first_walk.ensures c.in-Err.is
