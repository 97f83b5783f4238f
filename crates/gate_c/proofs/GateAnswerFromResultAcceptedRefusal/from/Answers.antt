use mathlib.Core.Path.{refl}
use Rattle.gate_c.proofs.ExportLaws.{outcome_accepted, outcome_refused}
use Rattle.gate_c.proofs.GateAnswerFromResultAcceptedRefusal.from.Goals as goal

pub returns-in-Ok : goal.returns-in-Ok
returns-in-Ok c = outcome_accepted refl c.in-Ok.is

pub returns-in-Err : goal.returns-in-Err
returns-in-Err c = outcome_refused refl c.in-Err.is
