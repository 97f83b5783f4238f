use Rattle.report.proofs.LineLaws.{line_accepted, line_refused}
use Rattle.report.proofs.line.Goals as goal

pub returns-in-Ok : goal.returns-in-Ok
returns-in-Ok c =
    let rest = line_accepted c.args.out.now c.in-Ok.is (c.accepted.ensures.size, c.accepted.ensures.text) in
    record { counts = c.accepted.ensures.counts; size = rest.0; text = rest.1 }

pub returns-in-Err : goal.returns-in-Err
returns-in-Err c =
    let rest = line_refused c.args.out.now c.in-Err.is (c.refused.ensures.size, c.refused.ensures.text) in
    record { counts = c.refused.ensures.counts; size = rest.0; text = rest.1 }
