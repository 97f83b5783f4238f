use native.Mathlib.Omega.{arith}
use Rattle.report.specs.Line.{decimal}
use Rattle.report.proofs.LineLaws.{nothing_yet, and_then, numbers_written}
use Rattle.report.proofs.numbers.Goals as goal

pub returns : goal.returns
returns c =
    let first = c.args.first.now in
    let second = c.args.second.now in
    let m = c.args.m in
    let n = c.args.n in
    let one = and_then first (nothing_yet c.args.out.now) c.put-at.ensures.size c.put-at.ensures.text in
    let two = and_then (decimal m) one c.put_number-at.ensures.size c.put_number-at.ensures.text in
    let three = and_then second two c.put-at-2.ensures.size c.put-at-2.ensures.text in
    let four = and_then (decimal n) three c.put_number.ensures.size c.put_number.ensures.text in
    let rest = numbers_written first m second n four in
    record {
      few = omega (
        arith,
        c.requires,
        c.put_number.ensures.few,
        c.put-at-2.ensures.size,
        c.put_number-at.ensures.few,
        c.put-at.ensures.size,
      );
      size = rest.0;
      text = rest.1;
    }
