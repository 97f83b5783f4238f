use mathlib.Core.List.{[], ◌∷◌}
use native.Mathlib.Omega.{arith}
use Rattle.io.proofs.Counting.{prefix_len_of_le}
use Rattle.varint.specs.Notation.{ascii}
use Rattle.report.specs.Line.{decimal}
use Rattle.report.proofs.LineLaws.{and_then, counted_written, accepted_written}
use Rattle.report.proofs.accepted.Goals as goal

pub returns : goal.returns
unfolding ascii
returns c =
    let a = c.args in
    let one = and_then (ascii " odd ") (counted_written a.nodes a.names (c.numbers-at.ensures.size, c.numbers-at.ensures.text))
    c.put-at.ensures.size c.put-at.ensures.text in
    let two = and_then (decimal a.odd) one c.put_number-at.ensures.size c.put_number-at.ensures.text in
    let three = and_then (0x0A ∷ []) two c.put.ensures.size c.put.ensures.text in
    let rest = accepted_written a.nodes a.names a.odd three in
    record {
      counts = prefix_len_of_le _ _ (omega (
        arith,
        c.put.ensures.size,
        c.put_number-at.ensures.few,
        c.put-at.ensures.size,
        c.numbers-at.ensures.few,
      ));
      size = rest.0;
      text = rest.1;
    }
