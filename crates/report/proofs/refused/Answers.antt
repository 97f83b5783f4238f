use mathlib.Core.List.{[], ◌∷◌}
use native.Mathlib.Omega.{arith}
use Rattle.io.proofs.Counting.{prefix_len_of_le}
use Rattle.varint.specs.Notation.{ascii}
use Rattle.report.specs.Line.{decimal}
use Rattle.report.proofs.LineLaws.{and_then, head_written, refused_first, refused_plain}
use Rattle.report.proofs.refused.Goals as goal

pub returns-then-r-eq-ALREADY_VISIBLE : goal.returns-then-r-eq-ALREADY_VISIBLE
unfolding ascii
returns-then-r-eq-ALREADY_VISIBLE c =
    let r = c.args.r in
    let one = and_then (ascii " first ") (head_written r (c.numbers-at.ensures.size, c.numbers-at.ensures.text))
    c.put-at.ensures.size c.put-at.ensures.text in
    let two = and_then (decimal r.first) one c.put_number-at.ensures.size c.put_number-at.ensures.text in
    let three = and_then (0x0A ∷ []) two c.put.ensures.size c.put.ensures.text in
    let rest = refused_first r c.if-r-eq-ALREADY_VISIBLE.true three in
    record {
      counts = prefix_len_of_le _ _ (omega (
        arith,
        c.put.ensures.size,
        c.put_number-at.ensures.few,
        c.put-at.ensures.size,
        c.numbers-at.ensures.few,
      ));
      size = rest.0;
      text = rest.1;
    }

pub returns : goal.returns
unfolding ascii
returns c =
    let r = c.args.r in
    let one = and_then (0x0A ∷ []) (head_written r (c.numbers-at.ensures.size, c.numbers-at.ensures.text)) c.put-2.ensures.size
    c.put-2.ensures.text in
    let rest = refused_plain r c.if-r-eq-ALREADY_VISIBLE.false one in
    record {
      counts = prefix_len_of_le _ _ (omega (arith, c.put-2.ensures.size, c.numbers-at.ensures.few));
      size = rest.0;
      text = rest.1;
    }
