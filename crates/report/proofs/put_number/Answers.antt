use Prim.Native.Nat.{◌+◌, ◌≤◌}
use mathlib.Core.Path.{◌≡◌, ap, ◌∙◌}
use native.Mathlib.Omega.{arith}
use lib.ListN.{length, take}
use lib.Seq.{paste}
use Rattle.report.specs.Line.{decimal}
use Rattle.report.proofs.DecimalLaws.{at_most, decimal_digits}
use Rattle.report.proofs.put_number.Goals as goal

-- Twenty digits hold a number of 64 bits.
pub put-requires : goal.put-requires
put-requires c =
    let few : c.decimal-k.result ≤ 20 = at_most _ _ 20 c.decimal-k.ensures.len (omega arith) (omega arith) in
    omega (arith, few, c.decimal-k.ensures.in_bounds.1, c.requires)

-- What was put is the number's text.
pub returns : goal.returns
returns c =
    let few : c.decimal-k.result ≤ 20 = at_most _ _ 20 c.decimal-k.ensures.len (omega arith) (omega arith) in
    let spelled : take c.decimal-k.result c.decimal-k.new.out ≡ decimal c.args.n =
    c.decimal-k.ensures.digits ∙ decimal_digits _ _ c.decimal-k.ensures.len in
    record {
      few = omega (arith, few, c.decimal-k.ensures.in_bounds.1, c.put.ensures.size);
      size = c.put.ensures.size ∙ ap (λ l. c.args.at + length l) spelled;
      text = c.put.ensures.text ∙ ap (λ l. paste c.args.out.now c.args.at l (length l)) spelled;
    }
