use native.Mathlib.Omega.{arith}
use Prim.Native.Nat.{ℕ}
use mathlib.Core.Path.{sym, ap, ◌∙◌}
use lib.ListN.{replicate}
use Rattle.gate.specs.Meaning.{meaning}
use Rattle.gate.proofs.IndexedLaws.{indexed_few, indexed_enough}
use Rattle.gate.proofs.checks.check_indexed.Goals as goal

pub returns-then-extra-cells : goal.returns-then-extra-cells
unfolding meaning
returns-then-extra-cells c = record {
  answer = ap meaning c.refused.ensures ∙ indexed_few _ _ c.extra-1.given c.if-extra-cells.true;
  cleared = c.clear-then-extra-cells.ensures;
  extras = c.clear.ensures;
}

pub judged-answer-requires : goal.judged-answer-requires
judged-answer-requires c = record {
  extra_value = c.clear.ensures ∙ ap (λ (n : ℕ). replicate n 0) (sym c.extra-1.given);
  split_in_bounds = omega (arith, c.unread.ensures.1, c.split_of-split.ensures, c.extra-1.given);
}

pub returns : goal.returns
returns c = record {
  answer = c.judged-answer.ensures.answer ∙ indexed_enough _ _ c.extra-1.given c.if-extra-cells.false;
  cleared = c.clear_both.ensures.cells ∙ ap (λ (n : ℕ). replicate n 0) c.judged-answer.ensures.size;
  extras = c.clear_both.ensures.extra ∙ ap (λ (n : ℕ). replicate n 0) (c.extra-2-1.given ∙ c.extra-1.given);
}
