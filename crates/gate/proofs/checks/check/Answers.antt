use native.Mathlib.Omega.{arith}
use Prim.Native.Nat.{ℕ}
use mathlib.Core.Path.{refl, ap, ◌∙◌}
use lib.ListN.{replicate}
use Rattle.gate.proofs.checks.check.Goals as goal

pub judged-answer-requires : goal.judged-answer-requires
judged-answer-requires c = record { extra_value = refl; split_in_bounds = omega (arith, c.unread.ensures.1) }

pub returns : goal.returns
returns c = record {
  answer = c.judged-answer.ensures.answer;
  cleared = c.clear.ensures ∙ ap (λ (n : ℕ). replicate n 0) c.judged-answer.ensures.size;
}
