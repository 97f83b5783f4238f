use mathlib.Core.Path.{refl}
use Rattle.rules.specs.Verdict.{LARGEST}
use Rattle.gate.proofs.checks.is_too_large.Goals as goal

pub returns : goal.returns
unfolding LARGEST
returns c = refl
