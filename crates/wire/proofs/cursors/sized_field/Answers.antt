use Rattle.varint.specs.Answers.{outcome_of}
use Rattle.wire.specs.Answers.{after}
use native.Mathlib.Omega.{arith}
use mathlib.Core.Path.{ap, ◌∙◌}
use Rattle.wire.proofs.CursorLaws.{sized_past, sized_in}
use Rattle.wire.proofs.cursors.sized_field.Goals as goal

pub returns-then-end-start : goal.returns-then-end-start
unfolding outcome_of
returns-then-end-start c = ap outcome_of c.refused.ensures ∙ sized_past _ _ _ _ _ (omega arith)

pub returns-then-end-start-2 : goal.returns-then-end-start-2
unfolding outcome_of
returns-then-end-start-2 c = ap outcome_of c.refused-then-end-start-2.ensures ∙ sized_past _ _ _ _ _ (omega arith)

pub returns : goal.returns
unfolding outcome_of after
returns c = sized_in _ _ _ _ _ (omega arith)
