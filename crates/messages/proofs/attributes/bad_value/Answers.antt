use Rattle.varint.specs.Answers.{outcome_of}
use mathlib.Core.Path.{ap, ◌∙◌}
use Rattle.messages.proofs.AttributeLaws.{bad_value_lem, good_value}
use Rattle.messages.proofs.attributes.bad_value.Goals as goal

pub returns-then-bad : goal.returns-then-bad
unfolding outcome_of
returns-then-bad c = ap outcome_of c.refused.ensures ∙ bad_value_lem _ c.if-bad.true

pub returns : goal.returns
unfolding outcome_of
returns c = good_value _ c.if-bad.false
