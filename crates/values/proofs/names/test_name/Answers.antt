use mathlib.Core.Path.{ap, ◌∙◌}
use Rattle.values.specs.Answers.{tally_says}
use Rattle.values.proofs.NameLaws.{field_empty, field_tested}
use Rattle.values.proofs.names.test_name.Goals as goal

pub returns-then-text-eq0 : goal.returns-then-text-eq0
unfolding tally_says
returns-then-text-eq0 c = λ w. ap (tally_says w) c.refused.ensures ∙ field_empty _ _ _ c.text-text.ensures w c.if-text-eq0.true

pub returns : goal.returns
returns c = λ w. c.tested.ensures w ∙ field_tested _ _ _ c.text-text.ensures w c.if-text-eq0.false
