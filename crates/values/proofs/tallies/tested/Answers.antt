use mathlib.Core.Path.{ap, ◌∙◌}
use Rattle.spelling.specs.Spelling.{spelling_says}
use Rattle.values.specs.Answers.{tally_says}
use Rattle.values.proofs.NameLaws.{tested_bad, tested_good}
use Rattle.values.proofs.tallies.tested.Goals as goal

pub returns-in-Identifier : goal.returns-in-Identifier
unfolding tally_says spelling_says
returns-in-Identifier c = λ w. tested_good _ _ c.spell.ensures (ap spelling_says c.in-Identifier.is) w

pub returns-in-OtherText : goal.returns-in-OtherText
unfolding tally_says spelling_says
returns-in-OtherText c = λ w. tested_good _ _ c.spell.ensures (ap spelling_says c.in-OtherText.is) w

pub returns-in-NotUtf8 : goal.returns-in-NotUtf8
unfolding tally_says spelling_says
returns-in-NotUtf8 c = λ w. ap (tally_says w) c.refused.ensures ∙ tested_bad _ _ c.spell.ensures (ap spelling_says c.in-NotUtf8.is) w
