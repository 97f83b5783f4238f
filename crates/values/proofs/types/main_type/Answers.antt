use mathlib.Core.Path.{◌∙◌}
use Rattle.values.specs.Answers.{tally_says}
use Rattle.values.proofs.TypeLaws.{main_does, main_not}
use Rattle.values.proofs.types.main_type.Goals as goal

pub returns-then-main : goal.returns-then-main
returns-then-main c = λ k w e. c.declared_type.ensures w ∙ main_does k e _ w c.if-main.true

pub returns : goal.returns
unfolding tally_says
returns c = λ k w e. main_not k e _ w c.if-main.false
