use mathlib.Core.Path.{sym, ap}
use Rattle.wire.specs.Answers.{value_in}
use Rattle.wire.proofs.messages.value_in.Goals as goal

pub returns-in-Some : goal.returns-in-Some
unfolding value_in
returns-in-Some c = sym (ap value_in c.in-Some.is)

pub returns-in-None : goal.returns-in-None
unfolding value_in
returns-in-None c = sym (ap value_in c.in-None.is)
