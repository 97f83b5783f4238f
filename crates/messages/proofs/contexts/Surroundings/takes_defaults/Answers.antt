use Rattle.messages.proofs.ContextLaws.{main_takes, nested_takes}
use Rattle.messages.proofs.contexts.Surroundings.takes_defaults.Goals as goal

pub returns-then-self : goal.returns-then-self
returns-then-self c = λ model. main_takes _ model c.if-self.true

pub returns : goal.returns
returns c = λ model. nested_takes _ model c.if-self.false (c.at_ir_3.ensures model)
