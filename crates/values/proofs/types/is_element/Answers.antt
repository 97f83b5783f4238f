use Rattle.values.proofs.TypeLaws.{element_below, element_rest}
use Rattle.values.proofs.types.is_element.Goals as goal

pub returns-then-code-lt1 : goal.returns-then-code-lt1
returns-then-code-lt1 c = element_below _ c.if-code-lt1.true

pub returns : goal.returns
returns c = element_rest _ c.if-code-lt1.false
