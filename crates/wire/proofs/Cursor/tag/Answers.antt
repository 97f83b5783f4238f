use Rattle.varint.specs.Answers.{outcome_of}
use mathlib.Core.Path.{sym, ◌∙◌}
use Rattle.wire.proofs.Cursor.tag.Goals as goal

pub returns-then-is_wire : goal.returns-then-is_wire
unfolding outcome_of
returns-then-is_wire c = c.in-Some.ensures.read (sym c.is_wire.ensures ∙ c.if-is_wire.true)
