use Rattle.wire.proofs.QuickLaws.{quick_answer}
use Rattle.wire.proofs.Cursor.quick_field.Goals as goal

pub returns : goal.returns
returns c = quick_answer c.in-Some.ensures c.in-Some-quick_value.ensures
