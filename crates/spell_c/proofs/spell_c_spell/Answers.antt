use mathlib.Core.Path.{ap}
use Rattle.varint.proofs.Answers.{says}
use Rattle.spelling.specs.Spelling.{spelling_says}
use Rattle.spell_c.specs.Exports.{numbered}
use Rattle.spell_c.proofs.spell_c_spell.Goals as goal

pub returns-in-Identifier : goal.returns-in-Identifier
unfolding numbered spelling_says
returns-in-Identifier c = ap numbered (says spelling_says c.spell.ensures c.in-Identifier.is)

pub returns-in-OtherText : goal.returns-in-OtherText
unfolding numbered spelling_says
returns-in-OtherText c = ap numbered (says spelling_says c.spell.ensures c.in-OtherText.is)

pub returns-in-NotUtf8 : goal.returns-in-NotUtf8
unfolding numbered spelling_says
returns-in-NotUtf8 c = ap numbered (says spelling_says c.spell.ensures c.in-NotUtf8.is)
