-- What one reading of a name tells of it, and what the answers of the code say.
use Rattle.std.specs.Prelude.{ℕ, true, false, Some, None}
use Rattle.std.specs.declared.option.Option as code
use Rattle.std.proofs.Math.Option.{Option, none, some}
use Rattle.varint.specs.Bytes.{Bytes}
use Rattle.spelling.specs.Utf8.{Ahead, ahead, well_formed}
use Rattle.spelling.specs.Identifier.{oddity}
use Rattle.spelling.specs.declared.spellings.Spelling.{Spelling}
use Rattle.spelling.specs.declared.spellings.Spelling.TheVariants as spelling_answer
use Rattle.spelling.specs.declared.utf8.Lead.{Lead}

-- A well-formed name with its oddity; any other bytes spell none.
unfoldable pub spelled : Bytes → Option ℕ
spelled x = elim (well_formed x) [ true ↦ some (oddity x) | false ↦ none ]

unfoldable pub spelling_says : Spelling → Option ℕ
spelling_says spelling_answer.Identifier = some 0
spelling_says spelling_answer.OtherText = some 1
spelling_says spelling_answer.NotUtf8 = none

unfoldable pub lead_says : code.Option Lead → Option Ahead
lead_says (Some l) = some (ahead l.tails l.least l.most)
lead_says None = none
