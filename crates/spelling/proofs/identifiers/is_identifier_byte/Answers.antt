use mathlib.Core.Path.{ap, ◌∙◌}
use mathlib.Core.Bool.{not}
use lib.Dec.{eqb}
use Rattle.spelling.proofs.IdentifierLaws.{class_part}
use Rattle.spelling.proofs.identifiers.is_identifier_byte.Goals as goal

pub returns : goal.returns
returns c = ap (λ k. not (eqb k 0x2E)) c.class_of.ensures ∙ class_part _
