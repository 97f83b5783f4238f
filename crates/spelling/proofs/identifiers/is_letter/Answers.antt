use mathlib.Core.Path.{ap, ◌∙◌}
use lib.Dec.{eqb}
use Rattle.spelling.proofs.IdentifierLaws.{class_letter}
use Rattle.spelling.proofs.identifiers.is_letter.Goals as goal

pub returns : goal.returns
returns c = ap (λ k. eqb k 0x61) c.class_of.ensures ∙ class_letter _
