use Rattle.spelling.specs.Spelling.{spelling_says}
use Rattle.spelling.proofs.SpellingLaws.{spelled_odd, spelled_not, spelled_empty, spelled_even}
use Rattle.spelling.proofs.spellings.spell.Goals as goal

pub returns-then-is_well_formed : goal.returns-then-is_well_formed
unfolding spelling_says
returns-then-is_well_formed c =
    spelled_odd _ _ (
      c.identifier_part-part.ensures.upper_bound,
      (c.identifier_part-part.ensures.name_value, c.identifier_part-part.ensures.name_value_2),
    ) c.if-part-name.true _
    c.is_well_formed.ensures c.if-is_well_formed.true

pub returns-then-part-name : goal.returns-then-part-name
unfolding spelling_says
returns-then-part-name c =
    spelled_not _ _ (
      c.identifier_part-part.ensures.upper_bound,
      (c.identifier_part-part.ensures.name_value, c.identifier_part-part.ensures.name_value_2),
    ) c.if-part-name.true _
    c.is_well_formed.ensures c.if-is_well_formed.false

pub returns-then-part-eq0 : goal.returns-then-part-eq0
unfolding spelling_says
returns-then-part-eq0 c =
    spelled_empty _ _ (
      c.identifier_part-part.ensures.upper_bound,
      (c.identifier_part-part.ensures.name_value, c.identifier_part-part.ensures.name_value_2),
    ) c.if-part-name.false
    c.if-part-eq0.true

pub returns : goal.returns
unfolding spelling_says
returns c =
    spelled_even _ _ (
      c.identifier_part-part.ensures.upper_bound,
      (c.identifier_part-part.ensures.name_value, c.identifier_part-part.ensures.name_value_2),
    ) c.if-part-name.false
    c.if-part-eq0.false
