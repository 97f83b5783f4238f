use mathlib.Core.Path.{◌∙◌}
use Rattle.messages.proofs.ContextLaws.{attribute_first, attribute_second}
use Rattle.messages.proofs.references.is_attribute.Goals as goal

pub has-requires : goal.has-requires
has-requires c = record { indexed = c.requires.listed.index; top_bound = c.requires.listed.fits }

pub returns-then-l : goal.returns-then-l
returns-then-l c = c.has.ensures ∙ c.requires.listed.finds c.if-l.true _ c.requires.name_value

pub returns-then-is_earlier_field : goal.returns-then-is_earlier_field
returns-then-is_earlier_field c = attribute_first _ _ _ _ _ c.is_earlier_field.ensures c.if-is_earlier_field.true

pub returns : goal.returns
returns c = attribute_second _ _ _ _ _ c.is_earlier_field.ensures c.if-is_earlier_field.false c.is_earlier.ensures
