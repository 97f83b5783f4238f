use mathlib.Core.Path.{sym, ap, ◌∙◌}
use Rattle.varint.specs.Bytes.{member}
use Rattle.messages.proofs.ContextLaws.{resolved_none, attributes_all}
use Rattle.messages.proofs.references.is_resolved.Goals as goal

pub returns-in_default : goal.returns-in_default
returns-in_default c = resolved_none _ _ _ c.in_default.is

pub is_attribute-requires : goal.is_attribute-requires
is_attribute-requires c = record {
  listed = rw (← (attributes_all _ c.args.s c.in-Function.is)) c.requires.listed;
  name_value = c.requires.name_value;
}

pub returns : goal.returns
returns c = c.is_attribute.ensures ∙ ap (member _) (sym (attributes_all _ c.args.s c.in-Function.is))
