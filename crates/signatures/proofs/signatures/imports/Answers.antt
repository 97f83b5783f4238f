use mathlib.Core.Path.{◌∙◌}
use Rattle.index.proofs.ListingLaws.{held_all}
use Rattle.headers.proofs.HeaderLaws.{refused_ruling, refused_holds}
use Rattle.headers.proofs.ImportLaws.{imports_from}
use Rattle.signatures.proofs.SignatureLaws.{imports_none, imports_some}
use Rattle.signatures.proofs.signatures.imports.Goals as goal

pub returns-then-not-has : goal.returns-then-not-has
returns-then-not-has c = record {
  answer = refused_ruling c.refused.ensures ∙ imports_none _ _ _ c.has.ensures c.if-not-has.true;
  imported = refused_holds c.refused.ensures _ _ _ _ _ _;
  held = held_all c.requires.indexed c.requires.top_bound;
}

pub opset_imports-requires : goal.opset_imports-requires
opset_imports-requires c = record {
  imports_from = imports_from _ _ c.args.f;
  indexed = c.requires.indexed;
  top_bound = c.requires.top_bound;
  model_len_bound = c.requires.model_len_bound;
}

pub returns : goal.returns
returns c = record {
  answer = imports_some _ _ _ c.has.ensures c.if-not-has.false c.opset_imports.ensures.answer;
  imported = c.opset_imports.ensures.imported;
  held = c.opset_imports.ensures.held;
}
