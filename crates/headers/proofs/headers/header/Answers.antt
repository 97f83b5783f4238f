use native.Mathlib.Omega.{arith}
use mathlib.Core.Path.{◌∙◌}
use Rattle.index.proofs.ListingLaws.{held_all}
use Rattle.headers.proofs.HeaderLaws.{refused_ruling, refused_holds, header_version, header_graph, header_import, header_imported}
use Rattle.headers.proofs.headers.header.Goals as goal

pub returns-then-not-is_ir_version : goal.returns-then-not-is_ir_version
returns-then-not-is_ir_version c =
    record {
      answer = refused_ruling c.refused.ensures
          ∙ header_version _ _ c.whole-m.ensures c.number_from.ensures c.is_ir_version.ensures c.if-not-is_ir_version.true
          c.place_of.ensures;
      imported = refused_holds c.refused.ensures _ _ _ _ _ _;
      held = held_all c.requires.indexed (omega arith);
    }

pub returns-then-not-has_from : goal.returns-then-not-has_from
returns-then-not-has_from c =
    record {
      answer = refused_ruling c.refused-then-not-has_from.ensures
          ∙ header_graph _ _ c.whole-m.ensures c.number_from.ensures c.is_ir_version.ensures c.if-not-is_ir_version.false
          c.has_from.ensures c.if-not-has_from.true;
      imported = refused_holds c.refused-then-not-has_from.ensures _ _ _ _ _ _;
      held = held_all c.requires.indexed (omega arith);
    }

pub returns-then-not-has_from-2 : goal.returns-then-not-has_from-2
returns-then-not-has_from-2 c =
    record {
      answer = refused_ruling c.refused-then-not-has_from-2.ensures
          ∙ header_import _ _ c.whole-m.ensures c.number_from.ensures c.is_ir_version.ensures c.if-not-is_ir_version.false
          c.has_from.ensures c.if-not-has_from.false c.has_from-2.ensures c.if-not-has_from-2.true;
      imported = refused_holds c.refused-then-not-has_from-2.ensures _ _ _ _ _ _;
      held = held_all c.requires.indexed (omega arith);
    }

pub returns : goal.returns
returns c =
    record {
      answer = header_imported _ _ c.whole-m.ensures c.number_from.ensures c.is_ir_version.ensures c.if-not-is_ir_version.false
          c.has_from.ensures c.if-not-has_from.false c.has_from-2.ensures c.if-not-has_from-2.false _
          c.opset_imports.ensures.answer;
      imported = rw c.whole-m.ensures at c.opset_imports.ensures.imported;
      held = c.opset_imports.ensures.held;
    }

pub number_from-requires : goal.number_from-requires
number_from-requires c = rw c.whole-m.ensures c.requires.outlined.version

pub has_from-requires : goal.has_from-requires
has_from-requires c = rw c.whole-m.ensures c.requires.outlined.graph

pub has_from-requires-2 : goal.has_from-requires-2
has_from-requires-2 c = rw c.whole-m.ensures c.requires.outlined.imports

pub opset_imports-requires : goal.opset_imports-requires
opset_imports-requires c = record {
  imports_from = rw c.whole-m.ensures c.requires.outlined.imports.same;
  indexed = c.requires.indexed;
  top_bound = omega arith;
  model_len_bound = c.requires.model_len_bound;
}
