use Rattle.varint.specs.Answers.{Answer, outcome_of}
use Rattle.headers.specs.declared.imports.Imports.{Imports}
use Rattle.varint.proofs.Answers.{erred}
use Rattle.headers.proofs.HeaderLaws.{refused_holds}
use mathlib.Core.Path.{sym, ap, ◌∙◌}
use Rattle.headers.specs.Imported.{ruling_of, holds}
use Rattle.headers.proofs.ImportLaws.{import_falls, importing_end, importing_stops, keeping_start, keeping_end, keeping_before, keeping_goes}
use Rattle.headers.proofs.imports.opset_imports.Goals as goal

pub loop-f-init : goal.loop-f-init
loop-f-init c = keeping_start _ _ _ _ _ _ c.requires.imports_from c.requires.indexed c.requires.top_bound

pub returns : goal.returns
unfolding outcome_of ruling_of holds
returns c = record {
  answer = importing_end c.loop-f.invariant.importing c.next_of.ensures c.in_default.is;
  imported = (keeping_end c.loop-f.invariant c.next_of.ensures c.in_default.is, c.loop-f.invariant.above);
  held = c.loop-f.invariant.held;
}

pub opset_import-requires : goal.opset_import-requires
opset_import-requires c = keeping_before c.loop-f.invariant c.next_of.ensures c.in-Some.is

pub returns-in_err-opset_import : goal.returns-in_err-opset_import
unfolding outcome_of ruling_of
returns-in_err-opset_import c =
    let e = erred c.from_residual.ensures.1 in
    record {
      answer = ap (λ (r : Answer Imports). outcome_of (ruling_of r)) e
          ∙ ap outcome_of (sym c.in_err-opset_import.was)
          ∙ importing_stops c.loop-f.invariant.importing c.next_of.ensures c.in-Some.is _
          c.opset_import.ensures c.in_err-opset_import.was;
      imported = refused_holds e _ _ _ _ _ _;
      held = c.loop-f.invariant.held;
    }

pub list_import-imports-requires : goal.list_import-imports-requires
list_import-imports-requires c = record {
  indexed = c.loop-f.invariant.imported.listed.index;
  top_bound = c.loop-f.invariant.imported.listed.fits;
  model_len_bound = c.requires.model_len_bound;
}

pub loop-f-smaller : goal.loop-f-smaller
loop-f-smaller c = import_falls _ _ c.args.m _ c.loop-f.invariant.importing.ends c.next_of.ensures c.in-Some.is

pub loop-f-preserved : goal.loop-f-preserved
loop-f-preserved c =
    keeping_goes c.loop-f.invariant c.next_of.ensures c.in-Some.is _ c.opset_import.ensures c.in_ok-opset_import.was
    c.list_import-imports.ensures
