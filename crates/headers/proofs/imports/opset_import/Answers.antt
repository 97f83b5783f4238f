use Rattle.varint.specs.Answers.{outcome_of}
use mathlib.Core.Path.{ap, ◌∙◌}
use Rattle.headers.proofs.ImportLaws.{import_twice, import_unlisted, import_kept}
use Rattle.headers.proofs.imports.opset_import.Goals as goal

pub returns-then-is_imported : goal.returns-then-is_imported
unfolding outcome_of
returns-then-is_imported c =
    ap outcome_of c.refused.ensures ∙ import_twice _ _ _ _ c.bytes_of-d.ensures c.is_imported.ensures c.if-is_imported.true

pub returns-then-not-allows : goal.returns-then-not-allows
unfolding outcome_of
returns-then-not-allows c =
    ap outcome_of c.refused-then-not-allows.ensures
    ∙ import_unlisted _ _ _ _ c.bytes_of-d.ensures c.is_imported.ensures c.if-is_imported.false c.number_of.ensures
    c.allows.ensures
    c.if-not-allows.true

pub returns : goal.returns
unfolding outcome_of
returns c =
    import_kept _ _ _ _ c.bytes_of-d.ensures c.is_imported.ensures c.if-is_imported.false c.number_of.ensures c.allows.ensures
    c.if-not-allows.false
