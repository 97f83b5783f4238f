use native.Mathlib.Omega.{arith}
use mathlib.Core.Path.{ap, ◌∙◌}
use Rattle.varint.specs.Bytes.{member}
use Rattle.rules.specs.Walk.{start}
use Rattle.values.specs.Answers.{more, tally_says}
use Rattle.values.proofs.TallyLaws.{addable}
use Rattle.varint.proofs.Answers.{erred}
use Rattle.values.proofs.NameLaws.{named_few}
use Rattle.messages.proofs.NodeLaws.{node_name_few, imported_by, head_untyped, head_foreign, head_named}
use Rattle.messages.proofs.nodes.node_head.Goals as goal

pub returns-in_err-odd : goal.returns-in_err-odd
unfolding tally_says
returns-in_err-odd c =
    λ w. ap (tally_says w) (erred c.from_residual.ensures.1) ∙ head_untyped _ _ _ _ _ c.read_name.ensures w c.in_err-odd.was

pub returns-then-not-is_imported : goal.returns-then-not-is_imported
unfolding tally_says
returns-then-not-is_imported c =
    λ w. ap (tally_says w) c.refused.ensures
    ∙ head_foreign _ _ _ _ _ c.read_name.ensures w c.in_ok-odd.was c.bytes_of.ensures
    (c.is_imported.ensures ∙ ap (member _) (imported_by _ _ c.field-owner.ensures c.import_number.ensures)) c.if-not-is_imported.true c.place_of.ensures

pub returns : goal.returns
returns c =
    λ w. ap (tally_says w) c.adding.ensures
    ∙ head_named _ _ _ _ _ c.read_name.ensures w c.in_ok-odd.was c.bytes_of.ensures
    (c.is_imported.ensures ∙ ap (member _) (imported_by _ _ c.field-owner.ensures c.import_number.ensures)) c.if-not-is_imported.false _
    (c.node_name.ensures (more w _))

pub is_imported-requires : goal.is_imported-requires
is_imported-requires c = rw (imported_by _ c.args.s c.field-owner.ensures c.import_number.ensures) c.requires.imported

pub node_name-requires : goal.node_name-requires
node_name-requires c = c.requires.listed

pub adding-requires : goal.adding-requires
adding-requires c =
    addable _ _ 1 1 (named_few _ _ _ _ _ c.read_name.ensures c.in_ok-odd.was)
    (λ l i. node_name_few _ _ _ start (c.node_name.ensures start) i) (omega arith)
