use mathlib.Core.Path.{ap, ◌∙◌}
use Rattle.varint.proofs.Answers.{erred}
use Rattle.varint.specs.Lists.{is_empty}
use Rattle.values.specs.Answers.{more, tally_says}
use Rattle.values.proofs.NameLaws.{named_some, named_few}
use Rattle.nodes.proofs.OutputLaws.{listed_unnamed, listed_hidden, listed_visible, listed_fits}
use Rattle.nodes.proofs.outputs.graph_output.Goals as goal

pub sees-requires : goal.sees-requires
sees-requires c = record {
  recalling = c.requires.recalling;
  name_value = ap is_empty c.text.ensures ∙ named_some _ _ _ _ _ c.read_name.ensures c.in_ok-name.was;
}

pub returns-then-not-sees : goal.returns-then-not-sees
unfolding tally_says
returns-then-not-sees c =
    λ k w e s. ap (tally_says w) c.refused.ensures
    ∙ listed_hidden _ k w _ _ c.read_name.ensures c.in_ok-name.was c.text.ensures s c.sees.ensures c.if-not-sees.true

pub adding-requires : goal.adding-requires
adding-requires c =
    listed_fits _ _ _ _ c.main_type.ensures (named_few _ _ _ _ _ c.read_name.ensures c.in_ok-name.was) c.requires.f_len_bound

pub returns-in_err-name : goal.returns-in_err-name
unfolding tally_says
returns-in_err-name c =
    λ k w e s. ap (tally_says w) (erred c.from_residual.ensures.1) ∙ listed_unnamed _ k w _ _ c.read_name.ensures c.in_err-name.was

pub returns : goal.returns
returns c =
    λ k w e s. ap (tally_says w) c.adding.ensures
    ∙ listed_visible _ k w _ _ c.read_name.ensures c.in_ok-name.was c.text.ensures s c.sees.ensures c.if-not-sees.false _
    (c.main_type.ensures k (more w _) e)
