use mathlib.Core.Path.{ap, ◌∙◌}
use Rattle.varint.specs.Answers.{outcome_of}
use Rattle.varint.proofs.Answers.{passed_on}
use Rattle.varint.proofs.ShortestLaws.{shortest_refused, shortest_padded, shortest_read}
use Rattle.varint.proofs.varints.read_shortest.Goals as goal

pub returns-in_err-v : goal.returns-in_err-v
returns-in_err-v c =
    ap outcome_of (passed_on c.read_varint.result c.in_err-v.was c.from_residual.ensures.1) ∙ shortest_refused _ _ _ _ c.read_varint.ensures c.in_err-v.was

pub returns-then-v : goal.returns-then-v
unfolding outcome_of
returns-then-v c = shortest_read _ _ _ _ c.read_varint.ensures c.in_ok-v.was c.if-v.true

pub returns : goal.returns
unfolding outcome_of
returns c = ap outcome_of c.refused.ensures ∙ shortest_padded _ _ _ _ c.read_varint.ensures c.in_ok-v.was c.if-v.false
