use Rattle.varint.specs.Answers.{outcome_of}
use mathlib.Core.Path.{ap, ◌∙◌}
use Rattle.varint.proofs.Answers.{erred}
use Rattle.wire.proofs.CursorLaws.{number_refused, number_read, length_refused, length_read, eight_read, four_read}
use Rattle.wire.proofs.Cursor.any_value.Goals as goal

pub returns-in_err-v : goal.returns-in_err-v
unfolding outcome_of
returns-in_err-v c =
    ap outcome_of (erred c.from_residual.ensures.1)
    ∙ number_refused _ _ _ c.read_shortest.ensures c.if-wire-eq-VARINT.true c.in_err-v.was

pub returns-then-wire-eq-VARINT : goal.returns-then-wire-eq-VARINT
returns-then-wire-eq-VARINT c = c.sized_field.ensures ∙ number_read _ _ _ c.read_shortest.ensures c.if-wire-eq-VARINT.true c.in_ok-v.was

pub returns-in_err-v-2 : goal.returns-in_err-v-2
unfolding outcome_of
returns-in_err-v-2 c =
    ap outcome_of (erred c.from_residual-in_err-v-2.ensures.1)
    ∙ length_refused _ _ _ c.read_shortest-then-wire-eq-LEN.ensures c.if-wire-eq-LEN.true c.in_err-v-2.was

pub returns-then-wire-eq-LEN : goal.returns-then-wire-eq-LEN
returns-then-wire-eq-LEN c =
    c.sized_field-then-wire-eq-LEN.ensures
    ∙ length_read _ _ _ c.read_shortest-then-wire-eq-LEN.ensures c.if-wire-eq-LEN.true c.in_ok-v-2.was

pub returns-then-wire-eq-I64 : goal.returns-then-wire-eq-I64
returns-then-wire-eq-I64 c = c.sized_field-then-wire-eq-I64.ensures ∙ eight_read _ _ _ c.if-wire-eq-I64.true

pub returns : goal.returns
returns c = c.sized_field-2.ensures ∙ four_read _ _ _ c.if-wire-eq-VARINT.false c.if-wire-eq-LEN.false c.if-wire-eq-I64.false
