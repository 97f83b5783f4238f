use Rattle.values.proofs.CarrierLaws.{value_outside, value_foreign, value_free, value_carried}
use Rattle.values.proofs.carriers.is_bad_value.Goals as goal

pub returns-in_default : goal.returns-in_default
returns-in_default c = value_outside _ _ c.number_of-code.ensures c.carrier_of.ensures c.in_default.is

pub returns-then-has_foreign : goal.returns-then-has_foreign
returns-then-has_foreign c =
    value_foreign _ _ c.number_of-code.ensures c.carrier_of.ensures c.in-Some.is c.has_foreign.ensures
    c.if-has_foreign.true

pub returns-then-not-is_needed : goal.returns-then-not-is_needed
returns-then-not-is_needed c =
    value_free _ _ c.number_of-code.ensures c.carrier_of.ensures c.in-Some.is c.has_foreign.ensures
    c.if-has_foreign.false
    c.is_needed.ensures c.if-not-is_needed.true

pub returns : goal.returns
returns c =
    value_carried _ _ c.number_of-code.ensures c.carrier_of.ensures c.in-Some.is c.has_foreign.ensures
    c.if-has_foreign.false
    c.is_needed.ensures c.if-not-is_needed.false c.first_of.result c.first_of.ensures _ c.is_none.ensures
