use Rattle.values.proofs.CarrierLaws.{reference_untyped, reference_typed}
use Rattle.values.proofs.carriers.is_bad_reference.Goals as goal

pub returns-then-is_none : goal.returns-then-is_none
returns-then-is_none c = reference_untyped _ _ c.number_of.ensures c.carrier_of.result c.carrier_of.ensures c.is_none.ensures c.if-is_none.true

pub returns : goal.returns
returns c = reference_typed _ _ c.number_of.ensures c.carrier_of.result c.carrier_of.ensures c.is_none.ensures c.if-is_none.false c.has_foreign.ensures
