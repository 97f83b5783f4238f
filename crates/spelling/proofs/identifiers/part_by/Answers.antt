use Rattle.spelling.proofs.IdentifierLaws.{part_empty, part_none, part_start, part_stop, part_next, part_end}
use Rattle.spelling.proofs.identifiers.part_by.Goals as goal

pub returns-in_default : goal.returns-in_default
returns-in_default c =
    let rest = part_empty _ c.in_default.len_below in
    record { upper_bound = rest.0; name_value = rest.1.0; name_value_2 = rest.1.1 }

pub returns-then-not-is_letter : goal.returns-then-not-is_letter
returns-then-not-is_letter c =
    let rest = part_none _ c.in-len1-up.len_at_least _ c.is_letter.ensures c.if-not-is_letter.true in
    record { upper_bound = rest.0; name_value = rest.1.0; name_value_2 = rest.1.1 }

pub loop-i-init : goal.loop-i-init
loop-i-init c = part_start _ c.in-len1-up.len_at_least _ c.is_letter.ensures c.if-not-is_letter.false

pub returns-then-not-is_identifier_byte : goal.returns-then-not-is_identifier_byte
returns-then-not-is_identifier_byte c =
    let rest = part_stop c.loop-i.invariant c.loop-i-test.true _ c.is_identifier_byte.ensures c.if-not-is_identifier_byte.true in
    record { upper_bound = rest.0; name_value = rest.1.0; name_value_2 = rest.1.1 }

pub loop-i-preserved : goal.loop-i-preserved
loop-i-preserved c =
    part_next c.loop-i.invariant c.loop-i-test.true _ c.is_identifier_byte.ensures c.if-not-is_identifier_byte.false

pub returns : goal.returns
returns c =
    let rest = part_end c.loop-i.invariant c.loop-i-test.false in
    record { upper_bound = rest.0; name_value = rest.1.0; name_value_2 = rest.1.1 }
