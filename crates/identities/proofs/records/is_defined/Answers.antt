use Rattle.identities.proofs.FunctionLaws.{identity_parts, identified_by}
use Rattle.identities.proofs.RecordLaws.{has_all, all_tell}
use Rattle.identities.proofs.records.is_defined.Goals as goal

pub has_record-requires : goal.has_record-requires
has_record-requires c = (has_all c.requires.identified c.in-Some.is).chained

pub returns-in-Some : goal.returns-in-Some
returns-in-Some c =
    all_tell (has_all c.requires.identified c.in-Some.is)
    (identity_parts _ _ _ c.bytes_of-name.ensures c.domain_of-domain.ensures c.overload_of-overload.ensures) c.has_record.ensures

pub returns-in-None : goal.returns-in-None
returns-in-None c =
    identified_by (identity_parts _ _ _ c.bytes_of-name.ensures c.domain_of-domain.ensures c.overload_of-overload.ensures) _
    c.has_earlier.ensures
