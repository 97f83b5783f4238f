use Rattle.identities.proofs.FunctionLaws.{identity_parts}
use Rattle.identities.proofs.RecordLaws.{added_none, added_full, added_more}
use Rattle.identities.proofs.records.add.Goals as goal

pub returns-in_err-used : goal.returns-in_err-used
returns-in_err-used c = rw c.from_residual.ensures (added_none _ _ _ _ _ c.in_err-used.was)

pub returns-then-size-used : goal.returns-then-size-used
returns-then-size-used c = added_full _ _ _ _ _ c.in_ok-used.was c.capacity-size.ensures.0 c.if-size-used.true

pub returns : goal.returns
returns c =
    added_more _ _ _ _ _ c.in_ok-used.was c.capacity-size.ensures.0 c.if-size-used.false
    (identity_parts _ _ _ c.bytes_of-name.ensures c.domain_of-domain.ensures c.overload_of-overload.ensures)
    c.bucket_of_three-head.ensures.0 c.put.ensures
