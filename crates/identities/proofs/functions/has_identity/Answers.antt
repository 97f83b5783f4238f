use Rattle.identities.proofs.FunctionLaws.{other_name, other_domain, same_overload}
use Rattle.std.proofs.Common.{rules}
use Rattle.identities.proofs.functions.has_identity.Goals as goal

pub returns-then-not-same_bytes : goal.returns-then-not-same_bytes
returns-then-not-same_bytes c = other_name _ _ _ _ _ _ c.bytes_of.ensures c.same_bytes.ensures c.if-not-same_bytes.true

pub returns-then-not-same_bytes-2 : goal.returns-then-not-same_bytes-2
returns-then-not-same_bytes-2 c =
    other_domain _ _ _ _ _ _ c.bytes_of.ensures c.same_bytes.ensures c.if-not-same_bytes.false
    (search rules) c.same_bytes-2.ensures c.if-not-same_bytes-2.true

pub returns : goal.returns
returns c =
    same_overload _ _ _ _ _ _ c.bytes_of.ensures c.same_bytes.ensures c.if-not-same_bytes.false
    (search rules) c.same_bytes-2.ensures c.if-not-same_bytes-2.false c.overload_of.ensures c.same_bytes-3.ensures
