use Rattle.identities.specs.Functions.{identity_by}
use Rattle.identities.proofs.RecordLaws.{Searching}
use Rattle.identities.proofs.records.has_record.Given as goal

abbrev pub invariant-loop-i : goal.invariant-loop-i
invariant-loop-i l = Searching l.model l.seed l.version l.table l.used (identity_by l.name l.domain l.overload) l.i

abbrev pub decreases-loop-i : goal.decreases-loop-i
decreases-loop-i l = l.i
