use Rattle.std.proofs.lemmas.Option.{MatchOption-at_some}
use Rattle.wire.specs.Quick.{Few}
use Rattle.wire.proofs.QuickLaws.{quick_number, quick_length, quick_fixed}
use Rattle.wire.proofs.quick.quick_value.Goals as goal

pub contents_end-requires : goal.contents_end-requires
contents_end-requires c = (MatchOption-at_some _ (Few c.args.s.now c.args.end c.args.t.next) _ c.in_ok-n.was c.few_bytes-few.ensures).inside

pub returns-then-wire-eq-LEN : goal.returns-then-wire-eq-LEN
returns-then-wire-eq-LEN c =
    let q = MatchOption-at_some _ (Few c.args.s.now c.args.end c.args.t.next) _ c.in_ok-n.was c.few_bytes-few.ensures in
    let e = c.in_ok-next.ensures in
    quick_length _ _ _ _ q c.if-wire-eq-LEN.true e.0 e.1 c.field_of.ensures

pub returns-then-wire-eq-VARINT : goal.returns-then-wire-eq-VARINT
returns-then-wire-eq-VARINT c =
    let q = MatchOption-at_some _ (Few c.args.s.now c.args.end c.args.t.next) _ c.in_ok-n-2.was c.few_bytes-few.ensures in
    quick_number _ _ _ _ (q.read _) c.if-wire-eq-VARINT.true q.inside c.field_of-then-wire-eq-VARINT.ensures

pub returns : goal.returns
returns c = let q = c.in_ok-next-2.ensures in quick_fixed _ _ _ q.fixed q.is q.inside c.field_of-2.ensures
