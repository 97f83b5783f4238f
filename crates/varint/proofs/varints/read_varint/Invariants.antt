use Rattle.varint.proofs.VarintLaws.{Going}
use Rattle.varint.proofs.varints.read_varint.Given as goal

abbrev pub invariant-loop-pos : goal.invariant-loop-pos
invariant-loop-pos l = Going l.s l.place l.end l.from l.stop l.pos l.value l.scale
