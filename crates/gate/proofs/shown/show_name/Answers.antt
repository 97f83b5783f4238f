use native.Mathlib.Omega.{arith}
use Rattle.gate.proofs.ShownLaws.{shown_none, shown_part}
use Rattle.gate.proofs.shown.show_name.Goals as goal

pub returns-then-end-start : goal.returns-then-end-start
returns-then-end-start c = shown_none _ _ _ c.between.ensures (let h = c.if-end-start.true in omega arith)

pub returns-then-end-start-2 : goal.returns-then-end-start-2
returns-then-end-start-2 c =
    shown_none _ _ _ c.between-then-end-start-2.ensures
    (let h = c.if-end-start.false in let k = c.if-end-start-2.true in omega arith)

pub returns : goal.returns
returns c = shown_part _ _ _ c.between-2.ensures (let h = c.if-end-start.false in let k = c.if-end-start-2.false in omega arith)
