use native.Mathlib.Omega.{arith}
use Rattle.gate_c.proofs.ExportLaws.{at_none, at_part}
use Rattle.gate_c.proofs.onnx_gate_show_name.Goals as goal

pub returns-then-end-start : goal.returns-then-end-start
returns-then-end-start c = at_none _ _ _ (let h = c.if-end-start.true in omega arith)

pub returns-then-end-start-2 : goal.returns-then-end-start-2
returns-then-end-start-2 c = at_none _ _ _ (let h = c.if-end-start.false in let k = c.if-end-start-2.true in omega arith)

pub returns : goal.returns
returns c = at_part _ _ _ (let h = c.if-end-start.false in let k = c.if-end-start-2.false in omega arith)
