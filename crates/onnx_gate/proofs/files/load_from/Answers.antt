use native.Mathlib.Omega.{arith}
use Rattle.io.proofs.Counting.{prefix_len_of_le}
use Rattle.onnx_gate.proofs.ProgramLaws.{held_counts}
use Rattle.onnx_gate.proofs.files.load_from.Goals as goal

pub returns-in-Ok : goal.returns-in-Ok
returns-in-Ok g c = held_counts _ _ _ c.held.ensures c.in-Ok.ensures

pub returns-in-Err : goal.returns-in-Err
returns-in-Err g c = held_counts _ _ _ c.held-in-Err.ensures (prefix_len_of_le 0 c.read_full.new.buffer (omega arith))
