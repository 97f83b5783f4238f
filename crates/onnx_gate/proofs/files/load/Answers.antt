use native.Mathlib.Omega.{arith}
use Rattle.io.proofs.Counting.{prefix_len_of_le}
use Rattle.onnx_gate.proofs.ProgramLaws.{held_counts}
use Rattle.onnx_gate.proofs.files.load.Goals as goal

pub returns-in-Err : goal.returns-in-Err
returns-in-Err g c = held_counts _ _ _ c.held.ensures (prefix_len_of_le 0 c.args.buffer.now (omega arith))
