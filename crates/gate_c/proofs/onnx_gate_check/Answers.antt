use mathlib.Core.Path.{ap, ◌∙◌}
use Rattle.gate_c.specs.Exports.{outcome}
use Rattle.gate_c.proofs.onnx_gate_check.Goals as goal

pub returns : goal.returns
returns c = record { answer = c.from.ensures ∙ ap outcome c.check.ensures.answer; cleared = c.check.ensures.cleared }
