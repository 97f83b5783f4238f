use mathlib.Core.Path.{ap, ◌∙◌}
use Rattle.gate_c.specs.Exports.{outcome}
use Rattle.gate_c.proofs.onnx_gate_check_indexed.Goals as goal

pub returns : goal.returns
returns c = record {
  answer = c.from.ensures ∙ ap outcome c.check_indexed.ensures.answer;
  cleared = c.check_indexed.ensures.cleared;
  extras = c.check_indexed.ensures.extras;
}
