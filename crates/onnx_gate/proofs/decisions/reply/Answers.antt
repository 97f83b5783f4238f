use mathlib.Core.Path.{ap, ◌∙◌}
use Rattle.gate.specs.Meaning.{meaning}
use Rattle.report.specs.Line.{line_of}
use Rattle.onnx_gate.proofs.ProgramLaws.{printed}
use Rattle.onnx_gate.proofs.decisions.reply.Goals as goal

pub returns : goal.returns
returns c =
    let text = line_of (meaning c.decide.result) in
    record {
      counts = c.line.ensures.counts;
      text = printed text c.args.out.now c.line.ensures.size c.line.ensures.text ∙ ap line_of c.decide.ensures;
    }
