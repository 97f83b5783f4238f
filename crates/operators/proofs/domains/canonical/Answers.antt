use Rattle.operators.specs.Operators.{onnx}
use Rattle.operators.proofs.EntryLaws.{domain_onnx, domain_other}
use Rattle.operators.proofs.domains.canonical.Goals as goal

pub returns-then-same_bytes : goal.returns-then-same_bytes
unfolding onnx
returns-then-same_bytes c = domain_onnx _ _ c.same_bytes.ensures c.if-same_bytes.true

pub returns : goal.returns
unfolding onnx
returns c = domain_other _ _ c.same_bytes.ensures c.if-same_bytes.false
