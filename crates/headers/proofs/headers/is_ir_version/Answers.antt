use Rattle.headers.proofs.HeaderLaws.{version_below, version_rest}
use Rattle.headers.proofs.headers.is_ir_version.Goals as goal

pub returns-then-version-lt3 : goal.returns-then-version-lt3
returns-then-version-lt3 c = version_below _ c.if-version-lt3.true

pub returns : goal.returns
returns c = version_rest _ c.if-version-lt3.false
