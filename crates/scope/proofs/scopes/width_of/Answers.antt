use native.Mathlib.Omega.{arith}
use mathlib.Core.Path.{sym}
use Rattle.varint.proofs.EncodingLaws.{width_one, width_above}
use Rattle.scope.proofs.scopes.width_of.Goals as goal

pub returns-then-n-lt128 : goal.returns-then-n-lt128
returns-then-n-lt128 c = (sym (width_one _ c.if-n-lt128.true), omega arith)

pub returns-then-n-lt16384 : goal.returns-then-n-lt16384
returns-then-n-lt16384 c = (sym (width_above 0 _ (omega arith) c.if-n-lt128.false c.if-n-lt16384.true), omega arith)

pub returns-then-n-lt2097152 : goal.returns-then-n-lt2097152
returns-then-n-lt2097152 c = (sym (width_above 1 _ (omega arith) c.if-n-lt16384.false c.if-n-lt2097152.true), omega arith)

pub returns-then-n-lt268435456 : goal.returns-then-n-lt268435456
returns-then-n-lt268435456 c = (sym (width_above 2 _ (omega arith) c.if-n-lt2097152.false c.if-n-lt268435456.true), omega arith)

pub returns : goal.returns
returns c = (sym (width_above 3 _ (omega arith) c.if-n-lt268435456.false (omega (arith, c.requires))), omega arith)
