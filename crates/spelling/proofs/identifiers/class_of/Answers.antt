use Rattle.spelling.specs.ByteClass.{byte_class}
use Rattle.spelling.proofs.IdentifierLaws.{entry}
use borrow.Author.Rules.{rules}
use Rattle.spelling.proofs.identifiers.class_of.Goals as goal

pub returns : goal.returns
returns c = entry byte_class 256 c.args.classes.now c.requires _ (search rules)
