use native.Mathlib.Omega.{arith}
use Rattle.varint.proofs.Answers.{erred}
use Rattle.index.proofs.ListingLaws.{listed_held, held_fewer, held_then}
use Rattle.signatures.specs.Signature.{signature_says, declares}
use Rattle.signatures.proofs.AnswerLaws.{told_listed, told_few}
use Rattle.signatures.proofs.SignatureLaws.{held_imports, signature_refused, signature_unimported, signature_imported}
use Rattle.signatures.proofs.signatures.read_signature.Goals as goal

pub imports-requires : goal.imports-requires
imports-requires c =
    let listed = told_listed _ _ _ _ _ c.named.ensures.listed c.in_ok-attributes.was in
    record { indexed = listed.index; top_bound = omega arith; model_len_bound = c.requires.model_len_bound }

pub returns-in_err-attributes : goal.returns-in_err-attributes
unfolding signature_says declares
returns-in_err-attributes c =
    rw (erred c.from_residual.ensures.1) (record {
      answer = signature_refused _ _ _ _ c.named.ensures.answer c.in_err-attributes.was;
      declared = tt;
      held = c.named.ensures.held;
    })

pub returns-in_err-imports : goal.returns-in_err-imports
unfolding signature_says declares
returns-in_err-imports c =
    rw (erred c.from_residual-in_err-imports.ensures.1) (record {
      answer = signature_unimported _ _ _ _ c.named.ensures.answer c.in_ok-attributes.was c.imports.ensures.answer
          c.in_err-imports.was;
      declared = tt;
      held = held_then c.named.ensures.held (held_fewer (omega arith) c.imports.ensures.held);
    })

pub returns : goal.returns
unfolding signature_says declares
returns c =
    let imported = held_imports _ _ _ _ _ _ c.imports.ensures.imported c.in_ok-imports.was in
    record {
      answer = signature_imported _ _ _ _ c.named.ensures.answer c.in_ok-attributes.was c.imports.ensures.answer
          c.in_ok-imports.was;
      declared = (
        listed_held c.imports.ensures.held (told_listed _ _ _ _ _ c.named.ensures.listed c.in_ok-attributes.was),
        imported.0,
        imported.1,
        told_few _ _ _ _ _ c.named.ensures.listed c.in_ok-attributes.was,
      );
      held = held_then c.named.ensures.held (held_fewer (omega arith) c.imports.ensures.held);
    }
