-- One content, one encoding.
use Prim.Native.Nat.{◌-◌}
use native.Mathlib.Omega.{arith}
use mathlib.Core.Path.{◌≡◌, sym, ap, ◌∙◌}
use mathlib.Core.List.{List, [], map, flat_map}
use lib.ListN.{length}
use lib.Seq.{take_all}
use Rattle.varint.specs.Outcome.{pass}
use Rattle.varint.specs.Bytes.{Bytes, part}
use Rattle.varint.specs.Encoding.{Octets}
use Rattle.varint.proofs.ShortestLaws.{padded_exactly}
use Rattle.wire.specs.Message.{text, message, whole}
use Rattle.wire.specs.Encoding.{said, encoded}
use Rattle.wire.specs.declared.Field.{Field}
use Rattle.wire.proofs.EncodingLaws.{field_written, message_written}
use Rattle.schema.specs.declared.Kind.TheVariants.{Model}
use Rattle.schema.specs.FirstWalk.{first_walk}
use Rattle.schema.specs.Opened.{Opened, innermost}
use Rattle.schema.proofs.Opened.{opened_gapless, opened_within}
use Rattle.rules.specs.Demands.{OneEncoding}

opened_written : (model : Bytes) → Octets model → first_walk model ≡ pass tt → (path : List Field) → Opened model Model (whole model) path
    → text model (innermost (whole model) path) ≡ flat_map encoded (map (said model) (message model (innermost (whole model) path)).fields)
unfolding first_walk whole
opened_written model octets w path o =
    let within = opened_within model Model (whole model) (length model) (omega arith) (omega arith) path o in
    message_written model octets (innermost (whole model) path) within.0 within.1 (opened_gapless model Model 0 (whole model) (omega arith) w path o)

text_whole : (model : Bytes) → text model (whole model) ≡ model
unfolding text whole part
text_whole model = take_all (length model - 0) model (omega arith)

model_written : (model : Bytes) → Octets model → first_walk model ≡ pass tt → model ≡ flat_map encoded (map (said model) (message model (whole model)).fields)
unfolding innermost
model_written model octets w = sym (text_whole model) ∙ opened_written model octets w [] tt

pub one_encoding : OneEncoding
one_encoding = record {
  padded_exactly = padded_exactly;
  of_field = λ model end pos f octets h e. (field_written model octets end h pos f e).2;
  of_message = opened_written;
  of_model = λ a b u v w x same. model_written a u w ∙ ap (flat_map encoded) same ∙ sym (model_written b v x);
}
