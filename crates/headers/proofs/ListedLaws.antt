-- Names and imports that a listing holds: what a search in it tells, and what it holds with one more.
use Prim.Native.Nat.{ℕ, ◌≤◌}
use native.Mathlib.Omega.{arith}
use mathlib.Core.Path.{◌≡◌, refl, sym, ap, subst, ◌∙◌}
use mathlib.Core.Bool.{Bool, true, false, ◌||◌}
use mathlib.Core.List.{List, [], ◌∷◌}
use lib.ListN.{length}
use Rattle.wire.specs.declared.Field.{Field}
use Rattle.varint.specs.Lists.{is_empty}
use Rattle.varint.specs.Bytes.{Bytes, same, member}
use Rattle.wire.specs.Message.{bytes_of, message}
use Rattle.operators.specs.Operators.{onnx, domain}
use Rattle.schema.specs.Numbers.{OperatorSetId-domain}
use Rattle.index.specs.Table.{names_in, seek, since, Indexed}
use Rattle.index.specs.Memory.{known, table_of}
use Rattle.index.specs.Listing.{Held, Added}
use Rattle.index.specs.declared.listings.Listing.{Listing}
use Rattle.index.proofs.ListingLaws.{held_all, listed_held, listed_as, same_empty}
use Rattle.headers.specs.Imports.{import_of}
use Rattle.headers.specs.Imported.{Imported, ImportAdded}
use Rattle.headers.specs.declared.imports.Imports.{Imports}
use Rattle.values.proofs.NameLaws.{empty_none, empty_some}

-- ---- a name that a message may lack

pub absent_empty : {y : Bytes} → [] ≡ y → is_empty y ≡ true
unfolding is_empty
absent_empty e = ap is_empty (sym e)

pub text_empty : {x y z : Bytes} → x ≡ y → y ≡ z → length x ≡ 0 → is_empty z ≡ true
text_empty {x} e f h = ap is_empty (sym (e ∙ f)) ∙ empty_none x h

pub added_as : {model : Bytes} {seed : ℕ} {l : Listing} {before after : List ℕ} {r : Listing} {x y : Bytes}
    → x ≡ y → Added model seed l x before after r
    → Added model seed l y before after r
added_as {model} {seed} {l} {before} {after} {r} e a = subst (λ (z : Bytes). Added model seed l z before after r) e a

-- ---- domains

no_bytes : (y : Bytes) → length y ≡ 0 → y ≡ []
no_bytes [] h = refl
no_bytes (b ∷ y) h = absurd (omega arith)

-- a domain with a name goes by it
domain_named : (z : Bytes) → is_empty (domain z) ≡ false → domain z ≡ z
unfolding domain is_empty
domain_named z e = go (same z onnx) e
  where
    go : (t : Bool) → is_empty {A = ℕ} (elim t [ true ↦ [] | false ↦ z ]) ≡ false → elim t [ true ↦ [] | false ↦ z ] ≡ z
    go true k = cc
    go false k = refl

same_nothing : (y : Bytes) → is_empty y ≡ false → same [] y ≡ false
unfolding is_empty same
same_nothing [] e = cc
same_nothing (b ∷ y) e = refl

-- ---- whether a domain is imported: y is the name that it goes by

module _ {model : Bytes} {seed : ℕ} {lists : List ℕ} {i : Imports} {domains : List Bytes} (d : Imported model seed lists i domains) {y : Bytes} (z : Bytes) (e : y ≡ domain z) where
  pub imported_default : length y ≡ 0 → i.default ≡ member (domain z) domains
  imported_default h = d.default ∙ ap (λ (x : Bytes). member x domains) (sym (no_bytes y h) ∙ e)

  pub imported_named : (length y ≡ 0 → ⊥) → i.listing.whole ≡ true → {b : Bool}
      → b ≡ since i.listing.base (seek y (names_in model (table_of lists) i.listing.top))
      → b ≡ member (domain z) domains
  imported_named h w found = found ∙ d.listed.finds w y (empty_some y h) ∙ ap (λ (x : Bytes). member x domains) e

pub imported_held : {model : Bytes} {seed : ℕ} {i : Imports} {domains : List Bytes} {before after : List ℕ}
    → Held model seed i.listing.top before after → Imported model seed before i domains
    → Imported model seed after i domains
imported_held h d = record { listed = listed_held h d.listed; default = d.default }

-- ---- one import more

import_named_by : (model : Bytes) (f : Field) {y z : Bytes} → z ≡ bytes_of model OperatorSetId-domain (message model f) → y ≡ domain z → y ≡ import_of model f
unfolding import_of
import_named_by model f ez ey = ey ∙ ap domain ez

module _ {model : Bytes} {seed : ℕ} (i : Imports) {before : List ℕ} (ix : Indexed model seed (table_of before) (known before))
    (h : i.listing.top ≤ known before) (f : Field) {y z : Bytes} (ez : z ≡ bytes_of model OperatorSetId-domain (message model f))
    (ey : y ≡ domain z) where
  pub import_default : length y ≡ 0 → ImportAdded model seed i f before before (record { listing = i.listing; default = true })
  unfolding same
  import_default k = record {
    held = held_all ix h;
    rises = omega arith;
    imported = λ domains later d more. record {
      listed = listed_as (λ x l. more x ∙ ap (λ (b : Bool). b || member x domains) (same_empty x (import_of model f) l none)) d.listed;
      default = sym (more [] ∙ ap (λ (x : Bytes). same [] x || member [] domains) (sym (import_named_by model f ez ey) ∙ no_bytes y k));
    };
  }
    where
      none : is_empty (import_of model f) ≡ true
      none = ap is_empty (sym (import_named_by model f ez ey)) ∙ empty_none y k

  pub import_named : (length y ≡ 0 → ⊥) → {after : List ℕ} {l : Listing}
      → Added model seed i.listing (bytes_of model OperatorSetId-domain (message model f)) before after l
      → ImportAdded model seed i f before after (record { listing = l; default = i.default })
  import_named k a = record {
    held = a.held;
    rises = a.rises;
    imported = λ domains later d more. record {
      listed = a.listed domains later d.listed (λ x l. more x ∙ ap (λ (u : Bytes). same x u || member x domains) by_name_lem);
      default = d.default ∙ sym (more [] ∙ ap (λ (b : Bool). b || member [] domains) (same_nothing (import_of model f) some));
    };
  }
    where
      some : is_empty (import_of model f) ≡ false
      some = ap is_empty (sym (import_named_by model f ez ey)) ∙ empty_some y k

      by_name_lem : import_of model f ≡ bytes_of model OperatorSetId-domain (message model f)
      by_name_lem = sym (import_named_by model f ez ey) ∙ ey ∙ domain_named z (ap is_empty (sym ey) ∙ empty_some y k) ∙ ez
