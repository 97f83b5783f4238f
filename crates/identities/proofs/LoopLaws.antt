-- A loop over the functions of a model, with what is kept of those behind it. No function of this crate has it: whoever judges functions does.
use Rattle.std.specs.Prelude.{Option, Some}
use Prim.Native.Nat.{ℕ, ◌≤◌}
use native.Mathlib.Omega.{arith}
use mathlib.Core.Path.{◌≡◌, refl, sym, ap, subst, ◌∙◌}
use mathlib.Core.List.{List, [], ◌∷◌, ◌++◌, append_assoc}
use lib.ListN.{length}
use Rattle.varint.specs.Bytes.{Bytes}
use Rattle.varint.proofs.Passing.{passed_tells}
use Rattle.wire.specs.Wire.{field}
use Rattle.wire.specs.Message.{all_of, message, whole}
use Rattle.wire.specs.Order.{Ordered}
use Rattle.wire.specs.Outline.{Starts}
use Rattle.wire.specs.Answers.{sought_says, sought_in, Sought}
use Rattle.wire.specs.declared.Field.{Field}
use Rattle.wire.specs.declared.Cursor.{Cursor}
use Rattle.wire.proofs.Along.{all_from, Onward, found_onward}
use Rattle.wire.proofs.Fields.{all_of_ordered}
use Rattle.wire.proofs.Reading.{Fits, AtTag, field_tells}
use Rattle.schema.specs.Numbers.{Model-functions}
use Rattle.headers.specs.Earlier.{before}
use Rattle.headers.proofs.EarlierLaws.{before_split}
use Rattle.identities.specs.Functions.{functions_before}
use Rattle.identities.specs.Identified.{Identified, Added}

module _ (model : Bytes) where
  abbrev pub All : List Field
  All = all_of Model-functions (message model (whole model))

  abbrev pub From : ℕ → List Field
  From pos = all_from model Model-functions (length model) pos

  all_ordered : Ordered 0 (length model) All
  unfolding whole
  all_ordered = all_of_ordered model Model-functions (whole model)

-- the functions before one of them are those that the list has before it
pub functions_split : (model : Bytes) (pre : List Field) (f : Field) (rest : List Field) → All model ≡ pre ++ (f ∷ rest) → functions_before model f.place ≡ pre
unfolding functions_before
functions_split model pre f rest e = ap (before f.place) e ∙ before_split 0 (length model) pre f rest (subst (Ordered 0 (length model)) e (all_ordered model))

-- ---- the loop: the functions of `pre` are behind the cursor, the rest stand from it on

pub record Defining (model : Bytes) (seed version : ℕ) (table : List ℕ) (known : Option ℕ) (c : Cursor) : Type 0 where
  pub pre : List Field
  pub ends : c.end ≡ length model
  pub split : All model ≡ pre ++ From model c.at
  pub identified : Identified model seed version table known pre

pub defining_start : {model : Bytes} {seed version : ℕ} {table : List ℕ} {known : Option ℕ} {pos : ℕ} → Starts model (whole model) Model-functions pos
    → Identified model seed version table known []
    → Defining model seed version table known (record { at = pos; end = length model })
unfolding whole all_from
defining_start k i = record { pre = []; ends = refl; split = sym k.same; identified = i }

-- r is the answer of the search at the cursor
module _ {model : Bytes} {seed version : ℕ} {table : List ℕ} {known : Option ℕ} {c : Cursor} (q : Defining model seed version table known c)
    {r : Sought} (read : sought_says r ≡ sought_in model Model-functions c.end c.at) where
  module _ {f : Field} {next : Cursor} (e : r ≡ Some (f, next)) where
    went : Onward model Model-functions (length model) c.at f next
    went = found_onward model Model-functions (length model) q.ends read e

    -- the function lies in the model
    pub defining_fits : (f.start ≤ f.next) × (f.next ≤ length model)
    defining_fits =
        let fits = passed_tells (Fits f.place (length model)) (AtTag f.place) (field model (length model) f.place) f (field_tells model (length model) f.place) went.read in
        (omega arith, omega arith)

    here : All model ≡ q.pre ++ (f ∷ From model next.at)
    here = q.split ∙ ap (λ (l : List Field). q.pre ++ l) went.list

    pub defining_seen : functions_before model f.place ≡ q.pre
    defining_seen = functions_split model q.pre f (From model next.at) here

    -- what `is_defined` and `add` ask for
    pub defining_before : Identified model seed version table known (functions_before model f.place)
    defining_before = subst (Identified model seed version table known) (sym defining_seen) q.identified

    -- the function was added
    pub defining_goes : {later : List ℕ} {more : Option ℕ} → Added model seed version known f table later more → Defining model seed version later more next
    defining_goes a = record {
      pre = q.pre ++ (f ∷ []);
      ends = went.ends;
      split = here ∙ sym (append_assoc q.pre (f ∷ []) (From model next.at));
      identified = a.identified q.pre q.identified;
    }
