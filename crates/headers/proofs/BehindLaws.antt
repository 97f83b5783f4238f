-- A loop over the fields of a list that lists their names, after those of `front`: `pre` is what it has behind it.
use Rattle.std.specs.Prelude.{None, Some}
use Prim.Native.Nat.{ℕ}
use mathlib.Core.Path.{◌≡◌, refl, sym, ap, subst, ◌∙◌}
use mathlib.Core.Bool.{Bool, ◌||◌}
use mathlib.Core.List.{List, [], ◌∷◌, ◌++◌, map, append_assoc, append-nil}
use Rattle.wire.specs.declared.Field.{Field}
use Rattle.wire.specs.declared.Cursor.{Cursor}
use Rattle.varint.specs.Bytes.{Bytes, same, member}
use Rattle.varint.proofs.Lists.{or_swap}
use Rattle.wire.specs.Order.{Ordered}
use Rattle.wire.specs.Message.{all_of, message}
use Rattle.wire.specs.Answers.{contents_of, sought_says, sought_in, Sought}
use Rattle.varint.proofs.Answers.{says}
use Rattle.wire.proofs.Fields.{all_of_ordered}
use Rattle.wire.proofs.Along.{all_from, Onward, all_none, all_some}
use Rattle.index.specs.Listing.{Listed, Held, Added}
use Rattle.index.specs.declared.listings.Listing.{Listing}
use Rattle.index.proofs.ListingLaws.{listed_held}
use Rattle.headers.specs.Earlier.{before}
use Rattle.headers.proofs.EarlierLaws.{before_split, names_last, member_append}

pub record Behind (model : Bytes) (seed number : ℕ) (front : List Bytes) (named : Field → Bytes) (m : Field) (lists : List ℕ) (l : Listing) (c : Cursor) : Type 0 where
  pub pre : List Field
  pub ends : c.end ≡ m.next
  pub split : all_of number (message model m) ≡ pre ++ all_from model number m.next c.at
  pub listed : Listed model seed lists l (front ++ map named pre)

pub behind_start : {model : Bytes} {seed : ℕ} (number : ℕ) {front : List Bytes} (named : Field → Bytes) (m : Field) {lists : List ℕ} {l : Listing}
    → Listed model seed lists l front → {c : Cursor} → c ≡ contents_of m
    → Behind model seed number front named m lists l c
unfolding contents_of all_of message all_from
behind_start number {front} named m d e = rw e (record { pre = []; ends = refl; split = refl; listed = rw (append-nil front) d })

module _ {model : Bytes} {seed number : ℕ} {front : List Bytes} {named : Field → Bytes} {m : Field} {lists : List ℕ} {l : Listing} {c : Cursor}
    (q : Behind model seed number front named m lists l c) where
  pub behind_held : {later : List ℕ} → Held model seed l.top lists later → Behind model seed number front named m later l c
  behind_held h = record { pre = q.pre; ends = q.ends; split = q.split; listed = listed_held h q.listed }

  module _ {a : Sought} (read : sought_says a ≡ sought_in model number c.end c.at) where
    -- all of them
    pub behind_done : a ≡ None → Listed model seed lists l (front ++ map named (all_of number (message model m)))
    unfolding sought_says
    behind_done e =
        let none = all_none model number m.next c.at (says sought_says (rw q.ends at read) e) in
        subst (λ (fs : List Field). Listed model seed lists l (front ++ map named fs))
        (sym (q.split ∙ ap (λ (fs : List Field). q.pre ++ fs) none ∙ append-nil q.pre)) q.listed

    module _ {f : Field} {next : Cursor} (e : a ≡ Some (f, next)) where
      gone : Onward model number m.next c.at f next
      unfolding sought_says
      gone = all_some model number m.next c.at (says sought_says (rw q.ends at read) e)

      here : all_of number (message model m) ≡ q.pre ++ (f ∷ all_from model number m.next next.at)
      here = q.split ∙ ap (λ (x : List Field). q.pre ++ x) gone.list

      -- those that stand before this one
      pub behind_found : Listed model seed lists l (front ++ map named (before f.place (all_of number (message model m))))
      behind_found =
          subst (λ (fs : List Field). Listed model seed lists l (front ++ map named fs))
          (sym (ap (before f.place) here
          ∙ before_split m.start m.next q.pre f (all_from model number m.next next.at)
          (subst (Ordered m.start m.next) here (all_of_ordered model number m)))) q.listed

      pub behind_next : {later : List ℕ} {r : Listing} → Added model seed l (named f) lists later r → Behind model seed number front named m later r next
      behind_next x = record {
        pre = q.pre ++ (f ∷ []);
        ends = gone.ends;
        split = here ∙ sym (append_assoc q.pre (f ∷ []) (all_from model number m.next next.at));
        listed = x.listed (front ++ map named q.pre) (front ++ map named (q.pre ++ (f ∷ []))) q.listed (λ y k. behind_last y);
      }
        where
          behind_last : (y : Bytes) → member y (front ++ map named (q.pre ++ (f ∷ []))) ≡ (same y (named f) || member y (front ++ map named q.pre))
          behind_last y =
              member_append y front (map named (q.pre ++ (f ∷ [])))
              ∙ ap (λ (b : Bool). member y front || b) (names_last named y q.pre f)
              ∙ or_swap (member y front) (same y (named f)) (member y (map named q.pre))
              ∙ ap (λ (b : Bool). same y (named f) || b) (sym (member_append y front (map named q.pre)))
