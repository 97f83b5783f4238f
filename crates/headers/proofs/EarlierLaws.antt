-- The search among names that stood earlier, field by field.
use Rattle.std.specs.Prelude.{None, Some, MatchBool}
use Prim.Native.Nat.{ℕ, ◌-◌, ◌≤◌, ◌<◌}
use native.Mathlib.Omega.{arith}
use mathlib.Core.Path.{◌≡◌, refl, sym, ap, subst, ◌∙◌}
use mathlib.Core.Bool.{Bool, true, false, ◌||◌}
use mathlib.Core.List.{List, [], ◌∷◌, ◌++◌, map}
use borrow.Author.Tests.{le-leb, lt-leb}
use Rattle.wire.specs.declared.Field.{Field}
use Rattle.wire.specs.declared.Cursor.{Cursor}
use Rattle.varint.specs.Bytes.{Bytes, same, member}
use Rattle.wire.specs.Order.{Ordered}
use Rattle.wire.specs.Message.{all_of, message}
use Rattle.wire.specs.Answers.{contents_of, sought_says, sought_in, Sought}
use Rattle.varint.proofs.Answers.{says}
use Rattle.varint.proofs.Lists.{or_swap}
use Rattle.wire.proofs.Along.{all_from, Onward, all_none, all_some}
use Rattle.headers.specs.Earlier.{before, before_from, AnySays}

-- ---- fields before a place

module _ (place : ℕ) (f : Field) (more : List Field) where
  pub before_past : place ≤ f.place → before place (f ∷ more) ≡ []
  unfolding before
  before_past h = ap (λ (b : Bool). elim b [ true ↦ [] | false ↦ f ∷ before place more ]) (le-leb place f.place h)

  pub before_here : f.place < place → before place (f ∷ more) ≡ f ∷ before place more
  unfolding before
  before_here h = ap (λ (b : Bool). elim b [ true ↦ [] | false ↦ f ∷ before place more ]) (lt-leb place f.place h)

ordered_below : (lo hi : ℕ) (pre : List Field) (f : Field) (rest : List Field) → Ordered lo hi (pre ++ (f ∷ rest)) → lo ≤ f.place
ordered_below lo hi [] f rest o = o.0
ordered_below lo hi (g ∷ pre) f rest o = let k = ordered_below g.next hi pre f rest o.4 in omega arith

pub before_split : (lo hi : ℕ) (pre : List Field) (f : Field) (rest : List Field) → Ordered lo hi (pre ++ (f ∷ rest)) → before f.place (pre ++ (f ∷ rest)) ≡ pre
before_split lo hi [] f rest o = before_past f.place f rest (omega arith)
before_split lo hi (g ∷ pre) f rest o =
    let k = ordered_below g.next hi pre f rest o.4 in
    before_here f.place g (pre ++ (f ∷ rest)) (omega arith) ∙ ap (λ (l : List Field). g ∷ l) (before_split g.next hi pre f rest o.4)

pub before_all : (lo hi : ℕ) (l : List Field) → Ordered lo hi l → before hi l ≡ l
unfolding before
before_all lo hi [] o = refl
before_all lo hi (f ∷ l) o = before_here hi f l (omega arith) ∙ ap (λ (m : List Field). f ∷ m) (before_all f.next hi l o.4)

-- ---- the names in them

pub member_append : (x : Bytes) (a b : List Bytes) → member x (a ++ b) ≡ (member x a || member x b)
unfolding member
member_append x [] b = refl
member_append x (y ∷ a) b = ap (λ (t : Bool). same x y || t) (member_append x a b) ∙ sym (or_assoc (same x y) (member x a) (member x b))
  where
    or_assoc : (p q r : Bool) → ((p || q) || r) ≡ (p || (q || r))
    or_assoc true q r = refl
    or_assoc false q r = refl

pub names_last : (named : Field → Bytes) (x : Bytes) (pre : List Field) (f : Field) → member x (map named (pre ++ (f ∷ []))) ≡ (same x (named f) || member x (map named pre))
unfolding member
names_last named x [] f = refl
names_last named x (g ∷ pre) f =
    ap (λ (b : Bool). same x (named g) || b) (names_last named x pre f)
    ∙ or_swap (same x (named g)) (same x (named f)) (member x (map named pre))

-- nothing stands before the first place
pub before_none : (lo hi : ℕ) (l : List Field) → Ordered lo hi l → before lo l ≡ []
unfolding before
before_none lo hi [] o = refl
before_none lo hi (f ∷ l) o = before_past lo f l o.0

-- ---- a search among them: `Says f b` is what the test says of `f`, and the whole search answers `o`

pub record Searching (model : Bytes) (number end place : ℕ) (Says : Field → Bool → Type 0) (Whole : Bool → Type 0) (c : Cursor) : Type 0 where
  pub ends : c.end ≡ end
  pub rest : (r : Bool) → AnySays Says (before place (all_from model number end c.at)) r → Whole r

pub search_start : (model : Bytes) (number place : ℕ) (Says : Field → Bool → Type 0) (c : Cursor)
    → Searching model number c.end place Says (AnySays Says (before_from model number place c)) c
unfolding all_from before_from
search_start model number place Says c = record { ends = refl; rest = λ r k. k }

module _ {model : Bytes} {number end place : ℕ} {Says : Field → Bool → Type 0} {Whole : Bool → Type 0} {c : Cursor}
    (q : Searching model number end place Says Whole c) {r : Sought} (read : sought_says r ≡ sought_in model number c.end c.at) where
  pub search_done : r ≡ None → Whole false
  unfolding sought_says before
  search_done e = q.rest false (rw (all_none model number end c.at (says sought_says (rw q.ends at read) e)) refl)

  module _ {f : Field} {next : Cursor} (e : r ≡ Some (f, next)) where
    went : Onward model number end c.at f next
    unfolding sought_says
    went = all_some model number end c.at (says sought_says (rw q.ends at read) e)

    pub search_falls : end - next.at < end - c.at
    search_falls = let far = went.onward in let near = went.inside in omega arith

    parted : {l : List Field} → before place (f ∷ all_from model number end next.at) ≡ l → {b : Bool} → AnySays Says l b → Whole b
    parted k {b} d = q.rest b (subst (λ (m : List Field). AnySays Says m b) (sym (ap (before place) went.list ∙ k)) d)

    pub search_past : place ≤ f.place → Whole false
    search_past h = parted (before_past place f _ h) refl

    module _ (h : f.place < place) {b : Bool} (i : Says f b) where
      pub search_here : b ≡ true → Whole true
      search_here k = parted (before_here place f _ h) (true, subst (Says f) k i, refl)

      pub search_next : b ≡ false → Searching model number end place Says Whole next
      search_next k = record { ends = went.ends; rest = λ r d. parted (before_here place f _ h) (false, subst (Says f) k i, d) }

-- a test that says `test`: the answer is that of a list function `Found` which tells the same
pub any_told : {Says : Field → Bool → Type 0} (test : Field → Bool) (Found : List Field → Bool) → Found [] ≡ false
    → ((f : Field) (l : List Field) → Found (f ∷ l) ≡ (test f || Found l)) → ((f : Field) (b : Bool) → Says f b → b ≡ test f)
    → (l : List Field) {r : Bool} → AnySays Says l r → r ≡ Found l
any_told test Found none more h [] d = d ∙ sym none
any_told {Says} test Found none more h (f ∷ l) {r} d = go d.0 (h f d.0 d.1) (any_told test Found none more h l) d.2 ∙ sym (more f l)
  where
    go : (b : Bool) → b ≡ test f → (AnySays Says l r → r ≡ Found l) → MatchBool b (r ≡ true) (AnySays Says l r) → r ≡ (test f || Found l)
    go true e later k = k ∙ ap (λ (t : Bool). t || Found l) e
    go false e later k = later k ∙ ap (λ (t : Bool). t || Found l) e

-- one that looks for a name, among the fields of a message
pub any_named : {Says : Field → Bool → Type 0} (named : Field → Bytes) (x : Bytes) → ((f : Field) (b : Bool) → Says f b → b ≡ same x (named f))
    → (model : Bytes) (number place : ℕ) (m : Field) {c : Cursor} → c ≡ contents_of m
    → {r : Bool} → AnySays Says (before_from model number place c) r
    → r ≡ member x (map named (before place (all_of number (message model m))))
unfolding before_from all_of message contents_of member
any_named {Says} named x h model number place m {c} e {r} d =
    any_told (λ f. same x (named f)) (λ l. member x (map named l)) refl (λ f l. refl) h (before place (all_of number (message model m)))
    (subst (λ (y : Cursor). AnySays Says (before_from model number place y) r) e d)
