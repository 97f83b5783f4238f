-- A list of names on a memory: a name more, what others do above it, and a list that is begun.
use Rattle.std.specs.Prelude.{Some}
use Prim.Native.Nat.{ℕ, suc, ◌+◌, ◌≤◌, ◌<◌}
use native.Mathlib.Omega.{arith}
use mathlib.Core.Path.{◌≡◌, refl, sym, ap, subst, ◌∙◌}
use mathlib.Core.Bool.{Bool, true, false, ◌||◌}
use mathlib.Core.List.{List, [], ◌∷◌}
use lib.ListN.{length, length-drop}
use lib.Dec.{T, eqb}
use borrow.Author.Tests.{le-leb, eq-eqb, ne_eqb}
use Rattle.varint.specs.Lists.{is_empty}
use Rattle.varint.specs.Bytes.{Bytes, same, member}
use Rattle.index.specs.Table.{name_of, names_in, seek, since, Indexed, Stays}
use Rattle.index.specs.Memory.{known, table_of, Remembers, Remembered}
use Rattle.index.specs.Listing.{Listed, Held, Added}
use Rattle.index.specs.declared.listings.Listing.{Listing}
use Rattle.index.proofs.TableLaws.{names_length, names_same}
use Rattle.index.proofs.UseLaws.{since_none, stays_fewer}

-- ---- what a name at a place does to the names

put : (was : ℕ → Bytes) → (place : ℕ) → Bytes → ℕ → Bytes
put was place y i = elim (eqb i place) [ true ↦ y | false ↦ was i ]

put_here : (was : ℕ → Bytes) (place : ℕ) (y : Bytes) → put was place y place ≡ y
unfolding put
put_here was place y = ap (λ (b : Bool). elim b [ true ↦ y | false ↦ was place ]) (eq-eqb place place refl)

put_below : (was : ℕ → Bytes) (place : ℕ) (y : Bytes) (i : ℕ) → i < place → put was place y i ≡ was i
unfolding put
put_below was place y i h = ap (λ (b : Bool). elim b [ true ↦ y | false ↦ was i ]) (ne_eqb i place (λ e. omega arith))

module _ {model : Bytes} {seed top : ℕ} {y : Bytes} {before after : List ℕ} (ix : Indexed model seed (table_of before) (known before))
    (r : Remembered model seed top y before after) where
  remembers : Remembers model seed (put (name_of model (table_of before)) top y) after
  remembers =
      r.memory (name_of model (table_of before)) (put (name_of model (table_of before)) top y) (record { index = ix; same = λ i h. refl })
      (λ i h. put_below _ top y i h) (put_here _ top y)

  older : top ≤ known after → names_in model (table_of after) top ≡ names_in model (table_of before) top
  older h = names_same model (table_of after) (table_of before) top (λ i l. remembers.same i (omega arith) ∙ put_below _ top y i l)

  newer : top < known after → names_in model (table_of after) (suc top) ≡ y ∷ names_in model (table_of before) top
  unfolding names_in
  newer h = ap (λ (x : Bytes). x ∷ names_in model (table_of after) top) (remembers.same top h ∙ put_here _ top y) ∙ ap (λ (l : List Bytes). y ∷ l) (older (omega arith))

  pub held_remembered : top ≤ known before → Held model seed top before after
  held_remembered h =
      let k = r.kept top (omega arith) h in
      record { size = r.size; index = remembers.index; fits = k; names = older k }

-- ---- a search, with one name more

pub since_more : (x y : Bytes) (older : List Bytes) (base : ℕ) → base ≤ length older → since base (seek x (y ∷ older)) ≡ (same x y || since base (seek x older))
unfolding seek since
since_more x y older base h = go (same x y)
  where
    go : (t : Bool) → since base (elim t [ true ↦ Some (length older) | false ↦ seek x older ]) ≡ (t || since base (seek x older))
    go true = le-leb base (length older) h
    go false = refl

-- ---- what is held

table_size : (a b : List ℕ) → length b ≡ length a → length (table_of b) ≡ length (table_of a)
unfolding table_of
table_size a b e = omega (arith, length-drop 1 a, length-drop 1 b)

module _ {model : Bytes} {seed : ℕ} where
  pub held_all : {top : ℕ} {cells : List ℕ} → Indexed model seed (table_of cells) (known cells) → top ≤ known cells → Held model seed top cells cells
  held_all ix h = record { size = refl; index = ix; fits = h; names = refl }

  pub held_fewer : {n top : ℕ} {before after : List ℕ} → n ≤ top → Held model seed top before after → Held model seed n before after
  held_fewer {n} {top} {before} {after} h k =
      let s : Stays model n (table_of before) (table_of after) = stays_fewer h (record { size = table_size before after k.size; names = k.names }) in
      record { size = k.size; index = k.index; fits = (let f = k.fits in omega arith); names = s.names }

  pub held_then : {top : ℕ} {a b c : List ℕ} → Held model seed top a b → Held model seed top b c → Held model seed top a c
  held_then h k = record { size = k.size ∙ h.size; index = k.index; fits = k.fits; names = k.names ∙ h.names }

  -- ---- what is listed

  -- where nothing is listed yet
  pub listed_begin : {top : ℕ} {cells : List ℕ} → Indexed model seed (table_of cells) (known cells) → top ≤ known cells → (w : Bool)
      → Listed model seed cells (record { base = top; top = top; whole = w }) []
  unfolding member
  listed_begin {top} {cells} ix h w = record {
    index = ix;
    rises = omega arith;
    fits = h;
    finds = λ t x k. since_none x (names_in model (table_of cells) top) top (omega (arith, names_length model (table_of cells) top));
  }

  pub listed_held : {l : Listing} {names : List Bytes} {before after : List ℕ}
      → Held model seed l.top before after → Listed model seed before l names
      → Listed model seed after l names
  listed_held {l} h d = record {
    index = h.index;
    rises = d.rises;
    fits = h.fits;
    finds = λ w x k. ap (λ (m : List Bytes). since l.base (seek x m)) h.names ∙ d.finds w x k;
  }

  pub listed_as : {l : Listing} {names later : List Bytes} {cells : List ℕ}
      → ((x : Bytes) → is_empty x ≡ false → member x later ≡ member x names) → Listed model seed cells l names
      → Listed model seed cells l later
  listed_as e d = record { index = d.index; rises = d.rises; fits = d.fits; finds = λ w x k. d.finds w x k ∙ sym (e x k) }

-- ---- a name more: r is the listing then

pub same_empty : (x y : Bytes) → is_empty x ≡ false → is_empty y ≡ true → same x y ≡ false
unfolding is_empty same
same_empty [] y i j = cc
same_empty (a ∷ x) [] i j = refl
same_empty (a ∷ x) (b ∷ y) i j = cc

module _ {model : Bytes} {seed : ℕ} {l : Listing} {y : Bytes} {before : List ℕ} (ix : Indexed model seed (table_of before) (known before)) (h : l.top ≤ known before) where
  pub added_none : l.whole ≡ false → Added model seed l y before before l
  added_none e = record {
    held = held_all ix h;
    rises = omega arith;
    listed = λ names later d w. record { index = ix; rises = d.rises; fits = h; finds = λ t. absurd (whole_not t) };
  }
    where
      whole_not : l.whole ≡ true → ⊥
      whole_not t = subst T (sym t ∙ e) tt

  -- the empty name is not listed
  pub added_empty : is_empty y ≡ true → Added model seed l y before before l
  added_empty e = record {
    held = held_all ix h;
    rises = omega arith;
    listed = λ names later d w. listed_as (λ x k. w x k ∙ ap (λ (b : Bool). b || member x names) (same_empty x y k e)) d;
  }

  module _ {after : List ℕ} (r : Remembered model seed l.top y before after) where
    pub added_full : Added model seed l y before after (record { base = l.base; top = l.top; whole = false })
    added_full = record {
      held = held_remembered ix r h;
      rises = omega arith;
      listed = λ names later d w. record { index = (held_remembered ix r h).index; rises = d.rises; fits = (held_remembered ix r h).fits; finds = λ t. absurd (not_whole t) };
    }
      where
        not_whole : false ≡ true → ⊥
        not_whole t = subst T (sym t) tt

    pub added_more : l.top < known after → l.whole ≡ true → Added model seed l y before after (record { base = l.base; top = l.top + 1; whole = true })
    added_more k w = record {
      held = held_remembered ix r h;
      rises = omega arith;
      listed = λ names later d more. record {
        index = (held_remembered ix r h).index;
        rises = (let up = d.rises in omega arith);
        fits = omega arith;
        finds = λ t x e. let one : l.top + 1 ≡ suc l.top = omega arith in
            ap (λ (n : ℕ). since l.base (seek x (names_in model (table_of after) n))) one
            ∙ ap (λ (m : List Bytes). since l.base (seek x m)) (newer ix r k)
            ∙ since_more x y (names_in model (table_of before) l.top) l.base (let up = d.rises in omega (arith, names_length model (table_of before) l.top))
            ∙ ap (λ (b : Bool). same x y || b) (d.finds w x e)
            ∙ sym (more x e);
      };
    }
