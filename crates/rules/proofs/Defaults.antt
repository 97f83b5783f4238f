-- Defaults, told in two ways: the judge asks whether an input has the name and no earlier initializer had it, the runner keeps the
-- inputs that still wait for their first initializer.
use mathlib.Core.Path.{◌≡◌, refl, sym, ap, ◌∙◌}
use mathlib.Core.Bool.{Bool, true, false, not, ◌&&◌, ◌||◌, and-true, and-false}
use mathlib.Core.List.{List, [], ◌∷◌}
use Rattle.varint.specs.Lists.{keep}
use Rattle.varint.specs.Bytes.{Bytes, same, member}
use Rattle.varint.proofs.Lists.{T_true, true_T}
use Rattle.varint.proofs.Bytes.{same→eq, same_refl}
use Rattle.rules.specs.Walk.{Context}
use Rattle.rules.specs.Graph.{takes_defaults, is_default}

pub same_true : (x : Bytes) → same x x ≡ true
same_true x = T_true (same x x) (same_refl x)

pub same_comm : (x y : Bytes) → same x y ≡ same y x
same_comm x y = go (same x y) (same y x) refl refl
  where
    go : (a b : Bool) → same x y ≡ a → same y x ≡ b → a ≡ b
    go true true e f = refl
    go false false e f = refl
    go true false e f = sym (same_true x) ∙ ap (λ (z : Bytes). same z x) (same→eq x y (true_T (same x y) e)) ∙ f
    go false true e f = sym e ∙ ap (λ (z : Bytes). same x z) (same→eq y x (true_T (same y x) f)) ∙ same_true x

-- y is in what is left of the list without x
pub member_without : (x y : Bytes) (l : List Bytes) → member y (keep (λ z. not (same x z)) l) ≡ (member y l && not (same y x))
unfolding keep member
member_without x y [] = refl
member_without x y (z ∷ l) = go (same x z) (same y z) refl refl (member_without x y l)
  where
    -- z is x, and if it is y too then y is x
    dropped : (b c : Bool) → same y x ≡ c → (b ≡ true → c ≡ true) → (member y l && not c) ≡ ((b || member y l) && not c)
    dropped true c e h = rw (h refl) (and-false (member y l))
    dropped false c e h = refl

    -- z is not x: if it is y then y is not x
    kept : (b c : Bool) → (b ≡ true → c ≡ false) → (b || (member y l && not c)) ≡ ((b || member y l) && not c)
    kept true c h = rw (h refl) refl
    kept false c h = refl

    go : (a b : Bool) → same x z ≡ a → same y z ≡ b → member y (keep (λ z. not (same x z)) l) ≡ (member y l && not (same y x))
        → member y (elim (not a) [ true ↦ z ∷ keep (λ z. not (same x z)) l | false ↦ keep (λ z. not (same x z)) l ]) ≡ ((b || member y l) && not (same y x))
    go true b e f ih = ih ∙ dropped b (same y x) refl (λ t.
        let p = same→eq x z (true_T (same x z) e) in
        let q = same→eq y z (true_T (same y z) (f ∙ t)) in
        ap (λ (u : Bytes). same u x) (q ∙ sym p) ∙ same_true x)
    go false b e f ih = ap (λ (u : Bool). u || member y (keep (λ z. not (same x z)) l)) f ∙ ap (λ (u : Bool). b || u) ih ∙ kept b (same y x) (λ t.
        let q = same→eq y z (true_T (same y z) (f ∙ t)) in
        ap (λ (u : Bytes). same u x) q ∙ same_comm z x ∙ e)

module _ (c : Context) (inputs : List Bytes) where
  default_more : (earlier : List Bytes) (x y : Bytes) → is_default c inputs (x ∷ earlier) y ≡ (is_default c inputs earlier y && not (same y x))
  unfolding is_default member
  default_more earlier x y = go (takes_defaults c) (member y inputs) (same y x) (member y earlier)
    where
      go : (a b s m : Bool) → (a && b && not (s || m)) ≡ (a && b && not m && not s)
      go true true true true = refl
      go true true true false = refl
      go true true false true = refl
      go true true false false = refl
      go true false s m = refl
      go false b s m = refl

  -- the two ways agree on every name
  abbrev pub Agree : (earlier waiting : List Bytes) → Type 0
  Agree earlier waiting = (y : Bytes) → member y waiting ≡ is_default c inputs earlier y

  pub agree_first : Agree [] (elim (takes_defaults c) [ true ↦ inputs | false ↦ [] ])
  unfolding is_default member
  agree_first y = go (takes_defaults c)
    where
      go : (b : Bool) → member y (elim b [ true ↦ inputs | false ↦ [] ]) ≡ (b && member y inputs && true)
      go true = sym (and-true (member y inputs))
      go false = refl

  -- after a default
  pub agree_default : (earlier waiting : List Bytes) (x : Bytes) → Agree earlier waiting → Agree (x ∷ earlier) (keep (λ z. not (same x z)) waiting)
  agree_default earlier waiting x h y = member_without x y waiting ∙ ap (λ (b : Bool). b && not (same y x)) (h y) ∙ sym (default_more earlier x y)

  -- after another name
  pub agree_new : (earlier waiting : List Bytes) (x : Bytes) → is_default c inputs earlier x ≡ false → Agree earlier waiting → Agree (x ∷ earlier) waiting
  agree_new earlier waiting x n h y = h y ∙ go (same y x) refl ∙ sym (default_more earlier x y)
    where
      go : (b : Bool) → same y x ≡ b → is_default c inputs earlier y ≡ (is_default c inputs earlier y && not (same y x))
      go true e = let p = same→eq y x (true_T (same y x) e) in let q : is_default c inputs earlier y ≡ false = ap (λ (u : Bytes). is_default c inputs earlier u) p ∙ n in rw q refl
      go false e = rw e (sym (and-true (is_default c inputs earlier y)))
