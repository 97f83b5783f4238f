-- Two walks along one list: one keeps the names that stood earlier, the other reads them again. They answer alike, and the names that the first has kept in the
-- end are those of the list.
use mathlib.Core.Path.{◌≡◌, refl, sym, ap, ◌∙◌}
use mathlib.Core.Bool.{Bool, ◌||◌}
use mathlib.Core.List.{List, [], ◌∷◌, ◌++◌, map, append_assoc, append-nil}
use Rattle.varint.specs.Outcome.{pass, fail, ◌>>=◌, ◌>>◌, each, Judged, Rule}
use Rattle.wire.specs.declared.Field.{Field}
use Rattle.varint.specs.Bytes.{Bytes, same, member}
use Rattle.varint.proofs.Lists.{or_swap}
use Rattle.rules.specs.Walk.{Walk, Along}
use Rattle.rules.proofs.Matching.{bind_assoc}
use Rattle.headers.proofs.EarlierLaws.{member_append, names_last}

-- ---- names that were kept, the newest first, and names that are read again

abbrev pub Agree : (kept again : List Bytes) → Type 0
Agree kept again = (x : Bytes) → member x kept ≡ member x again

-- the walk with the names that it has kept
abbrev pub keeping : List Bytes → Walk → Judged Along
keeping kept t = pass (record { walk = t; earlier = kept })

module _ (named : Field → Bytes) where
  -- the names kept, with those of so many fields more
  unfoldable pub push : List Field → List Bytes → List Bytes
  push [] kept = kept
  push (a ∷ more) kept = push more (named a ∷ kept)

  -- `front` is what was there before the list, `pre` what is behind in it
  module _ (front : List Bytes) where
    agree_next : (pre : List Field) (a : Field) (kept : List Bytes) → Agree kept (front ++ map named pre)
        → Agree (named a ∷ kept) (front ++ map named (pre ++ (a ∷ [])))
    unfolding member
    agree_next pre a kept h x =
        ap (λ (b : Bool). same x (named a) || b) (h x ∙ member_append x front (map named pre))
        ∙ or_swap (same x (named a)) (member x front) (member x (map named pre))
        ∙ ap (λ (b : Bool). member x front || b) (sym (names_last named x pre a))
        ∙ sym (member_append x front (map named (pre ++ (a ∷ []))))

    agree_on : (pre rest : List Field) (kept : List Bytes) → Agree kept (front ++ map named pre) → Agree (push rest kept) (front ++ map named (pre ++ rest))
    unfolding push
    agree_on pre [] kept h x = h x ∙ ap (λ (l : List Field). member x (front ++ map named l)) (sym (append-nil pre))
    agree_on pre (a ∷ rest) kept h x =
        agree_on (pre ++ (a ∷ [])) rest (named a ∷ kept) (agree_next pre a kept h) x
        ∙ ap (λ (l : List Field). member x (front ++ map named l)) (append_assoc pre (a ∷ []) rest)

    pub push_agrees : (l : List Field) (kept : List Bytes) → Agree kept front → Agree (push l kept) (front ++ map named l)
    push_agrees l kept h = agree_on [] l kept (λ x. h x ∙ ap (member x) (sym (append-nil front)))

    -- a step that keeps the name does what one that reads it again does, wherever the walks have come to in the list `l`
    module _ (step : Along → Field → Judged Along) (move : Walk → Field → Judged Walk) (l : List Field)
        (one : (pre rest : List Field) (a : Field) → l ≡ pre ++ (a ∷ rest) → (v : Along) → Agree v.earlier (front ++ map named pre)
        → step v a ≡ (move v.walk a >>= keeping (named a ∷ v.earlier))) where
      each_on : (pre rest : List Field) → l ≡ pre ++ rest → (v : Along) → Agree v.earlier (front ++ map named pre)
          → each step v rest ≡ (each move v.walk rest >>= keeping (push rest v.earlier))
      unfolding each push ◌>>=◌
      each_on pre [] e v h = refl
      each_on pre (a ∷ rest) e v h =
          let kept = named a ∷ v.earlier in
          ap (λ (o : Judged Along). o >>= λ u. each step u rest) (one pre rest a e v h)
          ∙ bind_assoc (move v.walk a) (keeping kept) (λ u. each step u rest)
          ∙ ap (λ (k : Walk → Judged Along). move v.walk a >>= k) (λ i t. each_on (pre ++ (a ∷ [])) rest
          (e ∙ sym (append_assoc pre (a ∷ []) rest)) (record { walk = t; earlier = kept }) (agree_next pre a v.earlier h) i)
          ∙ sym (bind_assoc (move v.walk a) (λ t. each move t rest) (keeping (push rest kept)))

      pub each_keeps : (v : Along) → Agree v.earlier front → each step v l ≡ (each move v.walk l >>= keeping (push l v.earlier))
      each_keeps v h = each_on [] l refl v (λ x. h x ∙ ap (member x) (sym (append-nil front)))

-- ---- rules before what comes after them

pub seq_assoc : {A : Type 0} (r s : Rule) (o : Judged A) → (r >> s >> o) ≡ (r >> (s >> o))
unfolding ◌>>◌
seq_assoc (pass u) s o = refl
seq_assoc (fail x) s o = refl

pub seq_one : {A B : Type 0} (r : Rule) (a : A) (k : A → Judged B) → (r >> pass a >>= k) ≡ (r >> k a)
unfolding ◌>>=◌ ◌>>◌
seq_one (pass u) a k = refl
seq_one (fail x) a k = refl
