-- Names in the order of the code's tests.
use Rattle.std.specs.Prelude.{Err, Ok}
use Rattle.varint.specs.Answers.{Answer}
use Prim.Native.Nat.{ℕ, ◌≤◌}
use native.Mathlib.Omega.{arith}
use mathlib.Core.Path.{◌≡◌, refl, sym, ap, ◌∙◌}
use mathlib.Core.Bool.{Bool, true, false, not}
use mathlib.Core.List.{[], ◌∷◌}
use mathlib.Core.Option.{Option, none, some}
use lib.ListN.{length}
use Rattle.varint.specs.Outcome.{pass, fail, ◌>>=◌, ◌>>◌, Judged, refused, refuse◌at:◌when:◌}
use Rattle.varint.specs.declared.Refusal.{Refusal}
use Rattle.wire.specs.declared.Field.{Field}
use Rattle.varint.specs.Lists.{is_empty}
use Rattle.varint.specs.Bytes.{Bytes}
use Rattle.wire.specs.Message.{first_of, place_of, text, bytes_of, message}
use Rattle.varint.proofs.Lists.{T_false}
use Rattle.varint.proofs.Answers.{says}
use Rattle.varint.proofs.Passing.{fail_no_pass, pass_same, passed_seq, passed_rule}
use Rattle.varint.proofs.Refusing.{when_broken, when_kept}
use Rattle.rules.specs.Names.{Name, name_of, name_in}
use Rattle.spelling.specs.Identifier.{oddity}
use Rattle.spelling.specs.Utf8.{well_formed}
use Rattle.rules.specs.Walk.{Walk, start, with_tested, tested, naming}
use Rattle.spelling.specs.Spelling.{spelling_says, spelled}
use Rattle.spelling.specs.declared.spellings.Spelling.{Spelling}
use Rattle.spelling.proofs.SpellingLaws.{oddity_few}
use Rattle.values.specs.Answers.{more, tally_says, naming_says, name_field}
use Rattle.values.proofs.TallyLaws.{tallied, untallied}

pub empty_none : (l : Bytes) → length l ≡ 0 → is_empty l ≡ true
unfolding is_empty
empty_none [] e = refl
empty_none (b ∷ l) e = absurd (omega arith)

pub empty_some : (l : Bytes) → (length l ≡ 0 → ⊥) → is_empty l ≡ false
unfolding is_empty
empty_some [] e = absurd (e refl)
empty_some (b ∷ l) e = refl

-- ---- 21

abbrev Spelled : Walk → Name → Option ℕ → Judged Walk
Spelled w x o = elim o [ none ↦ refused 21 x.place | some k ↦ pass (more w k) ]

-- a test of the name's spelling is the rule
tested_spelled : (w : Walk) (x : Name) → Spelled w x (spelled x.bytes) ≡ tested w x
unfolding tested spelled with_tested more refuse◌at:◌when:◌ ◌>>◌
tested_spelled w x = go (well_formed x.bytes)
  where
    go : (b : Bool) → Spelled w x (elim b [ true ↦ some (oddity x.bytes) | false ↦ none ]) ≡ (refuse 21 at: x.place when: not b >> pass (with_tested w x))
    go true = refl
    go false = refl

module _ (x : Name) (s : Spelling) (e : spelling_says s ≡ spelled x.bytes) where
  pub tested_bad : spelling_says s ≡ none → (w : Walk) → refused 21 x.place ≡ tested w x
  tested_bad k w = ap (Spelled w x) (sym k ∙ e) ∙ tested_spelled w x

  pub tested_good : {n : ℕ} → spelling_says s ≡ some n → (w : Walk) → pass (more w n) ≡ tested w x
  tested_good k w = ap (Spelled w x) (sym k ∙ e) ∙ tested_spelled w x

-- no name counts more than once
pub tested_few : (x : Name) {t : Answer ℕ} → ((w : Walk) → tally_says w t ≡ tested w x) → {k : ℕ} → t ≡ Ok k → k ≤ 1
unfolding tested with_tested more start
tested_few x e i =
    let same = pass_same _ _ (passed_seq _ _ _ (tallied start (e start) i)).1 in
    let odd = ap (λ (w : Walk). w.odd) same in
    let few = oddity_few x.bytes in
    omega arith

-- ---- a message's name, by what was found of it

module _ (model : Bytes) (empty number : ℕ) (m : Field) (w : Walk) where
  Rest : Bytes → ℕ → Judged Walk
  Rest x p = refuse empty at: p when: is_empty x >> tested w (record { bytes = x; place = p })

  rest : {o : Option Field} → o ≡ first_of number (message model m)
      → naming empty w (name_of model number (message model m))
      ≡ Rest (elim o [ none ↦ [] | some f ↦ text model f ]) (elim o [ none ↦ m.place | some f ↦ f.place ])
  unfolding naming name_of bytes_of place_of message Rest
  rest k = ap (λ (o : Option Field). Rest (elim o [ none ↦ [] | some f ↦ text model f ]) (elim o [ none ↦ m.place | some f ↦ f.place ])) (sym k)

  absent : none ≡ first_of number (message model m) → refused empty m.place ≡ naming empty w (name_of model number (message model m))
  unfolding Rest is_empty
  absent k = sym (rest k ∙ when_broken empty m.place _ refl)

  -- what the name says, the field that holds it says
  held : {o : Judged Walk} → o ≡ naming empty w (name_of model number (message model m))
      → (o >>= λ v. pass (first_of number (message model m), v)) ≡ name_field model empty number w (message model m)
  unfolding name_field
  held e = ap (λ (o : Judged Walk). o >>= λ v. pass (first_of number (message model m), v)) e

  pub name_absent : none ≡ first_of number (message model m) → refused empty m.place ≡ name_field model empty number w (message model m)
  unfolding ◌>>=◌
  name_absent k = held (absent k)

  module _ {f : Field} (k : some f ≡ first_of number (message model m)) {x : Bytes} (t : x ≡ text model f) where
    pub name_empty : length x ≡ 0 → refused empty f.place ≡ name_field model empty number w (message model m)
    unfolding Rest ◌>>=◌
    name_empty h = held (sym (rest k ∙ when_broken empty f.place _ (ap is_empty (sym t) ∙ empty_none x h)))

    module _ (h : length x ≡ 0 → ⊥) where
      nonempty : tested w (record { bytes = x; place = f.place }) ≡ naming empty w (name_of model number (message model m))
      unfolding Rest
      nonempty =
          ap (λ (y : Bytes). tested w (record { bytes = y; place = f.place })) t
          ∙ sym (rest k ∙ when_kept empty f.place _ (ap is_empty (sym t) ∙ empty_some x h))

      module _ {c : Answer ℕ} (e : tally_says w c ≡ tested w (record { bytes = x; place = f.place })) where
        pub name_bad : {r : Refusal} → c ≡ Err r → fail r ≡ name_field model empty number w (message model m)
        unfolding ◌>>=◌
        name_bad i = held (sym (untallied w e i) ∙ nonempty)

        pub name_good : {n : ℕ} → c ≡ Ok n
            → ◌≡◌ {A = Judged (Option Field × Walk)} (pass (some f, more w n)) (name_field model empty number w (message model m))
        unfolding ◌>>=◌
        name_good {n} i = ap (λ (o : Option Field). pass (o, more w n)) k ∙ held (sym (tallied w e i) ∙ nonempty)

-- ---- a field that is a name by itself

module _ (model : Bytes) (empty : ℕ) (f : Field) {x : Bytes} (t : x ≡ text model f) (w : Walk) where
  pub field_empty : length x ≡ 0 → refused empty f.place ≡ naming empty w (name_in model f)
  unfolding naming name_in
  field_empty h = sym (when_broken empty f.place _ (ap is_empty (sym t) ∙ empty_none x h))

  pub field_tested : (length x ≡ 0 → ⊥) → tested w (record { bytes = x; place = f.place }) ≡ naming empty w (name_in model f)
  unfolding naming name_in
  field_tested h =
      ap (λ (y : Bytes). tested w (record { bytes = y; place = f.place })) t
      ∙ sym (when_kept empty f.place _ (ap is_empty (sym t) ∙ empty_some x h))

-- t is the tally of it
module _ (model : Bytes) (empty : ℕ) (f : Field) (t : Answer ℕ) (e : (w : Walk) → tally_says w t ≡ naming empty w (name_in model f)) where
  pub field_some : {k : ℕ} → t ≡ Ok k → is_empty (text model f) ≡ false
  unfolding naming name_in
  field_some i = T_false _ (passed_rule empty _ _ (passed_seq _ _ _ (tallied start (e start) i)).0)

  pub field_few : {k : ℕ} → t ≡ Ok k → k ≤ 1
  unfolding naming tested with_tested more start
  field_few i =
      let same = pass_same _ _ (passed_seq _ _ _ (passed_seq _ _ _ (tallied start (e start) i)).1).1 in
      let odd = ap (λ (w : Walk). w.odd) same in
      let few = oddity_few (name_in model f).bytes in
      omega arith

-- what a name says of the walk alone
naming_walk : (o : Judged Walk) (x : Option Field) {a : Judged (Option Field × Walk)} → a ≡ (o >>= λ v. pass (x, v)) → (a >>= λ p. pass p.1) ≡ o
unfolding ◌>>=◌
naming_walk (pass v) x e = ap (λ (a : Judged (Option Field × Walk)). a >>= λ p. pass p.1) e
naming_walk (fail r) x e = ap (λ (a : Judged (Option Field × Walk)). a >>= λ p. pass p.1) e

module _ (model : Bytes) (empty number : ℕ) (m : Field) (n : Answer (Field × ℕ)) (e : (w : Walk) → naming_says w n ≡ name_field model empty number w (message model m)) where
  -- it is the message's first field of the number
  pub named_first : {g : Field} {k : ℕ} → n ≡ Ok (g, k) → some g ≡ first_of number (message model m)
  unfolding naming_says name_field ◌>>=◌
  named_first {g} {k} i = go (naming empty start (name_of model number (message model m))) (says (naming_says start) (e start) i)
    where
      go : (o : Judged Walk)
          → ◌≡◌ {A = Judged (Option Field × Walk)} (pass (some g, more start k)) (o >>= λ v. pass (first_of number (message model m), v))
          → some g ≡ first_of number (message model m)
      go (pass v) h = ap (λ (p : Option Field × Walk). p.0) (pass_same _ _ h)
      go (fail r) h = absurd (fail_no_pass _ _ (sym h))

  -- so the name is what it holds
  pub named_name : {g : Field} {k : ℕ} → n ≡ Ok (g, k) → name_in model g ≡ name_of model number (message model m)
  unfolding name_in name_of bytes_of place_of
  named_name i =
      ap (λ (o : Option Field). record {
        bytes = elim o as (λ _. Bytes) [ none ↦ [] | some f ↦ text model f ];
        place = elim o as (λ _. ℕ) [ none ↦ (message model m).place | some f ↦ f.place ];
      }) (named_first i)

  module _ (w : Walk) where
    pub named_passes : {g : Field} {k : ℕ} → n ≡ Ok (g, k) → pass (more w k) ≡ naming empty w (name_of model number (message model m))
    unfolding naming_says name_field ◌>>=◌
    named_passes i = naming_walk _ (first_of number (message model m)) (says (naming_says w) (e w) i)

    pub named_fails : {r : Refusal} → n ≡ Err r → fail r ≡ naming empty w (name_of model number (message model m))
    unfolding naming_says name_field ◌>>=◌
    named_fails i = naming_walk _ (first_of number (message model m)) (says (naming_says w) (e w) i)

  -- and is not empty
  pub named_some : {g : Field} {k : ℕ} → n ≡ Ok (g, k) → is_empty (text model g) ≡ false
  unfolding naming name_in
  named_some i =
      ap (λ (x : Name). is_empty x.bytes) (named_name i)
      ∙ T_false _ (passed_rule empty _ _ (passed_seq _ _ _ (sym (named_passes start i))).0)

  pub named_few : {g : Field} {k : ℕ} → n ≡ Ok (g, k) → k ≤ 1
  unfolding naming tested with_tested more start
  named_few i =
      let same = pass_same _ _ (passed_seq _ _ _ (passed_seq _ _ _ (sym (named_passes start i))).1).1 in
      let odd = ap (λ (w : Walk). w.odd) same in
      let few = oddity_few (name_of model number (message model m)).bytes in
      omega arith
