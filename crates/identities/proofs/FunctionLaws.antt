-- Who a function is: its parts, its contents, and two of them compared; and the search among the functions before a place.
use Prim.Native.Nat.{ℕ, ◌+◌, ◌-◌, ◌≤◌, ◌<◌}
use native.Mathlib.Omega.{arith}
use mathlib.Core.Path.{◌≡◌, refl, sym, ap, subst, ◌∙◌}
use mathlib.Core.Bool.{Bool, true, false, not, ◌&&◌}
use mathlib.Core.List.{List, [], map}
use lib.Dec.{T, leb, leb→le, nleb→lt}
use lib.ListN.{length}
use borrow.Author.Tests.{le-leb, lt-leb}
use Rattle.varint.specs.Bytes.{Bytes, same}
use Rattle.varint.proofs.Bytes.{same→eq}
use Rattle.wire.specs.Wire.{fields}
use Rattle.wire.specs.Message.{Message, all_of, first_of, bytes_of, message, whole}
use Rattle.wire.specs.Outline.{Starts}
use Rattle.wire.specs.declared.Field.{Field}
use Rattle.wire.proofs.Fields.{fields_done}
use Rattle.schema.specs.Numbers.{Model-functions, Function-name, Function-overload}
use Rattle.rules.specs.Identity.{Identity, identity_of, same_identity, identified}
use Rattle.headers.specs.Earlier.{before, before_from, AnySays}
use Rattle.headers.proofs.EarlierLaws.{any_told}
use Rattle.identities.specs.Functions.{identity_by, identity_in, domain_in, functions_before}
use Rattle.identities.specs.Identified.{holding}

-- ---- the parts of an identity

module _ (model : Bytes) (version : ℕ) (f : Field) where
  abbrev Overload : Bool → Bytes
  Overload b = elim b [ true ↦ bytes_of model Function-overload (message model f) | false ↦ [] ]

  pub overload_none : version < 10 → [] ≡ (identity_in model version f).overload
  unfolding identity_of
  overload_none h = sym (ap Overload (lt-leb 10 version h))

  pub overload_some : 10 ≤ version → bytes_of model Function-overload (message model f) ≡ (identity_in model version f).overload
  unfolding identity_of
  overload_some h = sym (ap Overload (le-leb 10 version h))

  pub identity_parts : {n d o : Bytes} → n ≡ bytes_of model Function-name (message model f) → d ≡ domain_in model f
      → o ≡ (identity_in model version f).overload
      → identity_by n d o ≡ identity_in model version f
  unfolding identity_of
  identity_parts {n} {d} {o} en ed eo =
      ap (λ (x : Bytes). identity_by x d o) en
      ∙ ap (λ (x : Bytes). identity_by (bytes_of model Function-name (message model f)) x o) ed
      ∙ ap (λ (x : Bytes). identity_by (bytes_of model Function-name (message model f)) (domain_in model f) x) eo

-- ---- a function is known by its contents alone

identity_fields : (model : Bytes) (version : ℕ) (m n : Message) → m.fields ≡ n.fields → identity_of model version m ≡ identity_of model version n
unfolding identity_of bytes_of first_of all_of
identity_fields model version m n e = ap (λ (l : List Field). identity_of model version (record { place = 0; fields = l })) e

-- the end by start and length: what ends before it starts has no fields either way
fields_between : (model : Bytes) (start next : ℕ) → fields model (start + (next - start)) start ≡ fields model next start
fields_between model start next = go (leb start next) (leb→le start next) (nleb→lt start next)
  where
    go : (b : Bool) → (T b → start ≤ next) → (T (not b) → next < start) → fields model (start + (next - start)) start ≡ fields model next start
    go true h k = let l = h tt in let e : start + (next - start) ≡ next = omega arith in rw e
    go false h k = let l = k tt in fields_done model (start + (next - start)) start (omega arith) ∙ sym (fields_done model next start (omega arith))

-- so only where they are matters
pub identity_contents : (model : Bytes) (version : ℕ) (f g : Field) → f.start ≡ g.start → f.next ≡ g.next → identity_in model version f ≡ identity_in model version g
unfolding message
identity_contents model version f g e k =
    identity_fields model version (message model f) (message model g) (ap (λ (n : ℕ). fields model n f.start) k ∙ ap (fields model g.next) e)

pub identity_holding : (model : Bytes) (version : ℕ) (f : Field) {start len : ℕ} → start ≡ f.start → len ≡ f.next - f.start
    → identity_in model version (holding start len) ≡ identity_in model version f
unfolding message holding
identity_holding model version f {start} {len} e k =
    identity_contents model version (holding start len) (holding f.start (f.next - f.start)) e (ap (λ (n : ℕ). n + len) e ∙ ap (λ (n : ℕ). f.start + n) k)
    ∙ identity_fields model version (message model (holding f.start (f.next - f.start))) (message model f) (fields_between model f.start f.next)

-- ---- two of them compared

and-true : (a b : Bool) → a && b ≡ true → (a ≡ true) × (b ≡ true)
and-true true b e = (refl, e)
and-true false b e = absurd (let z : ◌≡◌ {A = ℕ} 0 1 = cc in omega arith)

same_eq : (x y : Bytes) → same x y ≡ true → x ≡ y
same_eq x y e = same→eq x y (rw e tt)

identity_eq : (x y : Identity) → same_identity x y ≡ true → x ≡ y
unfolding same_identity
identity_eq x y e =
    let p = and-true (same x.name y.name && same x.domain y.domain) (same x.overload y.overload) e in
    let q = and-true (same x.name y.name) (same x.domain y.domain) p.0 in
    ap (λ (n : Bytes). identity_by n x.domain x.overload) (same_eq x.name y.name q.0)
    ∙ ap (λ (n : Bytes). identity_by y.name n x.overload) (same_eq x.domain y.domain q.1)
    ∙ ap (λ (n : Bytes). identity_by y.name y.domain n) (same_eq x.overload y.overload p.1)

pub identity_differ : (x y : Identity) → (x ≡ y → ⊥) → same_identity x y ≡ false
identity_differ x y n = go (same_identity x y) refl
  where
    go : (t : Bool) → same_identity x y ≡ t → t ≡ false
    go true e = absurd (n (identity_eq x y e))
    go false e = refl

-- y is the name of the other, z its domain, w its overload
module _ (model : Bytes) (version : ℕ) (f : Field) (n d o : Bytes) {y : Bytes} (ey : y ≡ bytes_of model Function-name (message model f)) {a : Bool} (ea : a ≡ same n y) where
  abbrev Alike : Bool
  Alike = same_identity (identity_by n d o) (identity_in model version f)

  -- what the tests so far leave to be tested
  named : {t : Bool} → a ≡ t → Alike ≡ ((t && same d (identity_in model version f).domain) && same o (identity_in model version f).overload)
  unfolding same_identity identity_of
  named k = ap (λ (t : Bool). (t && same d (identity_in model version f).domain) && same o (identity_in model version f).overload) (ap (same n) (sym ey) ∙ sym ea ∙ k)

  pub other_name : a ≡ false → false ≡ Alike
  other_name k = sym (named k)

  module _ (ka : a ≡ true) {z : Bytes} (ez : z ≡ domain_in model f) {b : Bool} (eb : b ≡ same d z) where
    homed : {t : Bool} → b ≡ t → Alike ≡ (t && same o (identity_in model version f).overload)
    unfolding identity_of
    homed k = named ka ∙ ap (λ (t : Bool). t && same o (identity_in model version f).overload) (ap (same d) (sym ez) ∙ sym eb ∙ k)

    pub other_domain : b ≡ false → false ≡ Alike
    other_domain k = sym (homed k)

    pub same_overload : b ≡ true → {w : Bytes} → w ≡ (identity_in model version f).overload → {c : Bool} → c ≡ same o w → c ≡ Alike
    same_overload kb ew ec = ec ∙ ap (same o) ew ∙ sym (homed kb)

pub identified_by : {x y : Identity} → x ≡ y → (l : List Identity) {b : Bool} → b ≡ identified x l → b ≡ identified y l
identified_by e l eb = eb ∙ ap (λ (z : Identity). identified z l) e

-- ---- the functions before a place, read again from where they begin: a test that looks for x

pub any_identified : {Says : Field → Bool → Type 0} (version : ℕ) (x : Identity) {model : Bytes}
    → ((f : Field) (b : Bool) → Says f b → b ≡ same_identity x (identity_in model version f))
    → (place : ℕ) {pos : ℕ} → Starts model (whole model) Model-functions pos
    → {r : Bool} → AnySays Says (before_from model Model-functions place (record { at = pos; end = length model })) r
    → r ≡ identified x (map (identity_in model version) (functions_before model place))
unfolding functions_before before_from whole identified
any_identified {Says} version x {model} h place k {r} d =
    any_told (λ f. same_identity x (identity_in model version f)) (λ l. identified x (map (identity_in model version) l)) refl (λ f l. refl) h
    (functions_before model place) (subst (λ (l : List Field). AnySays Says (before place l) r) k.same d)
