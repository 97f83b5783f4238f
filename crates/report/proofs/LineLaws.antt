-- A line is put together from its parts, each after the ones before.
use Rattle.std.specs.Prelude.{Err, Ok}
use Prim.Native.Nat.{ℕ, suc, ◌+◌, ◌≤◌, ◌<◌}
use mathlib.Core.Path.{◌≡◌, refl, sym, ap, subst, subst⁻¹, ◌∙◌}
use mathlib.Core.Bool.{Bool, true, false}
use mathlib.Core.List.{List, [], ◌∷◌, ◌++◌, append-nil, append_assoc}
use native.Mathlib.Omega.{arith}
use lib.ListN.{length, take, drop, get_or, set, length-set, length-append}
use lib.Seq.{paste, paste-zero, paste-suc, take-length, take-append_seam, drop-append-add, drop-drop}
use borrow.Author.Tests.{eq-eqb, ne_eqb}
use Rattle.varint.specs.Outcome.{pass, fail}
use Rattle.varint.specs.Bytes.{Bytes}
use Rattle.varint.specs.Notation.{ascii}
use Rattle.varint.specs.declared.Refusal.{Refusal}
use Rattle.gate.specs.declared.checks.Accepted.{Accepted}
use Rattle.varint.specs.Answers.{Answer}
use Rattle.gate.specs.Meaning.{meaning}
use Rattle.report.specs.Line.{decimal, numbers_of, first_of, line_of, over}

-- `text` has been put at the start of `out₀`, `r` bytes in all.
pub record Written (out₀ text : Bytes) (r : ℕ) (out : Bytes) : Type 0 where
  pub size : r ≡ length text
  pub so_far : out ≡ over text out₀

pub nothing_yet : (out : Bytes) → Written out [] 0 out
unfolding over
nothing_yet out = record { size = refl; so_far = refl }

joined : (text more out : Bytes) → paste (over text out) (length text) more (length more) ≡ over (text ++ more) out
unfolding over
joined text more out =
    ap (λ l. l ++ take (length more) more ++ drop (length text + length more) (over text out)) (take-append_seam text (drop (length text) out))
    ∙ ap (λ l. text ++ l ++ drop (length text + length more) (over text out)) (take-length more)
    ∙ ap (λ l. text ++ more ++ l) (drop-append-add text (drop (length text) out) (length more)
    ∙ drop-drop (length more) (length text) out
    ∙ ap (λ k. drop k out) (sym (length-append text more)))

pub and_then : (more : Bytes) {out₀ text : Bytes} {r s : ℕ} {out next : Bytes}
    → Written out₀ text r out → s ≡ r + length more → next ≡ paste out r more (length more)
    → Written out₀ (text ++ more) s next
and_then more {out₀} {text} {r} {s} {out} {next} w d e = record {
  size = d ∙ ap (λ k. k + length more) w.size ∙ sym (length-append text more);
  so_far = e ∙ ap (λ l. paste l r more (length more)) w.so_far ∙ ap (λ k. paste (over text out₀) k more (length more)) w.size ∙ joined text more out₀;
}

-- What a contract says of a text that was put.
abbrev pub Says : (out₀ text : Bytes) (r : ℕ) (out : Bytes) → Type 0
Says out₀ text r out = (r ≡ length text) × (out ≡ over text out₀)

pub numbers_written : (first : Bytes) (m : ℕ) (second : Bytes) (n : ℕ) {out₀ : Bytes} {r : ℕ} {out : Bytes}
    → Written out₀ (first ++ decimal m ++ second ++ decimal n) r out
    → Says out₀ (numbers_of first m second n) r out
unfolding numbers_of
numbers_written first m second n w = (w.size, w.so_far)

-- A refusal's line before ` first N`, or before its end.
abbrev Head : Refusal → Bytes
Head f = numbers_of (ascii "refused ") f.number (ascii " at ") f.place

-- ` first N`, by the test of the number.
told : Refusal → Bool → Bytes
told f b = elim b [ true ↦ ascii " first " ++ decimal f.first | false ↦ [] ]

module _ (f : Refusal) {out₀ : Bytes} {r : ℕ} {out : Bytes} where
  pub head_written : Says out₀ (Head f) r out → Written out₀ (Head f) r out
  head_written says = record { size = says.0; so_far = says.1 }

  ended : {text : Bytes} → text ≡ Head f ++ first_of f → Written out₀ (text ++ (0x0A ∷ [])) r out → Says out₀ (line_of (fail f)) r out
  unfolding line_of
  ended e w = subst (λ t. Says out₀ (t ++ (0x0A ∷ [])) r out) e (w.size, w.so_far)

  pub refused_first : f.number ≡ 23 → Written out₀ (Head f ++ ascii " first " ++ decimal f.first ++ (0x0A ∷ [])) r out
      → Says out₀ (line_of (fail f)) r out
  unfolding first_of told
  refused_first e = ended (append_assoc (Head f) (ascii " first ") (decimal f.first) ∙ ap (λ b. Head f ++ told f b) (sym (eq-eqb _ _ e)))

  pub refused_plain : (f.number ≡ 23 → ⊥) → Written out₀ (Head f ++ (0x0A ∷ [])) r out → Says out₀ (line_of (fail f)) r out
  unfolding first_of told
  refused_plain e = ended (sym (append-nil (Head f)) ∙ ap (λ b. Head f ++ told f b) (sym (ne_eqb _ _ e)))

-- An acceptance's line before ` odd N`.
abbrev pub Counted : (nodes names : ℕ) → Bytes
Counted nodes names = numbers_of (ascii "accepted nodes ") nodes (ascii " names ") names

pub counted_written : (nodes names : ℕ) {out₀ : Bytes} {r : ℕ} {out : Bytes} → Says out₀ (Counted nodes names) r out → Written out₀ (Counted nodes names) r out
counted_written nodes names says = record { size = says.0; so_far = says.1 }

pub accepted_written : (nodes names odd : ℕ) {out₀ : Bytes} {r : ℕ} {out : Bytes}
    → Written out₀ (Counted nodes names ++ ascii " odd " ++ decimal odd ++ (0x0A ∷ [])) r out
    → Says out₀ (line_of (pass (record { nodes = nodes; names = names; odd = odd }))) r out
unfolding line_of
accepted_written nodes names odd w = (w.size, w.so_far)

pub line_accepted : (out₀ : Bytes) {a : Answer Accepted} {x : Accepted} {r : ℕ} {out : Bytes}
    → a ≡ Ok x → Says out₀ (line_of (pass (record { nodes = x.nodes; names = x.names; odd = x.odd }))) r out
    → Says out₀ (line_of (meaning a)) r out
unfolding meaning
line_accepted out₀ {r} {out} e says = subst⁻¹ (λ x. Says out₀ (line_of (meaning x)) r out) e says

pub line_refused : (out₀ : Bytes) {a : Answer Accepted} {f : Refusal} {r : ℕ} {out : Bytes}
    → a ≡ Err f → Says out₀ (line_of (fail f)) r out
    → Says out₀ (line_of (meaning a)) r out
unfolding meaning
line_refused out₀ {r} {out} e says = subst⁻¹ (λ x. Says out₀ (line_of (meaning x)) r out) e says
