-- Each case of the check's answer; a range that fits, and one that does not; and what the name service shows there.
use Rattle.std.specs.Prelude.{Err, Ok}
use Prim.Native.Nat.{ℕ, ◌+◌, ◌≤◌, ◌<◌}
use native.Mathlib.Omega.{arith}
use mathlib.Core.Path.{◌≡◌, refl, sym, ap}
use mathlib.Core.Bool.{Bool, true, false}
use mathlib.Core.List.{[]}
use lib.ListN.{length}
use lib.Dec.{leb}
use borrow.Author.Tests.{leb-true, le-leb, lt-leb}
use Rattle.varint.specs.Outcome.{pass, fail, Judged}
use Rattle.varint.specs.Lists.{contains}
use Rattle.varint.specs.Bytes.{Bytes, part}
use Rattle.varint.specs.declared.Refusal.{Refusal}
use Rattle.varint.proofs.Answers.{says}
use Rattle.rules.specs.Verdict.{Counts, verdict}
use Rattle.rules.specs.Demands.{RefusedProperly}
use Rattle.rules.proofs.Proper.{refused_properly}
use Rattle.gate.specs.Meaning.{meaning}
use Rattle.gate.specs.Shown.{shown}
use Rattle.gate.specs.declared.checks.Accepted.{Accepted}
use Rattle.varint.specs.Answers.{Answer}
use Rattle.gate_c.specs.declared.GatePart.{GatePart}
use Rattle.gate_c.specs.Exports.{outcome, shown_at}

module _ {o : Judged Counts} {r : Answer Accepted} (checked : meaning r ≡ o) where
  pub outcome_accepted : {x : Accepted} → r ≡ Ok x
      → record { refusal = 0; place = 0; nodes = x.nodes; names = x.names; first = 0; odd = x.odd } ≡ outcome o
  unfolding outcome meaning
  outcome_accepted e = ap outcome (says meaning checked e)

  pub outcome_refused : {q : Refusal} → r ≡ Err q
      → record { refusal = q.number; place = q.place; nodes = 0; names = 0; first = q.first; odd = 0 } ≡ outcome o
  unfolding outcome meaning
  outcome_refused e = ap outcome (says meaning checked e)

module _ (model : Bytes) where
  -- these bytes lie there, all of them inside the model
  abbrev pub Lie : Bytes → GatePart → Type 0
  Lie x p = (p.start + p.length ≤ length model) × (part p.start p.length model ≡ x)

  module _ (start size : ℕ) where
    at_by : {b : Bool} → leb (start + size) (length model) ≡ b
        → elim b [ true ↦ record { start = start; length = size } | false ↦ record { start = 0; length = 0 } ] ≡ shown_at model start size
    unfolding shown_at
    at_by e = ap (λ (b : Bool). elim b [ true ↦ record { start = start; length = size } | false ↦ record { start = 0; length = 0 } ]) (sym e)

    pub at_none : length model < start + size → record { start = 0; length = 0 } ≡ shown_at model start size
    at_none h = at_by (lt-leb (start + size) (length model) h)

    pub at_part : start + size ≤ length model → record { start = start; length = size } ≡ shown_at model start size
    at_part h = at_by (le-leb (start + size) (length model) h)

    -- C finds there what the name service of the library shows
    pub at_shown : Lie (shown model start size) (shown_at model start size)
    unfolding shown_at shown part
    at_shown = go (leb (start + size) (length model)) refl
      where
        go : (b : Bool) → leb (start + size) (length model) ≡ b
            → Lie (elim b [ true ↦ part start size model | false ↦ [] ])
            (elim b [ true ↦ record { start = start; length = size } | false ↦ record { start = 0; length = 0 } ])
        go true e = (leb-true (start + size) (length model) e, refl)
        go false e = (omega arith, refl)

-- a refusal of 0 says that the model is accepted, since no number of document 01 is 0
pub none_accepts : (model list : Bytes) (cells : ℕ) → (outcome (verdict model list cells)).refusal ≡ 0
    → verdict model list cells
    ≡ pass (record {
      nodes = (outcome (verdict model list cells)).nodes;
      names = (outcome (verdict model list cells)).names;
      odd = (outcome (verdict model list cells)).odd;
    })
unfolding outcome contains RefusedProperly
none_accepts model list cells e = go (verdict model list cells) refl e
  where
    go : (o : Judged Counts) → verdict model list cells ≡ o → (outcome o).refusal ≡ 0
        → o ≡ pass (record { nodes = (outcome o).nodes; names = (outcome o).names; odd = (outcome o).odd })
    go (pass c) v z = refl
    go (fail r) v z = absurd (rw z at (refused_properly model list cells r v).0)
