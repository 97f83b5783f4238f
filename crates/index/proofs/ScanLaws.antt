-- A search that compares records one by one, the newest first: what the oldest `i` of them say is the whole answer.
use Rattle.std.specs.Prelude.{None, Some}
use Prim.Native.Nat.{ℕ, zero, suc, ◌-◌, ◌≤◌, ◌<◌}
use native.Mathlib.Omega.{arith}
use mathlib.Core.Path.{◌≡◌, refl, sym, ap, ◌∙◌}
use mathlib.Core.Bool.{Bool, true, false}
use mathlib.Core.List.{List}
use Rattle.varint.specs.Bytes.{Bytes, same}
use Rattle.index.specs.Table.{name_of, names_in, seek}
use Rattle.index.proofs.TableLaws.{names_length, seek_none}

pub record Scanning (model : Bytes) (table : List ℕ) (below : ℕ) (name : Bytes) (i : ℕ) : Type 0 where
  pub inside : i ≤ below
  pub rest : seek name (names_in model table i) ≡ seek name (names_in model table below)

pub scan_start : (model : Bytes) (table : List ℕ) (below : ℕ) (name : Bytes) → Scanning model table below name below
scan_start model table below name = record { inside = omega arith; rest = refl }

-- one record more
newest_first : (model : Bytes) (table : List ℕ) (name : Bytes) (i : ℕ) → 0 < i → {b : Bool} → b ≡ same name (name_of model table (i - 1))
    → elim b [ true ↦ Some (i - 1) | false ↦ seek name (names_in model table (i - 1)) ] ≡ seek name (names_in model table i)
unfolding seek names_in
newest_first model table name zero h e = absurd (omega arith)
newest_first model table name (suc j) h {b} e =
    let k : suc j - 1 ≡ j = omega arith in
    ap (λ (n : ℕ). elim b [ true ↦ Some n | false ↦ seek name (names_in model table n) ]) k
    ∙ ap (λ (t : Bool). elim t [ true ↦ Some j | false ↦ seek name (names_in model table j) ]) (e ∙ ap (λ (n : ℕ). same name (name_of model table n)) k)
    ∙ ap (λ (n : ℕ). elim (same name (name_of model table j)) [ true ↦ Some n | false ↦ seek name (names_in model table j) ]) (sym (names_length model table j))

module _ {model : Bytes} {table : List ℕ} {below : ℕ} {name : Bytes} {i : ℕ} (q : Scanning model table below name i) where
  pub scan_end : i ≤ 0 → None ≡ seek name (names_in model table below)
  scan_end h = seek_none model table i name (omega arith) ∙ q.rest

  module _ (h : 0 < i) {x : Bytes} (ex : x ≡ name_of model table (i - 1)) {b : Bool} (eb : b ≡ same name x) where
    told : {t : Bool} → b ≡ t → elim t [ true ↦ Some (i - 1) | false ↦ seek name (names_in model table (i - 1)) ] ≡ seek name (names_in model table below)
    told k = newest_first model table name i h (sym k ∙ eb ∙ ap (same name) ex) ∙ q.rest

    pub scan_here : b ≡ true → Some (i - 1) ≡ seek name (names_in model table below)
    scan_here k = told k

    pub scan_next : b ≡ false → Scanning model table below name (i - 1)
    scan_next k = record { inside = (let a = q.inside in omega arith); rest = told k }
