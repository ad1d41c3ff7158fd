-- The refusal of a row of more than 4,096 records: it is number 1 or 2, whatever else is asked.
use mathlib.Core.Path.{◌≡◌, refl, ap, ◌∙◌}
use mathlib.Core.Bool.{Bool, true, false, cond, ◌&&◌, true≢false}
use mathlib.Core.List.{List, ◌++◌}
use mathlib.Core.Logic.{◌⊎◌, inl, inr}
use Prim.Native.Nat.{ℕ, ◌<◌}
use lib.Dec.{eqb, leb}
use lib.ListN.{length, length-map}
use borrow.Author.Tests.{lt-leb}
use Rattle.rule.specs.Refusal.{Condition, first_broken}
use Rattle.rule.specs.declared.refusal.Refusal.{Refusal}
use Rattle.rule.specs.declared.refusal.Refused.{Refused}
use Rattle.graph.specs.Entry.{table_conditions}
use Rattle.nodes.specs.Row.{levels, lows, highs, over_refusal}
use Rattle.nodes.specs.declared.row.Node.{Node}

-- What holds of both numbers holds of it.
pub over-case : (n : ℕ) (P : ℕ → Type 0) → P 1 → P 2 → P (over_refusal n)
unfolding over_refusal first_broken
over-case n P p q = go (leb n 16)
  where
    go : (b : Bool) → P (cond b 2 1)
    go true = q
    go false = p

pub over-number : (n : ℕ) → (over_refusal n ≡ 1) ⊎ (over_refusal n ≡ 2)
over-number n = over-case n (λ k. (k ≡ 1) ⊎ (k ≡ 2)) (inl refl) (inr refl)

third_fails : (a b t d : Bool) → t ≡ false → (a && b && t && d) ≡ false
third_fails a b true d e = absurd (true≢false e)
third_fails true true false d e = refl
third_fails true false false d e = refl
third_fails false b false d e = refl

pub too_long : (xs : List Node) → 4096 < length xs → leb (length (levels xs)) 4096 ≡ false
unfolding levels
too_long xs l = ap (λ (m : ℕ). leb m 4096) (length-map xs (λ x. x.level)) ∙ lt-leb (length xs) 4096 l

-- A row of more than 4,096 records is refused so, whatever is asked after its table.
pub over-refused : (n c : ℕ) (xs : List Node) (cs : List Condition) → 4096 < length xs → first_broken (table_conditions n c (levels xs) (lows xs) (highs xs) ++ cs) ≡ over_refusal n
unfolding table_conditions first_broken over_refusal
over-refused n c xs cs l = rw (third_fails (eqb (length (lows xs)) (length (levels xs))) (eqb (length (highs xs)) (length (levels xs))) (leb (length (levels xs)) 4096) (leb c (length (levels xs))) (too_long xs l)) refl

-- What a refusal with nothing to return gives.
pub refused-by : {r : Refused} {e f : Refusal} → (r.refusal ≡ e) × (r.returned ≡ 0) → e ≡ f → r ≡ record { refusal = f; returned = 0 }
refused-by p q = λ i. record { refusal = (p.0 ∙ q) i; returned = p.1 i }
