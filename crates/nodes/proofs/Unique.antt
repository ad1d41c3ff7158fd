-- A contract on a row of records allows one answer and one row: the promises of the three lists are unique, and three lists
-- determine the row. The value and the verdict are equations.
use mathlib.Core.Path.{◌≡◌}
use mathlib.Core.List.{List}
use Prim.Native.Nat.{ℕ}
use Rattle.std.specs.Prelude.{Result}
use Rattle.rule.specs.declared.refusal.Refusal.{Refusal}
use Rattle.rule.specs.declared.refusal.Refused.{Refused}
use Rattle.graph.proofs.Unique.{operated_unique}
use Rattle.list.proofs.Delivered.{generates_unique}
use Rattle.text.specs.declared.function.Function.{Function}
use Rattle.text.proofs.FunctionUnique.{reads_function_unique}
use Rattle.nodes.specs.Row.{levels, lows, highs}
use Rattle.nodes.specs.Operation.{Operates}
use Rattle.nodes.specs.Generator.{RowGenerates}
use Rattle.nodes.specs.Reading.{RowReads}
use Rattle.nodes.specs.declared.row.Node.{Node}
use Rattle.nodes.specs.declared.operation.Operation.{Operation}
use Rattle.nodes.proofs.Rows.{same_row}

pub operates_unique : {op : Operation} {n c c₁ c₂ : ℕ} {xs ys₁ ys₂ : List Node} {a₁ a₂ : Result ℕ Refusal} → Operates op n c xs c₁ ys₁ a₁ → Operates op n c xs c₂ ys₂ a₂ → (a₁ ≡ a₂) × (c₁ ≡ c₂) × (ys₁ ≡ ys₂)
operates_unique {ys₁ = ys₁} {ys₂ = ys₂} p q = let s = operated_unique p.lists q.lists in (s.0, s.1, same_row ys₁ ys₂ s.2 s.3 s.4)

pub row-generates_unique : {n c c₁ c₂ : ℕ} {xs ys₁ ys₂ : List Node} {a b : ℕ} {room room₁ room₂ : List ℕ} {r₁ r₂ : Result ℕ Refused} → RowGenerates n c xs a b room c₁ ys₁ room₁ r₁ → RowGenerates n c xs a b room c₂ ys₂ room₂ r₂
    → (r₁ ≡ r₂) × (c₁ ≡ c₂) × (ys₁ ≡ ys₂) × (room₁ ≡ room₂)
row-generates_unique {n} {c} {xs = xs} {ys₁} {ys₂} {a} {b} {room} p q =
    let s = generates_unique n c (levels xs) (lows xs) (highs xs) a b room p.lists q.lists in (s.0, s.1, same_row ys₁ ys₂ s.2 s.3 s.4, s.5)

pub row-reads_unique : {text : List ℕ} {xs ys₁ ys₂ : List Node} {a₁ a₂ : Result Function Refused} → RowReads text xs ys₁ a₁ → RowReads text xs ys₂ a₂ → (a₁ ≡ a₂) × (ys₁ ≡ ys₂)
row-reads_unique {ys₁ = ys₁} {ys₂ = ys₂} p q = let s = reads_function_unique p.lists q.lists in (s.0, same_row ys₁ ys₂ s.1 s.2 s.3)
