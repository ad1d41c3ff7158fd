-- What an export's contract allows is one status, one content of the array, and one of the slices or the row lent.
use mathlib.Core.Path.{◌≡◌, sym, ap, ap₂, ◌∙◌}
use mathlib.Core.Bool.{Bool}
use mathlib.Core.List.{List}
use Prim.Native.Nat.{ℕ}
use Rattle.std.specs.Prelude.{Result}
use Rattle.rule.specs.Func.{Fn}
use Rattle.rule.specs.declared.refusal.Refusal.{Refusal}
use Rattle.rule.specs.declared.refusal.Refused.{Refused}
use Rattle.graph.specs.Entry.{numbers_of}
use Rattle.graph.proofs.Unique.{operated_unique}
use Rattle.list.specs.Entry as list
use Rattle.list.proofs.Delivered.{generates_unique}
use Rattle.checker.specs.Judging.{Judged}
use Rattle.text.specs.Writing as writing
use Rattle.text.specs.Candidate.{read_numbers}
use Rattle.text.specs.Function.{function_numbers}
use Rattle.text.proofs.FunctionUnique.{reads_function_unique}
use Rattle.nodes.specs.declared.row.Node.{Node}
use Rattle.nodes.specs.declared.operation.Operation.{Operation}
use Rattle.nodes.proofs.Unique.{operates_unique, row-generates_unique, row-reads_unique}
use Rattle.telling.specs.Told.{root_and_count, returned_and_length, returned_and_written, returned_and_rows, returned_and_function, ToldValue, ToldVerdict}
use Rattle.capi.specs.Exports.{Operating, Generating, WritingList, ReadingCandidate, ReadingFunction, RowOperating, RowGenerating, RowReading}

module _ {n : ℕ} {c : ℕ} {v : List ℕ} {l : List ℕ} {h : List ℕ} {ranged : Bool} {f : Fn n} {v₁ : List ℕ} {l₁ : List ℕ} {h₁ : List ℕ} {s₁ : ℕ} {o₁ : List ℕ} {v₂ : List ℕ} {l₂ : List ℕ} {h₂ : List ℕ} {s₂ : ℕ} {o₂ : List ℕ} where
  pub operating_unique : Operating n c v l h ranged f v₁ l₁ h₁ s₁ o₁ → Operating n c v l h ranged f v₂ l₂ h₂ s₂ o₂ →
      (s₁ ≡ s₂) × (o₁ ≡ o₂) × (v₁ ≡ v₂) × (l₁ ≡ l₂) × (h₁ ≡ h₂)
  operating_unique p q =
      let same = operated_unique p.operated q.operated in (
        p.told.refusal ∙ ap₂ (λ a d. (numbers_of a d).refusal) same.0 same.1 ∙ sym q.told.refusal,
        p.told.numbers ∙ ap₂ root_and_count same.0 same.1 ∙ sym q.told.numbers,
        same.2,
        same.3,
        same.4,
      )

pub told_value_unique : {a : Result Bool Refusal} {s₁ : ℕ} {o₁ : List ℕ} {s₂ : ℕ} {o₂ : List ℕ} → ToldValue a s₁ o₁ → ToldValue a s₂ o₂ →
    (s₁ ≡ s₂) × (o₁ ≡ o₂)
told_value_unique p q = (p.refusal ∙ sym q.refusal, p.numbers ∙ sym q.numbers)

pub told-verdict_unique : {a : Result Judged Refused} {s₁ : ℕ} {o₁ : List ℕ} {s₂ : ℕ} {o₂ : List ℕ} → ToldVerdict a s₁ o₁ → ToldVerdict a s₂ o₂ →
    (s₁ ≡ s₂) × (o₁ ≡ o₂)
told-verdict_unique p q = (p.refusal ∙ sym q.refusal, p.numbers ∙ sym q.numbers)

module _ {n : ℕ} {c : ℕ} {v : List ℕ} {l : List ℕ} {h : List ℕ} {a : ℕ} {b : ℕ} {room : List ℕ} {v₁ : List ℕ} {l₁ : List ℕ} {h₁ : List ℕ} {room₁ : List ℕ} {s₁ : ℕ} {o₁ : List ℕ} {v₂ : List ℕ} {l₂ : List ℕ} {h₂ : List ℕ} {room₂ : List ℕ} {s₂ : ℕ} {o₂ : List ℕ} where
  pub generating_unique : Generating n c v l h a b room v₁ l₁ h₁ room₁ s₁ o₁ → Generating n c v l h a b room v₂ l₂ h₂ room₂ s₂ o₂ →
      (s₁ ≡ s₂) × (o₁ ≡ o₂) × (v₁ ≡ v₂) × (l₁ ≡ l₂) × (h₁ ≡ h₂) × (room₁ ≡ room₂)
  generating_unique p q =
      let same = generates_unique n c v l h a b room p.generates q.generates in (
        p.told.refusal ∙ ap (λ a. (list.numbers_of a).refusal) same.0 ∙ sym q.told.refusal,
        p.told.numbers ∙ ap returned_and_length same.0 ∙ sym q.told.numbers,
        same.2,
        same.3,
        same.4,
        same.5,
      )

module _ {n : ℕ} {xs : List ℕ} {room : List ℕ} {room₁ : List ℕ} {s₁ : ℕ} {o₁ : List ℕ} {room₂ : List ℕ} {s₂ : ℕ} {o₂ : List ℕ} where
  pub writing_unique : WritingList n xs room room₁ s₁ o₁ → WritingList n xs room room₂ s₂ o₂ → (s₁ ≡ s₂) × (o₁ ≡ o₂) × (room₁ ≡ room₂)
  writing_unique p q =
      let same = p.wrote.answer ∙ sym q.wrote.answer in (
        p.told.refusal ∙ ap (λ a. (writing.numbers_of a).refusal) same ∙ sym q.told.refusal,
        p.told.numbers ∙ ap returned_and_written same ∙ sym q.told.numbers,
        p.wrote.left ∙ sym q.wrote.left,
      )

  pub candidate_unique : ReadingCandidate n xs room room₁ s₁ o₁ → ReadingCandidate n xs room room₂ s₂ o₂ →
      (s₁ ≡ s₂) × (o₁ ≡ o₂) × (room₁ ≡ room₂)
  candidate_unique p q =
      let same = p.read.answer ∙ sym q.read.answer in (
        p.told.refusal ∙ ap (λ a. (read_numbers a).refusal) same ∙ sym q.told.refusal,
        p.told.numbers ∙ ap returned_and_rows same ∙ sym q.told.numbers,
        p.read.left ∙ sym q.read.left,
      )

module _ {text : List ℕ} {v : List ℕ} {l : List ℕ} {h : List ℕ} {v₁ : List ℕ} {l₁ : List ℕ} {h₁ : List ℕ} {s₁ : ℕ} {o₁ : List ℕ} {v₂ : List ℕ} {l₂ : List ℕ} {h₂ : List ℕ} {s₂ : ℕ} {o₂ : List ℕ} where
  pub function_unique : ReadingFunction text v l h v₁ l₁ h₁ s₁ o₁ → ReadingFunction text v l h v₂ l₂ h₂ s₂ o₂ →
      (s₁ ≡ s₂) × (o₁ ≡ o₂) × (v₁ ≡ v₂) × (l₁ ≡ l₂) × (h₁ ≡ h₂)
  function_unique p q =
      let same = reads_function_unique p.reads q.reads in (
        p.told.refusal ∙ ap (λ a. (function_numbers a).refusal) same.0 ∙ sym q.told.refusal,
        p.told.numbers ∙ ap returned_and_function same.0 ∙ sym q.told.numbers,
        same.1,
        same.2,
        same.3,
      )

pub row_operating_unique : {op : Operation} {n c : ℕ} {xs ys₁ ys₂ : List Node} {s₁ s₂ : ℕ} {o₁ o₂ : List ℕ} → RowOperating op n c xs ys₁ s₁ o₁ → RowOperating op n c xs ys₂ s₂ o₂ →
    (s₁ ≡ s₂) × (o₁ ≡ o₂) × (ys₁ ≡ ys₂)
row_operating_unique p q =
    let same = operates_unique p.operates q.operates in (
      p.told.refusal ∙ ap₂ (λ a d. (numbers_of a d).refusal) same.0 same.1 ∙ sym q.told.refusal,
      p.told.numbers ∙ ap₂ root_and_count same.0 same.1 ∙ sym q.told.numbers,
      same.2,
    )

module _ {n c : ℕ} {xs ys₁ ys₂ : List Node} {a b : ℕ} {room room₁ room₂ : List ℕ} {s₁ s₂ : ℕ} {o₁ o₂ : List ℕ} where
  pub row_generating_unique : RowGenerating n c xs a b room ys₁ room₁ s₁ o₁ → RowGenerating n c xs a b room ys₂ room₂ s₂ o₂ →
      (s₁ ≡ s₂) × (o₁ ≡ o₂) × (ys₁ ≡ ys₂) × (room₁ ≡ room₂)
  row_generating_unique p q =
      let same = row-generates_unique p.generates q.generates in (
        p.told.refusal ∙ ap (λ a. (list.numbers_of a).refusal) same.0 ∙ sym q.told.refusal,
        p.told.numbers ∙ ap returned_and_length same.0 ∙ sym q.told.numbers,
        same.2,
        same.3,
      )

pub row-reading_unique : {text : List ℕ} {xs ys₁ ys₂ : List Node} {s₁ s₂ : ℕ} {o₁ o₂ : List ℕ} → RowReading text xs ys₁ s₁ o₁ → RowReading text xs ys₂ s₂ o₂ →
    (s₁ ≡ s₂) × (o₁ ≡ o₂) × (ys₁ ≡ ys₂)
row-reading_unique p q =
    let same = row-reads_unique p.reads q.reads in (
      p.told.refusal ∙ ap (λ a. (function_numbers a).refusal) same.0 ∙ sym q.told.refusal,
      p.told.numbers ∙ ap returned_and_function same.0 ∙ sym q.told.numbers,
      same.1,
    )
