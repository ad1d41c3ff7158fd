-- What reading leaves of a function text in the programs' table: its refusal, or its rows with L within U.
use mathlib.Core.Path.{◌≡◌, refl, sym, ap, ap₂, ◌∙◌, subst, subst⁻¹}
use mathlib.Core.Bool.{Bool, true, false, cond, not, ◌&&◌}
use mathlib.Core.List.{List, [], ◌∷◌}
use mathlib.Core.Logic.{◌⊎◌, inl, inr}
use Prim.Native.Nat.{ℕ, zero, suc, ◌+◌, ◌≤◌}
use native.Mathlib.Omega.{arith}
use lib.Dec.{eqb, leb}
use lib.ListN.{length, length-replicate}
use borrow.Author.Tests.{leb-true}
use Rattle.std.specs.Prelude.{Result, Ok, Err}
use Rattle.rule.specs.Func.{within}
use Rattle.rule.specs.Nodes.{add_all}
use Rattle.rule.specs.Refusal.{first_broken, number_of, text_over, table_over, text_fault, nodes_lack, on_and_off}
use Rattle.rule.specs.declared.refusal.Refused.{Refused}
use Rattle.rule.specs.Rows.{Kind, Row, lower_of, upper_of, reading_names}
use Rattle.rule.proofs.Bools.{clash, not_is_true, which}
use Rattle.rule.proofs.Rows.{good-rows-within}
use Rattle.graph.specs.Run.{Names}
use Rattle.graph.specs.Sound.{Sound}
use Rattle.graph.specs.Table.{table_of, functions}
use Rattle.text.specs.Outcome.{Outcome, good, fault, outcome}
use Rattle.text.specs.Candidate.{is_good, fault_line}
use Rattle.text.specs.Function.{need_of, contradictory, function_conditions, function_refusal, function_numbers, function_returns, ReadsFunction}
use Rattle.text.specs.declared.function.Function.{Function}
use Rattle.text.specs.Judged.{kind_for, judged_plus, judged}
use Rattle.text.proofs.Reading.{judged-good}
use Rattle.desk.specs.Said.{refused_text}
use Rattle.desk.specs.Answer.{column, input_refusal, answer_by}
use Rattle.desk.specs.Judged.{refusal_text}
use Rattle.desk.proofs.Outcomes.{early_fault}

-- The conditions of reading speak of the slices' lengths alone.
abbrev refusal_by : List ℕ → ℕ → ℕ → ℕ → ℕ
refusal_by text a b d =
    first_broken
    (record { number = text_over; kept = leb (length text) 32768 } ∷
    record { number = table_over; kept = eqb b a && eqb d a && leb a 4096 } ∷
    record { number = text_fault; kept = is_good (outcome 0 text) } ∷
    record { number = nodes_lack; kept = leb (need_of (outcome 0 text)) a } ∷
    record { number = on_and_off; kept = not (contradictory (outcome 0 text)) } ∷ [])

same-refusal : (text v l h : List ℕ) → length v ≡ 4096 → length l ≡ 4096 → length h ≡ 4096
    → function_refusal text v l h ≡ input_refusal text
unfolding function_refusal function_conditions input_refusal column
same-refusal text v l h ev el eh =
    let e : 4096 ≡ length column = sym (length-replicate {A = ℕ} 4096 0) in
    λ i. refusal_by text ((ev ∙ e) i) ((el ∙ e) i) ((eh ∙ e) i)

-- Where no condition is broken, the first is kept, and none of the others is broken.
pub kept_first : (b : Bool) (x k : ℕ) → cond b x (suc k) ≡ 0 → (b ≡ true) × (x ≡ 0)
kept_first true x k e = (refl, e)
kept_first false x k e = let z : ⊥ = omega arith in absurd z

-- Where nothing is refused, the text is not too long, has no fault, and has no point both on and off.
record AllKept (input : List ℕ) : Type 0 where
  short : length input ≤ 32768
  isgood : is_good (outcome 0 input) ≡ true
  agrees : contradictory (outcome 0 input) ≡ false

all_kept : (input : List ℕ) → input_refusal input ≡ 0 → AllKept input
unfolding input_refusal function_refusal function_conditions first_broken
all_kept input z =
    let a = kept_first (leb (length input) 32768) _ 9 z in
    let b = kept_first _ _ 1 a.1 in
    let d = kept_first (is_good (outcome 0 input)) _ 10 b.1 in
    let g = kept_first (leb (need_of (outcome 0 input)) (length column)) _ 6 d.1 in
    let k = kept_first (not (contradictory (outcome 0 input))) _ 11 g.1 in
    record {
      short = leb-true (length input) 32768 a.0;
      isgood = d.0;
      agrees = not_is_true (contradictory (outcome 0 input)) k.0;
    }

pub kept-good : (input : List ℕ) → input_refusal input ≡ 0 → is_good (outcome 0 input) ≡ true
kept-good input z = (all_kept input z).isgood

too_long : (input : List ℕ) → leb (length input) 32768 ≡ false → input_refusal input ≡ text_over
unfolding input_refusal function_refusal function_conditions first_broken
too_long input f = rw f

-- What a refusal returns is at most one past the last line of a text that is not too long.
returns_small : (input : List ℕ) → function_returns input (input_refusal input) ≤ 32769
unfolding function_returns
returns_small input = go (which (leb (length input) 32768))
  where
    either : (q : Bool) → fault_line (outcome 0 input) ≤ 32769 → cond q (fault_line (outcome 0 input)) 0 ≤ 32769
    either true h = h
    either false h = omega arith

    go : (leb (length input) 32768 ≡ true) ⊎ (leb (length input) 32768 ≡ false) → function_returns input (input_refusal input) ≤ 32769
    go (inl t) =
        either (eqb (input_refusal input) text_fault) (omega (arith, leb-true (length input) 32768 t, early_fault 0 input))
    go (inr f) = subst⁻¹ (λ q. function_returns input q ≤ 32769) (too_long input f) (omega arith)

-- A function text has 1 to 16 columns.
pub good-columns : (input : List ℕ) (n : ℕ) (t : Kind) (rows : List Row) → outcome 0 input ≡ good n t rows → (1 ≤ n) × (n ≤ 16)
unfolding judged judged_plus
good-columns input n t rows e =
    let g = judged-good input (record { columns = n; kind = kind_for t; rows = 0 + length rows }) (sym (ap judged e)) in
    (g.some, g.few)

-- A function text that was read: its rows, what stands in the table, and L within U.
pub record ReadRows (input : List ℕ) (v : List ℕ) (l : List ℕ) (h : List ℕ) (n : ℕ) (c : ℕ) (a : ℕ) (b : ℕ) : Type 0 where
  pub kind : Kind
  pub rows : List Row
  pub kept : input_refusal input ≡ 0
  pub told : outcome 0 input ≡ good n kind rows
  pub short : length input ≤ 32768
  pub some : 1 ≤ n
  pub level : length v ≡ 4096
  pub sound : Sound n c v l h
  pub on : Names v l h c 0 n (lower_of n kind rows) a
  pub on_or_dc : Names v l h c 0 n (upper_of n kind rows) b
  pub adds : functions n (table_of v l h) c ≡ add_all [] (reading_names n kind rows)
  pub inside : within n (lower_of n kind rows) (upper_of n kind rows) ≡ true

module _ {input v l h v' l' h' : List ℕ} {a : Result Function Refused} (p : ReadsFunction input v l h v' l' h' a)
    (ev : length v ≡ 4096) (el : length l ≡ 4096) (eh : length h ≡ 4096) where
  same : function_refusal input v l h ≡ input_refusal input
  same = same-refusal input v l h ev el eh

  -- At a refusal.
  module _ {r : Refused} (e : a ≡ Err r) where
    not_kept : input_refusal input ≡ 0 → ⊥
    unfolding is_good
    not_kept s = go (outcome 0 input) refl
      where
        go : (w : Outcome) → outcome 0 input ≡ w → ⊥
        go (good n t rows) o = let k = p.done (same ∙ s) n t rows o in let f = sym e ∙ k.answer in cc
        go (fault k) o = clash (kept-good input s) (ap is_good o)

    told : (q : ℕ) → input_refusal input ≡ q → (number_of r.refusal ≡ q) × (r.returned ≡ function_returns input q)
    unfolding function_numbers
    told zero s = absurd (not_kept s)
    told (suc q) s =
        let f = ap function_numbers (sym e) ∙ (p.refused q (same ∙ s)).numbers in (ap (λ k. k.refusal) f, ap (λ k. k.returned) f)

    pub text_refused : (next : (n : ℕ) → Kind → List Row → List ℕ)
        → refusal_text r ≡ answer_by input (input_refusal input) (outcome 0 input) next
    unfolding answer_by
    text_refused next = go (input_refusal input) refl
      where
        go : (q : ℕ) → input_refusal input ≡ q → refusal_text r ≡ answer_by input q (outcome 0 input) next
        go zero s = absurd (not_kept s)
        go (suc q) s = let i = told (suc q) s in ap₂ refused_text i.0 i.1

    pub value_small : r.returned ≤ 32769
    value_small = omega (arith, (told (input_refusal input) refl).1, returns_small input)

  -- Where nothing is refused.
  module _ {f : Function} (e : a ≡ Ok f) where
    is-kept : (q : ℕ) → input_refusal input ≡ q → q ≡ 0
    is-kept zero s = refl
    is-kept (suc q) s = let g = sym e ∙ (p.refused q (same ∙ s)).answer in absurd (cc)

    pub text_read : ReadRows input v' l' h' f.columns f.count f.lower f.upper
    unfolding is_good contradictory
    text_read = go (outcome 0 input) refl
      where
        none : input_refusal input ≡ 0
        none = is-kept (input_refusal input) refl

        go : (w : Outcome) → outcome 0 input ≡ w → ReadRows input v' l' h' f.columns f.count f.lower f.upper
        go (fault k) o = clash (kept-good input none) (ap is_good o)
        go (good n t rows) o =
            let k = p.done (same ∙ none) n t rows o in
            let g = sym k.answer ∙ e in
            let d : record { columns = n; count = k.count; lower = k.lower; upper = k.upper } ≡ f = cc in
            subst (λ x. ReadRows input v' l' h' x.columns x.count x.lower x.upper) d
            (record {
              kind = t;
              rows = rows;
              kept = none;
              told = o;
              short = (all_kept input none).short;
              some = (good-columns input n t rows o).0;
              level = k.length-kept ∙ ev;
              sound = k.sound;
              on = k.on;
              on_or_dc = k.on_or_dc;
              adds = k.adds;
              inside = good-rows-within n t rows (ap contradictory (sym o) ∙ (all_kept input none).agrees);
            })
