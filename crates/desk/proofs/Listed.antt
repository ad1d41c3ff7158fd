-- The first program: the ways out of `say_list`, and what it says of the rows that were read.
use mathlib.Core.Path.{◌≡◌, refl, sym, ap, ap₂, ◌∙◌, subst, subst⁻¹}
use mathlib.Core.Bool.{Bool, true, false, cond}
use mathlib.Core.List.{List, [], ◌∷◌, ◌++◌}
use mathlib.Core.Logic.{◌⊎◌, inl, inr}
use Prim.Native.Nat.{ℕ, zero, suc, ◌+◌, ◌*◌, ◌^◌, ◌-◌, ◌≤◌, ◌<◌}
use native.Mathlib.Nat.{mul-le-mul, pow-le-pow_right}
use native.Mathlib.Omega.{arith}
use lib.Dec.{eqb, leb, ltb}
use lib.ListN.{length, take, replicate, length-map, length-append}
use lib.Seq.{take_at, length-take-le}
use borrow.Author.Tests.{leb-true, ltb-true, ltb-false}
use Rattle.std.specs.Prelude.{Result, Ok, Err}
use Rattle.rule.specs.Func.{Fn}
use Rattle.rule.specs.Number.{cube_number, first_malformed}
use Rattle.rule.specs.Nodes.{need}
use Rattle.rule.specs.Refusal.{first_broken, nodes_lack, list_lacks, number_of}
use Rattle.rule.specs.declared.refusal.Refused.{Refused}
use Rattle.rule.specs.Rule.{list_of, list_numbers}
use Rattle.rule.proofs.Bools.{which}
use Rattle.rule.proofs.Delivered.{list-formed}
use Rattle.rule.proofs.Malformed.{none_malformed}
use Rattle.graph.specs.Table.{table_of, functions}
use Rattle.graph.proofs.Roots.{past_input}
use Rattle.line.specs.Decimal.{decimal}
use Rattle.line.proofs.Decimal.{length_one, length_two, length_three, length_four}
use Rattle.list.specs.Entry.{numbers_of, lower, upper, the_list, room_conditions, refusal, answer_for, numbers_for, changes_nothing, room_left, Generates}
use Rattle.listmemo.proofs.Writing.{list-bound}
use Rattle.text.specs.Writing.{list_text, room_by, room_written, Wrote}
use Rattle.text.proofs.Written.{length_text, all-kept, fitting}
use Rattle.desk.specs.Said.{refused_text}
use Rattle.desk.specs.Answer.{answer_by, rows_list, list_refusal, list_said, list_answer, answer_room}
use Rattle.desk.specs.Judged.{refusal_text, Says}
use Rattle.desk.specs.Contract.{Fits, Ready}
use Rattle.desk.proofs.Reading.{kept_first, ReadRows}
use Rattle.desk.proofs.Prepared.{ready_of, input_kept}

-- A list of at most 1,536 cubes fits the answer room.
two_digits : (k : ℕ) → k < 100 → length (decimal k) ≤ 2
two_digits k h = go (which (ltb k 10))
  where
    go : (ltb k 10 ≡ true) ⊎ (ltb k 10 ≡ false) → length (decimal k) ≤ 2
    go (inl t) = omega (arith, length_one k (ltb-true k 10 t))
    go (inr f) = omega (arith, length_two k (ltb-false k 10 f) h)

four_digits : (k : ℕ) → k < 10000 → length (decimal k) ≤ 4
four_digits k h = go (which (ltb k 100)) (which (ltb k 1000))
  where
    go : (ltb k 100 ≡ true) ⊎ (ltb k 100 ≡ false) → (ltb k 1000 ≡ true) ⊎ (ltb k 1000 ≡ false) → length (decimal k) ≤ 4
    go (inl t) u = omega (arith, two_digits k (ltb-true k 100 t))
    go (inr f) (inl t) = omega (arith, length_three k (ltb-false k 100 f) (ltb-true k 1000 t))
    go (inr f) (inr g) = omega (arith, length_four k (ltb-false k 1000 g) h)

pub text_fits : (n : ℕ) (xs : List ℕ) → n ≤ 16 → length xs ≤ 1536 → length (list_text n xs) ≤ answer_room
text_fits n xs h k =
    let w : n + 3 ≤ 19 = omega arith in
    let p : length xs * (n + 3) ≤ 1536 * 19 = mul-le-mul k w in
    omega (arith, length_text n xs, two_digits n (omega arith), four_digits (length xs) (omega arith))

-- The rule's list has at most 3 to the 16th cubes.
pub list_small : (n : ℕ) (L U : Fn n) → n ≤ 16 → length (list_numbers n L U) ≤ 43046721
unfolding list_numbers
list_small n L U h =
    let u : 3 ^ n ≤ 3 ^ 16 = pow-le-pow_right {n = 3} (omega arith) {i = n} {j = 16} h in
    omega (arith, length-map (list_of n L U) cube_number, list-bound n L U)

module _ {n c : ℕ} {v l h : List ℕ} {a b : ℕ} {list answer : List ℕ} (r : Ready n c v l h a b list answer) where
  abbrev L : Fn n
  L = lower n c v l h a b list

  abbrev U : Fn n
  U = upper n c v l h a b list

  abbrev xs : List ℕ
  xs = the_list n c v l h a b list

  abbrev refused : ℕ
  refused = refusal n c v l h a b list

  -- Refusals 1 to 6 do not apply.
  pub by_rooms : refused ≡ first_broken (room_conditions n c v l h a b list)
  unfolding refusal
  by_rooms =
      past_input n c v l h a b (length list) (room_conditions n c v l h a b list)
      (input_kept r (length list) (omega (arith, r.cubes)))

  small : length xs ≤ 43046721
  unfolding the_list
  small = list_small n L U r.roots.sound.columns

  module _ {c' : ℕ} {v' l' h' list' : List ℕ} {g : Result ℕ Refused} (p : Generates n c v l h a b list c' v' l' h' list' g) where
    -- At a refusal.
    module _ {f : Refused} (e : g ≡ Err f) where
      told : (number_of f.refusal ≡ refused) × (f.returned ≡ cond (eqb refused list_lacks) (length xs) 0)
      unfolding numbers_of numbers_for
      told = let i = ap numbers_of (sym e) ∙ p.numbers in (ap (λ k. k.refusal) i, ap (λ k. k.returned) i)

      said : (k : ℕ) → refused ≡ k → refused_text refused (cond (eqb refused list_lacks) (length xs) 0) ≡ list_said n xs k
      unfolding answer_for list_said
      said zero z = let i = sym e ∙ p.answer ∙ ap (answer_for n c v l h a b list) z in absurd (cc)
      said (suc k) z = ap (λ q. refused_text q (cond (eqb q list_lacks) (length xs) 0)) z

      pub list-refused : refusal_text f ≡ list_said n xs refused
      list-refused = ap₂ refused_text told.0 told.1 ∙ said refused refl

      pub length_small : f.returned ≤ 43046721
      length_small = subst⁻¹ (λ y. y ≤ 43046721) told.1 (bound (eqb refused list_lacks))
        where
          bound : (t : Bool) → cond t (length xs) 0 ≤ 43046721
          bound true = small
          bound false = omega arith

    -- Where the list was delivered.
    module _ {k : ℕ} (e : g ≡ Ok k) where
      none : refused ≡ 0
      unfolding numbers_of numbers_for
      none = sym (ap (λ m. m.refusal) (ap numbers_of (sym e) ∙ p.numbers))

      long : k ≡ length xs
      unfolding answer_for
      long = let i = sym e ∙ p.answer ∙ ap (answer_for n c v l h a b list) none in cc

      fits : length xs ≤ 1536
      unfolding room_conditions first_broken
      fits =
          let q = kept_first (leb (need (functions n (table_of v l h) c) n L U) (length v)) _ 6 (sym by_rooms ∙ none) in
          omega (arith, leb-true (length xs) (length list) (kept_first (leb (length xs) (length list)) _ 7 q.1).0, r.cubes)

      room-is : list' ≡ xs ++ replicate (length list - length xs) 0
      unfolding room_left changes_nothing
      room-is = p.list ∙ ap (room_left n c v l h a b list) none

      pub stands : take k list' ≡ xs
      stands = ap (take k) room-is ∙ take_at xs (replicate (length list - length xs) 0) k (sym long)

      stands_inside : k ≤ length list'
      stands_inside = omega (arith, long, ap length room-is, length-append xs (replicate (length list - length xs) 0))

      pub stands_long : k ≡ length (take k list')
      stands_long = sym (length-take-le k list' stands_inside)

      -- The text is written, and never refused.
      module _ {answer' : List ℕ} {w : Result ℕ Refused} (q : Wrote n (take k list') answer answer' w) where
        fit : length (list_text n xs) ≤ length answer
        fit = omega (arith, text_fits n xs r.roots.sound.columns fits, r.bytes)

        formed : first_malformed n xs ≡ 0
        unfolding the_list
        formed = none_malformed n xs (list-formed n L U r.roots.sound.columns)

        wrote : Wrote n xs answer answer' w
        wrote = subst (λ ys. Wrote n ys answer answer' w) stands q

        written_is : w ≡ Ok (length (list_text n xs))
        written_is =
            wrote.answer ∙ sym (fitting n xs (length answer) r.some r.roots.sound.columns (omega (arith, fits)) formed fit)

        pub list-said : {past : ℕ} → w ≡ Ok past → Says (list_said n xs refused) answer answer' past
        unfolding list_said room_written room_by
        list-said {past} f =
            let i = sym f ∙ written_is in
            let whole : Says (list_text n xs) answer answer' past = record {
              count = cc;
              left = wrote.left ∙ ap (λ y. room_by y n xs answer) (all-kept n xs (length answer) r.some r.roots.sound.columns (omega (arith, fits)) formed fit);
            } in
            subst⁻¹ (λ y. Says (list_said n xs y) answer answer' past) none whole

        pub never_refused : {f : Refused} → w ≡ Err f → ⊥
        never_refused f = let i = sym f ∙ written_is in cc

-- What is said of the rows that were read.
pub rows-listed : {input v l h : List ℕ} {n c a b : ℕ} (list answer : List ℕ) → ReadRows input v l h n c a b → length list ≡ 1536
    → Fits answer → list_said n (the_list n c v l h a b list) (refusal n c v l h a b list) ≡ list_answer input
unfolding list_answer answer_by the_list lower upper rows_list room_conditions list_refusal
rows-listed {input} {v} {l} {h} {n} {c} {a} {b} list answer r e f =
    ap₂ (list_said n) the-list the_refusal ∙
    ap₂ (λ q w. answer_by input q w (λ n t rows. list_said n (rows_list n t rows) (list_refusal n t rows))) (sym r.kept) (sym r.told)
  where
    the-list : the_list n c v l h a b list ≡ rows_list n r.kind r.rows
    the-list = ap₂ (list_numbers n) r.on.means r.on_or_dc.means

    the_refusal : refusal n c v l h a b list ≡ list_refusal n r.kind r.rows
    the_refusal =
        by_rooms {answer = answer} (ready_of r e f) ∙
        (λ i. first_broken (
        record { number = nodes_lack; kept = leb (need (r.adds i) n (r.on.means i) (r.on_or_dc.means i)) (r.level i) } ∷
        record { number = list_lacks; kept = leb (length (list_numbers n (r.on.means i) (r.on_or_dc.means i))) (e i) } ∷ []))
