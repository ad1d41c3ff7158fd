-- The verdict from the searches, in document 01's order: a search that answers Ok found none, so the next fault decides; the
-- fault of any other is the verdict. Once (a) found none every cube lies within U, and once (b) found none every on point is covered.
use mathlib.Core.Path.{◌≡◌, refl, sym, ap, ◌∙◌}
use mathlib.Core.Bool.{true}
use mathlib.Core.List.{List, [], ◌∷◌}
use mathlib.Core.Option.{Option, some, none}
use Prim.Native.Nat.{ℕ, ◌+◌, ◌-◌, ◌*◌, ◌%◌, ◌^◌, ◌≤◌}
use native.Mathlib.Omega.{arith}
use lib.Dec.{eqb}
use lib.ListN.{length}
use lib.Pow.{pow_mono}
use borrow.Author.Tests.{eq-eqb}
use Rattle.std.specs.Prelude.{Ok, Err}
use Rattle.rule.specs.Func.{Fn, less, within}
use Rattle.rule.specs.Point.{point_number, smallest}
use Rattle.rule.specs.Cube.{Cube, cube_fn, covered, cube_at}
use Rattle.rule.specs.Verdict.{Verdict, off, missing, literal, first, found, fault, first_fault, covers_off, off_point, fault_a, fault_b, can_go, goes, fault_c, fault_d, verdict, verdict_numbers}
use Rattle.rule.proofs.Bools.{not_is_false}
use Rattle.rule.proofs.Search.{first-none}
use Rattle.words.specs.Word.{words, size, found_number}
use Rattle.words.specs.Faults.{covered_twice}
use Rattle.words.specs.Contract.{Lessened}
use Rattle.words.proofs.Answers.{within-answer}
use Rattle.checker.specs.declared.fault.Fault.{Fault}
use Rattle.checker.specs.Judging.{Judged, judged_as, judged_fault}
use Rattle.checker.specs.Contract.{cubes, off_words, Formed, NoneOff, Covered}
use Rattle.checker.proofs.Finding.{cube-at, cubes-long}

-- An answer is not both.
ok-err : {x : Fault} → ◌≡◌ {A = Judged} (Ok tt) (Err x) → ⊥
ok-err e = grind (arith, e)

-- A fault that is found is the verdict whatever follows; Ok means that none was found.
stop : (o : Option Verdict) (vs : List (Option Verdict)) (x : Fault) → Err x ≡ judged_fault o → Err x ≡ judged_as (first_fault (o ∷ vs))
unfolding judged_fault judged_as first_fault
stop none vs x e = absurd (ok-err (sym e))
stop (some v) vs x e = e

fault-none : {A : Type 0} (g : A → Verdict) → ((a : A) → Ok tt ≡ judged_as (g a) → ⊥) → (o : Option A) (u : Unit) → Ok u ≡ judged_fault (fault g o) → o ≡ none
unfolding judged_fault fault first_fault
fault-none g n none u e = refl
fault-none g n (some a) u e = absurd (n a e)

none_zero : eqb (found_number none) 0 ≡ true
unfolding found_number
none_zero = eq-eqb 0 0 refl

module _ (m : ℕ) (on outer list : List ℕ) (L U : Fn m) (e : on ≡ words m L) (d : outer ≡ off_words m U) (w : Formed m list) where
  abbrev cs : List Cube
  cs = cubes m list

  abbrev whole : Judged
  whole = judged_as (verdict_numbers m L U list)

  -- The answer to (a), and the verdict where it is a fault.
  abbrev pub ToldA : Judged → Type 0
  ToldA a = outer ≡ off_words m U → a ≡ judged_fault (fault_a m L U cs)

  pub judged_a : (x : Fault) → ToldA (Err x) → Err x ≡ whole
  unfolding verdict_numbers verdict
  judged_a x fa = stop (fault_a m L U cs) (fault_b m L U cs ∷ fault_c m L U cs ∷ fault_d m L U cs ∷ []) x (fa d)

  module _ (ua : Unit) (fa : ToldA (Ok ua)) where
    no_a : first (covers_off m L U cs) (length cs) ≡ none
    unfolding fault_a judged_as
    no_a = fault-none (λ i. off (i + 1) (point_number (off_point m L U cs i))) (λ x q. ok-err q) (first (covers_off m L U cs) (length cs)) ua (fa d)

    past_a : whole ≡ judged_as (first_fault (fault_b m L U cs ∷ fault_c m L U cs ∷ fault_d m L U cs ∷ []))
    unfolding verdict_numbers verdict first_fault fault_a fault
    past_a =
        ap (λ o. judged_as (first_fault (fault (λ i. off (i + 1) (point_number (off_point m L U cs i))) o ∷ fault_b m L U cs ∷ fault_c m L U cs ∷ fault_d m L U cs ∷ []))) no_a

    none-off : NoneOff m U list
    unfolding covers_off
    none-off =
        record {
          inside = λ i h.
              sym (ap (λ c. within m (cube_fn m c) U) (cube-at m list i h)) ∙
              not_is_false (within m (cube_fn m (cube_at cs i)) U)
              (first-none (covers_off m L U cs) (length cs) no_a i (omega (arith, cubes-long m list)));
        }

    module _ (once again bare : List ℕ) (cv : Covered m list once again) (lb : Lessened on once bare) where
      abbrev pub ToldB : Judged → Type 0
      ToldB b = bare ≡ words m (less m L (covered m cs)) → b ≡ judged_fault (fault_b m L U cs)

      told_b : (b : Judged) → ToldB b → b ≡ judged_fault (fault_b m L U cs)
      told_b b fb = fb (lb.table m L (covered m cs) e cv.covers)

      pub judged_b : (x : Fault) → ToldB (Err x) → Err x ≡ whole
      judged_b x fb = stop (fault_b m L U cs) (fault_c m L U cs ∷ fault_d m L U cs ∷ []) x (told_b (Err x) fb) ∙ sym past_a

      module _ (ub : Unit) (fb : ToldB (Ok ub)) where
        no_b : smallest m (less m L (covered m cs)) ≡ none
        unfolding fault_b judged_as
        no_b = fault-none (λ p. missing (point_number p)) (λ x q. ok-err q) (smallest m (less m L (covered m cs))) ub (told_b (Ok ub) fb)

        past_b : whole ≡ judged_as (first_fault (fault_c m L U cs ∷ fault_d m L U cs ∷ []))
        unfolding first_fault fault_b fault
        past_b =
            past_a ∙
            ap (λ o. judged_as (first_fault (fault (λ p. missing (point_number p)) o ∷ fault_c m L U cs ∷ fault_d m L U cs ∷ []))) no_b

        all-covered : within m L (covered m cs) ≡ true
        all-covered = within-answer m L (covered m cs) ∙ ap (λ o. eqb (found_number o) 0) no_b ∙ none_zero

        abbrev pub ToldC : Judged → Type 0
        ToldC c = outer ≡ off_words m U → Formed m list → NoneOff m U list → c ≡ judged_fault (fault_c m L U cs)

        pub judged_c : (x : Fault) → ToldC (Err x) → Err x ≡ whole
        judged_c x fc = stop (fault_c m L U cs) (fault_d m L U cs ∷ []) x (fc d w none-off) ∙ sym past_b

        module _ (uc : Unit) (fc : ToldC (Ok uc)) where
          no_c : first (goes m L U cs) (length cs) ≡ none
          unfolding fault_c judged_as
          no_c = fault-none (λ i. literal (i + 1) (found (first (can_go m L U cs i) m) 0)) (λ x q. ok-err q) (first (goes m L U cs) (length cs)) uc (fc d w none-off)

          past_c : whole ≡ judged_as (first_fault (fault_d m L U cs ∷ []))
          unfolding first_fault fault_c fault
          past_c =
              past_b ∙
              ap (λ o. judged_as (first_fault (fault (λ i. literal (i + 1) (found (first (can_go m L U cs i) m) 0)) o ∷ fault_d m L U cs ∷ []))) no_c

          pub judged_d : (lone : List ℕ) → Lessened on again lone → (r : Judged)
              → (lone ≡ words m (less m L (covered_twice m cs)) → within m L (covered m cs) ≡ true → r ≡ judged_fault (fault_d m L U cs)) → r ≡ whole
          unfolding judged_fault
          judged_d lone ld r fd = fd (ld.table m L (covered_twice m cs) e cv.twice) all-covered ∙ sym past_c

-- The number of words.
pub size-bound : (m : ℕ) → m ≤ 16 → size m ≤ 1024
unfolding size
size-bound m h =
    let l : m - 6 ≤ 10 = omega arith in
    let p : 2 ^ (m - 6) ≤ 2 ^ 10 = pow_mono l in
    omega arith

pub size_shifted : (m : ℕ) → m ≤ 16 → 1 * 2 ^ (m - 6) % 2 ^ 64 ≡ size m
unfolding size
size_shifted m h =
    let l : m - 6 ≤ 10 = omega arith in
    let p : 2 ^ (m - 6) ≤ 2 ^ 10 = pow_mono l in
    omega arith
