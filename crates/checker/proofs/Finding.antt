-- The faults found by searches. Each loop's invariant says that what was tried before place i fails the rule's test, for all
-- functions whose table is searched; so the place that passes is the first, and the end of the list means that none does.
-- What a search answers is an equation with the rule's fault, whatever its contract says: a contract that says something
-- else is refused where the function returns.
use mathlib.Core.Path.{◌≡◌, refl, sym, ap, ap₂, ◌∙◌, subst⁻¹}
use mathlib.Core.Bool.{Bool, true, false, not, ◌&&◌, ◌||◌}
use mathlib.Core.List.{List, [], ◌∷◌, ◌++◌, append_assoc, append-nil}
use mathlib.Core.Logic.{◌⊎◌, inl, inr}
use mathlib.Core.Option.{Option, some, none}
use Prim.Native.Nat.{ℕ, zero, suc, ◌+◌, ◌-◌, ◌%◌, ◌/◌, ◌^◌, ◌<◌, ◌≤◌}
use native.Mathlib.Omega.{arith}
use lib.Bits.{bit_xor}
use lib.Dec.{eqb}
use lib.ListN.{length, get_or, length-map}
use Rattle.std.specs.Prelude.{Ok, Err}
use Rattle.std.proofs.lemmas.List.{nil_from_length}
use borrow.Author.Tests.{eq-eqb, ne_eqb, eqb-true, eqb-false}
use Rattle.rule.specs.Func.{Fn, constant, less, within}
use Rattle.rule.specs.Point.{odd, point_number, smallest}
use Rattle.rule.specs.Cube.{Cube, cube_fn, covered, has_literal, without_literal, cube_at}
use Rattle.rule.specs.Number.{signs, well_formed}
use Rattle.rule.specs.Verdict.{off, missing, literal, cube, first, found, is_found, fault, first_fault, covers_off, off_point, fault_a, fault_b, can_go, goes, fault_c, spare, fault_d}
use Rattle.rule.proofs.Bools.{which}
use Rattle.rule.proofs.Search.{is-first, no_first}
use Rattle.words.specs.Word.{words, size, found_number}
use Rattle.words.specs.Faults.{covered_twice}
use Rattle.words.specs.Contract.{FirstIn, Added}
use Rattle.words.proofs.Answers.{answer-none, answer-some, answer_point}
use Rattle.words.proofs.Turned.{literal_bits}
use Rattle.words.proofs.Searches.{covered_more, twice-more, off-point, off-answer, first_point, literal_search, spare_search}
use Rattle.checker.specs.declared.fault.Fault.TheVariants.{Off, Missing, Literal, Cube as CubeGoes}
use Rattle.checker.specs.Judging.{judged_as, judged_fault, place_number}
use Rattle.checker.specs.Contract.{cubes, off_words, column_goes, GoesFound, ColumnFound, Formed, NoneOff, Covered}

-- The cube at a place of a list of numbers.
pub cube-at : (m : ℕ) (list : List ℕ) (i : ℕ) → i < length list → cube_at (cubes m list) i ≡ signs m (get_or list i 0)
unfolding cube_at
cube-at m [] i h = let z : ⊥ = omega arith in absurd z
cube-at m (x ∷ list) zero h = refl
cube-at m (x ∷ list) (suc i) h = cube-at m list i (omega arith)

pub cubes-long : (m : ℕ) (list : List ℕ) → length (cubes m list) ≡ length list
cubes-long m list = length-map list (signs m)

-- What holds below i and at i holds below i + 1.
pub one_more : (P : ℕ → Type 0) (i : ℕ) → ((j : ℕ) → j < i → P j) → P i → (j : ℕ) → j < i + 1 → P j
one_more P i before here j h = go (which (eqb j i))
  where
    go : (eqb j i ≡ true) ⊎ (eqb j i ≡ false) → P j
    go (inl e) = subst⁻¹ P (eqb-true j i e) here
    go (inr e) = let d = eqb-false j i e in before j (omega arith)

pub below_none : (P : ℕ → Type 0) (j : ℕ) → j < 0 → P j
below_none P j h = let z : ⊥ = omega arith in absurd z

none_accepts : judged_fault none ≡ Ok tt
unfolding judged_fault judged_as first_fault
none_accepts = refl

-- (a) The cubes before place i cover no off point.
pub record OffPassed (m : ℕ) (xs list : List ℕ) (i : ℕ) : Type 0 where
  pub passed : (L U : Fn m) → xs ≡ off_words m U → (j : ℕ) → j < i → covers_off m L U (cubes m list) j ≡ false

module _ (m : ℕ) (xs list : List ℕ) where
  pub off-start : OffPassed m xs list 0
  off-start = record { passed = λ L U e. below_none (λ j. covers_off m L U (cubes m list) j ≡ false) }

  module _ (i r : ℕ) (p : OffPassed m xs list i) (h : i < length list) (a : FirstIn m (get_or list i 0 % 65536) (get_or list i 0 / 65536) xs r) where
    off_test : (L U : Fn m) → xs ≡ off_words m U → covers_off m L U (cubes m list) i ≡ not (eqb r 0)
    unfolding covers_off signs
    off_test L U e =
        ap not
        (ap (λ c. within m (cube_fn m c) U) (cube-at m list i h) ∙ off-answer m (get_or list i 0 % 65536) (get_or list i 0 / 65536) U a e)

    pub off_next : r ≡ 0 → OffPassed m xs list (i + 1)
    off_next z =
        record {
          passed = λ L U e.
              one_more (λ j. covers_off m L U (cubes m list) j ≡ false) i (p.passed L U e) (off_test L U e ∙ ap not (eq-eqb r 0 z));
        }

    off-first : (r ≡ 0 → ⊥) → (L U : Fn m) → xs ≡ off_words m U → first (covers_off m L U (cubes m list)) (length (cubes m list)) ≡ some i
    off-first n L U e =
        is-first (record {
          place = omega (arith, cubes-long m list);
          passes = off_test L U e ∙ ap not (ne_eqb r 0 n);
          before = p.passed L U e;
        })

    off-number : (r ≡ 0 → ⊥) → (L U : Fn m) → xs ≡ off_words m U → point_number (off_point m L U (cubes m list) i) ≡ r - 1
    unfolding off_point signs
    off-number n L U e =
        let o = smallest m (less m (cube_fn m (cube_at (cubes m list) i)) U) in
        let q : r ≡ found_number o =
        off-point m (get_or list i 0 % 65536) (get_or list i 0 / 65536) U a e ∙
        ap (λ c. found_number (smallest m (less m (cube_fn m c) U))) (sym (cube-at m list i h)) in
        answer_point o (λ z. n (q ∙ z)) ∙ ap (λ y. y - 1) (sym q)

    pub off-here : (q : ℕ) → r ≡ q + 1 → (L U : Fn m) → xs ≡ off_words m U → Err (Off (i + 1) q) ≡ judged_fault (fault_a m L U (cubes m list))
    unfolding fault_a fault judged_fault judged_as first_fault
    off-here q b L U e =
        let n : r ≡ 0 → ⊥ = λ z. let x : ⊥ = omega arith in x in
        let k : r - 1 ≡ q = omega arith in
        sym
        (ap (λ o. judged_fault (fault (λ j. off (j + 1) (point_number (off_point m L U (cubes m list) j))) o)) (off-first n L U e) ∙
        ap (λ y. judged_as (off (i + 1) y)) (off-number n L U e ∙ k))

  pub off_end : (i : ℕ) → OffPassed m xs list i → length list ≤ i → (L U : Fn m) → xs ≡ off_words m U → Ok tt ≡ judged_fault (fault_a m L U (cubes m list))
  unfolding fault_a fault
  off_end i p h L U e =
      sym
      (ap (λ o. judged_fault (fault (λ j. off (j + 1) (point_number (off_point m L U (cubes m list) j))) o))
      (no_first (covers_off m L U (cubes m list)) (length (cubes m list))
      (λ j l. p.passed L U e j (omega (arith, cubes-long m list)))) ∙ none_accepts)

-- (b) The smallest point of the table, if there is one.
module _ (m : ℕ) (xs : List ℕ) (r : ℕ) (a : FirstIn m 0 0 xs r) where
  pub missing-none : r ≡ 0 → (L U : Fn m) (cs : List Cube) → xs ≡ words m (less m L (covered m cs)) → Ok tt ≡ judged_fault (fault_b m L U cs)
  unfolding fault_b fault
  missing-none z L U cs e =
      let f = less m L (covered m cs) in
      sym
      (ap (λ o. judged_fault (fault (λ p. missing (point_number p)) o)) (answer-none (smallest m f) (sym (first_point m f a e) ∙ z)) ∙
      none_accepts)

  pub missing-some : (p : ℕ) → r ≡ p + 1 → (L U : Fn m) (cs : List Cube) → xs ≡ words m (less m L (covered m cs)) → Err (Missing p) ≡ judged_fault (fault_b m L U cs)
  unfolding fault_b fault judged_fault judged_as first_fault
  missing-some p b L U cs e =
      let n : r ≡ 0 → ⊥ = λ z. let x : ⊥ = omega arith in x in
      let k : r - 1 ≡ p = omega arith in
      let o = smallest m (less m L (covered m cs)) in
      let q : r ≡ found_number o = first_point m (less m L (covered m cs)) a e in
      sym
      (ap (λ o. judged_fault (fault (λ p. missing (point_number p)) o)) (answer-some o (λ z. n (q ∙ z))) ∙
      ap (λ y. judged_as (missing y)) (answer_point o (λ z. n (q ∙ z)) ∙ ap (λ y. y - 1) (sym q) ∙ k))

-- (c) Whether a column's literal can go.
module _ (m k x : ℕ) (xs : List ℕ) (t : Bool) (column : k < m) (e : t ≡ (odd (x % 65536 / 2 ^ k) || odd (x / 65536 / 2 ^ k))) where
  literal-told : has_literal (signs m x) k ≡ t
  unfolding signs
  literal-told = literal_bits m k (x % 65536) (x / 65536) column ∙ sym e

  pub goes_not : t ≡ false → GoesFound m xs x k false
  unfolding column_goes
  goes_not f =
      record {
        answer = λ U q w g.
            sym (ap (λ b. b && within m (cube_fn m (without_literal (signs m x) k)) U) (literal-told ∙ f));
      }

  pub goes_by : (r : ℕ) → t ≡ true → FirstIn m (bit_xor (x % 65536) (2 ^ k)) (bit_xor (x / 65536) (2 ^ k)) xs r → GoesFound m xs x k (eqb r 0)
  unfolding column_goes signs well_formed
  goes_by r f a =
      record {
        answer = λ U q w g.
            sym
            (ap₂ ◌&&◌ (literal-told ∙ f)
            (literal_search m (x % 65536) (x / 65536) k U a q (literal-told ∙ f) w g));
      }

-- The columns before k have no literal that can go.
pub record ColumnPassed (m : ℕ) (xs : List ℕ) (x k : ℕ) : Type 0 where
  pub passed : (U : Fn m) → xs ≡ off_words m U → well_formed m x ≡ true → within m (cube_fn m (signs m x)) U ≡ true
      → (j : ℕ) → j < k → column_goes m U (signs m x) j ≡ false

module _ (m : ℕ) (xs : List ℕ) (x : ℕ) where
  pub column-start : ColumnPassed m xs x 0
  column-start = record { passed = λ U e w g. below_none (λ j. column_goes m U (signs m x) j ≡ false) }

  pub column-next : (k : ℕ) (r : Bool) → ColumnPassed m xs x k → GoesFound m xs x k r → r ≡ false → ColumnPassed m xs x (k + 1)
  column-next k r p a f =
      record {
        passed = λ U e w g.
            one_more (λ j. column_goes m U (signs m x) j ≡ false) k (p.passed U e w g) (sym (a.answer U e w g) ∙ f);
      }

  pub column-here : (k : ℕ) (r : Bool) → k < m → ColumnPassed m xs x k → GoesFound m xs x k r → r ≡ true → ColumnFound m xs x (k + 1)
  unfolding place_number
  column-here k r h p a t =
      record {
        bound = omega arith;
        answer = λ U e w g.
            sym
            (ap place_number
            (is-first (record { place = h; passes = sym (a.answer U e w g) ∙ t; before = p.passed U e w g })));
      }

  pub column_end : (k : ℕ) → m ≤ k → ColumnPassed m xs x k → ColumnFound m xs x 0
  unfolding place_number
  column_end k h p =
      record {
        bound = omega arith;
        answer = λ U e w g.
            sym (ap place_number (no_first (column_goes m U (signs m x)) m (λ j l. p.passed U e w g j (omega arith))));
      }

-- What the number of a place tells.
place_none : (o : Option ℕ) → place_number o ≡ 0 → is_found o ≡ false
unfolding place_number is_found
place_none none e = refl
place_none (some k) e = let z : ⊥ = omega arith in absurd z

place-some : (o : Option ℕ) → (place_number o ≡ 0 → ⊥) → is_found o ≡ true
unfolding place_number is_found
place-some none n = absurd (n refl)
place-some (some k) n = refl

place_is : (o : Option ℕ) → (place_number o ≡ 0 → ⊥) → found o 0 ≡ place_number o - 1
unfolding place_number found
place_is none n = absurd (n refl)
place_is (some k) n = omega arith

-- The cubes before place i have no literal that can go.
pub record LiteralPassed (m : ℕ) (xs list : List ℕ) (i : ℕ) : Type 0 where
  pub passed : (L U : Fn m) → xs ≡ off_words m U → Formed m list → NoneOff m U list
      → (j : ℕ) → j < i → goes m L U (cubes m list) j ≡ false

module _ (m : ℕ) (xs list : List ℕ) where
  pub literal-start : LiteralPassed m xs list 0
  literal-start = record { passed = λ L U e w g. below_none (λ j. goes m L U (cubes m list) j ≡ false) }

  module _ (i r : ℕ) (p : LiteralPassed m xs list i) (h : i < length list) (a : ColumnFound m xs (get_or list i 0) r) where
    column-told : (L U : Fn m) → xs ≡ off_words m U → Formed m list → NoneOff m U list
        → r ≡ place_number (first (can_go m L U (cubes m list) i) m)
    unfolding can_go column_goes
    column-told L U e w g =
        a.answer U e (w.formed i h) (g.inside i h) ∙
        ap (λ c. place_number (first (column_goes m U c) m)) (sym (cube-at m list i h))

    pub literal-next : r ≡ 0 → LiteralPassed m xs list (i + 1)
    unfolding goes
    literal-next z =
        record {
          passed = λ L U e w g.
              one_more (λ j. goes m L U (cubes m list) j ≡ false) i (p.passed L U e w g)
              (place_none (first (can_go m L U (cubes m list) i) m) (sym (column-told L U e w g) ∙ z));
        }

    literal-first : (r ≡ 0 → ⊥) → (L U : Fn m) → xs ≡ off_words m U → Formed m list → NoneOff m U list
        → first (goes m L U (cubes m list)) (length (cubes m list)) ≡ some i
    unfolding goes
    literal-first n L U e w g =
        is-first (record {
          place = omega (arith, cubes-long m list);
          passes = place-some (first (can_go m L U (cubes m list) i) m) (λ z. n (column-told L U e w g ∙ z));
          before = p.passed L U e w g;
        })

    pub literal-here : (k : ℕ) → r ≡ k + 1 → (L U : Fn m) → xs ≡ off_words m U → Formed m list → NoneOff m U list
        → Err (Literal (i + 1) k) ≡ judged_fault (fault_c m L U (cubes m list))
    unfolding fault_c fault judged_fault judged_as first_fault
    literal-here k b L U e w g =
        let n : r ≡ 0 → ⊥ = λ z. let x : ⊥ = omega arith in x in
        let d : r - 1 ≡ k = omega arith in
        let o = first (can_go m L U (cubes m list) i) m in
        let q : r ≡ place_number o = column-told L U e w g in
        sym
        (ap (λ o. judged_fault (fault (λ j. literal (j + 1) (found (first (can_go m L U (cubes m list) j) m) 0)) o))
        (literal-first n L U e w g) ∙
        ap (λ y. judged_as (literal (i + 1) y)) (place_is o (λ z. n (q ∙ z)) ∙ ap (λ y. y - 1) (sym q) ∙ d))

  pub literal_end : (i : ℕ) → LiteralPassed m xs list i → length list ≤ i → (L U : Fn m) → xs ≡ off_words m U → Formed m list → NoneOff m U list
      → Ok tt ≡ judged_fault (fault_c m L U (cubes m list))
  unfolding fault_c fault
  literal_end i p h L U e w g =
      sym
      (ap (λ o. judged_fault (fault (λ j. literal (j + 1) (found (first (can_go m L U (cubes m list) j) m) 0)) o))
      (no_first (goes m L U (cubes m list)) (length (cubes m list))
      (λ j l. p.passed L U e w g j (omega (arith, cubes-long m list)))) ∙ none_accepts)

-- (d) No cube before place i can go.
pub record CubePassed (m : ℕ) (xs list : List ℕ) (i : ℕ) : Type 0 where
  pub passed : (L U : Fn m) → xs ≡ words m (less m L (covered_twice m (cubes m list))) → within m L (covered m (cubes m list)) ≡ true
      → (j : ℕ) → j < i → spare m L U (cubes m list) j ≡ false

module _ (m : ℕ) (xs list : List ℕ) where
  pub cube-start : CubePassed m xs list 0
  cube-start = record { passed = λ L U e w. below_none (λ j. spare m L U (cubes m list) j ≡ false) }

  module _ (i r : ℕ) (p : CubePassed m xs list i) (h : i < length list) (a : FirstIn m (get_or list i 0 % 65536) (get_or list i 0 / 65536) xs r) where
    cube_test : (L U : Fn m) → xs ≡ words m (less m L (covered_twice m (cubes m list))) → within m L (covered m (cubes m list)) ≡ true
        → spare m L U (cubes m list) i ≡ eqb r 0
    unfolding spare signs
    cube_test L U e w =
        spare_search m (get_or list i 0 % 65536) (get_or list i 0 / 65536) i L (cubes m list) a e (omega (arith, cubes-long m list)) (sym (cube-at m list i h)) w

    pub cube-next : (r ≡ 0 → ⊥) → CubePassed m xs list (i + 1)
    cube-next n =
        record {
          passed = λ L U e w.
              one_more (λ j. spare m L U (cubes m list) j ≡ false) i (p.passed L U e w) (cube_test L U e w ∙ ne_eqb r 0 n);
        }

    pub cube-here : r ≡ 0 → (L U : Fn m) → xs ≡ words m (less m L (covered_twice m (cubes m list))) → within m L (covered m (cubes m list)) ≡ true
        → Err (CubeGoes (i + 1)) ≡ judged_fault (fault_d m L U (cubes m list))
    unfolding fault_d fault judged_fault judged_as first_fault
    cube-here z L U e w =
        sym
        (ap (λ o. judged_fault (fault (λ j. cube (j + 1)) o))
        (is-first (record {
          place = omega (arith, cubes-long m list);
          passes = cube_test L U e w ∙ eq-eqb r 0 z;
          before = p.passed L U e w;
        })))

  pub cube_end : (i : ℕ) → CubePassed m xs list i → length list ≤ i → (L U : Fn m) → xs ≡ words m (less m L (covered_twice m (cubes m list))) → within m L (covered m (cubes m list)) ≡ true
      → Ok tt ≡ judged_fault (fault_d m L U (cubes m list))
  unfolding fault_d fault
  cube_end i p h L U e w =
      sym
      (ap (λ o. judged_fault (fault (λ j. cube (j + 1)) o))
      (no_first (spare m L U (cubes m list)) (length (cubes m list))
      (λ j l. p.passed L U e w j (omega (arith, cubes-long m list)))) ∙ none_accepts)

-- The tables of what the cubes cover that were taken from the end of a list, of which the rest is left.
pub record Covering (m : ℕ) (list rest : List ℕ) (once again : List ℕ) : Type 0 where
  pub taken : List ℕ
  pub whole : list ≡ rest ++ taken
  pub first : length once ≡ size m
  pub second : length again ≡ size m
  pub covers : once ≡ words m (covered m (cubes m taken))
  pub twice : again ≡ words m (covered_twice m (cubes m taken))

module _ (m : ℕ) (list : List ℕ) where
  pub covering_start : {rest a b : List ℕ} → rest ≡ list → length a ≡ size m → length b ≡ size m
      → a ≡ words m (constant m false) → b ≡ words m (constant m false) → Covering m list rest a b
  unfolding covered covered_twice
  covering_start {rest} r p q e d =
      record { taken = []; whole = sym r ∙ sym (append-nil rest); first = p; second = q; covers = e; twice = d }

  pub covering_next : {rest rest' a b a' b' : List ℕ} (x : ℕ) → Covering m list rest a b → rest ≡ rest' ++ (x ∷ [])
      → Added m (x % 65536) (x / 65536) a b a' b' → length a' ≡ length a → length b' ≡ length b → Covering m list rest' a' b'
  unfolding signs
  covering_next {rest' = rest'} x p r d ka kb =
      record {
        taken = x ∷ p.taken;
        whole = p.whole ∙ ap (λ l. l ++ p.taken) r ∙ append_assoc rest' (x ∷ []) p.taken;
        first = ka ∙ p.first;
        second = kb ∙ p.second;
        covers = covered_more m (x % 65536) (x / 65536) (cubes m p.taken) d p.covers;
        twice = twice-more m (x % 65536) (x / 65536) (cubes m p.taken) d p.covers p.twice;
      }

  pub covering_end : {rest a b : List ℕ} → length rest ≡ 0 → Covering m list rest a b → Covered m list a b
  covering_end {rest} {a} {b} h p =
      let e : p.taken ≡ list = sym (p.whole ∙ ap (λ l. l ++ p.taken) (nil_from_length rest h)) in
      record {
        covers = p.covers ∙ ap (λ l. words m (covered m (cubes m l))) e;
        twice = p.twice ∙ ap (λ l. words m (covered_twice m (cubes m l))) e;
      }

-- A bit set in one of two numbers.
pub first_set : (a b : ℕ) → a % 2 ≡ 1 → eqb (a % 2) 1 ≡ (odd a || odd b)
unfolding odd
first_set a b e = let t = eq-eqb (a % 2) 1 e in t ∙ sym (ap (λ t. t || odd b) t)

pub second_decides : (a b : ℕ) → (a % 2 ≡ 1 → ⊥) → eqb (b % 2) 1 ≡ (odd a || odd b)
unfolding odd
second_decides a b n = sym (ap (λ t. t || odd b) (ne_eqb (a % 2) 1 n))
