-- The input of generator and checker, a table with two roots and a list slice: one law for each way out of its conditions,
-- what is known where all are kept, and that clearing the records past the count changes nothing of it.
use mathlib.Core.Path.{◌≡◌, refl, sym, ap, ap₂, ◌∙◌}
use mathlib.Core.Bool.{Bool, true, false, ◌&&◌}
use mathlib.Core.List.{List, [], ◌∷◌, ◌++◌}
use Prim.Native.Nat.{ℕ, ◌+◌, ◌<◌, ◌≤◌}
use native.Mathlib.Omega.{arith}
use lib.Dec.{leb}
use borrow.Author.Tests.{leb-true, le-leb, lt-leb}
use Rattle.std.specs.Prelude.{Result, Ok, Err}
use Rattle.rule.specs.Func.{within}
use Rattle.rule.specs.Refusal.{Condition, first_broken, number_of, refusal_of, passed, out_of_range, not_within, list_over, nodes_lack}
use Rattle.rule.specs.declared.refusal.Refusal.{Refusal}
use Rattle.rule.proofs.Refusals.{passed_err, passed_ok, refused_named}
use Rattle.rule.proofs.Bools.{and_left, and_right}
use Rattle.graph.specs.Table.{table_of, fn_of}
use Rattle.graph.specs.Sound.{Sound, RootedTwice}
use Rattle.graph.specs.Entry.{table_conditions, input_conditions, in_range, cleared}
use Rattle.graph.proofs.Agree.{agree_fn, agree-good}
use Rattle.graph.proofs.Refusals.{broken-here, kept_next, none-broken, first-kept, others_kept, broken-before, kept-before, before-kept, broken_below, sound_unbroken, unbroken_sound, passed_none, passed_sound}
use Rattle.graph.proofs.Entries.{root_in_range, both_in, first_out, second-out, cleared-agree, cleared-sized}

module _ (n : ℕ) (c : ℕ) (v : List ℕ) (l : List ℕ) (h : List ℕ) (a : ℕ) (b : ℕ) (size : ℕ) where
  abbrev range_kept : Condition
  range_kept = record { number = out_of_range; kept = in_range c a && in_range c b }

  abbrev inside_kept : Condition
  inside_kept = record { number = not_within; kept = within n (fn_of (table_of v l h) 0 n a) (fn_of (table_of v l h) 0 n b) }

  abbrev size_kept : Condition
  size_kept = record { number = list_over; kept = leb size 16384 }

  -- What the test of the input answers.
  abbrev pub Answers : Result Unit Refusal → Type 0
  Answers r = r ≡ passed (first_broken (input_conditions n c v l h a b size))

  -- What is refused has the number of the first broken condition, and where nothing is, none is broken.
  pub refused_number : (e : Refusal) → Answers (Err e) → number_of e ≡ first_broken (input_conditions n c v l h a b size)
  unfolding input_conditions table_conditions
  refused_number e q = refused_named (input_conditions n c v l h a b size) e refl (sym q)

  pub passed_number : (u : Unit) → Answers (Ok u) → first_broken (input_conditions n c v l h a b size) ≡ 0
  passed_number u q = passed_ok (first_broken (input_conditions n c v l h a b size)) u (sym q)

  pub bad_table : (e : Refusal) → Err e ≡ passed (first_broken (table_conditions n c v l h)) → Answers (Err e)
  unfolding input_conditions
  bad_table e q =
      let r = first_broken (table_conditions n c v l h) in
      let p = passed_err r e (sym q) in
      q ∙ ap passed (sym (broken-before (table_conditions n c v l h) (range_kept ∷ inside_kept ∷ size_kept ∷ []) r (λ o. omega (arith, p.1)) refl))

  module _ (u : Unit) (e : Ok u ≡ passed (first_broken (table_conditions n c v l h))) where
    past_table : first_broken (input_conditions n c v l h a b size) ≡ first_broken (range_kept ∷ inside_kept ∷ size_kept ∷ [])
    unfolding input_conditions table_conditions
    past_table = kept-before (table_conditions n c v l h) (range_kept ∷ inside_kept ∷ size_kept ∷ []) refl (passed_none n c v l h u e)

    one-out : (in_range c a && in_range c b) ≡ false → Answers (Err (refusal_of out_of_range))
    one-out f = sym (ap passed (past_table ∙ broken-here range_kept (inside_kept ∷ size_kept ∷ []) f))

    pub lower-out : in_range c a ≡ false → Answers (Err (refusal_of out_of_range))
    lower-out f = one-out (first_out c a b f)

    pub upper-out : in_range c b ≡ false → Answers (Err (refusal_of out_of_range))
    upper-out f = one-out (second-out c a b f)

    module _ (ra : in_range c a ≡ true) (rb : in_range c b ≡ true) where
      pub within-roots : RootedTwice n c v l h 0 a b
      within-roots =
          let s = passed_sound n c v l h u e in
          record { sound = s; column = omega arith; first = (root_in_range n c v l h a s ra).number; second = (root_in_range n c v l h b s rb).number }

      past_range : first_broken (input_conditions n c v l h a b size) ≡ first_broken (inside_kept ∷ size_kept ∷ [])
      past_range = past_table ∙ kept_next range_kept (inside_kept ∷ size_kept ∷ []) (both_in c a b ra rb)

      -- The walk answers for all columns what the condition asks.
      module _ (t : Bool) (q : (m : ℕ) → 0 + m ≡ n → t ≡ within m (fn_of (table_of v l h) 0 m a) (fn_of (table_of v l h) 0 m b)) where
        pub not_inside : t ≡ false → Answers (Err (refusal_of not_within))
        not_inside f = sym (ap passed (past_range ∙ broken-here inside_kept (size_kept ∷ []) (sym (q n (omega arith)) ∙ f)))

        module _ (i : t ≡ true) where
          past_inside : first_broken (input_conditions n c v l h a b size) ≡ first_broken (size_kept ∷ [])
          past_inside = past_range ∙ kept_next inside_kept (size_kept ∷ []) (sym (q n (omega arith)) ∙ i)

          pub size-over : 16384 < size → Answers (Err (refusal_of list_over))
          size-over w = sym (ap passed (past_inside ∙ broken-here size_kept [] (lt-leb size 16384 w)))

          pub none_over : size ≤ 16384 → Answers (Ok tt)
          none_over w = sym (ap passed (past_inside ∙ kept_next size_kept [] (le-leb size 16384 w) ∙ none-broken))

  -- No number of the input is over 6, and conditions after the input's decide once these are kept.
  pub input_below : first_broken (input_conditions n c v l h a b size) < nodes_lack
  unfolding input_conditions table_conditions
  input_below = broken_below nodes_lack (omega arith) (input_conditions n c v l h a b size) refl

  pub past_input : (ds : List Condition) → first_broken (input_conditions n c v l h a b size) ≡ 0 → first_broken (input_conditions n c v l h a b size ++ ds) ≡ first_broken ds
  unfolding input_conditions table_conditions
  past_input ds e = kept-before (input_conditions n c v l h a b size) ds refl e

  -- The input is good.
  module _ (good : first_broken (input_conditions n c v l h a b size) ≡ 0) where
    tables_kept : first_broken (table_conditions n c v l h) ≡ 0
    unfolding input_conditions
    tables_kept = before-kept (table_conditions n c v l h) (range_kept ∷ inside_kept ∷ size_kept ∷ []) good

    pub input_sound : Sound n c v l h
    input_sound = unbroken_sound n c v l h (first_broken (table_conditions n c v l h)) refl tables_kept

    rest-kept : first_broken (range_kept ∷ inside_kept ∷ size_kept ∷ []) ≡ 0
    unfolding input_conditions table_conditions
    rest-kept = sym (kept-before (table_conditions n c v l h) (range_kept ∷ inside_kept ∷ size_kept ∷ []) refl tables_kept) ∙ good

    pub input_ranges : (in_range c a && in_range c b) ≡ true
    input_ranges = first-kept range_kept (inside_kept ∷ size_kept ∷ []) (λ q. omega arith) rest-kept

    pub input_roots : RootedTwice n c v l h 0 a b
    input_roots =
        record {
          sound = input_sound;
          column = omega arith;
          first = (root_in_range n c v l h a input_sound (and_left (in_range c a) (in_range c b) input_ranges)).number;
          second = (root_in_range n c v l h b input_sound (and_right (in_range c a) (in_range c b) input_ranges)).number;
        }

    past_ranges : first_broken (inside_kept ∷ size_kept ∷ []) ≡ 0
    past_ranges = others_kept range_kept (inside_kept ∷ size_kept ∷ []) (λ q. omega arith) rest-kept

    pub input_inside : within n (fn_of (table_of v l h) 0 n a) (fn_of (table_of v l h) 0 n b) ≡ true
    input_inside = first-kept inside_kept (size_kept ∷ []) (λ q. omega arith) past_ranges

    pub input_size : size ≤ 16384
    input_size = leb-true size 16384 (first-kept size_kept [] (λ q. omega arith) (others_kept inside_kept (size_kept ∷ []) (λ q. omega arith) past_ranges))

  -- And what makes it good.
  pub good_input : Sound n c v l h → (in_range c a && in_range c b) ≡ true → within n (fn_of (table_of v l h) 0 n a) (fn_of (table_of v l h) 0 n b) ≡ true → size ≤ 16384 → first_broken (input_conditions n c v l h a b size) ≡ 0
  unfolding input_conditions table_conditions
  good_input s ranged inside u =
      kept-before (table_conditions n c v l h) (range_kept ∷ inside_kept ∷ size_kept ∷ []) refl (sound_unbroken n c v l h s) ∙
      kept_next range_kept (inside_kept ∷ size_kept ∷ []) ranged ∙
      kept_next inside_kept (size_kept ∷ []) inside ∙
      kept_next size_kept [] (le-leb size 16384 u) ∙
      none-broken

-- A shorter list slice is good too.
module _ (n : ℕ) (c : ℕ) (v : List ℕ) (l : List ℕ) (h : List ℕ) (a : ℕ) (b : ℕ) (size : ℕ) (good : first_broken (input_conditions n c v l h a b size) ≡ 0) where
  pub shorter_good : (fewer : ℕ) → fewer ≤ size → first_broken (input_conditions n c v l h a b fewer) ≡ 0
  shorter_good fewer u =
      good_input n c v l h a b fewer (input_sound n c v l h a b size good) (input_ranges n c v l h a b size good)
      (input_inside n c v l h a b size good) (omega (arith, input_size n c v l h a b size good))

  -- So is the table with the records past the count cleared, and its roots have the same functions.
  cleared-sound : Sound n c (cleared c v) (cleared c l) (cleared c h)
  cleared-sound =
      let s = input_sound n c v l h a b size good in
      record {
        sized = cleared-sized s.sized;
        columns = s.columns;
        good = agree-good n (table_of v l h) (table_of (cleared c v) (cleared c l) (cleared c h)) c (cleared-agree s.sized) s.good;
      }

  pub lower-cleared : fn_of (table_of (cleared c v) (cleared c l) (cleared c h)) 0 n a ≡ fn_of (table_of v l h) 0 n a
  lower-cleared =
      let r = input_roots n c v l h a b size good in
      agree_fn (table_of v l h) (table_of (cleared c v) (cleared c l) (cleared c h)) c (cleared-agree r.sound.sized) n r.sound.good n 0 a r.first

  pub upper-cleared : fn_of (table_of (cleared c v) (cleared c l) (cleared c h)) 0 n b ≡ fn_of (table_of v l h) 0 n b
  upper-cleared =
      let r = input_roots n c v l h a b size good in
      agree_fn (table_of v l h) (table_of (cleared c v) (cleared c l) (cleared c h)) c (cleared-agree r.sound.sized) n r.sound.good n 0 b r.second

  pub cleared-good : first_broken (input_conditions n c (cleared c v) (cleared c l) (cleared c h) a b size) ≡ 0
  cleared-good =
      good_input n c (cleared c v) (cleared c l) (cleared c h) a b size cleared-sound (input_ranges n c v l h a b size good)
      (ap₂ (within n) lower-cleared upper-cleared ∙ input_inside n c v l h a b size good)
      (input_size n c v l h a b size good)
