-- The entry of the generator: what it asks of the functions that it calls, and one law for each way out, from the conditions in
-- their order.
use mathlib.Core.Path.{◌≡◌, refl, sym, ap, ◌∙◌, subst, subst⁻¹, transport}
use mathlib.Core.Bool.{Bool, true, false, cond, not}
use mathlib.Core.List.{List, [], ◌∷◌, ◌++◌, map}
use Prim.Native.Nat.{ℕ, zero, suc, ◌+◌, ◌-◌, ◌*◌, ◌^◌, ◌<◌, ◌≤◌}
use native.Mathlib.Nat.{pow-le-pow_right}
use native.Mathlib.Omega.{arith}
use lib.Dec.{eqb, leb, ltb, eqb-suc-zero}
use lib.ListN.{length, get_or, drop, replicate, length-map, length-replicate}
use lib.Seq.{sets, sets-eq, length-sets}
use borrow.Author.Tests.{le-leb, lt-leb, lt-ltb, ne_eqb}
use Rattle.std.specs.Prelude.{Option, Some, None, Result, Ok, Err}
use Rattle.std.specs.Result.{IsErrAnd}
use Rattle.rule.specs.Func.{within}
use Rattle.rule.specs.Cube.{Cube}
use Rattle.rule.specs.Number.{cube_number}
use Rattle.rule.specs.Nodes.{need}
use Rattle.rule.specs.Rule.{list_of, list_numbers}
use Rattle.rule.specs.Refusal.{Condition, first_broken, nodes_lack, list_lacks, refusal_of, passed}
use Rattle.rule.specs.declared.refusal.Refusal.{Refusal}
use Rattle.rule.specs.declared.refusal.Refusal.TheVariants.{NodesLack, ListLacks}
use Rattle.rule.specs.declared.refusal.Refused.{Refused}
use Rattle.rule.proofs.Bools.{and_intro}
use Rattle.rule.proofs.Refusals.{passed_ok, passed_err, first_named}
use Rattle.graph.specs.Table.{table_of, fn_of, functions, Agree}
use Rattle.graph.specs.Lent.{input_tests, table, SharesIn, SameSlices, GivenBack}
use Rattle.graph.specs.Sound.{Sound, RootedTwice}
use Rattle.graph.specs.Entry.{table_conditions, input_conditions, cleared}
use Rattle.graph.specs.declared.table.TableRef.{TableRef}
use Rattle.graph.specs.declared.build.TableMut.{TableMut}
use Rattle.graph.proofs.Refusals.{broken-here, kept_next, none-broken, broken-before}
use Rattle.graph.proofs.Roots.{input_below, past_input, input_sound, input_inside, input_roots}
use Rattle.graph.proofs.Clearing.{cleared_alike}
use Rattle.graph.proofs.Records.{functions-length}
use Rattle.listmemo.specs.Copy.{numbers_under}
use Rattle.list.specs.Generating.{Listable, ListedDone, ListedFull, ListedOf, Nested, FilledIn}
use Rattle.list.specs.declared.generator.Generator.{Generator}
use Rattle.list.proofs.Calls.{ListPromise}
use Rattle.list.specs.Entry.{numbers_of, numbers_for, lower, upper, the_list, room_conditions, refusal, answer_for, changes_nothing, table_left, room_left, Generates, GeneratesIn}

-- A room of zeros, with a list stored from its start.
drop_zeros : (i : ℕ) (k : ℕ) → drop i (replicate {A = ℕ} k 0) ≡ replicate (k - i) 0
drop_zeros zero k = let e : k ≡ k - 0 = omega arith in ap (λ j. replicate j 0) e
drop_zeros (suc i) zero = let e : 0 ≡ 0 - suc i = omega arith in ap (λ j. replicate j 0) e
drop_zeros (suc i) (suc k) = let e : k - i ≡ suc k - suc i = omega arith in drop_zeros i k ∙ ap (λ j. replicate j 0) e

store_all : (k : ℕ) (xs : List ℕ) → length xs ≤ k → sets (replicate k 0) 0 xs ≡ xs ++ replicate (k - length xs) 0
store_all k xs u =
    sets-eq xs (replicate k 0) 0 (omega (arith, length-replicate {A = ℕ} k 0)) ∙
    (let e : k - (0 + length xs) ≡ k - length xs = omega arith in
    ap (λ r. xs ++ r) (drop_zeros (0 + length xs) k ∙ ap (λ j. replicate j 0) e))

-- Of two the first, where the test says so.
first_chosen : (t : Bool) (x : List ℕ) (y : List ℕ) → t ≡ true → x ≡ cond t x y
first_chosen t x y e = ap (λ b. cond b x y) (sym e)

-- Cubes with nothing chosen before them have their own numbers.
own-numbers : (cs : List Cube) → numbers_under 0 1 cs ≡ map cube_number cs
unfolding numbers_under
own-numbers [] = refl
own-numbers (x ∷ cs) = λ i. (let e : 0 + 1 * cube_number x ≡ cube_number x = omega arith in e) i ∷ own-numbers cs i

-- What a list from column 0 on asks is what nested roots have.
pub list_asks : (t : TableMut) {a : ℕ} {b : ℕ} → Nested t a b → Listable t.columns t.count t.level.now t.low.now t.high.now 0 0 1 0 a b
list_asks t {a} {b} p =
    record {
      roots = p.roots;
      inside = λ m s. subst (λ j. within j (fn_of (table t) 0 j a) (fn_of (table t) 0 j b) ≡ true) (omega arith) p.inside;
      weight = refl;
      literals = omega arith;
      place =
          let u : 3 ^ (t.columns - 0) ≤ 3 ^ 16 = pow-le-pow_right {n = 3} (omega arith) {i = t.columns - 0} {j = 16} (omega (arith, p.roots.sound.columns)) in
          omega arith;
    }

module _ (n : ℕ) (c : ℕ) (v : List ℕ) (l : List ℕ) (h : List ℕ) (a : ℕ) (b : ℕ) (room : List ℕ) where
  abbrev need_kept : Condition
  need_kept = record { number = nodes_lack; kept = leb (need (functions n (table_of v l h) c) n (lower n c v l h a b room) (upper n c v l h a b room)) (length v) }

  abbrev list_kept : Condition
  list_kept = record { number = list_lacks; kept = leb (length (the_list n c v l h a b room)) (length room) }

  -- The answer for a refusal has its numbers.
  answer-numbers : (q : ℕ) → refusal n c v l h a b room ≡ q → numbers_of (answer_for n c v l h a b room q) ≡ numbers_for n c v l h a b room q
  unfolding numbers_of answer_for numbers_for refusal input_conditions table_conditions room_conditions
  answer-numbers zero e = refl
  answer-numbers (suc q) e =
      λ i.
      record {
        refusal = first_named (input_conditions n c v l h a b (length room) ++ room_conditions n c v l h a b room) q refl e i;
        returned = cond (eqb (suc q) list_lacks) (length (the_list n c v l h a b room)) 0;
        length = cond (sym (eqb-suc-zero q) i) (length (the_list n c v l h a b room)) 0;
      }

  -- What has to be shown where the refusal is known.
  generates-at : (q : ℕ) → refusal n c v l h a b room ≡ q → (c' : ℕ) (v' : List ℕ) (l' : List ℕ) (h' : List ℕ) (room' : List ℕ) (r : Result ℕ Refused) →
      r ≡ answer_for n c v l h a b room q → c' ≡ c → v' ≡ table_left n c v l h a b room q v → l' ≡ table_left n c v l h a b room q l → h' ≡ table_left n c v l h a b room q h → room' ≡ room_left n c v l h a b room q → Generates n c v l h a b room c' v' l' h' room' r
  generates-at q e c' v' l' h' room' r x k y z w o =
      record {
        answer = x ∙ ap (answer_for n c v l h a b room) (sym e);
        numbers = ap numbers_of x ∙ answer-numbers q e ∙ ap (numbers_for n c v l h a b room) (sym e);
        count = k;
        level = y ∙ ap (λ j. table_left n c v l h a b room j v) (sym e);
        low = z ∙ ap (λ j. table_left n c v l h a b room j l) (sym e);
        high = w ∙ ap (λ j. table_left n c v l h a b room j h) (sym e);
        list = o ∙ ap (room_left n c v l h a b room) (sym e);
      }

  -- A number that returns 0.
  returns_none : (q : ℕ) → (q ≡ 0 → ⊥) → (q ≡ list_lacks → ⊥) → Err (record { refusal = refusal_of q; returned = 0 }) ≡ answer_for n c v l h a b room q
  unfolding answer_for
  returns_none zero y d = absurd (y refl)
  returns_none (suc q) y d =
      ap (λ t. Err (record { refusal = refusal_of (suc q); returned = cond t (length (the_list n c v l h a b room)) 0 })) (sym (ne_eqb (suc q) list_lacks d))

  -- A broken condition of the input is the answer, and nothing is changed.
  module _ (q : ℕ) (e : first_broken (input_conditions n c v l h a b (length room)) ≡ q) (z : q ≡ 0 → ⊥) where
    refusal_is : refusal n c v l h a b room ≡ q
    unfolding refusal
    refusal_is = broken-before (input_conditions n c v l h a b (length room)) (room_conditions n c v l h a b room) q z e

    below_7 : q < nodes_lack
    below_7 = omega (arith, e, input_below n c v l h a b (length room))

    nothing_changed : changes_nothing n c v l h a b room q ≡ true
    unfolding changes_nothing
    nothing_changed = and_intro (not (eqb q 0)) (ltb q nodes_lack) (ap not (ne_eqb q 0 z)) (lt-ltb q nodes_lack below_7)

    unchanged : (s : List ℕ) → s ≡ table_left n c v l h a b room q s
    unfolding table_left
    unchanged s = ap (λ t. cond t s (cleared c s)) (sym nothing_changed)

    changes_none : Generates n c v l h a b room c v l h room (Err (record { refusal = refusal_of q; returned = 0 }))
    unfolding room_left
    changes_none =
        generates-at q refusal_is c v l h room _ (returns_none q z (λ o. omega (arith, below_7))) refl (unchanged v) (unchanged l) (unchanged h)
        (first_chosen _ room _ nothing_changed)

  -- The input is good: the conditions of the rooms decide, and what is left of the table is given back.
  module _ (good : first_broken (input_conditions n c v l h a b (length room)) ≡ 0) where
    pub table-good : Sound n c v l h
    table-good = input_sound n c v l h a b (length room) good

    pub inside-kept : within n (lower n c v l h a b room) (upper n c v l h a b room) ≡ true
    unfolding lower upper
    inside-kept = input_inside n c v l h a b (length room) good

    pub roots : RootedTwice n c v l h 0 a b
    roots = input_roots n c v l h a b (length room) good

    by_rooms : refusal n c v l h a b room ≡ first_broken (need_kept ∷ list_kept ∷ [])
    unfolding refusal room_conditions
    by_rooms = past_input n c v l h a b (length room) (need_kept ∷ list_kept ∷ []) good

    -- The records in use are as they were, and the others are cleared.
    given_back : (q : ℕ) → changes_nothing n c v l h a b room q ≡ false → (s : List ℕ) (s₁ : List ℕ) (s' : List ℕ) → s' ≡ cleared c s₁ → length s₁ ≡ length s → ((j : ℕ) → j < c → get_or s₁ j 0 ≡ get_or s j 0) → s' ≡ table_left n c v l h a b room q s
    unfolding table_left
    given_back q f s s₁ s' x y w = x ∙ cleared_alike c s₁ s y w ∙ ap (λ t. cond t s (cleared c s)) (sym f)

    -- After a room of zeros is filled, and the records past those in use are given back.
    module _ (c₁ : ℕ) (v₁ : List ℕ) (l₁ : List ℕ) (h₁ : List ℕ) {room₁ : List ℕ} (room₂ : List ℕ) (zeros : room₁ ≡ replicate (length room) 0)
        {c' : ℕ} {v' : List ℕ} {l' : List ℕ} {h' : List ℕ} (ec : c' ≡ c) (ev : v' ≡ cleared c v₁) (el : l' ≡ cleared c l₁) (eh : h' ≡ cleared c h₁) where
      -- The three slices, given back from a table that keeps the records in use.
      slices : (k : ℕ) → changes_nothing n c v l h a b room k ≡ false → Agree (table_of v l h) (table_of v₁ l₁ h₁) c → length v₁ ≡ length v → length l₁ ≡ length v₁ → length h₁ ≡ length v₁ →
          (v' ≡ table_left n c v l h a b room k v) × (l' ≡ table_left n c v l h a b room k l) × (h' ≡ table_left n c v l h a b room k h)
      unfolding table_of
      slices k f g sv sl sh = (
        given_back k f v v₁ v' ev sv g.level,
        given_back k f l l₁ l' el (omega (arith, table-good.sized.low)) g.low,
        given_back k f h h₁ h' eh (omega (arith, table-good.sized.high)) g.high,
      )

      room-length : length room₁ ≡ length room
      room-length = ap length zeros ∙ length-replicate (length room) 0

      no_nodes : ListedFull n c v l h v₁ l₁ h₁ room₁ room₂ 0 0 1 0 n (lower n c v l h a b room) (upper n c v l h a b room) → {room' : List ℕ} → room' ≡ replicate (length room₂) 0 → Generates n c v l h a b room c' v' l' h' room' (Err (record { refusal = NodesLack; returned = 0 }))
      unfolding need room_left changes_nothing refusal_of
      no_nodes t {room'} er =
          let s = slices nodes_lack refl t.short.kept t.short.length-kept t.short.sized.low t.short.sized.high in
          generates-at nodes_lack
          (by_rooms ∙ broken-here need_kept (list_kept ∷ []) (lt-leb (need (functions n (table_of v l h) c) n (lower n c v l h a b room) (upper n c v l h a b room)) (length v) t.short.lacks))
          c' v' l' h' room' _
          (returns_none nodes_lack (λ y. omega arith) (λ y. omega arith))
          ec s.0 s.1 s.2
          (er ∙ ap (λ j. replicate j 0) (t.room-kept ∙ room-length))

      module _ {g : ℕ} {size : ℕ} (told : ListedDone n c v l h v₁ l₁ h₁ room₁ room₂ 0 0 1 0 n (lower n c v l h a b room) (upper n c v l h a b room) g c₁ size) where
        -- The need fits: it is the count after.
        need-fits : need (functions n (table_of v l h) c) n (lower n c v l h a b room) (upper n c v l h a b room) ≤ length v
        unfolding need
        need-fits = omega (arith, ap length told.run.adds, functions-length n (table_of v₁ l₁ h₁) c₁, told.run.sound.sized.count, told.run.length-kept)

        by_list : refusal n c v l h a b room ≡ first_broken (list_kept ∷ [])
        by_list = by_rooms ∙ kept_next need_kept (list_kept ∷ []) (le-leb (need (functions n (table_of v l h) c) n (lower n c v l h a b room) (upper n c v l h a b room)) (length v) need-fits)

        size_is : size ≡ length (the_list n c v l h a b room)
        unfolding the_list list_numbers
        size_is = told.place ∙ omega (arith, length-map (list_of n (lower n c v l h a b room) (upper n c v l h a b room)) cube_number)

        left : (k : ℕ) → changes_nothing n c v l h a b room k ≡ false → (v' ≡ table_left n c v l h a b room k v) × (l' ≡ table_left n c v l h a b room k l) × (h' ≡ table_left n c v l h a b room k h)
        left k f = slices k f told.run.kept told.run.length-kept told.run.sound.sized.low told.run.sound.sized.high

        written : room₂ ≡ sets (replicate (length room) 0) 0 (the_list n c v l h a b room)
        unfolding the_list list_numbers
        written = told.written ∙ ap (λ s. sets s 0 (numbers_under 0 1 (list_of n (lower n c v l h a b room) (upper n c v l h a b room)))) zeros ∙ ap (sets (replicate (length room) 0) 0) (own-numbers (list_of n (lower n c v l h a b room) (upper n c v l h a b room)))

        room-kept : length room₂ ≡ length room
        room-kept = ap length written ∙ length-sets (replicate (length room) 0) 0 (the_list n c v l h a b room) ∙ length-replicate (length room) 0

        too_long : length room < size → {room' : List ℕ} → room' ≡ replicate (length room₂) 0 → Generates n c v l h a b room c' v' l' h' room' (Err (record { refusal = ListLacks; returned = size }))
        unfolding answer_for room_left changes_nothing refusal_of
        too_long u {room'} er =
            let s = left list_lacks refl in
            generates-at list_lacks (by_list ∙ broken-here list_kept [] (lt-leb (length (the_list n c v l h a b room)) (length room) (omega (arith, size_is)))) c' v' l' h' room' _ (ap (λ x. Err (record { refusal = ListLacks; returned = x })) size_is) ec s.0 s.1 s.2
            (er ∙ ap (λ j. replicate j 0) room-kept)

        delivered : size ≤ length room → Generates n c v l h a b room c' v' l' h' room₂ (Ok size)
        unfolding answer_for room_left changes_nothing
        delivered u =
            let s = left 0 refl in
            let fits : length (the_list n c v l h a b room) ≤ length room = omega (arith, size_is) in
            generates-at 0 (by_list ∙ kept_next list_kept [] (le-leb (length (the_list n c v l h a b room)) (length room) fits) ∙ none-broken) c' v' l' h' room₂ (Ok size) (ap Ok size_is) ec s.0 s.1 s.2
            (written ∙ store_all (length room) (the_list n c v l h a b room) fits)

-- The conditions of the table to be read are those of the table to be built in.
tests-are : {t : TableMut} {s : TableRef} (a : ℕ) (b : ℕ) (size : ℕ) → SharesIn t s → input_tests s a b size ≡ input_conditions t.columns t.count t.level.now t.low.now t.high.now a b size
tests-are a b size q = λ i. input_conditions (q.columns i) (q.count i) (q.level i) (q.low i) (q.high i) a b size

module _ (t : TableMut) (a : ℕ) (b : ℕ) (room : List ℕ) where
  -- What is promised of a refusal with its fields is promised of it.
  refused-is : (t' : TableMut) (room' : List ℕ) (x : Refused) {r : Refusal} {p : ℕ} → x.refusal ≡ r → x.returned ≡ p → GeneratesIn t a b room t' room' (Err (record { refusal = r; returned = p })) → GeneratesIn t a b room t' room' (Err x)
  refused-is t' room' x e f g = transport (λ i. GeneratesIn t a b room t' room' (Err (record { refusal = sym e i; returned = sym f i }))) g

  abbrev inputs : List Condition
  inputs = input_conditions t.columns t.count t.level.now t.low.now t.high.now a b (length room)

  -- The refusal is passed on with 0 for what it returns.
  pub input_refused : {s : TableRef} {r : Refusal} → SharesIn t s → Err r ≡ passed (first_broken (input_tests s a b (length room))) → (x : Result ℕ Refused) → IsErrAnd x (λ y. (y.refusal ≡ r) × (y.returned ≡ 0)) → GeneratesIn t a b room t room x
  input_refused q e (Ok j) k = absurd k
  input_refused {r = r} q e (Err y) k =
      let p = passed_err (first_broken inputs) r (sym (e ∙ ap (λ cs. passed (first_broken cs)) (tests-are a b (length room) q))) in
      refused-is t room y (k.0 ∙ p.2) k.1
      (changes_none t.columns t.count t.level.now t.low.now t.high.now a b room (first_broken inputs) refl (λ z. omega (arith, z, p.1)))

  -- The input is good.
  module _ {s : TableRef} {u : Unit} (q : SharesIn t s) (e : Ok u ≡ passed (first_broken (input_tests s a b (length room)))) where
    good : first_broken inputs ≡ 0
    good = passed_ok (first_broken inputs) u (sym (e ∙ ap (λ cs. passed (first_broken cs)) (tests-are a b (length room) q)))

    pub good_nested : Nested t a b
    good_nested =
        record {
          roots = roots t.columns t.count t.level.now t.low.now t.high.now a b room good;
          inside = input_inside t.columns t.count t.level.now t.low.now t.high.now a b (length room) good;
        }

    pub back_asks : {t₁ : TableMut} → SameSlices t t₁ → (t.count ≤ length t₁.level.now) × (t.count ≤ length t₁.low.now) × (t.count ≤ length t₁.high.now)
    back_asks d =
        let z = (table-good t.columns t.count t.level.now t.low.now t.high.now a b room good).sized in
        (omega (arith, z.count, d.level-long), omega (arith, z.count, z.low, d.low-long), omega (arith, z.count, z.high, d.high-long))

    -- After a room of zeros is filled, and the records past those in use are given back.
    module _ {t₁ : TableMut} {t₂ : TableMut} {room₁ : List ℕ} (room₂ : List ℕ) (zeros : room₁ ≡ replicate (length room) 0) (back : GivenBack t.count t₁ t₂) where
      pub nodes-lack : {room' : List ℕ} → FilledIn t a b room₁ t₁ room₂ None → room' ≡ replicate (length room₂) 0 → (x : Refused) → x.refusal ≡ NodesLack → x.returned ≡ 0 → GeneratesIn t a b room t₂ room' (Err x)
      unfolding FilledIn lower upper
      nodes-lack {room'} f w x i j = refused-is t₂ room' x i j (no_nodes t.columns t.count t.level.now t.low.now t.high.now a b room good t₁.count t₁.level.now t₁.low.now t₁.high.now room₂ zeros back.count back.level back.low back.high f w)

      pub list-lacks : {room' : List ℕ} (size : ℕ) → FilledIn t a b room₁ t₁ room₂ (Some size) → length room < size → room' ≡ replicate (length room₂) 0 → (x : Refused) → x.refusal ≡ ListLacks → x.returned ≡ size → GeneratesIn t a b room t₂ room' (Err x)
      unfolding FilledIn lower upper
      list-lacks {room'} size f l w x i j = refused-is t₂ room' x i j (too_long t.columns t.count t.level.now t.low.now t.high.now a b room good t₁.count t₁.level.now t₁.low.now t₁.high.now room₂ zeros back.count back.level back.low back.high f.1 l w)

      pub list_delivered : (size : ℕ) → FilledIn t a b room₁ t₁ room₂ (Some size) → size ≤ length room → GeneratesIn t a b room t₂ room₂ (Ok size)
      unfolding FilledIn lower upper
      list_delivered size f l = delivered t.columns t.count t.level.now t.low.now t.high.now a b room good t₁.count t₁.level.now t₁.low.now t₁.high.now room₂ zeros back.count back.level back.low back.high f.1 l

-- What a generator says of a list from column 0 on fills the room.
module _ (g : Generator) (g' : Generator) (a : ℕ) (b : ℕ) {t' : TableMut} {room : List ℕ} (z : g.at ≡ 0) (e : t' ≡ g'.operations.now.table.now) (d : room ≡ g'.room.now) where
  from_start : (r : Option ℕ) → ListPromise g (record { k = 0; weight = 1; chosen = 0 }) a b g' r →
      (let t = g.operations.now.table.now in
      ListedOf t.columns t.count t.level.now t.low.now t.high.now t'.level.now t'.low.now t'.high.now g.room.now room 0 0 1 0 t.columns (fn_of (table t) 0 t.columns a) (fn_of (table t) 0 t.columns b) t'.count g'.at r)
  from_start r h =
      let t = g.operations.now.table.now in
      transport
      (λ i. ListedOf t.columns t.count t.level.now t.low.now t.high.now (sym e i).level.now (sym e i).low.now (sym e i).high.now g.room.now (sym d i) (z i) 0 1 0 t.columns (fn_of (table t) 0 t.columns a) (fn_of (table t) 0 t.columns b) (sym e i).count g'.at r)
      (h t.columns (omega arith))

  pub all_filled : (x : ℕ) → ListPromise g (record { k = 0; weight = 1; chosen = 0 }) a b g' (Some x) → FilledIn g.operations.now.table.now a b g.room.now t' room (Some g'.at)
  unfolding ListedOf FilledIn
  all_filled x h = (x, from_start (Some x) h)

  pub none_filled : {r : Option ℕ} → r ≡ None → ListPromise g (record { k = 0; weight = 1; chosen = 0 }) a b g' None → FilledIn g.operations.now.table.now a b g.room.now t' room r
  unfolding ListedOf FilledIn
  none_filled k h = subst⁻¹ (FilledIn g.operations.now.table.now a b g.room.now t' room) k (from_start None h)
