-- Building the function of a text's rows, and clearing what is past its records: one law for each way out.
use mathlib.Core.Path.{◌≡◌, refl, sym, ap, ◌∙◌, subst₃}
use mathlib.Core.Bool.{Bool, true, false, not}
use mathlib.Core.List.{List, [], ◌∷◌}
use Prim.Native.Nat.{ℕ, ◌+◌, ◌<◌, ◌≤◌}
use native.Mathlib.Nat.{not-suc-le-zero}
use native.Mathlib.Omega.{arith}
use lib.Dec.{leb}
use lib.ListN.{length}
use borrow.Author.Tests.{le-leb, lt-leb}
use Rattle.std.specs.Prelude.{Some, None, Ok, Err}
use Rattle.rule.specs.Func.{Fn, within}
use Rattle.rule.specs.Nodes.{nodes, add_all}
use Rattle.rule.specs.Refusal.{Condition, first_broken, nodes_lack, on_and_off, number_of}
use Rattle.rule.specs.declared.refusal.Refused.{Refused}
use Rattle.rule.specs.Rows.{Kind, Row, lower_of, upper_of, contradicts, named_after, reading_names, reading_need}
use Rattle.rule.proofs.Sets.{add_all_append}
use Rattle.rule.proofs.Growth.{more_no_shorter}
use Rattle.rule.proofs.Rows.{within_exactly}
use Rattle.graph.specs.Table.{table_of, fn_of, functions}
use Rattle.graph.specs.Sound.{Sized, Sound, RootedTwice}
use Rattle.graph.specs.Built.{MadeOf}
use Rattle.graph.specs.Lent.{SharesIn, RootsToRead, read, table}
use Rattle.graph.specs.declared.build.TableMut.{TableMut}
use Rattle.graph.specs.declared.table.TableRef.{TableRef}
use Rattle.graph.specs.Run.{Names}
use Rattle.graph.specs.Entry.{cleared}
use Rattle.graph.proofs.Agree.{agree-refers, agree_fn, agree-good, agree-functions}
use Rattle.graph.proofs.Entries.{cleared-agree, cleared-sized}
use Rattle.graph.proofs.Clearing.{cleared-length, cleared-again, cleared_alike}
use Rattle.graph.proofs.Records.{functions-length}
use Rattle.graph.proofs.Refusals.{broken-here, kept_next, none-broken}
use Rattle.graph.proofs.Runs.{built-run, built-names, names_stay}
use Rattle.rows.specs.Naming.{Named, NamedOf}
use Rattle.rows.specs.declared.naming.Sets.{Sets}
use Rattle.text.specs.Function.{room_broken, RootsNamed, RootsLack, FunctionBuilt, FunctionLacks, SettledOf}
use Rattle.text.specs.declared.function.Function.{Function}

-- The two conditions of the rooms.
module _ (n : ℕ) (t : Kind) (rows : List Row) (room : ℕ) where
  abbrev pub need_kept : Condition
  need_kept = record { number = nodes_lack; kept = leb (reading_need n t rows) room }

  abbrev pub point_kept : Condition
  point_kept = record { number = on_and_off; kept = not (contradicts n t rows) }

  need-lacks : room < reading_need n t rows → room_broken n t rows room ≡ nodes_lack
  unfolding room_broken
  need-lacks h = broken-here need_kept (point_kept ∷ []) (lt-leb (reading_need n t rows) room h)

  need-fits : reading_need n t rows ≤ room → room_broken n t rows room ≡ first_broken (point_kept ∷ [])
  unfolding room_broken
  need-fits h = kept_next need_kept (point_kept ∷ []) (le-leb (reading_need n t rows) room h)

  point_broken : reading_need n t rows ≤ room → within n (lower_of n t rows) (upper_of n t rows) ≡ false → room_broken n t rows room ≡ on_and_off
  point_broken h e = need-fits h ∙ broken-here point_kept [] (sym (within_exactly n t rows) ∙ e)

  none-lacks : reading_need n t rows ≤ room → within n (lower_of n t rows) (upper_of n t rows) ≡ true → room_broken n t rows room ≡ 0
  none-lacks h e = need-fits h ∙ kept_next point_kept [] (sym (within_exactly n t rows) ∙ e) ∙ none-broken

-- What does not fit is refused by 7.
pub roots_lack : (n : ℕ) (t : Kind) (rows : List Row) (room : ℕ) (v l h : List ℕ) → RootsLack n t rows room v l h
    → FunctionLacks n t rows room v l h nodes_lack 0
roots_lack n t rows room v l h q =
    record { broken = need-lacks n t rows room q.lacks; refused = omega arith; returned = refl; wide = q.wide; sized = q.sized }

-- The rows do not fit.
pub rows_short : (n : ℕ) (t : Kind) (rows : List Row) (room : ℕ) (v l h : List ℕ) (c : ℕ) → NamedOf n t rows room v l h c None
    → RootsLack n t rows room v l h
unfolding NamedOf reading_need reading_names
rows_short n t rows room v l h c q =
    record {
      lacks = omega (arith, q.1.lacks, more_no_shorter [] (named_after n t [] rows) (nodes n (upper_of n t rows)));
      wide = q.0;
      sized = q.1.sized;
    }

pub rows_lack : (n : ℕ) (t : Kind) (rows : List Row) (room : ℕ) (v l h : List ℕ) (c : ℕ) → NamedOf n t rows room v l h c None
    → FunctionLacks n t rows room v l h nodes_lack 0
rows_lack n t rows room v l h c q = roots_lack n t rows room v l h (rows_short n t rows room v l h c q)

-- The rows are named.
pub rows_named : {n : ℕ} {t : Kind} {rows : List Row} {room : ℕ} {v l h : List ℕ} {c : ℕ} {s : Sets} → NamedOf n t rows room v l h c (Some s)
    → (length v ≡ room) × Named n t rows v l h s.on s.other c
unfolding NamedOf
rows_named q = q

module _ {n : ℕ} {t : Kind} {rows : List Row} {room : ℕ} {v l h : List ℕ} {a b c : ℕ} (q : (length v ≡ room) × Named n t rows v l h a b c)
  where
    named_then : add_all (functions n (table_of v l h) c) (nodes n (upper_of n t rows)) ≡ add_all [] (reading_names n t rows)
    unfolding reading_names
    named_then =
        ap (λ S. add_all S (nodes n (upper_of n t rows))) q.1.adds ∙
        sym (add_all_append [] (named_after n t [] rows) (nodes n (upper_of n t rows)))

    -- U does not fit.
    pub upper-short : (v₁ l₁ h₁ : List ℕ) (c₁ : ℕ) → MadeOf n c v l h v₁ l₁ h₁ 0 n (upper_of n t rows) c₁ None → RootsLack n t rows room v₁ l₁ h₁
    unfolding MadeOf reading_need
    upper-short v₁ l₁ h₁ c₁ p =
        record {
          lacks = omega (arith, p.lacks, ap length named_then, q.0);
          wide = p.length-kept ∙ q.0;
          sized = record { count = omega arith; low = p.sized.low; high = p.sized.high; room = p.sized.room };
        }

    pub upper-lacks : (v₁ l₁ h₁ : List ℕ) (c₁ : ℕ) → MadeOf n c v l h v₁ l₁ h₁ 0 n (upper_of n t rows) c₁ None
        → FunctionLacks n t rows room v₁ l₁ h₁ nodes_lack 0
    upper-lacks v₁ l₁ h₁ c₁ p = roots_lack n t rows room v₁ l₁ h₁ (upper-short v₁ l₁ h₁ c₁ p)

    pub upper-named : (v₁ l₁ h₁ : List ℕ) (c₁ x : ℕ) → MadeOf n c v l h v₁ l₁ h₁ 0 n (upper_of n t rows) c₁ (Some x)
        → RootsNamed n t rows room v₁ l₁ h₁ c₁ a x
    unfolding MadeOf lower_of
    upper-named v₁ l₁ h₁ c₁ x p =
        record {
          wide = p.length-kept ∙ q.0;
          sound = p.sound;
          on = names_stay q.1.sound (built-run p) q.1.lower;
          on_or_dc = built-names p;
          adds = p.adds ∙ named_then;
        }

module _ {n : ℕ} {t : Kind} {rows : List Row} {room : ℕ} {v l h : List ℕ} {c a b : ℕ} (q : RootsNamed n t rows room v l h c a b) where
  pub both_in_use : RootedTwice n c v l h 0 a b
  both_in_use = record { sound = q.sound; column = omega arith; first = q.on.number; second = q.on_or_dc.number }

  -- The need is the count.
  whole-fits : reading_need n t rows ≤ room
  unfolding reading_need
  whole-fits = omega (arith, ap length q.adds, functions-length n (table_of v l h) c, q.sound.sized.count, q.wide)

  -- The test says whether L lies within U.
  module _ (s : Bool) (f : (m : ℕ) → 0 + m ≡ n → s ≡ within m (fn_of (table_of v l h) 0 m a) (fn_of (table_of v l h) 0 m b)) where
    inside_is : within n (lower_of n t rows) (upper_of n t rows) ≡ s
    inside_is = sym (f n (omega arith) ∙ (λ i. within n (q.on.means i) (q.on_or_dc.means i)))

    pub whole-contradicts : s ≡ false → FunctionLacks n t rows room v l h on_and_off 0
    whole-contradicts e = record {
      broken = point_broken n t rows room whole-fits (inside_is ∙ e);
      refused = omega arith;
      returned = refl;
      wide = q.wide;
      sized = record { count = omega arith; low = q.sound.sized.low; high = q.sound.sized.high; room = q.sound.sized.room };
    }

    pub whole-built : s ≡ true → FunctionBuilt n t rows room v l h n c a b
    whole-built e = record {
      kept = none-lacks n t rows room whole-fits (inside_is ∙ e);
      columns = refl;
      wide = q.wide;
      sound = q.sound;
      on = q.on;
      on_or_dc = q.on_or_dc;
      adds = q.adds;
    }

-- The table that is read is the one that was built.
module _ (t : TableMut) (s : TableRef) (q : SharesIn t s) {n : ℕ} (e : t.columns ≡ n) (a b : ℕ) where
  pub roots_to_read : RootedTwice n t.count t.level.now t.low.now t.high.now 0 a b → RootsToRead s 0 a b
  roots_to_read r = rw (q.columns ∙ e, q.count, q.level, q.low, q.high) r

  pub read_within : (r : Bool) → ((m : ℕ) → 0 + m ≡ s.columns → r ≡ within m (fn_of (read s) 0 m a) (fn_of (read s) 0 m b))
      → (m : ℕ) → 0 + m ≡ n → r ≡ within m (fn_of (table t) 0 m a) (fn_of (table t) 0 m b)
  read_within r f m k =
      f m (k ∙ sym (q.columns ∙ e)) ∙
      (λ i. within m (fn_of (table_of (q.level i) (q.low i) (q.high i)) 0 m a) (fn_of (table_of (q.level i) (q.low i) (q.high i)) 0 m b))

-- What is past the records of a built function is cleared, and it stays built.
module _ {n : ℕ} {v l h : List ℕ} {c : ℕ} where
  cleared-names : {m x : ℕ} {f : Fn m} → Sound n c v l h → Names v l h c 0 m f x → Names (cleared c v) (cleared c l) (cleared c h) c 0 m f x
  cleared-names {m} {x} s q =
      let T = table_of v l h in
      let T' = table_of (cleared c v) (cleared c l) (cleared c h) in
      let g = cleared-agree s.sized in
      record {
        number = agree-refers T T' c g 0 x q.number;
        means = agree_fn T T' c g n s.good m 0 x q.number ∙ q.means;
      }

  cleared-built : {t : Kind} {rows : List Row} {room k a b : ℕ} → FunctionBuilt n t rows room v l h k c a b → FunctionBuilt n t rows room (cleared c v) (cleared c l) (cleared c h) k c a b
  cleared-built q =
      let T = table_of v l h in
      let T' = table_of (cleared c v) (cleared c l) (cleared c h) in
      let g = cleared-agree q.sound.sized in
      record {
        kept = q.kept;
        columns = q.columns;
        wide = cleared-length c v ∙ q.wide;
        sound =
            record {
              sized = cleared-sized q.sound.sized;
              columns = q.sound.columns;
              good = agree-good n T T' c g q.sound.good;
            };
        on = cleared-names q.sound q.on;
        on_or_dc = cleared-names q.sound q.on_or_dc;
        adds = agree-functions n T T' c g q.sound.good ∙ q.adds;
      }

-- The answer to what was built, with everything past its records cleared, at a refusal everything.
module _ (n : ℕ) (t : Kind) (rows : List Row) (v l h : List ℕ) (v₁ l₁ h₁ : List ℕ) (v' l' h' : List ℕ) where
  pub done_settled : (f : Function) → FunctionBuilt n t rows (length v) v₁ l₁ h₁ f.columns f.count f.lower f.upper
      → v' ≡ cleared f.count v₁ → l' ≡ cleared f.count l₁ → h' ≡ cleared f.count h₁ → SettledOf n t rows v l h v' l' h' (Ok f)
  unfolding SettledOf
  done_settled f q ev el eh =
      let s = q.sound.sized in (
        subst₃ (λ x y z. FunctionBuilt n t rows (length v) x y z f.columns f.count f.lower f.upper) (sym ev) (sym el) (sym eh) (cleared-built q),
        record {
          level = stays v₁ v' s.count ev;
          low = stays l₁ l' (omega (arith, s.count, s.low)) el;
          high = stays h₁ h' (omega (arith, s.count, s.high)) eh;
        },
      )
    where
      stays : (s s' : List ℕ) → f.count ≤ length s → s' ≡ cleared f.count s → s' ≡ cleared f.count s'
      stays s s' u e = e ∙ sym (cleared-again f.count s u) ∙ ap (cleared f.count) (sym e)

  pub refused_settled : Sound n 0 v l h → (r : Refused) → FunctionLacks n t rows (length v) v₁ l₁ h₁ (number_of r.refusal) r.returned
      → v' ≡ cleared 0 v₁ → l' ≡ cleared 0 l₁ → h' ≡ cleared 0 h₁ → SettledOf n t rows v l h v' l' h' (Err r)
  unfolding SettledOf
  refused_settled s r p ev el eh = (
    record {
      broken = p.broken;
      refused = p.refused;
      returned = p.returned;
      wide = ap length ev ∙ cleared-length 0 v₁ ∙ p.wide;
      sized = subst₃ (λ x y z. Sized 0 x y z) (sym ev) (sym el) (sym eh) (cleared-sized p.sized);
    },
    record {
      level = ev ∙ zeros v₁ v p.wide;
      low = el ∙ zeros l₁ l (p.sized.low ∙ p.wide ∙ sym s.sized.low);
      high = eh ∙ zeros h₁ h (p.sized.high ∙ p.wide ∙ sym s.sized.high);
    },
  )
    where
      zeros : (s s' : List ℕ) → length s ≡ length s' → cleared 0 s ≡ cleared 0 s'
      zeros s s' w = cleared_alike 0 s s' w (λ j u. absurd (not-suc-le-zero u))
