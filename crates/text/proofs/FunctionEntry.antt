-- The entry that reads a function text, from the conditions in their order: one law for each way out.
use mathlib.Core.Path.{◌≡◌, refl, sym, ap, ◌∙◌, subst}
use mathlib.Core.Bool.{Bool, true, false, cond, not, ◌&&◌}
use mathlib.Core.List.{List, [], ◌∷◌}
use Prim.Native.Nat.{ℕ, ◌<◌, ◌≤◌}
use native.Mathlib.Omega.{arith}
use lib.Dec.{eqb, leb}
use lib.ListN.{length, replicate}
use borrow.Author.Tests.{eq-eqb, ne_eqb, le-leb, lt-leb}
use Rattle.std.specs.Prelude.{Result, Ok, Err}
use Rattle.rule.specs.Refusal.{Condition, first_broken, text_over, table_over, text_fault, nodes_lack, on_and_off, number_of, refusal_of}
use Rattle.rule.specs.declared.refusal.Refused.{Refused}
use Rattle.rule.proofs.Refusals.{numbered}
use Rattle.rule.specs.Rows.{Kind}
use Rattle.graph.specs.Table.{good_table}
use Rattle.graph.specs.Sound.{Sound}
use Rattle.graph.specs.Entry.{cleared}
use Rattle.graph.proofs.Refusals.{broken-here, kept_next, unused, not_broken}
use Rattle.line.specs.Bytes.{lines}
use Rattle.text.specs.Outcome.{Outcome, good, fault, outcome}
use Rattle.text.specs.Judged.{judged}
use Rattle.text.specs.Candidate.{is_good, fault_line}
use Rattle.text.specs.Function.{rows_in, need_of, contradictory, function_conditions, function_refusal, function_numbers, function_returns, table_left, NotRead, HasRead, ReadsFunction, room_broken, SettledOf}
use Rattle.text.specs.declared.function.Function.{Function}
use Rattle.text.specs.Room as Room
use Rattle.text.proofs.Room.{all-cleared}
use Rattle.text.proofs.Taken.{faulty_outcome}
use Rattle.text.proofs.Reading.{GoodText}
use Rattle.text.proofs.Settling.{need_kept, point_kept}

-- A slice that is filled with zeros.
pub zeros_left : (s z : List ℕ) → z ≡ replicate (length s) 0 → z ≡ cleared 0 s
unfolding cleared Room.cleared
zeros_left s z e = all-cleared s z e

-- The refusal with a number.
abbrev pub refusing : ℕ → ℕ → Result Function Refused
refusing r x = Err (record { refusal = refusal_of r; returned = x })

module _ (text v l h : List ℕ) where
  abbrev pub short_kept : Condition
  short_kept = record { number = text_over; kept = leb (length text) 32768 }

  abbrev pub sizes_test : Bool
  sizes_test = eqb (length l) (length v) && eqb (length h) (length v) && leb (length v) 4096

  abbrev pub sizes_kept : Condition
  sizes_kept = record { number = table_over; kept = sizes_test }

  abbrev pub good_kept : Condition
  good_kept = record { number = text_fault; kept = is_good (outcome 0 text) }

  abbrev pub rooms : Outcome → List Condition
  rooms w =
      record { number = nodes_lack; kept = leb (need_of w) (length v) } ∷ record { number = on_and_off; kept = not (contradictory w) } ∷ []

  pub first-broken : function_refusal text v l h ≡ first_broken (short_kept ∷ sizes_kept ∷ good_kept ∷ rooms (outcome 0 text))
  unfolding function_refusal function_conditions
  first-broken = refl

  reads-refused : (v' l' h' : List ℕ) (a : Result Function Refused) (r : ℕ) → (r ≡ 0 → ⊥) → function_refusal text v l h ≡ r → NotRead text v l h v' l' h' r a → ReadsFunction text v l h v' l' h' a
  reads-refused v' l' h' a r z e q =
      record {
        refused = λ p d. subst (λ i. NotRead text v l h v' l' h' i a) (sym e ∙ d) q;
        done = λ d. absurd (z (sym e ∙ d));
      }

  -- 10: nothing is changed.
  pub text-over : 32768 < length text → ReadsFunction text v l h v l h (refusing text_over 0)
  unfolding function_returns table_left function_numbers refusal_of
  text-over u =
      reads-refused v l h (refusing text_over 0) text_over (λ z. omega arith)
      (first-broken ∙ broken-here short_kept (sizes_kept ∷ good_kept ∷ rooms (outcome 0 text)) (lt-leb (length text) 32768 u))
      (record { answer = refl; numbers = refl; level = refl; low = refl; high = refl })

  module _ (u : length text ≤ 32768) where
    past_text : function_refusal text v l h ≡ first_broken (sizes_kept ∷ good_kept ∷ rooms (outcome 0 text))
    past_text = first-broken ∙ kept_next short_kept (sizes_kept ∷ good_kept ∷ rooms (outcome 0 text)) (le-leb (length text) 32768 u)

    -- 2: nothing is changed.
    table-refused : sizes_test ≡ false → ReadsFunction text v l h v l h (refusing table_over 0)
    unfolding function_returns table_left function_numbers refusal_of
    table-refused e =
        reads-refused v l h (refusing table_over 0) table_over (λ z. omega arith)
        (past_text ∙ broken-here sizes_kept (good_kept ∷ rooms (outcome 0 text)) e)
        (record { answer = refl; numbers = refl; level = refl; low = refl; high = refl })

    pub low_differs : (length l ≡ length v → ⊥) → ReadsFunction text v l h v l h (refusing table_over 0)
    low_differs d = table-refused (rw (ne_eqb (length l) (length v) d))

    module _ (el : length l ≡ length v) where
      pub high_differs : (length h ≡ length v → ⊥) → ReadsFunction text v l h v l h (refusing table_over 0)
      high_differs d = table-refused (rw (eq-eqb (length l) (length v) el) (rw (ne_eqb (length h) (length v) d)))

      module _ (eh : length h ≡ length v) where
        pub table-over : 4096 < length v → ReadsFunction text v l h v l h (refusing table_over 0)
        table-over d =
            table-refused
            (rw (eq-eqb (length l) (length v) el) (rw (eq-eqb (length h) (length v) eh) (rw (lt-leb (length v) 4096 d))))

        module _ (w : length v ≤ 4096) where
          sizes_pass : sizes_test ≡ true
          sizes_pass =
              rw (eq-eqb (length l) (length v) el)
              (rw (eq-eqb (length h) (length v) eh) (rw (le-leb (length v) 4096 w)))

          past_table : function_refusal text v l h ≡ first_broken (good_kept ∷ rooms (outcome 0 text))
          past_table = past_text ∙ kept_next sizes_kept (good_kept ∷ rooms (outcome 0 text)) sizes_pass

          -- 11: the line of the first fault, and the table is zero.
          pub fault-told : (k : ℕ) → Err k ≡ judged (outcome 0 text) → (v' l' h' : List ℕ) → v' ≡ cleared 0 v → l' ≡ cleared 0 l → h' ≡ cleared 0 h →
              ReadsFunction text v l h v' l' h' (refusing text_fault k)
          unfolding function_returns table_left function_numbers refusal_of is_good fault_line
          fault-told k j v' l' h' ev el eh =
              let e = faulty_outcome (outcome 0 text) k j in
              let line : k ≡ fault_line (outcome 0 text) = ap fault_line (sym e) in
              reads-refused v' l' h' (refusing text_fault k) text_fault (λ z. omega arith)
              (past_table ∙ broken-here good_kept (rooms (outcome 0 text)) (ap is_good e))
              (record {
                answer = ap (refusing text_fault) line;
                numbers = ap (λ x. function_numbers (refusing text_fault x)) line;
                level = ev;
                low = el;
                high = eh;
              })

          module _ (n : ℕ) (t : Kind) (q : GoodText text n t) where
            pub table_empty : Sound n 0 v l h
            unfolding good_table
            table_empty =
                record { sized = record { count = omega arith; low = el; high = eh; room = w }; columns = q.few; good = refl }

            by_rooms : function_refusal text v l h ≡ room_broken n t (rows_in n (lines text)) (length v)
            unfolding is_good need_of contradictory room_broken
            by_rooms =
                past_table ∙ kept_next good_kept (rooms (outcome 0 text)) (ap is_good q.told) ∙
                ap (λ o. first_broken (rooms o)) q.told

            module _ (v' l' h' : List ℕ) (a : Result Function Refused) where
              -- Done, for the one outcome that the text has.
              abbrev ReadFor : Outcome → Type 0
              ReadFor (good m u rs) = HasRead text v l h v' l' h' m u rs a
              ReadFor (fault k) = Unit {0}

              reads-done : function_refusal text v l h ≡ 0 → HasRead text v l h v' l' h' n t (rows_in n (lines text)) a → ReadsFunction text v l h v' l' h' a
              reads-done e p =
                  record {
                    refused = λ r d. let z : ⊥ = omega (arith, sym e ∙ d) in absurd z;
                    done = λ z m u rs d. subst ReadFor (sym q.told ∙ d) p;
                  }

            -- What 7 and 12 return, and leave of a slice.
            module _ (r : ℕ) (e : room_broken n t (rows_in n (lines text)) (length v) ≡ r) where
              returns_none : function_returns text r ≡ 0
              unfolding function_returns fault_line
              returns_none = ap (λ k. cond (eqb r text_fault) k 0) (ap fault_line q.told) ∙ either_way (eqb r text_fault)
                where
                  either_way : (b : Bool) → ◌≡◌ {A = ℕ} (cond b 0 0) 0
                  either_way true = refl
                  either_way false = refl

              not_first : (d : ℕ) → (d ≡ 0 → ⊥) → unused d (need_kept n t (rows_in n (lines text)) (length v) ∷ point_kept n t (rows_in n (lines text)) (length v) ∷ []) ≡ true → eqb r d ≡ false
              unfolding room_broken
              not_first d z f = ne_eqb r d (λ x. not_broken d z _ f (e ∙ x))

              leaves_zero : (s : List ℕ) → cleared 0 s ≡ table_left r s
              unfolding table_left
              leaves_zero s =
                  sym (rw (not_first text_over (λ z. omega arith) refl) (rw (not_first table_over (λ z. omega arith) refl) refl))

            -- 7 and 12, and done.
            pub settled_reads : (v' l' h' : List ℕ) (a : Result Function Refused) → SettledOf n t (rows_in n (lines text)) v l h v' l' h' a → ReadsFunction text v l h v' l' h' a
            unfolding SettledOf function_numbers
            settled_reads v' l' h' (Ok f) p =
                reads-done v' l' h' (Ok f) (by_rooms ∙ p.0.kept)
                (record {
                  count = f.count;
                  lower = f.lower;
                  upper = f.upper;
                  answer = ap (λ j. Ok (record { columns = j; count = f.count; lower = f.lower; upper = f.upper })) p.0.columns;
                  numbers =
                      ap (λ j. function_numbers (Ok (record { columns = j; count = f.count; lower = f.lower; upper = f.upper }))) p.0.columns;
                  sound = p.0.sound;
                  length-kept = p.0.wide;
                  on = p.0.on;
                  on_or_dc = p.0.on_or_dc;
                  adds = p.0.adds;
                  level = p.1.level;
                  low = p.1.low;
                  high = p.1.high;
                })
            settled_reads v' l' h' (Err x) p =
                let r = number_of x.refusal in
                let returned = p.0.returned ∙ sym (returns_none r p.0.broken) in
                reads-refused v' l' h' (Err x) r (λ z. omega (arith, p.0.refused)) (by_rooms ∙ p.0.broken)
                (record {
                  answer = λ i. Err (record { refusal = sym (numbered x.refusal) i; returned = returned i });
                  numbers =
                      λ i. record { refusal = r; returned = returned i; columns = 0; count = 0; lower = 0; upper = 0 };
                  level = p.1.level ∙ leaves_zero r p.0.broken v;
                  low = p.1.low ∙ leaves_zero r p.0.broken l;
                  high = p.1.high ∙ leaves_zero r p.0.broken h;
                })
