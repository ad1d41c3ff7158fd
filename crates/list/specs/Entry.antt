-- The entry of the generator: what it refuses, in which order, what it answers, and what it leaves behind.
use Rattle.std.specs.Prelude.{◌≡◌, Bool, cond, not, ◌&&◌, List, [], ◌∷◌, ◌++◌, ℕ, zero, suc, ◌-◌, eqb, leb, ltb, Result, Ok, Err}
use lib.ListN.{length, replicate}
use Rattle.rule.specs.Func.{Fn}
use Rattle.rule.specs.Nodes.{need}
use Rattle.rule.specs.Rule.{list_numbers}
use Rattle.rule.specs.Refusal.{Condition, first_broken, nodes_lack, list_lacks, number_of, refusal_of}
use Rattle.rule.specs.declared.refusal.Refused.{Refused}
use Rattle.graph.specs.Table.{table_of, fn_of, functions}
use Rattle.graph.specs.Entry.{input_conditions, cleared}
use Rattle.graph.specs.declared.build.TableMut.{TableMut}

-- The numbers of an answer, as document 01 has them: the refusal or 0, what it returns, the length of the list.
pub record Numbers : Type 0 where
  pub refusal : ℕ
  pub returned : ℕ
  pub length : ℕ

unfoldable pub numbers_of : Result ℕ Refused → Numbers
numbers_of (Ok n) = record { refusal = 0; returned = 0; length = n }
numbers_of (Err r) = record { refusal = number_of r.refusal; returned = r.returned; length = 0 }

module _ (n : ℕ) (c : ℕ) (v : List ℕ) (l : List ℕ) (h : List ℕ) (a : ℕ) (b : ℕ) (room : List ℕ) where
  -- L and U.
  unfoldable pub lower : Fn n
  lower = fn_of (table_of v l h) 0 n a

  unfoldable pub upper : Fn n
  upper = fn_of (table_of v l h) 0 n b

  -- The list of the rule, as cube numbers.
  unfoldable pub the_list : List ℕ
  the_list = list_numbers n lower upper

  -- What is asked of the rooms: 7, the node need is at most the table's length; 8, the list is no longer than its room.
  unfoldable pub room_conditions : List Condition
  room_conditions =
      record { number = nodes_lack; kept = leb (need (functions n (table_of v l h) c) n lower upper) (length v) } ∷
      record { number = list_lacks; kept = leb (length the_list) (length room) } ∷ []

  -- The number of the first broken condition, or 0: those of the input, then those of the rooms.
  unfoldable pub refusal : ℕ
  refusal = first_broken (input_conditions n c v l h a b (length room) ++ room_conditions)

  -- The answer: number 8 returns the length needed, any other 0; done gives the length of the list.
  unfoldable pub answer_for : ℕ → Result ℕ Refused
  answer_for zero = Ok (length the_list)
  answer_for (suc r) = Err (record { refusal = refusal_of (suc r); returned = cond (eqb (suc r) list_lacks) (length the_list) 0 })

  -- The numbers of that answer.
  unfoldable pub numbers_for : ℕ → Numbers
  numbers_for r =
      record {
        refusal = r;
        returned = cond (eqb r list_lacks) (lib.ListN.length the_list) 0;
        length = cond (eqb r 0) (lib.ListN.length the_list) 0;
      }

  -- Numbers 1 to 6 change nothing.
  unfoldable pub changes_nothing : ℕ → Bool
  changes_nothing r = not (eqb r 0) && ltb r nodes_lack

  -- Otherwise the records in use are unchanged and all others zero.
  unfoldable pub table_left : ℕ → List ℕ → List ℕ
  table_left r s = cond (changes_nothing r) s (cleared c s)

  -- And the list room is zero, except for the list at done.
  unfoldable pub room_left : ℕ → List ℕ
  room_left r = cond (changes_nothing r) room (cond (eqb r 0) (the_list ++ replicate (length room - length the_list) 0) (replicate (length room) 0))

  -- What the generator promises.
  pub record Generates (c' : ℕ) (v' : List ℕ) (l' : List ℕ) (h' : List ℕ) (room' : List ℕ) (r : Result ℕ Refused) : Type 0 where
    pub answer : r ≡ answer_for refusal
    pub numbers : numbers_of r ≡ numbers_for refusal
    pub count : c' ≡ c
    pub level : v' ≡ table_left refusal v
    pub low : l' ≡ table_left refusal l
    pub high : h' ≡ table_left refusal h
    pub list : room' ≡ room_left refusal

-- The same of a lent table.
abbrev pub GeneratesIn : TableMut → ℕ → ℕ → List ℕ → TableMut → List ℕ → Result ℕ Refused → Type 0
GeneratesIn t a b room t' room' r =
    Generates t.columns t.count t.level.now t.low.now t.high.now a b room t'.count t'.level.now t'.low.now t'.high.now room' r
