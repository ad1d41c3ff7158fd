-- What the inner functions of the two programs ask and promise.
use Rattle.std.specs.Prelude.{◌≡◌, true, List, ℕ, zero, suc, ◌≤◌, length, replicate, Result}
use Rattle.rule.specs.Func.{Fn, within}
use Rattle.rule.specs.Refusal.{first_broken}
use Rattle.rule.specs.Verdict.{verdict_numbers}
use Rattle.rule.specs.declared.refusal.Refused.{Refused}
use Rattle.graph.specs.Sound.{RootedTwice}
use Rattle.graph.specs.Table.{table_of, fn_of}
use Rattle.list.specs.Entry.{the_list, refusal}
use Rattle.line.specs.Meaning.{after_end}
use Rattle.text.specs.Outcome.{outcome}
use Rattle.text.specs.Candidate.{cubes_of, read_conditions, read_returns}
use Rattle.text.specs.Function.{ReadsFunction}
use Rattle.text.specs.declared.function.Function.{Function}
use Rattle.desk.specs.Said.{refused_text, verdict_text}
use Rattle.desk.specs.Answer.{answer_room, list_said}
use Rattle.desk.specs.declared.rooms.Rooms.{Rooms}

-- The rooms of a program are zero.
pub record IsZero (r : Rooms) : Type 0 where
  pub level : r.level ≡ replicate 4096 0
  pub low : r.low ≡ replicate 4096 0
  pub high : r.high ≡ replicate 4096 0
  pub list : r.list ≡ replicate 1536 0

-- Every answer fits an answer room.
abbrev pub Fits : List ℕ → Type 0
Fits answer = answer_room ≤ length answer

-- A function of n columns is read: L and U are in use, L lies within U.
pub record Ready (n : ℕ) (c : ℕ) (v : List ℕ) (l : List ℕ) (h : List ℕ) (a : ℕ) (b : ℕ) (list : List ℕ) (answer : List ℕ) : Type 0 where
  pub some : 1 ≤ n
  pub roots : RootedTwice n c v l h 0 a b
  pub inside : within n (fn_of (table_of v l h) 0 n a) (fn_of (table_of v l h) 0 n b) ≡ true
  pub level : length v ≡ 4096
  pub cubes : length list ≡ 1536
  pub bytes : Fits answer

-- The verdict on a candidate for L and U, or the candidate's refusal.
unfoldable pub candidate_for : (n : ℕ) → Fn n → Fn n → List ℕ → ℕ → List ℕ
candidate_for n L U text zero = verdict_text n (verdict_numbers n L U (cubes_of (outcome n text)))
candidate_for n L U text (suc r) = refused_text (suc r) (read_returns (outcome n text) (suc r))

-- What reading leaves in the rooms.
abbrev pub ReadsInto : List ℕ → Rooms → Rooms → Result Function Refused → Type 0
ReadsInto input r r' a = ReadsFunction input r.level r.low r.high r'.level r'.low r'.high a

-- The same of a function in the rooms: what is ready, and what is said.
abbrev pub ReadyIn : Function → Rooms → List ℕ → Type 0
ReadyIn f r answer = Ready f.columns f.count r.level r.low r.high f.lower f.upper r.list answer

abbrev pub list_said_of : Function → Rooms → List ℕ
list_said_of f r =
    list_said f.columns (the_list f.columns f.count r.level r.low r.high f.lower f.upper r.list)
    (refusal f.columns f.count r.level r.low r.high f.lower f.upper r.list)

abbrev pub candidate_said_of : Function → Rooms → List ℕ → List ℕ
candidate_said_of f r input =
    let T = table_of r.level r.low r.high in
    candidate_for f.columns (fn_of T 0 f.columns f.lower) (fn_of T 0 f.columns f.upper) (after_end input)
    (first_broken (read_conditions f.columns (after_end input) 1536))
