-- A function that was read is fit for the generator and the checker: what they ask of the input is kept.
use mathlib.Core.Path.{◌≡◌, ap₂, ◌∙◌}
use mathlib.Core.Bool.{true, not, ◌&&◌}
use mathlib.Core.List.{List}
use mathlib.Core.Logic.{◌⊎◌, inl, inr}
use Prim.Native.Nat.{ℕ, ◌+◌, ◌-◌, ◌≤◌, ◌<◌}
use native.Mathlib.Omega.{arith}
use lib.Dec.{ltb}
use lib.ListN.{length}
use borrow.Author.Tests.{le-leb, lt-leb, lt-ltb, ltb-true}
use Rattle.rule.specs.Func.{within}
use Rattle.rule.specs.Refusal.{first_broken}
use Rattle.rule.proofs.Bools.{and_left, or_true}
use Rattle.graph.specs.Entry.{input_conditions, in_range}
use Rattle.graph.specs.Table.{Table, table_of, refers}
use Rattle.graph.proofs.Entries.{both_in}
use Rattle.graph.proofs.Roots.{good_input}
use Rattle.desk.specs.Answer.{answer_room, Answers}
use Rattle.desk.specs.Judged.{Says}
use Rattle.desk.specs.Contract.{Fits, Ready}
use Rattle.desk.proofs.Reading.{ReadRows}

-- A number in use is in range.
in-range : (T : Table) (c x : ℕ) → refers T c 0 x ≡ true → in_range c x ≡ true
unfolding refers in_range
in-range T c x e = go (or_true (ltb x 2) (ltb (x - 2) c && not (ltb (T.level (x - 2)) 0)) e)
  where
    go : (ltb x 2 ≡ true) ⊎ ((ltb (x - 2) c && not (ltb (T.level (x - 2)) 0)) ≡ true) → ltb x (c + 2) ≡ true
    go (inl t) = lt-ltb x (c + 2) (omega (arith, ltb-true x 2 t))
    go (inr u) =
        let s : x - 2 < c = ltb-true (x - 2) c (and_left (ltb (x - 2) c) (not (ltb (T.level (x - 2)) 0)) u) in
        lt-ltb x (c + 2) (omega arith)

pub ready_of : {input v l h list answer : List ℕ} {n c a b : ℕ} → ReadRows input v l h n c a b → length list ≡ 1536 → Fits answer
    → Ready n c v l h a b list answer
ready_of {n = n} r e f =
    record {
      some = r.some;
      roots = record { sound = r.sound; column = omega arith; first = r.on.number; second = r.on_or_dc.number };
      inside = ap₂ (within n) r.on.means r.on_or_dc.means ∙ r.inside;
      level = r.level;
      cubes = e;
      bytes = f;
    }

-- Refusals 1 to 6 do not apply to a list or a list room of at most 16,384 cubes.
pub input_kept : {n c : ℕ} {v l h : List ℕ} {a b : ℕ} {list answer : List ℕ} → Ready n c v l h a b list answer → (size : ℕ) → size ≤ 16384
    → first_broken (input_conditions n c v l h a b size) ≡ 0
input_kept {n} {c} {v} {l} {h} {a} {b} r size few =
    good_input n c v l h a b size r.roots.sound
    (both_in c a b (in-range (table_of v l h) c a r.roots.first) (in-range (table_of v l h) c b r.roots.second)) r.inside few

-- A room that not every answer fits, and one that every answer does.
pub short-room : (w room : List ℕ) → length room < answer_room → Answers w room room 0
short-room w room h = record { count = rw (lt-leb answer_room (length room) h); left = rw (lt-leb answer_room (length room) h) }

pub whole_room : {w room room' : List ℕ} {r : ℕ} → answer_room ≤ length room → Says w room room' r → Answers w room room' r
whole_room {room = room} h s =
    record { count = rw (le-leb answer_room (length room) h) s.count; left = rw (le-leb answer_room (length room) h) s.left }
