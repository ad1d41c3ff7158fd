-- What is known between two turns of a copy, and how a turn, the last one and the room's end go on from it.
use mathlib.Core.Path.{◌≡◌, refl, sym, ap, ◌∙◌}
use mathlib.Core.List.{List}
use Prim.Native.Nat.{ℕ, suc, ◌+◌, ◌-◌, ◌<◌, ◌≤◌, min}
use native.Mathlib.Omega.{arith}
use lib.ListN.{length, get_or, set, drop, length-set, length-drop}
use lib.Seq.{sets, drop-cons, get_or-set_other}
use Rattle.rule.specs.Cube.{Cube}
use Rattle.listmemo.specs.Copy.{numbers_under, Copyable}
use Rattle.listmemo.proofs.Writing.{under-length}
use Rattle.listmemo.proofs.Stores.{sets_out}
use Rattle.listmemo.proofs.Copying.{copy_at, under_at}

-- After i cubes: nothing before the new place has changed, and what is left of the cubes, put down from where the copy has
-- come to, gives the room with all of them.
pub record Halfway (room₀ : List ℕ) (from : ℕ) (at : ℕ) (size : ℕ) (old : ℕ) (chosen : ℕ) (i : ℕ) (room : List ℕ) : Type 0 where
  pub long : length room ≡ length room₀
  pub kept : (j : ℕ) → j < at → get_or room j 0 ≡ get_or room₀ j 0
  pub rest : (w : ℕ) (cs : List Cube) → length cs ≡ size → sets room₀ from (numbers_under old w cs) ≡ room₀ →
      sets room (at + i) (drop i (numbers_under chosen w cs)) ≡ sets room₀ at (numbers_under chosen w cs)

module _ {room₀ : List ℕ} {from : ℕ} {at : ℕ} {size : ℕ} {old : ℕ} {chosen : ℕ} where
  pub halfway_begins : Halfway room₀ from at size old chosen 0 room₀
  halfway_begins =
      let e : at + 0 ≡ at = omega arith in
      record { long = refl; kept = λ j h. refl; rest = λ w cs p q. ap (λ j. sets room₀ j (numbers_under chosen w cs)) e }

  module _ {i : ℕ} {room : List ℕ} (s : Halfway room₀ from at size old chosen i room) where
    -- The cube to copy has not changed, so it can take the new literals.
    same-cube : Copyable room₀ from at size old chosen → i < size → get_or room (from + i) 0 ≡ get_or room₀ (from + i) 0
    same-cube p h = s.kept (from + i) (omega (arith, p.before))

    next-cube : Copyable room₀ from at size old chosen → i < size → at + i < length room → (w : ℕ) (cs : List Cube) → length cs ≡ size → sets room₀ from (numbers_under old w cs) ≡ room₀ → get_or room (from + i) 0 - old + chosen ≡ get_or (numbers_under chosen w cs) i 0
    next-cube p h u w cs e q =
        omega (
          arith,
          same-cube p h,
          copy_at room₀ from old w cs i q (omega arith) (omega (arith, s.long, p.before)),
          under_at chosen w cs i (omega arith),
        )

    -- A turn.
    pub halfway_on : Copyable room₀ from at size old chosen → i < size → at + i < length room → Halfway room₀ from at size old chosen (i + 1) (set room (at + i) (get_or room (from + i) 0 - old + chosen))
    halfway_on p h u =
        record {
          long = length-set room (at + i) (get_or room (from + i) 0 - old + chosen) ∙ s.long;
          kept = λ j b. get_or-set_other room (at + i) j (get_or room (from + i) 0 - old + chosen) 0 (λ e. omega arith) ∙ s.kept j b;
          rest = λ w cs e q.
              let place : at + (i + 1) ≡ suc (at + i) = omega arith in
              let next : i + 1 ≡ suc i = omega arith in
              let here : i < length (numbers_under chosen w cs) = omega (arith, under-length chosen w cs) in
              ap (λ j. sets (set room (at + i) (get_or room (from + i) 0 - old + chosen)) j (drop (i + 1) (numbers_under chosen w cs))) place ∙
              ap (λ j. sets (set room (at + i) (get_or room (from + i) 0 - old + chosen)) (suc (at + i)) (drop j (numbers_under chosen w cs))) next ∙
              ap (λ x. sets (set room (at + i) x) (suc (at + i)) (drop (suc i) (numbers_under chosen w cs))) (next-cube p h u w cs e q) ∙
              ap (λ xs. sets room (at + i) xs) (sym (drop-cons (numbers_under chosen w cs) i 0 here)) ∙
              s.rest w cs e q;
        }

    -- No cube is left, or the room ends.
    pub halfway_done : min size (length room₀ - at) ≤ i → (w : ℕ) (cs : List Cube) → length cs ≡ size → sets room₀ from (numbers_under old w cs) ≡ room₀ → room ≡ sets room₀ at (numbers_under chosen w cs)
    halfway_done h w cs e q =
        sym (sets_out room (at + i) (drop i (numbers_under chosen w cs))
        (λ p. omega (arith, s.long, under-length chosen w cs, length-drop i (numbers_under chosen w cs)))) ∙
        s.rest w cs e q

    -- The room ends where its length is reached.
    pub halfway_ends : length room ≤ at + i → (w : ℕ) (cs : List Cube) → length cs ≡ size → sets room₀ from (numbers_under old w cs) ≡ room₀ → room ≡ sets room₀ at (numbers_under chosen w cs)
    halfway_ends h = halfway_done (omega (arith, h, s.long))
