-- What the calls of a step ask, and what is left when one of them does not fit.
use mathlib.Core.Path.{◌≡◌, ap, ◌∙◌, subst}
use mathlib.Core.Bool.{true}
use mathlib.Core.List.{List, ◌++◌}
use Prim.Native.Nat.{ℕ, suc, ◌+◌, ◌*◌, ◌^◌, ◌≤◌}
use native.Mathlib.Nat.{pow-succ'}
use native.Mathlib.Omega.{arith}
use lib.ListN.{length}
use lib.Seq.{length-sets}
use Rattle.std.specs.Prelude.{None}
use Rattle.rule.specs.Func.{Fn, within}
use Rattle.rule.specs.Nodes.{nodes}
use Rattle.rule.specs.Cube.{sign0, sign1}
use Rattle.rule.specs.Rule.{p0_of, p1_of, g0_of, g1_of, r0_of, r1_of, r0_or_r1, u0_and_u1, list_a, list_b, put, list_of}
use Rattle.rule.proofs.Cover.{list-covers, within_a, within_b, within_c}
use Rattle.graph.specs.Run.{Short}
use Rattle.steps.specs.Step.{KeptDone, SixRoots, named_left, RestOf}
use Rattle.listmemo.specs.Copy.{numbers_under}
use Rattle.list.specs.Generating.{named_a, named_b, named_rest, named_c, Listable, ListsFull, ListedFull}
use Rattle.graph.proofs.Runs.{run_short, short-more}
use Rattle.listmemo.proofs.Writing.{list-bound}
use Rattle.list.proofs.Listing.{spread, next-listable, short_a, short_b, short-rest, StateA, StateB, StateR}

-- Places: what the lists so far have taken leaves room to count the next.
third : (m : ℕ) → 3 ^ suc m ≡ 3 * 3 ^ m
third m = pow-succ' 3 m

bound_a : (m : ℕ) (L : Fn (suc m)) (U : Fn (suc m)) → length (list_a m (list_of m) L U) ≤ 3 ^ m
unfolding list_a
bound_a m L U = list-bound m _ _

bound_b : (m : ℕ) (L : Fn (suc m)) (U : Fn (suc m)) → length (list_b m (list_of m) L U) ≤ 3 ^ m
unfolding list_b
bound_b m L U = list-bound m _ _

-- What the room to count is at the next column.
pub record Step (n : ℕ) (at : ℕ) (chosen : ℕ) (w : ℕ) (k : ℕ) (m : ℕ) (L : Fn (suc m)) (U : Fn (suc m)) : Type 0 where
  pub columns : k + suc m ≡ n
  pub inside : within (suc m) L U ≡ true
  pub weight : w ≡ 2 ^ k
  pub literals : chosen + 65536 ≤ 65536 * w
  pub place : at + 3 ^ suc m ≤ 2 ^ 32

module _ {n : ℕ} {c : ℕ} {v : List ℕ} {l : List ℕ} {h : List ℕ} {at : ℕ} {chosen : ℕ} {w : ℕ} {k : ℕ} {m : ℕ} {L : Fn (suc m)} {U : Fn (suc m)} (p : Step n at chosen w k m L U) where
  pub ask_a : {v₁ : List ℕ} {l₁ : List ℕ} {h₁ : List ℕ} {l0 : ℕ} {l1 : ℕ} {u0 : ℕ} {u1 : ℕ} {p0 : ℕ} {p1 : ℕ} {c₁ : ℕ} → KeptDone n c v l h v₁ l₁ h₁ k m L U l0 l1 u0 u1 p0 p1 c₁ → Listable n c₁ v₁ l₁ h₁ at (chosen + 65536 * w) (2 * w) (k + 1) p0 u0
  ask_a K =
      next-listable at (chosen + 65536 * w) w k m (p0_of m (list_of m) L U) U.0 K.run.sound p.columns p.weight K.kept0 K.upper0
      (within_a m (list_of m) (list-covers m) L U p.inside)
      (omega (arith, p.literals))
      (omega (arith, p.place, third m))

  pub ask_b : {room : List ℕ} {v₁ : List ℕ} {l₁ : List ℕ} {h₁ : List ℕ} {room₁ : List ℕ} {l0 : ℕ} {l1 : ℕ} {u0 : ℕ} {u1 : ℕ} {p1 : ℕ} {g0 : ℕ} {c₁ : ℕ} {at₁ : ℕ} → StateA n c v l h room at chosen w k m L U v₁ l₁ h₁ room₁ l0 l1 u0 u1 p1 g0 c₁ at₁ → Listable n c₁ v₁ l₁ h₁ at₁ (chosen + w) (2 * w) (k + 1) p1 u1
  ask_b {at₁ = at₁} A =
      next-listable at₁ (chosen + w) w k m (p1_of m (list_of m) L U) U.1 A.run.sound p.columns p.weight A.kept1 A.upper1
      (within_b m (list_of m) (list-covers m) L U p.inside)
      (omega (arith, p.literals))
      (omega (arith, p.place, third m, A.place, bound_a m L U))

  pub ask_rest : {room : List ℕ} {v₁ : List ℕ} {l₁ : List ℕ} {h₁ : List ℕ} {room₁ : List ℕ} {l0 : ℕ} {l1 : ℕ} {u0 : ℕ} {u1 : ℕ} {g0 : ℕ} {g1 : ℕ} {c₁ : ℕ} {at₁ : ℕ} → StateB n c v l h room at chosen w k m L U v₁ l₁ h₁ room₁ l0 l1 u0 u1 g0 g1 c₁ at₁ → SixRoots n c₁ v₁ l₁ h₁ (k + 1) l0 g0 l1 g1 u0 u1
  ask_rest B =
      record {
        sound = B.run.sound;
        column = omega (arith, p.columns);
        lower0 = B.lower0.number;
        cover0 = B.cover0.number;
        lower1 = B.lower1.number;
        cover1 = B.cover1.number;
        upper0 = B.upper0.number;
        upper1 = B.upper1.number;
      }

  pub ask_c : {room : List ℕ} {v₁ : List ℕ} {l₁ : List ℕ} {h₁ : List ℕ} {room₁ : List ℕ} {g0 : ℕ} {g1 : ℕ} {x : ℕ} {y : ℕ} {c₁ : ℕ} {at₁ : ℕ} → StateR n c v l h room at chosen w k m L U v₁ l₁ h₁ room₁ g0 g1 x y c₁ at₁ → Listable n c₁ v₁ l₁ h₁ at₁ chosen (2 * w) (k + 1) x y
  ask_c {at₁ = at₁} R =
      next-listable at₁ chosen w k m (r0_or_r1 m (list_of m) L U) (u0_and_u1 m (list_of m) L U) R.run.sound p.columns p.weight R.left R.top
      (within_c m (list_of m) (list-covers m) L U p.inside)
      (omega (arith, p.literals))
      (omega (arith, p.place, third m, R.place, bound_a m L U, bound_b m L U))

  -- List A, B, the rest or list C does not fit.
  pub full_a : {room : List ℕ} {v₁ : List ℕ} {l₁ : List ℕ} {h₁ : List ℕ} {v₂ : List ℕ} {l₂ : List ℕ} {h₂ : List ℕ} {room₁ : List ℕ} {l0 : ℕ} {l1 : ℕ} {u0 : ℕ} {u1 : ℕ} {p0 : ℕ} {p1 : ℕ} {c₁ : ℕ} {x : ℕ} {z : ℕ} → KeptDone n c v l h v₁ l₁ h₁ k m L U l0 l1 u0 u1 p0 p1 c₁ →
      ListedFull n c₁ v₁ l₁ h₁ v₂ l₂ h₂ room room₁ at x z (k + 1) m (p0_of m (list_of m) L U) U.0 → ListsFull n c v l h v₂ l₂ h₂ room room₁ at chosen w k m L U
  unfolding named_a
  full_a K A = record { short = short_a m L U (short-more _ _ (run_short _ _ K.run A.short)); room-kept = A.room-kept }

  pub full_b : {room : List ℕ} {v₁ : List ℕ} {l₁ : List ℕ} {h₁ : List ℕ} {room₁ : List ℕ} {v₂ : List ℕ} {l₂ : List ℕ} {h₂ : List ℕ} {room₂ : List ℕ} {l0 : ℕ} {l1 : ℕ} {u0 : ℕ} {u1 : ℕ} {p1 : ℕ} {g0 : ℕ} {c₁ : ℕ} {at₁ : ℕ} {x : ℕ} {z : ℕ} → StateA n c v l h room at chosen w k m L U v₁ l₁ h₁ room₁ l0 l1 u0 u1 p1 g0 c₁ at₁ →
      ListedFull n c₁ v₁ l₁ h₁ v₂ l₂ h₂ room₁ room₂ at₁ x z (k + 1) m (p1_of m (list_of m) L U) U.1 → ListsFull n c v l h v₂ l₂ h₂ room room₂ at chosen w k m L U
  unfolding named_b
  full_b {room = room} A B =
      record {
        short = short_b m L U (short-more _ _ (run_short _ _ A.run B.short));
        room-kept = B.room-kept ∙ ap length A.written ∙ length-sets room at (numbers_under chosen w (put sign0 (list_a m (list_of m) L U)));
      }

  pub full_rest : {room : List ℕ} {v₁ : List ℕ} {l₁ : List ℕ} {h₁ : List ℕ} {room₁ : List ℕ} {v₂ : List ℕ} {l₂ : List ℕ} {h₂ : List ℕ} {l0 : ℕ} {l1 : ℕ} {u0 : ℕ} {u1 : ℕ} {g0 : ℕ} {g1 : ℕ} {c₁ : ℕ} {at₁ : ℕ} (c₂ : ℕ) → StateB n c v l h room at chosen w k m L U v₁ l₁ h₁ room₁ l0 l1 u0 u1 g0 g1 c₁ at₁ →
      RestOf n c₁ v₁ l₁ h₁ v₂ l₂ h₂ (k + 1) m L.0 (g0_of m (list_of m) L U) L.1 (g1_of m (list_of m) L U) U.0 U.1 c₂ None → ListsFull n c v l h v₂ l₂ h₂ room room₁ at chosen w k m L U
  unfolding RestOf named_rest named_left r0_of r1_of r0_or_r1 u0_and_u1
  full_rest {room} {v₂ = v₂} {l₂ = l₂} {h₂ = h₂} c₂ B t =
      record {
        short =
            short-rest m L U
            (subst (Short n c v l h v₂ l₂ h₂)
            (spread (named_b m L U) (nodes m (r0_of m (list_of m) L U)) (nodes m (r1_of m (list_of m) L U)) (nodes m (r0_or_r1 m (list_of m) L U)) (nodes m (u0_and_u1 m (list_of m) L U)))
            (run_short _ _ B.run t));
        room-kept = ap length B.written ∙ length-sets room at (numbers_under chosen w (put sign0 (list_a m (list_of m) L U) ++ put sign1 (list_b m (list_of m) L U)));
      }

  pub full_c : {room : List ℕ} {v₁ : List ℕ} {l₁ : List ℕ} {h₁ : List ℕ} {room₁ : List ℕ} {v₂ : List ℕ} {l₂ : List ℕ} {h₂ : List ℕ} {room₂ : List ℕ} {g0 : ℕ} {g1 : ℕ} {x : ℕ} {y : ℕ} {c₁ : ℕ} {at₁ : ℕ} {o : ℕ} {z : ℕ} → StateR n c v l h room at chosen w k m L U v₁ l₁ h₁ room₁ g0 g1 x y c₁ at₁ →
      ListedFull n c₁ v₁ l₁ h₁ v₂ l₂ h₂ room₁ room₂ at₁ o z (k + 1) m (r0_or_r1 m (list_of m) L U) (u0_and_u1 m (list_of m) L U) → ListsFull n c v l h v₂ l₂ h₂ room room₂ at chosen w k m L U
  unfolding named_c
  full_c {room = room} R C =
      record {
        short = short-more _ _ (run_short _ _ R.run C.short);
        room-kept = C.room-kept ∙ ap length R.written ∙ length-sets room at (numbers_under chosen w (put sign0 (list_a m (list_of m) L U) ++ put sign1 (list_b m (list_of m) L U)));
      }
