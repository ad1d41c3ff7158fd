-- Copies of a list in the room. The numbers of a list's cubes can take other literals for theirs (`stands_copyable`); a list
-- that was just written stands (`stands_new`).
use mathlib.Core.Path.{◌≡◌, refl, sym, ap, ◌∙◌, subst, subst⁻¹}
use mathlib.Core.Bool.{true}
use mathlib.Core.List.{List, [], ◌∷◌}
use Prim.Native.Nat.{ℕ, zero, suc, ◌+◌, ◌-◌, ◌*◌, ◌^◌, ◌<◌, ◌≤◌}
use native.Mathlib.Nat.{mul-add, mul_left_comm, mul-le-mul_left, pow-succ', pow-le-pow_right}
use native.Mathlib.Omega.{arith}
use lib.ListN.{length, get_or}
use lib.Pow.{pow-add}
use lib.Seq.{sets}
use Rattle.rule.specs.Func.{Fn}
use Rattle.rule.specs.Cube.{Sign, sign0, sign1, dash, Cube, covered, cube_at}
use Rattle.rule.specs.Number.{ones_of, zeros_of, cube_number}
use Rattle.rule.specs.Nodes.{Tree, named, add_all}
use Rattle.rule.specs.Rule.{list_of}
use Rattle.rule.proofs.Sets.{adding_again-adds_nothing}
use Rattle.rule.proofs.Honest.{Sized, list-sized}
use Rattle.graph.specs.Table.{table_of, fn_of, refers, functions}
use Rattle.graph.specs.Sound.{Sound}
use Rattle.graph.specs.Run.{Run, Names}
use Rattle.graph.proofs.Runs.{stays, stays_fn}
use Rattle.listmemo.specs.Copy.{numbers_under, Copyable}
use Rattle.listmemo.specs.Past.{Written, Stands}
use Rattle.listmemo.proofs.Writing.{sign_number, cube-step, under-length, list-bound}
use Rattle.listmemo.proofs.Stores.{sets_again, get_d_stored}

-- The number of a cube is at most that of as many zeros.
sign_below : (s : Sign) → sign_number s ≤ 65536
unfolding sign_number
sign_below sign0 = omega arith
sign_below sign1 = omega arith
sign_below dash = omega arith

cube_below : (c : Cube) → cube_number c + 65536 ≤ 65536 * 2 ^ length c
unfolding cube_number ones_of zeros_of
cube_below [] = omega arith
cube_below (s ∷ c) = step (cube_number (s ∷ c)) (cube_number c) (cube-step s c) (cube_below c)
  where
    step : (x : ℕ) (y : ℕ) → x ≡ sign_number s + 2 * y → y + 65536 ≤ 65536 * 2 ^ length c → x + 65536 ≤ 65536 * 2 ^ suc (length c)
    step x y e h = omega (arith, sign_below s, pow-succ' 2 (length c))

sized-at : (m : ℕ) (cs : List Cube) (i : ℕ) → i < length cs → Sized m cs → length (cube_at cs i) ≡ m
unfolding Sized cube_at
sized-at m [] i h s = let z : ⊥ = omega arith in absurd z
sized-at m (c ∷ cs) zero h s = s.0
sized-at m (c ∷ cs) (suc i) h s = sized-at m cs i (omega arith) s.1

pub under_at : (chosen : ℕ) (w : ℕ) (cs : List Cube) (i : ℕ) → i < length cs → get_or (numbers_under chosen w cs) i 0 ≡ chosen + w * cube_number (cube_at cs i)
unfolding numbers_under cube_at
under_at chosen w [] i h = let z : ⊥ = omega arith in absurd z
under_at chosen w (c ∷ cs) zero h = refl
under_at chosen w (c ∷ cs) (suc i) h = under_at chosen w cs i (omega arith)

-- What a copy has at a place within the room.
pub copy_at : (room : List ℕ) (from : ℕ) (old : ℕ) (w : ℕ) (cs : List Cube) (i : ℕ) → sets room from (numbers_under old w cs) ≡ room → i < length cs → from + i < length room → get_or room (from + i) 0 ≡ old + w * cube_number (cube_at cs i)
copy_at room from old w cs i e h u =
    ap (λ s. get_or s (from + i) 0) (sym e) ∙
    get_d_stored room from (numbers_under old w cs) i (omega (arith, under-length old w cs)) u ∙
    under_at old w cs i h

-- Literals of the columns before column k and a cube of the columns from it on fit a number of 32 bits.
under-fits : (k : ℕ) (m : ℕ) (c : Cube) (chosen : ℕ) → k + m ≤ 16 → length c ≡ m → chosen + 65536 ≤ 65536 * 2 ^ k → 2 ^ k * cube_number c + chosen < 2 ^ 32
under-fits k m c chosen h e q =
    let below : cube_number c + 65536 ≤ 65536 * 2 ^ m = subst (λ j. cube_number c + 65536 ≤ 65536 * 2 ^ j) e (cube_below c) in
    let all : 2 ^ (k + m) ≤ 2 ^ 16 = pow-le-pow_right (omega arith) h in
    omega (
      arith,
      q,
      mul-le-mul_left (2 ^ k) below,
      mul-add (2 ^ k) (cube_number c) 65536,
      mul_left_comm (2 ^ k) 65536 (2 ^ m),
      pow-add 2 k m,
      all,
    )

pub stands_copyable : {n : ℕ} {c : ℕ} {v : List ℕ} {l : List ℕ} {h : List ℕ} {room : List ℕ} {at : ℕ} {a : ℕ} {b : ℕ} {k : ℕ} {g : ℕ} {from : ℕ} {size : ℕ} {old : ℕ} (chosen : ℕ) → Stands n c v l h room at a b k g from size old → k ≤ n → n ≤ 16 → chosen + 65536 ≤ 65536 * 2 ^ k → at + 3 ^ (n - k) ≤ 2 ^ 32 → Copyable room from at size old chosen
stands_copyable {n} {c} {v} {l} {h} {room} {at} {a} {b} {k} {g} {from} {size} {old} chosen s kn n16 q p =
    record {
      before = s.before;
      place = omega (arith, w.long, list-bound m L U, p);
      more = λ i u t. omega (arith, value i u t);
      fits = λ i u t.
          omega (
            arith,
            value i u t,
            under-fits k m (cube_at cs i) chosen (omega arith)
                (sized-at m cs i (omega (arith, w.long)) (list-sized m L U)) q,
          );
    }
  where
    m : ℕ
    m = n - k

    L : Fn m
    L = fn_of (table_of v l h) k m a

    U : Fn m
    U = fn_of (table_of v l h) k m b

    cs : List Cube
    cs = list_of m L U

    w : Written n c v l h room at k g from size old m L U
    w = s.list m (omega arith)

    value : (i : ℕ) → i < size → from + i < length room → get_or room (from + i) 0 ≡ old + 2 ^ k * cube_number (cube_at cs i)
    value i u t = copy_at room from old (2 ^ k) cs i w.copy (omega (arith, w.long)) t

-- A list just written stands. L and U are the functions of the two roots in the table as it is left, F what was there
-- before, and s the room before.
module _ {n : ℕ} {c : ℕ} {v : List ℕ} {l : List ℕ} {h : List ℕ} {room : List ℕ} {at : ℕ} {k : ℕ} {g : ℕ} {from : ℕ} {size : ℕ} {old : ℕ} where
  written_new :
      (F : List Tree) (s : List ℕ) (m : ℕ) (L : Fn m) (U : Fn m) →
      functions n (table_of v l h) c ≡ add_all F (named m L U) →
      Names v l h c k m (covered m (list_of m L U)) g →
      size ≡ length (list_of m L U) →
      room ≡ sets s from (numbers_under old (2 ^ k) (list_of m L U)) →
      Written n c v l h room at k g from size old m L U
  written_new F s m L U adds cover long written =
      record {
        there = subst⁻¹ (λ S. add_all S (named m L U) ≡ S) adds (adding_again-adds_nothing F (named m L U));
        cover = cover;
        long = long;
        copy =
            subst⁻¹ (λ t. sets t from (numbers_under old (2 ^ k) (list_of m L U)) ≡ t) written
            (sets_again s from (numbers_under old (2 ^ k) (list_of m L U)));
      }

  pub stands_new :
      {a : ℕ} {b : ℕ} (F : List Tree) (s : List ℕ) →
      refers (table_of v l h) c k a ≡ true →
      refers (table_of v l h) c k b ≡ true →
      ((m : ℕ) → k + m ≡ n → functions n (table_of v l h) c ≡ add_all F (named m (fn_of (table_of v l h) k m a) (fn_of (table_of v l h) k m b))) →
      ((m : ℕ) → k + m ≡ n → Names v l h c k m (covered m (list_of m (fn_of (table_of v l h) k m a) (fn_of (table_of v l h) k m b))) g) →
      ((m : ℕ) → k + m ≡ n → size ≡ length (list_of m (fn_of (table_of v l h) k m a) (fn_of (table_of v l h) k m b))) →
      ((m : ℕ) → k + m ≡ n → room ≡ sets s from (numbers_under old (2 ^ k) (list_of m (fn_of (table_of v l h) k m a) (fn_of (table_of v l h) k m b)))) →
      from + size ≤ at →
      Stands n c v l h room at a b k g from size old
  stands_new F s la lb adds cover long written before =
      record {
        lower = la;
        upper = lb;
        before = before;
        list = λ m e. written_new F s m _ _ (adds m e) (cover m e) (long m e) (written m e);
      }

  -- The same with the functions of the roots in the table as it was, c₀, v₀, l₀ and h₀, and the run that led from it.
  pub stands_listed :
      {c₀ : ℕ} {v₀ : List ℕ} {l₀ : List ℕ} {h₀ : List ℕ} {a : ℕ} {b : ℕ} (s : List ℕ) →
      Sound n c₀ v₀ l₀ h₀ →
      k ≤ n →
      refers (table_of v₀ l₀ h₀) c₀ k a ≡ true →
      refers (table_of v₀ l₀ h₀) c₀ k b ≡ true →
      ((m : ℕ) → k + m ≡ n → Run n c₀ v₀ l₀ h₀ v l h (named m (fn_of (table_of v₀ l₀ h₀) k m a) (fn_of (table_of v₀ l₀ h₀) k m b)) c) →
      ((m : ℕ) → k + m ≡ n → Names v l h c k m (covered m (list_of m (fn_of (table_of v₀ l₀ h₀) k m a) (fn_of (table_of v₀ l₀ h₀) k m b))) g) →
      ((m : ℕ) → k + m ≡ n → size ≡ length (list_of m (fn_of (table_of v₀ l₀ h₀) k m a) (fn_of (table_of v₀ l₀ h₀) k m b))) →
      ((m : ℕ) → k + m ≡ n → room ≡ sets s from (numbers_under old (2 ^ k) (list_of m (fn_of (table_of v₀ l₀ h₀) k m a) (fn_of (table_of v₀ l₀ h₀) k m b)))) →
      from + size ≤ at →
      Stands n c v l h room at a b k g from size old
  stands_listed {c₀} {v₀} {l₀} {h₀} {a} {b} s sound kn la lb run cover long written before =
      let r = run (n - k) (omega arith) in
      record {
        lower = stays _ k a r la;
        upper = stays _ k b r lb;
        before = before;
        list = λ m e.
            subst⁻¹ (λ L. Written n c v l h room at k g from size old m L (fn_of (table_of v l h) k m b)) (stays_fn _ k m a sound r la)
            (subst⁻¹ (λ U. Written n c v l h room at k g from size old m (fn_of (table_of v₀ l₀ h₀) k m a) U) (stays_fn _ k m b sound r lb)
            (written_new (functions n (table_of v₀ l₀ h₀) c₀) s m _ _ (run m e).adds (cover m e) (long m e) (written m e)));
      }
