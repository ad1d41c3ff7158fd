-- The entries: the range of a root, and what clearing keeps.
use mathlib.Core.Path.{◌≡◌, sym, ap, ◌∙◌}
use mathlib.Core.Bool.{true, false, ◌&&◌}
use mathlib.Core.List.{List}
use mathlib.Core.Logic.{◌⊎◌, inl, inr}
use Prim.Native.Nat.{ℕ, ◌+◌, ◌-◌, ◌<◌}
use native.Mathlib.Omega.{arith}
use lib.Dec.{ltb}
use borrow.Author.Tests.{ltb-true, ltb-false}
use Rattle.rule.specs.Func.{Fn}
use Rattle.rule.proofs.Bools.{and_intro, and_false_r, which}
use Rattle.graph.specs.Table.{Table, table_of, refers, Agree}
use Rattle.graph.specs.Sound.{Sized, Sound, Rooted}
use Rattle.graph.specs.Built.{Built}
use Rattle.graph.specs.Entry.{cleared, in_range}
use Rattle.graph.proofs.Tests.{InUse, is-refers}
use Rattle.graph.proofs.Agree.{agree_through, agree-refers, agree_fn, agree-good, agree-functions}
use Rattle.graph.proofs.Clearing.{cleared-length, cleared_at}

-- A number in range refers at the first column.
pub ranged_refers : (T : Table) (c : ℕ) (x : ℕ) → in_range c x ≡ true → refers T c 0 x ≡ true
unfolding in_range
ranged_refers T c x e = is-refers T c 0 x (go (which (ltb x 2)))
  where
    go : (ltb x 2 ≡ true) ⊎ (ltb x 2 ≡ false) → (x < 2) ⊎ InUse T c 0 x
    go (inl t) = inl (ltb-true x 2 t)
    go (inr f) =
        let past = ltb-false x 2 f in
        let within = ltb-true x (c + 2) e in
        inr (record { place = x - 2; number = omega arith; used = omega arith; deep = omega arith })

pub root_in_range : (n : ℕ) (c : ℕ) (v : List ℕ) (l : List ℕ) (h : List ℕ) (x : ℕ) → Sound n c v l h → in_range c x ≡ true → Rooted n c v l h 0 x
root_in_range n c v l h x s e =
    record { sound = s; column = omega arith; number = ranged_refers (table_of v l h) c x e }

-- Two numbers are in range if both are.
module _ (c : ℕ) (a : ℕ) (b : ℕ) where
  pub both_in : in_range c a ≡ true → in_range c b ≡ true → (in_range c a && in_range c b) ≡ true
  both_in = and_intro (in_range c a) (in_range c b)

  pub first_out : in_range c a ≡ false → (in_range c a && in_range c b) ≡ false
  first_out e = ap (λ t. t && in_range c b) e

  pub second-out : in_range c b ≡ false → (in_range c a && in_range c b) ≡ false
  second-out e = ap (λ t. in_range c a && t) e ∙ and_false_r (in_range c a)

-- Clearing the records past the count keeps those in use.
module _ {c : ℕ} {v : List ℕ} {l : List ℕ} {h : List ℕ} where
  pub cleared-agree : Sized c v l h → Agree (table_of v l h) (table_of (cleared c v) (cleared c l) (cleared c h)) c
  unfolding table_of
  cleared-agree s =
      record {
        level = cleared_at c v s.count;
        low = cleared_at c l (omega (arith, s.count, s.low));
        high = cleared_at c h (omega (arith, s.count, s.high));
      }

  pub cleared-sized : Sized c v l h → Sized c (cleared c v) (cleared c l) (cleared c h)
  cleared-sized s =
      record {
        count = omega (arith, s.count, cleared-length c v);
        low = cleared-length c l ∙ s.low ∙ sym (cleared-length c v);
        high = cleared-length c h ∙ s.high ∙ sym (cleared-length c v);
        room = omega (arith, s.room, cleared-length c v);
      }

module _ {n : ℕ} {c : ℕ} {v : List ℕ} {l : List ℕ} {h : List ℕ} {v' : List ℕ} {l' : List ℕ} {h' : List ℕ} {k : ℕ} {m : ℕ} {f : Fn m} where
  pub built-cleared : {x : ℕ} {c' : ℕ} → Built n c v l h v' l' h' k m f x c' → Built n c v l h (cleared c' v') (cleared c' l') (cleared c' h') k m f x c'
  built-cleared {x} {c'} b =
      let T = table_of v' l' h' in
      let T' = table_of (cleared c' v') (cleared c' l') (cleared c' h') in
      let a = cleared-agree b.sound.sized in
      record {
        sound =
            record {
              sized = cleared-sized b.sound.sized;
              columns = b.sound.columns;
              good = agree-good n T T' c' a b.sound.good;
            };
        length-kept = cleared-length c' v' ∙ b.length-kept;
        more = b.more;
        kept = agree_through c c' b.more b.kept a;
        number = agree-refers T T' c' a k x b.number;
        means = agree_fn T T' c' a n b.sound.good m k x b.number ∙ b.means;
        adds = agree-functions n T T' c' a b.sound.good ∙ b.adds;
      }
