-- The operations of a step of the list rule, between its three lists: what they ask and what they promise.
use Rattle.std.specs.Prelude.{◌≡◌, true, List, ◌++◌, ℕ, suc, ◌+◌, ◌<◌, ◌≤◌, Option, Some, None}
use Rattle.rule.specs.Func.{Fn, both, either, less}
use Rattle.rule.specs.Nodes.{Tree, nodes}
use Rattle.rule.specs.Rule.{p0_of, p1_of, list_of}
use Rattle.graph.specs.Table.{table_of, fn_of, refers}
use Rattle.graph.specs.Lent.{table}
use Rattle.graph.specs.Sound.{Sound, RootedTwice}
use Rattle.graph.specs.Run.{Run, Short, Names}
use Rattle.memo.specs.declared.build.Operations.{Operations}
use Rattle.steps.specs.declared.step.Kept.{Kept}
use Rattle.steps.specs.declared.step.Covers.{Covers}

-- The functions that a step names before its lists.
module _ (m : ℕ) (L : Fn (suc m)) (U : Fn (suc m)) where
  unfoldable pub named_kept : List Tree
  named_kept = nodes m (p0_of m (list_of m) L U) ++ nodes m (p1_of m (list_of m) L U)

-- A step's column and its two roots.
pub record Stepping (n : ℕ) (c : ℕ) (v : List ℕ) (l : List ℕ) (h : List ℕ) (k : ℕ) (a : ℕ) (b : ℕ) : Type 0 where
  pub roots : RootedTwice n c v l h k a b
  pub column : k < n

module _ (n : ℕ) (c : ℕ) (v : List ℕ) (l : List ℕ) (h : List ℕ) (v' : List ℕ) (l' : List ℕ) (h' : List ℕ) (k : ℕ) (m : ℕ) (L : Fn (suc m)) (U : Fn (suc m)) where
  -- The halves of both roots, P0 and P1.
  pub record KeptDone (l0 : ℕ) (l1 : ℕ) (u0 : ℕ) (u1 : ℕ) (p0 : ℕ) (p1 : ℕ) (c' : ℕ) : Type 0 where
    pub run : Run n c v l h v' l' h' (named_kept m L U) c'
    pub lower0 : Names v' l' h' c' (k + 1) m L.0 l0
    pub lower1 : Names v' l' h' c' (k + 1) m L.1 l1
    pub upper0 : Names v' l' h' c' (k + 1) m U.0 u0
    pub upper1 : Names v' l' h' c' (k + 1) m U.1 u1
    pub kept0 : Names v' l' h' c' (k + 1) m (p0_of m (list_of m) L U) p0
    pub kept1 : Names v' l' h' c' (k + 1) m (p1_of m (list_of m) L U) p1

  unfoldable pub KeptOf : ℕ → Option Kept → Type 0
  KeptOf c' (Some r) = KeptDone r.l0 r.l1 r.u0 r.u1 r.p0 r.p1 c'
  KeptOf c' None = Short n c v l h v' l' h' (named_kept m L U)

-- What is asked to find what A and B leave: all six numbers are in use.
pub record SixRoots (n : ℕ) (c : ℕ) (v : List ℕ) (l : List ℕ) (h : List ℕ) (k : ℕ) (l0 : ℕ) (g0 : ℕ) (l1 : ℕ) (g1 : ℕ) (u0 : ℕ) (u1 : ℕ) : Type 0 where
  pub sound : Sound n c v l h
  pub column : k ≤ n
  pub lower0 : refers (table_of v l h) c k l0 ≡ true
  pub cover0 : refers (table_of v l h) c k g0 ≡ true
  pub lower1 : refers (table_of v l h) c k l1 ≡ true
  pub cover1 : refers (table_of v l h) c k g1 ≡ true
  pub upper0 : refers (table_of v l h) c k u0 ≡ true
  pub upper1 : refers (table_of v l h) c k u1 ≡ true

-- What A and B leave, joined, and what both halves allow: R0, R1, R0 or R1, U0 and U1 are named.
module _ (n : ℕ) (c : ℕ) (v : List ℕ) (l : List ℕ) (h : List ℕ) (v' : List ℕ) (l' : List ℕ) (h' : List ℕ) (k : ℕ) (m : ℕ)
    (f0 : Fn m) (g0 : Fn m) (f1 : Fn m) (g1 : Fn m) (w0 : Fn m) (w1 : Fn m) where
  unfoldable pub named_left : List Tree
  named_left =
      nodes m (less m f0 g0) ++ nodes m (less m f1 g1) ++ nodes m (either m (less m f0 g0) (less m f1 g1)) ++ nodes m (both m w0 w1)

  pub record RestDone (x : ℕ) (y : ℕ) (c' : ℕ) : Type 0 where
    pub run : Run n c v l h v' l' h' named_left c'
    pub left : Names v' l' h' c' k m (either m (less m f0 g0) (less m f1 g1)) x
    pub top : Names v' l' h' c' k m (both m w0 w1) y

  unfoldable pub RestOf : ℕ → Option (ℕ × ℕ) → Type 0
  RestOf c' (Some r) = RestDone r.0 r.1 c'
  RestOf c' None = Short n c v l h v' l' h' named_left

-- What is asked to join the covers.
pub record ThreeRoots (n : ℕ) (c : ℕ) (v : List ℕ) (l : List ℕ) (h : List ℕ) (k : ℕ) (g0 : ℕ) (g1 : ℕ) (gs : ℕ) : Type 0 where
  pub sound : Sound n c v l h
  pub column : k < n
  pub cover0 : refers (table_of v l h) c (k + 1) g0 ≡ true
  pub cover1 : refers (table_of v l h) c (k + 1) g1 ≡ true
  pub cover_c : refers (table_of v l h) c (k + 1) gs ≡ true

-- The same of a table with its memo.
abbrev pub SteppingIn : Operations → ℕ → ℕ → ℕ → Type 0
SteppingIn o k a b = Stepping o.table.now.columns o.table.now.count o.table.now.level.now o.table.now.low.now o.table.now.high.now k a b

abbrev pub KeptIn : Operations → Operations → ℕ → ℕ → ℕ → ℕ → Option Kept → Type 0
KeptIn o o' k m a b r =
    KeptOf o.table.now.columns o.table.now.count o.table.now.level.now o.table.now.low.now o.table.now.high.now
    o'.table.now.level.now o'.table.now.low.now o'.table.now.high.now k m
    (fn_of (table o.table.now) k (suc m) a) (fn_of (table o.table.now) k (suc m) b) o'.table.now.count r

abbrev pub LeftIn : Operations → ℕ → Kept → ℕ → ℕ → Type 0
LeftIn o k p g0 g1 =
    SixRoots o.table.now.columns o.table.now.count o.table.now.level.now o.table.now.low.now o.table.now.high.now k p.l0 g0 p.l1 g1 p.u0 p.u1

abbrev pub RestIn : Operations → Operations → ℕ → ℕ → Kept → ℕ → ℕ → Option (ℕ × ℕ) → Type 0
RestIn o o' k m p g0 g1 r =
    RestOf o.table.now.columns o.table.now.count o.table.now.level.now o.table.now.low.now o.table.now.high.now
    o'.table.now.level.now o'.table.now.low.now o'.table.now.high.now k m
    (fn_of (table o.table.now) k m p.l0) (fn_of (table o.table.now) k m g0)
    (fn_of (table o.table.now) k m p.l1) (fn_of (table o.table.now) k m g1)
    (fn_of (table o.table.now) k m p.u0) (fn_of (table o.table.now) k m p.u1) o'.table.now.count r

abbrev pub CoversIn : Operations → ℕ → Covers → Type 0
CoversIn o k g = ThreeRoots o.table.now.columns o.table.now.count o.table.now.level.now o.table.now.low.now o.table.now.high.now k g.g0 g.g1 g.gs

-- The cover of a step at column k, by the halves for 0 and for 1 in it.
abbrev pub joined_covers : Operations → ℕ → (m : ℕ) → Covers → Fn (suc m)
joined_covers o k m g = (
  either m (fn_of (table o.table.now) (k + 1) m g.g0) (fn_of (table o.table.now) (k + 1) m g.gs),
  either m (fn_of (table o.table.now) (k + 1) m g.g1) (fn_of (table o.table.now) (k + 1) m g.gs),
)
