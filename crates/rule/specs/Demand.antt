-- The four conditions that a list must keep, in the words of the demand, and what each verdict claims of a list.
use Rattle.std.specs.Prelude.{◌≡◌, true, false, List, ℕ, ◌+◌, ◌<◌, ◌≤◌, length}
use Rattle.rule.specs.Func.{Fn}
use Rattle.rule.specs.Point.{Pt, at, reading, point_number}
use Rattle.rule.specs.Cube.{Cube, covers, covers_any, has_literal, without_literal, cube_at, without}
use Rattle.rule.specs.Verdict.{Verdict, accept, off, missing, literal, cube}

module _ (m : ℕ) (L U : Fn m) (cs : List Cube) where
  -- A point of m columns at which the function is on, or off.
  pub record On (p : Pt) : Type 0 where
    pub whole : length p ≡ m
    pub lower : at m L p ≡ true

  pub record Off (p : Pt) : Type 0 where
    pub whole : length p ≡ m
    pub upper : at m U p ≡ false

  -- Every on point is covered.
  abbrev pub EveryOn : Type 0
  EveryOn = (p : Pt) → On p → covers_any m cs p ≡ true

  -- The cube at position i covers no off point.
  abbrev pub NoOff : ℕ → Type 0
  NoOff i = (p : Pt) → Off p → covers m (cube_at cs i) p ≡ false

  -- Without the cube at position i, an on point is bare.
  abbrev pub Needed : ℕ → Type 0
  Needed i = (p : Pt) × On p × (covers_any m (without cs i) p ≡ false)

  -- Without its literal in column k, the cube at position i covers an off point.
  abbrev pub LiteralNeeded : ℕ → ℕ → Type 0
  LiteralNeeded i k = (p : Pt) × Off p × (covers m (without_literal (cube_at cs i) k) p ≡ true)

  abbrev pub EveryLiteralNeeded : ℕ → Type 0
  EveryLiteralNeeded i = (k : ℕ) → k < m → has_literal (cube_at cs i) k ≡ true → LiteralNeeded i k

  -- The four conditions: every on point covered, no off point, no row and no literal too many.
  pub record Honest : Type 0 where
    pub every_on : EveryOn
    pub no_off : (i : ℕ) → i < length cs → NoOff i
    pub no_literal : (i : ℕ) → i < length cs → EveryLiteralNeeded i
    pub no_row : (i : ℕ) → i < length cs → Needed i

  -- (a) Cube i covers the off point p, no smaller one, and no earlier cube covers any.
  pub record OffFault (i : ℕ) (p : Pt) : Type 0 where
    pub place : i < length cs
    pub is_off : Off p
    pub is_covered : covers m (cube_at cs i) p ≡ true
    pub smallest : (q : Pt) → Off q → covers m (cube_at cs i) q ≡ true → reading p ≤ reading q
    pub earlier : (j : ℕ) → j < i → NoOff j

  -- (b) No off point is covered; the on point p is bare, and no smaller one is.
  pub record MissingFault (p : Pt) : Type 0 where
    pub no_off : (i : ℕ) → i < length cs → NoOff i
    pub is_on : On p
    pub is_bare : covers_any m cs p ≡ false
    pub smallest : (q : Pt) → On q → covers_any m cs q ≡ false → reading p ≤ reading q

  -- (c) Conditions (a) and (b) hold; the literal of cube i in column k can go, none of its literals further left and
  -- none of an earlier cube.
  pub record LiteralFault (i : ℕ) (k : ℕ) : Type 0 where
    pub no_off : (j : ℕ) → j < length cs → NoOff j
    pub every_on : EveryOn
    pub place : i < length cs
    pub column : k < m
    pub is_literal : has_literal (cube_at cs i) k ≡ true
    pub can_go : (p : Pt) → Off p → covers m (without_literal (cube_at cs i) k) p ≡ false
    pub leftmost : (l : ℕ) → l < k → has_literal (cube_at cs i) l ≡ true → LiteralNeeded i l
    pub earlier : (j : ℕ) → j < i → EveryLiteralNeeded j

  -- (d) Conditions (a), (b) and (c) hold; without cube i no on point is bare, and of no earlier cube is that so.
  pub record CubeFault (i : ℕ) : Type 0 where
    pub no_off : (j : ℕ) → j < length cs → NoOff j
    pub every_on : EveryOn
    pub no_literal : (j : ℕ) → j < length cs → EveryLiteralNeeded j
    pub place : i < length cs
    pub spare : (p : Pt) → On p → covers_any m (without cs i) p ≡ true
    pub earlier : (j : ℕ) → j < i → Needed j

  -- What a verdict claims.
  unfoldable pub Claims : Verdict → Type 0
  Claims accept = Honest
  Claims (off c x) = (i : ℕ) × (p : Pt) × (c ≡ i + 1) × (x ≡ point_number p) × OffFault i p
  Claims (missing x) = (p : Pt) × (x ≡ point_number p) × MissingFault p
  Claims (literal c k) = (i : ℕ) × (c ≡ i + 1) × LiteralFault i k
  Claims (cube c) = (i : ℕ) × (c ≡ i + 1) × CubeFault i
