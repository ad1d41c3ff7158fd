-- Laws of cubes and lists of cubes by the points that they cover.
use mathlib.Core.Path.{◌≡◌, refl, sym, ap, ◌∙◌}
use mathlib.Core.Bool.{Bool, true, false, ◌&&◌, ◌||◌}
use mathlib.Core.List.{List, [], ◌∷◌, ◌++◌}
use Prim.Native.Nat.{ℕ, zero, suc}
use Rattle.rule.specs.Func.{Fn, half, constant, either}
use Rattle.rule.specs.Point.{Pt, lead, rest, at}
use Rattle.rule.specs.Cube.{Sign, sign0, sign1, dash, Cube, lead_sign, rest_signs, permits, covers, covers_any, under, cube_fn, covered, dashes}
use Rattle.rule.specs.Rule.{put}
use Rattle.rule.proofs.Func.{at_constant, at-either, ext}
use Rattle.rule.proofs.Operations.{either-none}
use Rattle.rule.proofs.Bools.{or_assoc, and_over_or, and_false_r}

-- The function under a sign, at a first digit: the one where the sign permits the digit, else the other.
at_under : (m : ℕ) (s : Sign) (f : Fn m) (d : Bool) (p : Pt) → at m (half d (under s f (constant m false))) p ≡ (permits s d && at m f p)
unfolding half under permits
at_under m sign0 f false p = refl
at_under m sign0 f true p = at_constant m false p
at_under m sign1 f false p = at_constant m false p
at_under m sign1 f true p = refl
at_under m dash f false p = refl
at_under m dash f true p = refl

-- The function that a cube covers is 1 at the points that it covers.
pub at-cube_fn : (m : ℕ) (c : Cube) (p : Pt) → at m (cube_fn m c) p ≡ covers m c p
unfolding at cube_fn covers
at-cube_fn zero c p = refl
at-cube_fn (suc m) c p =
    at_under m (lead_sign c) (cube_fn m (rest_signs c)) (lead p) (rest p) ∙
    ap (λ b. permits (lead_sign c) (lead p) && b) (at-cube_fn m (rest_signs c) (rest p))

-- The function that a list covers is 1 at the points that some cube covers.
pub at-covered : (m : ℕ) (cs : List Cube) (p : Pt) → at m (covered m cs) p ≡ covers_any m cs p
unfolding covered covers_any
at-covered m [] p = at_constant m false p
at-covered m (c ∷ cs) p =
    at-either m (cube_fn m c) (covered m cs) p ∙
    ap (λ b. b || at m (covered m cs) p) (at-cube_fn m c p) ∙
    ap (λ b. covers m c p || b) (at-covered m cs p)

-- Two lists one after the other cover what either does.
pub any_append : (m : ℕ) (xs : List Cube) (ys : List Cube) (p : Pt) → covers_any m (xs ++ ys) p ≡ (covers_any m xs p || covers_any m ys p)
unfolding covers_any
any_append m [] ys p = refl
any_append m (x ∷ xs) ys p =
    ap (λ b. covers m x p || b) (any_append m xs ys p) ∙ or_assoc (covers m x p) (covers_any m xs p) (covers_any m ys p)

pub covered_append : (m : ℕ) (xs : List Cube) (ys : List Cube) → covered m (xs ++ ys) ≡ either m (covered m xs) (covered m ys)
covered_append m xs ys =
    ext m (covered m (xs ++ ys)) (either m (covered m xs) (covered m ys))
    (λ p w. rw (at-covered m (xs ++ ys), at-either, at-covered m xs, at-covered m ys) (any_append m xs ys p))

-- A list of one cube covers what the cube does.
pub covered_one : (m : ℕ) (c : Cube) → covered m (c ∷ []) ≡ cube_fn m c
unfolding covered
covered_one m c = either-none m (cube_fn m c)

-- With a sign put before every cube, a list covers the points whose first digit the sign permits and whose rest it covered.
pub any_put : (m : ℕ) (s : Sign) (cs : List Cube) (p : Pt) → covers_any (suc m) (put s cs) p ≡ (permits s (lead p) && covers_any m cs (rest p))
unfolding covers_any covers lead_sign rest_signs put
any_put m s [] p = sym (and_false_r (permits s (lead p)))
any_put m s (c ∷ cs) p =
    ap (λ b. (permits s (lead p) && covers m c (rest p)) || b) (any_put m s cs p) ∙
    and_over_or (permits s (lead p)) (covers m c (rest p)) (covers_any m cs (rest p))

-- The cube without literals covers every point.
pub dashes-cover : (m : ℕ) (p : Pt) → covers m (dashes m) p ≡ true
unfolding covers dashes lead_sign rest_signs permits
dashes-cover zero p = refl
dashes-cover (suc m) p = dashes-cover m (rest p)
