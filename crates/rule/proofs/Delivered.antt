-- The verdict accepts the rule's list, stated on cube numbers for up to 16 columns.
use mathlib.Core.Path.{◌≡◌, refl, ap, ◌∙◌}
use mathlib.Core.Bool.{true}
use mathlib.Core.List.{List, [], ◌∷◌, map}
use Prim.Native.Nat.{ℕ, ◌≤◌}
use Rattle.rule.specs.Func.{Fn, within}
use Rattle.rule.specs.Cube.{Cube}
use Rattle.rule.specs.Number.{cube_number, signs, well_formed}
use Rattle.rule.specs.Rule.{list_of, list_numbers}
use Rattle.rule.specs.Verdict.{verdict, accept, verdict_numbers}
use Rattle.rule.proofs.Honest.{Sized, list-sized}
use Rattle.rule.proofs.Number.{signs-cube_number, well_formed-cube_number}
use Rattle.rule.proofs.Verdict.{accepts_list}

-- The numbers of cubes with m signs each, as signs again.
pub signs-numbers : (m : ℕ) → m ≤ 16 → (cs : List Cube) → Sized m cs → map (signs m) (map cube_number cs) ≡ cs
unfolding Sized
signs-numbers m h [] s = refl
signs-numbers m h (c ∷ cs) s = λ i. signs-cube_number m c s.0 h i ∷ signs-numbers m h cs s.1 i

-- Whether every number of a list is a well-formed cube.
unfoldable pub AllFormed : ℕ → List ℕ → Type 0
AllFormed m [] = Unit {0}
AllFormed m (x ∷ xs) = (well_formed m x ≡ true) × AllFormed m xs

pub numbers-formed : (m : ℕ) → m ≤ 16 → (cs : List Cube) → Sized m cs → AllFormed m (map cube_number cs)
unfolding Sized AllFormed
numbers-formed m h [] s = tt
numbers-formed m h (c ∷ cs) s = (well_formed-cube_number m c s.0 h, numbers-formed m h cs s.1)

-- Every number of the rule's list is a well-formed cube.
pub list-formed : (m : ℕ) (L : Fn m) (U : Fn m) → m ≤ 16 → AllFormed m (list_numbers m L U)
unfolding list_numbers
list-formed m L U h = numbers-formed m h (list_of m L U) (list-sized m L U)

-- The verdict on the rule's list is accept.
pub accepts_numbers : (m : ℕ) (L : Fn m) (U : Fn m) → m ≤ 16 → within m L U ≡ true → verdict_numbers m L U (list_numbers m L U) ≡ accept
unfolding verdict_numbers list_numbers
accepts_numbers m L U h w =
    ap (verdict m L U) (signs-numbers m h (list_of m L U) (list-sized m L U)) ∙ accepts_list m L U w
