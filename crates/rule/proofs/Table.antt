-- The table's rule: that the 27 printed entries are those of the formulas is one equation, which is computed; and a list
-- of nine entries has, at the place of two values, what the formulas give for them.
use mathlib.Core.Path.{◌≡◌, refl, sym, ap, ◌∙◌}
use mathlib.Core.List.{List, [], ◌∷◌, map}
use Prim.Native.Nat.{ℕ, ◌+◌, ◌*◌, ◌<◌}
use native.Mathlib.Omega.{arith}
use lib.ListN.{get_or}
use Rattle.std.specs.Prelude.{Option}
use Rattle.rule.specs.Func.{but_not}
use Rattle.rule.specs.Three.{place_of, lower, upper, value_of, lower_sum, upper_sum, is_star, arises, unmet, listed, entry_of, entries_of, printed}
use Rattle.rule.specs.declared.three.Value.{Value}
use Rattle.rule.specs.declared.three.Value.TheVariants.{Zero, One, Star}
use Rattle.rule.specs.declared.three.Rule.{Rule}
use Rattle.rule.specs.declared.three.Rule.TheVariants.{Keep, Remove, Join}

-- What holds for each value holds for all.
each_value : (P : Value → Type 0) → P Zero → P One → P Star → (v : Value) → P v
each_value P zero one star Zero = zero
each_value P zero one star One = one
each_value P zero one star Star = star

-- A value's place is below 3, so that of two values is below 9.
pub place_below : {i : ℕ} (v : Value) → i ≡ place_of v → i < 3
unfolding place_of
place_below {i} = each_value (λ v. i ≡ place_of v → i < 3) (λ e. omega arith) (λ e. omega arith) (λ e. omega arith)

-- What stands in the table's order stands at the place of its values.
at_place : {A : Type 0} (f : Value → Value → A) (d : A) (a : Value) (b : Value) → get_or (listed f) (place_of a * 3 + place_of b) d ≡ f a b
unfolding place_of listed
at_place f d =
    each_value (λ a. (b : Value) → there a b) (each_value (there Zero) refl refl refl)
    (each_value (there One) refl refl refl)
    (each_value (there Star) refl refl refl)
  where
    there : Value → Value → Type 0
    there a b = get_or (listed f) (place_of a * 3 + place_of b) d ≡ f a b

-- The one test of the table's 27 entries: what the formulas give is what document 01 prints.
table_test : map entries_of (Keep ∷ Remove ∷ Join ∷ []) ≡ map printed (Keep ∷ Remove ∷ Join ∷ [])
unfolding but_not lower upper value_of lower_sum upper_sum is_star arises unmet entry_of listed entries_of printed
table_test = refl

printed_right : (r : Rule) → printed r ≡ entries_of r
printed_right Keep = sym (ap (λ t. get_or t 0 []) table_test)
printed_right Remove = sym (ap (λ t. get_or t 1 []) table_test)
printed_right Join = sym (ap (λ t. get_or t 2 []) table_test)

-- The printed entry at the place of two values is what the rule gives for them.
pub entry_at : (r : Rule) (a : Value) (b : Value) (d : Option Value) {table : List (Option Value)} {i : ℕ} {j : ℕ} →
    table ≡ printed r → i ≡ place_of a → j ≡ place_of b → get_or table (i * 3 + j) d ≡ entry_of r a b
unfolding entries_of
entry_at r a b d is ei ej = rw (is, printed_right r, ei, ej) (at_place (entry_of r) d a b)

-- Two lists in the table's order are equal only if all that stands in them is.
pub same-listed : {A : Type 0} (f : Value → Value → A) (g : Value → Value → A) → listed f ≡ listed g → (a : Value) (b : Value) → f a b ≡ g a b
same-listed f g e a b =
    sym (at_place f (f a b) a b) ∙ ap (λ t. get_or t (place_of a * 3 + place_of b) (f a b)) e ∙ at_place g (f a b) a b
