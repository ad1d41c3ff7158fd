-- The three-valued rules: a step of the list rule at a point, over the values 0, 1 and star.
use Rattle.std.specs.Prelude.{Bool, true, false, cond, not, ◌&&◌, ◌||◌, List, [], ◌∷◌, ℕ, Option, Some, None}
use Rattle.rule.specs.Func.{Fn, but_not}
use Rattle.rule.specs.Point.{Pt, at}
use Rattle.rule.specs.declared.three.Value.{Value}
use Rattle.rule.specs.declared.three.Value.TheVariants.{Zero, One, Star}
use Rattle.rule.specs.declared.three.Rule.{Rule}
use Rattle.rule.specs.declared.three.Rule.TheVariants.{Keep, Remove, Join}

-- The place of a value in the order 0, 1, star.
unfoldable pub place_of : Value → ℕ
place_of Zero = 0
place_of One = 1
place_of Star = 2

-- What the lower and the upper root are where a value stands: 0 is neither, 1 is both, star is the upper alone.
unfoldable pub lower : Value → Bool
lower Zero = false
lower One = true
lower Star = false

unfoldable pub upper : Value → Bool
upper Zero = false
upper One = true
upper Star = true

unfoldable pub value_of : Bool → Bool → Value
value_of true u = One
value_of false true = Star
value_of false false = Zero

-- The value of a function with don't cares at a point.
unfoldable pub value_at : (m : ℕ) → Fn m → Fn m → Pt → Value
value_at m L U p = value_of (at m L p) (at m U p)

-- The lower and the upper sum of a rule. Keep: L0 less U1, under U0. Remove: L0 less G0, under U0. Join: R0 or R1,
-- under U0 and U1.
unfoldable pub lower_sum : Rule → Value → Value → Bool
lower_sum Keep a b = but_not (lower a) (upper b)
lower_sum Remove a b = but_not (lower a) (lower b)
lower_sum Join a b = lower a || lower b

unfoldable pub upper_sum : Rule → Value → Value → Bool
upper_sum Keep a b = upper a
upper_sum Remove a b = upper a
upper_sum Join a b = upper a && upper b

-- Whether two values can meet in a rule. A cover is 0 or 1 and lies within the upper root of its half; what is left of
-- one half lies within the upper root of the other.
unfoldable pub is_star : Value → Bool
is_star Zero = false
is_star One = false
is_star Star = true

unfoldable pub arises : Rule → Value → Value → Bool
arises Keep a b = true
arises Remove a b = not (is_star b) && not (but_not (lower b) (upper a))
arises Join a b = not (but_not (lower a) (upper b)) && not (but_not (lower b) (upper a))

-- What the table prints where two values cannot meet.
unfoldable pub unmet : Rule → Option Value
unmet Keep = None
unmet Remove = None
unmet Join = Some Zero

-- The entry of a rule for two values.
unfoldable pub entry_of : Rule → Value → Value → Option Value
entry_of r a b = cond (arises r a b) (Some (value_of (lower_sum r a b) (upper_sum r a b))) (unmet r)

-- A rule's entries in the table's order: for 0 0, 0 1, 0 *, 1 0, 1 1, 1 *, * 0, * 1, * *.
unfoldable pub listed : {A : Type 0} → (Value → Value → A) → List A
listed f =
    f Zero Zero ∷ f Zero One ∷ f Zero Star ∷ f One Zero ∷ f One One ∷ f One Star ∷ f Star Zero ∷ f Star One ∷
    f Star Star ∷ []

unfoldable pub entries_of : Rule → List (Option Value)
entries_of r = listed (entry_of r)

-- The table as document 01 prints it.
unfoldable pub printed : Rule → List (Option Value)
printed Keep =
    Some Zero ∷ Some Zero ∷ Some Zero ∷ Some One ∷ Some Star ∷ Some Star ∷ Some Star ∷ Some Star ∷ Some Star ∷ []
printed Remove = Some Zero ∷ None ∷ None ∷ Some One ∷ Some Star ∷ None ∷ Some Star ∷ Some Star ∷ None ∷ []
printed Join =
    Some Zero ∷ Some Zero ∷ Some Zero ∷ Some Zero ∷ Some One ∷ Some One ∷ Some Zero ∷ Some One ∷ Some Star ∷ []
