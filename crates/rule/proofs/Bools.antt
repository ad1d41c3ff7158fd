-- Small facts of truth values, by cases.
use mathlib.Core.Path.{◌≡◌, refl, sym, ◌∙◌}
use mathlib.Core.Bool.{Bool, true, false, not, ◌&&◌, ◌||◌, beq, true≢false, false≢true}
use mathlib.Core.Logic.{◌⊎◌, inl, inr}

-- A test that is both.
pub clash : {A : Type 0} {b : Bool} → b ≡ true → b ≡ false → A
clash t f = absurd (true≢false (sym t ∙ f))

pub beq_true : (a b : Bool) → beq a b ≡ true → a ≡ b
beq_true true true e = refl
beq_true true false e = absurd (false≢true e)
beq_true false true e = absurd (false≢true e)
beq_true false false e = refl

pub beq_false : (a b : Bool) → beq a b ≡ false → a ≡ not b
beq_false true true e = absurd (true≢false e)
beq_false true false e = refl
beq_false false true e = refl
beq_false false false e = absurd (true≢false e)

pub beq_refl : (b : Bool) → beq b b ≡ true
beq_refl true = refl
beq_refl false = refl

pub and_left : (a b : Bool) → (a && b) ≡ true → a ≡ true
and_left true b e = refl
and_left false b e = e

pub and_right : (a b : Bool) → (a && b) ≡ true → b ≡ true
and_right true b e = e
and_right false b e = absurd (false≢true e)

pub and_intro : (a b : Bool) → a ≡ true → b ≡ true → (a && b) ≡ true
and_intro true b p q = q
and_intro false b p q = p

pub and_false : (a b : Bool) → (a && b) ≡ false → (a ≡ false) ⊎ (b ≡ false)
and_false true b e = inr e
and_false false b e = inl refl

pub or_true : (a b : Bool) → (a || b) ≡ true → (a ≡ true) ⊎ (b ≡ true)
or_true true b e = inl refl
or_true false b e = inr e

pub or_left : (a b : Bool) → a ≡ true → (a || b) ≡ true
or_left true b e = refl
or_left false b e = absurd (false≢true e)

pub or_right : (a b : Bool) → b ≡ true → (a || b) ≡ true
or_right true b e = refl
or_right false b e = e

pub or_false : (a b : Bool) → a ≡ false → b ≡ false → (a || b) ≡ false
or_false true b p q = p
or_false false b p q = q

pub or_false_left : (a b : Bool) → (a || b) ≡ false → a ≡ false
or_false_left true b e = e
or_false_left false b e = refl

pub or_false_right : (a b : Bool) → (a || b) ≡ false → b ≡ false
or_false_right true b e = absurd (true≢false e)
or_false_right false b e = e

pub not_is_true : (a : Bool) → not a ≡ true → a ≡ false
not_is_true true e = absurd (false≢true e)
not_is_true false e = refl

pub not_is_false : (a : Bool) → not a ≡ false → a ≡ true
not_is_false true e = refl
not_is_false false e = absurd (true≢false e)

-- A truth value that is not true is false, and the reverse.
pub must_be_false : (a : Bool) → (a ≡ true → ⊥) → a ≡ false
must_be_false true h = absurd (h refl)
must_be_false false h = refl

pub must_be_true : (a : Bool) → (a ≡ false → ⊥) → a ≡ true
must_be_true true h = refl
must_be_true false h = absurd (h refl)

-- Either way a truth value can be, with what it is.
pub which : (a : Bool) → (a ≡ true) ⊎ (a ≡ false)
which true = inl refl
which false = inr refl

pub and_false_right : (a b : Bool) → a ≡ true → (a && b) ≡ false → b ≡ false
and_false_right true b t e = e
and_false_right false b t e = absurd (false≢true t)

pub implies : (a b : Bool) → (not a || b) ≡ true → a ≡ true → b ≡ true
implies true b e t = e
implies false b e t = absurd (false≢true t)

pub not_itself : {A : Type 0} (b : Bool) → b ≡ not b → A
not_itself true e = absurd (true≢false e)
not_itself false e = absurd (false≢true e)

-- Not a or b is the same as: a and not b is 0.
pub imply_table : (a b : Bool) → (not a || b) ≡ beq (a && not b) false
imply_table true true = refl
imply_table true false = refl
imply_table false b = refl

-- Not a or not b is the same as: a and b is 0.
pub apart-table : (a b : Bool) → (not a || not b) ≡ beq (a && b) false
apart-table true true = refl
apart-table true false = refl
apart-table false b = refl

pub not_twice : (a : Bool) → not (not a) ≡ a
not_twice true = refl
not_twice false = refl

pub or_assoc : (a b c : Bool) → (a || (b || c)) ≡ ((a || b) || c)
or_assoc true b c = refl
or_assoc false b c = refl

pub and_over_or : (a b c : Bool) → ((a && b) || (a && c)) ≡ (a && (b || c))
and_over_or true b c = refl
and_over_or false b c = refl

pub and_false_r : (a : Bool) → (a && false) ≡ false
and_false_r true = refl
and_false_r false = refl

pub or_none : (a : Bool) → (a || false) ≡ a
or_none true = refl
or_none false = refl

-- Either a, or b where a is not.
pub or_otherwise : (a b : Bool) → (a ≡ false → b ≡ true) → (a || b) ≡ true
or_otherwise true b h = refl
or_otherwise false b h = h refl

pub or_swap : (a b c : Bool) → (a || (b || c)) ≡ (b || (a || c))
or_swap true true c = refl
or_swap true false c = refl
or_swap false b c = refl
