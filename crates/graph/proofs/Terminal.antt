-- The results that constants and equal operands make known. A result is checked at a point: there a constant has its own
-- value, and what is left is a fact of truth values.
use mathlib.Core.Path.{◌≡◌, sym, ap, ◌∙◌}
use mathlib.Core.Bool.{Bool, true, false}
use Prim.Native.Nat.{ℕ, ◌<◌}
use lib.Dec.{lit<}
use Rattle.rule.specs.Func.{constant, joined}
use Rattle.rule.specs.Point.{Pt, at, bit}
use Rattle.rule.proofs.Func.{at_constant, at_joined, ext}
use Rattle.graph.specs.Table.{Table, fn_of}
use Rattle.graph.specs.Operation.{op_of, Right}
use Rattle.graph.specs.declared.operation.Op.{Op}
use Rattle.graph.proofs.Tests.{constant-refers}
use Rattle.graph.proofs.Numbers.{fn_zero, fn_one}

-- The number of a constant is its digit.
pub bit_small : (d : Bool) → bit d < 2
unfolding bit
bit_small false = lit< tt
bit_small true = lit< tt

pub fn_bit : (T : Table) (k : ℕ) (m : ℕ) (d : Bool) → fn_of T k m (bit d) ≡ constant m d
unfolding bit
fn_bit T k m false = fn_zero T k m
fn_bit T k m true = fn_one T k m

-- The value of a number at a point.
abbrev value : Table → ℕ → ℕ → ℕ → Pt → Bool
value T k m x p = at m (fn_of T k m x) p

pub value_bit : (T : Table) (k : ℕ) (m : ℕ) (d : Bool) (p : Pt) → at m (fn_of T k m (bit d)) p ≡ d
value_bit T k m d p = ap (λ f. at m f p) (fn_bit T k m d) ∙ at_constant m d p

pub value_of : (x : ℕ) (d : Bool) → x ≡ bit d → (T : Table) (k : ℕ) (m : ℕ) (p : Pt) → value T k m x p ≡ d
value_of x d e T k m p = ap (λ y. value T k m y p) e ∙ value_bit T k m d p

-- What two numbers give at a point.
abbrev result : Op → ℕ → ℕ → Table → ℕ → ℕ → Pt → Bool
result op a b T k m p = op_of op (value T k m a p) (value T k m b p)

-- A number with the right value at every point has the right function.
right_function : (op : Op) (a : ℕ) (b : ℕ) (x : ℕ) → ((T : Table) (k : ℕ) (m : ℕ) (p : Pt) → result op a b T k m p ≡ value T k m x p) →
    (T : Table) (k : ℕ) (m : ℕ) → fn_of T k m x ≡ joined (op_of op) m (fn_of T k m a) (fn_of T k m b)
right_function op a b x h T k m =
    ext m (fn_of T k m x) (joined (op_of op) m (fn_of T k m a) (fn_of T k m b))
    (λ p w. sym (at_joined (op_of op) m (fn_of T k m a) (fn_of T k m b) p ∙ h T k m p))

constant_right : (op : Op) (a : ℕ) (b : ℕ) (r : Bool) → ((T : Table) (k : ℕ) (m : ℕ) (p : Pt) → result op a b T k m p ≡ r) → Right op a b (bit r)
constant_right op a b r h =
    record {
      number = λ T c k s t. constant-refers T c k (bit r) (bit_small r);
      means = right_function op a b (bit r) (λ T k m p. h T k m p ∙ sym (value_bit T k m r p));
    }

module _ {op : Op} {a : ℕ} {b : ℕ} where
  -- One operand decides the result, or that both are equal does: it is a constant.
  pub first_decides : (d : Bool) (r : Bool) → a ≡ bit d → ((q : Bool) → op_of op d q ≡ r) → Right op a b (bit r)
  first_decides d r e h =
      constant_right op a b r (λ T k m p. ap (λ q. op_of op q (value T k m b p)) (value_of a d e T k m p) ∙ h (value T k m b p))

  pub second_decides : (d : Bool) (r : Bool) → b ≡ bit d → ((q : Bool) → op_of op q d ≡ r) → Right op a b (bit r)
  second_decides d r e h =
      constant_right op a b r (λ T k m p. ap (op_of op (value T k m a p)) (value_of b d e T k m p) ∙ h (value T k m a p))

  pub equals_decide : (r : Bool) → a ≡ b → ((q : Bool) → op_of op q q ≡ r) → Right op a b (bit r)
  equals_decide r e h =
      constant_right op a b r (λ T k m p. ap (λ x. result op a x T k m p) (sym e) ∙ h (value T k m a p))

  -- One operand is neutral, or both are equal: the result is an operand.
  pub first_neutral : (d : Bool) → a ≡ bit d → ((q : Bool) → op_of op d q ≡ q) → Right op a b b
  first_neutral d e h =
      record {
        number = λ T c k s t. t;
        means =
            right_function op a b b
            (λ T k m p. ap (λ q. op_of op q (value T k m b p)) (value_of a d e T k m p) ∙ h (value T k m b p));
      }

  pub second_neutral : (d : Bool) → b ≡ bit d → ((q : Bool) → op_of op q d ≡ q) → Right op a b a
  second_neutral d e h =
      record {
        number = λ T c k s t. s;
        means =
            right_function op a b a
            (λ T k m p. ap (op_of op (value T k m a p)) (value_of b d e T k m p) ∙ h (value T k m a p));
      }

  pub equals_same : a ≡ b → ((q : Bool) → op_of op q q ≡ q) → Right op a b a
  equals_same e h =
      record {
        number = λ T c k s t. s;
        means = right_function op a b a (λ T k m p. ap (λ x. result op a x T k m p) (sym e) ∙ h (value T k m a p));
      }
