-- The public entries: what each refuses, in which order, what it answers, and what it leaves behind.
use Rattle.std.specs.Prelude.{◌≡◌, Bool, true, false, cond, ◌&&◌, List, [], ◌∷◌, ◌++◌, ℕ, zero, suc, ◌+◌, ◌-◌, ◌^◌, eqb, leb, ltb, length, take, replicate, Option, Some, None, Result, Ok, Err}
use Rattle.rule.specs.Func.{Fn, constant, joined, within}
use Rattle.rule.specs.Point.{at, digits}
use Rattle.rule.specs.Nodes.{nodes, add_all}
use Rattle.rule.specs.Refusal.{Condition, first_broken, columns_over, table_over, record_broken, out_of_range, not_within, list_over, nodes_lack, number_of, refusal_of}
use Rattle.graph.specs.Table.{table_of, fn_of, good_table, functions}
use Rattle.graph.specs.Operation.{op_of}
use Rattle.graph.specs.Built.{Built}
use Rattle.graph.specs.declared.operation.Op.{Op}
use Rattle.rule.specs.declared.refusal.Refusal.{Refusal}

-- The numbers of an answer and of the count of records after it, as document 01 has them: the refusal or 0, what it returns,
-- the root, the count of records.
pub record Numbers : Type 0 where
  pub refusal : ℕ
  pub returned : ℕ
  pub root : ℕ
  pub count : ℕ

unfoldable pub numbers_of : Result ℕ Refusal → ℕ → Numbers
numbers_of (Ok x) c = record { refusal = 0; returned = 0; root = x; count = c }
numbers_of (Err r) c = record { refusal = number_of r; returned = 0; root = 0; count = c }

-- The refusal or 0, and the value at the point, which is 0 at a refusal.
unfoldable pub value_of : Result Bool Refusal → ℕ × Bool
value_of (Ok b) = (0, b)
value_of (Err r) = (number_of r, false)

-- What every entry asks of its table: 1, at most 16 columns; 2, three slices of one length, at most 4,096, that holds the
-- count; 3, every record in use keeps its rule.
unfoldable pub table_conditions : ℕ → ℕ → List ℕ → List ℕ → List ℕ → List Condition
table_conditions n c v l h =
    record { number = columns_over; kept = leb n 16 } ∷
    record {
      number = table_over;
      kept = eqb (length l) (length v) && eqb (length h) (length v) && leb (length v) 4096 && leb c (length v);
    } ∷
    record { number = record_broken; kept = good_table n (table_of v l h) c } ∷ []

-- What a building operation asks besides: 4, its operands are in range; 7, the missing nodes of its result fit.
unfoldable pub build_conditions : (n : ℕ) → ℕ → List ℕ → List ℕ → List ℕ → Bool → Fn n → List Condition
build_conditions n c v l h ranged f =
    table_conditions n c v l h ++
    (record { number = out_of_range; kept = ranged } ∷
    record { number = nodes_lack; kept = leb (length (add_all (functions n (table_of v l h) c) (nodes n f))) (length v) } ∷ [])

-- A slice whose elements from place c on are zero.
unfoldable pub cleared : ℕ → List ℕ → List ℕ
cleared c s = take c s ++ replicate (length s - c) 0

-- The answer to what was made, with c records in use before it and c' after, and the count of records that stay in use.
unfoldable pub count_after : Option ℕ → ℕ → ℕ → ℕ
count_after (Some x) c' c = c'
count_after None c' c = c

unfoldable pub answer_to : Option ℕ → Result ℕ Refusal
answer_to (Some x) = Ok x
answer_to None = Err (refusal_of nodes_lack)

-- That answer is given, and the records past that count are zero.
pub record Settled (made : Option ℕ) (c : ℕ) (c₁ : ℕ) (v : List ℕ) (l : List ℕ) (h : List ℕ) (c' : ℕ) (v' : List ℕ) (l' : List ℕ) (h' : List ℕ) (a : Result ℕ Refusal) : Type 0 where
  pub answer : a ≡ answer_to made
  pub count : c' ≡ count_after made c₁ c
  pub level : v' ≡ cleared (count_after made c₁ c) v
  pub low : l' ≡ cleared (count_after made c₁ c) l
  pub high : h' ≡ cleared (count_after made c₁ c) h

-- What a refusal leaves of a slice: 7 clears the records past the count, every other one changes nothing.
unfoldable pub left_by : ℕ → ℕ → List ℕ → List ℕ
left_by r c s = cond (eqb r nodes_lack) (cleared c s) s

module _ (n : ℕ) (c : ℕ) (v : List ℕ) (l : List ℕ) (h : List ℕ) (ranged : Bool) (f : Fn n) (c' : ℕ) (v' : List ℕ) (l' : List ℕ) (h' : List ℕ) where
  -- Refused: the answer has the refusal with the number, the count is the old one, and the slices are left as the number says.
  pub record Refusing (r : ℕ) (a : Result ℕ Refusal) : Type 0 where
    pub answer : a ≡ Err (refusal_of r)
    pub counted : c' ≡ c
    pub numbers : numbers_of a c' ≡ record { refusal = r; returned = 0; root = 0; count = c }
    pub level : v' ≡ left_by r c v
    pub low : l' ≡ left_by r c l
    pub high : h' ≡ left_by r c h

  -- Done: the root's function is f, the records in use are kept, exactly the missing nodes are added, and the records past
  -- the count are zero.
  pub record Answered (a : Result ℕ Refusal) : Type 0 where
    pub root : ℕ
    pub count : ℕ
    pub answer : a ≡ Ok root
    pub counted : c' ≡ count
    pub numbers : numbers_of a c' ≡ record { refusal = 0; returned = 0; root = root; count = count }
    pub built : Built n c v l h v' l' h' 0 n f root count
    pub level : v' ≡ cleared count v'
    pub low : l' ≡ cleared count l'
    pub high : h' ≡ cleared count h'

  -- A building operation with the result f: refused by the first broken condition, else done.
  pub record Operated (a : Result ℕ Refusal) : Type 0 where
    pub refused : (r : ℕ) → first_broken (build_conditions n c v l h ranged f) ≡ suc r → Refusing (suc r) a
    pub done : first_broken (build_conditions n c v l h ranged f) ≡ 0 → Answered a

-- Whether a number is a constant or that of a record in use.
unfoldable pub in_range : ℕ → ℕ → Bool
in_range c x = ltb x (c + 2)

-- What generator and checker ask of their input: the table's conditions; 4, both roots are in range; 5, L lies within U; 6,
-- the list slice is at most 16,384 long.
unfoldable pub input_conditions : ℕ → ℕ → List ℕ → List ℕ → List ℕ → ℕ → ℕ → ℕ → List Condition
input_conditions n c v l h a b size =
    table_conditions n c v l h ++
    (record { number = out_of_range; kept = in_range c a && in_range c b } ∷
    record { number = not_within; kept = within n (fn_of (table_of v l h) 0 n a) (fn_of (table_of v l h) 0 n b) } ∷
    record { number = list_over; kept = leb size 16384 } ∷ [])

-- The result of an operation of two roots.
unfoldable pub result_of : Op → (n : ℕ) → List ℕ → List ℕ → List ℕ → ℕ → ℕ → Fn n
result_of op n v l h a b = joined (op_of op) n (fn_of (table_of v l h) 0 n a) (fn_of (table_of v l h) 0 n b)

-- The function of column k alone: 1 where that column is 1.
unfoldable pub variable_fn : (m : ℕ) → ℕ → Fn m
variable_fn zero k = false
variable_fn (suc m) zero = (constant m false, constant m true)
variable_fn (suc m) (suc k) = (variable_fn m k, variable_fn m k)

-- What the value at a point asks: its table's conditions; 4, the root and the point are in range.
unfoldable pub value_conditions : ℕ → ℕ → List ℕ → List ℕ → List ℕ → ℕ → ℕ → List Condition
value_conditions n c v l h x p =
    table_conditions n c v l h ++ (record { number = out_of_range; kept = in_range c x && ltb p (2 ^ n) } ∷ [])

-- The answer: the first broken condition, else the value.
unfoldable pub value_answer : ℕ → (n : ℕ) → List ℕ → List ℕ → List ℕ → ℕ → ℕ → Result Bool Refusal
value_answer zero n v l h x p = Ok (at n (fn_of (table_of v l h) 0 n x) (digits n p))
value_answer (suc r) n v l h x p = Err (refusal_of (suc r))
