-- The numbers returned at refusals, by name, and the order in which they are given: the first that applies.
use Rattle.std.specs.Prelude.{Bool, cond, List, [], ◌∷◌, ℕ, zero, suc, eqb, Option, Some, None, Result, Ok, Err}
use Rattle.rule.specs.declared.refusal.Refusal.{Refusal}
use Rattle.rule.specs.declared.refusal.Refusal.TheVariants.{ColumnsOver, TableOver, RecordBroken, OutOfRange, NotWithin, ListOver, NodesLack, ListLacks, CubeMalformed, TextOver, TextFault, OnAndOff, TextLacks}

-- Columns over 16 (writing and candidate text: or 0).
abbrev pub columns_over : ℕ
columns_over = 1

-- A table over 4,096 records, or a count over the table's length.
abbrev pub table_over : ℕ
table_over = 2

-- A record in use breaks its rule.
abbrev pub record_broken : ℕ
record_broken = 3

-- A root, operand, column or point outside its range.
abbrev pub out_of_range : ℕ
out_of_range = 4

-- L not within U.
abbrev pub not_within : ℕ
not_within = 5

-- A list slice over 16,384 cubes.
abbrev pub list_over : ℕ
list_over = 6

-- Node room lacking.
abbrev pub nodes_lack : ℕ
nodes_lack = 7

-- A list longer than its room.
abbrev pub list_lacks : ℕ
list_lacks = 8

-- A malformed cube.
abbrev pub cube_malformed : ℕ
cube_malformed = 9

-- A text over 32,768 bytes.
abbrev pub text_over : ℕ
text_over = 10

-- A text fault.
abbrev pub text_fault : ℕ
text_fault = 11

-- In fr, a point both on and off.
abbrev pub on_and_off : ℕ
on_and_off = 12

-- Text room too short.
abbrev pub text_lacks : ℕ
text_lacks = 13

-- A condition of an entry, and the number given where it is broken.
pub record Condition : Type 0 where
  pub number : ℕ
  pub kept : Bool

-- The number of the first broken condition, or 0 where all are kept.
unfoldable pub first_broken : List Condition → ℕ
first_broken [] = 0
first_broken (c ∷ cs) = cond c.kept (first_broken cs) c.number

-- The number of a refusal.
abbrev pub number_of : Refusal → ℕ
number_of ColumnsOver = columns_over
number_of TableOver = table_over
number_of RecordBroken = record_broken
number_of OutOfRange = out_of_range
number_of NotWithin = not_within
number_of ListOver = list_over
number_of NodesLack = nodes_lack
number_of ListLacks = list_lacks
number_of CubeMalformed = cube_malformed
number_of TextOver = text_over
number_of TextFault = text_fault
number_of OnAndOff = on_and_off
number_of TextLacks = text_lacks

-- The refusal with a number.
unfoldable pub refusal_of : ℕ → Refusal
refusal_of r =
    cond (eqb r columns_over) ColumnsOver (cond (eqb r table_over) TableOver (cond (eqb r record_broken) RecordBroken
    (cond (eqb r out_of_range) OutOfRange (cond (eqb r not_within) NotWithin (cond (eqb r list_over) ListOver
    (cond (eqb r nodes_lack) NodesLack (cond (eqb r list_lacks) ListLacks (cond (eqb r cube_malformed) CubeMalformed
    (cond (eqb r text_over) TextOver (cond (eqb r text_fault) TextFault (cond (eqb r on_and_off) OnAndOff TextLacks)))))))))))

-- What a test of conditions answers: nothing, or the refusal of the first that is broken.
abbrev pub passed : ℕ → Result Unit Refusal
passed zero = Ok tt
passed (suc r) = Err (refusal_of (suc r))

-- A number that is 0 where there is none.
abbrev pub some_number : ℕ → Option ℕ
some_number zero = None
some_number (suc k) = Some (suc k)
