-- The meaning of rows: a type and a list of rows give L and U, whether a point is both on and off, and the node need
-- of reading them.
use Rattle.std.specs.Prelude.{Bool, true, false, not, List, [], ◌∷◌, ◌++◌, ℕ, length}
use Rattle.rule.specs.Func.{Fn, constant, both, either, less, always}
use Rattle.rule.specs.Cube.{Cube, cube_fn, covered}
use Rattle.rule.specs.Nodes.{Tree, nodes, add_all}

-- The types of a text.
pub data Kind : Type 0 where
  f fd fr : Kind

-- The output signs.
pub data Out : Type 0 where
  out0 out1 out_dash out_tilde : Out

-- A row: a cube and an output sign.
pub record Row : Type 0 where
  pub cube : Cube
  pub out : Out

-- What a row adds to: the on set, the don't-care set, the off set, or, without meaning, none.
pub data Part : Type 0 where
  on dont_care off none : Part

-- Rows with 1 are on; in fd rows with - are don't care; in fr rows with 0 are off. Other output signs have no meaning.
unfoldable pub part : Kind → Out → Part
part f out0 = none
part f out1 = on
part f out_dash = none
part f out_tilde = none
part fd out0 = none
part fd out1 = on
part fd out_dash = dont_care
part fd out_tilde = none
part fr out0 = off
part fr out1 = on
part fr out_dash = none
part fr out_tilde = none

unfoldable pub same_part : Part → Part → Bool
same_part on on = true
same_part on dont_care = false
same_part on off = false
same_part on none = false
same_part dont_care on = false
same_part dont_care dont_care = true
same_part dont_care off = false
same_part dont_care none = false
same_part off on = false
same_part off dont_care = false
same_part off off = true
same_part off none = false
same_part none on = false
same_part none dont_care = false
same_part none off = false
same_part none none = true

-- The cubes of the rows that add to a part, in order.
unfoldable pub keep_if : Bool → Cube → List Cube → List Cube
keep_if true c cs = c ∷ cs
keep_if false c cs = cs

unfoldable pub cubes_of : Kind → Part → List Row → List Cube
cubes_of t w [] = []
cubes_of t w (r ∷ rows) = keep_if (same_part (part t r.out) w) r.cube (cubes_of t w rows)

-- The on, don't-care or off set of some rows: the union of the cubes that add to it.
unfoldable pub set_of : (m : ℕ) → Kind → Part → List Row → Fn m
set_of m t w rows = covered m (cubes_of t w rows)

-- L is on.
unfoldable pub lower_of : (m : ℕ) → Kind → List Row → Fn m
lower_of m t rows = set_of m t on rows

-- U is on or don't care; in fr it is every point not off.
unfoldable pub upper_of : (m : ℕ) → Kind → List Row → Fn m
upper_of m f rows = set_of m f on rows
upper_of m fd rows = either m (set_of m fd on rows) (set_of m fd dont_care rows)
upper_of m fr rows = less m (constant m true) (set_of m fr off rows)

-- Whether a point is both on and off.
unfoldable pub contradicts : (m : ℕ) → Kind → List Row → Bool
contradicts m t rows = not (always false m (both m (set_of m t on rows) (set_of m t off rows)))

-- What a row names: nothing without meaning, else its cube and the set that it adds to, itself included.
unfoldable pub named_by : (m : ℕ) → Kind → List Row → Row → Part → List Tree
named_by m t seen r none = []
named_by m t seen r on = nodes m (cube_fn m r.cube) ++ nodes m (set_of m t on seen)
named_by m t seen r dont_care = nodes m (cube_fn m r.cube) ++ nodes m (set_of m t dont_care seen)
named_by m t seen r off = nodes m (cube_fn m r.cube) ++ nodes m (set_of m t off seen)

-- What the rows after some already seen name, in order.
unfoldable pub named_after : (m : ℕ) → Kind → List Row → List Row → List Tree
named_after m t seen [] = []
named_after m t seen (r ∷ rows) =
    named_by m t (seen ++ (r ∷ [])) r (part t r.out) ++ named_after m t (seen ++ (r ∷ [])) rows

-- The nodes that a reading names: each meaningful row's in order, and last those of U.
unfoldable pub reading_names : (m : ℕ) → Kind → List Row → List Tree
reading_names m t rows = named_after m t [] rows ++ nodes m (upper_of m t rows)

-- The node need of a reading.
unfoldable pub reading_need : (m : ℕ) → Kind → List Row → ℕ
reading_need m t rows = length (add_all [] (reading_names m t rows))
