-- The meaning of a line by its fields, and what every row of a text keeps: at most 16 signs, and a well-formed cube; and what
-- `.i` does: at most 16 columns.
use mathlib.Core.Path.{◌≡◌, refl, sym, ap, ap₂, ◌∙◌, subst}
use mathlib.Core.Bool.{Bool, true, false, cond, ◌&&◌}
use mathlib.Core.List.{List, [], ◌∷◌, map}
use Prim.Native.Nat.{ℕ, ◌≤◌}
use lib.Dec.{leb}
use lib.ListN.{length, length-map}
use borrow.Author.Tests.{leb-true}
use Rattle.std.specs.Prelude.{Option, Some, None}
use Rattle.rule.specs.Number.{well_formed, cube_number}
use Rattle.rule.proofs.Number.{well_formed-cube_number}
use Rattle.rule.proofs.Bools.{and_left, and_right}
use Rattle.line.specs.Bytes.{is, is_hash, until, words, fields}
use Rattle.line.specs.Decimal.{number, all}
use Rattle.line.specs.Meaning.{is_sign, read_sign, is_cube, read_cube, columns_line, output_line, kind_line, count_line, signed_line, row_line, pair_line, single_line, meaning_of, meaning}
use Rattle.line.specs.Scan.{first_field, rest_fields}
use Rattle.line.specs.declared.meaning.Kind.TheVariants.{F, Fd, Fr}
use Rattle.line.specs.declared.meaning.Out.{Out}
use Rattle.line.specs.declared.meaning.Out.TheVariants.{Zero, One, Dash, Tilde}
use Rattle.line.specs.declared.meaning.Line.{Line}
use Rattle.line.specs.declared.meaning.Line.TheVariants.{Empty, Columns, Output, Typed, Count, Row, End, Bad}
use Rattle.line.proofs.Fields.{no_field, a_field}

-- The fields as they are taken one after the other.
module _ (line kept a : List ℕ) (k : kept ≡ until is_hash line) (f : a ≡ first_field kept) where
  whole : meaning line ≡ meaning_of (words kept)
  unfolding meaning fields
  whole = ap (λ s. meaning_of (words s)) (sym k)

  pub line_empty : length a ≡ 0 → Empty ≡ meaning line
  unfolding meaning_of
  line_empty z = sym (whole ∙ ap meaning_of (no_field kept (ap length (sym f) ∙ z)))

  module _ (n : length a ≡ 0 → ⊥) (rest b : List ℕ) (r : rest ≡ rest_fields kept) (g : b ≡ first_field rest) where
    one : words kept ≡ a ∷ words rest
    one = a_field kept (λ z. n (ap length f ∙ z)) ∙ ap₂ (λ x s. x ∷ words s) (sym f) (sym r)

    pub line_single : length b ≡ 0 → single_line a ≡ meaning line
    unfolding meaning_of
    line_single z = sym (whole ∙ ap meaning_of (one ∙ ap (λ fs. a ∷ fs) (no_field rest (ap length (sym g) ∙ z))))

    module _ (m : length b ≡ 0 → ⊥) (last d : List ℕ) (t : last ≡ rest_fields rest) (h : d ≡ first_field last) where
      two : words kept ≡ a ∷ b ∷ words last
      two =
          one ∙
          ap (λ fs. a ∷ fs) (a_field rest (λ z. m (ap length g ∙ z)) ∙ ap₂ (λ x s. x ∷ words s) (sym g) (sym t))

      pub line_pair : length d ≡ 0 → pair_line a b ≡ meaning line
      unfolding meaning_of
      line_pair z =
          sym (whole ∙ ap meaning_of (two ∙ ap (λ fs. a ∷ b ∷ fs) (no_field last (ap length (sym h) ∙ z))))

      pub line_more : (length d ≡ 0 → ⊥) → Bad ≡ meaning line
      unfolding meaning_of
      line_more z =
          sym (whole ∙ ap meaning_of (two ∙ ap (λ fs. a ∷ b ∷ fs) (a_field last (λ y. z (ap length h ∙ y)))))

-- A cube is short.
pub cube_short : (a : List ℕ) → is_cube a ≡ true → length a ≤ 16
unfolding is_cube
cube_short a e = leb-true (length a) 16 (and_left (leb (length a) 16) (all is_sign a) e)

-- What every row and every `.i` of a text keeps.
pub record FineRow (n x : ℕ) : Type 0 where
  pub few : n ≤ 16
  pub formed : well_formed n x ≡ true

-- And its columns.
pub record FineColumns (n : ℕ) : Type 0 where
  pub positive : 1 ≤ n
  pub few : n ≤ 16

abbrev Fine : Line → Type 0
Fine Empty = Unit {0}
Fine (Columns n) = FineColumns n
Fine Output = Unit {0}
Fine (Typed t) = Unit {0}
Fine (Count n) = Unit {0}
Fine (Row n x o) = FineRow n x
Fine End = Unit {0}
Fine Bad = Unit {0}

pick : (q : Bool) (l m : Line) → Fine l → Fine m → Fine (cond q l m)
pick true l m f g = f
pick false l m f g = g

fine_signed : (n x : ℕ) (b : List ℕ) → FineRow n x → Fine (signed_line n x b)
unfolding signed_line
fine_signed n x b f =
    pick (is "0" b) (Row n x Zero) _ f
    (pick (is "1" b) (Row n x One) _ f (pick (is "-" b) (Row n x Dash) _ f (pick (is "~" b) (Row n x Tilde) Bad f tt)))

fine_cube : (a : List ℕ) → length a ≤ 16 → FineRow (length a) (cube_number (read_cube a))
unfolding read_cube
fine_cube a h = record { few = h; formed = well_formed-cube_number (length a) (map read_sign a) (length-map a read_sign) h }

fine_row : (a b : List ℕ) → Fine (row_line a b)
unfolding row_line
fine_row a b = go (is_cube a) refl
  where
    go : (q : Bool) → is_cube a ≡ q → Fine (cond q (signed_line (length a) (cube_number (read_cube a)) b) Bad)
    go true e = fine_signed (length a) (cube_number (read_cube a)) b (fine_cube a (cube_short a e))
    go false e = tt

fine_columns : (o : Option ℕ) → Fine (columns_line o)
unfolding columns_line
fine_columns (Some n) = go (leb 1 n && leb n 16) refl
  where
    go : (q : Bool) → leb 1 n && leb n 16 ≡ q → Fine (cond q (Columns n) Bad)
    go true e =
        record {
          positive = leb-true 1 n (and_left (leb 1 n) (leb n 16) e);
          few = leb-true n 16 (and_right (leb 1 n) (leb n 16) e);
        }
    go false e = tt
fine_columns None = tt

fine_count : (o : Option ℕ) → Fine (count_line o)
unfolding count_line
fine_count (Some n) = tt
fine_count None = tt

fine_pair : (a b : List ℕ) → Fine (pair_line a b)
unfolding pair_line output_line kind_line
fine_pair a b =
    pick (is ".i" a) (columns_line (number b)) _ (fine_columns (number b))
    (pick (is ".o" a) (output_line b) _ (pick (is "1" b) Output Bad tt tt)
    (pick (is ".type" a) (kind_line b) _
    (pick (is "f" b) (Typed F) _ tt (pick (is "fd" b) (Typed Fd) _ tt (pick (is "fr" b) (Typed Fr) Bad tt tt)))
    (pick (is ".p" a) (count_line (number b)) (row_line a b) (fine_count (number b)) (fine_row a b))))

fine_fields : (fs : List (List ℕ)) → Fine (meaning_of fs)
unfolding meaning_of single_line
fine_fields [] = tt
fine_fields (a ∷ []) = pick (is ".e" a) End Bad tt tt
fine_fields (a ∷ b ∷ []) = fine_pair a b
fine_fields (a ∷ b ∷ d ∷ fs) = tt

pub row_fine : (line : List ℕ) (n x : ℕ) (o : Out) → meaning line ≡ Row n x o → FineRow n x
unfolding meaning
row_fine line n x o e = subst Fine e (fine_fields (fields line))

pub columns_fine : (line : List ℕ) (n : ℕ) → meaning line ≡ Columns n → FineColumns n
unfolding meaning
columns_fine line n e = subst Fine e (fine_fields (fields line))
