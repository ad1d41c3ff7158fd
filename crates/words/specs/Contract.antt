-- What the functions on words and tables ask and promise. Of a slice only its length is asked; what is promised of one
-- is promised for every function whose table it holds.
use Rattle.std.specs.Prelude.{◌≡◌, Bool, true, List, Option, Some, None, IfSome, unwrap_or, ℕ, suc, ◌+◌, ◌<◌, ◌≤◌, ◌^◌, length, get_or, replicate}
use Rattle.std.specs.Int.Bits.{bit_and}
use Rattle.rule.specs.Func.{Fn, constant, both, either, less}
use Rattle.rule.specs.Point.{smallest}
use Rattle.words.specs.Word.{num, words, size, cube_of, found_number, leaf, wordwise}

-- A list as long as a table of m columns.
pub record Sized (m : ℕ) (xs : List ℕ) : Type 0 where
  pub columns : m ≤ 16
  pub long : length xs ≡ size m

-- Two of them.
pub record SizedBoth (m : ℕ) (xs ys : List ℕ) : Type 0 where
  pub columns : m ≤ 16
  pub first : length xs ≡ size m
  pub second : length ys ≡ size m

-- The same, with the word of a cube's last six columns.
pub record SizedWord (m o z w : ℕ) (xs : List ℕ) : Type 0 where
  pub columns : m ≤ 16
  pub long : length xs ≡ size m
  pub word : w ≡ leaf m o z

pub record SizedBothWord (m o z w : ℕ) (xs ys : List ℕ) : Type 0 where
  pub columns : m ≤ 16
  pub first : length xs ≡ size m
  pub second : length ys ≡ size m
  pub word : w ≡ leaf m o z

-- A list as long as a table of six columns or more.
pub record SizedMany (m : ℕ) (xs : List ℕ) : Type 0 where
  pub more : 6 ≤ m
  pub columns : m ≤ 16
  pub long : length xs ≡ size m

-- The word of a constant, of which its table is made.
pub record ConstantWord (m : ℕ) (b : Bool) (r : ℕ) : Type 0 where
  pub few : m ≤ 6 → r ≡ num m (constant m b)
  pub table : words m (constant m b) ≡ replicate (size m) r

-- A word made of two: of the halves for 0 and for 1 in a column before m others.
pub record Packed (m low high r : ℕ) : Type 0 where
  pub word : (f g : Fn m) → low ≡ num m f → high ≡ num m g → r ≡ num (suc m) (f, g)

-- The number that stands for what a search answers: 0 where nothing was found, else the point's number and 1.
abbrev pub answer_number : Option ℕ → ℕ
answer_number None = 0
answer_number (Some p) = p + 1

-- The smallest point of a word; a word that is not 0 has one.
pub record FirstBit (m w r : ℕ) : Type 0 where
  pub bound : r ≤ 2 ^ m
  pub some : (w ≡ 0 → ⊥) → 0 < r
  pub found : (f : Fn m) → w ≡ num m f → r ≡ found_number (smallest m f)

-- The place of the first word of a list that meets a word, if one does.
pub record FirstMet (w : ℕ) (xs : List ℕ) (r : Option ℕ) : Type 0 where
  pub place : IfSome r (λ i. i < length xs)
  pub before : (k : ℕ) → k < unwrap_or r (length xs) → bit_and (get_or xs k 0) w ≡ 0
  pub here : IfSome r (λ i. bit_and (get_or xs i 0) w ≡ 0 → ⊥)

-- A point found in a word of a table of six columns or more: the place of the word, and the point's number there and 1.
pub record FoundInWord (m i r : ℕ) : Type 0 where
  pub more : 6 ≤ m
  pub columns : m ≤ 16
  pub place : i < size m
  pub some : 0 < r
  pub most : r ≤ 64

-- The smallest point of a table with one word against each of its words.
pub record FirstUnder (m w : ℕ) (xs : List ℕ) (r : ℕ) : Type 0 where
  pub bound : r ≤ 2 ^ m
  pub found : (f : Fn m) → words m f ≡ wordwise bit_and (replicate (size m) w) xs → r ≡ found_number (smallest m f)

-- The smallest point of a table that a cube covers.
pub record FirstIn (m o z : ℕ) (xs : List ℕ) (r : ℕ) : Type 0 where
  pub bound : r ≤ 2 ^ m
  pub found : (f : Fn m) → xs ≡ words m f → r ≡ found_number (smallest m (both m (cube_of m o z) f))

-- A cube added to what is covered, and to what is covered twice, both as they were and as they are then.
pub record Added (m o z : ℕ) (covered twice covered' twice' : List ℕ) : Type 0 where
  pub once : (f : Fn m) → covered ≡ words m f → covered' ≡ words m (either m (cube_of m o z) f)
  pub again : (f g : Fn m) → covered ≡ words m f → twice ≡ words m g → twice' ≡ words m (either m g (both m (cube_of m o z) f))

-- The first table less the second.
pub record Lessened (xs ys xs' : List ℕ) : Type 0 where
  pub table : (m : ℕ) (f g : Fn m) → xs ≡ words m f → ys ≡ words m g → xs' ≡ words m (less m f g)

-- The table of all points less a table.
pub record Outside (m : ℕ) (xs xs' : List ℕ) : Type 0 where
  pub table : (f : Fn m) → xs ≡ words m f → xs' ≡ words m (less m (constant m true) f)
