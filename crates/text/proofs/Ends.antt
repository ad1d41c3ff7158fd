-- What follows the first `.e` line of a text, line by line.
use mathlib.Core.Path.{◌≡◌, refl, sym, ap, ◌∙◌}
use mathlib.Core.Bool.{true, false, cond}
use mathlib.Core.List.{List, [], ◌∷◌}
use Prim.Native.Nat.{ℕ, ◌+◌}
use native.Mathlib.Nat.{zero-add}
use native.Mathlib.Omega.{arith}
use lib.ListN.{length, drop}
use lib.Seq.{drop-drop}
use Rattle.std.specs.Prelude.{Option, Some, None}
use Rattle.line.specs.Bytes.{is_newline, until, split, lines}
use Rattle.line.specs.Meaning.{meaning, is_end, bytes_to_end, after_end}
use Rattle.line.specs.declared.meaning.Line.{Line}
use Rattle.line.specs.declared.meaning.Line.TheVariants.{Empty, Columns, Output, Typed, Count, Row, End, Bad}
use Rattle.line.proofs.Fields.{lines_unroll}
use Rattle.text.specs.Reader.{next_line, rest_after}

-- A line ends a text exactly if it is `.e`.
pub is_end-End : (l : Line) → l ≡ End → is_end l ≡ true
unfolding is_end
is_end-End l e = ap is_end e

pub is_end-others : (l : Line) → (l ≡ End → ⊥) → is_end l ≡ false
unfolding is_end
is_end-others Empty h = refl
is_end-others (Columns n) h = refl
is_end-others Output h = refl
is_end-others (Typed t) h = refl
is_end-others (Count n) h = refl
is_end-others (Row n x o) h = refl
is_end-others End h = absurd (h refl)
is_end-others Bad h = refl

-- With no line left nothing is left.
pub nothing_left : (text : List ℕ) {r : Option Line} → r ≡ None → r ≡ next_line text → rest_after text ≡ after_end text
unfolding after_end bytes_to_end next_line rest_after lines split until
nothing_left [] i e = refl
nothing_left (b ∷ s) i e = absurd (cc)

module _ (text : List ℕ) (l : Line) (r : Option Line) (i : r ≡ Some l) (e : r ≡ next_line text) where
  abbrev past : ℕ
  past = length (until is_newline text) + 1

  from-here : after_end text ≡ drop (cond (is_end l) past (past + bytes_to_end (lines (rest_after text)))) text
  unfolding after_end bytes_to_end next_line rest_after
  from-here = go text e
    where
      go : (s : List ℕ) → r ≡ next_line s
          → drop (bytes_to_end (lines s)) s
          ≡ drop (cond (is_end l) (length (until is_newline s) + 1) (length (until is_newline s) + 1 + bytes_to_end (lines (drop (length (until is_newline s) + 1) s)))) s
      go [] e = absurd (cc)
      go (b ∷ s) e =
          let m : l ≡ meaning (until is_newline (b ∷ s)) = cc in
          ap (λ ls. drop (bytes_to_end ls) (b ∷ s)) (rw zero-add at (lines_unroll (b ∷ s) 0 (omega arith))) ∙
          ap (λ k. drop (cond (is_end k) (length (until is_newline (b ∷ s)) + 1) (length (until is_newline (b ∷ s)) + 1 + bytes_to_end (lines (drop (length (until is_newline (b ∷ s)) + 1) (b ∷ s))))) (b ∷ s)) (sym m)

  pub ends_here : is_end l ≡ true → rest_after text ≡ after_end text
  unfolding rest_after
  ends_here h = sym (from-here ∙ rw h)

  pub ends_later : is_end l ≡ false → after_end (rest_after text) ≡ after_end text
  unfolding rest_after after_end
  ends_later h = drop-drop (bytes_to_end (lines (rest_after text))) past text ∙ sym (from-here ∙ rw h)
