-- Taking the next line of a text: what it answers and leaves, with none left and with one; and what the line taken says of all lines.
use mathlib.Core.Path.{◌≡◌, refl, sym, ap, ◌∙◌}
use mathlib.Core.List.{List, [], ◌∷◌}
use Prim.Native.Nat.{ℕ, ◌+◌, ◌<◌}
use native.Mathlib.Nat.{zero-add}
use native.Mathlib.Omega.{arith}
use lib.ListN.{length, drop, length-drop, drop_of_length-le}
use Rattle.std.specs.Prelude.{Option, Some, None}
use Rattle.line.specs.Bytes.{is_newline, until, split, lines}
use Rattle.line.specs.Meaning.{meaning}
use Rattle.line.specs.declared.meaning.Line.{Line}
use Rattle.line.proofs.Fields.{lines_unroll}
use Rattle.text.specs.Reader.{next_line, rest_after}

module _ (text : List ℕ) where
  -- No line is left.
  pub none_next : length text ≡ 0 → None ≡ next_line text
  unfolding next_line
  none_next e = go text e
    where
      go : (s : List ℕ) → length s ≡ 0 → None ≡ next_line s
      go [] e = refl
      go (b ∷ s) e = absurd (omega arith)

  pub none_rest : length text ≡ 0 → text ≡ rest_after text
  unfolding rest_after
  none_rest e = go text e
    where
      go : (s : List ℕ) → length s ≡ 0 → s ≡ drop (length (until is_newline s) + 1) s
      go [] e = sym (drop_of_length-le [] (omega arith))
      go (b ∷ s) e = absurd (omega arith)

  -- The line's meaning.
  pub some_next : (length text ≡ 0 → ⊥) → (line : List ℕ) → line ≡ until is_newline text → (l : Line) → l ≡ meaning line → Some l ≡ next_line text
  unfolding next_line
  some_next h line e l m = go text h e
    where
      go : (s : List ℕ) → (length s ≡ 0 → ⊥) → line ≡ until is_newline s → Some l ≡ next_line s
      go [] h e = absurd (h refl)
      go (b ∷ s) h e = ap Some (m ∙ ap meaning e)

  -- A line with a byte 10 after it: its meaning is told, and what is left begins past that byte.
  pub taken_inside : (line : List ℕ) → line ≡ until is_newline text → (told : Line) → told ≡ meaning line → length line < length text
      → (Some told ≡ next_line text) × (drop (length line + 1) text ≡ rest_after text)
  unfolding rest_after
  taken_inside line l told m h =
      (some_next (λ z. omega (arith, z, h)) line l told m, ap (λ (t : List ℕ). drop (length t + 1) text) l)

-- What a line that was taken says of the lines of the text, and of what is left.
pub record Took (text : List ℕ) (l : Line) (rest : List ℕ) : Type 0 where
  pub here : List ℕ
  pub means : l ≡ meaning here
  pub unrolls : lines text ≡ here ∷ lines rest
  pub shorter : length rest < length text

pub took : {text : List ℕ} {l : Line} {rest : List ℕ} {r : Option Line} → r ≡ Some l → r ≡ next_line text → rest ≡ rest_after text
    → Took text l rest
unfolding next_line rest_after
took {text = []} i e r = absurd (cc)
took {text = b ∷ s} i e r =
    let line = until is_newline (b ∷ s) in
    record {
      here = line;
      means = cc;
      unrolls = rw zero-add at (lines_unroll (b ∷ s) 0 (omega arith)) ∙ ap (λ t. line ∷ lines t) (sym r);
      shorter = omega (arith, ap length r, length-drop (length line + 1) (b ∷ s));
    }

-- No line is left: the text has none.
pub no_lines : (text : List ℕ) {r : Option Line} → r ≡ None → r ≡ next_line text → lines text ≡ []
unfolding next_line lines split
no_lines [] i e = refl
no_lines (b ∷ s) i e = absurd (cc)
