-- Taking the line at a place of a text: past the end, before a byte 10, and the last without one; and what lies from the place on
-- is what the reader takes its line from.
use mathlib.Core.Path.{◌≡◌, refl, sym, ap, ◌∙◌}
use mathlib.Core.Bool.{Bool, true, false, cond}
use mathlib.Core.List.{List, [], ◌∷◌}
use Prim.Native.Nat.{ℕ, ◌+◌, ◌-◌, ◌<◌, ◌≤◌}
use native.Mathlib.Omega.{arith}
use lib.Dec.{ltb}
use lib.ListN.{length, drop, drop_of_length-le, length-drop}
use lib.Seq.{drop-drop}
use borrow.Author.Tests.{le-ltb, lt-ltb, ltb-true, ltb-false}
use Rattle.std.specs.Prelude.{min, unwrap_or}
use Rattle.line.specs.Bytes.{is_newline, until, split, filled, words, fields, lines}
use Rattle.line.specs.Meaning.{meaning_of, meaning}
use Rattle.line.specs.declared.meaning.Line.{Line}
use Rattle.line.specs.declared.meaning.Line.TheVariants.{Empty}
use Rattle.text.specs.Reader.{next_line, rest_after, line_at, place_after, Taken, taken_at, told_at}
use Rattle.text.proofs.NextLine as NextLine
use Rattle.text.proofs.NextLine.{some_next}

module _ (text : List ℕ) (at : ℕ) where
  -- Past the end there is an empty line.
  no_line : length text ≤ at → line_at text at ≡ []
  unfolding line_at until
  no_line h = ap (until is_newline) (drop_of_length-le text h)

  pub taken_past : length text ≤ at → record { line = Empty; next = length text } ≡ taken_at text at
  unfolding taken_at place_after meaning meaning_of fields words filled split until
  taken_past h =
      rw (no_line h) (rw (le-ltb (at + 0) (length text) (omega (arith, h))) refl)

  module _ (line : List ℕ) (l : line ≡ until is_newline (drop at text)) (told : Line) (m : told ≡ meaning line) where
    here : line ≡ line_at text at
    unfolding line_at
    here = l

    taken_of : (k : ℕ) → k ≡ place_after text at → record { line = told; next = k } ≡ taken_at text at
    unfolding taken_at
    taken_of k e = λ i. record { line = (m ∙ ap meaning here) i; next = e i }

    pub taken_inside : at < length text → length line < length text - at → record { line = told; next = at + length line + 1 } ≡ taken_at text at
    unfolding place_after
    taken_inside h g =
        taken_of (at + length line + 1)
        (ap (λ (s : List ℕ). at + length s + 1) here ∙
        sym (ap (λ b. cond b (at + length (line_at text at) + 1) (length text))
        (lt-ltb (at + length (line_at text at)) (length text) (omega (arith, ap length here, h, g)))))

    pub taken_last : at < length text → length text - at ≤ length line → record { line = told; next = length text } ≡ taken_at text at
    unfolding place_after
    taken_last h g =
        taken_of (length text)
        (sym (ap (λ b. cond b (at + length (line_at text at) + 1) (length text))
        (le-ltb (at + length (line_at text at)) (length text) (omega (arith, ap length here, h, g)))))

    -- Both in one: the place past the line and its byte 10, or the end.
    pub taken_next : at < length text → (k : ℕ) → k ≡ min (at + length line + 1) (length text) → record { line = told; next = k } ≡ taken_at text at
    taken_next h k e = go (ltb (length line) (length text - at)) refl
      where
        go : (b : Bool) → ltb (length line) (length text - at) ≡ b → record { line = told; next = k } ≡ taken_at text at
        go true f =
            let g : length line < length text - at = ltb-true (length line) (length text - at) f in
            let q : k ≡ at + length line + 1 = omega (arith, e, g) in
            ap (λ (j : ℕ). record { line = told; next = j }) q ∙ taken_inside h g
        go false f =
            let g : length text - at ≤ length line = ltb-false (length line) (length text - at) f in
            let q : k ≡ length text = omega (arith, e, g) in
            ap (λ (j : ℕ). record { line = told; next = j }) q ∙ taken_last h g

-- What was taken: the next place lies within the text, and what lies from there on is left after the line.
next_within : (b : Bool) (k n : ℕ) → ltb k n ≡ b → cond b (k + 1) n ≤ n
next_within true k n e = let h = ltb-true k n e in omega (arith, h)
next_within false k n e = omega arith

left_over : (b : Bool) (k : ℕ) (s : List ℕ) → ltb k (length s) ≡ b → drop (cond b (k + 1) (length s)) s ≡ drop (k + 1) s
left_over true k s e = refl
left_over false k s e =
    let past : length s ≤ k + 1 = omega (arith, ltb-false k (length s) e) in
    let end : length s ≤ length s = omega arith in
    drop_of_length-le s end ∙ sym (drop_of_length-le s past)

module _ (text : List ℕ) (at : ℕ) where
  abbrev ends : ℕ
  ends = at + length (until is_newline (drop at text))

  pub place_within : place_after text at ≤ length text
  unfolding place_after line_at
  place_within = next_within (ltb ends (length text)) ends (length text) refl

  pub place-rest : drop (place_after text at) text ≡ rest_after (drop at text)
  unfolding place_after rest_after line_at
  place-rest =
      let k : ℕ = length (until is_newline (drop at text)) in
      let e : ends + 1 ≡ at + (k + 1) = omega arith in
      left_over (ltb ends (length text)) ends text refl ∙ ap (λ (j : ℕ). drop j text) e ∙ sym (drop-drop (k + 1) at text)

  module _ (w : Taken) (e : w ≡ taken_at text at) where
    next_is : w.next ≡ place_after text at
    unfolding taken_at
    next_is = ap (λ t. t.next) e

    pub taken_within : w.next ≤ length text
    taken_within = omega (arith, next_is, place_within)

    pub taken-rest : drop w.next text ≡ rest_after (drop at text)
    taken-rest = ap (λ (j : ℕ). drop j text) next_is ∙ place-rest

-- A reader's answer tells the line at its place, and none that there is an empty one.
line_told : (s : List ℕ) → unwrap_or (next_line s) Empty ≡ meaning (until is_newline s)
unfolding next_line meaning meaning_of fields words filled split until
line_told [] = refl
line_told (b ∷ s) = refl

pub next_taken : (text : List ℕ) (at : ℕ) → told_at (next_line (drop at text)) (place_after text at) ≡ taken_at text at
unfolding taken_at line_at
next_taken text at = ap (λ (l : Line). record { line = l; next = place_after text at }) (line_told (drop at text))

-- What a line taken inside a text says of the lines from its place on, and of the next place.
pub record Took (text : List ℕ) (at : ℕ) (w : Taken) : Type 0 where
  pub here : List ℕ
  pub means : w.line ≡ meaning here
  pub unrolls : lines (drop at text) ≡ here ∷ lines (drop w.next text)
  pub further : at < w.next
  pub within : w.next ≤ length text

pub took : (text : List ℕ) (at : ℕ) → at < length text → (w : Taken) → w ≡ taken_at text at → Took text at w
unfolding taken_at line_at
took text at h w e =
    let long : length (drop at text) ≡ length text - at = length-drop at text in
    let within : w.next ≤ length text = taken_within text at w e in
    let t = NextLine.took {text = drop at text} {l = w.line} {rest = drop w.next text} refl
    (some_next (drop at text) (λ z. omega (arith, z, h, long)) (until is_newline (drop at text)) refl w.line (ap (λ t. t.line) e))
    (taken-rest text at w e) in
    record {
      here = t.here;
      means = t.means;
      unrolls = t.unrolls;
      further = omega (arith, t.shorter, long, length-drop w.next text, within);
      within = within;
    }
