-- Pieces and fields: a piece is a run, and the pieces after it are those of what follows its end; a field is a run of bytes that are
-- not blank.
use mathlib.Core.Path.{◌≡◌, refl, sym, ap, ◌∙◌}
use mathlib.Core.Bool.{Bool, true, false, cond, not}
use mathlib.Core.List.{List, [], ◌∷◌}
use mathlib.Core.Logic.{⊎_elim}
use Prim.Native.Nat.{ℕ, suc, ◌+◌, ◌<◌}
use native.Mathlib.Omega.{arith}
use lib.ListN.{length, get_or, drop}
use lib.Seq.{drop-cons, drop-drop}
use borrow.Author.Tests.{not-true}
use Rattle.line.specs.Bytes.{is_newline, is_blank, until, from, put_byte, split, lines, keep, filled, words}
use Rattle.line.specs.Scan.{is_filled, first_field, rest_fields}
use Rattle.line.proofs.Runs.{Begins, from_begins}

module _ (p : ℕ → Bool) where
  -- What follows the byte that ends the first piece.
  past : List ℕ → List ℕ
  past s = drop (suc (length (until p s))) s

  split_unroll : (b : ℕ) (t : List ℕ) → split p (b ∷ t) ≡ until p (b ∷ t) ∷ split p (past (b ∷ t))
  unfolding split until past put_byte
  split_unroll b [] = go (p b)
    where
      go : (q : Bool) → put_byte q b (split p [])
          ≡ cond q [] (b ∷ []) ∷ split p (drop (suc (length (cond q [] (b ∷ [])))) (b ∷ []))
      go true = refl
      go false = refl
  split_unroll b (d ∷ t) = go (p b) (split_unroll d t)
    where
      go : (q : Bool) → split p (d ∷ t) ≡ until p (d ∷ t) ∷ split p (past (d ∷ t))
          → put_byte q b (split p (d ∷ t))
          ≡ cond q [] (b ∷ until p (d ∷ t)) ∷ split p (drop (suc (length (cond q [] (b ∷ until p (d ∷ t))))) (b ∷ d ∷ t))
      go true h = refl
      go false h = ap (put_byte false b) h

-- One line more of a text, from a place on.
pub lines_unroll : (text : List ℕ) (i : ℕ) → i < length text
    → lines (drop i text)
    ≡ until is_newline (drop i text) ∷ lines (drop (i + length (until is_newline (drop i text)) + 1) text)
unfolding lines past
lines_unroll text i h =
    let e = drop-cons text i 0 h in
    let u = until is_newline (drop i text) in
    let k : i + suc (length u) ≡ i + length u + 1 = omega arith in
    ap (split is_newline) e ∙ split_unroll is_newline (get_or text i 0) (drop (suc i) text) ∙
    ap (λ s. until is_newline s ∷ split is_newline (drop (suc (length (until is_newline s))) s)) (sym e) ∙
    ap (λ s. u ∷ split is_newline s) (drop-drop (suc (length u)) i text ∙ ap (λ j. drop j text) k)

-- Blanks before the first field, and the one that ends it, change nothing.
words_blank : (b : ℕ) (t : List ℕ) → is_blank b ≡ true → words (b ∷ t) ≡ words t
unfolding words split put_byte filled keep
words_blank b t e = rw e

words_skip : (s : List ℕ) → words s ≡ words (from is_filled s)
unfolding from is_filled
words_skip [] = refl
words_skip (b ∷ t) = go (is_blank b) refl (words_skip t)
  where
    go : (q : Bool) → is_blank b ≡ q → words t ≡ words (from is_filled t)
        → words (b ∷ t) ≡ words (cond (not (is_blank b)) (b ∷ t) (from is_filled t))
    go true e h = rw e (words_blank b t e ∙ h)
    go false e h = rw e

words_past : (s : List ℕ) → words (from is_blank s) ≡ words (past is_blank s)
unfolding from past until
words_past [] = refl
words_past (b ∷ t) = go (is_blank b) refl (words_past t)
  where
    go : (q : Bool) → is_blank b ≡ q → words (from is_blank t) ≡ words (past is_blank t)
        → words (cond (is_blank b) (b ∷ t) (from is_blank t))
        ≡ words (drop (suc (length (cond (is_blank b) [] (b ∷ until is_blank t)))) (b ∷ t))
    go true e h = rw e (words_blank b t e)
    go false e h = rw e h

until-filled : (b : ℕ) (t : List ℕ) → is_blank b ≡ false → until is_blank (b ∷ t) ≡ b ∷ until is_blank t
unfolding until
until-filled b t e = rw e

words-first : (b : ℕ) (t : List ℕ) → is_blank b ≡ false
    → words (b ∷ t) ≡ until is_blank (b ∷ t) ∷ words (from is_blank (b ∷ t))
unfolding words filled keep
words-first b t e =
    let after = filled (split is_blank (past is_blank (b ∷ t))) in
    let u = until-filled b t e in
    ap filled (split_unroll is_blank b t) ∙ ap (λ f. keep f after) u ∙ ap (λ f. f ∷ after) (sym u) ∙
    ap (λ fs. until is_blank (b ∷ t) ∷ fs) (sym (words_past (b ∷ t)))

-- The first field and what follows it, or that there is none.
module _ (s : List ℕ) where
  starts : Begins is_filled s → (length (first_field s) ≡ 0 → ⊥) × (words s ≡ first_field s ∷ words (rest_fields s))
  unfolding first_field rest_fields is_filled
  starts g =
      let e = not-true (is_blank g.lead) g.passes in (
        λ z. let u = ap length (until-filled g.lead g.more e) in let v = ap (λ t. length (until is_blank t)) g.whole in
            omega arith,
        words_skip s ∙ ap words g.whole ∙ words-first g.lead g.more e ∙
            ap (λ t. until is_blank t ∷ words (from is_blank t)) (sym g.whole),
      )

  pub no_field : length (first_field s) ≡ 0 → words s ≡ []
  unfolding words split filled
  no_field z = ⊎_elim (λ e. words_skip s ∙ ap words e) (λ g. absurd ((starts g).0 z)) (from_begins is_filled s)

  pub a_field : (length (first_field s) ≡ 0 → ⊥) → words s ≡ first_field s ∷ words (rest_fields s)
  unfolding first_field until
  a_field z =
      ⊎_elim (λ e. absurd (z (ap (λ t. length (until is_blank t)) e))) (λ g. (starts g).1) (from_begins is_filled s)
