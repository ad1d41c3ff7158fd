-- Runs of bytes: the bytes before the first that passes a test and those from it on, one byte at a time and as parts of the whole.
use mathlib.Core.Path.{◌≡◌, refl, sym, ap, ◌∙◌}
use mathlib.Core.Bool.{Bool, true, false, cond}
use mathlib.Core.List.{List, [], ◌∷◌}
use mathlib.Core.Logic.{◌⊎◌, inl, inr}
use Prim.Native.Nat.{ℕ, suc, ◌+◌, ◌-◌, ◌<◌, ◌≤◌}
use native.Mathlib.Numerals.{add-one}
use native.Mathlib.Omega.{arith}
use lib.ListN.{length, get_or, take, drop, length-drop, drop_of_length-le}
use lib.Seq.{drop-cons, take_all}
use Rattle.line.specs.Bytes.{until, from}

-- The rest of a list from a place on, taken to its end.
pub take_rest : (s : List ℕ) (n : ℕ) → take (length s - n) (drop n s) ≡ drop n s
take_rest s n = take_all (length s - n) (drop n s) (omega (arith, length-drop n s))

module _ (p : ℕ → Bool) where
  -- The byte at a place ends the run, or belongs to it.
  pub until-here : (s : List ℕ) (i : ℕ) → i < length s → p (get_or s i 0) ≡ true → until p (drop i s) ≡ []
  unfolding until
  until-here s i h e = ap (until p) (drop-cons s i 0 h) ∙ rw e

  pub until-on : (s : List ℕ) (i : ℕ) → i < length s → p (get_or s i 0) ≡ false
      → until p (drop i s) ≡ get_or s i 0 ∷ until p (drop (i + 1) s)
  unfolding until
  until-on s i h e =
      ap (until p) (drop-cons s i 0 h) ∙ rw e (ap (λ k. get_or s i 0 ∷ until p (drop k s)) (sym (add-one i)))

  pub until_none : (s : List ℕ) (i : ℕ) → length s ≤ i → until p (drop i s) ≡ []
  unfolding until
  until_none s i h = ap (until p) (drop_of_length-le s h)

  -- The run is a part of the whole.
  pub until-within : (s : List ℕ) → length (until p s) ≤ length s
  unfolding until
  until-within [] = omega arith
  until-within (b ∷ t) = go (p b) (until-within t)
    where
      go : (q : Bool) → length (until p t) ≤ length t → length (cond q [] (b ∷ until p t)) ≤ suc (length t)
      go true h = omega arith
      go false h = omega arith

  pub take_until : (s : List ℕ) → take (length (until p s)) s ≡ until p s
  unfolding until
  take_until [] = refl
  take_until (b ∷ t) = go (p b) (take_until t)
    where
      go : (q : Bool) → take (length (until p t)) t ≡ until p t
          → take (length (cond q [] (b ∷ until p t))) (b ∷ t) ≡ cond q [] (b ∷ until p t)
      go true h = refl
      go false h = ap (λ u. b ∷ u) h

  pub drop_until : (s : List ℕ) → drop (length (until p s)) s ≡ from p s
  unfolding until from
  drop_until [] = refl
  drop_until (b ∷ t) = go (p b) (drop_until t)
    where
      go : (q : Bool) → drop (length (until p t)) t ≡ from p t
          → drop (length (cond q [] (b ∷ until p t))) (b ∷ t) ≡ cond q (b ∷ t) (from p t)
      go true h = refl
      go false h = h

  -- What comes from the first byte on is nothing, or begins with that byte.
  pub record Begins (s : List ℕ) : Type 0 where
    pub lead : ℕ
    pub more : List ℕ
    pub whole : from p s ≡ lead ∷ more
    pub passes : p lead ≡ true

  pub from_begins : (s : List ℕ) → (from p s ≡ []) ⊎ Begins s
  unfolding from
  from_begins [] = inl refl
  from_begins (b ∷ t) = go (p b) refl (from_begins t)
    where
      again : (q : Bool) → p b ≡ q → q ≡ false → Begins t → Begins (b ∷ t)
      again q e f g = record { lead = g.lead; more = g.more; whole = rw e (rw f g.whole); passes = g.passes }

      go : (q : Bool) → p b ≡ q → (from p t ≡ []) ⊎ Begins t → (cond (p b) (b ∷ t) (from p t) ≡ []) ⊎ Begins (b ∷ t)
      go true e g = inr (record { lead = b; more = t; whole = rw e; passes = e })
      go false e (inl g) = inl (rw e g)
      go false e (inr g) = inr (again false e refl g)
