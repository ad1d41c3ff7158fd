-- The verdict claims what it says, and nothing else can be claimed: each fault is looked for in the order of document 01, a
-- search that ends with none is the condition that the later claims cite, and a claim tells how each search ended.
use mathlib.Core.Path.{◌≡◌, refl, sym, ap, subst, ◌∙◌}
use mathlib.Core.Bool.{true}
use mathlib.Core.List.{List, [], ◌∷◌}
use mathlib.Core.Logic.{◌↔◌}
use mathlib.Core.Option.{Option, some, none}
use Prim.Native.Nat.{ℕ, ◌+◌, ◌<◌}
use lib.ListN.{length}
use Rattle.rule.specs.Func.{Fn, less, within}
use Rattle.rule.specs.Point.{Pt, point_number, smallest}
use Rattle.rule.specs.Cube.{Cube, covered}
use Rattle.rule.specs.Rule.{list_of}
use Rattle.rule.specs.Verdict.{Verdict, accept, off, missing, literal, cube, first, found, fault, covers_off, off_point, fault_a, fault_b, can_go, goes, fault_c, spare, fault_d, first_fault, verdict}
use Rattle.rule.specs.Demand.{EveryOn, NoOff, EveryLiteralNeeded, Needed, Honest, Claims, OffFault, MissingFault, LiteralFault, CubeFault}
use Rattle.rule.proofs.Search.{first_some, first-none, is-first, no_first}
use Rattle.rule.proofs.Faults.{no_off, no_off_test, off-fault, off-first, off-point, every_on, every_on-none, missing-fault, missing-smallest, every_literal, every_literal_test, literal-fault, literal-first, literal-column, needed, needed_not_spare, cube-fault, cube-first}
use Rattle.rule.proofs.Honest.{list_honest}

module _ (m : ℕ) (L U : Fn m) (cs : List Cube) where
  -- What is known once the search for (a), and for (c), ended with none.
  abbrev NoOffs : Type 0
  NoOffs = (i : ℕ) → i < length cs → NoOff m L U cs i

  abbrev NoLiterals : Type 0
  NoLiterals = (i : ℕ) → i < length cs → EveryLiteralNeeded m L U cs i

  -- The claims of what is found from each fault on.
  claims_from_d : NoOffs → EveryOn m L U cs → NoLiterals → Claims m L U cs (first_fault (fault_d m L U cs ∷ []))
  unfolding Claims first_fault fault fault_d
  claims_from_d a b c = go (first (spare m L U cs) (length cs)) refl
    where
      go : (o : Option ℕ) → first (spare m L U cs) (length cs) ≡ o → Claims m L U cs (first_fault (fault (λ i. cube (i + 1)) o ∷ []))
      go (some i) e = (i, refl, cube-fault m L U cs a b c (first_some (spare m L U cs) (length cs) e))
      go none e =
          record {
            every_on = b;
            no_off = a;
            no_literal = c;
            no_row = λ i l. needed m L U cs i (first-none (spare m L U cs) (length cs) e i l);
          }

  claims_from_c : NoOffs → EveryOn m L U cs → Claims m L U cs (first_fault (fault_c m L U cs ∷ fault_d m L U cs ∷ []))
  unfolding Claims first_fault fault fault_c
  claims_from_c a b = go (first (goes m L U cs) (length cs)) refl
    where
      column : ℕ → ℕ
      column i = found (first (can_go m L U cs i) m) 0

      go : (o : Option ℕ) → first (goes m L U cs) (length cs) ≡ o → Claims m L U cs (first_fault (fault (λ i. literal (i + 1) (column i)) o ∷ fault_d m L U cs ∷ []))
      go (some i) e = (i, refl, literal-fault m L U cs a b (first_some (goes m L U cs) (length cs) e))
      go none e = claims_from_d a b (λ i l. every_literal m L U cs i (first-none (goes m L U cs) (length cs) e i l))

  claims_from_b : NoOffs → Claims m L U cs (first_fault (fault_b m L U cs ∷ fault_c m L U cs ∷ fault_d m L U cs ∷ []))
  unfolding Claims first_fault fault fault_b
  claims_from_b a = go (smallest m (less m L (covered m cs))) refl
    where
      go : (o : Option Pt) → smallest m (less m L (covered m cs)) ≡ o → Claims m L U cs (first_fault (fault (λ p. missing (point_number p)) o ∷ fault_c m L U cs ∷ fault_d m L U cs ∷ []))
      go (some p) e = (p, refl, missing-fault m L U cs a e)
      go none e = claims_from_c a (every_on m L U cs e)

  -- Each verdict names a fault that is there, none earlier in the order, and the smallest point; accept claims all four conditions.
  pub claims : Claims m L U cs (verdict m L U cs)
  unfolding Claims first_fault fault fault_a verdict
  claims = go (first (covers_off m L U cs) (length cs)) refl
    where
      go : (o : Option ℕ) → first (covers_off m L U cs) (length cs) ≡ o → Claims m L U cs (first_fault (fault (λ i. off (i + 1) (point_number (off_point m L U cs i))) o ∷ fault_b m L U cs ∷ fault_c m L U cs ∷ fault_d m L U cs ∷ []))
      go (some i) e = (i, off_point m L U cs i, refl, refl, off-fault m L U cs (first_some (covers_off m L U cs) (length cs) e))
      go none e = claims_from_b (λ i l. no_off m L U cs i (first-none (covers_off m L U cs) (length cs) e i l))

  -- The verdict by how each search ended.
  verdict_by : {a b c d : Option Verdict} → fault_a m L U cs ≡ a → fault_b m L U cs ≡ b → fault_c m L U cs ≡ c → fault_d m L U cs ≡ d → verdict m L U cs ≡ first_fault (a ∷ b ∷ c ∷ d ∷ [])
  unfolding verdict
  verdict_by p q r s = λ i. first_fault (p i ∷ q i ∷ r i ∷ s i ∷ [])

  -- A condition that holds leaves its search with none.
  fault_a-none : NoOffs → fault_a m L U cs ≡ none
  unfolding fault_a fault
  fault_a-none h =
      ap (fault (λ i. off (i + 1) (point_number (off_point m L U cs i))))
      (no_first (covers_off m L U cs) (length cs) (λ i l. no_off_test m L U cs i (h i l)))

  fault_b-none : EveryOn m L U cs → fault_b m L U cs ≡ none
  unfolding fault_b fault
  fault_b-none h = ap (fault (λ p. missing (point_number p))) (every_on-none m L U cs h)

  fault_c-none : NoLiterals → fault_c m L U cs ≡ none
  unfolding fault_c fault
  fault_c-none h =
      ap (fault (λ i. literal (i + 1) (found (first (can_go m L U cs i) m) 0)))
      (no_first (goes m L U cs) (length cs) (λ i l. every_literal_test m L U cs i (h i l)))

  fault_d-none : ((i : ℕ) → i < length cs → Needed m L U cs i) → fault_d m L U cs ≡ none
  unfolding fault_d fault
  fault_d-none h =
      ap (fault (λ i. cube (i + 1))) (no_first (spare m L U cs) (length cs) (λ i l. needed_not_spare m L U cs i (h i l)))

  -- A fault that is claimed is what its search finds.
  fault_a-some : {i : ℕ} {p : Pt} → OffFault m L U cs i p → fault_a m L U cs ≡ some (off (i + 1) (point_number p))
  unfolding fault_a fault
  fault_a-some {i} h =
      ap (fault (λ i. off (i + 1) (point_number (off_point m L U cs i)))) (is-first (off-first m L U cs h)) ∙
      ap (λ p. some (off (i + 1) (point_number p))) (off-point m L U cs h)

  fault_b-some : {p : Pt} → MissingFault m L U cs p → fault_b m L U cs ≡ some (missing (point_number p))
  unfolding fault_b fault
  fault_b-some h = ap (fault (λ p. missing (point_number p))) (missing-smallest m L U cs h)

  fault_c-some : {i : ℕ} {k : ℕ} → LiteralFault m L U cs i k → fault_c m L U cs ≡ some (literal (i + 1) k)
  unfolding fault_c fault
  fault_c-some {i} h =
      ap (fault (λ i. literal (i + 1) (found (first (can_go m L U cs i) m) 0))) (is-first (literal-first m L U cs h)) ∙
      ap (λ k. some (literal (i + 1) k)) (literal-column m L U cs h)

  fault_d-some : {i : ℕ} → CubeFault m L U cs i → fault_d m L U cs ≡ some (cube (i + 1))
  unfolding fault_d fault
  fault_d-some h = ap (fault (λ i. cube (i + 1))) (is-first (cube-first m L U cs h))

  -- The claims decide the verdict: what can be claimed is what the verdict says.
  pub verdict_unique : (v : Verdict) → Claims m L U cs v → verdict m L U cs ≡ v
  unfolding Claims first_fault
  verdict_unique accept h = verdict_by (fault_a-none h.no_off) (fault_b-none h.every_on) (fault_c-none h.no_literal) (fault_d-none h.no_row)
  verdict_unique (off c x) (i, p, ec, ex, h) = verdict_by (fault_a-some h) refl refl refl ∙ (λ t. off (sym ec t) (sym ex t))
  verdict_unique (missing x) (p, ex, h) = verdict_by (fault_a-none h.no_off) (fault_b-some h) refl refl ∙ ap missing (sym ex)
  verdict_unique (literal c k) (i, ec, h) =
      verdict_by (fault_a-none h.no_off) (fault_b-none h.every_on) (fault_c-some h) refl ∙ ap (λ d. literal d k) (sym ec)
  verdict_unique (cube c) (i, ec, h) =
      verdict_by (fault_a-none h.no_off) (fault_b-none h.every_on) (fault_c-none h.no_literal) (fault_d-some h) ∙ ap cube (sym ec)

  -- Two verdicts that can be claimed of a list are one.
  pub one_verdict : (v : Verdict) (w : Verdict) → Claims m L U cs v → Claims m L U cs w → v ≡ w
  one_verdict v w a b = sym (verdict_unique v a) ∙ verdict_unique w b

  -- The verdict accepts exactly the lists that keep the four conditions.
  pub accepts_honest : Honest m L U cs → verdict m L U cs ≡ accept
  unfolding Claims
  accepts_honest h = verdict_unique accept h

  pub accepted_is_honest : verdict m L U cs ≡ accept → Honest m L U cs
  unfolding Claims
  accepted_is_honest e = subst (Claims m L U cs) e claims

  pub accept_exactly : (verdict m L U cs ≡ accept) ↔ Honest m L U cs
  accept_exactly = (accepted_is_honest, accepts_honest)

-- So the rule's list is accepted, for L within U.
pub accepts_list : (m : ℕ) (L : Fn m) (U : Fn m) → within m L U ≡ true → verdict m L U (list_of m L U) ≡ accept
accepts_list m L U w = accepts_honest m L U (list_of m L U) (list_honest m L U w)
