-- Laws of runs: one after the other, what stays of numbers in use, and what does not fit.
use mathlib.Core.Path.{◌≡◌, refl, sym, ap, ◌∙◌, subst}
use mathlib.Core.Bool.{true}
use mathlib.Core.List.{List, [], ◌++◌}
use Prim.Native.Nat.{ℕ, ◌+◌}
use native.Mathlib.Omega.{arith}
use lib.ListN.{length}
use Rattle.rule.specs.Func.{Fn}
use Rattle.rule.specs.Nodes.{Tree, nodes, add_all}
use Rattle.rule.proofs.Sets.{AllIn, add_all_append, present_last_adds_nothing}
use Rattle.rule.proofs.Growth.{more_no_shorter}
use Rattle.graph.specs.Table.{table_of, fn_of, refers, functions}
use Rattle.graph.specs.Sound.{Sound}
use Rattle.graph.specs.Built.{Built, Lacking}
use Rattle.graph.specs.Run.{Run, Short, Names}
use Rattle.graph.proofs.Tests.{refers_wider}
use Rattle.graph.proofs.Agree.{agree_through, agree-refers, agree_fn}
use Rattle.graph.proofs.Building.{agree_itself, fewer_sized}
use Rattle.graph.proofs.Records.{nodes_in_use}

-- Nothing named.
pub run_none : {n : ℕ} {c : ℕ} {v : List ℕ} {l : List ℕ} {h : List ℕ} → Sound n c v l h → Run n c v l h v l h [] c
unfolding add_all
run_none {n} {c} {v} {l} {h} s =
    record { sound = s; length-kept = refl; more = omega arith; kept = agree_itself (table_of v l h) c; adds = refl }

-- A building function's promise is a run of its function's nodes, and its number names the function.
pub built-run : {n : ℕ} {c : ℕ} {v : List ℕ} {l : List ℕ} {h : List ℕ} {v' : List ℕ} {l' : List ℕ} {h' : List ℕ} {k : ℕ} {m : ℕ} {f : Fn m} {x : ℕ} {c' : ℕ} → Built n c v l h v' l' h' k m f x c' → Run n c v l h v' l' h' (nodes m f) c'
built-run b = record { sound = b.sound; length-kept = b.length-kept; more = b.more; kept = b.kept; adds = b.adds }

pub built-names : {n : ℕ} {c : ℕ} {v : List ℕ} {l : List ℕ} {h : List ℕ} {v' : List ℕ} {l' : List ℕ} {h' : List ℕ} {k : ℕ} {m : ℕ} {f : Fn m} {x : ℕ} {c' : ℕ} → Built n c v l h v' l' h' k m f x c' → Names v' l' h' c' k m f x
built-names b = record { number = b.number; means = b.means }

pub lacking_short : {n : ℕ} {c : ℕ} {v : List ℕ} {l : List ℕ} {h : List ℕ} {v' : List ℕ} {l' : List ℕ} {h' : List ℕ} {k : ℕ} {m : ℕ} {f : Fn m} → Lacking n c v l h v' l' h' k m f → Short n c v l h v' l' h' (nodes m f)
lacking_short b = record { sized = b.sized; length-kept = b.length-kept; kept = b.kept; lacks = b.lacks }

-- What does not fit first does not fit with more.
pub short-more : {n : ℕ} {c : ℕ} {v : List ℕ} {l : List ℕ} {h : List ℕ} {v' : List ℕ} {l' : List ℕ} {h' : List ℕ} (ts : List Tree) (us : List Tree) → Short n c v l h v' l' h' ts → Short n c v l h v' l' h' (ts ++ us)
short-more {n} {c} {v} {l} {h} ts us s =
    record {
      sized = s.sized;
      length-kept = s.length-kept;
      kept = s.kept;
      lacks = omega (arith, s.lacks, more_no_shorter (functions n (table_of v l h) c) ts us);
    }

module _ {n : ℕ} {c : ℕ} {v : List ℕ} {l : List ℕ} {h : List ℕ} {v₁ : List ℕ} {l₁ : List ℕ} {h₁ : List ℕ} {c₁ : ℕ} where
  -- One run after another, and what does not fit after a run.
  pub run_then : {v₂ : List ℕ} {l₂ : List ℕ} {h₂ : List ℕ} {c₂ : ℕ} (ts : List Tree) (us : List Tree) → Run n c v l h v₁ l₁ h₁ ts c₁ → Run n c₁ v₁ l₁ h₁ v₂ l₂ h₂ us c₂ → Run n c v l h v₂ l₂ h₂ (ts ++ us) c₂
  run_then ts us r s =
      record {
        sound = s.sound;
        length-kept = s.length-kept ∙ r.length-kept;
        more = omega (arith, r.more, s.more);
        kept = agree_through c c₁ r.more r.kept s.kept;
        adds = s.adds ∙ ap (λ S. add_all S us) r.adds ∙ sym (add_all_append (functions n (table_of v l h) c) ts us);
      }

  pub run_short : {v₂ : List ℕ} {l₂ : List ℕ} {h₂ : List ℕ} (ts : List Tree) (us : List Tree) → Run n c v l h v₁ l₁ h₁ ts c₁ → Short n c₁ v₁ l₁ h₁ v₂ l₂ h₂ us → Short n c v l h v₂ l₂ h₂ (ts ++ us)
  run_short ts us r s =
      record {
        sized = fewer_sized r.more s.sized;
        length-kept = s.length-kept ∙ r.length-kept;
        kept = agree_through c c₁ r.more r.kept s.kept;
        lacks =
            omega (
              arith,
              s.lacks,
              r.length-kept,
              ap (λ S. length (add_all S us)) r.adds,
              ap length (add_all_append (functions n (table_of v l h) c) ts us),
            );
      }

  -- Functions that are there add nothing.
  pub run_present : (ts : List Tree) (us : List Tree) → Run n c v l h v₁ l₁ h₁ ts c₁ → AllIn (functions n (table_of v₁ l₁ h₁) c₁) us → Run n c v l h v₁ l₁ h₁ (ts ++ us) c₁
  run_present ts us r a =
      record {
        sound = r.sound;
        length-kept = r.length-kept;
        more = r.more;
        kept = r.kept;
        adds =
            r.adds ∙
            sym (present_last_adds_nothing (functions n (table_of v l h) c) ts us (subst (λ S. AllIn S us) r.adds a));
      }

  -- Numbers in use stay in use, with their functions.
  pub stays : (ts : List Tree) (k : ℕ) (x : ℕ) → Run n c v l h v₁ l₁ h₁ ts c₁ → refers (table_of v l h) c k x ≡ true → refers (table_of v₁ l₁ h₁) c₁ k x ≡ true
  stays ts k x r e =
      refers_wider (table_of v₁ l₁ h₁) c c₁ k k x r.more (omega arith)
      (agree-refers (table_of v l h) (table_of v₁ l₁ h₁) c r.kept k x e)

  pub stays_fn : (ts : List Tree) (k : ℕ) (m : ℕ) (x : ℕ) → Sound n c v l h → Run n c v l h v₁ l₁ h₁ ts c₁ → refers (table_of v l h) c k x ≡ true → fn_of (table_of v₁ l₁ h₁) k m x ≡ fn_of (table_of v l h) k m x
  stays_fn ts k m x s r e = agree_fn (table_of v l h) (table_of v₁ l₁ h₁) c r.kept n s.good m k x e

  pub names_stay : {ts : List Tree} {k : ℕ} {m : ℕ} {f : Fn m} {x : ℕ} → Sound n c v l h → Run n c v l h v₁ l₁ h₁ ts c₁ → Names v l h c k m f x → Names v₁ l₁ h₁ c₁ k m f x
  names_stay {ts} {k} {m} {f} {x} s r q =
      record { number = stays ts k x r q.number; means = stays_fn ts k m x s r q.number ∙ q.means }

-- The nodes of a number in use are there.
pub names-there : {n : ℕ} {c : ℕ} {v : List ℕ} {l : List ℕ} {h : List ℕ} (k : ℕ) (m : ℕ) (f : Fn m) (x : ℕ) → Sound n c v l h → k + m ≡ n → Names v l h c k m f x → AllIn (functions n (table_of v l h) c) (nodes m f)
names-there {n} {c} {v} {l} {h} k m f x s e q =
    subst (λ g. AllIn (functions n (table_of v l h) c) (nodes m g)) q.means (nodes_in_use n (table_of v l h) c s.good m k x e q.number)
