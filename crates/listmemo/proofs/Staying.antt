-- The memo of lists stays right: records are only added, and cubes are only put down from the place on, which is past every
-- copy. A memo without entries is right, since no key is 0.
use mathlib.Core.Path.{◌≡◌, sym, ap, ◌∙◌, subst, subst⁻¹}
use mathlib.Core.List.{List}
use Prim.Native.Nat.{ℕ, ◌+◌, ◌^◌, ◌≤◌}
use native.Mathlib.Omega.{arith}
use lib.ListN.{length, replicate, length-replicate}
use lib.Seq.{sets}
use Rattle.std.proofs.lemmas.List.Elements.{All-replicate}
use Rattle.rule.specs.Func.{Fn}
use Rattle.rule.specs.Nodes.{Tree, named, add_all}
use Rattle.rule.specs.Rule.{list_of}
use Rattle.rule.proofs.Sets.{AllIn, all_added, all_in_kept, all_present_add_nothing}
use Rattle.graph.specs.Table.{table_of, fn_of, functions}
use Rattle.graph.specs.Sound.{Sound}
use Rattle.graph.specs.Run.{Run}
use Rattle.graph.proofs.Runs.{stays, stays_fn, names_stay}
use Rattle.listmemo.specs.Copy.{numbers_under}
use Rattle.listmemo.specs.Past.{key_of, no_entry, Written, Stands, Entry, Keeps}
use Rattle.listmemo.specs.declared.past.Entry as entry
use Rattle.listmemo.proofs.Writing.{under-length}
use Rattle.listmemo.proofs.Stores.{sets_apart}

module _ {n : ℕ} {c : ℕ} {v : List ℕ} {l : List ℕ} {h : List ℕ} {v₁ : List ℕ} {l₁ : List ℕ} {h₁ : List ℕ} {c₁ : ℕ} where
  there_stays : (ts : List Tree) (us : List Tree) → Run n c v l h v₁ l₁ h₁ ts c₁ → add_all (functions n (table_of v l h) c) us ≡ functions n (table_of v l h) c → add_all (functions n (table_of v₁ l₁ h₁) c₁) us ≡ functions n (table_of v₁ l₁ h₁) c₁
  there_stays ts us r t =
      let before : AllIn (functions n (table_of v l h) c) us = subst (λ S. AllIn S us) t (all_added (functions n (table_of v l h) c) us) in
      subst⁻¹ (λ S. add_all S us ≡ S) r.adds
      (all_present_add_nothing (add_all (functions n (table_of v l h) c) ts) us (all_in_kept (functions n (table_of v l h) c) ts before))

  written_stays : {room : List ℕ} {at : ℕ} {k : ℕ} {g : ℕ} {from : ℕ} {size : ℕ} {old : ℕ} (ts : List Tree) (xs : List ℕ) (at₁ : ℕ) (m : ℕ) (L : Fn m) (U : Fn m) → Sound n c v l h → Run n c v l h v₁ l₁ h₁ ts c₁ → from + size ≤ at → Written n c v l h room at k g from size old m L U → Written n c₁ v₁ l₁ h₁ (sets room at xs) at₁ k g from size old m L U
  written_stays {room} {at} {k} {g} {from} {size} {old} ts xs at₁ m L U s r q w =
      record {
        there = there_stays ts (named m L U) r w.there;
        cover = names_stay s r w.cover;
        long = w.long;
        copy =
            sym
            (sets_apart room from (numbers_under old (2 ^ k) (list_of m L U)) at xs
            (omega (arith, q, w.long, under-length old (2 ^ k) (list_of m L U)))) ∙
            ap (λ t. sets t at xs) w.copy;
      }

  stands_stay : {room : List ℕ} {at : ℕ} {a : ℕ} {b : ℕ} {k : ℕ} {g : ℕ} {from : ℕ} {size : ℕ} {old : ℕ} (ts : List Tree) (xs : List ℕ) → Sound n c v l h → Run n c v l h v₁ l₁ h₁ ts c₁ → Stands n c v l h room at a b k g from size old → Stands n c₁ v₁ l₁ h₁ (sets room at xs) (at + length xs) a b k g from size old
  stands_stay {room} {at} {a} {b} {k} {g} {from} {size} {old} ts xs s r t =
      record {
        lower = stays ts k a r t.lower;
        upper = stays ts k b r t.upper;
        before = omega (arith, t.before);
        list = λ m q.
            subst⁻¹ (λ L. Written n c₁ v₁ l₁ h₁ (sets room at xs) (at + length xs) k g from size old m L (fn_of (table_of v₁ l₁ h₁) k m b))
            (stays_fn ts k m a s r t.lower)
            (subst⁻¹ (λ U. Written n c₁ v₁ l₁ h₁ (sets room at xs) (at + length xs) k g from size old m (fn_of (table_of v l h) k m a) U)
            (stays_fn ts k m b s r t.upper)
            (written_stays ts xs (at + length xs) m _ _ s r t.before (t.list m q)));
      }

  pub keeps_stay : {room : List ℕ} {room₁ : List ℕ} {at : ℕ} {at₁ : ℕ} {past : List entry.Entry} (ts : List Tree) (xs : List ℕ) → Sound n c v l h → Run n c v l h v₁ l₁ h₁ ts c₁ → room₁ ≡ sets room at xs → at₁ ≡ at + length xs → Keeps n c v l h room at past → Keeps n c₁ v₁ l₁ h₁ room₁ at₁ past
  keeps_stay {room} {room₁} {at} {at₁} {past} ts xs s r e p w =
      subst⁻¹ (λ t. Keeps n c₁ v₁ l₁ h₁ t at₁ past) e
      (subst⁻¹ (λ j. Keeps n c₁ v₁ l₁ h₁ (sets room at xs) j past) p
      (record {
        long = w.long;
        each = λ i b. record { says = λ x y k hx hy hk f. stands_stay ts xs s r ((w.each i b).says x y k hx hy hk f) };
      }))

-- A memo without entries.
key_not_0 : (a : ℕ) (b : ℕ) (k : ℕ) → 0 ≡ key_of a b k → ⊥
unfolding key_of
key_not_0 a b k e = omega arith

none_right : {n : ℕ} {c : ℕ} {v : List ℕ} {l : List ℕ} {h : List ℕ} {room : List ℕ} {at : ℕ} → Entry n c v l h room at no_entry
unfolding no_entry
none_right = record { says = λ x y k hx hy hk f. absurd (key_not_0 x y k f) }

pub keeps_none : {n : ℕ} {c : ℕ} {v : List ℕ} {l : List ℕ} {h : List ℕ} {room : List ℕ} {at : ℕ} → Keeps n c v l h room at (replicate 512 no_entry)
keeps_none {n} {c} {v} {l} {h} {room} {at} =
    let long : length (replicate 512 no_entry) ≡ 512 = length-replicate 512 no_entry in
    record {
      long = long;
      each = λ i b. All-replicate (Entry n c v l h room at) 512 no_entry none_right i no_entry (omega (arith, long));
    }
