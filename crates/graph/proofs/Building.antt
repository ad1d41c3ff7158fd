-- The promise of the building functions: what needs no record, what is carried from one column to the one before it,
-- and what two results make.
use mathlib.Core.Path.{◌≡◌, refl, sym, ap, ◌∙◌, subst, subst⁻¹}
use mathlib.Core.Bool.{Bool, true, false}
use mathlib.Core.List.{List, ◌++◌}
use mathlib.Core.Logic.{⊎_elim}
use Prim.Native.Nat.{ℕ, suc, ◌+◌, ◌<◌, ◌≤◌}
use native.Mathlib.Omega.{arith}
use lib.ListN.{length}
use Rattle.rule.specs.Func.{Fn, same}
use Rattle.rule.specs.Nodes.{Tree, tree, own, nodes, add_all}
use Rattle.rule.proofs.Trees.{same_as_itself}
use Rattle.rule.proofs.Sets.{AllIn, all_present_add_nothing, adding_again-adds_nothing, add_all_append}
use Rattle.rule.proofs.Growth.{more_no_shorter}
use Rattle.rule.proofs.Nodes.{idle-adds_the_half's}
use Rattle.graph.specs.Table.{Table, table_of, half_of, fn_of, refers, functions, node_fn, Agree}
use Rattle.graph.specs.Sound.{Sound, Sized}
use Rattle.graph.specs.Built.{Built, Lacking, MadeOf}
use Rattle.std.specs.Prelude.{Option, Some, None}
use Rattle.graph.proofs.Tests.{refers-is, refers_wider}
use Rattle.graph.proofs.Numbers.{AtLevel, idle_or_at}
use Rattle.graph.proofs.Agree.{agree-refers, agree_through, agree_fn}
use Rattle.graph.proofs.Records.{nodes_in_use}

-- A table agrees with itself.
pub agree_itself : (T : Table) (c : ℕ) → Agree T T c
agree_itself T c = record { level = λ j u. refl; low = λ j u. refl; high = λ j u. refl }

-- A number in use needs no record: its nodes are there.
pub built_in_use : (n : ℕ) (c : ℕ) (v : List ℕ) (l : List ℕ) (h : List ℕ) (k : ℕ) (m : ℕ) (f : Fn m) (x : ℕ) → Sound n c v l h → k + m ≡ n →
    refers (table_of v l h) c k x ≡ true → fn_of (table_of v l h) k m x ≡ f → Built n c v l h v l h k m f x c
built_in_use n c v l h k m f x s e r q =
    record {
      sound = s;
      length-kept = refl;
      more = omega arith;
      kept = agree_itself (table_of v l h) c;
      number = r;
      means = q;
      adds =
          sym
          (all_present_add_nothing (functions n (table_of v l h) c) (nodes m f)
          (subst (λ g. AllIn (functions n (table_of v l h) c) (nodes m g)) q (nodes_in_use n (table_of v l h) c s.good m k x e r)));
    }

-- A reference at the next column is its own half at this one, so its function is its own twin.
pub next-idle : (T : Table) (c : ℕ) (k : ℕ) (d : Bool) (x : ℕ) → refers T c (k + 1) x ≡ true → half_of T k d x ≡ x
next-idle T c k d x r = ⊎_elim (λ i. i.half d) (λ a. absurd (too_deep a)) (idle_or_at T c k x (refers_wider T c c (k + 1) k x (omega arith) (omega arith) r))
  where
    too_deep : AtLevel T c k x → ⊥
    too_deep a =
        ⊎_elim (λ s. omega (arith, a.number))
        (λ u. let p : u.place ≡ a.place = omega (arith, a.number, u.number) in omega (arith, u.deep, ap T.level p, a.level))
        (refers-is T c (k + 1) x r)

pub twin : (T : Table) (c : ℕ) (k : ℕ) (m : ℕ) (x : ℕ) → refers T c (k + 1) x ≡ true → fn_of T k (suc m) x ≡ (fn_of T (k + 1) m x, fn_of T (k + 1) m x)
unfolding fn_of
twin T c k m x r = λ i. (fn_of T (k + 1) m (next-idle T c k false x r i), fn_of T (k + 1) m (next-idle T c k true x r i))

-- The nodes of a function that does not depend on the first column are those of its half.
twin_adds : (S : List Tree) (m : ℕ) (f : Fn m) → add_all S (nodes (suc m) (f, f)) ≡ add_all S (nodes m f)
twin_adds S m f = idle-adds_the_half's m (f, f) (same_as_itself m f) S

-- A result for the columns after column k is one for those from column k on, if the function does not depend on column k.
pub built-idle : {n : ℕ} {c : ℕ} {v : List ℕ} {l : List ℕ} {h : List ℕ} {v' : List ℕ} {l' : List ℕ} {h' : List ℕ} {k : ℕ} {x : ℕ} {c' : ℕ} (m : ℕ) (f : Fn m) →
    Built n c v l h v' l' h' (k + 1) m f x c' → Built n c v l h v' l' h' k (suc m) (f, f) x c'
built-idle {n} {c} {v} {l} {h} {v'} {l'} {h'} {k} {x} {c'} m f b =
    record {
      sound = b.sound;
      length-kept = b.length-kept;
      more = b.more;
      kept = b.kept;
      number = refers_wider (table_of v' l' h') c' c' (k + 1) k x (omega arith) (omega arith) b.number;
      means = twin (table_of v' l' h') c' k m x b.number ∙ (λ i. (b.means i, b.means i));
      adds = b.adds ∙ sym (twin_adds (functions n (table_of v l h) c) m f);
    }

pub lacking_idle : {n : ℕ} {c : ℕ} {v : List ℕ} {l : List ℕ} {h : List ℕ} {v' : List ℕ} {l' : List ℕ} {h' : List ℕ} {k : ℕ} (m : ℕ) (f : Fn m) →
    Lacking n c v l h v' l' h' (k + 1) m f → Lacking n c v l h v' l' h' k (suc m) (f, f)
lacking_idle {n} {c} {v} {l} {h} m f b =
    record {
      sized = b.sized;
      length-kept = b.length-kept;
      kept = b.kept;
      lacks = subst⁻¹ (λ S. length v < length S) (twin_adds (functions n (table_of v l h) c) m f) b.lacks;
    }

pub made_idle : (n : ℕ) (c : ℕ) (v : List ℕ) (l : List ℕ) (h : List ℕ) (v' : List ℕ) (l' : List ℕ) (h' : List ℕ) (k : ℕ) (m : ℕ) (f : Fn m) (c' : ℕ) (r : Option ℕ) →
    MadeOf n c v l h v' l' h' (k + 1) m f c' r → MadeOf n c v l h v' l' h' k (suc m) (f, f) c' r
unfolding MadeOf
made_idle n c v l h v' l' h' k m f c' (Some x) b = built-idle m f b
made_idle n c v l h v' l' h' k m f c' None b = lacking_idle m f b

-- Adding two lists of functions, and then both again with some more, is adding them once with the more.
add_twice : (S : List Tree) (a : List Tree) (b : List Tree) (o : List Tree) → add_all (add_all (add_all S a) b) (a ++ b ++ o) ≡ add_all S (a ++ b ++ o)
add_twice S a b o =
    add_all_append (add_all (add_all S a) b) (a ++ b) o ∙
    ap (λ R. add_all (add_all R (a ++ b)) o) (sym (add_all_append S a b)) ∙
    ap (λ R. add_all R o) (adding_again-adds_nothing S (a ++ b)) ∙
    sym (add_all_append S (a ++ b) o)

-- A fewer count of records in use.
pub fewer_sized : {c : ℕ} {c' : ℕ} {v : List ℕ} {l : List ℕ} {h : List ℕ} → c ≤ c' → Sized c' v l h → Sized c v l h
fewer_sized e s = record { count = omega (arith, s.count); low = s.low; high = s.high; room = s.room }

module _ (n : ℕ) (c : ℕ) (v : List ℕ) (l : List ℕ) (h : List ℕ) (k : ℕ) (m : ℕ) (f : Fn m) (g : Fn m) where
  -- What the low half needs, the whole needs; what both halves need, the whole needs.
  low_needs : length (add_all (functions n (table_of v l h) c) (nodes m f)) ≤ length (add_all (functions n (table_of v l h) c) (nodes (suc m) (f, g)))
  unfolding nodes
  low_needs =
      omega (
        arith,
        more_no_shorter (functions n (table_of v l h) c) (nodes m f) (nodes m g),
        more_no_shorter (functions n (table_of v l h) c) (nodes m f ++ nodes m g) (own (same m f g) (tree (suc m) (f, g))),
      )

  halves-need : length (add_all (add_all (functions n (table_of v l h) c) (nodes m f)) (nodes m g)) ≤ length (add_all (functions n (table_of v l h) c) (nodes (suc m) (f, g)))
  unfolding nodes
  halves-need =
      omega (
        arith,
        ap length (add_all_append (functions n (table_of v l h) c) (nodes m f) (nodes m g)),
        more_no_shorter (functions n (table_of v l h) c) (nodes m f ++ nodes m g) (own (same m f g) (tree (suc m) (f, g))),
      )

  -- The low half does not fit.
  pub lacking_low : {v₁ : List ℕ} {l₁ : List ℕ} {h₁ : List ℕ} → Lacking n c v l h v₁ l₁ h₁ (k + 1) m f → Lacking n c v l h v₁ l₁ h₁ k (suc m) (f, g)
  lacking_low b =
      record { sized = b.sized; length-kept = b.length-kept; kept = b.kept; lacks = omega (arith, b.lacks, low_needs) }

  module _ (v₁ : List ℕ) (l₁ : List ℕ) (h₁ : List ℕ) (x : ℕ) (c₁ : ℕ) (b₁ : Built n c v l h v₁ l₁ h₁ (k + 1) m f x c₁) where
    -- The high half does not fit after the low one.
    pub lacking_high : {v₂ : List ℕ} {l₂ : List ℕ} {h₂ : List ℕ} → Lacking n c₁ v₁ l₁ h₁ v₂ l₂ h₂ (k + 1) m g → Lacking n c v l h v₂ l₂ h₂ k (suc m) (f, g)
    lacking_high b =
        record {
          sized = fewer_sized b₁.more b.sized;
          length-kept = b.length-kept ∙ b₁.length-kept;
          kept = agree_through c c₁ b₁.more b₁.kept b.kept;
          lacks = omega (arith, b.lacks, b₁.length-kept, ap (λ S. length (add_all S (nodes m g))) b₁.adds, halves-need);
        }

    module _ (v₂ : List ℕ) (l₂ : List ℕ) (h₂ : List ℕ) (y : ℕ) (c₂ : ℕ) (b₂ : Built n c₁ v₁ l₁ h₁ v₂ l₂ h₂ (k + 1) m g y c₂) where
      -- The low half's number still refers, and its function is what it was.
      pub low_stays : refers (table_of v₂ l₂ h₂) c₂ (k + 1) x ≡ true
      low_stays =
          refers_wider (table_of v₂ l₂ h₂) c₁ c₂ (k + 1) (k + 1) x b₂.more (omega arith)
          (agree-refers (table_of v₁ l₁ h₁) (table_of v₂ l₂ h₂) c₁ b₂.kept (k + 1) x b₁.number)

      node_is : node_fn (table_of v₂ l₂ h₂) k m x y ≡ (f, g)
      unfolding node_fn
      node_is =
          λ i. (
            (agree_fn (table_of v₁ l₁ h₁) (table_of v₂ l₂ h₂) c₁ b₂.kept n b₁.sound.good m (k + 1) x b₁.number ∙ b₁.means) i,
            b₂.means i,
          )

      both-kept : Agree (table_of v l h) (table_of v₂ l₂ h₂) c
      both-kept = agree_through c c₁ b₁.more b₁.kept b₂.kept

      both-add : functions n (table_of v₂ l₂ h₂) c₂ ≡ add_all (add_all (functions n (table_of v l h) c) (nodes m f)) (nodes m g)
      both-add = b₂.adds ∙ ap (λ S. add_all S (nodes m g)) b₁.adds

      node_adds : add_all (functions n (table_of v₂ l₂ h₂) c₂) (nodes (suc m) (node_fn (table_of v₂ l₂ h₂) k m x y)) ≡ add_all (functions n (table_of v l h) c) (nodes (suc m) (f, g))
      unfolding nodes
      node_adds =
          ap (λ F. add_all (functions n (table_of v₂ l₂ h₂) c₂) (nodes (suc m) F)) node_is ∙
          ap (λ S. add_all S (nodes (suc m) (f, g))) both-add ∙
          add_twice (functions n (table_of v l h) c) (nodes m f) (nodes m g) (own (same m f g) (tree (suc m) (f, g)))

      -- The node of both halves.
      pub built_node : {v₃ : List ℕ} {l₃ : List ℕ} {h₃ : List ℕ} {z : ℕ} {c₃ : ℕ} → Built n c₂ v₂ l₂ h₂ v₃ l₃ h₃ k (suc m) (node_fn (table_of v₂ l₂ h₂) k m x y) z c₃ → Built n c v l h v₃ l₃ h₃ k (suc m) (f, g) z c₃
      built_node b =
          record {
            sound = b.sound;
            length-kept = b.length-kept ∙ b₂.length-kept ∙ b₁.length-kept;
            more = omega (arith, b.more, b₂.more, b₁.more);
            kept = agree_through c c₂ (omega (arith, b₂.more, b₁.more)) both-kept b.kept;
            number = b.number;
            means = b.means ∙ node_is;
            adds = b.adds ∙ node_adds;
          }

      pub lacking_node : {v₃ : List ℕ} {l₃ : List ℕ} {h₃ : List ℕ} → Lacking n c₂ v₂ l₂ h₂ v₃ l₃ h₃ k (suc m) (node_fn (table_of v₂ l₂ h₂) k m x y) → Lacking n c v l h v₃ l₃ h₃ k (suc m) (f, g)
      lacking_node b =
          record {
            sized = fewer_sized (omega (arith, b₂.more, b₁.more)) b.sized;
            length-kept = b.length-kept ∙ b₂.length-kept ∙ b₁.length-kept;
            kept = agree_through c c₂ (omega (arith, b₂.more, b₁.more)) both-kept b.kept;
            lacks = omega (arith, b.lacks, b₂.length-kept, b₁.length-kept, ap length node_adds);
          }
