-- Making a node, one law for each way out: its halves are equal, it is there, there is no room, it is put at the end.
use mathlib.Core.Path.{◌≡◌, refl, sym, ap, ◌∙◌, subst⁻¹}
use mathlib.Core.Bool.{false}
use mathlib.Core.List.{List, [], ◌∷◌, ◌++◌}
use Prim.Native.Nat.{ℕ, suc, ◌+◌, ◌<◌}
use native.Mathlib.Numerals.{add-one}
use native.Mathlib.Omega.{arith}
use lib.ListN.{length, set, length-set, length-append}
use lib.Seq.{get_or-set_same, get_or-set_other}
use Rattle.rule.specs.Func.{same}
use Rattle.rule.specs.Nodes.{tree, nodes, add_all}
use Rattle.rule.proofs.Bools.{must_be_false}
use Rattle.rule.proofs.Trees.{same_equal}
use Rattle.rule.proofs.Sets.{absent_goes_last}
use Rattle.rule.proofs.Nodes.{halves_present_adds_itself}
use Rattle.graph.specs.Table.{Table, table_of, fn_of, number_at, functions, node_fn, Agree}
use Rattle.std.specs.Prelude.{Some, None}
use Rattle.rule.specs.Refusal.{some_number}
use Rattle.rule.proofs.Refusals.{some_number_some, some_number_none}
use Rattle.graph.specs.Built.{Halves, Built, Lacking, MadeOf}
use Rattle.graph.proofs.Tests.{IsRecord, refers_wider, record_refers, number-found}
use Rattle.graph.proofs.Numbers.{equal_numbers}
use Rattle.graph.proofs.Records.{functions-length, nodes_in_use, record_fn, absent, put-good, put_fn, put-functions, put-refers}
use Rattle.graph.proofs.Building.{built_in_use, twin}

module _ (n : ℕ) (c : ℕ) (v : List ℕ) (l : List ℕ) (h : List ℕ) (k : ℕ) (a : ℕ) (b : ℕ) (p : Halves n c v l h k a b) (m : ℕ) (e : k + suc m ≡ n) where
  -- Equal halves: the node is its half.
  pub made_equal : a ≡ b → Built n c v l h v l h k (suc m) (node_fn (table_of v l h) k m a b) a c
  unfolding node_fn
  made_equal q =
      built_in_use n c v l h k (suc m) (node_fn (table_of v l h) k m a b) a p.sound e
      (refers_wider (table_of v l h) c c (k + 1) k a (omega arith) (omega arith) p.first)
      (twin (table_of v l h) c k m a p.first ∙ (λ i. (fn_of (table_of v l h) (k + 1) m a, fn_of (table_of v l h) (k + 1) m (q i))))

  -- The look-up found it.
  found_built : (x : ℕ) → x ≡ number_at (table_of v l h) c k a b → (x ≡ 0 → ⊥) → Built n c v l h v l h k (suc m) (node_fn (table_of v l h) k m a b) x c
  unfolding node_fn
  found_built x q z =
      let f = number-found (table_of v l h) c k a b (λ o. z (q ∙ o)) in
      subst⁻¹ (λ y. Built n c v l h v l h k (suc m) (node_fn (table_of v l h) k m a b) y c) (q ∙ f.number)
      (built_in_use n c v l h k (suc m) (node_fn (table_of v l h) k m a b) (f.place + 2) p.sound e
      (record_refers (table_of v l h) c k f.place f.used (omega (arith, f.here.level)))
      (record_fn (table_of v l h) k m f.place f.here.level ∙
      (λ i. (fn_of (table_of v l h) (k + 1) m (f.here.low i), fn_of (table_of v l h) (k + 1) m (f.here.high i)))))

  pub made_found : (x : ℕ) → Some x ≡ some_number (number_at (table_of v l h) c k a b) → MadeOf n c v l h v l h k (suc m) (node_fn (table_of v l h) k m a b) c (Some x)
  unfolding MadeOf
  made_found x q =
      let f = some_number_some (number_at (table_of v l h) c k a b) x (sym q) in
      found_built x (sym f.0) (λ z. omega (arith, f.1))

  -- Different halves that no record has: the node itself is missing, and nothing else.
  different : (a ≡ b → ⊥) → same m (fn_of (table_of v l h) (k + 1) m a) (fn_of (table_of v l h) (k + 1) m b) ≡ false
  different d =
      must_be_false (same m (fn_of (table_of v l h) (k + 1) m a) (fn_of (table_of v l h) (k + 1) m b))
      (λ s.
      d
      (equal_numbers n (table_of v l h) c p.sound.good m (k + 1) a b (omega arith) p.first p.second
      (same_equal m (fn_of (table_of v l h) (k + 1) m a) (fn_of (table_of v l h) (k + 1) m b) s)))

  adds_itself : (a ≡ b → ⊥) → number_at (table_of v l h) c k a b ≡ 0 →
      add_all (functions n (table_of v l h) c) (nodes (suc m) (node_fn (table_of v l h) k m a b)) ≡ functions n (table_of v l h) c ++ (tree (suc m) (node_fn (table_of v l h) k m a b) ∷ [])
  unfolding node_fn
  adds_itself d z =
      halves_present_adds_itself m (node_fn (table_of v l h) k m a b) (functions n (table_of v l h) c)
      (nodes_in_use n (table_of v l h) c p.sound.good m (k + 1) a (omega arith) p.first)
      (nodes_in_use n (table_of v l h) c p.sound.good m (k + 1) b (omega arith) p.second)
      (different d) ∙
      absent_goes_last (functions n (table_of v l h) c) (tree (suc m) (node_fn (table_of v l h) k m a b)) (absent n (table_of v l h) c m k a b p.sound.good e p.first p.second z)

  pub made_full : (a ≡ b → ⊥) → number_at (table_of v l h) c k a b ≡ 0 → c ≡ length v → Lacking n c v l h v l h k (suc m) (node_fn (table_of v l h) k m a b)
  made_full d z q =
      record {
        sized = p.sound.sized;
        length-kept = refl;
        kept = record { level = λ j u. refl; low = λ j u. refl; high = λ j u. refl };
        lacks =
            omega (
              arith,
              ap length (adds_itself d z),
              length-append (functions n (table_of v l h) c) (tree (suc m) (node_fn (table_of v l h) k m a b) ∷ []),
              functions-length n (table_of v l h) c,
            );
      }

  -- The table with the record put at the end.
  kept_others : Agree (table_of v l h) (table_of (set v c k) (set l c a) (set h c b)) c
  unfolding table_of
  kept_others =
      record {
        level = λ j u. get_or-set_other v c j k 0 (λ q. omega arith);
        low = λ j u. get_or-set_other l c j a 0 (λ q. omega arith);
        high = λ j u. get_or-set_other h c j b 0 (λ q. omega arith);
      }

  new_record : c < length v → IsRecord (table_of (set v c k) (set l c a) (set h c b)) c k a b
  unfolding table_of
  new_record u =
      record {
        level = get_or-set_same v c k 0 u;
        low = get_or-set_same l c a 0 (omega (arith, p.sound.sized.low));
        high = get_or-set_same h c b 0 (omega (arith, p.sound.sized.high));
      }

  pub made_new : (a ≡ b → ⊥) → number_at (table_of v l h) c k a b ≡ 0 → c < length v →
      Built n c v l h (set v c k) (set l c a) (set h c b) k (suc m) (node_fn (table_of v l h) k m a b) (c + 2) (c + 1)
  made_new d z u =
      subst⁻¹ (λ c'. Built n c v l h (set v c k) (set l c a) (set h c b) k (suc m) (node_fn (table_of v l h) k m a b) (c + 2) c') (add-one c)
      (record {
        sound =
            record {
              sized =
                  record {
                    count = omega (arith, length-set v c k);
                    low = omega (arith, length-set v c k, length-set l c a, p.sound.sized.low);
                    high = omega (arith, length-set v c k, length-set h c b, p.sound.sized.high);
                    room = omega (arith, length-set v c k, p.sound.sized.room);
                  };
              columns = p.sound.columns;
              good = put-good n (table_of v l h) T' c m k a b p.sound.good e p.first p.second d z kept_others (new_record u);
            };
        length-kept = length-set v c k;
        more = omega arith;
        kept = kept_others;
        number = put-refers n (table_of v l h) T' c m k a b p.sound.good e p.first p.second d z kept_others (new_record u);
        means = put_fn n (table_of v l h) T' c m k a b p.sound.good e p.first p.second d z kept_others (new_record u);
        adds = put-functions n (table_of v l h) T' c m k a b p.sound.good e p.first p.second d z kept_others (new_record u) ∙ sym (adds_itself d z);
      })
    where
      T' : Table
      T' = table_of (set v c k) (set l c a) (set h c b)

-- Where the look-up found none, no record has the numbers.
pub not_there : (x : ℕ) → None ≡ some_number x → x ≡ 0
not_there x q = some_number_none x (sym q)
