-- The three lists of a step, one law for each call: what it asks, what it leaves when it does not fit, and what stands
-- after it.
use mathlib.Core.Path.{◌≡◌, sym, ap, ◌∙◌, subst, subst⁻¹}
use mathlib.Core.Bool.{true}
use mathlib.Core.List.{List, ◌++◌, append_assoc}
use Prim.Native.Nat.{ℕ, suc, ◌+◌, ◌*◌, ◌^◌, ◌≤◌}
use native.Mathlib.Nat.{pow-succ', mul-zero}
use native.Mathlib.Omega.{arith}
use lib.ListN.{length, length-append}
use lib.Seq.{sets}
use Rattle.rule.specs.Func.{Fn, within}
use Rattle.rule.specs.Cube.{Sign, sign0, sign1, dash, Cube}
use Rattle.rule.specs.Nodes.{Tree, nodes}
use Rattle.rule.specs.Rule.{p0_of, p1_of, g0_of, g1_of, r0_of, r1_of, r0_or_r1, u0_and_u1, g_star, list_a, list_b, list_c, put, list_of, result}
use Rattle.graph.specs.Table.{table_of, fn_of}
use Rattle.graph.specs.Sound.{Sound}
use Rattle.graph.specs.Run.{Run, Short, Names}
use Rattle.steps.specs.Step.{named_kept, KeptDone, named_left, RestDone}
use Rattle.listmemo.specs.Copy.{numbers_under}
use Rattle.list.specs.Generating.{named_a, named_b, named_rest, named_c, Listable, ListsDone, ListedDone}
use Rattle.graph.proofs.Runs.{run_then, run_present, names_stay, names-there, short-more}
use Rattle.listmemo.proofs.Writing.{sign_number, under_sign, under_append, under-length, sets_append, put-length, result-length}

-- What a list asks of two named numbers of the next column.
pub next-listable : {n : ℕ} {c : ℕ} {v : List ℕ} {l : List ℕ} {h : List ℕ} (at : ℕ) (chosen : ℕ) (w : ℕ) (k : ℕ) (m : ℕ) (f : Fn m) (g : Fn m) {x : ℕ} {y : ℕ} → Sound n c v l h → k + suc m ≡ n → w ≡ 2 ^ k →
    Names v l h c (k + 1) m f x → Names v l h c (k + 1) m g y → within m f g ≡ true → chosen + 65536 ≤ 65536 * (2 * w) → at + 3 ^ m ≤ 2 ^ 32 → Listable n c v l h at chosen (2 * w) (k + 1) x y
next-listable {n} {c} {v} {l} {h} at chosen w k m f g {x} {y} s e ew p q i u z =
    record {
      roots = record { sound = s; column = omega arith; first = p.number; second = q.number };
      inside = λ j t. inside j (omega arith);
      weight = ap (λ a. 2 * a) ew ∙ sym (pow-succ' 2 k) ∙ ap (λ a. 2 ^ a) (omega arith);
      literals = u;
      place = subst (λ a. at + 3 ^ a ≤ 2 ^ 32) (omega arith) z;
    }
  where
    inside : (j : ℕ) → j ≡ m → within j (fn_of (table_of v l h) (k + 1) j x) (fn_of (table_of v l h) (k + 1) j y) ≡ true
    inside j t =
        subst⁻¹ (λ a. within a (fn_of (table_of v l h) (k + 1) a x) (fn_of (table_of v l h) (k + 1) a y) ≡ true) t
        (subst⁻¹ (λ F. within m F (fn_of (table_of v l h) (k + 1) m y) ≡ true) p.means (subst⁻¹ (λ F. within m f F ≡ true) q.means i))

-- What does not fit early does not fit in the whole step.
module _ {n : ℕ} {c : ℕ} {v : List ℕ} {l : List ℕ} {h : List ℕ} {v' : List ℕ} {l' : List ℕ} {h' : List ℕ} (m : ℕ) (L : Fn (suc m)) (U : Fn (suc m)) where
  pub short-rest : Short n c v l h v' l' h' (named_rest m L U) → Short n c v l h v' l' h' (named_c m L U)
  unfolding named_c
  short-rest s = short-more _ _ (short-more _ _ s)

  pub short_b : Short n c v l h v' l' h' (named_b m L U) → Short n c v l h v' l' h' (named_c m L U)
  unfolding named_rest
  short_b s = short-rest (short-more _ _ (short-more _ _ (short-more _ _ (short-more _ _ s))))

  pub short_a : Short n c v l h v' l' h' (named_a m L U) → Short n c v l h v' l' h' (named_c m L U)
  unfolding named_b
  short_a s = short_b (short-more _ _ (short-more _ _ s))

  pub short-kept : Short n c v l h v' l' h' (named_kept m L U) → Short n c v l h v' l' h' (named_c m L U)
  unfolding named_a
  short-kept s = short_a (short-more _ _ (short-more _ _ s))

-- After list A.
pub record StateA (n : ℕ) (c : ℕ) (v : List ℕ) (l : List ℕ) (h : List ℕ) (room : List ℕ) (at : ℕ) (chosen : ℕ) (w : ℕ) (k : ℕ) (m : ℕ) (L : Fn (suc m)) (U : Fn (suc m))
    (v' : List ℕ) (l' : List ℕ) (h' : List ℕ) (room' : List ℕ) (l0 : ℕ) (l1 : ℕ) (u0 : ℕ) (u1 : ℕ) (p1 : ℕ) (g0 : ℕ) (c' : ℕ) (at' : ℕ) : Type 0 where
  pub run : Run n c v l h v' l' h' (named_a m L U) c'
  pub lower0 : Names v' l' h' c' (k + 1) m L.0 l0
  pub lower1 : Names v' l' h' c' (k + 1) m L.1 l1
  pub upper0 : Names v' l' h' c' (k + 1) m U.0 u0
  pub upper1 : Names v' l' h' c' (k + 1) m U.1 u1
  pub kept1 : Names v' l' h' c' (k + 1) m (p1_of m (list_of m) L U) p1
  pub cover0 : Names v' l' h' c' (k + 1) m (g0_of m (list_of m) L U) g0
  pub written : room' ≡ sets room at (numbers_under chosen w (put sign0 (list_a m (list_of m) L U)))
  pub place : at' ≡ at + length (list_a m (list_of m) L U)

-- A literal of weight w.
zero_weight : (chosen : ℕ) (w : ℕ) → chosen + 65536 * w ≡ chosen + w * sign_number sign0
unfolding sign_number
zero_weight chosen w = omega arith

one_weight : (chosen : ℕ) (w : ℕ) → chosen + w ≡ chosen + w * sign_number sign1
unfolding sign_number
one_weight chosen w = omega arith

no_weight : (chosen : ℕ) (w : ℕ) → chosen ≡ chosen + w * sign_number dash
unfolding sign_number
no_weight chosen w = omega (arith, mul-zero w)

pub after_a : {n : ℕ} {c : ℕ} {v : List ℕ} {l : List ℕ} {h : List ℕ} {room : List ℕ} {at : ℕ} {chosen : ℕ} {w : ℕ} {k : ℕ} {m : ℕ} {L : Fn (suc m)} {U : Fn (suc m)} {v₁ : List ℕ} {l₁ : List ℕ} {h₁ : List ℕ} {v₂ : List ℕ} {l₂ : List ℕ} {h₂ : List ℕ} {room₁ : List ℕ} {l0 : ℕ} {l1 : ℕ} {u0 : ℕ} {u1 : ℕ} {p0 : ℕ} {p1 : ℕ} {g0 : ℕ} {c₁ : ℕ} {c₂ : ℕ} {at₁ : ℕ} → k + suc m ≡ n →
    KeptDone n c v l h v₁ l₁ h₁ k m L U l0 l1 u0 u1 p0 p1 c₁ → ListedDone n c₁ v₁ l₁ h₁ v₂ l₂ h₂ room room₁ at (chosen + 65536 * w) (2 * w) (k + 1) m (p0_of m (list_of m) L U) U.0 g0 c₂ at₁ →
    StateA n c v l h room at chosen w k m L U v₂ l₂ h₂ room₁ l0 l1 u0 u1 p1 g0 c₂ at₁
unfolding g0_of list_a named_a
after_a {n} {room = room} {at = at} {chosen = chosen} {w = w} {k = k} {m = m} {L = L} {U = U} {g0 = g0} s K A =
    record {
      run = run_present _ _ (run_then _ _ K.run A.run) (names-there (k + 1) m _ g0 A.run.sound (omega arith) A.cover);
      lower0 = names_stay K.run.sound A.run K.lower0;
      lower1 = names_stay K.run.sound A.run K.lower1;
      upper0 = names_stay K.run.sound A.run K.upper0;
      upper1 = names_stay K.run.sound A.run K.upper1;
      kept1 = names_stay K.run.sound A.run K.kept1;
      cover0 = A.cover;
      written = A.written ∙ ap (sets room at) (ap (λ x. numbers_under x (2 * w) (list_of m (p0_of m (list_of m) L U) U.0)) (zero_weight chosen w) ∙ sym (under_sign chosen w sign0 (list_of m (p0_of m (list_of m) L U) U.0)));
      place = A.place;
    }

-- After list B.
pub record StateB (n : ℕ) (c : ℕ) (v : List ℕ) (l : List ℕ) (h : List ℕ) (room : List ℕ) (at : ℕ) (chosen : ℕ) (w : ℕ) (k : ℕ) (m : ℕ) (L : Fn (suc m)) (U : Fn (suc m))
    (v' : List ℕ) (l' : List ℕ) (h' : List ℕ) (room' : List ℕ) (l0 : ℕ) (l1 : ℕ) (u0 : ℕ) (u1 : ℕ) (g0 : ℕ) (g1 : ℕ) (c' : ℕ) (at' : ℕ) : Type 0 where
  pub run : Run n c v l h v' l' h' (named_b m L U) c'
  pub lower0 : Names v' l' h' c' (k + 1) m L.0 l0
  pub lower1 : Names v' l' h' c' (k + 1) m L.1 l1
  pub upper0 : Names v' l' h' c' (k + 1) m U.0 u0
  pub upper1 : Names v' l' h' c' (k + 1) m U.1 u1
  pub cover0 : Names v' l' h' c' (k + 1) m (g0_of m (list_of m) L U) g0
  pub cover1 : Names v' l' h' c' (k + 1) m (g1_of m (list_of m) L U) g1
  pub written : room' ≡ sets room at (numbers_under chosen w (put sign0 (list_a m (list_of m) L U) ++ put sign1 (list_b m (list_of m) L U)))
  pub place : at' ≡ at + (length (list_a m (list_of m) L U) + length (list_b m (list_of m) L U))

-- Numbers written after others, from where those ended.
write_on : (room : List ℕ) (at : ℕ) (chosen : ℕ) (w : ℕ) (x : ℕ) (s : Sign) (front : List Cube) (cs : List Cube) (room₁ : List ℕ) (room₂ : List ℕ) (at₁ : ℕ) → x ≡ chosen + w * sign_number s →
    room₁ ≡ sets room at (numbers_under chosen w front) → at₁ ≡ at + length front → room₂ ≡ sets room₁ at₁ (numbers_under x (2 * w) cs) → room₂ ≡ sets room at (numbers_under chosen w (front ++ put s cs))
write_on room at chosen w x s front cs room₁ room₂ at₁ ex e₁ ea e₂ =
    e₂ ∙
    ap (λ y. sets room₁ at₁ (numbers_under y (2 * w) cs)) ex ∙
    ap (sets room₁ at₁) (sym (under_sign chosen w s cs)) ∙
    ap (λ r. sets r at₁ (numbers_under chosen w (put s cs))) e₁ ∙
    ap (λ i. sets (sets room at (numbers_under chosen w front)) i (numbers_under chosen w (put s cs))) (ea ∙ ap (λ i. at + i) (sym (under-length chosen w front))) ∙
    sets_append room at (numbers_under chosen w front) (numbers_under chosen w (put s cs)) ∙
    ap (sets room at) (sym (under_append chosen w front (put s cs)))

pub after_b : {n : ℕ} {c : ℕ} {v : List ℕ} {l : List ℕ} {h : List ℕ} {room : List ℕ} {at : ℕ} {chosen : ℕ} {w : ℕ} {k : ℕ} {m : ℕ} {L : Fn (suc m)} {U : Fn (suc m)} {v₁ : List ℕ} {l₁ : List ℕ} {h₁ : List ℕ} {room₁ : List ℕ} {v₂ : List ℕ} {l₂ : List ℕ} {h₂ : List ℕ} {room₂ : List ℕ} {l0 : ℕ} {l1 : ℕ} {u0 : ℕ} {u1 : ℕ} {p1 : ℕ} {g0 : ℕ} {g1 : ℕ} {c₁ : ℕ} {c₂ : ℕ} {at₁ : ℕ} {at₂ : ℕ} → k + suc m ≡ n →
    StateA n c v l h room at chosen w k m L U v₁ l₁ h₁ room₁ l0 l1 u0 u1 p1 g0 c₁ at₁ → ListedDone n c₁ v₁ l₁ h₁ v₂ l₂ h₂ room₁ room₂ at₁ (chosen + w) (2 * w) (k + 1) m (p1_of m (list_of m) L U) U.1 g1 c₂ at₂ →
    StateB n c v l h room at chosen w k m L U v₂ l₂ h₂ room₂ l0 l1 u0 u1 g0 g1 c₂ at₂
unfolding g1_of list_b named_b
after_b {n} {room = room} {at = at} {chosen = chosen} {w = w} {k = k} {m = m} {L = L} {U = U} {room₁ = room₁} {room₂ = room₂} {g1 = g1} {at₁ = at₁} s A B =
    record {
      run = run_present _ _ (run_then _ _ A.run B.run) (names-there (k + 1) m _ g1 B.run.sound (omega arith) B.cover);
      lower0 = names_stay A.run.sound B.run A.lower0;
      lower1 = names_stay A.run.sound B.run A.lower1;
      upper0 = names_stay A.run.sound B.run A.upper0;
      upper1 = names_stay A.run.sound B.run A.upper1;
      cover0 = names_stay A.run.sound B.run A.cover0;
      cover1 = B.cover;
      written =
          write_on room at chosen w (chosen + w) sign1 (put sign0 (list_a m (list_of m) L U)) (list_of m (p1_of m (list_of m) L U) U.1) room₁ room₂ at₁ (one_weight chosen w) A.written
          (A.place ∙ ap (λ i. at + i) (sym (put-length sign0 (list_a m (list_of m) L U))))
          B.written;
      place = B.place ∙ omega (arith, A.place);
    }

-- After what A and B leave is joined.
pub record StateR (n : ℕ) (c : ℕ) (v : List ℕ) (l : List ℕ) (h : List ℕ) (room : List ℕ) (at : ℕ) (chosen : ℕ) (w : ℕ) (k : ℕ) (m : ℕ) (L : Fn (suc m)) (U : Fn (suc m))
    (v' : List ℕ) (l' : List ℕ) (h' : List ℕ) (room' : List ℕ) (g0 : ℕ) (g1 : ℕ) (x : ℕ) (y : ℕ) (c' : ℕ) (at' : ℕ) : Type 0 where
  pub run : Run n c v l h v' l' h' (named_rest m L U) c'
  pub cover0 : Names v' l' h' c' (k + 1) m (g0_of m (list_of m) L U) g0
  pub cover1 : Names v' l' h' c' (k + 1) m (g1_of m (list_of m) L U) g1
  pub left : Names v' l' h' c' (k + 1) m (r0_or_r1 m (list_of m) L U) x
  pub top : Names v' l' h' c' (k + 1) m (u0_and_u1 m (list_of m) L U) y
  pub written : room' ≡ sets room at (numbers_under chosen w (put sign0 (list_a m (list_of m) L U) ++ put sign1 (list_b m (list_of m) L U)))
  pub place : at' ≡ at + (length (list_a m (list_of m) L U) + length (list_b m (list_of m) L U))

pub spread : (s : List Tree) (a : List Tree) (b : List Tree) (d : List Tree) (e : List Tree) → s ++ (a ++ b ++ d ++ e) ≡ s ++ a ++ b ++ d ++ e
spread s a b d e = simp append_assoc

pub after-rest : {n : ℕ} {c : ℕ} {v : List ℕ} {l : List ℕ} {h : List ℕ} {room : List ℕ} {at : ℕ} {chosen : ℕ} {w : ℕ} {k : ℕ} {m : ℕ} {L : Fn (suc m)} {U : Fn (suc m)} {v₁ : List ℕ} {l₁ : List ℕ} {h₁ : List ℕ} {room₁ : List ℕ} {v₂ : List ℕ} {l₂ : List ℕ} {h₂ : List ℕ} {l0 : ℕ} {l1 : ℕ} {u0 : ℕ} {u1 : ℕ} {g0 : ℕ} {g1 : ℕ} {x : ℕ} {y : ℕ} {c₁ : ℕ} {c₂ : ℕ} {at₁ : ℕ} →
    StateB n c v l h room at chosen w k m L U v₁ l₁ h₁ room₁ l0 l1 u0 u1 g0 g1 c₁ at₁ →
    RestDone n c₁ v₁ l₁ h₁ v₂ l₂ h₂ (k + 1) m L.0 (g0_of m (list_of m) L U) L.1 (g1_of m (list_of m) L U) U.0 U.1 x y c₂ →
    StateR n c v l h room at chosen w k m L U v₂ l₂ h₂ room₁ g0 g1 x y c₂ at₁
unfolding named_rest named_left r0_of r1_of r0_or_r1 u0_and_u1
after-rest {n} {c} {v} {l} {h} {m = m} {L = L} {U = U} {v₂ = v₂} {l₂ = l₂} {h₂ = h₂} {c₂ = c₂} B R =
    record {
      run = subst (λ ts. Run n c v l h v₂ l₂ h₂ ts c₂) (spread (named_b m L U) (nodes m (r0_of m (list_of m) L U)) (nodes m (r1_of m (list_of m) L U)) (nodes m (r0_or_r1 m (list_of m) L U)) (nodes m (u0_and_u1 m (list_of m) L U))) (run_then _ _ B.run R.run);
      cover0 = names_stay B.run.sound R.run B.cover0;
      cover1 = names_stay B.run.sound R.run B.cover1;
      left = R.left;
      top = R.top;
      written = B.written;
      place = B.place;
    }

-- After list C: the three lists of the step.
pub after_c : {n : ℕ} {c : ℕ} {v : List ℕ} {l : List ℕ} {h : List ℕ} {room : List ℕ} {at : ℕ} {chosen : ℕ} {w : ℕ} {k : ℕ} {m : ℕ} {L : Fn (suc m)} {U : Fn (suc m)} {v₁ : List ℕ} {l₁ : List ℕ} {h₁ : List ℕ} {room₁ : List ℕ} {v₂ : List ℕ} {l₂ : List ℕ} {h₂ : List ℕ} {room₂ : List ℕ} {g0 : ℕ} {g1 : ℕ} {x : ℕ} {y : ℕ} {gs : ℕ} {c₁ : ℕ} {c₂ : ℕ} {at₁ : ℕ} {at₂ : ℕ} → k + suc m ≡ n →
    StateR n c v l h room at chosen w k m L U v₁ l₁ h₁ room₁ g0 g1 x y c₁ at₁ →
    ListedDone n c₁ v₁ l₁ h₁ v₂ l₂ h₂ room₁ room₂ at₁ chosen (2 * w) (k + 1) m (r0_or_r1 m (list_of m) L U) (u0_and_u1 m (list_of m) L U) gs c₂ at₂ →
    ListsDone n c v l h v₂ l₂ h₂ room room₂ at chosen w k m L U g0 g1 gs c₂ at₂
unfolding g_star list_c named_c result
after_c {n} {room = room} {at = at} {chosen = chosen} {w = w} {k = k} {m = m} {L = L} {U = U} {room₁ = room₁} {room₂ = room₂} {gs = gs} {at₁ = at₁} s R C =
    record {
      run = run_present _ _ (run_then _ _ R.run C.run) (names-there (k + 1) m _ gs C.run.sound (omega arith) C.cover);
      cover0 = names_stay R.run.sound C.run R.cover0;
      cover1 = names_stay R.run.sound C.run R.cover1;
      cover_c = C.cover;
      written =
          write_on room at chosen w chosen dash (put sign0 (list_a m (list_of m) L U) ++ put sign1 (list_b m (list_of m) L U)) (list_of m (r0_or_r1 m (list_of m) L U) (u0_and_u1 m (list_of m) L U)) room₁ room₂ at₁ (no_weight chosen w) R.written
          (R.place ∙
          ap (λ i. at + i)
          (omega (
            arith,
            length-append (put sign0 (list_a m (list_of m) L U)) (put sign1 (list_b m (list_of m) L U)),
            put-length sign0 (list_a m (list_of m) L U),
            put-length sign1 (list_b m (list_of m) L U),
          )))
          C.written;
      place = C.place ∙ omega (arith, R.place, result-length m (list_of m) L U);
    }
