-- Rows named one after the other: what one more row names, and each way out of naming it and of naming the upper root.
use mathlib.Core.Path.{◌≡◌, refl, sym, ap, ◌∙◌, subst, subst⁻¹}
use mathlib.Core.Bool.{false}
use mathlib.Core.List.{List, [], ◌∷◌, ◌++◌, append_assoc, append-nil}
use Prim.Native.Nat.{ℕ, ◌+◌, ◌<◌}
use native.Mathlib.Omega.{arith}
use lib.Dec.{lit<}
use lib.ListN.{length}
use Rattle.std.specs.Prelude.{Option, Some, None}
use Rattle.rule.specs.Func.{Fn, joined, either, less}
use Rattle.rule.specs.Nodes.{nodes, add_all}
use Rattle.rule.specs.Cube.{cube_fn}
use Rattle.rule.specs.Rows as Rows
use Rattle.rule.specs.Rows.{Row, set_of, upper_of, part, same_part, named_by, named_after, on, dont_care, off, none}
use Rattle.rule.proofs.Sets.{add_all_append}
use Rattle.rule.proofs.Rows.{same-part, set_grows, set_stays}
use Rattle.graph.specs.Table.{fn_of, functions}
use Rattle.graph.specs.Operation.{op_of}
use Rattle.graph.specs.Built.{MadeOf}
use Rattle.graph.specs.Lent.{table, RootsIn, MadeIn}
use Rattle.graph.specs.Run.{Names}
use Rattle.graph.specs.declared.operation.Op.{Op}
use Rattle.graph.specs.declared.operation.Op.TheVariants.{Or, Difference}
use Rattle.graph.specs.declared.build.TableMut.{TableMut}
use Rattle.graph.proofs.Tests.{constant-refers}
use Rattle.graph.proofs.Numbers.{fn_one}
use Rattle.graph.proofs.Building.{built_in_use}
use Rattle.graph.proofs.Runs.{names_stay}
use Rattle.line.specs.Meaning.{kind_of, out_of, row_of}
use Rattle.line.specs.declared.meaning.Kind.{Kind}
use Rattle.line.specs.declared.meaning.Kind.TheVariants.{F, Fd, Fr}
use Rattle.line.specs.declared.meaning.Out.{Out}
use Rattle.memo.specs.declared.build.Operations.{Operations}
use Rattle.rows.specs.Naming.{part_by, part_for, other_part, Joined, JoinedOf, JoinedIn, Named, NamedOf, NamedIn, NamedAfterIn}
use Rattle.rows.specs.declared.naming.Part.TheVariants.{On, Other}
use Rattle.rows.specs.declared.naming.Sets.{Sets}

-- Which part it is, by the code's name.
by_on : (w : Rows.Part) → Some On ≡ part_by w → w ≡ on
unfolding part_by
by_on on e = refl
by_on dont_care e = cc e
by_on off e = cc e
by_on none e = cc e

by_nothing : (w : Rows.Part) → None ≡ part_by w → w ≡ none
unfolding part_by
by_nothing on e = cc e
by_nothing dont_care e = cc e
by_nothing off e = cc e
by_nothing none e = refl

by_other : (t : Rows.Kind) (o : Rows.Out) → Some Other ≡ part_by (part t o) → part t o ≡ other_part t
unfolding part_by part other_part
by_other Rows.f Rows.out0 e = cc e
by_other Rows.f Rows.out1 e = cc e
by_other Rows.f Rows.out_dash e = cc e
by_other Rows.f Rows.out_tilde e = cc e
by_other Rows.fd Rows.out0 e = cc e
by_other Rows.fd Rows.out1 e = cc e
by_other Rows.fd Rows.out_dash e = refl
by_other Rows.fd Rows.out_tilde e = cc e
by_other Rows.fr Rows.out0 e = refl
by_other Rows.fr Rows.out1 e = cc e
by_other Rows.fr Rows.out_dash e = cc e
by_other Rows.fr Rows.out_tilde e = cc e

-- The other set is not the on set, and both have meaning.
other_not_on : (t : Rows.Kind) → same_part (other_part t) on ≡ false
unfolding same_part other_part
other_not_on Rows.f = refl
other_not_on Rows.fd = refl
other_not_on Rows.fr = refl

on_not_other : (t : Rows.Kind) → same_part on (other_part t) ≡ false
unfolding same_part other_part
on_not_other Rows.f = refl
on_not_other Rows.fd = refl
on_not_other Rows.fr = refl

none_not_other : (t : Rows.Kind) → same_part none (other_part t) ≡ false
unfolding same_part other_part
none_not_other Rows.f = refl
none_not_other Rows.fd = refl
none_not_other Rows.fr = refl

other_means : (t : Rows.Kind) → same_part (other_part t) none ≡ false
unfolding same_part other_part
other_means Rows.f = refl
other_means Rows.fd = refl
other_means Rows.fr = refl

-- What a row with meaning names, whatever its part.
meaning-names : (n : ℕ) (t : Rows.Kind) (seen : List Row) (r : Row) (w : Rows.Part) → same_part w none ≡ false →
    named_by n t seen r w ≡ nodes n (cube_fn n r.cube) ++ nodes n (set_of n t w seen)
unfolding named_by same_part
meaning-names n t seen r on e = refl
meaning-names n t seen r dont_care e = refl
meaning-names n t seen r off e = refl
meaning-names n t seen r none e = cc e

-- Rows with one more name what they named, and then what that row names after them.
one_more : (n : ℕ) (t : Rows.Kind) (before : List Row) (rows : List Row) (r : Row) →
    named_after n t before (rows ++ (r ∷ [])) ≡ named_after n t before rows ++ named_by n t (before ++ (rows ++ (r ∷ []))) r (part t r.out)
unfolding named_after
one_more n t before [] r = append-nil (named_by n t (before ++ (r ∷ [])) r (part t r.out))
one_more n t before (s ∷ rows) r =
    ap (λ ts. named_by n t (before ++ (s ∷ [])) s (part t s.out) ++ ts) (one_more n t (before ++ (s ∷ [])) rows r) ∙
    sym
    (append_assoc (named_by n t (before ++ (s ∷ [])) s (part t s.out)) (named_after n t (before ++ (s ∷ [])) rows)
    (named_by n t ((before ++ (s ∷ [])) ++ (rows ++ (r ∷ []))) r (part t r.out))) ∙
    ap
    (λ all. named_by n t (before ++ (s ∷ [])) s (part t s.out) ++ named_after n t (before ++ (s ∷ [])) rows ++ named_by n t all r (part t r.out))
    (append_assoc before (s ∷ []) (rows ++ (r ∷ [])))

-- One more row r after those seen, in a lent table.
module _ (t : TableMut) (k : Rows.Kind) (s : Sets) (seen : List Row) (r : Row) (q : Named t.columns k seen t.level.now t.low.now t.high.now s.on s.other t.count) where
  -- A function of all columns that a number of a table after it names, and what the naming of the row promises.
  abbrev Calls : TableMut → Fn t.columns → ℕ → Type 0
  Calls t' u x = Names t'.level.now t'.low.now t'.high.now t'.count 0 t.columns u x

  abbrev After : TableMut → Option Sets → Type 0
  After t' a = NamedOf t.columns k (seen ++ (r ∷ [])) (length t.level.now) t'.level.now t'.low.now t'.high.now t'.count a

  abbrev Joins : TableMut → Fn t.columns → Option ℕ → Type 0
  Joins t' u a = JoinedOf t.columns t.count t.level.now t.low.now t.high.now t'.level.now t'.low.now t'.high.now u (cube_fn t.columns r.cube) t'.count a

  -- A set that the row does not join has the number that it had.
  unjoined : (t' : TableMut) {x : ℕ} (w : Rows.Part) → same_part (part k r.out) w ≡ false → Calls t' (set_of t.columns k w seen) x → Calls t' (set_of t.columns k w (seen ++ (r ∷ []))) x
  unjoined t' {x} w e = subst⁻¹ (λ g. Calls t' g x) (set_stays t.columns k w seen r e)

  -- A row that joins a set: what it names, and the set after it.
  module _ (w : Rows.Part) (e : part k r.out ≡ w) (d : same_part w none ≡ false) where
    abbrev f : Fn t.columns
    f = cube_fn t.columns r.cube

    abbrev g : Fn t.columns
    g = set_of t.columns k w seen

    grows : set_of t.columns k w (seen ++ (r ∷ [])) ≡ either t.columns g f
    grows = set_grows t.columns k w seen r (ap (λ u. same_part u w) e ∙ same-part w)

    names-all : named_after t.columns k [] (seen ++ (r ∷ [])) ≡ named_after t.columns k [] seen ++ (nodes t.columns f ++ nodes t.columns (either t.columns g f))
    names-all =
        one_more t.columns k [] seen r ∙
        ap (λ ts. named_after t.columns k [] seen ++ ts)
        (ap (named_by t.columns k (seen ++ (r ∷ [])) r) e ∙ meaning-names t.columns k (seen ++ (r ∷ [])) r w d ∙ ap (λ S. nodes t.columns f ++ nodes t.columns S) grows)

    -- All that is added, from the empty table on.
    adds-all : add_all (functions t.columns (table t) t.count) (nodes t.columns f ++ nodes t.columns (either t.columns g f)) ≡ add_all [] (named_after t.columns k [] (seen ++ (r ∷ [])))
    adds-all =
        ap (λ S. add_all S (nodes t.columns f ++ nodes t.columns (either t.columns g f))) q.adds ∙
        sym (add_all_append [] (named_after t.columns k [] seen) (nodes t.columns f ++ nodes t.columns (either t.columns g f))) ∙
        ap (add_all []) (sym names-all)

    -- The set's number x, and what joining the cube to it gives.
    module _ (x : ℕ) (m : Calls t g x) (t' : TableMut) where
      joins : (a : Option ℕ) → Joins t' (fn_of (table t) 0 t.columns x) a → Joins t' g a
      joins a = subst (λ F. Joins t' F a) m.means

      unnamed : Joins t' (fn_of (table t) 0 t.columns x) None → After t' None
      unfolding JoinedOf NamedOf
      unnamed j =
          let b = joins None j in (
            b.length-kept,
            record {
              sized = record { count = omega arith; low = b.sized.low; high = b.sized.high; room = b.sized.room };
              lacks = subst (λ S. length t.level.now < length S) adds-all b.lacks;
            },
          )

      module _ (z : ℕ) (j : Joins t' (fn_of (table t) 0 t.columns x) (Some z)) where
        done : Joined t.columns t.count t.level.now t.low.now t.high.now t'.level.now t'.low.now t'.high.now g f z t'.count
        unfolding JoinedOf
        done = joins (Some z) j

        joined-names : Calls t' (set_of t.columns k w (seen ++ (r ∷ []))) z
        joined-names = subst⁻¹ (λ F. Calls t' F z) grows done.names

        joined-adds : functions t.columns (table t') t'.count ≡ add_all [] (named_after t.columns k [] (seen ++ (r ∷ [])))
        joined-adds = done.run.adds ∙ adds-all

  -- A row of the on set.
  module _ (e : part k r.out ≡ on) (t' : TableMut) where
    on-named : (z : ℕ) → Joins t' (fn_of (table t) 0 t.columns s.on) (Some z) → After t' (Some (record { on = z; other = s.other }))
    unfolding NamedOf same_part
    on-named z j =
        let b = done on e refl s.on q.lower t' z j in (
          b.run.length-kept,
          record {
            sound = b.run.sound;
            lower = joined-names on e refl s.on q.lower t' z j;
            second = unjoined t' (other_part k) (ap (λ w. same_part w (other_part k)) e ∙ on_not_other k) (names_stay q.sound b.run q.second);
            adds = joined-adds on e refl s.on q.lower t' z j;
          },
        )

    on_unnamed : Joins t' (fn_of (table t) 0 t.columns s.on) None → After t' None
    unfolding same_part
    on_unnamed = unnamed on e refl s.on q.lower t'

  -- A row of the other set.
  module _ (e : part k r.out ≡ other_part k) (t' : TableMut) where
    other_named : (z : ℕ) → Joins t' (fn_of (table t) 0 t.columns s.other) (Some z) → After t' (Some (record { on = s.on; other = z }))
    unfolding NamedOf
    other_named z j =
        let b = done (other_part k) e (other_means k) s.other q.second t' z j in (
          b.run.length-kept,
          record {
            sound = b.run.sound;
            lower = unjoined t' on (ap (λ w. same_part w on) e ∙ other_not_on k) (names_stay q.sound b.run q.lower);
            second = joined-names (other_part k) e (other_means k) s.other q.second t' z j;
            adds = joined-adds (other_part k) e (other_means k) s.other q.second t' z j;
          },
        )

    other_unnamed : Joins t' (fn_of (table t) 0 t.columns s.other) None → After t' None
    other_unnamed = unnamed (other_part k) e (other_means k) s.other q.second t'

  -- A row without meaning.
  unread : part k r.out ≡ none → After t (Some s)
  unfolding NamedOf named_by same_part
  unread e = (
    refl,
    record {
      sound = q.sound;
      lower = unjoined t on (ap (λ w. same_part w on) e) q.lower;
      second = unjoined t (other_part k) (ap (λ w. same_part w (other_part k)) e ∙ none_not_other k) q.second;
      adds =
          q.adds ∙
          ap (add_all [])
          (sym (append-nil (named_after t.columns k [] seen)) ∙
          ap (λ w. named_after t.columns k [] seen ++ named_by t.columns k (seen ++ (r ∷ [])) r w) (sym e) ∙ sym (one_more t.columns k [] seen r));
    },
  )

-- Each way out of naming a row with a cube's number b and an output sign o, by the set that the code says it joins.
module _ (p : Operations) (k : Kind) (s : Sets) (b : ℕ) (o : Out) where
  -- What naming the row promises.
  abbrev RowPromise : Operations → Option Sets → Type 0
  RowPromise p' a =
      (seen : List Row) → NamedIn p (kind_of k) seen s → NamedAfterIn p p' (kind_of k) (seen ++ (row_of p.table.now.columns b o ∷ [])) a

  pub row_nothing : None ≡ part_for k o → RowPromise p (Some s)
  unfolding part_for row_of
  row_nothing e = λ seen q. unread p.table.now (kind_of k) s seen (row_of p.table.now.columns b o) q (by_nothing _ e)

  module _ (p' : Operations) where
    pub on_full : Some On ≡ part_for k o → JoinedIn p p' s.on b None → RowPromise p' None
    unfolding part_for row_of
    on_full e j = λ seen q. on_unnamed p.table.now (kind_of k) s seen (row_of p.table.now.columns b o) q (by_on _ e) p'.table.now j

    pub on-done : Some On ≡ part_for k o → (z : ℕ) → JoinedIn p p' s.on b (Some z) → RowPromise p' (Some (record { on = z; other = s.other }))
    unfolding part_for row_of
    on-done e z j = λ seen q. on-named p.table.now (kind_of k) s seen (row_of p.table.now.columns b o) q (by_on _ e) p'.table.now z j

    pub other_full : Some Other ≡ part_for k o → JoinedIn p p' s.other b None → RowPromise p' None
    unfolding part_for row_of
    other_full e j = λ seen q. other_unnamed p.table.now (kind_of k) s seen (row_of p.table.now.columns b o) q (by_other (kind_of k) (out_of o) e) p'.table.now j

    pub other_done : Some Other ≡ part_for k o → (z : ℕ) → JoinedIn p p' s.other b (Some z) → RowPromise p' (Some (record { on = s.on; other = z }))
    unfolding part_for row_of
    other_done e z j =
        λ seen q. other_named p.table.now (kind_of k) s seen (row_of p.table.now.columns b o) q (by_other (kind_of k) (out_of o) e) p'.table.now z j

-- The upper root: in f on, in fd on or don't care, in fr every point not off.
module _ (t : TableMut) (s : Sets) where
  abbrev Upper : Kind → TableMut → Option ℕ → Type 0
  Upper k t' a =
      (rows : List Row) → Named t.columns (kind_of k) rows t.level.now t.low.now t.high.now s.on s.other t.count → MadeIn t t' 0 t.columns (upper_of t.columns (kind_of k) rows) a

  -- What the operation of two numbers promises.
  abbrev Operated : Op → ℕ → ℕ → TableMut → Option ℕ → Type 0
  Operated op a b t' r = (m : ℕ) → 0 + m ≡ t.columns → MadeIn t t' 0 m (joined (op_of op) m (fn_of (table t) 0 m a) (fn_of (table t) 0 m b)) r

  pub upper-f : (k : Kind) → k ≡ F → Upper k t (Some s.on)
  unfolding MadeOf kind_of upper_of
  upper-f k e =
      subst⁻¹ (λ k. Upper k t (Some s.on)) e
      (λ rows q. built_in_use _ _ _ _ _ 0 _ _ s.on q.sound (omega arith) q.lower.number q.lower.means)

  pub upper-fd : (k : Kind) → k ≡ Fd → (t' : TableMut) (a : Option ℕ) → Operated Or s.on s.other t' a → Upper k t' a
  unfolding kind_of upper_of other_part op_of either
  upper-fd k e t' a p =
      subst⁻¹ (λ k. Upper k t' a) e
      (λ rows q. subst (λ F. MadeIn t t' 0 t.columns F a) (λ i. joined (op_of Or) t.columns (q.lower.means i) (q.second.means i)) (p t.columns (omega arith)))

  pub one_and_second : RootsIn t 0 s.on s.other → RootsIn t 0 1 s.other
  one_and_second p =
      record { sound = p.sound; column = p.column; first = constant-refers (table t) t.count 0 1 (lit< tt); second = p.second }

  pub upper-fr : (k : Kind) → k ≡ Fr → (t' : TableMut) (a : Option ℕ) → Operated Difference 1 s.other t' a → Upper k t' a
  unfolding kind_of upper_of other_part op_of less
  upper-fr k e t' a p =
      subst⁻¹ (λ k. Upper k t' a) e
      (λ rows q.
      subst (λ F. MadeIn t t' 0 t.columns F a) (λ i. joined (op_of Difference) t.columns (fn_one (table t) 0 t.columns i) (q.second.means i)) (p t.columns (omega arith)))
