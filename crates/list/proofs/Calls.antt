-- What the calls of the generator promise of its state, and the same of the functions that the numbers name, over the columns
-- that the step counts.
use mathlib.Core.Path.{◌≡◌, refl, sym, ◌∙◌, transport}
use Prim.Native.Nat.{ℕ, suc, ◌+◌}
use Rattle.std.specs.Prelude.{Option, Some}
use Rattle.rule.specs.Func.{Fn}
use Rattle.graph.specs.Table.{fn_of}
use Rattle.graph.specs.Lent.{table, MadeIn}
use Rattle.graph.specs.Run.{Names}
use Rattle.memo.specs.Memo.{SameTable, HoldsAfterIn}
use Rattle.memo.specs.declared.build.Operations.{Operations}
use Rattle.steps.specs.Step.{KeptIn, RestOf, RestIn, joined_covers}
use Rattle.steps.specs.declared.step.Kept.{Kept}
use Rattle.steps.specs.declared.step.Covers.{Covers}
use Rattle.list.specs.Generating.{SameRooms, Listable, ListedOf, Memos, ListableIn, ExpandableIn, MemosIn, MemosAfterIn, ListsIn, ListedIn}
use Rattle.list.specs.declared.generator.Generator.{Generator}
use Rattle.list.specs.declared.generator.Path.{Path}
use Rattle.list.proofs.Remembering.{list_memos}

-- A generator with other operations.
abbrev pub with_operations : Generator → Operations → Generator
with_operations g o = record { operations = record { ref_ptr = g.operations.ref_ptr; ghost_name = g.operations.ghost_name; now = o }; past = g.past; room = g.room; at = g.at }

abbrev pub columns_of : Generator → ℕ
columns_of g = g.operations.now.table.now.columns

abbrev pub NamesIn : Generator → ℕ → (m : ℕ) → Fn m → ℕ → Type 0
NamesIn g k m f x =
    let t = g.operations.now.table.now in
    Names t.level.now t.low.now t.high.now t.count k m f x

-- What each call promises.
abbrev pub KeepPromise : Operations → Path → ℕ → ℕ → Operations → Option Kept → Type 0
KeepPromise o p a b o' r = (m : ℕ) → p.k + suc m ≡ o.table.now.columns → KeptIn o o' p.k m a b r

abbrev pub RestPromise : Operations → Path → Kept → ℕ → ℕ → Operations → Option (ℕ × ℕ) → Type 0
RestPromise o p q g0 g1 o' r = (m : ℕ) → (p.k + 1) + m ≡ o.table.now.columns → RestIn o o' (p.k + 1) m q g0 g1 r

abbrev pub JoinPromise : Operations → Path → Covers → Operations → Option ℕ → Type 0
JoinPromise o p g o' r = (m : ℕ) → p.k + suc m ≡ o.table.now.columns → MadeIn o.table.now o'.table.now p.k (suc m) (joined_covers o p.k m g) r

abbrev pub ListPromise : Generator → Path → ℕ → ℕ → Generator → Option ℕ → Type 0
ListPromise g p a b g' r = (m : ℕ) → p.k + m ≡ columns_of g → ListedIn g g' p m a b r

abbrev pub ListsPromise : Generator → Path → ℕ → ℕ → Generator → Option Covers → Type 0
ListsPromise g p a b g' r = (m : ℕ) → p.k + suc m ≡ columns_of g → ListsIn g g' p m a b r

-- What a function of the generator asks, and what each call ensures, clause by clause, where the memos count too.
abbrev pub Asked : Generator → Path → ℕ → ℕ → Type 0
Asked g p a b = record { roots : ListableIn g p a b; memos : MemosIn g }

abbrev pub StepAsked : Generator → Path → ℕ → ℕ → Type 0
StepAsked g p a b = record { roots : ExpandableIn g p a b; memos : MemosIn g }

abbrev pub KeepGives : Operations → Path → ℕ → ℕ → Operations → Option Kept → Type 0
KeepGives o p a b o' r = record { same : SameTable o o'; kept : KeepPromise o p a b o' r; memo : HoldsAfterIn o' r }

abbrev pub RestGives : Operations → Path → Kept → ℕ → ℕ → Operations → Option (ℕ × ℕ) → Type 0
RestGives o p q g0 g1 o' r = record { same : SameTable o o'; left : RestPromise o p q g0 g1 o' r; memo : HoldsAfterIn {A = ℕ × ℕ} o' r }

abbrev pub JoinGives : Operations → Path → Covers → Operations → Option ℕ → Type 0
JoinGives o p g o' r = record { same : SameTable o o'; made : JoinPromise o p g o' r; memo : HoldsAfterIn o' r }

abbrev pub ListsGive : Generator → Path → ℕ → ℕ → Generator → Option Covers → Type 0
ListsGive g p a b g' r = record { same : SameRooms g g'; lists : ListsPromise g p a b g' r; memos : MemosAfterIn g' r }

-- The memos after a call that is done.
pub done_memos : {A : Type 0} (g : Generator) (x : A) → MemosAfterIn g (Some x) → MemosIn g
done_memos g x w =
    let t = g.operations.now.table.now in
    list_memos t.columns t.count t.level.now t.low.now t.high.now g.room.now g.at g.operations.now.memo.entries g.past.entries refl w

-- What a list of two named numbers asks, and that it is the list of what they name.
module _ (g : Generator) {n : ℕ} {p : Path} {q : Path} (c : columns_of g ≡ n) (e : p ≡ q) where
  pub asks_at : {x : ℕ} {y : ℕ} → (let t = g.operations.now.table.now in Listable n t.count t.level.now t.low.now t.high.now g.at q.chosen q.weight q.k x y) → ListableIn g p x y
  asks_at {x} {y} s =
      let t = g.operations.now.table.now in
      transport (λ i. Listable (sym c i) t.count t.level.now t.low.now t.high.now g.at (sym e i).chosen (sym e i).weight (sym e i).k x y) s

  pub listed_as : (g' : Generator) (m : ℕ) {f : Fn m} {d : Fn m} {x : ℕ} {y : ℕ} (r : Option ℕ) → q.k + m ≡ n → NamesIn g q.k m f x → NamesIn g q.k m d y → ListPromise g p x y g' r →
      (let t = g.operations.now.table.now in
      let t' = g'.operations.now.table.now in
      ListedOf n t.count t.level.now t.low.now t.high.now t'.level.now t'.low.now t'.high.now g.room.now g'.room.now g.at q.chosen q.weight q.k m f d t'.count g'.at r)
  listed_as g' m {x = x} {y = y} r s u w h =
      let t = g.operations.now.table.now in
      let t' = g'.operations.now.table.now in
      transport (λ i. ListedOf n t.count t.level.now t.low.now t.high.now t'.level.now t'.low.now t'.high.now g.room.now g'.room.now g.at q.chosen q.weight q.k m (u.means i) (w.means i) t'.count g'.at r)
      (transport (λ i. ListedOf (c i) t.count t.level.now t.low.now t.high.now t'.level.now t'.low.now t'.high.now g.room.now g'.room.now g.at (e i).chosen (e i).weight (e i).k m (fn_of (table t) (e i).k m x) (fn_of (table t) (e i).k m y) t'.count g'.at r)
      (h m ((λ i. (e i).k + m) ∙ s ∙ sym c)))

-- What `rest` promises, of the functions that its numbers name.
pub rest_as : (g : Generator) (o : Operations) {n : ℕ} (p : Path) (q : Kept) {g0 : ℕ} {g1 : ℕ} (r : Option (ℕ × ℕ)) (m : ℕ) {f0 : Fn m} {e0 : Fn m} {f1 : Fn m} {e1 : Fn m} {w0 : Fn m} {w1 : Fn m} → columns_of g ≡ n → (p.k + 1) + m ≡ n →
    NamesIn g (p.k + 1) m f0 q.l0 → NamesIn g (p.k + 1) m e0 g0 → NamesIn g (p.k + 1) m f1 q.l1 → NamesIn g (p.k + 1) m e1 g1 → NamesIn g (p.k + 1) m w0 q.u0 → NamesIn g (p.k + 1) m w1 q.u1 → RestPromise g.operations.now p q g0 g1 o r →
    (let t = g.operations.now.table.now in
    RestOf n t.count t.level.now t.low.now t.high.now o.table.now.level.now o.table.now.low.now o.table.now.high.now (p.k + 1) m f0 e0 f1 e1 w0 w1 o.table.now.count r)
rest_as g o p q r m c s a b d e f h t =
    let u = g.operations.now.table.now in
    transport (λ i. RestOf (c i) u.count u.level.now u.low.now u.high.now o.table.now.level.now o.table.now.low.now o.table.now.high.now (p.k + 1) m (a.means i) (b.means i) (d.means i) (e.means i) (f.means i) (h.means i) o.table.now.count r)
    (t m (s ∙ sym c))

-- The same of a generator whose operations are what they were.
module _ (g : Generator) (g' : Generator) (e : g'.operations.now ≡ g.operations.now) where
  pub same_listed : (p : Path) (a : ℕ) (b : ℕ) (r : Option ℕ) {x : ℕ} → g'.at ≡ x →
      (let t = g.operations.now.table.now in
      (m : ℕ) → p.k + m ≡ t.columns → ListedOf t.columns t.count t.level.now t.low.now t.high.now t.level.now t.low.now t.high.now g.room.now g'.room.now g.at p.chosen p.weight p.k m (fn_of (table t) p.k m a) (fn_of (table t) p.k m b) t.count x r) →
      ListPromise g p a b g' r
  same_listed p a b r d h m i =
      let t = g.operations.now.table.now in
      transport (λ j. ListedOf t.columns t.count t.level.now t.low.now t.high.now (sym e j).table.now.level.now (sym e j).table.now.low.now (sym e j).table.now.high.now g.room.now g'.room.now g.at p.chosen p.weight p.k m (fn_of (table t) p.k m a) (fn_of (table t) p.k m b) (sym e j).table.now.count (sym d j) r)
      (h m i)

  pub same_memos : {x : ℕ} → g'.past ≡ g.past → g'.at ≡ x →
      (let t = g.operations.now.table.now in
      Memos t.columns t.count t.level.now t.low.now t.high.now g'.room.now x g.operations.now.memo.entries g.past.entries) →
      MemosIn g'
  same_memos q d h =
      transport
      (λ j.
      let o = sym e j in
      Memos o.table.now.columns o.table.now.count o.table.now.level.now o.table.now.low.now o.table.now.high.now g'.room.now (sym d j) o.memo.entries (sym q j).entries)
      h
