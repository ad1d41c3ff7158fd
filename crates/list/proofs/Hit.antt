-- A list found before: nothing is added to the table, since everything under the two roots is there; the copy is the list of
-- the rule with the literals of this path.
use mathlib.Core.Path.{◌≡◌, refl, sym, ap, ◌∙◌, subst}
use mathlib.Core.List.{List}
use Prim.Native.Nat.{ℕ, ◌+◌, ◌-◌, ◌*◌, ◌^◌, ◌<◌, ◌≤◌}
use native.Mathlib.Omega.{arith}
use lib.ListN.{length}
use lib.Seq.{sets}
use Rattle.std.specs.Prelude.{Option, Some}
use Rattle.rule.specs.Rule.{list_of}
use Rattle.graph.specs.Table.{fn_of}
use Rattle.graph.specs.Lent.{table}
use Rattle.graph.proofs.Building.{agree_itself}
use Rattle.listmemo.specs.Copy.{numbers_under}
use Rattle.listmemo.specs.Past.{Stands, Keeps, FoundOf}
use Rattle.listmemo.specs.declared.past.Entry.{Entry}
use Rattle.listmemo.specs.declared.past.Found.{Found}
use Rattle.listmemo.proofs.Writing.{under-length}
use Rattle.listmemo.proofs.Copying.{stands_copyable}
use Rattle.list.specs.Generating.{ListedOf, MemosIn, CopyableIn, CopiedIn}
use Rattle.list.specs.declared.generator.Generator.{Generator}
use Rattle.list.specs.declared.generator.Path.{Path}
use Rattle.list.proofs.Remembering.{memos_written}
use Rattle.list.proofs.Calls.{Asked, ListPromise, same_listed, same_memos}

-- What the memo of lists answers.
abbrev pub FindGives : List Entry → ℕ → ℕ → ℕ → Option Found → Type 0
FindGives past a b k r = (n : ℕ) (c : ℕ) (v : List ℕ) (l : List ℕ) (h : List ℕ) (room : List ℕ) (at : ℕ) → Keeps n c v l h room at past → FoundOf n c v l h room at a b k r

-- What looking a list up asks is a column that fits a key; and the memo has its 512 entries.
pub find_asks : (g : Generator) (p : Path) {a : ℕ} {b : ℕ} → Asked g p a b → (length g.past.entries ≡ 512) × (p.k < 64)
find_asks g p q = (q.memos.lists.long, omega (arith, q.roots.roots.column, q.roots.roots.sound.columns))

module _ (g : Generator) (p : Path) {a : ℕ} {b : ℕ} (f : Found) (q : Asked g p a b) (e : FindGives g.past.entries a b p.k (Some f)) where
  found : (let t = g.operations.now.table.now in Stands t.columns t.count t.level.now t.low.now t.high.now g.room.now g.at a b p.k f.cover f.from f.size f.literals)
  unfolding FoundOf
  found =
      let t = g.operations.now.table.now in
      e t.columns t.count t.level.now t.low.now t.high.now g.room.now g.at q.memos.lists

  pub copy_asks : CopyableIn g f p.chosen
  copy_asks =
      let r = q.roots in
      stands_copyable p.chosen found r.roots.column r.roots.sound.columns (subst (λ y. p.chosen + 65536 ≤ 65536 * y) r.weight r.literals) r.place

  module _ (g' : Generator) (d : CopiedIn g f p.chosen g') where
    copied : (m : ℕ) → p.k + m ≡ g.operations.now.table.now.columns → (let t = g.operations.now.table.now in
        g'.room.now ≡ sets g.room.now g.at (numbers_under p.chosen (2 ^ p.k) (list_of m (fn_of (table t) p.k m a) (fn_of (table t) p.k m b))))
    copied m s = d.room (2 ^ p.k) _ (sym (found.list m s).long) (found.list m s).copy

    pub hit_listed : ListPromise g p a b g' (Some f.cover)
    unfolding ListedOf
    hit_listed =
        let t = g.operations.now.table.now in
        same_listed g g' d.operations p a b (Some f.cover) d.place
        (λ m s.
        let w = found.list m s in
        record {
          run = record { sound = q.roots.roots.sound; length-kept = refl; more = omega arith; kept = agree_itself (table t) t.count; adds = sym w.there };
          cover = w.cover;
          written = copied m s ∙ ap (λ y. sets g.room.now g.at (numbers_under p.chosen y (list_of m (fn_of (table t) p.k m a) (fn_of (table t) p.k m b)))) (sym q.roots.weight);
          place = ap (λ i. g.at + i) w.long;
        })

    pub hit_memos : MemosIn g'
    hit_memos =
        let m : ℕ = g.operations.now.table.now.columns - p.k in
        let s : p.k + m ≡ g.operations.now.table.now.columns = omega (arith, q.roots.roots.column) in
        same_memos g g' d.operations d.past d.place
        (memos_written q.roots.roots.sound q.memos _ (copied m s) (ap (λ i. g.at + i) ((found.list m s).long ∙ sym (under-length p.chosen (2 ^ p.k) _))))
