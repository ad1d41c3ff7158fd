-- `graph::table::TableRef::table_refusal` meets its contract: the tests stand in the order of the conditions, and the four of
-- the sizes are the parts of one.
use mathlib.Core.Path.{sym, ap, ◌∙◌}
use native.Mathlib.Omega.{arith}
use Rattle.rule.specs.Refusal.{refusal_of, passed}
use Rattle.graph.proofs.Refusals.{columns-broken, sizes_broken, records_broken, sound_unbroken}
use Rattle.graph.proofs.table.TableRef.table_refusal.Goals as goal
use Rattle.graph.proofs.table.TableRef.table_refusal.Goals.{then-self-size-via-then-self-size, then-self-size-via-else-self-size+then-self-size-2, then-self-size-via-else-self-size+else-self-size-2+then-size-gt4096, then-self-size-via-else-self-size+else-self-size-2+else-size-gt4096+then-size-self}

pub returns-then-self-gt16 : goal.returns-then-self-gt16
unfolding refusal_of
returns-then-self-gt16 c = sym (ap passed (columns-broken _ _ _ _ _ c.if-self-gt16.true))

pub returns-then-self-size : goal.returns-then-self-size
unfolding refusal_of
returns-then-self-size c =
    sym
    (ap passed
    (sizes_broken _ _ _ _ _ c.if-self-gt16.false
    (λ s.
    elim c.then-self-size.branch [
      | then-self-size-via-then-self-size w ↦ w.if-self-size.true s.low
      | then-self-size-via-else-self-size+then-self-size-2 w ↦ w.if-self-size-2.true s.high
      | then-self-size-via-else-self-size+else-self-size-2+then-size-gt4096 w ↦ omega (arith, s.room, w.if-size-gt4096.true)
      | then-self-size-via-else-self-size+else-self-size-2+else-size-gt4096+then-size-self w ↦ omega (arith, s.count, w.if-size-self.true)
    ])))

pub returns-then-not-good_table : goal.returns-then-not-good_table
unfolding refusal_of
returns-then-not-good_table c =
    sym
    (ap passed
    (records_broken _ _ _ _ _ c.if-self-gt16.false
    (record { count = c.if-size-self.false; low = c.if-self-size.false; high = c.if-self-size-2.false; room = c.if-size-gt4096.false })
    (sym c.good_table.ensures ∙ c.if-not-good_table.true)))

pub returns : goal.returns
returns c =
    sym
    (ap passed
    (sound_unbroken _ _ _ _ _
    (record {
      sized = record { count = c.if-size-self.false; low = c.if-self-size.false; high = c.if-self-size-2.false; room = c.if-size-gt4096.false };
      columns = c.if-self-gt16.false;
      good = sym c.good_table.ensures ∙ c.if-not-good_table.false;
    })))
