-- `memo::store::Memo::remember` meets its contract: the stored entry is right, and the others stay.
use mathlib.Core.Path.{subst⁻¹}
use native.Mathlib.Omega.{arith}
use Prim.Native.Nat.{◌+◌, ◌*◌}
use lib.ListN.{set}
use Rattle.memo.specs.Memo.{entry_of, Holds}
use Rattle.memo.proofs.Entries.{key_below, entry_stored}
use Rattle.memo.proofs.store.Memo.remember.Goals as goal

pub overflow_mul-self : goal.overflow_mul-self
overflow_mul-self c = omega (arith, c.key_of.ensures, key_below c.args.op c.args.a c.args.b c.args.k c.ranges.a.fits c.ranges.b.fits c.requires)

pub overflow_add-self : goal.overflow_add-self
overflow_add-self c = omega (arith, c.key_of.ensures, key_below c.args.op c.args.a c.args.b c.args.k c.ranges.a.fits c.ranges.b.fits c.requires)

pub returns : goal.returns
unfolding entry_of
returns c =
    λ n r v l h q t.
    subst⁻¹ (λ e. Holds n r v l h (set c.args.self.now.entries c.place_of.result (e * 65536 + c.args.x))) c.key_of.ensures
    (entry_stored c.place_of.result c.args.op c.args.a c.args.b c.args.k c.args.x c.place_of.ensures c.ranges.a.fits c.ranges.b.fits c.requires c.ranges.x.fits q t)
