-- `Generator::generate_at` and `Generator::expand` meet their contracts: each call and each way out is a law of `Lists`,
-- `Generated` or `Hit`.
use mathlib.Core.Path.{ap}
use native.Mathlib.Omega.{arith}
use Rattle.list.specs.Generating.{MemosAfter}
use Rattle.list.proofs.Calls.{done_memos}
use Rattle.list.proofs.Lists.{kept_full, after_keep, keep_memos, a_asks, a_full, after_list_a, b_asks, b_full, after_list_b, rest_asks, left_full, after_left, left_memos, c_asks, c_full, lists-done}
use Rattle.list.proofs.Hit.{find_asks, copy_asks, hit_listed, hit_memos}
use Rattle.list.proofs.Generated.{none-listed, put_asks, one_listed, one_memos, expands, three_full, join_asks, cover_full, list_place, keep_asks, list-listed, three_memos, list-memos}
use Rattle.list.proofs.generator.Generator.+expand_generate_at.Goals as goal

pub expand-returns-in_err-kept-clause-lists : goal.expand-returns-in_err-kept-clause-lists
expand-returns-in_err-kept-clause-lists t c = kept_full c.args.self.now c.args.path _ _ c.keep.new.operations c.from_residual.ensures c.in_err-kept.ensures.kept

pub expand-generate_at-requires : goal.expand-generate_at-requires
expand-generate_at-requires t c =
    let k = after_keep c.args.self.now c.args.path _ _ c.keep.new.operations c.requires.roots c.in_ok-kept.ensures.same.slices.columns c.in_ok-kept.ensures.kept in
    (omega (arith, c.decreases, k.asked.column, ap (λ p. p.k) c.next.ensures, k.columns), (a_asks k c.next.ensures, keep_memos c.args.self.now c.args.path _ _ c.in_ok-kept.kept c.requires c.in_ok-kept.ensures))

pub expand-returns-in_err-g0-clause-lists : goal.expand-returns-in_err-g0-clause-lists
expand-returns-in_err-g0-clause-lists t c =
    let k = after_keep c.args.self.now c.args.path _ _ c.keep.new.operations c.requires.roots c.in_ok-kept.ensures.same.slices.columns c.in_ok-kept.ensures.kept in
    a_full k c.next.ensures c.generate_at.new.self c.from_residual-in_err-g0.ensures c.in_err-g0.ensures.list

pub expand-generate_at-requires-2 : goal.expand-generate_at-requires-2
expand-generate_at-requires-2 t c =
    let k = after_keep c.args.self.now c.args.path _ _ c.keep.new.operations c.requires.roots c.in_ok-kept.ensures.same.slices.columns c.in_ok-kept.ensures.kept in
    let a = after_list_a k c.next.ensures c.generate_at.new.self c.in_ok-g0.ensures.same.table.slices.columns c.in_ok-g0.ensures.list in
    (omega (arith, c.decreases, k.asked.column, ap (λ p. p.k) c.next-2.ensures, a.columns), (b_asks a c.next-2.ensures, done_memos c.generate_at.new.self c.in_ok-g0.g0 c.in_ok-g0.ensures.memos))

pub expand-returns-in_err-g1-clause-lists : goal.expand-returns-in_err-g1-clause-lists
expand-returns-in_err-g1-clause-lists t c =
    let k = after_keep c.args.self.now c.args.path _ _ c.keep.new.operations c.requires.roots c.in_ok-kept.ensures.same.slices.columns c.in_ok-kept.ensures.kept in
    let a = after_list_a k c.next.ensures c.generate_at.new.self c.in_ok-g0.ensures.same.table.slices.columns c.in_ok-g0.ensures.list in
    b_full a c.next-2.ensures c.generate_at-2.new.self c.from_residual-in_err-g1.ensures c.in_err-g1.ensures.list

pub expand-rest-requires-clause-roots : goal.expand-rest-requires-clause-roots
expand-rest-requires-clause-roots t c =
    let k = after_keep c.args.self.now c.args.path _ _ c.keep.new.operations c.requires.roots c.in_ok-kept.ensures.same.slices.columns c.in_ok-kept.ensures.kept in
    let a = after_list_a k c.next.ensures c.generate_at.new.self c.in_ok-g0.ensures.same.table.slices.columns c.in_ok-g0.ensures.list in
    rest_asks (after_list_b a c.next-2.ensures c.generate_at-2.new.self c.in_ok-g1.ensures.same.table.slices.columns c.in_ok-g1.ensures.list)

pub expand-returns-in_err-r-clause-lists : goal.expand-returns-in_err-r-clause-lists
expand-returns-in_err-r-clause-lists t c =
    let k = after_keep c.args.self.now c.args.path _ _ c.keep.new.operations c.requires.roots c.in_ok-kept.ensures.same.slices.columns c.in_ok-kept.ensures.kept in
    let a = after_list_a k c.next.ensures c.generate_at.new.self c.in_ok-g0.ensures.same.table.slices.columns c.in_ok-g0.ensures.list in
    let b = after_list_b a c.next-2.ensures c.generate_at-2.new.self c.in_ok-g1.ensures.same.table.slices.columns c.in_ok-g1.ensures.list in
    left_full b c.rest.new.operations c.from_residual-in_err-r.ensures c.in_err-r.ensures.left

pub expand-generate_at-requires-3 : goal.expand-generate_at-requires-3
expand-generate_at-requires-3 t c =
    let k = after_keep c.args.self.now c.args.path _ _ c.keep.new.operations c.requires.roots c.in_ok-kept.ensures.same.slices.columns c.in_ok-kept.ensures.kept in
    let a = after_list_a k c.next.ensures c.generate_at.new.self c.in_ok-g0.ensures.same.table.slices.columns c.in_ok-g0.ensures.list in
    let b = after_list_b a c.next-2.ensures c.generate_at-2.new.self c.in_ok-g1.ensures.same.table.slices.columns c.in_ok-g1.ensures.list in
    let r = after_left b c.rest.new.operations c.in_ok-r.ensures.same.slices.columns c.in_ok-r.ensures.left in
    (omega (arith, c.decreases, k.asked.column, ap (λ p. p.k) c.next-3.ensures, r.columns), (c_asks r c.next-3.ensures, left_memos b c.in_ok-r.r c.in_ok-r.top (done_memos c.generate_at-2.new.self c.in_ok-g1.g1 c.in_ok-g1.ensures.memos) c.in_ok-r.ensures))

pub expand-returns-in_err-gs-clause-lists : goal.expand-returns-in_err-gs-clause-lists
expand-returns-in_err-gs-clause-lists t c =
    let k = after_keep c.args.self.now c.args.path _ _ c.keep.new.operations c.requires.roots c.in_ok-kept.ensures.same.slices.columns c.in_ok-kept.ensures.kept in
    let a = after_list_a k c.next.ensures c.generate_at.new.self c.in_ok-g0.ensures.same.table.slices.columns c.in_ok-g0.ensures.list in
    let b = after_list_b a c.next-2.ensures c.generate_at-2.new.self c.in_ok-g1.ensures.same.table.slices.columns c.in_ok-g1.ensures.list in
    c_full (after_left b c.rest.new.operations c.in_ok-r.ensures.same.slices.columns c.in_ok-r.ensures.left) c.next-3.ensures c.generate_at-3.new.self c.from_residual-in_err-gs.ensures c.in_err-gs.ensures.list

pub expand-returns-clause-lists : goal.expand-returns-clause-lists
expand-returns-clause-lists t c =
    let k = after_keep c.args.self.now c.args.path _ _ c.keep.new.operations c.requires.roots c.in_ok-kept.ensures.same.slices.columns c.in_ok-kept.ensures.kept in
    let a = after_list_a k c.next.ensures c.generate_at.new.self c.in_ok-g0.ensures.same.table.slices.columns c.in_ok-g0.ensures.list in
    let b = after_list_b a c.next-2.ensures c.generate_at-2.new.self c.in_ok-g1.ensures.same.table.slices.columns c.in_ok-g1.ensures.list in
    lists-done (after_left b c.rest.new.operations c.in_ok-r.ensures.same.slices.columns c.in_ok-r.ensures.left) c.next-3.ensures c.generate_at-3.new.self c.in_ok-gs.gs c.in_ok-gs.ensures.list

pub generate_at-returns-then-l-eq0-clause-list : goal.generate_at-returns-then-l-eq0-clause-list
generate_at-returns-then-l-eq0-clause-list t c = none-listed c.args.self.now c.args.path c.requires.roots c.if-l-eq0.true

pub generate_at-put-requires : goal.generate_at-put-requires
generate_at-put-requires t c = put_asks c.args.self.now c.args.path c.requires.roots

pub generate_at-returns-then-u-eq1-clause-list : goal.generate_at-returns-then-u-eq1-clause-list
generate_at-returns-then-u-eq1-clause-list t c = one_listed c.args.self.now c.args.path c.requires.roots c.put.ensures.put c.if-l-eq0.false c.if-u-eq1.true

pub generate_at-returns-then-u-eq1-clause-memos : goal.generate_at-returns-then-u-eq1-clause-memos
unfolding MemosAfter
generate_at-returns-then-u-eq1-clause-memos t c = one_memos c.args.self.now c.args.path c.requires.roots c.put.ensures.put c.requires.memos

pub generate_at-find-requires : goal.generate_at-find-requires
generate_at-find-requires t c = (find_asks c.args.self.now c.args.path c.requires).1

pub generate_at-copy-requires : goal.generate_at-copy-requires
generate_at-copy-requires t c = copy_asks c.args.self.now c.args.path c.in-Some.found c.requires c.in-Some.ensures

pub generate_at-returns-in-Some-clause-list : goal.generate_at-returns-in-Some-clause-list
generate_at-returns-in-Some-clause-list t c = hit_listed c.args.self.now c.args.path c.in-Some.found c.requires c.in-Some.ensures c.copy.new.self c.copy.ensures.copied

pub generate_at-returns-in-Some-clause-memos : goal.generate_at-returns-in-Some-clause-memos
unfolding MemosAfter
generate_at-returns-in-Some-clause-memos t c = hit_memos c.args.self.now c.args.path c.in-Some.found c.requires c.in-Some.ensures c.copy.new.self c.copy.ensures.copied

pub generate_at-expand-requires : goal.generate_at-expand-requires
generate_at-expand-requires t c =
    (omega (arith, c.decreases), (expands c.args.self.now c.args.path c.requires.roots c.if-l-eq0.false c.if-u-eq1.false, c.requires.memos))

pub generate_at-returns-in_err-covers-clause-list : goal.generate_at-returns-in_err-covers-clause-list
generate_at-returns-in_err-covers-clause-list t c = three_full c.args.self.now c.args.path c.requires.roots c.if-l-eq0.false c.if-u-eq1.false c.expand.new.self c.from_residual.ensures c.in_err-covers.ensures.lists

pub generate_at-join-requires-clause-roots : goal.generate_at-join-requires-clause-roots
generate_at-join-requires-clause-roots t c = join_asks c.args.self.now c.args.path c.requires.roots c.if-l-eq0.false c.if-u-eq1.false c.expand.new.self c.in_ok-covers.covers c.in_ok-covers.ensures.same.table.slices.columns c.in_ok-covers.ensures.lists

pub generate_at-returns-in_err-cover-clause-list : goal.generate_at-returns-in_err-cover-clause-list
generate_at-returns-in_err-cover-clause-list t c = cover_full c.args.self.now c.args.path c.requires.roots c.if-l-eq0.false c.if-u-eq1.false c.expand.new.self c.in_ok-covers.covers c.in_ok-covers.ensures.same.table.slices.columns c.in_ok-covers.ensures.lists c.join.new.operations c.from_residual-in_err-cover.ensures c.in_err-cover.ensures.made

pub generate_at-overflow_sub-found : goal.generate_at-overflow_sub-found
generate_at-overflow_sub-found t c = list_place c.args.self.now c.args.path c.requires.roots c.if-l-eq0.false c.if-u-eq1.false c.expand.new.self c.in_ok-covers.covers c.in_ok-covers.ensures.same.table.slices.columns c.in_ok-covers.ensures.lists c.join.new.operations c.in_ok-cover.cover c.in_ok-cover.ensures.made

pub generate_at-overflow_cast-found : goal.generate_at-overflow_cast-found
generate_at-overflow_cast-found t c = omega (arith, (keep_asks c.args.self.now c.args.path c.requires.roots c.if-l-eq0.false c.if-u-eq1.false c.expand.new.self c.in_ok-covers.covers c.in_ok-covers.ensures.same.table.slices.columns c.in_ok-covers.ensures.lists c.join.new.operations c.in_ok-cover.cover c.in_ok-cover.ensures.made).1)

pub generate_at-overflow_cast-found-2 : goal.generate_at-overflow_cast-found-2
generate_at-overflow_cast-found-2 t c = omega (arith, (keep_asks c.args.self.now c.args.path c.requires.roots c.if-l-eq0.false c.if-u-eq1.false c.expand.new.self c.in_ok-covers.covers c.in_ok-covers.ensures.same.table.slices.columns c.in_ok-covers.ensures.lists c.join.new.operations c.in_ok-cover.cover c.in_ok-cover.ensures.made).2)

pub generate_at-keep-requires : goal.generate_at-keep-requires
generate_at-keep-requires t c = (keep_asks c.args.self.now c.args.path c.requires.roots c.if-l-eq0.false c.if-u-eq1.false c.expand.new.self c.in_ok-covers.covers c.in_ok-covers.ensures.same.table.slices.columns c.in_ok-covers.ensures.lists c.join.new.operations c.in_ok-cover.cover c.in_ok-cover.ensures.made).0

pub generate_at-returns-clause-list : goal.generate_at-returns-clause-list
generate_at-returns-clause-list t c = list-listed c.args.self.now c.args.path c.requires.roots c.if-l-eq0.false c.if-u-eq1.false c.expand.new.self c.in_ok-covers.covers c.in_ok-covers.ensures.same.table.slices.columns c.in_ok-covers.ensures.lists c.join.new.operations c.in_ok-cover.cover c.in_ok-cover.ensures.made

pub generate_at-returns-clause-memos : goal.generate_at-returns-clause-memos
unfolding MemosAfter
generate_at-returns-clause-memos t c =
    list-memos c.args.self.now c.args.path c.requires.roots c.if-l-eq0.false c.if-u-eq1.false c.expand.new.self c.in_ok-covers.covers c.in_ok-covers.ensures.same.table.slices.columns c.in_ok-covers.ensures.lists c.join.new.operations c.in_ok-cover.cover c.in_ok-cover.ensures.made
    (three_memos c.args.self.now c.args.path c.requires.roots c.if-l-eq0.false c.if-u-eq1.false c.in_ok-covers.covers c.in_ok-covers.ensures)
    c.in_ok-cover.ensures.same.slices.columns
    c.in_ok-cover.ensures.memo
    c.keep.ensures
