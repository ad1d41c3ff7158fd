-- `words::word::cube_word` meets its contract: the sign of the first column says which halves of the word hold the word of
-- the later columns; before the last six columns it says nothing. The measure is the columns left.
use Prim.Native.Nat.{ℕ, ◌-◌, ◌<◌}
use native.Mathlib.Omega.{arith}
use mathlib.Core.Path.{◌≡◌, sym, ap, ap₂, ◌∙◌}
use Rattle.rule.specs.Cube.{cube_fn}
use Rattle.rule.specs.Point.{bit}
use Rattle.words.specs.Word.{num, leaf}
use Rattle.words.proofs.Halving.{word-beyond, word_by_one, word_by_zero, word_by_dash, word_fits}
use Rattle.words.proofs.word.+cube_word.Goals as goal

no_column : (m o z : ℕ) → m ≡ 0 → 1 ≡ leaf m o z
unfolding leaf num cube_fn bit
no_column m o z e = sym (ap (λ k. leaf k o z) e)

rest-leaf : (m : ℕ) {r o z o' z' : ℕ} → r ≡ leaf m o' z' → o' ≡ o → z' ≡ z → r ≡ leaf m o z
rest-leaf m e a b = e ∙ ap₂ (leaf m) a b

pub returns-then-columns-eq0 : goal.returns-then-columns-eq0
returns-then-columns-eq0 t c = no_column c.args.columns c.args.cube.ones c.args.cube.zeros c.if-columns-eq0.true

pub returns-then-columns-gt6 : goal.returns-then-columns-gt6
returns-then-columns-gt6 t c =
    let a = c.args in
    word-beyond a.columns a.cube.ones a.cube.zeros c.cube_word-rest.result 0 (omega arith) c.if-columns-gt6.true (rest-leaf (a.columns - 1) c.cube_word-rest.ensures c.rest.ensures.ones c.rest.ensures.zeros)

pub overflow_mul-result : goal.overflow_mul-result
overflow_mul-result t c =
    let a = c.args in
    let k = c.cube_word-rest in
    let l : 0 < a.columns = omega arith in
    omega (arith, word_fits a.columns a.cube.ones a.cube.zeros k.result c.side.result l c.if-columns-gt6.false (rest-leaf (a.columns - 1) k.ensures c.rest.ensures.ones c.rest.ensures.zeros) c.side.ensures)

pub returns-then-first_is_one : goal.returns-then-first_is_one
returns-then-first_is_one t c =
    let a = c.args in
    let k = c.cube_word-rest in
    word_by_one a.columns a.cube.ones a.cube.zeros k.result c.side.result (omega arith) c.if-columns-gt6.false (rest-leaf (a.columns - 1) k.ensures c.rest.ensures.ones c.rest.ensures.zeros) c.side.ensures (sym c.first_is_one.ensures ∙ c.if-first_is_one.true)

pub returns-then-first_is_zero : goal.returns-then-first_is_zero
returns-then-first_is_zero t c =
    let a = c.args in
    let k = c.cube_word-rest in
    word_by_zero a.columns a.cube.ones a.cube.zeros k.result (omega arith) c.if-columns-gt6.false (rest-leaf (a.columns - 1) k.ensures c.rest.ensures.ones c.rest.ensures.zeros) (sym c.first_is_one.ensures ∙ c.if-first_is_one.false) (sym c.first_is_zero.ensures ∙ c.if-first_is_zero.true)

pub overflow_mul-result-2 : goal.overflow_mul-result-2
overflow_mul-result-2 t c =
    let a = c.args in
    let k = c.cube_word-rest in
    let l : 0 < a.columns = omega arith in
    omega (arith, word_fits a.columns a.cube.ones a.cube.zeros k.result c.side-2.result l c.if-columns-gt6.false (rest-leaf (a.columns - 1) k.ensures c.rest.ensures.ones c.rest.ensures.zeros) c.side-2.ensures)

pub overflow_add-result : goal.overflow_add-result
overflow_add-result t c =
    let a = c.args in
    let k = c.cube_word-rest in
    let l : 0 < a.columns = omega arith in
    omega (arith, word_fits a.columns a.cube.ones a.cube.zeros k.result c.side-2.result l c.if-columns-gt6.false (rest-leaf (a.columns - 1) k.ensures c.rest.ensures.ones c.rest.ensures.zeros) c.side-2.ensures)

pub returns : goal.returns
returns t c =
    let a = c.args in
    let k = c.cube_word-rest in
    word_by_dash a.columns a.cube.ones a.cube.zeros k.result c.side-2.result (omega arith) c.if-columns-gt6.false (rest-leaf (a.columns - 1) k.ensures c.rest.ensures.ones c.rest.ensures.zeros) c.side-2.ensures (sym c.first_is_one.ensures ∙ c.if-first_is_one.false) (sym c.first_is_zero.ensures ∙ c.if-first_is_zero.false)
