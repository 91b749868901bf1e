use Rattle.std.proofs.Common.{◌≡◌, ℕ, ◌+◌, ◌*◌, ◌/◌, ◌%◌, ◌<◌, ◌≤◌, ◌⊎◌, inl, inr, length, IfSome, Some, slice_get, sym, ap, ◌∙◌, subst, arith}
use Rattle.std.proofs.Math.Nat.{mod-lt, div-lt_iff_lt-mul}
use Rattle.std.proofs.lemmas.Nat.{div-add-mod'}
use Rattle.std.proofs.lemmas.List.{length-map}
use Rattle.rbg_game.specs.Rules.{count}
use Rattle.rbg_game.specs.Meaning.{game_of, vertex_of}
use Rattle.legal_moves.specs.Jumps.{IsRow}
use Rattle.legal_moves.specs.lemmas.Configurations.{expression_at}
use Rattle.legal_moves.specs.declared.automaton.jumps.JumpRow.{JumpRow}
use Rattle.legal_moves.proofs.GetLemmas.{slice_get-push}
use Rattle.legal_moves.proofs.searches.LookLemmas.{mark_tells}
use Rattle.legal_moves.proofs.automata.ReadyLemmas.{read_at, count_steps}
use Rattle.legal_moves.proofs.searches.FoundLemmas.{count_whole}
use Rattle.legal_moves.proofs.searches.NarrowLemmas.{le_mul}
use Rattle.legal_moves.proofs.automaton.jumps.rows_of.Goals as goal

pub overflow_mul-at-end : goal.overflow_mul-at-end
overflow_mul-at-end c =
    let game = game_of c.args.game.now in
    let tables = c.args.tables.now in
    let index = c.args.index in
    let e = expression_at game index in
    let own = c.args.game.now in
    let T = c.index-tables-index.result in
    let at_T = read_at tables index T c.requires.ready.within c.index-tables-index.is in
    let m = c.len-vertices.result in
    let m_is : m ≡ length game.vertices = omega (arith, c.len-vertices.ensures, length-map own.vertices.items vertex_of, own.vertices.ok.0) in
    let few : c.len.result + 1 ≤ 4097 = omega (arith, c.len.ensures, count_steps game tables index c.requires.ready T at_T, T.steps.ok.0, count_whole e, c.requires.ready.small) in
    let board : m ≤ 128 = omega (arith, m_is, c.requires.ready.sound.few_vertices) in
    omega (arith, le_mul (c.len.result + 1) m 4097 128 few board)

pub overflow_cast-start : goal.overflow_cast-start
overflow_cast-start c =
    let game = game_of c.args.game.now in
    let tables = c.args.tables.now in
    let index = c.args.index in
    let e = expression_at game index in
    let own = c.args.game.now in
    let T = c.index-tables-index.result in
    let at_T = read_at tables index T c.requires.ready.within c.index-tables-index.is in
    let m = c.len-vertices.result in
    let m_is : m ≡ length game.vertices = omega (arith, c.len-vertices.ensures, length-map own.vertices.items vertex_of, own.vertices.ok.0) in
    let few : c.len.result + 1 ≤ 4097 = omega (arith, c.len.ensures, count_steps game tables index c.requires.ready T at_T, T.steps.ok.0, count_whole e, c.requires.ready.small) in
    let some : 0 < m = omega (arith, m_is, c.requires.ready.sound.has_vertex) in
    let less : c.loop-at.at < (c.len.result + 1) * m = omega (arith, c.loop-at-test.true) in
    let low : c.loop-at.at / m < c.len.result + 1 = (div-lt_iff_lt-mul some).1 less in
    omega (arith, low, few)

pub loop-at-preserved : goal.loop-at-preserved
loop-at-preserved c =
    let game = game_of c.args.game.now in
    let e = expression_at game c.args.index in
    let own = c.args.game.now in
    let n = length game.vertices in
    let m = c.len-vertices.result in
    let at = c.loop-at.at in
    let rows = c.loop-at.rows.items in
    let more = c.in_ok-push.ensures.items in
    let m_is : m ≡ n = omega (arith, c.len-vertices.ensures, length-map own.vertices.items vertex_of, own.vertices.ok.0) in
    let whole = subst (λ k. at / m * k + at % m ≡ at) m_is (div-add-mod' at m) in
    let some : 0 < m = omega (arith, m_is, c.requires.ready.sound.has_vertex) in
    let low : at % m < n = subst (λ k. at % m < k) m_is (mod-lt at some) in
    let new = subst (λ o. IfSome o (IsRow game e (at / m) (at % m))) c.in-Some.is c.in_ok-row.ensures in
    let here : (p v : ℕ) (row : JumpRow) → v < n → (slice_get rows (p * n + v) ≡ Some row) ⊎ (p * n + v ≡ length rows) × (row ≡ c.in-Some.row)
    → IsRow game e p v row = λ p v row inside either. elim either [
      | inl old ↦ c.loop-at.invariant.each p v row inside old
      | inr last ↦
          let tells = mark_tells n p v (at / m) (at % m) inside low (last.0 ∙ c.loop-at.invariant.many ∙ sym whole) in
          subst (λ x. IsRow game e p v x) (sym last.1)
          (subst (λ k. IsRow game e p k c.in-Some.row) (sym tells.1) (subst (λ k. IsRow game e k (at % m) c.in-Some.row) (sym tells.0) new))
    ] in
    record {
      many = omega (arith, c.in_ok-push.ensures.len, c.loop-at.invariant.many);
      each = λ p v row inside at_row. here p v row inside
          (slice_get-push rows c.in-Some.row (p * n + v) row (subst (λ xs. slice_get xs (p * n + v) ≡ Some row) more at_row));
    }

pub returns : goal.returns
returns c =
    let game = game_of c.args.game.now in
    let tables = c.args.tables.now in
    let index = c.args.index in
    let e = expression_at game index in
    let own = c.args.game.now in
    let T = c.index-tables-index.result in
    let at_T = read_at tables index T c.requires.ready.within c.index-tables-index.is in
    let n = length game.vertices in
    let m = c.len-vertices.result in
    let m_is : m ≡ n = omega (arith, c.len-vertices.ensures, length-map own.vertices.items vertex_of, own.vertices.ok.0) in
    let numbers : c.len.result + 1 ≡ count e + 1 = omega (arith, c.len.ensures, count_steps game tables index c.requires.ready T at_T, T.steps.ok.0) in
    let end : c.loop-at.at ≡ (c.len.result + 1) * m = omega (arith, c.loop-at-test.false, c.loop-at.auto.at-end) in
    record {
      whole = λ some. c.loop-at.invariant.many ∙ end ∙ ap (λ k. k * m) numbers ∙ ap (λ k. (count e + 1) * k) m_is;
      each = c.loop-at.invariant.each;
    }
