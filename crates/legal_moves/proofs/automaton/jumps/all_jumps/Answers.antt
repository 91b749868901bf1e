use Rattle.std.proofs.Common.{◌≡◌, ℕ, ◌⊎◌, inl, inr, length, unwrap_or, Some, slice_get, sym, ap, ◌∙◌, subst, arith}
use Rattle.rbg_game.specs.Rules.{Regex, empty}
use Rattle.rbg_game.specs.Meaning.{game_of}
use Rattle.legal_moves.specs.Configurations.{expressions_of}
use Rattle.legal_moves.specs.Jumps.{AreNarrowRows}
use Rattle.legal_moves.specs.lemmas.Configurations.{expression_at}
use Rattle.legal_moves.specs.declared.automaton.table.Table.{Table}
use Rattle.legal_moves.specs.declared.automaton.jumps.Jumps.{Jumps}
use Rattle.legal_moves.proofs.automata.CompiledLemmas.{all_ready}
use Rattle.legal_moves.proofs.GetLemmas.{slice_get-push}
use Rattle.legal_moves.proofs.automaton.jumps.all_jumps.Goals as goal

pub jumps_of-requires : goal.jumps_of-requires
jumps_of-requires c = record {
  ready = all_ready (game_of c.args.game.now) c.args.tables.now c.requires.tables c.requires.sound c.loop-index.index c.loop-index-test.true;
}

pub loop-index-preserved : goal.loop-index-preserved
loop-index-preserved c =
    let game = game_of c.args.game.now in
    let tables = c.args.tables.now in
    let index = c.loop-index.index in
    let all = c.loop-index.all.items in
    let made = c.in_ok-jumps.jumps in
    let here : (i : ℕ) (table : Table) (e : Regex) (js : Jumps) → slice_get tables i ≡ Some table
    → slice_get (expressions_of game) i ≡ Some e → (slice_get all i ≡ Some js) ⊎ (i ≡ length all) × (js ≡ made)
    → AreNarrowRows game e table js = λ i table e js at_table at_e either. elim either [
      | inl old ↦ c.loop-index.invariant.each i table e js at_table at_e old
      | inr last ↦
          let same : i ≡ index = last.0 ∙ c.loop-index.invariant.many in
          let is : expression_at game index ≡ e = ap (λ o. unwrap_or o empty) (ap (slice_get (expressions_of game)) (sym same) ∙ at_e) in
          let rows = c.in_ok-jumps.ensures table (ap (slice_get tables) (sym same) ∙ at_table) in
          subst (AreNarrowRows game e table) (sym last.1) (subst (λ d. AreNarrowRows game d table made) is rows)
    ] in
    record {
      many = omega (arith, c.in_ok-push.ensures.len, c.loop-index.invariant.many);
      each = λ i table e js at_table at_e at_js. here i table e js at_table at_e
          (slice_get-push all made i js (subst (λ xs. slice_get xs i ≡ Some js) c.in_ok-push.ensures.items at_js));
    }
