use Rattle.std.proofs.Common.{◌≡◌, true, Some, sym, ap, ◌∙◌, subst}
use Rattle.std.proofs.lemmas.Result.{IfOk-weaker}
use Rattle.legal_moves.specs.declared.automaton.table.Table.{Table}
use Rattle.legal_moves.proofs.automata.ReadyLemmas.{read_at}
use Rattle.legal_moves.proofs.automaton.jumps.jumps_of.Goals as goal

pub returns : goal.returns
returns c =
    let tables = c.args.tables.now in
    let index = c.args.index in
    let T = c.index-tables-index.result in
    let at_T = read_at tables index T c.requires.ready.within c.index-tables-index.is in
    IfOk-weaker c.rows_of.result _ _
    (λ jumps rows table at_table.
    let both : Some T ≡ Some table = sym at_T ∙ at_table in
    let same : T ≡ table = cc in
    record {
      rows_are = rows;
      narrow = λ some. subst (λ x. x.narrow ≡ true) same
          (ap (λ (x : Table). x.narrow) c.index-tables-index.is ∙ c.if-not-tables-index.false);
    }) c.rows_of.ensures
