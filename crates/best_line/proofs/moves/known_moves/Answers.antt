use Rattle.std.proofs.Common.{ap, subst, sym, refl, ℕ, List, Err}
use Rattle.position_pack.specs.Packings.{IsPacked}
use Rattle.retrograde.specs.Stored.{Stored, IsTable, view_of}
use Rattle.legal_moves.specs.Compiled.{compiled_game, packing_kind}
use Rattle.legal_moves.specs.declared.fault.MoveFault.{MoveFault}
use Rattle.legal_moves.proofs.answers.SourceLemmas.{at_by_packed, packed_by_at}
use Rattle.table.proofs.Frames.{read_then}
use Rattle.table.proofs.Exits.{passed_on}
use Rattle.best_line.specs.lemmas.Found.{AreToldMoves}
use Rattle.best_line.proofs.FaultLemmas.{moves_of_search, moves_of_table, moves_untold, no_position_there}
use Rattle.best_line.proofs.FoundLemmas.{are_successors, each_known, positions_of}
use Rattle.best_line.proofs.moves.known_moves.Goals as goal

pub moves-requires : goal.moves-requires
moves-requires g c =
    let v = c.args.compiled.now in
    let x = c.in_ok-packed.packed.items in
    let form = c.packing.ensures in
    let here = at_by_packed (packing_kind v) (compiled_game v) c.packing.result.now x c.in-Some.at form
    (subst (IsPacked c.packing.result.now c.in-Some.at) c.deref.ensures.0 c.in-Some.ensures) in
    record { at = here.position_is }

pub told_moves-requires-clause-positions : goal.told_moves-requires-clause-positions
told_moves-requires-clause-positions g c =
    let v = c.args.compiled.now in
    let x = c.in_ok-packed.packed.items in
    let form = c.packing.ensures in
    let here = at_by_packed (packing_kind v) (compiled_game v) c.packing.result.now x c.in-Some.at form
    (subst (IsPacked c.packing.result.now c.in-Some.at) c.deref.ensures.0 c.in-Some.ensures) in
    positions_of (compiled_game v) c.in-Some.at c.in_ok-found.found c.requires.compiled.sound here.position_is c.in_ok-found.ensures.exact.words

pub returns-clause-moves : goal.returns-clause-moves
returns-clause-moves g c = λ honest table.
    let v = c.args.compiled.now in
    let x = c.in_ok-packed.packed.items in
    let form = c.packing.ensures in
    let here = at_by_packed (packing_kind v) (compiled_game v) c.packing.result.now x c.in-Some.at form
    (subst (IsPacked c.packing.result.now c.in-Some.at) c.deref.ensures.0 c.in-Some.ensures) in
    let h = c.in_ok-packed.ensures.read.honest.0 honest in
    let same = c.in_ok-packed.ensures.read.same honest in
    let table' = subst (λ (t : Stored (List ℕ)). IsTable t) (sym same) table in
    let kind = packing_kind v in
    let game = compiled_game v in
    let view = view_of (g.T.Table.stored c.args.table.now) in
    let told =
    subst (λ (t : Stored (List ℕ)). AreToldMoves kind game (view_of t) c.in_ok-found.found c.in_ok-moves.moves.items) same
    (c.in_ok-moves.ensures.told h table') in
    record {
      bytes = x;
      number_is = c.in_ok-packed.ensures.position honest;
      at = c.in-Some.at;
      at_is = here;
      mover_is = refl;
      successors = are_successors kind game view c.requires.compiled.sound x c.in-Some.at here c.in_ok-found.found c.in_ok-moves.moves.items told c.in_ok-found.ensures.exact.successors;
      each = each_known kind game view c.requires.compiled.sound x c.in-Some.at here c.in_ok-found.found c.in_ok-moves.moves.items told c.in_ok-found.ensures.shortest;
    }

pub returns-in_default-clause-err : goal.returns-in_default-clause-err
returns-in_default-clause-err g c = no_position_there (λ honest.
    let v = c.args.compiled.now in
    let x = c.in_ok-packed.packed.items in (
      x,
      c.in_ok-packed.ensures.position honest,
      λ position.
          c.in_default.ensures position.0
          (subst (IsPacked c.packing.result.now position.0) (sym c.deref.ensures.0)
          (packed_by_at (packing_kind v) (compiled_game v) c.packing.result.now x position.0 c.packing.ensures position.1)),
    ))

pub returns-in_err-packed-clause-err : goal.returns-in_err-packed-clause-err
returns-in_err-packed-clause-err g c =
    passed_on _ c.from_residual.result _ c.from_residual.ensures (moves_of_table c.in_err-packed.ensures.room c.in_err-packed.ensures.fault)

pub returns-in_err-moves-clause-err : goal.returns-in_err-moves-clause-err
returns-in_err-moves-clause-err g c =
    passed_on _ c.from_residual-in_err-moves.result _ c.from_residual-in_err-moves.ensures
    (moves_untold c.in_err-moves.ensures.searched
    (λ f. g.met.T.Table.fails_since _ _ _ f (g.met.T.Table.stays_goes_on _ _ c.in_ok-packed.ensures.read.stays))
    c.in_err-moves.ensures.room c.in_err-moves.ensures.fault)

pub returns-in_err-found-clause-err : goal.returns-in_err-found-clause-err
returns-in_err-found-clause-err g c =
    let v = c.args.compiled.now in
    let x = c.in_ok-packed.packed.items in
    let form = c.packing.ensures in
    let here = at_by_packed (packing_kind v) (compiled_game v) c.packing.result.now x c.in-Some.at form
    (subst (IsPacked c.packing.result.now c.in-Some.at) c.deref.ensures.0 c.in-Some.ensures) in
    passed_on _ c.from_residual-in_err-found.result _ c.from_residual-in_err-found.ensures
    (moves_of_search _ (λ wide honest.
    (x, c.in_ok-packed.ensures.position honest, (c.in-Some.at, here, c.in_err-found.ensures.wide (ap (λ (f : MoveFault). Err f) wide)))))

pub returns-clause-read : goal.returns-clause-read
returns-clause-read g c = read_then g.met.T.Table.stays_then c.in_ok-packed.ensures.read c.in_ok-moves.ensures.read
