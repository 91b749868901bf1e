use Rattle.std.proofs.Common.{subst}
use Rattle.position_pack.specs.declared.kind.PackingKind.{PackingKind}
use Rattle.legal_moves.specs.Compiled.{compiled_game, compiled_goal}
use Rattle.legal_moves.specs.Sources.{IsWideAt, graph_of}
use Rattle.certificate.specs.Lists.{lines_in}
use Rattle.certificate.specs.Right.{AreShown}
use Rattle.certificate.specs.Shown.{AreNarrow, IsUnshown}
use Rattle.certificate.specs.lemmas.Reasons.{IsNotShown as cause}
use Rattle.certificate.proofs.ListLoops.{passed_on}
use Rattle.certificate.proofs.shown.show_value.Goals as goal

pub returns-in_err-lists-clause-fault : goal.returns-in_err-lists-clause-fault
returns-in_err-lists-clause-fault c =
    passed_on _ c.from_residual.result _ c.from_residual.ensures (cause.unread _ c.in_err-lists.ensures.fault)

pub returns-in_err-show_by-clause-fault : goal.returns-in_err-show_by-clause-fault
returns-in_err-show_by-clause-fault c =
    let game = compiled_game c.args.compiled.now in
    let first = lines_in c.in_ok-lists.lists.first.list.items in
    let second = lines_in c.in_ok-lists.lists.second.list.items in
    passed_on _ c.from_residual-in_err-show_by.result _ c.from_residual-in_err-show_by.ensures
    (cause.unshown first second _ c.in_ok-lists.ensures.read.has
    (subst (λ (kind : PackingKind). IsUnshown (graph_of kind (compiled_goal c.args.compiled.now) game)
    (IsWideAt kind game) c.args.claimed c.args.at.now.items first second
    c.in_err-show_by.field-0.0.fault) c.requires.kind c.in_err-show_by.ensures.fault))

pub returns-clause-shown : goal.returns-clause-shown
returns-clause-shown c =
    let game = compiled_game c.args.compiled.now in
    let read = c.in_ok-lists.ensures.read in
    let first = lines_in c.in_ok-lists.lists.first.list.items in
    let second = lines_in c.in_ok-lists.lists.second.list.items in
    record {
      first = first;
      second = second;
      has = read.has;
      first_at = read.first_at;
      second_at = read.second_at;
      shown = subst (λ (kind : PackingKind). AreShown (graph_of kind (compiled_goal c.args.compiled.now) game) c.args.claimed c.args.at.now.items first second)
          c.requires.kind c.in_ok-show_by.ensures.shown;
      narrow = subst (λ (kind : PackingKind). AreNarrow (IsWideAt kind game) c.args.claimed first second) c.requires.kind c.in_ok-show_by.ensures.narrow;
    }
