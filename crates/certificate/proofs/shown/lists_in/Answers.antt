use Rattle.std.proofs.Common.{rules, ◌≡◌, ◌∙◌, ap, sym, subst, ◌<◌, length}
use Rattle.rbg_game.specs.Games.{Game}
use Rattle.rbg_game.specs.declared.roles.Player.{Player}
use Rattle.rbg_game.specs.declared.roles.Role.TheVariants as role
use Rattle.position_pack.specs.Packings.{Form, form_of}
use Rattle.position_pack.specs.Shape.{IsSmall}
use Rattle.position_pack.specs.Texts.{role_text}
use Rattle.position_pack.specs.declared.kind.PackingKind.{PackingKind}
use Rattle.position_pack.specs.declared.kind.PackingKind.TheVariants.{Bits}
use Rattle.position_pack.proofs.ShapeLemmas.{small_shape}
use Rattle.legal_moves.specs.Compiled.{compiled_game}
use Rattle.certificate.specs.Format.{first_manner, first_player, lines, second_manner, second_player}
use Rattle.certificate.specs.Refusals.{AreUnread}
use Rattle.certificate.proofs.LineLemmas.{lines_there, none_there}
use Rattle.certificate.proofs.ListLoops.{passed_on}
use Rattle.certificate.proofs.UnreadLemmas.{both_read, end_refused, first_refused, read_as, refused_as, second_refused}
use Rattle.certificate.proofs.shown.lists_in.Goals as goal

pub list_in-requires : goal.list_in-requires
list_in-requires c =
    subst (λ (form : Form). IsSmall form.shape) (sym c.packing-packing.ensures) (small_shape (compiled_game c.args.compiled.now) c.requires.sound.sound)

pub returns-in_err-first-clause-fault : goal.returns-in_err-first-clause-fault
returns-in_err-first-clause-fault c =
    let game = compiled_game c.args.compiled.now in
    let form_is : c.packing-packing.result.now ≡ form_of Bits game = c.packing-packing.ensures ∙ ap (λ (k : PackingKind). form_of k game) c.requires.kind in
    let first_is : c.name_of-name.result.now ≡ role_text game (role.Player (first_player c.args.claimed)) =
    c.name_of-name.ensures ∙ ap (λ (g : Game). role_text g (role.Player c.first_player.result)) c.game.ensures
    ∙ ap (λ (p : Player). role_text game (role.Player p)) c.first_player.ensures in
    passed_on _ c.from_residual.result _ c.from_residual.ensures
    (first_refused game c.args.claimed c.args.behind.now c.packing-packing.result.now form_is _
    (refused_as c.packing-packing.result.now c.first_manner.result (first_manner c.args.claimed) c.name_of-name.result.now
    (role_text game (role.Player (first_player c.args.claimed))) (lines c.args.behind.now) _ c.first_manner.ensures first_is c.in_err-first.ensures.fault))

pub list_in-requires-2 : goal.list_in-requires-2
list_in-requires-2 c =
    subst (λ (form : Form). IsSmall form.shape) (sym c.packing-packing.ensures) (small_shape (compiled_game c.args.compiled.now) c.requires.sound.sound)

pub returns-in_err-second-clause-fault : goal.returns-in_err-second-clause-fault
returns-in_err-second-clause-fault c =
    let game = compiled_game c.args.compiled.now in
    let form_is : c.packing-packing.result.now ≡ form_of Bits game = c.packing-packing.ensures ∙ ap (λ (k : PackingKind). form_of k game) c.requires.kind in
    let first_is : c.name_of-name.result.now ≡ role_text game (role.Player (first_player c.args.claimed)) =
    c.name_of-name.ensures ∙ ap (λ (g : Game). role_text g (role.Player c.first_player.result)) c.game.ensures
    ∙ ap (λ (p : Player). role_text game (role.Player p)) c.first_player.ensures in
    let read = read_as c.first_manner.result (first_manner c.args.claimed) c.name_of-name.result.now
    (role_text game (role.Player (first_player c.args.claimed)))
    (lines c.args.behind.now) c.in_ok-first.first.list.items (lines c.in_ok-first.rest.now) c.first_manner.ensures first_is c.in_ok-first.ensures.read in
    let second_is : c.name_of-name-2.result.now ≡ role_text game (role.Player (second_player c.args.claimed)) =
    c.name_of-name-2.ensures ∙ ap (λ (g : Game). role_text g (role.Player c.second_player.result)) c.game-2.ensures
    ∙ ap (λ (p : Player). role_text game (role.Player p)) c.second_player.ensures in
    passed_on _ c.from_residual-in_err-second.result _ c.from_residual-in_err-second.ensures
    (second_refused game c.args.claimed c.args.behind.now c.packing-packing.result.now form_is c.in_ok-first.first.list.items
    (lines c.in_ok-first.rest.now) read _
    (refused_as c.packing-packing.result.now c.second_manner.result (second_manner c.args.claimed) c.name_of-name-2.result.now
    (role_text game (role.Player (second_player c.args.claimed)))
    (lines c.in_ok-first.rest.now) _ c.second_manner.ensures second_is c.in_err-second.ensures.fault))

pub returns-then-not-is_empty-clause-fault : goal.returns-then-not-is_empty-clause-fault
returns-then-not-is_empty-clause-fault c =
    let game = compiled_game c.args.compiled.now in
    let form_is : c.packing-packing.result.now ≡ form_of Bits game = c.packing-packing.ensures ∙ ap (λ (k : PackingKind). form_of k game) c.requires.kind in
    let first_is : c.name_of-name.result.now ≡ role_text game (role.Player (first_player c.args.claimed)) =
    c.name_of-name.ensures ∙ ap (λ (g : Game). role_text g (role.Player c.first_player.result)) c.game.ensures
    ∙ ap (λ (p : Player). role_text game (role.Player p)) c.first_player.ensures in
    let read = read_as c.first_manner.result (first_manner c.args.claimed) c.name_of-name.result.now
    (role_text game (role.Player (first_player c.args.claimed)))
    (lines c.args.behind.now) c.in_ok-first.first.list.items (lines c.in_ok-first.rest.now) c.first_manner.ensures first_is c.in_ok-first.ensures.read in
    let second_is : c.name_of-name-2.result.now ≡ role_text game (role.Player (second_player c.args.claimed)) =
    c.name_of-name-2.ensures ∙ ap (λ (g : Game). role_text g (role.Player c.second_player.result)) c.game-2.ensures
    ∙ ap (λ (p : Player). role_text game (role.Player p)) c.second_player.ensures in
    let others = read_as c.second_manner.result (second_manner c.args.claimed) c.name_of-name-2.result.now
    (role_text game (role.Player (second_player c.args.claimed)))
    (lines c.in_ok-first.rest.now) c.in_ok-second.second.list.items
    (lines c.in_ok-second.rest.now) c.second_manner.ensures second_is c.in_ok-second.ensures.read in
    let some : 0 < length c.in_ok-second.rest.now = search rules in
    subst (AreUnread game c.args.claimed c.args.behind.now) (sym c.at.ensures)
    (end_refused game c.args.claimed c.args.behind.now c.packing-packing.result.now form_is c.in_ok-first.first.list.items (lines c.in_ok-first.rest.now) read
    c.in_ok-second.second.list.items (lines c.in_ok-second.rest.now) others (lines_there c.in_ok-second.rest.now some))

pub returns-clause-read : goal.returns-clause-read
returns-clause-read c =
    let game = compiled_game c.args.compiled.now in
    let form_is : c.packing-packing.result.now ≡ form_of Bits game = c.packing-packing.ensures ∙ ap (λ (k : PackingKind). form_of k game) c.requires.kind in
    let first_is : c.name_of-name.result.now ≡ role_text game (role.Player (first_player c.args.claimed)) =
    c.name_of-name.ensures ∙ ap (λ (g : Game). role_text g (role.Player c.first_player.result)) c.game.ensures
    ∙ ap (λ (p : Player). role_text game (role.Player p)) c.first_player.ensures in
    let read = read_as c.first_manner.result (first_manner c.args.claimed) c.name_of-name.result.now
    (role_text game (role.Player (first_player c.args.claimed)))
    (lines c.args.behind.now) c.in_ok-first.first.list.items (lines c.in_ok-first.rest.now) c.first_manner.ensures first_is c.in_ok-first.ensures.read in
    let second_is : c.name_of-name-2.result.now ≡ role_text game (role.Player (second_player c.args.claimed)) =
    c.name_of-name-2.ensures ∙ ap (λ (g : Game). role_text g (role.Player c.second_player.result)) c.game-2.ensures
    ∙ ap (λ (p : Player). role_text game (role.Player p)) c.second_player.ensures in
    let others = read_as c.second_manner.result (second_manner c.args.claimed) c.name_of-name-2.result.now
    (role_text game (role.Player (second_player c.args.claimed)))
    (lines c.in_ok-first.rest.now) c.in_ok-second.second.list.items
    (lines c.in_ok-second.rest.now) c.second_manner.ensures second_is c.in_ok-second.ensures.read in
    let none : length c.in_ok-second.rest.now ≡ 0 = search rules in
    both_read game c.args.claimed c.args.behind.now c.packing-packing.result.now form_is c.in_ok-first.first.list.items (lines c.in_ok-first.rest.now) read
    c.in_ok-second.second.list.items (lines c.in_ok-second.rest.now) others (none_there c.in_ok-second.rest.now none)
    c.in_ok-first.ensures.positions c.in_ok-second.ensures.positions
