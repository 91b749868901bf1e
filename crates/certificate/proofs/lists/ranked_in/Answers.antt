use Rattle.std.proofs.Common.{◌≡◌, ◌↔◌, ◌++◌, ◌∷◌, [], true, sym, subst, List, ℕ}
use Rattle.std.proofs.lemmas.List.Elements.{All-push}
use Rattle.rbg_game.specs.declared.position.Position.{Position}
use Rattle.position_pack.specs.Packings.{IsPacked}
use Rattle.certificate.specs.Format.{Ascends, lines}
use Rattle.certificate.specs.Lists.{line_of, lines_in}
use Rattle.certificate.specs.lemmas.Parts.{AreLinesRefused, AreOfPositions, AreReadLines}
use Rattle.certificate.specs.lemmas.Parts.{AreLinesRefused as cause}
use Rattle.certificate.specs.declared.ranked.Ranked.{Ranked}
use Rattle.certificate.proofs.ListLoops.{turned}
use Rattle.certificate.proofs.ReadLemmas.{no_line_there, not_ascending, one_read}
use Rattle.certificate.proofs.lists.ranked_in.Goals as goal

pub returns-in-Err-clause-fault : goal.returns-in-Err-clause-fault
returns-in-Err-clause-fault c =
    let texts = lines c.args.bytes.now in
    let found = c.in-Some.ensures in
    let read = subst (λ (ts : List (List ℕ)). AreReadLines c.args.manner texts c.loop-line.list.items ts) found.2 c.loop-line.invariant.0 in
    subst (AreLinesRefused c.args.packing.now c.args.manner texts) (sym c.at.ensures)
    (no_line_there c.args.manner texts c.loop-line.list.items c.in-Some.line.now (lines c.in-Some.behind.now) read c.args.packing.now found.0 c.in-Err.fault
    c.in-Err.ensures.fault)

pub returns-then-not-ascends-clause-fault : goal.returns-then-not-ascends-clause-fault
returns-then-not-ascends-clause-fault c =
    let texts = lines c.args.bytes.now in
    let found = c.in-Some.ensures in
    let list = c.loop-line.list.items in
    let read = subst (λ (ts : List (List ℕ)). AreReadLines c.args.manner texts list ts) found.2 c.loop-line.invariant.0 in
    let tells = subst (λ (all : List Ranked). (c.ascends.result ≡ true) ↔ Ascends
    (lines_in all ++ line_of c.in-Ok.ranked ∷ [])) c.deref.ensures.value c.ascends.ensures in
    subst (AreLinesRefused c.args.packing.now c.args.manner texts) (sym c.at-then-not-ascends.ensures)
    (not_ascending c.args.manner texts list c.in-Some.line.now (lines c.in-Some.behind.now) read c.args.packing.now found.0 c.in-Ok.ranked c.in-Ok.ensures.read
    (λ ascends. let yes = tells.1 ascends in let no = c.if-not-ascends.true in cc))

pub returns-in_err-put-clause-fault : goal.returns-in_err-put-clause-fault
returns-in_err-put-clause-fault c =
    turned _ _ c.from_residual.result c.from_residual.ensures
    (λ refusal is. subst (AreLinesRefused c.args.packing.now c.args.manner (lines c.args.bytes.now)) (sym is) cause.no_memory)

pub loop-line-preserved : goal.loop-line-preserved
loop-line-preserved c =
    let texts = lines c.args.bytes.now in
    let found = c.in-Some.ensures in
    let list = c.loop-line.list.items in
    let read = subst (λ (ts : List (List ℕ)). AreReadLines c.args.manner texts list ts) found.2 c.loop-line.invariant.0 in
    let tells = subst (λ (all : List Ranked). (c.ascends.result ≡ true) ↔ Ascends
    (lines_in all ++ line_of c.in-Ok.ranked ∷ [])) c.deref.ensures.value c.ascends.ensures in (
      one_read c.args.manner texts list c.in-Some.line.now (lines c.in-Some.behind.now) read c.in-Ok.ranked c.put.new.list.items c.in_ok-put.ensures
          c.in-Ok.ensures.read (tells.0 c.if-not-ascends.false),
      subst (AreOfPositions c.args.packing.now) (sym c.in_ok-put.ensures)
          (All-push (λ (r : Ranked). (at : Position)
          × IsPacked c.args.packing.now at r.at.items) list c.in-Ok.ranked c.loop-line.invariant.1 c.in-Ok.ensures.position),
    )
