use Rattle.std.proofs.Common.{◌≡◌, ℕ, map, sym, subst}
use Rattle.arrayvec.specs.ArrayVec.{ArrayVec}
use Rattle.legal_moves.specs.lemmas.Boards.{boards_in}
use Rattle.legal_moves.specs.lemmas.Ends.{ends_packed}
use Rattle.legal_moves.specs.lemmas.Stands.{stood, AllStand}
use Rattle.legal_moves.proofs.answers.PackedEnds.{ascending}
use Rattle.legal_moves.proofs.ends.ascending_ends.Goals as goal

pub packed_ends-requires-clause-whole : goal.packed_ends-requires-clause-whole
packed_ends-requires-clause-whole c = c.requires.whole

pub packed_ends-requires-clause-within : goal.packed_ends-requires-clause-within
packed_ends-requires-clause-within c = subst (AllStand (boards_in c.args.found.now.boards)) (sym c.deref.ensures.value) c.requires.within

pub returns : goal.returns
returns c =
    let form = c.args.packing.now in
    let boards = boards_in c.args.found.now.boards in
    let stands = c.args.found.now.stands.items in
    let ends = c.in_ok-ends.ends.items in
    let are = subst (λ ss. map (λ (p : ArrayVec ℕ). p.items) ends ≡ ends_packed form (map (stood boards) ss)) c.deref.ensures.value c.in_ok-ends.ensures in
    ascending form (map (stood boards) stands) ends c.sort.new.self.items are c.in_ok-sort.ensures.permutation c.in_ok-sort.ensures.sorted
