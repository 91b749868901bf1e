use Rattle.std.proofs.Common.{◌≡◌, Err, map, ℕ, List, ap, sym, subst, arith, rules}
use Rattle.std.proofs.lemmas.List.{length-map}
use Rattle.arrayvec.specs.ArrayVec.{ArrayVec}
use Rattle.rbg_game.specs.declared.position.Position.{Position}
use Rattle.position_pack.specs.declared.kind.PackingKind.{PackingKind}
use Rattle.position_pack.specs.Shape.{Shape}
use Rattle.position_pack.specs.Packings.{Form, form_of, IsPacked}
use Rattle.rbg_game.specs.Goals.{points_of}
use Rattle.legal_moves.specs.Made.{CompiledGame}
use Rattle.legal_moves.specs.Compiled.{compiled_game, packing_kind, IsCompiled}
use Rattle.legal_moves.specs.declared.compiled.Compiled.TheInside.{Inside}
use Rattle.legal_moves.specs.Listed.{ListsExactly}
use Rattle.legal_moves.specs.Sources.{IsAt, IsMoveBetween}
use Rattle.legal_moves.specs.lemmas.Ends.{AreAscendingEnds}
use Rattle.legal_moves.specs.lemmas.Stands.{configurations_of}
use Rattle.legal_moves.proofs.Exits.{refused, not_ok, no_error}
use Rattle.legal_moves.proofs.answers.SourceLemmas.{at_by_packed, packed_by_at, narrow_at}
use Rattle.legal_moves.proofs.answers.PackedEnds.{lists_ends, few_ends}
use Rattle.legal_moves.proofs.Faults.{passed, for_want}
use Rattle.legal_moves.proofs.compiled.CompiledMoveSource.successors.Goals as goal

abbrev form_with : PackingKind → Shape → Form
form_with kind shape = record { kind = kind; shape = shape }

abbrev seen : Inside → CompiledGame
seen c = record { game = c.game; kind = c.packing.kind; goal = points_of c.goal }

-- ---- what the fields are, said of what they stand for

module _ (inside : Inside) (v : CompiledGame) (same : seen inside ≡ v) (is : IsCompiled inside) where
  own_form : inside.packing ≡ form_of (packing_kind v) (compiled_game v)
  own_form = subst (λ w. inside.packing ≡ form_of (packing_kind w) (compiled_game w)) same (ap (form_with inside.packing.kind) is.packing_is)

  -- the position that was unpacked
  unpacked_at : (x y : List ℕ) (at : Position) → y ≡ x → IsPacked inside.packing at y → IsAt (packing_kind v) (compiled_game v) x at
  unpacked_at x y at here packed =
      at_by_packed (packing_kind v) (compiled_game v) inside.packing x at own_form (subst (IsPacked inside.packing at) here packed)

  -- bytes that nothing packs to are those of no position
  nowhere : (x y : List ℕ) → y ≡ x → ((at : Position) → ¬ IsPacked inside.packing at y) → (at : Position) → ¬ IsAt (packing_kind v) (compiled_game v) x at
  nowhere x y here none at is_at =
      none at (subst (IsPacked inside.packing at) (sym here) (packed_by_at (packing_kind v) (compiled_game v) inside.packing x at own_form is_at))

pub ends-requires : goal.ends-requires
ends-requires c =
    let here = unpacked_at c.self.inside c.args.self.now c.self.view_is c.self.invariant c.args.at.now.items c.deref.result.now c.in-Some.position c.deref.ensures.0 c.in-Some.ensures in
    record { at = here.position_is }

pub returns-clause-exact : goal.returns-clause-exact
returns-clause-exact c =
    let v = c.args.self.now in
    let x = c.args.at.now.items in
    let here = unpacked_at c.self.inside v c.self.view_is c.self.invariant x c.deref.result.now c.in-Some.position c.deref.ensures.0 c.in-Some.ensures in
    let cs = configurations_of c.in_ok-found.found in
    let ys = map (λ (p : ArrayVec ℕ). p.items) c.in_ok-successors.successors.items in
    let ends = subst (λ f. AreAscendingEnds f cs ys) (own_form c.self.inside v c.self.view_is c.self.invariant) c.in_ok-successors.ensures in
    lists_ends v.kind (compiled_game v) c.requires.sound x c.in-Some.position here cs c.in_ok-found.ensures.reached ys ends

pub returns-clause-few : goal.returns-clause-few
returns-clause-few c =
    let v = c.args.self.now in
    let x = c.args.at.now.items in
    let here = unpacked_at c.self.inside v c.self.view_is c.self.invariant x c.deref.result.now c.in-Some.position c.deref.ensures.0 c.in-Some.ensures in
    let cs = configurations_of c.in_ok-found.found in
    let ys = map (λ (p : ArrayVec ℕ). p.items) c.in_ok-successors.successors.items in
    let ends = subst (λ f. AreAscendingEnds f cs ys) (own_form c.self.inside v c.self.view_is c.self.invariant) c.in_ok-successors.ensures in
    let few = few_ends v.kind (compiled_game v) c.requires.sound x c.in-Some.position here cs c.in_ok-found.ensures.reached ys ends in
    omega (arith, few, length-map c.in_ok-successors.successors.items (λ (p : ArrayVec ℕ). p.items))

pub returns-clause-narrow : goal.returns-clause-narrow
returns-clause-narrow c =
    let v = c.args.self.now in
    let x = c.args.at.now.items in
    let here = unpacked_at c.self.inside v c.self.view_is c.self.invariant x c.deref.result.now c.in-Some.position c.deref.ensures.0 c.in-Some.ensures in
    let game = compiled_game v in
    λ ok. narrow_at v.kind game c.requires.sound x c.in-Some.position here
    c.in_ok-found.ensures.reached.narrow

pub returns-clause-wide : goal.returns-clause-wide
returns-clause-wide c = no_error

pub returns-in_err-room-clause-exact : goal.returns-in_err-room-clause-exact
returns-in_err-room-clause-exact c = refused _ c.from_residual.result _ c.from_residual.ensures.1

pub returns-in_err-room-clause-few : goal.returns-in_err-room-clause-few
returns-in_err-room-clause-few c = refused _ c.from_residual.result _ c.from_residual.ensures.1

pub returns-in_err-room-clause-narrow : goal.returns-in_err-room-clause-narrow
returns-in_err-room-clause-narrow c = not_ok _ c.from_residual.result c.from_residual.ensures.1

pub returns-in_err-room-clause-wide : goal.returns-in_err-room-clause-wide
returns-in_err-room-clause-wide c = for_want c.from_residual.result c.from_residual.ensures.1

pub returns-in_err-found-clause-exact : goal.returns-in_err-found-clause-exact
returns-in_err-found-clause-exact c = refused _ c.from_residual-in_err-found.result _ c.from_residual-in_err-found.ensures.1

pub returns-in_err-found-clause-few : goal.returns-in_err-found-clause-few
returns-in_err-found-clause-few c = refused _ c.from_residual-in_err-found.result _ c.from_residual-in_err-found.ensures.1

pub returns-in_err-found-clause-narrow : goal.returns-in_err-found-clause-narrow
returns-in_err-found-clause-narrow c = not_ok _ c.from_residual-in_err-found.result c.from_residual-in_err-found.ensures.1

pub returns-in_err-found-clause-wide : goal.returns-in_err-found-clause-wide
returns-in_err-found-clause-wide c =
    let here = unpacked_at c.self.inside c.args.self.now c.self.view_is c.self.invariant c.args.at.now.items c.deref.result.now c.in-Some.position c.deref.ensures.0 c.in-Some.ensures in
    λ wide.
    let fault = passed c.from_residual-in_err-found.result c.in_err-found.field-0.0 c.from_residual-in_err-found.ensures.1 wide in
    (c.in-Some.position, here, c.in_err-found.ensures.wide (ap Err fault))

pub returns-in_err-successors-clause-exact : goal.returns-in_err-successors-clause-exact
returns-in_err-successors-clause-exact c = refused _ c.from_residual-in_err-successors.result _ c.from_residual-in_err-successors.ensures.1

pub returns-in_err-successors-clause-few : goal.returns-in_err-successors-clause-few
returns-in_err-successors-clause-few c = refused _ c.from_residual-in_err-successors.result _ c.from_residual-in_err-successors.ensures.1

pub returns-in_err-successors-clause-narrow : goal.returns-in_err-successors-clause-narrow
returns-in_err-successors-clause-narrow c = not_ok _ c.from_residual-in_err-successors.result c.from_residual-in_err-successors.ensures.1

pub returns-in_err-successors-clause-wide : goal.returns-in_err-successors-clause-wide
returns-in_err-successors-clause-wide c = for_want c.from_residual-in_err-successors.result c.from_residual-in_err-successors.ensures.1

pub returns-in_default-clause-wide : goal.returns-in_default-clause-wide
returns-in_default-clause-wide c = no_error

pub returns-in_default-clause-exact : goal.returns-in_default-clause-exact
returns-in_default-clause-exact c =
    let none = nowhere c.self.inside c.args.self.now c.self.view_is c.self.invariant c.args.at.now.items c.deref.result.now c.deref.ensures.0 c.in_default.ensures in
    subst (λ xs. ListsExactly (IsMoveBetween (packing_kind c.args.self.now) (compiled_game c.args.self.now) c.args.at.now.items)
    (map (λ (p : ArrayVec ℕ). p.items) xs)) (sym c.new.ensures.items)
    (record { only = λ k d less. absurd (omega (arith, less)); all = λ y moves. absurd (none moves.0 moves.2); ascending = search rules })

pub returns-in_default-clause-few : goal.returns-in_default-clause-few
returns-in_default-clause-few c = omega (arith, c.new.ensures.len)

pub returns-in_default-clause-narrow : goal.returns-in_default-clause-narrow
returns-in_default-clause-narrow c =
    let none = nowhere c.self.inside c.args.self.now c.self.view_is c.self.invariant c.args.at.now.items c.deref.result.now c.deref.ensures.0 c.in_default.ensures in
    λ ok wide. none wide.0 wide.1
