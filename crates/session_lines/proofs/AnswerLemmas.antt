-- What was written is the answer to the text.
use Rattle.std.proofs.Common.{◌≡◌, ℕ, List, [], ◌∷◌, ◌++◌, length, map, Result, Ok, Err, refl, sym, subst, inl, inr, arith}
use Rattle.std.specs.Prelude.{All, Option, OnOk, IfErr, Contains}
use Rattle.std.specs.Io.KnownBytes.{Appends}
use Rattle.rbg_game.specs.Games.{Game}
use Rattle.rbg_game.specs.Sound.{IsSoundGame}
use Rattle.rbg_game.specs.Positions.{IsPositionOf}
use Rattle.rbg_game.specs.declared.position.Position.{Position}
use Rattle.legal_moves.specs.Moves.{HasNoMove}
use Rattle.legal_moves.specs.Listed.{ShownMove, AreMoves, IsShownMove}
use Rattle.position_pack.specs.Bytes.{bytes_of}
use Rattle.session_lines.specs.lemmas.Lines.{HasPosition, SaysMoves}
use Rattle.session_lines.specs.Answers.{IsListing, IsUntold, TellsMoves, TellsRefusal}
use Rattle.session_lines.specs.Parts.{AppendsPart, IsTextWritten}
use Rattle.session_lines.specs.lemmas.Stops.{IsStoppedLine, IsStopped}
use Rattle.session_lines.specs.declared.move_lines.Stop.{Stop}
use Rattle.session_lines.specs.declared.move_lines.Stop.TheVariants as stop
use Rattle.session_lines.specs.Told.{fault_line}
use Rattle.solver.specs.Faults.{status_of}
use Rattle.solver.specs.declared.fault.SolverFault.{SolverFault}
use Rattle.legal_moves.proofs.answers.ReachLemmas.{position_of}
use Rattle.session_lines.proofs.Appends.{appends_then}
use Rattle.session_lines.proofs.PartLemmas.{part_behind}

-- each successor that is listed is a position of the game
pub positions_of : (game : Game) (at : Position) (moves : List ShownMove) → IsSoundGame game → IsPositionOf game at
    → All (IsShownMove game at) moves → All (HasPosition game) moves
positions_of game at moves sound is words k d lt =
    let shown = words k d lt in
    (shown.0, position_of game at shown.0 sound is (shown.1, shown.2.leads), shown.2.bytes_are)

no_moves : (game : Game) (at : Position) (moves : List ShownMove) → AreMoves game at moves → moves ≡ [] → HasNoMove game at
no_moves game at moves are none next successor =
    let there = subst (λ ms. Contains (map (λ m. m.next) ms) (bytes_of next)) none (are.successors.all (bytes_of next) (next, refl, successor)) in
    absurd (omega (arith, there.1))

pub answer_of : (game : Game) (at : Position) (moves : List ShownMove) (written : List ℕ) → IsListing game at moves
    → SaysMoves game moves written → TellsMoves game at 0 written
answer_of game at moves written listing says = elim says [
  | inl none ↦ subst (TellsMoves game at 0) (sym none.1) (TellsMoves.ended (no_moves game at moves listing.moves_are none.0))
  | inr some ↦ TellsMoves.listed moves written listing some.0 some.1
]

pub on_ok : {X E : Type 0} {P Q : Type 0} (r : Result X E) → (P → Q) → OnOk r P → OnOk r Q
on_ok (Ok x) f h = f h
on_ok (Err e) f h = tt

pub stopped_of : {X : Type 0} (game : Game) (at : Position) (moves : List ShownMove) (Written Part : List ℕ → Type 0) (r : Result X Stop)
    → IsListing game at moves
    → IfErr r (IsStoppedLine game moves (SaysMoves game moves) Written Part) → IfErr r (IsStopped game at Written Part)
stopped_of game at moves Written Part (Ok x) listing h = tt
stopped_of game at moves Written Part (Err stop.Output) listing h = (h.0, answer_of game at moves h.0 listing h.1, h.2)
stopped_of game at moves Written Part (Err (stop.Refused why)) listing h =
    (h.1.1, subst (λ w. IsUntold game at w h.1.1) (sym h.0) (inr (moves, h.1.0, listing, h.1.2)), h.1.3)

-- a refusal behind the lines that were written
pub refused_behind : {before mid after : Option (List ℕ)} (game : Game) (at : Position) (why : SolverFault) (lines : List ℕ) (status : ℕ)
    → IsUntold game at why lines
    → Appends before mid lines → IsTextWritten (TellsRefusal why) mid after status → IsTextWritten (TellsMoves game at) before after status
refused_behind {before} {mid} {after} game at why lines status is wrote (IsTextWritten.whole text told appends) =
    IsTextWritten.whole (lines ++ fault_line why) (subst (λ n. TellsMoves game at n (lines ++ fault_line why)) (sym told.0) (TellsMoves.untold why lines is))
    (appends_then before mid after lines (fault_line why) wrote (subst (Appends mid after) told.1 appends))
refused_behind {before} {mid} {after} game at why lines status is wrote (IsTextWritten.part own text told part four) =
    IsTextWritten.part (status_of why) (lines ++ fault_line why) (TellsMoves.untold why lines is)
    (part_behind lines wrote (subst (AppendsPart mid after) told.1 part)) four

pub nothing_left : {X : Type 0} (xs : List X) → length xs ≡ 0 → xs ≡ []
nothing_left [] e = refl
nothing_left (x ∷ xs) e = absurd (omega (arith, e))
