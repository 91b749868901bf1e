-- The lines that were written so far.
use Rattle.std.proofs.Common.{◌≡◌, ◌<◌, ◌+◌, ℕ, zero, suc, List, [], ◌∷◌, ◌++◌, take, length, refl, ap, sym, ◌∙◌, append_assoc, append-nil, add-one, arith}
use Rattle.std.specs.Prelude.{All, Option, Result, Ok, Err, IfErr, IfSome, IsErrAnd, slice_get}
use Rattle.std.specs.Io.KnownBytes.{Appends}
use Rattle.rbg_game.specs.Games.{Game}
use Rattle.legal_moves.specs.Listed.{ShownMove}
use Rattle.session_lines.specs.Lines.{IsMoveLine, AreLinesOfMoves, line_of}
use Rattle.session_lines.specs.Parts.{AppendsPart}
use Rattle.session_lines.specs.lemmas.Lines.{HasPosition}
use Rattle.session_lines.specs.lemmas.Stops.{IsStoppedLine}
use Rattle.session_lines.specs.declared.move_lines.Stop.{Stop}
use Rattle.session_lines.specs.declared.move_lines.Stop.TheVariants.{Output, Refused}
use Rattle.solver.specs.declared.fault.SolverFault.TheVariants.{OutOfMemory}
use Rattle.session_lines.proofs.PartLemmas.{part_before, part_behind}

-- one line more
pub one_more_line : (game : Game) (moves : List ShownMove) (k : ℕ) (written line : List ℕ) → k < length moves
    → AreLinesOfMoves game (take k moves) written → IfSome (slice_get moves k) (λ m. IsMoveLine game m line)
    → AreLinesOfMoves game (take (k + 1) moves) (written ++ line)
one_more_line game [] k written line lt are is = absurd (omega (arith, lt))
one_more_line game (m ∷ moves) zero written line lt are is = (line, [], ap (λ w. w ++ line) are ∙ sym (append-nil line), is, refl)
one_more_line game (m ∷ moves) (suc k) written line lt are is =
    let rest = one_more_line game moves k are.1 line (omega (arith, lt)) are.4 is in
    let next = rw add-one at rest in
    rw add-one (are.0, are.1 ++ line, ap (λ w. w ++ line) are.2 ∙ append_assoc are.0 are.1 line, are.3, next)

-- moves whose successors are positions of the game have lines
lines_there : (game : Game) (moves : List ShownMove) → All (HasPosition game) moves → (text : List ℕ) × AreLinesOfMoves game moves text
lines_there game [] positions = ([], refl)
lines_there game (m ∷ moves) positions =
    let (next, is, bytes) = positions zero m (omega (arith)) in
    let (rest, are) = lines_there game moves (λ k d lt. positions (suc k) d (omega (arith, lt))) in
    (line_of game m.shown next ++ rest, (line_of game m.shown next, rest, refl, record { next = next; position = is; bytes_are = bytes; written = refl }, are))

-- the lines before one, that one, and those behind it
lines_around : (game : Game) (moves : List ShownMove) (k : ℕ) (written line : List ℕ) → k < length moves → All (HasPosition game) moves
    → AreLinesOfMoves game (take k moves) written → IfSome (slice_get moves k) (λ m. IsMoveLine game m line)
    → (rest : List ℕ) × AreLinesOfMoves game moves (written ++ (line ++ rest))
lines_around game [] k written line lt positions are is = absurd (omega (arith, lt))
lines_around game (m ∷ moves) zero written line lt positions are is =
    let (rest, more) = lines_there game moves (λ k d lt. positions (suc k) d (omega (arith, lt))) in
    (rest, (line, rest, ap (λ w. w ++ (line ++ rest)) are, is, more))
lines_around game (m ∷ moves) (suc k) written line lt positions are is =
    let (rest, more) = lines_around game moves k are.1 line (omega (arith, lt)) (λ j d le. positions (suc j) d (omega (arith, le))) are.4 is in
    (rest, (are.0, are.1 ++ (line ++ rest), ap (λ w. w ++ (line ++ rest)) are.2 ∙ append_assoc are.0 are.1 (line ++ rest), are.3, more))

-- the lines before one and a part of it are a part of all
pub lines_part : {before mid after : Option (List ℕ)} (game : Game) (moves : List ShownMove) (k : ℕ) (written line : List ℕ) → k < length moves
    → All (HasPosition game) moves → AreLinesOfMoves game (take k moves) written → IfSome (slice_get moves k) (λ m. IsMoveLine game m line)
    → Appends before mid written → AppendsPart mid after line → (text : List ℕ) × AreLinesOfMoves game moves text × AppendsPart before after text
lines_part game moves k written line lt positions are is wrote of =
    let (rest, all) = lines_around game moves k written line lt positions are is in
    (written ++ (line ++ rest), all, part_behind written wrote (part_before rest of))

-- memory ran out after some lines
pub stopped : {X : Type 0} (game : Game) (moves : List ShownMove) (Says Written Part : List ℕ → Type 0) (r : Result X Stop)
    → IsErrAnd r (λ stop. stop ≡ Refused OutOfMemory)
    → ((k : ℕ) × (lines : List ℕ) × AreLinesOfMoves game (take k moves) lines × Written lines) → IfErr r (IsStoppedLine game moves Says Written Part)
stopped game moves Says Written Part (Ok x) h lines = absurd h
stopped game moves Says Written Part (Err e) h lines = rw h (refl, lines)

-- the output failed
pub unwritten : {X : Type 0} (game : Game) (moves : List ShownMove) (Says Written Part : List ℕ → Type 0) (r : Result X Stop)
    → IsErrAnd r (λ stop. stop ≡ Output) → ((text : List ℕ) × Says text × Part text) → IfErr r (IsStoppedLine game moves Says Written Part)
unwritten game moves Says Written Part (Ok x) h part = absurd h
unwritten game moves Says Written Part (Err e) h part = rw h part

-- what says the lines says the moves
pub stopped_says : {X : Type 0} (game : Game) (moves : List ShownMove) (Says Others Written Part : List ℕ → Type 0) (r : Result X Stop)
    → ((text : List ℕ) → Says text → Others text) → IfErr r (IsStoppedLine game moves Says Written Part)
    → IfErr r (IsStoppedLine game moves Others Written Part)
stopped_says game moves Says Others Written Part (Ok x) leads h = tt
stopped_says game moves Says Others Written Part (Err (Refused why)) leads h = h
stopped_says game moves Says Others Written Part (Err Output) leads h = (h.0, leads h.0 h.1, h.2)
