-- What a pattern answered last.
use Rattle.std.specs.Prelude.{⊤, Option, None, Some, MatchBool}
use Rattle.rbg_game.specs.Games.{Game}
use Rattle.rbg_game.specs.declared.position.SemiState.{SemiState}
use Rattle.legal_moves.specs.Searches.{IsWideFrom}
use Rattle.legal_moves.specs.lemmas.Searches.{IsLegal}
use Rattle.legal_moves.specs.lemmas.Configurations.{expression_at}
use Rattle.legal_moves.specs.declared.search.answers.LastPattern.{LastPattern}

-- if an answer is kept, it is that of its pattern here, whose search is not too wide
abbrev pub IsAnswerAt : Game → SemiState → Option LastPattern → Type 0
IsAnswerAt game S None = ⊤
IsAnswerAt game S (Some a) =
    MatchBool a.holds (IsLegal game (expression_at game a.pattern) S) (¬ IsLegal game (expression_at game a.pattern) S)
    × ¬ IsWideFrom game (expression_at game a.pattern) 0 S
