-- Whether an expression has a legal word, as a pattern asks.
use Rattle.std.specs.Prelude.{ℕ, List}
use Rattle.rbg_game.specs.Rules.{Regex}
use Rattle.rbg_game.specs.Games.{Game}
use Rattle.rbg_game.specs.declared.position.SemiState.{SemiState}
use Rattle.legal_moves.specs.Words.{IsWord}
use Rattle.legal_moves.specs.Effects.{Leads}

-- some word of the expression is legal from S
abbrev pub IsLegal : Game → Regex → SemiState → Type 0
IsLegal game e S = (w : List ℕ) × (U : SemiState) × IsWord e 1 w × Leads game e w S U
