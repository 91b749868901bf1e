-- A small game: a heap of three, from which each player takes one or two in turn.
use Rattle.std.specs.Prelude.{ℕ, [], ◌∷◌, codes}
use Rattle.rbg_game.specs.Expressions.{number, variable, negation, sum}
use Rattle.rbg_game.specs.Rules.{Regex, one, cat, alt, star, assignment, switch, cat_all}
use Rattle.rbg_game.specs.Games.{Game}
use Rattle.rbg_game.specs.declared.roles.Player.TheVariants.{First, Second}
use Rattle.rbg_game.specs.declared.roles.Role.TheVariants.{Player}

-- `[$ v = n]`
abbrev pub sets : ℕ → ℕ → Regex
sets v n = one (assignment v (number n))

-- `[$ heap = heap - n]`
abbrev pub takes : ℕ → Regex
takes n = one (assignment 2 (sum (variable 2) (negation (number n))))

-- `([$heap=heap-1] + [$heap=heap-2])`
abbrev pub takes_some : Regex
takes_some = alt (takes 1) (takes 2)

-- a turn of each player
abbrev pub round : Regex
round = cat_all (
    one (switch (Player First)) ∷ takes_some ∷ sets 0 1 ∷ sets 1 0
    ∷ one (switch (Player Second)) ∷ takes_some ∷ sets 1 1 ∷ sets 0 0 ∷ [])

-- the game that the text reads to
abbrev pub take : Game
take = record {
  pieces = codes "e" ∷ [];
  variables = record { name = codes "white"; bound = 1 } ∷ record { name = codes "black"; bound = 1 } ∷ record
      { name = codes "heap"; bound = 3 } ∷ [];
  labels = [];
  vertices = record { name = codes "v"; piece = 0; arrows = [] } ∷ [];
  rules = cat (sets 2 3) (star round);
}
