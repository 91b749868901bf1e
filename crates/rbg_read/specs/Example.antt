-- A game with every construct of the language: its text, and the game written out by hand.
use Rattle.std.specs.Prelude.{true, false, [], ◌∷◌, ◌++◌, codes}
use Rattle.rbg_text.specs.Token.{Text}
use Rattle.rbg_game.specs.Expressions.{Expression, number, variable, negation, sum, product}
use Rattle.rbg_game.specs.Rules.{Regex, one, cat, alt, star, shift, on, off, assignment, comparison, switch, pattern, cat_all}
use Rattle.rbg_game.specs.Games.{Game}
use Rattle.rbg_game.specs.declared.rules.Comparison.TheVariants.{Equal, NotEqual, Less, LessEqual, Greater, GreaterEqual}
use Rattle.rbg_game.specs.declared.roles.Player.TheVariants.{First, Second}
use Rattle.rbg_game.specs.declared.roles.Role.TheVariants.{Keeper, Player}

-- the text
abbrev pub example_text : Text
example_text =
    codes "// A small game.\n"
    ++ codes "#players = white(9), black(09)\n"
    ++ codes "#pieces = e, w, b\n"
    ++ codes "#variables = coins(2), steps(3)\n"
    ++ codes "#board = p[w]{r:q} q[e]{r:s, l:p}, s[b]{}\n"
    ++ codes "#rules = ->white {w} (r + l)* {e, b} {} [w] {? l* {w}} {! r l}\n"
    ++ codes "  [$ coins = coins+1, white = 9-steps*(coins-1)] {$ coins <= -steps} {$ coins != 0}*\n"
    ++ codes "  + {$ coins == steps} {$ coins < steps} {$ coins > steps} {$ coins >= steps}\n"
    ++ codes "  ->black [$ steps = 2]* ->> // the end"

-- the variables, after the two players
abbrev pub coins : Expression
coins = variable 2

abbrev pub steps : Expression
steps = variable 3

-- the first branch of the rules
abbrev pub white_moves : Regex
white_moves = cat_all (
    one (switch (Player First))
    ∷ one (on (1 ∷ []))
    ∷ star (alt (one (shift 0)) (one (shift 1)))
    ∷ one (on (0 ∷ 2 ∷ []))
    ∷ one (on [])
    ∷ one (off 1)
    ∷ one (pattern true (cat (star (one (shift 1))) (one (on (1 ∷ [])))))
    ∷ one (pattern false (cat (one (shift 0)) (one (shift 1))))
    ∷ cat
    (one (assignment 2 (sum coins (number 1))))
    (one (assignment 0 (sum (number 9) (negation (product steps (sum coins (negation (number 1))))))))
    ∷ one (comparison coins LessEqual (negation steps))
    ∷ star (one (comparison coins NotEqual (number 0)))
    ∷ [])

-- the second branch
abbrev pub black_moves : Regex
black_moves = cat_all (
    one (comparison coins Equal steps)
    ∷ one (comparison coins Less steps)
    ∷ one (comparison coins Greater steps)
    ∷ one (comparison coins GreaterEqual steps)
    ∷ one (switch (Player Second))
    ∷ star (one (assignment 3 (number 2)))
    ∷ one (switch Keeper)
    ∷ [])

-- the game that the text reads to
abbrev pub example_game : Game
example_game = record {
  pieces = codes "e" ∷ codes "w" ∷ codes "b" ∷ [];
  variables = record { name = codes "white"; bound = 9 } ∷ record { name = codes "black"; bound = 9 }
      ∷ record { name = codes "coins"; bound = 2 } ∷ record { name = codes "steps"; bound = 3 } ∷ [];
  labels = codes "r" ∷ codes "l" ∷ [];
  vertices = record { name = codes "p"; piece = 1; arrows = record { label = 0; to = 1 } ∷ [] }
      ∷ record { name = codes "q"; piece = 0; arrows = record { label = 0; to = 2 } ∷ record { label = 1; to = 0 } ∷ [] }
      ∷ record { name = codes "s"; piece = 2; arrows = [] }
      ∷ [];
  rules = alt white_moves black_moves;
}
