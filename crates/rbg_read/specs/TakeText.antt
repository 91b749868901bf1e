-- The text of the small game of takes.
use Rattle.std.specs.Prelude.{◌++◌, codes}
use Rattle.rbg_text.specs.Token.{Text}

-- the text of the game
abbrev pub take_text : Text
take_text =
    codes "#players = white(1), black(1)  #pieces = e  #variables = heap(3)  #board = v[e]{}  "
    ++ (codes "#rules = [$heap=3] (->white ([$heap=heap-1]+[$heap=heap-2]) [$white=1][$black=0] "
    ++ codes "->black ([$heap=heap-1]+[$heap=heap-2]) [$black=1][$white=0])*")
