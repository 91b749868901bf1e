-- What a value says of the game.
use Rattle.retrograde.specs.Graph.{Graph}
use Rattle.retrograde.specs.Values.{WonIn, Drawn}
use Rattle.best_line.specs.declared.answers.Value.{Value}
use Rattle.best_line.specs.declared.answers.Value.TheVariants as value

-- the value is so in the game: w wins x in n and no fewer, or nobody does; an open one says nothing
abbrev pub IsSo : {P : Type 0} → Graph P → P → Value → Type 0
IsSo graph x (value.Won w n) = WonIn graph w n x
IsSo graph x value.Drawn = Drawn graph x
IsSo graph x value.Open = Unit {0}
