use Rattle.std.proofs.Common.{◌≡◌, take, map}
use Rattle.rbg_text.specs.Said.{arrow_view}
use Rattle.rbg_game.specs.Meaning.{arrow_of}
use Rattle.rbg_read.specs.lemmas.Parts.{known_view}
use Rattle.rbg_read.specs.lemmas.Build.{placed_arrow}
use Rattle.rbg_read.proofs.build.arrows_of.Given as goal

abbrev pub invariant-loop-arrow : goal.invariant-loop-arrow
invariant-loop-arrow l =
    map arrow_of l.placed.items ≡ map (λ a. placed_arrow (known_view l.names) (arrow_view a)) (take l.arrow-index l.arrows)
