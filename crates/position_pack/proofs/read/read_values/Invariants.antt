use Rattle.std.proofs.Common.{◌≤◌, length}
use Rattle.std.specs.Fmt.{decimal}
use Rattle.rbg_game.specs.Meaning.{game_of}
use Rattle.rbg_game.specs.Games.{bound_of}
use Rattle.position_pack.proofs.ListedLemmas.{IsReadTo}
use Rattle.position_pack.proofs.read.read_values.Given as goal

abbrev pub invariant-loop-index : goal.invariant-loop-index
invariant-loop-index l =
    IsReadTo decimal (λ k x. x ≤ bound_of (game_of l.game) k) (length (game_of l.game).variables) l.bytes l.index l.values.items l.rest
