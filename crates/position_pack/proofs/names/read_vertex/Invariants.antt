use Rattle.std.proofs.Common.{◌≢◌, ◌<◌, ℕ}
use Rattle.rbg_game.specs.Meaning.{game_of}
use Rattle.position_pack.specs.Texts.{vertex_name}
use Rattle.position_pack.proofs.names.read_vertex.Given as goal

abbrev pub invariant-loop-vertex : goal.invariant-loop-vertex
invariant-loop-vertex l = (k : ℕ) → k < l.vertex → l.bytes ≢ vertex_name (game_of l.game) k
