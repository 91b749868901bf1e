-- How long the bytes of a table are.
use Rattle.std.specs.Prelude.{ℕ, ◌+◌, ◌*◌}
use Rattle.game_file.specs.declared.sizes.Sizes.{Sizes}

-- how many bytes such a table takes
abbrev pub bytes_in : Sizes → ℕ
bytes_in sizes = sizes.text + sizes.counts.known * (sizes.packed + 16) + 8 * sizes.edges + 4 * sizes.counts.settled
