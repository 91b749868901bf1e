-- Keys to look for.
use Rattle.std.specs.Prelude.{ℕ, ◌++◌, List, Option, None, Some}
use Rattle.tree_table.specs.Entries.{number_key}

-- the bytes of a number, and then those of another, if there is one
abbrev pub key_behind : ℕ → Option ℕ → List ℕ
key_behind first None = number_key first
key_behind first (Some second) = number_key first ++ number_key second
