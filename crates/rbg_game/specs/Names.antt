-- The names of a game.
use Rattle.std.specs.Prelude.{ℕ, ◌≢◌, List, map, All, AllPairs}
use Rattle.rbg_game.specs.Games.{Game}

-- a name has no space, no comma and no `>` in it
abbrev pub IsPlainName : List ℕ → Type 0
IsPlainName w = All (λ b. (b ≢ 32) × (b ≢ 44) × (b ≢ 62)) w

-- names are plain, and no two pieces, two vertices, two labels, or two players and variables have the same
pub record HasProperNames (game : Game) : Type 0 where
  pub pieces_plain : All IsPlainName game.pieces
  pub vertices_plain : All IsPlainName (map (λ v. v.name) game.vertices)
  pub variables_plain : All IsPlainName (map (λ v. v.name) game.variables)
  pub labels_plain : All IsPlainName game.labels
  pub pieces_differ : AllPairs ◌≢◌ game.pieces
  pub vertices_differ : AllPairs ◌≢◌ (map (λ v. v.name) game.vertices)
  pub variables_differ : AllPairs ◌≢◌ (map (λ v. v.name) game.variables)
  pub labels_differ : AllPairs ◌≢◌ game.labels
