-- What the two lists in a text spell: the pieces by vertices, and the values by variables.
use Rattle.std.specs.Prelude.{◌≡◌, ◌≢◌, ℕ, ◌<◌, ◌≤◌, List, ◌∷◌, ◌++◌, length, All, map, slice_index}
use Rattle.std.specs.Fmt.{decimal}
use Rattle.rbg_game.specs.Games.{Game, bound_of}
use Rattle.position_pack.specs.Texts.{piece_name, vertex_name, with_commas}

-- the byte stands between the front, in which it is not, and the back
pub record IsSplitAt (byte : ℕ) (text front back : List ℕ) : Type 0 where
  pub front_lacks : All (λ b. b ≢ byte) front
  pub text_is : text ≡ front ++ byte ∷ back

-- five words with a space between, in the last of which alone there may be a space
pub record AreWords (text role place vertex pieces values : List ℕ) : Type 0 where
  pub role_lacks : All (λ b. b ≢ 32) role
  pub place_lacks : All (λ b. b ≢ 32) place
  pub vertex_lacks : All (λ b. b ≢ 32) vertex
  pub pieces_lack : All (λ b. b ≢ 32) pieces
  pub text_is : text ≡ role ++ (32 ∷ (place ++ (32 ∷ (vertex ++ (32 ∷ (pieces ++ 32 ∷ values))))))

-- the text is what f writes for the number, which is allowed
pub record IsSpelledBy (f : ℕ → List ℕ) (Allowed : ℕ → Type 0) (text : List ℕ) (n : ℕ) : Type 0 where
  pub allowed : Allowed n
  pub text_is : text ≡ f n

-- the decimal of a number that is at most so much
abbrev pub IsDecimal : ℕ → List ℕ → ℕ → Type 0
IsDecimal most = IsSpelledBy decimal (λ n. n ≤ most)

-- the name of a vertex of the game
abbrev pub IsVertex : Game → List ℕ → ℕ → Type 0
IsVertex game = IsSpelledBy (vertex_name game) (λ k. k < length game.vertices)

-- the name of a piece of the game
abbrev pub IsPiece : Game → List ℕ → ℕ → Type 0
IsPiece game = IsSpelledBy (piece_name game) (λ k. k < length game.pieces)

-- the text is what f writes for each number, with commas between: this many numbers, each allowed at its place
pub record AreWrittenWithCommas (f : ℕ → List ℕ) (Allowed : ℕ → ℕ → Type 0) (count : ℕ) (text all : List ℕ) : Type 0 where
  pub as_many : length all ≡ count
  pub allowed : (k : ℕ) → k < count → Allowed k (slice_index all k)
  pub text_is : text ≡ with_commas (map f all)

-- the names of pieces, one for each vertex
abbrev pub ArePieces : Game → List ℕ → List ℕ → Type 0
ArePieces game = AreWrittenWithCommas (piece_name game) (λ _ x. x < length game.pieces) (length game.vertices)

-- the decimals of values, one for each variable and none over its bound
abbrev pub AreNumbers : Game → List ℕ → List ℕ → Type 0
AreNumbers game = AreWrittenWithCommas decimal (λ k x. x ≤ bound_of game k) (length game.variables)
