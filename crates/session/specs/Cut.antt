-- The lines of an input.
use Rattle.std.specs.Prelude.{◌≡◌, ◌≢◌, ◌<◌, ◌+◌, ℕ, false, List, [], ◌∷◌, ◌++◌, length, All, IsTrue}
use Rattle.std.specs.List.{flat_map}
use Rattle.session_lines.specs.declared.input.Line.{Line}
use Rattle.session_lines.specs.declared.input.TheConstants.{MAX_LINE_BYTES}

-- a line with the LF that ends it
abbrev pub with_lf : List ℕ → List ℕ
with_lf line = line ++ 10 ∷ []

-- no LF is in it
abbrev pub HasNoLineFeed : List ℕ → Type 0
HasNoLineFeed = All (λ byte. byte ≢ 10)

-- the bytes are these lines, each with an LF behind it, and then the rest
pub record IsCutInto (bytes : List ℕ) (lines : List (List ℕ)) (rest : List ℕ) : Type 0 where
  pub bytes_are : bytes ≡ flat_map with_lf lines ++ rest
  pub single : All HasNoLineFeed lines

-- these bytes have come for the line so far, and it keeps them; of more than it keeps it knows that they are too many
pub record HasRead (line : Line) (bytes : List ℕ) : Type 0 where
  pub kept : line.is_too_long ≡ false → line.bytes.items ≡ bytes
  pub long : IsTrue line.is_too_long → (MAX_LINE_BYTES + 1 < length bytes) × (MAX_LINE_BYTES < length line.bytes.items)
