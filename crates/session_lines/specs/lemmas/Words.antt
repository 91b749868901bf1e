-- The first word of a line.
use Rattle.std.specs.Prelude.{◌≡◌, ◌≢◌, ◌≤◌, ◌⊎◌, List, [], ◌∷◌, ◌++◌, ℕ, All, length}
use Rattle.session_lines.specs.declared.input.Asked.{Asked}
use Rattle.session_lines.specs.declared.input.Asked.TheVariants.{Usage}
use Rattle.session_lines.specs.Asked.{IsBlank, EndsWord, BeginsWith, StartsWith, HasWords, SayWords}

-- the line begins with a word, and this is left; or it has none, and nothing is left
abbrev pub IsFirstWord : List ℕ → List ℕ → List ℕ → Type 0
IsFirstWord line word rest = BeginsWith line word rest ⊎ ((word ≡ []) × (rest ≡ []) × IsBlank line)

-- after some spaces the line goes on with this, which does not begin with a space
pub record IsTrimmed (line rest : List ℕ) : Type 0 where
  pub blanks : List ℕ
  pub blank : IsBlank blanks
  pub line_is : line ≡ blanks ++ rest
  pub begins : rest ≢ [] → ¬ EndsWord rest

-- the part before the first space, and the rest with that space
pub record IsSplit (line word rest : List ℕ) : Type 0 where
  pub line_is : line ≡ word ++ rest
  pub solid : All (λ byte. byte ≢ 32) word
  pub ends : EndsWord rest

-- what the words ask for of which this is the first, with this after it
pub data SaysBehind (first rest : List ℕ) : Asked → Type 0 where
  many : (words : List (List ℕ)) (left : List ℕ) → StartsWith rest words left → length words ≡ 3 → SaysBehind first rest Usage
  few : (words : List (List ℕ)) (asked : Asked) → HasWords rest words → length words ≤ 2 → SayWords (first ∷ words) asked
      → SaysBehind first rest asked
