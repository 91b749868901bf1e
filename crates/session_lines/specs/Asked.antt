-- What a line asks for, of a session or of a look.
use Rattle.std.specs.Prelude.{◌≡◌, ◌≢◌, ◌<◌, ◌≤◌, ◌⊎◌, ℕ, List, [], ◌∷◌, ◌++◌, length, All, codes}
use Rattle.solver.specs.declared.replies.Units.{Units}
use Rattle.solver.specs.Units.{units_in}
use Rattle.line_syntax.specs.Numbers.{WritesNumber}
use Rattle.session_lines.specs.declared.input.Asked.{Asked}
use Rattle.session_lines.specs.declared.input.Asked.TheVariants.{Nothing, Work, Status, Pages, Question, Game}
use Rattle.session_lines.specs.declared.input.Asked.TheVariants.{Listing, Help, Quit, Usage}
use Rattle.session_lines.specs.declared.input.ListingLine.TheVariants.{Begin, Next, End}
use Rattle.session_lines.specs.declared.input.Question.TheVariants.{Value, ValueOf, Line, List as ListFrom}
use Rattle.session_lines.specs.declared.input.Question.TheVariants.{Moves, Show, Find}
use Rattle.session_lines.specs.declared.input.TheConstants.{MAX_LINE_BYTES}

-- what follows a word: nothing, or a space
abbrev pub EndsWord : List ℕ → Type 0
EndsWord [] = Unit {0}
EndsWord (byte ∷ _) = byte ≡ 32

-- there is no word: all bytes are spaces
abbrev pub IsBlank : List ℕ → Type 0
IsBlank = All (λ byte. byte ≡ 32)

-- after some spaces, or none, the line begins with this word, and this is left
pub record BeginsWith (line word rest : List ℕ) : Type 0 where
  pub blanks : List ℕ
  pub blank : IsBlank blanks
  pub line_is : line ≡ blanks ++ word ++ rest
  pub some : word ≢ []
  pub solid : All (λ byte. byte ≢ 32) word
  pub ends : EndsWord rest

-- the line begins with these words, and this is left
abbrev pub StartsWith : List ℕ → List (List ℕ) → List ℕ → Type 0
StartsWith line [] rest = rest ≡ line
StartsWith line (word ∷ words) rest = (behind : List ℕ) × BeginsWith line word behind × StartsWith behind words rest

-- these are the words of the line
abbrev pub HasWords : List ℕ → List (List ℕ) → Type 0
HasWords line words = (rest : List ℕ) × StartsWith line words rest × IsBlank rest

-- a number of units, which is 1 to 256
abbrev pub WritesUnits : List ℕ → Units → Type 0
WritesUnits word units = WritesNumber word (units_in units)

-- the words are a command, with its numbers
abbrev pub IsCommand : List (List ℕ) → Asked → Type 0
IsCommand words Nothing = words ≡ []
IsCommand words Status = words ≡ codes "status" ∷ []
IsCommand words Pages = words ≡ codes "pages" ∷ []
IsCommand words Game = words ≡ codes "game" ∷ []
IsCommand words Help = words ≡ codes "help" ∷ []
IsCommand words Quit = words ≡ codes "quit" ∷ []
IsCommand words (Work units) = (word : List ℕ) × (words ≡ codes "work" ∷ word ∷ []) × WritesUnits word units
IsCommand words (Listing Begin) = words ≡ codes "begin" ∷ []
IsCommand words (Listing End) = words ≡ codes "end" ∷ []
IsCommand words (Listing (Next units)) = (word : List ℕ) × (words ≡ codes "next" ∷ word ∷ []) × WritesUnits word units
IsCommand words (Question (Value number)) = (word : List ℕ) × (words ≡ codes "value" ∷ word ∷ []) × WritesNumber word number
IsCommand words (Question (Line number)) = (word : List ℕ) × (words ≡ codes "line" ∷ word ∷ []) × WritesNumber word number
IsCommand words (Question (Moves number)) =
    (word : List ℕ) × (words ≡ codes "moves" ∷ word ∷ []) × WritesNumber word number
IsCommand words (Question (Show number)) = (word : List ℕ) × (words ≡ codes "show" ∷ word ∷ []) × WritesNumber word number
IsCommand words (Question (ListFrom from count)) =
    (word : List ℕ) × (other : List ℕ) × (words ≡ codes "list" ∷ word ∷ other ∷ []) × WritesNumber word from × WritesUnits other count
IsCommand words _ = ⊥

-- the words are this command, or `usage` is answered, as they are none
abbrev pub SayWords : List (List ℕ) → Asked → Type 0
SayWords words Usage = (asked : Asked) → ¬ IsCommand words asked
SayWords words asked = IsCommand words asked

-- the first word is neither `find` nor `value-of`
abbrev pub HasNoText : List (List ℕ) → Type 0
HasNoText [] = Unit {0}
HasNoText (word ∷ _) = (word ≢ codes "find") × (word ≢ codes "value-of")

-- what a line asks for whose first word is `find` or `value-of`: all that stands after one space is the text of a
-- position
abbrev pub AsksOfText : List ℕ → Asked → Type 0
AsksOfText line (Question (Find text)) = BeginsWith line (codes "find") (32 ∷ text.now)
AsksOfText line (Question (ValueOf text)) = BeginsWith line (codes "value-of") (32 ∷ text.now)
AsksOfText line Usage = BeginsWith line (codes "find") [] ⊎ BeginsWith line (codes "value-of") []
AsksOfText line _ = ⊥

-- what a line of at most 1,048,576 bytes asks for; no command but `find` and `value-of` has more than three words
pub data AsksInWords (line : List ℕ) : Asked → Type 0 where
  of_text : (asked : Asked) → AsksOfText line asked → AsksInWords line asked
  many : (words : List (List ℕ)) (rest : List ℕ) → StartsWith line words rest → length words ≡ 4 → HasNoText words
      → AsksInWords line Usage
  few : (words : List (List ℕ)) (asked : Asked) → HasWords line words → length words ≤ 3 → HasNoText words
      → SayWords words asked → AsksInWords line asked

-- what a line asks for, without what ends it
abbrev pub Asks : List ℕ → Asked → Type 0
Asks line asked = (MAX_LINE_BYTES < length line → asked ≡ Usage) × (length line ≤ MAX_LINE_BYTES → AsksInWords line asked)

-- what a line asks for in a look, by what it asks for in a session: a look takes the lines that ask, and one that works
-- or is about listings is no command there
abbrev pub in_look : Asked → Asked
in_look (Work units) = Usage
in_look (Listing about) = Usage
in_look asked = asked

-- the line without the CR at its end, or as it is where there is none
abbrev pub IsBare : List ℕ → List ℕ → Type 0
IsBare bytes line = (bytes ≡ line ++ 13 ∷ []) ⊎ ((line ≡ bytes) × ((front : List ℕ) → bytes ≢ front ++ 13 ∷ []))
