-- Tokens of a game text, and how a text is split into them.
use Rattle.std.specs.Prelude.{◌≡◌, ◌≢◌, ℕ, ◌≤◌, Bool, ◌||◌, ◌==◌, IsTrue, List, [], ◌∷◌, ◌++◌, length, codes}
use Rattle.std.specs.List.{list_all}
use Rattle.std.specs.Char.{is_ascii_digit, is_ascii_alphanumeric}
use Rattle.rbg_text.specs.declared.token.Sign.{Sign}
use Rattle.rbg_text.specs.declared.token.Sign.TheVariants as signs

-- a text is a list of bytes
abbrev pub Text : Type 0
Text = List ℕ

-- a word that is not all digits, a word of digits alone, or a sign
pub data Token : Type 0 where
  name : Text → Token
  number : Text → Token
  sign : Sign → Token

-- the letters, the digits and `_`
abbrev pub is_word_byte : ℕ → Bool
is_word_byte b = is_ascii_alphanumeric b || b == 95

abbrev pub sign_text : Sign → Text
sign_text signs.DoubleArrow = codes "->>"
sign_text signs.Arrow = codes "->"
sign_text signs.EqualEqual = codes "=="
sign_text signs.NotEqual = codes "!="
sign_text signs.LessEqual = codes "<="
sign_text signs.GreaterEqual = codes ">="
sign_text signs.Less = codes "<"
sign_text signs.Greater = codes ">"
sign_text signs.Equal = codes "="
sign_text signs.Hash = codes "#"
sign_text signs.Comma = codes ","
sign_text signs.Colon = codes ":"
sign_text signs.OpenParen = codes "("
sign_text signs.CloseParen = codes ")"
sign_text signs.OpenBracket = codes "["
sign_text signs.CloseBracket = codes "]"
sign_text signs.OpenBrace = codes "{"
sign_text signs.CloseBrace = codes "}"
sign_text signs.Star = codes "*"
sign_text signs.Plus = codes "+"
sign_text signs.Minus = codes "-"
sign_text signs.Dollar = codes "$"
sign_text signs.Question = codes "?"
sign_text signs.Exclamation = codes "!"

-- the bytes that a token is written with
abbrev pub token_text : Token → Text
token_text (name w) = w
token_text (number w) = w
token_text (sign s) = sign_text s

-- a name is a word that is not all digits, and a number a word of digits alone
abbrev pub IsToken : Token → Type 0
IsToken (name w) = IsTrue (list_all is_word_byte w) × (¬ IsTrue (list_all is_ascii_digit w))
IsToken (number w) = IsTrue (list_all is_ascii_digit w) × (w ≢ [])
IsToken (sign s) = Unit {0}

-- space, tab, carriage return, line feed
abbrev pub is_blank : ℕ → Bool
is_blank b = b == 32 || b == 9 || b == 13 || b == 10

-- the bytes up to the next line feed or the end, and the text from there on
pub data CutsLine : Text → Text → Type 0 where
  end : CutsLine [] []
  feed : {text : Text} → CutsLine (10 ∷ text) (10 ∷ text)
  byte : {b : ℕ} {text rest : Text} → b ≢ 10 → CutsLine text rest → CutsLine (b ∷ text) rest

-- blanks and comments, and the text after them; a comment is `//` and the line after it
pub data Gap : Text → Text → Type 0 where
  none : {text : Text} → Gap text text
  blank : {b : ℕ} {text rest : Text} → IsTrue (is_blank b) → Gap text rest → Gap (b ∷ text) rest
  comment : {text after rest : Text} → CutsLine text after → Gap after rest → Gap (47 ∷ 47 ∷ text) rest

-- the longest token that the text begins with, and the text after it
pub record Takes (text : Text) (t : Token) (rest : Text) : Type 0 where
  pub token : IsToken t
  pub written : text ≡ token_text t ++ rest
  pub longest : (u : Token) (more : Text) → IsToken u → text ≡ token_text u ++ more → length (token_text u) ≤ length (token_text t)

-- there is more, and no token begins it
pub record IsStray (text : Text) : Type 0 where
  pub some : text ≢ []
  pub none : (t : Token) (rest : Text) → ¬ Takes text t rest

-- the tokens of a text, with blanks and comments between any two
pub data Splits : Text → List Token → Type 0 where
  end : {text : Text} → Gap text [] → Splits text []
  token : {text here rest : Text} {t : Token} {ts : List Token} → Gap text here → Takes here t rest → Splits rest ts → Splits text (t ∷ ts)
