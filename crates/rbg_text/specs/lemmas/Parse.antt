-- Parsing, as a function on tokens: each function takes tokens from the front, and adds steps in postfix order.
use Rattle.std.specs.Prelude.{◌≡◌, ℕ, zero, suc, Bool, true, false, if◌then◌else◌, [], ◌∷◌, ◌++◌, length, drop, Option, Some, None, Result}
use Rattle.std.specs.Prelude.{Ok, Err}
use denote.Enum.Bare.{sameb}
use Rattle.rbg_text.specs.contracts.token.Sign.{the_type}
use Rattle.rbg_text.specs.declared.token.Sign.{Sign}
use Rattle.rbg_text.specs.declared.token.Sign.TheVariants.{DoubleArrow, Arrow as SingleArrow, EqualEqual, NotEqual, LessEqual, GreaterEqual}
use Rattle.rbg_text.specs.declared.token.Sign.TheVariants.{Less, Greater, Equal, Comma, OpenParen, CloseParen, OpenBracket, CloseBracket}
use Rattle.rbg_text.specs.declared.token.Sign.TheVariants.{OpenBrace, CloseBrace, Star, Plus, Minus, Dollar, Question, Exclamation}
use Rattle.rbg_game.specs.declared.rules.Comparison.{Comparison}
use Rattle.rbg_game.specs.declared.rules.Comparison.TheVariants as test
use Rattle.rbg_text.specs.declared.fault.ReadError.{ReadError}
use Rattle.rbg_text.specs.declared.fault.ReadError.TheVariants.{Memory, Syntax}
use Rattle.rbg_text.specs.Token.{Text, Token}
use Rattle.rbg_text.specs.Syntax.{Tokens}
use Rattle.rbg_text.specs.Parse.{ParseStep, number, variable, negate, add, subtract, multiply, shift, on, among, off, assign, compare}
use Rattle.rbg_text.specs.Parse.{switch, keeper, some_word, no_word, join, either, star, ParseState}

-- `==` on signs
unfoldable pub same_sign : Sign → Sign → Bool
same_sign = sameb the_type

-- ---- parsers

abbrev pub Outcome : Type 0 → Type 0
Outcome A = Option (A × ParseState)

abbrev pub Parser : Type 0 → Type 0
Parser A = ParseState → Outcome A

abbrev pub and_then : {A B : Type 0} → Outcome A → (A → Parser B) → Outcome B
and_then (Some p) f = f p.0 p.1
and_then None f = None

infixl 10 ◌>>=◌
abbrev pub ◌>>=◌ : {A B : Type 0} → Parser A → (A → Parser B) → Parser B
p >>= f = λ i. and_then (p i) f

infixl 10 ◌>>◌
abbrev pub ◌>>◌ : {A B : Type 0} → Parser A → Parser B → Parser B
p >> q = p >>= (λ _. q)

abbrev pub done : Parser (Unit {0})
done = λ i. Some (tt, i)

abbrev pub fail : {A : Type 0} → Parser A
fail = λ i. None

-- the next token, which stays
abbrev pub first : Tokens → Option Token
first [] = None
first (t ∷ ts) = Some t

abbrev pub is_sign : Sign → Option Token → Bool
is_sign s (Some (Token.sign u)) = same_sign u s
is_sign s _ = false

unfoldable pub sees : Sign → ParseState → Bool
sees s i = is_sign s (first i.tokens)

unfoldable pub advance : ParseState → ParseState
advance i = record i { tokens = drop 1 i.tokens }

unfoldable pub after : Sign → ParseState → ParseState
after s i = if sees s i then advance i else i

-- takes this sign, if it comes next
abbrev pub eat : Sign → Parser Bool
eat s = λ i. Some (sees s i, after s i)

unfoldable pub expect : Sign → Parser (Unit {0})
expect s = λ i. if sees s i then Some (tt, advance i) else None

abbrev pub push : ParseStep → Parser (Unit {0})
push s = λ i. Some (tt, record i { steps = i.steps ++ s ∷ [] })

abbrev pub turns : ParseState → ℕ
turns i = length i.tokens

-- ---- expressions

-- with the parser of the expressions in parentheses
module _ (inner : Parser (Unit {0})) where
  abbrev pub atom_by : Option Token → Parser (Unit {0})
  atom_by (Some (Token.number n)) = λ i. push (number n) (advance i)
  atom_by (Some (Token.name v)) = λ i. push (variable v) (advance i)
  atom_by _ = expect OpenParen >> inner >> expect CloseParen

  unfoldable pub atom : Parser (Unit {0})
  atom = λ i. atom_by (first i.tokens) i

  unfoldable pub factor : Parser (Unit {0})
  factor = do
    is_negative ← eat Minus
    atom
    if is_negative then push negate else done

  unfoldable pub factors : ℕ → Parser (Unit {0})
  factors zero = done
  factors (suc n) = do
    more ← eat Star
    if more then (do factor; push multiply; factors n) else done

  unfoldable pub term : Parser (Unit {0})
  term = factor >> (λ i. factors (turns i) i)

  unfoldable pub terms : ℕ → Parser (Unit {0})
  terms zero = done
  terms (suc n) = do
    plus ← eat Plus
    if plus then (do term; push add; terms n) else (do
      minus ← eat Minus
      if minus then (do term; push subtract; terms n) else done)

  unfoldable pub sum : Parser (Unit {0})
  sum = term >> (λ i. terms (turns i) i)

-- an expression nested no deeper than the number
unfoldable pub expr : ℕ → Parser (Unit {0})
expr zero = fail
expr (suc depth) = sum (expr depth)

-- ---- rules

abbrev pub name_by : Option Token → Parser Text
name_by (Some (Token.name w)) = λ i. Some (w, advance i)
name_by _ = fail

unfoldable pub name : Parser Text
name = λ i. name_by (first i.tokens) i

abbrev pub test_of : Option Token → Option Comparison
test_of (Some (Token.sign EqualEqual)) = Some test.Equal
test_of (Some (Token.sign NotEqual)) = Some test.NotEqual
test_of (Some (Token.sign Less)) = Some test.Less
test_of (Some (Token.sign LessEqual)) = Some test.LessEqual
test_of (Some (Token.sign Greater)) = Some test.Greater
test_of (Some (Token.sign GreaterEqual)) = Some test.GreaterEqual
test_of _ = None

abbrev pub comparison_by : Option Comparison → Parser Comparison
comparison_by (Some t) = λ i. Some (t, advance i)
comparison_by None = fail

unfoldable pub comparison : Parser Comparison
comparison = λ i. comparison_by (test_of (first i.tokens)) i

-- the further pieces of a set
unfoldable pub pieces : ℕ → Parser (Unit {0})
pieces zero = done
pieces (suc n) = do
  more ← eat Comma
  if more then (do w ← name; push (among w); pieces n) else done

abbrev pub begins_element : Option Token → Bool
begins_element (Some (Token.name w)) = true
begins_element (Some (Token.sign OpenBrace)) = true
begins_element (Some (Token.sign OpenBracket)) = true
begins_element (Some (Token.sign OpenParen)) = true
begins_element (Some (Token.sign SingleArrow)) = true
begins_element (Some (Token.sign DoubleArrow)) = true
begins_element _ = false

-- after `{`
unfoldable pub set : Parser (Unit {0})
set = do
  push on
  is_empty ← eat CloseBrace
  if is_empty then done else (do w ← name; push (among w); (λ i. pieces (turns i) i); expect CloseBrace)

-- with the parser of expressions
module _ (value : Parser (Unit {0})) where
  unfoldable pub assignment : Parser (Unit {0})
  assignment = do
    target ← name
    expect Equal
    value
    push (assign target)

  unfoldable pub assignments : ℕ → Parser (Unit {0})
  assignments zero = done
  assignments (suc n) = do
    more ← eat Comma
    if more then (do assignment; push join; assignments n) else done

  -- after `[`
  unfoldable pub bracket : Parser (Unit {0})
  bracket = do
    is_list ← eat Dollar
    if is_list then (do assignment; (λ i. assignments (turns i) i); expect CloseBracket) else
        (do w ← name; push (off w); expect CloseBracket)

  -- after `{$`
  unfoldable pub compared : Parser (Unit {0})
  compared = do
    value
    t ← comparison
    value
    push (compare t)
    expect CloseBrace

-- with the parser of the rules in a pattern
unfoldable pub pattern : Parser (Unit {0}) → ParseStep → Parser (Unit {0})
pattern inner kind = do
  inner
  push kind
  expect CloseBrace

-- with the parsers of what stands in groups and patterns, and of expressions
module _ (inner value : Parser (Unit {0})) where
  -- after `{`
  unfoldable pub brace : Parser (Unit {0})
  brace = do
    is_test ← eat Dollar
    if is_test then compared value else (do
      is_some ← eat Question
      if is_some then pattern inner some_word else (do
        is_none ← eat Exclamation
        if is_none then pattern inner no_word else set))

  abbrev pub base_by : Option Token → Parser (Unit {0})
  base_by (Some (Token.name w)) = λ i. push (shift w) (advance i)
  base_by (Some (Token.sign OpenBrace)) = λ i. brace (advance i)
  base_by (Some (Token.sign OpenBracket)) = λ i. bracket value (advance i)
  base_by (Some (Token.sign OpenParen)) = λ i. (inner >> expect CloseParen) (advance i)
  base_by (Some (Token.sign SingleArrow)) = λ i. (name >>= λ w. push (switch w)) (advance i)
  base_by (Some (Token.sign DoubleArrow)) = λ i. push keeper (advance i)
  base_by _ = fail

  unfoldable pub base : Parser (Unit {0})
  base = λ i. base_by (first i.tokens) i

  unfoldable pub element : Parser (Unit {0})
  element = do
    base
    is_starred ← eat Star
    if is_starred then push star else done

  unfoldable pub elements : ℕ → Parser (Unit {0})
  elements zero = done
  elements (suc n) = λ i. if begins_element (first i.tokens) then (element >> push join >> elements n) i else done i

  unfoldable pub concat : Parser (Unit {0})
  concat = element >> (λ i. elements (turns i) i)

  unfoldable pub branches : ℕ → Parser (Unit {0})
  branches zero = done
  branches (suc n) = do
    more ← eat Plus
    if more then (do concat; push either; branches n) else done

  unfoldable pub choice : Parser (Unit {0})
  choice = concat >> (λ i. branches (turns i) i)

-- rules nested no deeper than the number
unfoldable pub rules_to : ℕ → Parser (Unit {0})
rules_to zero = fail
rules_to (suc depth) = choice (rules_to depth) (expr depth)

-- ---- what a function that parses ensures: the parser's outcome, unless memory fails

abbrev pub ReadsAs : {A B : Type 0} → (A → B) → Outcome B → Result A ReadError → ParseState → Type 0
ReadsAs view outcome (Ok a) new = outcome ≡ Some (view a, new)
ReadsAs view outcome (Err Memory) new = Unit {0}
ReadsAs view outcome (Err Syntax) new = outcome ≡ None

abbrev pub ReadsTokens : {A : Type 0} → Outcome A → Result A ReadError → ParseState → Type 0
ReadsTokens outcome (Ok a) new = outcome ≡ Some (a, new)
ReadsTokens outcome (Err Memory) new = Unit {0}
ReadsTokens outcome (Err Syntax) new = outcome ≡ None
