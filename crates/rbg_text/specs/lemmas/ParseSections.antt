-- Parsing of sections, as a function on tokens: an aid of the proofs, as `Parse` is. What is promised is said by `Syntax`.
use Rattle.std.specs.Prelude.{ℕ, zero, suc, Bool, true, false, ◌||◌, if◌then◌else◌, List, [], ◌∷◌, ◌++◌, length, Option, Some, None, codes}
use Rattle.std.specs.Str.{bytes_eq}
use Rattle.rbg_text.specs.Token.{Text, Token}
use Rattle.rbg_text.specs.Syntax.{Declaration, WrittenArrow, WrittenVertex}
use Rattle.rbg_text.specs.Parse.{ParseStep, ParseState}
use Rattle.rbg_text.specs.lemmas.Parse.{Parser, ◌>>=◌, ◌>>◌, first, sees, advance, after, eat, expect, fail, turns, name}
use Rattle.rbg_text.specs.lemmas.Parse.{rules_to}
use Rattle.rbg_text.specs.Said.{Said, players, pieces, variables, board, rules}
use Rattle.rbg_text.specs.declared.token.Sign.TheVariants.{Hash, Comma, Colon, Equal, OpenParen, CloseParen, OpenBracket, CloseBracket}
use Rattle.rbg_text.specs.declared.token.Sign.TheVariants.{OpenBrace, CloseBrace}

abbrev pub give : {X : Type 0} → X → Parser X
give x = λ i. Some (x, i)

-- further items after those so far, each with a comma before it
unfoldable pub items : {X : Type 0} → Parser X → ℕ → List X → Parser (List X)
items item zero xs = give xs
items item (suc n) xs = do
  more ← eat Comma
  if more then (do x ← item; items item n (xs ++ x ∷ [])) else give xs

-- one item or more, with commas between
unfoldable pub listed : {X : Type 0} → Parser X → Parser (List X)
listed item = item >>= (λ x i. items item (turns i) (x ∷ []) i)

abbrev pub number_by : Option Token → Parser Text
number_by (Some (Token.number w)) = λ i. Some (w, advance i)
number_by _ = fail

unfoldable pub number : Parser Text
number = λ i. number_by (first i.tokens) i

abbrev pub declared : Text → Text → Declaration
declared w n = record { name = w; bound = n }

unfoldable pub declaration : Parser Declaration
declaration = do
  w ← name
  expect OpenParen
  n ← number
  expect CloseParen
  give (declared w n)

abbrev pub arrow_to : Text → Text → WrittenArrow
arrow_to label to = record { label = label; to = to }

unfoldable pub arrow : Parser WrittenArrow
arrow = do
  label ← name
  expect Colon
  to ← name
  give (arrow_to label to)

-- the arrows of a vertex, none or more
unfoldable pub arrows : Parser (List WrittenArrow)
arrows = λ i. if sees CloseBrace i then give [] i else listed arrow i

abbrev pub vertex_with : Text → Text → List WrittenArrow → WrittenVertex
vertex_with w piece all = record { name = w; piece = piece; arrows = all }

unfoldable pub vertex : Parser WrittenVertex
vertex = do
  w ← name
  expect OpenBracket
  piece ← name
  expect CloseBracket
  expect OpenBrace
  all ← arrows
  expect CloseBrace
  give (vertex_with w piece all)

abbrev pub is_name : Option Token → Bool
is_name (Some (Token.name w)) = true
is_name _ = false

-- further vertices after those so far, each with a comma before it or without
unfoldable pub vertices : ℕ → List WrittenVertex → Parser (List WrittenVertex)
vertices zero xs = give xs
vertices (suc n) xs = do
  comma ← eat Comma
  (λ i. if comma || is_name (first i.tokens) then (vertex >>= (λ x. vertices n (xs ++ x ∷ []))) i else give xs i)

unfoldable pub all_vertices : Parser (List WrittenVertex)
all_vertices = vertex >>= (λ x i. vertices (turns i) (x ∷ []) i)

-- the variables, none or more
unfoldable pub all_variables : Parser (List Declaration)
all_variables = λ i. if is_name (first i.tokens) then listed declaration i else give [] i

-- the rules, whose steps are taken out
unfoldable pub all_rules : Parser (List ParseStep)
all_rules = rules_to 65 >> (λ i. Some (i.steps, record i { steps = [] }))

unfoldable pub section_by : Text → Parser Said
section_by title =
    if bytes_eq title (codes "players") then (listed declaration >>= (λ all. give (players all)))
    else (if bytes_eq title (codes "pieces") then (listed name >>= (λ all. give (pieces all)))
    else (if bytes_eq title (codes "variables") then (all_variables >>= (λ all. give (variables all)))
    else (if bytes_eq title (codes "board") then (all_vertices >>= (λ all. give (board all)))
    else (if bytes_eq title (codes "rules") then (all_rules >>= (λ all. give (rules all)))
    else fail))))

unfoldable pub section : Parser Said
section = do
  expect Hash
  title ← name
  expect Equal
  section_by title

abbrev pub is_done : List Token → Bool
is_done [] = true
is_done (t ∷ ts) = false

-- sections after those so far, up to the last token
unfoldable pub sections : ℕ → List Said → Parser (List Said)
sections zero all = λ i. if is_done i.tokens then give all i else fail i
sections (suc n) all = λ i. if is_done i.tokens then give all i else (section >>= (λ s. sections n (all ++ s ∷ []))) i
