-- The grammar: what a game text says, with names and numbers as they are written, and the tokens that say it.
use Rattle.std.specs.Prelude.{List, [], ◌∷◌, codes}
use Rattle.rbg_text.specs.Token.{Text, Token}
use Rattle.rbg_text.specs.declared.token.Sign.{Sign}
use Rattle.rbg_text.specs.declared.token.Sign.TheVariants.{DoubleArrow, Arrow as SingleArrow, EqualEqual, NotEqual, LessEqual, GreaterEqual}
use Rattle.rbg_text.specs.declared.token.Sign.TheVariants.{Less, Greater, Equal, Hash, Comma, Colon, OpenParen, CloseParen, OpenBracket}
use Rattle.rbg_text.specs.declared.token.Sign.TheVariants.{CloseBracket, OpenBrace, CloseBrace, Star, Plus, Minus, Dollar, Question}
use Rattle.rbg_text.specs.declared.token.Sign.TheVariants.{Exclamation}
use Rattle.rbg_game.specs.declared.rules.Comparison.{Comparison}
use Rattle.rbg_game.specs.declared.rules.Comparison.TheVariants as test

-- ---- syntax trees

-- A sum begins with a term and goes on with `+` or `-` and a term; a product likewise with `*` and a factor.
mutual
  pub data Expr : Type 0 where
    sum_of : Term → Expr
    plus : Expr → Term → Expr
    minus : Expr → Term → Expr

  pub data Term : Type 0 where
    product_of : Factor → Term
    times : Term → Factor → Term

  pub data Factor : Type 0 where
    positive : Atom → Factor
    negative : Atom → Factor

  pub data Atom : Type 0 where
    literal : Text → Atom
    variable : Text → Atom
    parenthesized : Expr → Atom

pub record Assignment : Type 0 where
  pub target : Text
  pub value : Expr

-- The rules are a sum of concatenations of elements, each element with a star or without.
mutual
  pub data Sum : Type 0 where
    branch : Concat → Sum
    either : Sum → Concat → Sum

  pub data Concat : Type 0 where
    single : Element → Concat
    followed : Concat → Element → Concat

  pub data Element : Type 0 where
    once : Base → Element
    star : Base → Element

  pub data Base : Type 0 where
    shift : Text → Base
    on : List Text → Base
    off : Text → Base
    assign : Assignment → List Assignment → Base
    compare : Expr → Comparison → Expr → Base
    switch : Text → Base
    keeper : Base
    some_word : Sum → Base
    no_word : Sum → Base
    group : Sum → Base

-- a player or a variable with its bound
pub record Declaration : Type 0 where
  pub name : Text
  pub bound : Text

pub record WrittenArrow : Type 0 where
  pub label : Text
  pub to : Text

pub record WrittenVertex : Type 0 where
  pub name : Text
  pub piece : Text
  pub arrows : List WrittenArrow

-- a vertex after the first, with a comma before it or without
pub data Further : Type 0 where
  after_comma : WrittenVertex → Further
  at_once : WrittenVertex → Further

pub data Section : Type 0 where
  players : Declaration → List Declaration → Section
  pieces : Text → List Text → Section
  variables : List Declaration → Section
  board : WrittenVertex → List Further → Section
  rules : Sum → Section

-- ---- the tokens that say it, each time followed by the tokens `rest`

abbrev pub Tokens : Type 0
Tokens = List Token

abbrev pub mark : Sign → Tokens → Tokens
mark s rest = Token.sign s ∷ rest

abbrev pub word : Text → Tokens → Tokens
word w rest = Token.name w ∷ rest

-- each with a comma before it
abbrev pub further : {X : Type 0} → (X → Tokens → Tokens) → List X → Tokens → Tokens
further said [] rest = rest
further said (x ∷ xs) rest = mark Comma (said x (further said xs rest))

-- none, or some with commas between
abbrev pub commas : {X : Type 0} → (X → Tokens → Tokens) → List X → Tokens → Tokens
commas said [] rest = rest
commas said (x ∷ xs) rest = said x (further said xs rest)

abbrev mutual
  pub expr : Expr → Tokens → Tokens
  expr (sum_of t) rest = term t rest
  expr (plus e t) rest = expr e (mark Plus (term t rest))
  expr (minus e t) rest = expr e (mark Minus (term t rest))

  pub term : Term → Tokens → Tokens
  term (product_of f) rest = factor f rest
  term (times t f) rest = term t (mark Star (factor f rest))

  pub factor : Factor → Tokens → Tokens
  factor (positive a) rest = atom a rest
  factor (negative a) rest = mark Minus (atom a rest)

  pub atom : Atom → Tokens → Tokens
  atom (literal n) rest = Token.number n ∷ rest
  atom (variable v) rest = word v rest
  atom (parenthesized e) rest = mark OpenParen (expr e (mark CloseParen rest))

abbrev pub test_sign : Comparison → Sign
test_sign test.Equal = EqualEqual
test_sign test.NotEqual = NotEqual
test_sign test.Less = Less
test_sign test.LessEqual = LessEqual
test_sign test.Greater = Greater
test_sign test.GreaterEqual = GreaterEqual

abbrev pub assignment : Assignment → Tokens → Tokens
assignment a rest = word a.target (mark Equal (expr a.value rest))

abbrev mutual
  pub sum : Sum → Tokens → Tokens
  sum (branch c) rest = concat c rest
  sum (either s c) rest = sum s (mark Plus (concat c rest))

  pub concat : Concat → Tokens → Tokens
  concat (single e) rest = element e rest
  concat (followed c e) rest = concat c (element e rest)

  pub element : Element → Tokens → Tokens
  element (once b) rest = base b rest
  element (star b) rest = base b (mark Star rest)

  pub base : Base → Tokens → Tokens
  base (shift label) rest = word label rest
  base (on names) rest = mark OpenBrace (commas word names (mark CloseBrace rest))
  base (off name) rest = mark OpenBracket (word name (mark CloseBracket rest))
  base (assign first more) rest = mark OpenBracket (mark Dollar (commas assignment (first ∷ more) (mark CloseBracket rest)))
  base (compare left test right) rest = mark OpenBrace (mark Dollar (expr left (mark (test_sign test) (expr right (mark CloseBrace rest)))))
  base (switch player) rest = mark SingleArrow (word player rest)
  base keeper rest = mark DoubleArrow rest
  base (some_word s) rest = mark OpenBrace (mark Question (sum s (mark CloseBrace rest)))
  base (no_word s) rest = mark OpenBrace (mark Exclamation (sum s (mark CloseBrace rest)))
  base (group s) rest = mark OpenParen (sum s (mark CloseParen rest))

abbrev pub declaration : Declaration → Tokens → Tokens
declaration d rest = word d.name (mark OpenParen (Token.number d.bound ∷ mark CloseParen rest))

abbrev pub arrow : WrittenArrow → Tokens → Tokens
arrow a rest = word a.label (mark Colon (word a.to rest))

abbrev pub vertex : WrittenVertex → Tokens → Tokens
vertex v rest = word v.name (mark OpenBracket (word v.piece (mark CloseBracket (mark OpenBrace (commas arrow v.arrows
    (mark CloseBrace rest))))))

-- a comma before a further vertex may be left out
abbrev pub further_vertices : List Further → Tokens → Tokens
further_vertices [] rest = rest
further_vertices (after_comma v ∷ more) rest = mark Comma (vertex v (further_vertices more rest))
further_vertices (at_once v ∷ more) rest = vertex v (further_vertices more rest)

abbrev pub headed : Text → Tokens → Tokens
headed title body = mark Hash (word title (mark Equal body))

abbrev pub section : Section → Tokens → Tokens
section (players first more) rest = headed (codes "players") (commas declaration (first ∷ more) rest)
section (pieces first more) rest = headed (codes "pieces") (commas word (first ∷ more) rest)
section (variables all) rest = headed (codes "variables") (commas declaration all rest)
section (board first more) rest = headed (codes "board") (vertex first (further_vertices more rest))
section (rules s) rest = headed (codes "rules") (sum s rest)

-- the tokens of a whole text
abbrev pub text : List Section → Tokens
text [] = []
text (s ∷ more) = section s (text more)
