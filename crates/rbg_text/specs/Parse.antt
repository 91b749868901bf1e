-- The steps of rules in postfix order, and what a parser has left and has made.
use Rattle.std.specs.Prelude.{List}
use Rattle.rbg_game.specs.declared.rules.Comparison.{Comparison}
use Rattle.rbg_text.specs.Token.{Text}
use Rattle.rbg_text.specs.Syntax.{Tokens}

-- A step of the rules in postfix order: an operator stands after its operands, a set before its pieces.
pub data ParseStep : Type 0 where
  number : Text → ParseStep
  variable : Text → ParseStep
  negate : ParseStep
  add : ParseStep
  subtract : ParseStep
  multiply : ParseStep
  shift : Text → ParseStep
  on : ParseStep
  among : Text → ParseStep
  off : Text → ParseStep
  assign : Text → ParseStep
  compare : Comparison → ParseStep
  switch : Text → ParseStep
  keeper : ParseStep
  some_word : ParseStep
  no_word : ParseStep
  join : ParseStep
  either : ParseStep
  star : ParseStep

-- the tokens that are left, and the steps so far
pub record ParseState : Type 0 where
  pub tokens : Tokens
  pub steps : List ParseStep
