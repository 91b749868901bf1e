-- Tokens and steps without where their words lie in memory.
use Rattle.std.specs.Prelude.{map}
use Rattle.rbg_text.specs.Token.{Token}
use Rattle.rbg_text.specs.declared.token.Token.{Token as CodeToken}
use Rattle.rbg_text.specs.declared.token.Token.TheVariants as code
use Rattle.rbg_text.specs.Parse.{ParseStep, number, variable, negate, add, subtract, multiply, shift, on, among, off, assign, compare}
use Rattle.rbg_text.specs.Parse.{switch, keeper, some_word, no_word, join, either, star, ParseState}
use Rattle.rbg_text.specs.declared.parser.Step.{Step as CodeStep}
use Rattle.rbg_text.specs.declared.parser.Step.TheVariants as step
use Rattle.rbg_text.specs.declared.parser.Parser.TheInside.{Inside}

abbrev pub token_view : CodeToken → Token
token_view (code.Name w) = Token.name w.now
token_view (code.Number w) = Token.number w.now
token_view (code.Sign s) = Token.sign s

abbrev pub step_view : CodeStep → ParseStep
step_view (step.Number w) = number w.now
step_view (step.Variable w) = variable w.now
step_view step.Negate = negate
step_view step.Add = add
step_view step.Subtract = subtract
step_view step.Multiply = multiply
step_view (step.Shift w) = shift w.now
step_view step.On = on
step_view (step.Among w) = among w.now
step_view (step.Off w) = off w.now
step_view (step.Assign w) = assign w.now
step_view (step.Compare t) = compare t
step_view (step.Switch w) = switch w.now
step_view step.Keeper = keeper
step_view step.SomeWord = some_word
step_view step.NoWord = no_word
step_view step.Join = join
step_view step.Either = either
step_view step.Star = star

-- what a parser has left and has made
abbrev pub state_of : Inside → ParseState
state_of p = record { tokens = map token_view p.tokens.now; steps = map step_view p.steps.items }
