-- The actions of a text that have numbers, as the grammar says them.
use Rattle.std.specs.Prelude.{List, [], ◌∷◌, ◌++◌}
use Rattle.rbg_text.specs.Syntax as syntax
use Rattle.rbg_text.specs.Syntax.{Tokens, further}
use Rattle.rbg_text.specs.declared.token.Sign.TheVariants.{Plus, Star, CloseParen, CloseBracket}
use Rattle.rbg_game.specs.Rules.{Regex}
use Rattle.rbg_read.specs.Means.{Names, base_rules}
use Rattle.rbg_read.specs.Means as means

-- an assignment by itself, or another action
pub data Written : Type 0 where
  assigned : syntax.Assignment → Written
  other : syntax.Base → Written

-- the tokens that say it, followed by the tokens `rest`
abbrev pub said : Written → Tokens → Tokens
said (assigned a) rest = syntax.assignment a rest
said (other b) rest = syntax.base b rest

-- what it means by itself
abbrev pub meaning : Names → Written → Regex
meaning names (assigned a) = means.assignment names a
meaning names (other b) = base_rules names b

-- an action where it stands: the tokens after it are all those up to the end of the text
pub record Spot : Type 0 where
  pub written : Written
  pub behind : Tokens

-- the tokens of a text from an action on, and those after it
pub record Cut : Type 0 where
  pub here : Tokens
  pub behind : Tokens

abbrev pub cut_at : Spot → Cut
cut_at spot = record { here = said spot.written spot.behind; behind = spot.behind }

-- further assignments of a list, each with a comma before it
abbrev pub further_assigned : List syntax.Assignment → Tokens → List Spot
further_assigned [] rest = []
further_assigned (a ∷ more) rest = record { written = assigned a; behind = further syntax.assignment more rest } ∷ further_assigned more rest

-- the actions that rules number, in the order of their text, where the tokens `rest` stand after the rules: each assignment of a list,
-- a pattern as one, and every other
abbrev mutual
  pub spots : syntax.Sum → Tokens → List Spot
  spots (syntax.branch c) rest = spots_in_concat c rest
  spots (syntax.either s c) rest = spots s (syntax.mark Plus (syntax.concat c rest)) ++ spots_in_concat c rest

  pub spots_in_concat : syntax.Concat → Tokens → List Spot
  spots_in_concat (syntax.single e) rest = spots_in_element e rest
  spots_in_concat (syntax.followed c e) rest = spots_in_concat c (syntax.element e rest) ++ spots_in_element e rest

  pub spots_in_element : syntax.Element → Tokens → List Spot
  spots_in_element (syntax.once b) rest = spots_in_base b rest
  spots_in_element (syntax.star b) rest = spots_in_base b (syntax.mark Star rest)

  pub spots_in_base : syntax.Base → Tokens → List Spot
  spots_in_base (syntax.assign first more) rest =
      record { written = assigned first; behind = further syntax.assignment more (syntax.mark CloseBracket rest) }
      ∷ further_assigned more (syntax.mark CloseBracket rest)
  spots_in_base (syntax.group s) rest = spots s (syntax.mark CloseParen rest)
  spots_in_base b rest = record { written = other b; behind = rest } ∷ []

-- the actions of a text with these sections
abbrev pub spots_of : List syntax.Section → List Spot
spots_of [] = []
spots_of (syntax.rules s ∷ more) = spots s (syntax.text more) ++ spots_of more
spots_of (_ ∷ more) = spots_of more
