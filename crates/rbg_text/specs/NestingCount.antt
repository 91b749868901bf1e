-- How deep the brackets of a text nest.
use Rattle.std.specs.Prelude.{ℕ, ◌+◌, ◌-◌, max, Bool, true, false, if◌then◌else◌, [], ◌∷◌}
use Rattle.rbg_text.specs.Token.{Token}
use Rattle.rbg_text.specs.Syntax.{Tokens}
use Rattle.rbg_text.specs.declared.token.Sign.TheVariants.{OpenParen, CloseParen, OpenBracket, CloseBracket, OpenBrace, CloseBrace}

-- an opening bracket
abbrev pub opens : Token → Bool
opens (Token.sign OpenParen) = true
opens (Token.sign OpenBracket) = true
opens (Token.sign OpenBrace) = true
opens _ = false

-- a closing bracket
abbrev pub closes : Token → Bool
closes (Token.sign CloseParen) = true
closes (Token.sign CloseBracket) = true
closes (Token.sign CloseBrace) = true
closes _ = false

-- one more at an opening bracket, one less at a closing one, and not below 0
abbrev pub count_after : ℕ → Token → ℕ
count_after n t = if opens t then n + 1 else (if closes t then n - 1 else n)

-- the greatest count, from a count so far
abbrev pub nesting_from : ℕ → Tokens → ℕ
nesting_from n [] = n
nesting_from n (t ∷ ts) = max n (nesting_from (count_after n t) ts)

-- how deep the brackets of the tokens nest
abbrev pub nesting : Tokens → ℕ
nesting ts = nesting_from 0 ts
