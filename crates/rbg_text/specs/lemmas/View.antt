-- The tokens so far with those that are left.
use Rattle.std.specs.Prelude.{List, ◌++◌, Option, option_map}
use Rattle.rbg_text.specs.Token.{Token}

-- the tokens so far and those that are left, unless a byte begins no token
abbrev pub with_front : List Token → Option (List Token) → Option (List Token)
with_front front more = option_map (λ ts. front ++ ts) more
