-- Values in the numbers of the machine.
use Rattle.std.specs.Prelude.{ℕ, List, ℤ, pos, neg_ℤ, ◌+ℤ◌, ◌*ℤ◌, slice_index}
use Rattle.std.specs.Int.{int_wrap}
use mir.Syntax.{w64}
use Rattle.rbg_game.specs.Expressions.{Expression, number, variable, negation, sum, product}

-- what an expression comes to in signed 64-bit numbers, where each step wraps around
abbrev pub wrapping_value_of : List ℕ → Expression → ℤ
wrapping_value_of values (number n) = int_wrap w64 (pos n)
wrapping_value_of values (variable v) = int_wrap w64 (pos (slice_index values v))
wrapping_value_of values (negation a) = int_wrap w64 (neg_ℤ (wrapping_value_of values a))
wrapping_value_of values (sum a b) = int_wrap w64 (wrapping_value_of values a +ℤ wrapping_value_of values b)
wrapping_value_of values (product a b) = int_wrap w64 (wrapping_value_of values a *ℤ wrapping_value_of values b)
