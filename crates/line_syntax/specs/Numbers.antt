-- Numbers in words.
use Rattle.std.specs.Prelude.{◌≡◌, ◌<◌, ◌≤◌, ◌^◌, ℕ, List, length}
use Rattle.std.specs.Str.Parse.{IsNumeral, digits_value}

-- one to ten digits that write a number below 2^32
pub record WritesNumber (word : List ℕ) (number : ℕ) : Type 0 where
  pub few : length word ≤ 10
  pub digits : IsNumeral 10 word
  pub number_is : number ≡ digits_value 10 word
  pub small : number < 2 ^ 32
