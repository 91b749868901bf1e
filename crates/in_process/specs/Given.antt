-- What a caller's bytes are after a call.
use Rattle.std.specs.Prelude.{◌≡◌, ℕ, ◌<◌, ◌≤◌, List, ◌++◌, length, take, drop}

-- these bytes put over the first of those: as many as there is room for
abbrev pub over : List ℕ → List ℕ → List ℕ
over bytes before = take (length before) bytes ++ drop (length bytes) before

-- a text was given: its length is told; it stands at the front of the caller's bytes, where it fits, and else they are as they were
pub record IsGiven (text before after : List ℕ) (count : ℕ) : Type 0 where
  pub counted : count ≡ length text
  pub fits : length text ≤ length before → after ≡ over text before
  pub too_long : length before < length text → after ≡ before
