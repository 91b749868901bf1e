-- Rows of marks.
use Rattle.std.specs.Prelude.{◌≡◌, ℕ, Bool, true, false, List, slice_index_or}

-- the mark at the number is set
abbrev pub IsMarkSet : List Bool → ℕ → Type 0
IsMarkSet row j = slice_index_or row j false ≡ true
