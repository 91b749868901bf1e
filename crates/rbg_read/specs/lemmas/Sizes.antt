-- What the program makes of the sizes in one step.
use Rattle.std.specs.Prelude.{ℕ, ◌+◌, ◌*◌, Bool, not, is_some, nat_lt, if◌then◌else◌, List, [], ◌∷◌, drop, fold}
use Rattle.std.specs.Prelude.{slice_index, Option, Some, None, option_and_then}
use Rattle.rbg_text.specs.Token.{Text}
use Rattle.rbg_text.specs.Parse.{ParseStep}
use Rattle.rbg_read.specs.Means.{decimal, index_of}
use Rattle.rbg_read.specs.Causes.{max_size}

-- with one size more, or none where it is over the limit
abbrev pub with_size : ℕ → List ℕ → Option (List ℕ)
with_size n sizes = if nat_lt max_size n then None else Some (n ∷ sizes)

-- the newest, and 0 where there is none
abbrev pub first_size : List ℕ → ℕ
first_size sizes = slice_index sizes 0

-- the sizes after a step; operators take their operands from the stack
abbrev pub sizes_after : List Text → List ℕ → ParseStep → List ℕ → Option (List ℕ)
sizes_after values bounds (ParseStep.number n) s = with_size (decimal n) s
sizes_after values bounds (ParseStep.variable v) s = with_size (slice_index bounds (index_of values v)) s
sizes_after values bounds ParseStep.add s = with_size (first_size (drop 1 s) + first_size s) (drop 2 s)
sizes_after values bounds ParseStep.subtract s = with_size (first_size (drop 1 s) + first_size s) (drop 2 s)
sizes_after values bounds ParseStep.multiply s = with_size (first_size (drop 1 s) * first_size s) (drop 2 s)
sizes_after values bounds (ParseStep.assign v) s = Some (drop 1 s)
sizes_after values bounds (ParseStep.compare t) s = Some (drop 2 s)
sizes_after values bounds _ s = Some s

-- after one step more, unless a size was over the limit
abbrev pub next_sizes : List Text → List ℕ → Option (List ℕ) → ParseStep → Option (List ℕ)
next_sizes values bounds sizes step = option_and_then (sizes_after values bounds step) sizes

-- some size is over the limit
unfoldable pub has_large_size : List Text → List ℕ → List ParseStep → Bool
has_large_size values bounds steps = not (is_some (fold (next_sizes values bounds) (Some []) steps))

-- what the program makes of the newest sizes, with those that it left
abbrev pub sizes_made : Option ℕ → List ℕ → Option (List ℕ)
sizes_made (Some n) rest = with_size n rest
sizes_made None rest = Some rest
