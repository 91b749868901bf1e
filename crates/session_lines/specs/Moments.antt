-- The moments that were noted.
use Rattle.std.specs.Prelude.{List, [], ◌∷◌, ◌++◌}
use Rattle.session_lines.specs.declared.moments.Moments.{Moments}
use Rattle.session_lines.specs.declared.moments.Noted.{Noted}
use Rattle.session_lines.specs.declared.moments.Noted.TheVariants.{Nothing, Another'}

-- the first thing first: a table, and an output beside it
abbrev pub in_order : {T W : Type 0} → Noted T W → List (T × W)
in_order Nothing = []
in_order (Another' marker before table out) = in_order before ++ (table.value, out.value) ∷ []

-- what was noted, in its order
abbrev pub noted_in : {T W : Type 0} → Moments T W → List (T × W)
noted_in moments = in_order moments.noted.value
