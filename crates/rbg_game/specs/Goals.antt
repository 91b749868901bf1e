-- The goal of a table: a number of points.
use Rattle.std.specs.Prelude.{ℕ, ◌≤◌, Option, None, Some}
use Rattle.rbg_game.specs.declared.limits.TheConstants.{MAX_POINTS}
use Rattle.rbg_game.specs.declared.goal.Goal.{Goal}

-- this many points can be a goal
abbrev pub CanBeGoal : ℕ → Type 0
CanBeGoal points = (1 ≤ points) × (points ≤ MAX_POINTS)

-- how many points a goal has
abbrev pub points_in : Goal → ℕ
points_in goal = goal.points

-- the points of a goal that a table may have
abbrev pub points_of : Option Goal → Option ℕ
points_of None = None
points_of (Some goal) = Some (points_in goal)
