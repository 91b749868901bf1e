-- The causes against a game, over its parts with the rules as steps.
use Rattle.std.specs.Prelude.{ℕ, Bool, true, false, not, ◌||◌, if◌then◌else◌, ◌==◌, nat_lt, List, ◌++◌, length, map, count_by, Option, Some}
use Rattle.std.specs.Prelude.{None}
use Rattle.std.specs.List.{list_any}
use Rattle.rbg_game.specs.declared.limits.TheConstants.{MAX_VERTICES, MAX_LABELS, MAX_PIECES, MAX_VARIABLES, MAX_ACTIONS}
use Rattle.rbg_text.specs.Syntax.{Declaration, WrittenVertex}
use Rattle.rbg_text.specs.Parse.{ParseStep}
use Rattle.rbg_read.specs.Means.{decimal}
use Rattle.rbg_read.specs.Causes.{is_unknown, has_repeat, is_too_large}
use Rattle.rbg_read.specs.lemmas.Parts.{Parts, Known}
use Rattle.rbg_read.specs.lemmas.Sizes.{has_large_size}
use Rattle.rbg_read.specs.lemmas.Switches.{has_inner_switch}
use Rattle.rbg_read.specs.declared.fault.GameFault.{GameFault}
use Rattle.rbg_read.specs.declared.fault.GameFault.TheVariants as cause

-- the step names what is not declared
abbrev pub step_uses_unknown : Known → ParseStep → Bool
step_uses_unknown known (ParseStep.variable w) = is_unknown known.values w
step_uses_unknown known (ParseStep.shift w) = is_unknown known.labels w
step_uses_unknown known (ParseStep.among w) = is_unknown known.pieces w
step_uses_unknown known (ParseStep.off w) = is_unknown known.pieces w
step_uses_unknown known (ParseStep.assign w) = is_unknown known.values w
step_uses_unknown known (ParseStep.switch w) = is_unknown known.players w
step_uses_unknown known _ = false

-- the vertex names a piece or a vertex that is not declared
abbrev pub vertex_uses_unknown : Known → WrittenVertex → Bool
vertex_uses_unknown known v = is_unknown known.pieces v.piece || list_any (λ a. is_unknown known.vertices a.to) v.arrows

-- a vertex or a step names what is not declared
abbrev pub uses_unknown : Known → Parts → Bool
uses_unknown known p = list_any (vertex_uses_unknown known) p.vertices || list_any (step_uses_unknown known) p.steps

-- two arrows of the vertex have one label
abbrev pub repeats_label : WrittenVertex → Bool
repeats_label v = has_repeat (map (λ a. a.label) v.arrows)

-- a name is declared twice for things of one kind, or stands at two arrows of a vertex
abbrev pub repeats_name : Known → Parts → Bool
repeats_name known p =
    has_repeat known.values || has_repeat known.pieces || has_repeat known.vertices || list_any repeats_label p.vertices

-- the bound is over the limit
abbrev pub has_large_bound : Declaration → Bool
has_large_bound d = is_too_large d.bound

-- the step is a number over the limit
abbrev pub is_large_number : ParseStep → Bool
is_large_number (ParseStep.number n) = is_too_large n
is_large_number _ = false

-- a bound or a number is over the limit
abbrev pub has_large : Parts → Bool
has_large p = list_any has_large_bound p.players || list_any has_large_bound p.variables || list_any is_large_number p.steps

-- the bounds of the players and the variables
abbrev pub bounds : Parts → List ℕ
bounds p = map (λ d. decimal d.bound) (p.players ++ p.variables)

-- the step stands for an action
abbrev pub is_action : ParseStep → Bool
is_action (ParseStep.shift w) = true
is_action ParseStep.on = true
is_action (ParseStep.off w) = true
is_action (ParseStep.assign w) = true
is_action (ParseStep.compare t) = true
is_action (ParseStep.switch w) = true
is_action ParseStep.keeper = true
is_action ParseStep.some_word = true
is_action ParseStep.no_word = true
is_action _ = false

-- there is more of something than a game may have
abbrev pub is_past_a_limit : Known → Parts → Bool
is_past_a_limit known p =
    nat_lt MAX_VERTICES (length known.vertices) || nat_lt MAX_LABELS (length known.labels) || nat_lt MAX_PIECES (length known.pieces)
    || nat_lt MAX_VARIABLES (length p.variables) || nat_lt MAX_ACTIONS (count_by is_action p.steps)

-- the first that applies, in the order of the codes
abbrev pub flat_cause : Known → Parts → Option GameFault
flat_cause known p =
    if not (length p.players == 2) then Some cause.NotTwoPlayers
    else (if uses_unknown known p then Some cause.UnknownName
    else (if repeats_name known p then Some cause.RepeatedName
    else (if has_large p then Some cause.BoundTooLarge
    else (if is_past_a_limit known p then Some cause.TooLarge
    else (if has_large_size known.values (bounds p) p.steps then Some cause.ExpressionTooLarge
    else (if has_inner_switch p.steps then Some cause.SwitchInPattern
    else None))))))
