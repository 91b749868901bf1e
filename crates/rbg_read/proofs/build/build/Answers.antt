use Rattle.std.proofs.Common.{◌++◌, map, ap, sym, ◌∙◌}
use Rattle.std.specs.List.{list_any}
use Rattle.rbg_text.specs.View.{step_view}
use Rattle.rbg_text.specs.Said.{declaration_view, vertex_view}
use Rattle.rbg_game.specs.Meaning.{variable_of}
use Rattle.rbg_read.specs.Means.{declared}
use Rattle.rbg_read.specs.lemmas.Flat.{has_large_bound, is_large_number}
use Rattle.rbg_read.specs.lemmas.Parts.{parts_view, known_view}
use Rattle.rbg_read.specs.lemmas.Build.{placed_vertex}
use Rattle.rbg_read.specs.lemmas.Resolve.{resolved}
use Rattle.rbg_read.proofs.NoCause.{no_cause, no_large, few}
use Rattle.rbg_read.proofs.Lists.{map_map, two_maps}
use Rattle.rbg_read.proofs.build.build.Goals as goal

pub add_variables-requires : goal.add_variables-requires
add_variables-requires c =
    let fine = no_cause (known_view c.args.names.now) (parts_view c.args.parts.now) c.requires.fine in
    ap (λ ds. list_any (λ d. has_large_bound (declaration_view d)) ds) c.as_slice.ensures.value ∙ (no_large c.args.parts.now fine.no_large_number).players

pub add_variables-requires-2 : goal.add_variables-requires-2
add_variables-requires-2 c =
    let fine = no_cause (known_view c.args.names.now) (parts_view c.args.parts.now) c.requires.fine in
    ap (λ ds. list_any (λ d. has_large_bound (declaration_view d)) ds) c.as_slice-2.ensures.value ∙ (no_large c.args.parts.now fine.no_large_number).variables

pub vertices_of-requires : goal.vertices_of-requires
vertices_of-requires c =
    let fine = no_cause (known_view c.args.names.now) (parts_view c.args.parts.now) c.requires.fine in
    few (known_view c.args.names.now) (parts_view c.args.parts.now) c.requires.named fine.two fine.within_limits

pub resolve-requires-clause-few : goal.resolve-requires-clause-few
resolve-requires-clause-few c =
    let fine = no_cause (known_view c.args.names.now) (parts_view c.args.parts.now) c.requires.fine in
    few (known_view c.args.names.now) (parts_view c.args.parts.now) c.requires.named fine.two fine.within_limits

pub resolve-requires-clause-within : goal.resolve-requires-clause-within
resolve-requires-clause-within c =
    let fine = no_cause (known_view c.args.names.now) (parts_view c.args.parts.now) c.requires.fine in
    ap (λ ss. list_any is_large_number (map step_view ss)) c.as_slice-6.ensures.value ∙ (no_large c.args.parts.now fine.no_large_number).steps

pub returns-clause-means : goal.returns-clause-means
returns-clause-means c =
    let names = known_view c.args.names.now in
    let parts = c.args.parts.now in
    let pieces = c.in_ok-all_named.ensures ∙ ap (map (λ w. w.now)) c.as_slice-3.ensures.value in
    let players = c.in_ok-add_variables.ensures ∙ ap
    (λ vs. map variable_of vs ++ map (λ d. declared (declaration_view d)) c.as_slice.result.now) c.new-variables.ensures.items
    ∙ ap (map (λ d. declared (declaration_view d))) c.as_slice.ensures.value in
    let variables =
    c.in_ok-add_variables-2.ensures
    ∙ ap (λ vs. vs ++ map (λ d. declared (declaration_view d)) c.as_slice-2.result.now) players
    ∙ ap (λ ds. map (λ d. declared (declaration_view d)) parts.players.items ++ map (λ d. declared (declaration_view d)) ds) c.as_slice-2.ensures.value
    ∙ sym (two_maps declared declaration_view parts.players.items parts.variables.items) in
    let labels = c.in_ok-all_named-2.ensures ∙ ap (map (λ w. w.now)) c.as_slice-4.ensures.value in
    let vertices = c.in_ok-vertices_of.ensures ∙ ap (map (λ v. placed_vertex names (vertex_view v))) c.as_slice-5.ensures.value
    ∙ sym (map_map (placed_vertex names) vertex_view parts.vertices.items) in
    let rules = c.in_ok-resolve.ensures.means ∙ ap (λ ss. resolved names (map step_view ss)) c.as_slice-6.ensures.value in
    λ i. record { pieces = pieces i; variables = variables i; labels = labels i; vertices = vertices i; rules = rules i }
