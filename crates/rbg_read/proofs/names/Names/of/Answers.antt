use Rattle.std.proofs.Common.{◌≡◌, ◌++◌, map, ap, sym, ◌∙◌}
use Rattle.rbg_text.specs.Said.{declaration_view, vertex_view}
use Rattle.rbg_read.specs.lemmas.Parts.{labels_in}
use Rattle.rbg_read.proofs.Lists.{map_map}
use Rattle.rbg_read.proofs.names.Names.of.Goals as goal

pub returns : goal.returns
returns c =
    let parts = c.args.parts.now in
    let players : map (λ w. w.now) c.add_declared.new.names.items ≡ map (λ d. d.name) (map declaration_view parts.players.items) =
    c.in_ok-add_declared.ensures
    ∙ ap (λ ws. map (λ w. w.now) ws ++ map (λ d. d.name.now) c.as_slice.result.now) c.new-players.ensures.items
    ∙ ap (map (λ d. d.name.now)) c.as_slice.ensures.value
    ∙ sym (map_map (λ d. d.name) declaration_view parts.players.items) in
    let copied : map (λ w. w.now) c.in_ok-values.values.items ≡ map (λ d. d.name) (map declaration_view parts.players.items) =
    ap (map (λ w. w.now)) (c.in_ok-values.ensures.items ∙ c.as_slice-2.ensures.value) ∙ players in
    let more : map (λ d. d.name.now) c.as_slice-3.result.now ≡ map (λ d. d.name) (map declaration_view parts.variables.items) =
    ap (map (λ d. d.name.now)) c.as_slice-3.ensures.value ∙ sym (map_map (λ d. d.name) declaration_view parts.variables.items) in
    let values =
    c.in_ok-add_declared-2.ensures
    ∙ ap (λ ws. ws ++ map (λ d. d.name.now) c.as_slice-3.result.now) copied
    ∙ ap (λ ws. map (λ d. d.name) (map declaration_view parts.players.items) ++ ws) more in
    let pieces : map (λ w. w.now) c.in_ok-from_slice.field-0.items ≡ map (λ w. w.now) parts.pieces.items =
    ap (map (λ w. w.now)) (c.in_ok-from_slice.ensures.items ∙ c.as_slice-4.ensures.value) in
    let vertices : map (λ w. w.now) c.in_ok-names_of_vertices.field-0.items ≡ map (λ v. v.name) (map vertex_view parts.vertices.items) =
    c.in_ok-names_of_vertices.ensures ∙ ap (map (λ v. v.name.now)) c.as_slice-5.ensures.value ∙ sym (map_map (λ v. v.name) vertex_view parts.vertices.items) in
    let labels : map (λ w. w.now) c.in_ok-labels_of.field-0.items ≡ labels_in (map vertex_view parts.vertices.items) =
    c.in_ok-labels_of.ensures ∙ ap (λ vs. labels_in (map vertex_view vs)) c.as_slice-6.ensures.value in
    λ i. record { players = players i; values = values i; pieces = pieces i; vertices = vertices i; labels = labels i }
