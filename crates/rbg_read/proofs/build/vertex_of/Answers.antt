use Rattle.std.proofs.Common.{◌≡◌, map, ap, sym, ◌∙◌}
use Rattle.rbg_text.specs.Said.{arrow_view}
use Rattle.rbg_game.specs.Meaning.{arrow_of}
use Rattle.rbg_read.specs.lemmas.Parts.{known_view}
use Rattle.rbg_read.specs.lemmas.Build.{placed_arrow}
use Rattle.rbg_read.proofs.Lists.{map_map}
use Rattle.rbg_read.proofs.build.vertex_of.Goals as goal

pub returns : goal.returns
returns c =
    let names = known_view c.args.names.now in
    let said = c.args.vertex.now.arrows.items in
    let arrows : map arrow_of c.in_ok-arrows_of.field-0.items ≡ map (placed_arrow names) (map arrow_view said) =
    c.in_ok-arrows_of.ensures ∙ ap (map (λ a. placed_arrow names (arrow_view a))) c.as_slice.ensures.value
    ∙ sym (map_map (placed_arrow names) arrow_view said) in
    λ i. record { name = c.in_ok-named.ensures i; piece = c.piece_place.ensures i; arrows = arrows i }
