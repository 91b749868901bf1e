use Rattle.std.proofs.Common.{◌≡◌, [], get_or, map, ap}
use Rattle.rbg_text.specs.Said.{arrow_view}
use Rattle.rbg_text.specs.declared.sections.Arrow.{Arrow as SaidArrow}
use Rattle.rbg_game.specs.Meaning.{arrow_of}
use Rattle.rbg_game.specs.declared.game.Arrow.{Arrow}
use Rattle.rbg_read.specs.lemmas.Parts.{known_view}
use Rattle.rbg_read.specs.lemmas.Build.{placed_arrow}
use Rattle.rbg_read.proofs.Lists.{map_turn, end_behind}
use Rattle.rbg_read.proofs.build.arrows_of.Goals as goal

-- what a goal has past the end of the arrows
abbrev no_arrow : SaidArrow
no_arrow = record { label = record { ref_ptr = (0, 0); now = [] }; to = record { ref_ptr = (0, 0); now = [] } }

pub loop-arrow-preserved : goal.loop-arrow-preserved
loop-arrow-preserved c =
    let names = known_view c.args.names.now in
    let new : Arrow = record { label = c.label_place-label.result; to = c.vertex_place-to.result } in
    let same : arrow_of new ≡ placed_arrow names (arrow_view (get_or c.args.arrows.now c.loop-arrow.arrow-index no_arrow)) =
    λ i. record { label = c.label_place-label.ensures i; to = c.vertex_place-to.ensures i } in
    map_turn arrow_of (λ a. placed_arrow names
    (arrow_view a)) c.loop-arrow.placed.items c.push.new.self.items new c.args.arrows.now c.loop-arrow.arrow-index no_arrow
    c.loop-arrow-test.true c.in_ok-push.ensures.items same c.loop-arrow.invariant

pub loop-arrow-init : goal.loop-arrow-init
loop-arrow-init c = ap (map arrow_of) c.new-placed.ensures.items

pub returns : goal.returns
returns c =
    end_behind (λ a. placed_arrow (known_view c.args.names.now)
    (arrow_view a)) [] c.args.arrows.now c.loop-arrow.arrow-index c.loop-arrow-test.false c.loop-arrow.invariant
