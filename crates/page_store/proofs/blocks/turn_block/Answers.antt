use Rattle.std.proofs.Common.{◌≡◌, ◌+◌, ◌*◌, arith}
use Rattle.page_store.proofs.TurnedMarks.{turned_idle, part_none, part_then, part_idle, part_done, past_rests}
use Rattle.page_store.proofs.blocks.turn_block.Goals as goal

pub loop-page-init : goal.loop-page-init
loop-page-init c = part_none _ _ _

pub loop-page-preserved : goal.loop-page-preserved
loop-page-preserved c =
    part_then _ (256 * c.args.block) c.loop-page.page (c.loop-page.page + 1) c.loop-page.goes_on c.turn_page-here.result c.either-goes_on.result _ _ _
    (omega arith) (omega arith) c.either-goes_on.ensures.first c.either-goes_on.ensures.second c.loop-page.invariant c.turn_page-here.ensures

pub returns-then-not-noted : goal.returns-then-not-noted
returns-then-not-noted c = part_idle _ _ _ _ (turned_idle c.args.fresh c.args.released c.args.waiting) (c.requires.rest c.if-not-noted.true)

pub returns-then-start-pages : goal.returns-then-start-pages
returns-then-start-pages c =
    part_idle _ _ _ _ (turned_idle c.args.fresh c.args.released c.args.waiting)
    (λ p low high. past_rests c.args.marks.now.items p (omega (arith, low, c.if-start-pages.true, c.len-pages.ensures)))

pub returns : goal.returns
returns c =
    let end : c.loop-page.page ≡ c.min-end.result = omega arith in
    part_done _ (256 * c.args.block) (256 * c.args.block + 256) c.loop-page.page c.loop-page.goes_on _ _
    (turned_idle c.args.fresh c.args.released c.args.waiting)
    (omega arith) (omega (arith, c.min-end.ensures)) (λ early. omega (arith, early, c.len-pages.ensures, c.min-end.ensures)) c.loop-page.invariant

pub turn_page-here-requires : goal.turn_page-here-requires
turn_page-here-requires c = omega (arith, c.len-pages.ensures, c.min-end.ensures, c.loop-page.invariant.same_length, c.loop-page-test.true)
