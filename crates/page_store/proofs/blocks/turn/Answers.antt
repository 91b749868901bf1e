use Rattle.std.proofs.Common.{◌≡◌, ◌<◌, ◌≤◌, ◌∙◌, false, length, sym, arith}
use Rattle.std.proofs.lemmas.List.{get_or_default}
use Rattle.page_store.specs.Blocks.{noted_at}
use Rattle.page_store.proofs.TurnedMarks.{turned_idle, blocks_none, next_rests, blocks_more, blocks_all, blocks_noted}
use Rattle.page_store.proofs.blocks.turn.Goals as goal

pub loop-block-init : goal.loop-block-init
loop-block-init c = blocks_none _ _ _ c.requires

pub turn_block-requires-clause-within : goal.turn_block-requires-clause-within
turn_block-requires-clause-within c = omega (arith, c.len-block-end.ensures, c.requires.few, c.loop-block-test.true)

pub turn_block-requires-clause-rest : goal.turn_block-requires-clause-rest
turn_block-requires-clause-rest c = λ none.
    let here : c.loop-block.block < length c.loop-block.noted.items =
    omega (arith, c.len-block-end.ensures, c.loop-block.invariant.same_blocks, c.loop-block-test.true) in
    let is : c.index.result.now ≡ noted_at c.loop-block.noted.items c.loop-block.block = c.index.ensures ∙ get_or_default _ _ _ false here in
    next_rests _ _ _ _ _ _ c.requires c.loop-block.invariant (sym is ∙ none)

pub loop-block-preserved : goal.loop-block-preserved
loop-block-preserved c =
    let within : c.loop-block.block < length c.args.noted.now.items = omega (arith, c.len-block-end.ensures, c.loop-block-test.true) in
    blocks_more _ _ _ _ _ _ c.requires c.loop-block.invariant _ _ within c.turn_block.ensures

pub returns : goal.returns
returns c =
    let end : length c.args.noted.now.items ≤ c.loop-block.block = omega (arith, c.len-block-end.ensures, c.loop-block-test.false) in
    let idle = turned_idle c.args.fresh c.args.released c.args.waiting in
    record {
      turned = record { same_length = c.loop-block.invariant.same_length; each = blocks_all _ _ _ _ _ _ c.requires c.loop-block.invariant idle end };
      noted = blocks_noted _ _ _ _ _ _ c.requires c.loop-block.invariant idle end;
    }
