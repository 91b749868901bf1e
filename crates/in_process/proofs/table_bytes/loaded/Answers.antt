use Rattle.rbg_game.specs.Goals.{points_of}
use Rattle.session.specs.Commands.{IsLoad}
use Rattle.tree_table.specs.Held.{StoresTrees}
use Rattle.in_process.specs.Calls.{IsCalled}
use Rattle.in_process.proofs.Answered.{same_call}
use Rattle.in_process.proofs.table_bytes.loaded.Goals as goal

pub returns : goal.returns
returns c =
    same_call (λ text. IsLoad (StoresTrees 3) text (points_of c.args.goal)) (c.in-Ok.ensures.items_if_clones_equal (λ x y same. same))
    (IsCalled.called _ (record {
      contents = c.in-Ok-from_bytes.ensures.contents;
      synced = c.in-Ok-from_bytes.ensures.synced;
      honest = c.in-Ok-from_bytes.ensures.honest;
    })
    c.commanded.ensures)
