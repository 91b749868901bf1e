use Rattle.std.proofs.Common.{◌≡◌, ◌/◌, min, length, take, ap, ◌∙◌, rules}
use Rattle.std.proofs.lemmas.List.{take_min}
use Rattle.session.specs.Commands.{IsGrow}
use Rattle.tree_table.specs.Held.{StoresTrees}
use Rattle.in_process.specs.Calls.{IsCalled}
use Rattle.in_process.proofs.Answered.{same_bytes, same_call}
use Rattle.in_process.proofs.table_bytes.rbg_grow.Goals as goal

pub returns : goal.returns
returns c =
    let first : c.min-first.result ≡ min c.args.had (length c.args.table.now) = search rules in
    let pages : c.min-pages.result ≡ min (length c.args.table.now / 4096) 4294967295 = search rules in
    same_bytes (ap (λ n. take n c.args.table.now) first ∙ take_min c.args.had c.args.table.now)
    (same_call (IsGrow (StoresTrees 3)) pages
    (IsCalled.called _ (record { contents = c.in-Ok.ensures.contents; synced = c.in-Ok.ensures.synced; honest = c.in-Ok.ensures.honest })
    c.commanded.ensures))
