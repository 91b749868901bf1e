use Rattle.std.proofs.Common.{[], ◌∷◌}
use Rattle.std.specs.Fmt.{decimal}
use Rattle.session_lines.proofs.PartLemmas.{on_err, on_err_by, part_before, part_behind}
use Rattle.session_lines.proofs.puts.put_position.Goals as goal

pub returns-in_err-put_bytes-in-KeeperChooses-clause-part : goal.returns-in_err-put_bytes-in-KeeperChooses-clause-part
returns-in_err-put_bytes-in-KeeperChooses-clause-part g c =
    rw c.in-KeeperChooses.is (on_err c.from_residual.result (part_before (decimal c.in-KeeperChooses.number) c.in_err-put_bytes-in-KeeperChooses.ensures.part))

pub returns-in_ok-put_bytes-in-KeeperChooses-clause-part : goal.returns-in_ok-put_bytes-in-KeeperChooses-clause-part
returns-in_ok-put_bytes-in-KeeperChooses-clause-part g c =
    rw c.in-KeeperChooses.is (on_err_by c.put_decimal.result (part_behind (32 ∷ []) c.in_ok-put_bytes-in-KeeperChooses.ensures.all) c.put_decimal.ensures.part)
