use Rattle.std.proofs.Common.{drop, arith}
use Rattle.std.proofs.lemmas.List.{take_all, length-drop}
use Rattle.page_chain.proofs.page.payload_of.Goals as goal

pub returns : goal.returns
returns c = take_all 4092 (drop 4 c.args.bytes.now) (omega (arith, length-drop 4 c.args.bytes.now, c.told-bytes))
