use Rattle.std.proofs.Common.{ℕ, List, ◌++◌, ◌∷◌, [], length, ap, ◌∙◌}
use Rattle.btree.specs.declared.page.kind.Kind.TheVariants.{Inner}
use Rattle.btree.specs.lemmas.PutItems.{listed}
use Rattle.btree.proofs.pages.ItemBytes.{one_more}
use Rattle.btree.proofs.put.items.lead_to.Goals as goal

pub returns-clause-listed : goal.returns-clause-listed
returns-clause-listed c =
    one_more c.args.widths.key 4 c.args.items.now.count c.args.items.now.bytes.items c.args.key.now c.write_u32.new.buf c.put_bytes.new.bytes.items c.put_bytes-2.new.bytes.items
    c.requires.whole c.requires.key (ap length c.write_u32.ensures) c.put_bytes.ensures c.put_bytes-2.ensures
    ∙ ap (λ (v : List ℕ). listed c.args.widths Inner c.args.items.now.count c.args.items.now.bytes.items ++ (c.args.key.now, v) ∷ []) c.write_u32.ensures
