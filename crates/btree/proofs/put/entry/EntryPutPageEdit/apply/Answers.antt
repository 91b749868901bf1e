use Rattle.std.proofs.Common.{◌∙◌, ◌∷◌, List, drop, ap}
use Rattle.btree.specs.declared.page.kind.Kind.TheVariants.{Leaf}
use Rattle.btree.specs.Page.{Item, items_in}
use Rattle.btree.specs.Entries.{first_key}
use Rattle.btree.proofs.puts.InPlace.{first_kept}
use Rattle.btree.proofs.put.entry.EntryPutPageEdit.apply.Goals as goal

pub returns : goal.returns
returns c =
    let w = c.args.self.now.widths in
    let key = c.args.self.now.key.now in
    let value = c.args.self.now.value.now in
    let was : List Item = items_in w Leaf c.args.page.now in
    let from = c.args.span.from in
    let to = c.args.span.to in
    record {
      leaf = c.requires.leaf;
      page = c.put_on_page.ensures.page;
      items = λ ascend. c.put_on_page.ensures.items ∙ c.requires.put ascend value;
      new_key = c.requires.new_key;
      first = λ ascend k first. ap first_key c.put_on_page.ensures.items ∙ first_kept from was ((key, value) ∷ drop to was) k c.requires.some first;
    }
