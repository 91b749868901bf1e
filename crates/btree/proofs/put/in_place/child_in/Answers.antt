use Rattle.std.proofs.Common.{List, ◌∙◌, ap, sym}
use Rattle.std.specs.List.{slice_get}
use Rattle.btree.specs.declared.page.kind.Kind.TheVariants.{Inner}
use Rattle.btree.specs.Page.{Item, items_in}
use Rattle.btree.proofs.put.in_place.child_in.Goals as goal

pub returns : goal.returns
returns c =
    let items : List Item = items_in c.args.widths Inner c.args.bytes.now in
    record {
      place = c.place_of.result;
      item = (c.item_at.result.0.now, c.item_at.result.1.now);
      fits = c.place_of.ensures.place;
      got = ap (slice_get items) (sym c.saturating_sub-at.ensures) ∙ c.item_at.ensures.got;
      leads = c.read_u32.ensures;
    }
