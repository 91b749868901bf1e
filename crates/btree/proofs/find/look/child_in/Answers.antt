use Rattle.std.proofs.Common.{List, suc, ◌-◌, ◌∙◌, refl, ap, sym}
use Rattle.std.specs.List.{slice_get}
use Rattle.std.specs.Option.{option_map}
use Rattle.btree.specs.declared.page.kind.Kind.TheVariants.{Inner}
use Rattle.btree.specs.Page.{Item, items_in}
use Rattle.btree.proofs.find.look.child_in.Goals as goal

pub returns : goal.returns
returns c =
    let items : List Item = items_in c.args.widths Inner c.args.bytes.now in (
      option_map (λ e. e.0) (slice_get items (suc (c.place_of.result - 1))),
      record {
        place = c.place_of.result;
        child = (c.item_at.result.0.now, c.item_at.result.1.now);
        fits = c.place_of.ensures.place;
        got = ap (slice_get items) (sym c.saturating_sub-at.ensures) ∙ c.item_at.ensures.got;
        leads = c.read_u32.ensures;
        next_is = refl;
      },
    )
