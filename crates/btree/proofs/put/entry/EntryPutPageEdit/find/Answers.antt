use Rattle.std.proofs.Common.{refl, subst, arith}
use Rattle.btree.specs.declared.page.kind.Kind.{Kind}
use Rattle.btree.specs.Page.{IsPage}
use Rattle.btree.proofs.put.entry.EntryPutPageEdit.find.Goals as goal

pub returns : goal.returns
returns c = record {
  leaf = subst (λ (k : Kind). IsPage c.args.self.now.widths k c.args.page.now) c.in-Some-Leaf.field-0-is c.in-Some-Leaf.ensures.some;
  some = omega arith;
  order = c.places_of-from.ensures.order;
  within = c.places_of-from.ensures.within;
  room = c.if-not-has_room.ensures refl;
  put = c.places_of-from.ensures.put;
  new_key = λ only. c.places_of-from.ensures.new_key (omega (arith, c.places_of-from.ensures.order, c.is_kept.ensures c.if-is_kept.false only));
}
