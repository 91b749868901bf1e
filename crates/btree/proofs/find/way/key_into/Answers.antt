use Rattle.std.proofs.Common.{ℕ, List, Option, None, ◌≡◌, ◌≤◌, ap, sym, drop, arith}
use Rattle.std.proofs.lemmas.Option.{slice_get_past}
use Rattle.std.specs.List.{slice_get}
use Rattle.std.specs.Option.{option_map}
use Rattle.btree.specs.lemmas.Items.{length-items}
use Rattle.btree.specs.Page.{Item, items_of, count_in}
use Rattle.btree.proofs.find.way.key_into.Goals as goal

none_there : (k b count : ℕ) (bytes : List ℕ) (n : ℕ) → count ≤ n → None ≡ option_map (λ (e : Item). e.0) (slice_get (items_of k b count bytes) n)
none_there k b count bytes n past =
    let es = items_of k b count bytes in
    ap (λ (o : Option Item). option_map (λ e. e.0) o) (sym (slice_get_past es n (omega (arith, past, length-items k b count bytes))))

pub returns-else-place-count_of-clause-key : goal.returns-else-place-count_of-clause-key
returns-else-place-count_of-clause-key c =
    none_there c.args.widths.key 4 (count_in c.args.bytes.now) (drop 4 c.args.bytes.now) c.args.place
    (omega (arith, c.if-place-count_of.false, c.count_of.ensures))
