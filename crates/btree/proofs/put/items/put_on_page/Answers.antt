use Rattle.std.proofs.Common.{◌≡◌, ◌∙◌, ◌++◌, ◌+◌, ◌-◌, ◌*◌, ◌≤◌, ℕ, List, length, take, drop, ap, refl, arith, length-append}
use Rattle.std.specs.List.{copy_within}
use borrow.Rule.Slice.PartMut.{put_mid}
use Rattle.btree.specs.declared.page.kind.Kind.TheVariants.{Leaf}
use Rattle.btree.specs.Page.{Item, count_in, items_in}
use Rattle.btree.proofs.pages.ItemBytes.{one_item, page_listed}
use Rattle.btree.proofs.pages.TwoPuts.{two_puts}
use Rattle.btree.proofs.put.items.put_on_page.Goals as goal

pub returns-clause-items : goal.returns-clause-items
returns-clause-items c =
    let w = c.args.widths in
    let page = c.args.page.now in
    let key = c.args.key.now in
    let value = c.args.value.now in
    let is = c.requires.page in
    let was : List Item = items_in w Leaf page in
    let start : ℕ = 4 + c.args.from * (w.key + w.value) in
    let behind : ℕ = start + length key in
    let end : ℕ = behind + length value in
    let moved : List ℕ = c.move_within.new.page in
    let both : length (key ++ value) ≡ length key + length value = length-append key value in
    let end_is : end ≡ start + length (key ++ value) = omega (arith, both) in
    let whole : length (key ++ value) ≡ 1 * (w.key + w.value) = omega (arith, both, c.requires.key, c.requires.value) in
    let rest : ℕ = 4 + c.args.to * (w.key + w.value) in
    let last : ℕ = 4 + c.count_of-all.result * (w.key + w.value) in
    let one : moved ≡ copy_within page rest last (start + length (key ++ value)) =
    c.move_within.ensures ∙ ap (λ n. copy_within page rest last n) end_is in
    let room : end ≤ length moved = omega arith in
    let new : List ℕ = put_mid behind (end - behind) (put_mid start (behind - start) moved c.copy_from_slice.new.self) c.copy_from_slice-2.new.self in
    let two : new ≡ put_mid start (start + length (key ++ value) - start) moved (key ++ value) =
    (λ i. put_mid behind (end - behind) (put_mid start (behind - start) moved (c.copy_from_slice.ensures.after i)) (c.copy_from_slice-2.ensures.after i))
    ∙ two_puts moved key value start behind end refl refl room in
    page_listed w.key w.value w.value c.args.from c.args.to (count_in page) 1 c.count_of-all.result page moved (key ++ value) (key ++ value)
    new refl is.long c.requires.order c.requires.within is.fits c.count_of-all.ensures whole c.requires.room one refl two _ _
    c.set_count.ensures.items c.set_count.ensures.count
    ∙ ap (λ (es : List Item). take c.args.from was ++ (es ++ drop c.args.to was)) (one_item w.key w.value key value c.requires.key c.requires.value)
