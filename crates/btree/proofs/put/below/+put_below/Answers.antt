use Rattle.std.proofs.Common.{◌≡◌, ◌≤◌, ◌<◌, ◌++◌, ◌+◌, ◌*◌, ◌-◌, ℕ, suc, List, length, take, drop, sym, ◌∙◌, ap, subst, arith}
use Rattle.std.proofs.lemmas.Result.{IfOk-weaker}
use Rattle.sector_disk.specs.lemmas.Moments.{still_honest}
use Rattle.page_store.specs.declared.marks.Mark.{Mark}
use Rattle.page_store.specs.lemmas.Works.{works_then}
use Rattle.page_store.specs.Store.{reads}
use Rattle.btree.specs.declared.page.kind.Kind.{Kind}
use Rattle.btree.specs.declared.page.kind.Kind.TheVariants.{Leaf, Inner}
use Rattle.btree.specs.declared.page.widths.Widths.{Widths}
use Rattle.btree.specs.Page.{Item, IsPage, count_in, items_in}
use Rattle.std.proofs.lemmas.Result.{on_ok_weaker}
use Rattle.page_store.specs.lemmas.Frames.{read_refused, refused_since, written_since}
use Rattle.btree.proofs.puts.Faults.{passed_on, below_refused, marks_take, not_there, no_kind, too_deep, child_fails, reads_unchanged}
use Rattle.btree.proofs.puts.Levels.{put_in_leaf, put_in_inner}
use Rattle.btree.specs.lemmas.Growth.{AreWritten, IsGrownTree}
use Rattle.btree.specs.lemmas.PutItems.{listed}
use Rattle.btree.specs.declared.put.items.FewItems.{FewItems}
use Rattle.btree.proofs.put.below.+put_below.Goals as goal

-- the items that lead to what took the page's place
abbrev tops_in : Widths → FewItems → List Item
tops_in w tops = listed w Inner tops.count tops.bytes.items

-- one entry is put between two places, or on one
one_is_few : (n : ℕ) → n ≡ 1 → n ≤ 2
one_is_few n one = omega (arith, one)

one_more : (from to n : ℕ) → n ≡ 1 → from ≤ to → from + n ≤ to + 1
one_more from to n one order = omega (arith, one, order)

one_at_least : (from n rest : ℕ) → n ≡ 1 → 1 ≤ from + n + rest
one_at_least from n rest one = omega (arith, one)

-- the child is there
child_there : (place found count : ℕ) → place ≡ found - 1 → found ≤ count → 2 ≤ count → place < count
child_there place found count is within some = omega (arith, is, within, some)

pub write_spliced-requires-clause-is_page : goal.write_spliced-requires-clause-is_page
write_spliced-requires-clause-is_page g t c = c.in_ok-read_page.ensures.is_page

pub write_spliced-requires-clause-there : goal.write_spliced-requires-clause-there
write_spliced-requires-clause-there g t c = subst (λ (ms : List Mark). c.args.page < length ms)
    (sym c.in_ok-read_page.ensures.unchanged.marks) c.in_ok-read_page.ensures.within

pub write_spliced-requires-clause-form : goal.write_spliced-requires-clause-form
write_spliced-requires-clause-form g t c = subst
    (λ (k : Kind). IsPage c.args.widths k c.read_page.new.into) c.in-Some-Leaf.field-0-is c.in-Some-Leaf.ensures.some

pub write_spliced-requires-clause-few : goal.write_spliced-requires-clause-few
write_spliced-requires-clause-few g t c = one_is_few c.new_entry-entry.result.count c.new_entry-entry.ensures.count

pub write_spliced-requires-clause-one_more : goal.write_spliced-requires-clause-one_more
write_spliced-requires-clause-one_more g t c =
    one_more c.places_of-from.result.0 c.places_of-from.result.1 c.new_entry-entry.result.count c.new_entry-entry.ensures.count c.places_of-from.ensures.order

pub write_spliced-requires-clause-enough : goal.write_spliced-requires-clause-enough
write_spliced-requires-clause-enough g t c = one_at_least c.places_of-from.result.0 c.new_entry-entry.result.count _ c.new_entry-entry.ensures.count

pub write_spliced-requires-clause-whole : goal.write_spliced-requires-clause-whole
write_spliced-requires-clause-whole g t c = c.new_entry-entry.ensures.whole

pub place_of-requires : goal.place_of-requires
place_of-requires g t c = subst (λ (k : Kind). IsPage c.args.widths k c.read_page.new.into) c.in-Some-Inner.field-0-is c.in-Some-Inner.ensures.some

pub item_at-requires-clause-page : goal.item_at-requires-clause-page
item_at-requires-clause-page g t c = subst (λ (k : Kind). IsPage c.args.widths k c.read_page.new.into) c.in-Some-Inner.field-0-is c.in-Some-Inner.ensures.some

pub item_at-requires-clause-within : goal.item_at-requires-clause-within
item_at-requires-clause-within g t c =
    let inner = subst (λ (k : Kind). IsPage c.args.widths k c.read_page.new.into) c.in-Some-Inner.field-0-is c.in-Some-Inner.ensures.some in
    child_there c.saturating_sub-place.result c.place_of.result
    (count_in c.read_page.new.into) c.saturating_sub-place.ensures c.place_of.ensures.within inner.enough

pub write_led-requires-clause-is_page : goal.write_led-requires-clause-is_page
write_led-requires-clause-is_page g t c = c.in_ok-read_page.ensures.is_page

pub write_led-requires-clause-there : goal.write_led-requires-clause-there
write_led-requires-clause-there g t c =
    subst (λ (n : ℕ). c.args.page < n)
    (sym (c.in_ok-tops-in-Some-Inner.ensures.ok.works.same_pages ∙ c.in_ok-read_page.ensures.works.same_pages)) c.in_ok-read_page.ensures.within

pub write_led-requires-clause-open : goal.write_led-requires-clause-open
write_led-requires-clause-open g t c = c.in_ok-tops-in-Some-Inner.ensures.ok.open

pub write_led-requires-clause-form : goal.write_led-requires-clause-form
write_led-requires-clause-form g t c = subst (λ (k : Kind). IsPage c.args.widths k c.read_page.new.into) c.in-Some-Inner.field-0-is c.in-Some-Inner.ensures.some

pub write_led-requires-clause-within : goal.write_led-requires-clause-within
write_led-requires-clause-within g t c =
    let inner = subst (λ (k : Kind). IsPage c.args.widths k c.read_page.new.into) c.in-Some-Inner.field-0-is c.in-Some-Inner.ensures.some in
    child_there c.saturating_sub-place.result c.place_of.result
    (count_in c.read_page.new.into) c.saturating_sub-place.ensures c.place_of.ensures.within inner.enough

pub write_led-requires-clause-some : goal.write_led-requires-clause-some
write_led-requires-clause-some g t c = c.in_ok-tops-in-Some-Inner.ensures.tops.some

pub write_led-requires-clause-few : goal.write_led-requires-clause-few
write_led-requires-clause-few g t c = c.in_ok-tops-in-Some-Inner.ensures.tops.few

pub write_led-requires-clause-whole : goal.write_led-requires-clause-whole
write_led-requires-clause-whole g t c = c.in_ok-tops-in-Some-Inner.ensures.tops.whole

pub returns-in-Some-Leaf-clause-grown : goal.returns-in-Some-Leaf-clause-grown
returns-in-Some-Leaf-clause-grown g t c honest d growing =
    let w = c.args.widths in
    let key = c.args.key.now in
    let value = c.args.value.now in
    let q = c.args.page in
    let old = g.P.Pages.store c.args.store.now in
    let mid = g.P.Pages.store c.read_page.new.self in
    let new = g.P.Pages.store c.write_spliced.new.store in
    let read = c.in_ok-read_page.ensures in
    let was = items_in w Leaf c.read_page.new.into in
    let from = c.places_of-from.result.0 in
    let to = c.places_of-from.result.1 in
    let entry = c.new_entry-entry.result in
    let entries = take from was ++ (listed w Leaf entry.count entry.bytes.items ++ drop to was) in
    let leaf = subst (λ (k : Kind). IsPage w k c.read_page.new.into) c.in-Some-Leaf.field-0-is c.in-Some-Leaf.ensures.some in
    IfOk-weaker c.write_spliced.result (λ tops. AreWritten w Leaf q entries (tops_in w tops) mid new) (λ tops. IsGrownTree w key value d q (tops_in w tops) old new)
    (λ tops written. put_in_leaf w key value q old mid c.read_page.new.into honest read.works read.unchanged.marks
    (reads_unchanged old mid read.unchanged honest) (read.bytes honest)
    d new entries (tops_in w tops) leaf
    (λ ascend. ap (λ (es : List Item). take from was ++ (es ++ drop to was)) c.new_entry-entry.ensures.listed
    ∙ c.places_of-from.ensures.put ascend value) growing written)
    c.write_spliced.ensures.written

pub returns-in_ok-tops-in-Some-Inner-clause-grown : goal.returns-in_ok-tops-in-Some-Inner-clause-grown
returns-in_ok-tops-in-Some-Inner-clause-grown g t c honest d growing =
    let w = c.args.widths in
    let key = c.args.key.now in
    let value = c.args.value.now in
    let q = c.args.page in
    let page = c.read_page.new.into in
    let old = g.P.Pages.store c.args.store.now in
    let mid = g.P.Pages.store c.read_page.new.self in
    let below = g.P.Pages.store c.put_below.new.store in
    let new = g.P.Pages.store c.write_led.new.store in
    let read = c.in_ok-read_page.ensures in
    let put = c.in_ok-tops-in-Some-Inner.ensures in
    let tops = tops_in w c.in_ok-tops-in-Some-Inner.tops in
    let i = c.saturating_sub-place.result in
    let item : Item = (c.item_at.result.0.now, c.item_at.result.1.now) in
    let inner = subst (λ (k : Kind). IsPage w k page) c.in-Some-Inner.field-0-is c.in-Some-Inner.ensures.some in
    let all = take i (items_in w Inner page) ++ (tops ++ drop (i + 1) (items_in w Inner page)) in
    let items : all ≡ take i (items_in w Inner page) ++ (tops ++ drop (suc i) (items_in w Inner page)) =
    let on : i + 1 ≡ suc i = omega arith in
    λ k. take i (items_in w Inner page) ++ (tops ++ drop (on k) (items_in w Inner page)) in
    IfOk-weaker c.write_led.result (λ heads. reads below q ≡ page → AreWritten w Inner q all (tops_in w heads) below new)
    (λ heads. IsGrownTree w key value d q (tops_in w heads) old new)
    (λ heads written. put_in_inner w key value q old mid page honest read.works read.unchanged.marks
    (reads_unchanged old mid read.unchanged honest) (read.bytes honest)
    d i c.place_of.result c.read_u32-child.result item below new tops
    (tops_in w heads) inner c.saturating_sub-place.ensures c.read_u32-child.ensures c.place_of.ensures.place c.item_at.ensures.got
    put.ok.works (put.grown (still_honest read.works.goes_on honest)) growing
    (λ same. subst (λ (list : List Item). AreWritten w Inner q list (tops_in w heads) below new) items (written same)))
    c.write_led.ensures.written

pub returns-in_err-read_page-clause-err : goal.returns-in_err-read_page-clause-err
returns-in_err-read_page-clause-err g t c =
    let read = c.in_err-read_page.ensures in
    passed_on _ c.from_residual.result _ c.from_residual.ensures
    (read_refused (record { unchanged = read.unchanged; works = read.works })
    (not_there c.args.widths c.args.levels c.args.page (g.P.Pages.store c.args.store.now) (g.P.Pages.store c.read_page.new.self) _ read.cause))

pub returns-in-None-clause-err : goal.returns-in-None-clause-err
returns-in-None-clause-err g t c =
    let read = c.in_ok-read_page.ensures in
    read_refused (record { unchanged = read.unchanged; works = read.works })
    (no_kind c.args.widths c.args.levels c.args.page (g.P.Pages.store c.args.store.now) c.read_page.new.into read.bytes c.in-None.ensures.none)

pub returns-then-levels-eq0-clause-err : goal.returns-then-levels-eq0-clause-err
returns-then-levels-eq0-clause-err g t c =
    let read = c.in_ok-read_page.ensures in
    read_refused (record { unchanged = read.unchanged; works = read.works })
    (too_deep c.args.widths c.args.levels c.args.page (g.P.Pages.store c.args.store.now) c.read_page.new.into c.if-levels-eq0.true read.bytes
    (subst (λ (k : Kind). IsPage c.args.widths k c.read_page.new.into) c.in-Some-Inner.field-0-is c.in-Some-Inner.ensures.some))

pub returns-in-Some-Leaf-clause-tops : goal.returns-in-Some-Leaf-clause-tops
returns-in-Some-Leaf-clause-tops g t c = c.write_spliced.ensures.tops

pub returns-in-Some-Leaf-clause-ok : goal.returns-in-Some-Leaf-clause-ok
returns-in-Some-Leaf-clause-ok g t c =
    let read = c.in_ok-read_page.ensures in
    on_ok_weaker c.write_spliced.result (λ it. written_since 0 read.works (marks_take read.unchanged.marks) (omega arith) it) c.write_spliced.ensures.ok

pub returns-in-Some-Leaf-clause-err : goal.returns-in-Some-Leaf-clause-err
returns-in-Some-Leaf-clause-err g t c =
    let old = g.P.Pages.store c.args.store.now in
    let mid = g.P.Pages.store c.read_page.new.self in
    let new = g.P.Pages.store c.write_spliced.new.store in
    let read = c.in_ok-read_page.ensures in
    below_refused c.args.widths c.args.levels c.args.page 0 old mid new (2 * c.args.levels + 2) c.write_spliced.result read.works read.open
    (marks_take read.unchanged.marks) (omega arith)
    c.write_spliced.ensures.err

pub returns-in_err-tops-in-Some-Inner-clause-err : goal.returns-in_err-tops-in-Some-Inner-clause-err
returns-in_err-tops-in-Some-Inner-clause-err g t c =
    let store = g.P.Pages.store in
    let read = c.in_ok-read_page.ensures in
    let item : Item = (c.item_at.result.0.now, c.item_at.result.1.now) in
    passed_on _ c.from_residual-in_err-tops-in-Some-Inner.result _ c.from_residual-in_err-tops-in-Some-Inner.ensures
    (refused_since 0 read.works read.unchanged.closed (marks_take read.unchanged.marks) (omega arith)
    (child_fails c.args.widths c.args.levels c.args.page _ c.read_u32-child.result item (store c.args.store.now)
    (store c.read_page.new.self) (store c.put_below.new.store) c.read_page.new.into _
    c.read_u32-child.ensures read.works read.unchanged.marks (reads_unchanged _ _ read.unchanged) read.open read.bytes
    (subst (λ (k : Kind). IsPage c.args.widths k c.read_page.new.into) c.in-Some-Inner.field-0-is c.in-Some-Inner.ensures.some) c.item_at.ensures.got)
    c.in_err-tops-in-Some-Inner.ensures.err)

pub returns-in_ok-tops-in-Some-Inner-clause-tops : goal.returns-in_ok-tops-in-Some-Inner-clause-tops
returns-in_ok-tops-in-Some-Inner-clause-tops g t c = c.write_led.ensures.tops

pub returns-in_ok-tops-in-Some-Inner-clause-ok : goal.returns-in_ok-tops-in-Some-Inner-clause-ok
returns-in_ok-tops-in-Some-Inner-clause-ok g t c =
    let read = c.in_ok-read_page.ensures in
    let put = c.in_ok-tops-in-Some-Inner.ensures.ok in
    on_ok_weaker c.write_led.result
    (λ it. written_since (2 * (c.args.levels - 1) + 2) (works_then read.works put.works) (omega (arith, marks_take read.unchanged.marks, put.takes))
    (omega (arith, c.if-levels-eq0.false)) it) c.write_led.ensures.ok

pub returns-in_ok-tops-in-Some-Inner-clause-err : goal.returns-in_ok-tops-in-Some-Inner-clause-err
returns-in_ok-tops-in-Some-Inner-clause-err g t c =
    let old = g.P.Pages.store c.args.store.now in
    let mid = g.P.Pages.store c.put_below.new.store in
    let new = g.P.Pages.store c.write_led.new.store in
    let read = c.in_ok-read_page.ensures in
    let put = c.in_ok-tops-in-Some-Inner.ensures.ok in
    below_refused c.args.widths c.args.levels c.args.page (2 * (c.args.levels - 1) + 2) old mid new
    (2 * c.args.levels + 2) c.write_led.result (works_then read.works put.works) put.open
    (omega (arith, marks_take read.unchanged.marks, put.takes)) (omega (arith, c.if-levels-eq0.false)) c.write_led.ensures.err
