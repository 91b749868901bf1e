use Rattle.std.proofs.Common.{◌≡◌, ◌≤◌, ◌<◌, ◌+◌, ◌-◌, ◌*◌, ◌∙◌, ◌∷◌, ◌++◌, [], ℕ, List, Some, length, take, drop, sym, ap, subst, Fits, w64, arith}
use Rattle.byteorder.specs.Endian.{big_bytes}
use Rattle.page_store.specs.lemmas.Works.{works_then}
use Rattle.btree.specs.declared.page.kind.Kind.{Kind}
use Rattle.btree.specs.declared.page.kind.Kind.TheVariants.{Leaf, Inner}
use Rattle.btree.specs.declared.page.widths.Widths.{Widths}
use Rattle.btree.specs.Page.{Item, IsPage, behind_of, count_in, item_width, items_in, items_of, least_of}
use Rattle.btree.specs.Entries.{first_key}
use Rattle.btree.specs.lemmas.Growth.{AreWritten}
use Rattle.btree.specs.lemmas.PutItems.{listed, AreFewTops}
use Rattle.page_store.specs.Marks.{free_count}
use Rattle.page_store.specs.lemmas.Frames.{refused_within}
use Rattle.btree.proofs.puts.InPlace.{of_both}
use Rattle.btree.proofs.puts.Faults.{passed_on, not_written, refused_after}
use Rattle.btree.proofs.pages.Room.{width_word, few_items, more_word, total_word, key_word, key_within, head_first, key_long}
use Rattle.btree.proofs.pages.ItemBytes.{mul-mono, narrow}
use Rattle.btree.proofs.puts.WrittenItems.{leads_back, first_of, written_one}
use Rattle.btree.proofs.put.write.write_spliced.Goals as goal

some : (kind : Kind) (n : ℕ) → least_of kind ≤ n → 1 ≤ n
some Leaf n enough = enough
some Inner n enough = omega (arith, enough)

-- the items are listed, as on one page
as_listed : (key n m : ℕ) (none first : List ℕ) (k : List ℕ) (q : ℕ) → n ≡ 0 → items_of key 4 m first ≡ items_of key 4 n none ++ (k, big_bytes 4 q) ∷ []
    → items_of key 4 m first ≡ (k, big_bytes 4 q) ∷ []
as_listed key n m none first k q empty more = more ∙ ap (λ (n : ℕ). items_of key 4 n none ++ (k, big_bytes 4 q) ∷ []) empty

-- how many items there are, and how many bytes
full_word : (w : Widths) (kind : Kind) (b from count to n all : ℕ) → b ≡ behind_of w kind → from + count ≤ to + 1 → to ≤ n → n ≤ 4092 → all ≡ n
    → Fits w64 ((from + count + (all - to)) * (w.key + b))
full_word w kind b from count to n all is one_more within few same =
    let less = mul-mono (from + count + (all - to)) 4093 (w.key + b) (omega (arith, one_more, within, few, same)) in
    omega (arith, less, narrow w kind, is)

as_wide : (w : Widths) (kind : Kind) (b from count to n all : ℕ) → b ≡ behind_of w kind → all ≡ n
    → (from + count + (all - to)) * (w.key + b) ≡ (from + count + (n - to)) * item_width w kind
as_wide w kind b from count to n all is same = λ i. (from + count + (same i - to)) * (w.key + is i)

-- one item, or two
none_whole : (wide n : ℕ) (bytes : List ℕ) → n ≡ 0 → bytes ≡ [] → length bytes ≡ n * wide
none_whole wide n bytes none nothing =
    let product : n * wide ≡ 0 * wide = ap (λ (n : ℕ). n * wide) none in
    omega (arith, product, ap length nothing)

none_is_few : (n : ℕ) → n ≡ 0 → n ≤ 1
none_is_few n none = omega (arith, none)

one_is_few : (n m : ℕ) → m ≡ n + 1 → n ≡ 0 → m ≤ 2
one_is_few n m more none = omega (arith, more, none)

one_is_some : (n m : ℕ) → m ≡ n + 1 → 1 ≤ m
one_is_some n m more = omega (arith, more)

two_is_few : (n : ℕ) → n ≡ 2 → n ≤ 2
two_is_few n two = omega (arith, two)

two_is_some : (n : ℕ) → n ≡ 2 → 1 ≤ n
two_is_some n two = omega (arith, two)

pub returns-clause-written : goal.returns-clause-written
returns-clause-written g c =
    let w = c.args.widths in
    let kind = c.args.kind in
    let items = c.args.items.now in
    let was = items_in w kind c.args.bytes.now in
    let now = c.splice_in.new.page in
    let old = g.P.Pages.store c.args.store.now in
    let new = g.P.Pages.store c.write_page.new.self in
    let first = c.in_ok-first.ensures.ok in
    let wrote = c.in_ok-write_page.ensures in
    let q = c.in_ok-first.first in
    let few = (g.met.P.Pages.sound c.args.store.now).few in
    let list : List Item = take c.args.from was ++ (listed w kind items.count items.bytes.items ++ drop c.args.to was) in
    let key : List ℕ = take (4 + w.key - 4) (drop 4 now) in
    let amount : 4 + w.key - 4 ≡ w.key = omega arith in
    let top : Item = (key, big_bytes 4 q) in
    let are : items_in w kind now ≡ list = c.splice_in.ensures.items
    ∙ ap (λ (bs : List ℕ). take c.args.from was ++ (items_of w.key (behind_of w kind) items.count bs ++ drop c.args.to was)) c.deref.ensures.0 in
    subst (λ (tops : List Item). AreWritten w kind c.args.page list tops old new)
    (sym (as_listed w.key c.no_few_items-tops.result.count c.lead_to.new.items.count c.no_few_items-tops.result.bytes.items c.lead_to.new.items.bytes.items key q c.no_few_items-tops.ensures.count c.lead_to.ensures.listed))
    (written_one w kind c.args.page old list q top (g.P.Pages.store c.renewed.new.store) new
    (leads_back q (omega (arith, first.there, few)))
    (sym (ap first_key are) ∙ first_of w.key (behind_of w kind) (count_in now) (drop 4 now)
    (some kind (count_in now) c.splice_in.ensures.page.enough) ∙ ap (λ (n : ℕ). Some (take n (drop 4 now))) (sym amount))
    first.place first.works first.is_page first.there (λ honest. subst (IsPage w kind) (sym (wrote.written honest)) c.splice_in.ensures.page)
    (λ honest. ap (items_in w kind) (wrote.written honest) ∙ are) wrote.others wrote.marks)

pub overflow_add-total : goal.overflow_add-total
overflow_add-total g c =
    let few = few_items c.args.widths c.args.kind (count_in c.args.bytes.now) c.requires.form.fits in
    more_word c.args.from c.args.items.now.count c.args.to (count_in c.args.bytes.now) c.requires.one_more c.requires.within few

pub overflow_sub-total : goal.overflow_sub-total
overflow_sub-total g c =
    subst (λ (n : ℕ). c.args.to ≤ n) (sym c.count_of.ensures) c.requires.within

pub overflow_add-total-2 : goal.overflow_add-total-2
overflow_add-total-2 g c =
    let few = few_items c.args.widths c.args.kind (count_in c.args.bytes.now) c.requires.form.fits in
    total_word c.args.from c.args.items.now.count c.args.to
    (count_in c.args.bytes.now) c.count_of.result c.requires.one_more c.requires.within few c.count_of.ensures

pub overflow_add-widths : goal.overflow_add-widths
overflow_add-widths g c =
    width_word c.args.widths c.args.kind c.behind_of.result c.behind_of.ensures

pub overflow_mul-total : goal.overflow_mul-total
overflow_mul-total g c =
    let few = few_items c.args.widths c.args.kind (count_in c.args.bytes.now) c.requires.form.fits in
    full_word c.args.widths c.args.kind c.behind_of.result c.args.from c.args.items.now.count c.args.to
    (count_in c.args.bytes.now) c.count_of.result c.behind_of.ensures c.requires.one_more c.requires.within few c.count_of.ensures

pub write_split-requires-clause-is_page : goal.write_split-requires-clause-is_page
write_split-requires-clause-is_page g c =
    c.requires.is_page

pub write_split-requires-clause-there : goal.write_split-requires-clause-there
write_split-requires-clause-there g c =
    c.requires.there

pub write_split-requires-clause-form : goal.write_split-requires-clause-form
write_split-requires-clause-form g c =
    c.requires.form

pub write_split-requires-clause-order : goal.write_split-requires-clause-order
write_split-requires-clause-order g c =
    c.requires.order

pub write_split-requires-clause-within : goal.write_split-requires-clause-within
write_split-requires-clause-within g c =
    c.requires.within

pub write_split-requires-clause-few : goal.write_split-requires-clause-few
write_split-requires-clause-few g c =
    c.requires.few

pub write_split-requires-clause-one_more : goal.write_split-requires-clause-one_more
write_split-requires-clause-one_more g c =
    c.requires.one_more

pub write_split-requires-clause-whole : goal.write_split-requires-clause-whole
write_split-requires-clause-whole g c =
    c.requires.whole

pub write_split-requires-clause-full : goal.write_split-requires-clause-full
write_split-requires-clause-full g c =
    subst (λ (n : ℕ). 4092 < n) (as_wide c.args.widths c.args.kind c.behind_of.result c.args.from c.args.items.now.count c.args.to
    (count_in c.args.bytes.now) c.count_of.result c.behind_of.ensures c.count_of.ensures) c.if-total-widths-gt-ROOM.true

pub returns-then-total-widths-gt-ROOM-clause-written : goal.returns-then-total-widths-gt-ROOM-clause-written
returns-then-total-widths-gt-ROOM-clause-written g c =
    c.write_split.ensures.written

pub renewed-requires-clause-is_page : goal.renewed-requires-clause-is_page
renewed-requires-clause-is_page g c =
    c.requires.is_page

pub renewed-requires-clause-there : goal.renewed-requires-clause-there
renewed-requires-clause-there g c =
    c.requires.there

pub splice_in-requires-clause-page : goal.splice_in-requires-clause-page
splice_in-requires-clause-page g c =
    c.requires.form

pub splice_in-requires-clause-order : goal.splice_in-requires-clause-order
splice_in-requires-clause-order g c =
    c.requires.order

pub splice_in-requires-clause-within : goal.splice_in-requires-clause-within
splice_in-requires-clause-within g c =
    c.requires.within

pub splice_in-requires-clause-few : goal.splice_in-requires-clause-few
splice_in-requires-clause-few g c =
    c.requires.few

pub splice_in-requires-clause-enough : goal.splice_in-requires-clause-enough
splice_in-requires-clause-enough g c =
    c.requires.enough

pub splice_in-requires-clause-whole : goal.splice_in-requires-clause-whole
splice_in-requires-clause-whole g c =
    ap length c.deref.ensures.0 ∙ c.requires.whole

pub splice_in-requires-clause-room : goal.splice_in-requires-clause-room
splice_in-requires-clause-room g c =
    subst (λ (n : ℕ). n ≤ 4092) (as_wide c.args.widths c.args.kind c.behind_of.result c.args.from c.args.items.now.count c.args.to
    (count_in c.args.bytes.now) c.count_of.result c.behind_of.ensures c.count_of.ensures) c.if-total-widths-gt-ROOM.false

pub write_page-requires : goal.write_page-requires
write_page-requires g c =
    c.in_ok-first.ensures.ok.fresh

pub overflow_add-widths-2 : goal.overflow_add-widths-2
overflow_add-widths-2 g c =
    key_word c.args.widths

pub slice_bounds-lead_to-end : goal.slice_bounds-lead_to-end
slice_bounds-lead_to-end g c =
    key_within c.args.widths

pub slice_bounds-lead_to-count : goal.slice_bounds-lead_to-count
slice_bounds-lead_to-count g c =
    head_first c.args.widths.key

pub slice_bounds-lead_to-start : goal.slice_bounds-lead_to-start
slice_bounds-lead_to-start g c =
    head_first c.args.widths.key

pub lead_to-requires-clause-key : goal.lead_to-requires-clause-key
lead_to-requires-clause-key g c =
    key_long c.args.widths c.splice_in.new.page c.splice_in.ensures.page.long

pub lead_to-requires-clause-few : goal.lead_to-requires-clause-few
lead_to-requires-clause-few g c =
    none_is_few c.no_few_items-tops.result.count c.no_few_items-tops.ensures.count

pub lead_to-requires-clause-whole : goal.lead_to-requires-clause-whole
lead_to-requires-clause-whole g c =
    none_whole (item_width c.args.widths Inner) c.no_few_items-tops.result.count c.no_few_items-tops.result.bytes.items c.no_few_items-tops.ensures.count c.no_few_items-tops.ensures.bytes

pub returns-then-total-widths-gt-ROOM-clause-tops : goal.returns-then-total-widths-gt-ROOM-clause-tops
returns-then-total-widths-gt-ROOM-clause-tops g c =
    of_both (λ tops. tops.count ≡ 2) (λ tops. length tops.bytes.items ≡ tops.count * item_width c.args.widths Inner)
    (λ tops. AreFewTops c.args.widths tops.count tops.bytes.items) c.write_split.result
    (λ tops two whole. record { some = two_is_some tops.count two; few = two_is_few tops.count two; whole = whole })
    c.write_split.ensures.two c.write_split.ensures.whole

pub returns-then-total-widths-gt-ROOM-clause-ok : goal.returns-then-total-widths-gt-ROOM-clause-ok
returns-then-total-widths-gt-ROOM-clause-ok g c = c.write_split.ensures.ok

pub returns-then-total-widths-gt-ROOM-clause-err : goal.returns-then-total-widths-gt-ROOM-clause-err
returns-then-total-widths-gt-ROOM-clause-err g c = c.write_split.ensures.err

pub returns-in_err-first-clause-err : goal.returns-in_err-first-clause-err
returns-in_err-first-clause-err g c = passed_on _ c.from_residual.result _ c.from_residual.ensures (refused_within c.in_err-first.ensures.err (omega arith))

pub returns-in_err-write_page-clause-err : goal.returns-in_err-write_page-clause-err
returns-in_err-write_page-clause-err g c =
    let first = c.in_ok-first.ensures.ok in
    let wrote = c.in_err-write_page.ensures in
    passed_on _ c.from_residual-in_err-write_page.result _ c.from_residual-in_err-write_page.ensures
    (refused_after 1 first.works first.closed first.takes (omega arith) (not_written wrote.works wrote.marks wrote.untouched wrote.cause))

pub returns-clause-tops : goal.returns-clause-tops
returns-clause-tops g c = record {
  some = one_is_some c.no_few_items-tops.result.count c.lead_to.new.items.count c.lead_to.ensures.count;
  few = one_is_few c.no_few_items-tops.result.count c.lead_to.new.items.count c.lead_to.ensures.count c.no_few_items-tops.ensures.count;
  whole = c.lead_to.ensures.whole;
}

pub returns-clause-ok : goal.returns-clause-ok
returns-clause-ok g c =
    let first = c.in_ok-first.ensures.ok in
    let wrote = c.in_ok-write_page.ensures in
    record { works = works_then first.works wrote.works; «open» = wrote.open; takes = omega (arith, first.takes, ap free_count wrote.marks) }
