use Rattle.std.proofs.Common.{◌≡◌, ◌≤◌, ◌<◌, ◌+◌, ◌-◌, ◌∙◌, ◌++◌, ℕ, List, Some, take, drop, refl, sym, ap, subst, Fits, w64, arith}
use Rattle.std.proofs.lemmas.Result.{IfOk-weaker}
use Rattle.byteorder.specs.Endian.{big_bytes}
use Rattle.page_store.specs.Store.{reads}
use Rattle.page_store.specs.lemmas.Works.{works_refl}
use Rattle.btree.specs.declared.page.kind.Kind.TheVariants.{Inner}
use Rattle.btree.specs.Page.{Item, IsPage, count_in, items_in}
use Rattle.btree.specs.Entries.{first_key}
use Rattle.btree.specs.lemmas.Growth.{AreWritten}
use Rattle.btree.specs.lemmas.PutItems.{listed}
use Rattle.btree.proofs.pages.Room.{few_items, key_word, key_within, head_first, key_long}
use Rattle.btree.proofs.puts.Replacements.{stays}
use Rattle.btree.proofs.puts.WrittenItems.{leads_back, first_of, written_one}
use Rattle.btree.proofs.put.write.write_led.Goals as goal

-- one item
one_is_some : (n : ℕ) → n ≡ 1 → 1 ≤ n
one_is_some n one = omega (arith, one)

one_is_few : (n : ℕ) → n ≡ 1 → n ≤ 2
one_is_few n one = omega (arith, one)

-- the place of one item
place_word : (place count : ℕ) → place < count → count ≤ 4092 → Fits w64 (place + 1)
place_word place count within few = omega (arith, within, few)

next : (place : ℕ) → place ≤ place + 1
next place = omega arith

next_within : (place count : ℕ) → place < count → place + 1 ≤ count
next_within place count within = omega (arith, within)

one_more : (place n : ℕ) → n ≤ 2 → place + n ≤ place + 1 + 1
one_more place n few = omega (arith, few)

two_left : (place n count : ℕ) → 1 ≤ n → 2 ≤ count → place < count → 2 ≤ place + n + (count - (place + 1))
two_left place n count some two within = omega (arith, some, two, within)

pub overflow_add-widths : goal.overflow_add-widths
overflow_add-widths g c =
    key_word c.args.widths

pub slice_bounds-one_lead-end : goal.slice_bounds-one_lead-end
slice_bounds-one_lead-end g c =
    key_within c.args.widths

pub slice_bounds-one_lead-count : goal.slice_bounds-one_lead-count
slice_bounds-one_lead-count g c =
    head_first c.args.widths.key

pub slice_bounds-one_lead-start : goal.slice_bounds-one_lead-start
slice_bounds-one_lead-start g c =
    head_first c.args.widths.key

pub one_lead-requires : goal.one_lead-requires
one_lead-requires g c =
    key_long c.args.widths c.args.bytes.now c.requires.form.long

pub overflow_add-place : goal.overflow_add-place
overflow_add-place g c =
    place_word c.args.place (count_in c.args.bytes.now) c.requires.within (few_items c.args.widths Inner (count_in c.args.bytes.now) c.requires.form.fits)

pub write_spliced-requires-clause-is_page : goal.write_spliced-requires-clause-is_page
write_spliced-requires-clause-is_page g c =
    c.requires.is_page

pub write_spliced-requires-clause-there : goal.write_spliced-requires-clause-there
write_spliced-requires-clause-there g c =
    c.requires.there

pub write_spliced-requires-clause-form : goal.write_spliced-requires-clause-form
write_spliced-requires-clause-form g c =
    c.requires.form

pub write_spliced-requires-clause-few : goal.write_spliced-requires-clause-few
write_spliced-requires-clause-few g c =
    c.requires.few

pub write_spliced-requires-clause-whole : goal.write_spliced-requires-clause-whole
write_spliced-requires-clause-whole g c =
    c.requires.whole

pub write_spliced-requires-clause-order : goal.write_spliced-requires-clause-order
write_spliced-requires-clause-order g c =
    next c.args.place

pub write_spliced-requires-clause-within : goal.write_spliced-requires-clause-within
write_spliced-requires-clause-within g c =
    next_within c.args.place (count_in c.args.bytes.now) c.requires.within

pub write_spliced-requires-clause-one_more : goal.write_spliced-requires-clause-one_more
write_spliced-requires-clause-one_more g c =
    one_more c.args.place c.args.items.now.count c.requires.few

pub write_spliced-requires-clause-enough : goal.write_spliced-requires-clause-enough
write_spliced-requires-clause-enough g c =
    two_left c.args.place c.args.items.now.count (count_in c.args.bytes.now) c.requires.some c.requires.form.enough c.requires.within

pub returns-clause-written : goal.returns-clause-written
returns-clause-written g c =
    let w = c.args.widths in
    let its = items_in w Inner c.args.bytes.now in
    let old = g.P.Pages.store c.args.store.now in
    let new = g.P.Pages.store c.write_spliced.new.store in
    let all : List Item = take c.args.place its ++ (listed w Inner c.args.items.now.count c.args.items.now.bytes.items ++ drop (c.args.place + 1) its) in
    IfOk-weaker c.write_spliced.result (λ tops. AreWritten w Inner c.args.page all (listed w Inner tops.count tops.bytes.items) old new)
    (λ tops. reads old c.args.page ≡ c.args.bytes.now → AreWritten w Inner c.args.page all (listed w Inner tops.count tops.bytes.items) old new)
    (λ tops written same. written) c.write_spliced.ensures.written

pub returns-then-has_item-clause-written : goal.returns-then-has_item-clause-written
returns-then-has_item-clause-written g c = λ same.
    let w = c.args.widths in
    let items = c.args.items.now in
    let bytes = c.args.bytes.now in
    let its = items_in w Inner bytes in
    let store = g.P.Pages.store c.args.store.now in
    let q = c.args.page in
    let few = (g.met.P.Pages.sound c.args.store.now).few in
    let list : List Item = take c.args.place its ++ (listed w Inner items.count items.bytes.items ++ drop (c.args.place + 1) its) in
    let are : list ≡ its = c.has_item.ensures c.if-has_item.true in
    let amount : 4 + w.key - 4 ≡ w.key = omega arith in
    let key : List ℕ = take (4 + w.key - 4) (drop 4 bytes) in
    let some : 1 ≤ count_in bytes = omega (arith, c.requires.form.enough) in
    subst (λ (tops : List Item). AreWritten w Inner q list tops store store) (sym c.one_lead.ensures.listed)
    (written_one w Inner q store list q (key, big_bytes 4 q) store store
    (leads_back q (omega (arith, c.requires.there, few)))
    (ap first_key are ∙ first_of w.key 4 (count_in bytes) (drop 4 bytes) some ∙ ap (λ (n : ℕ). Some (take n (drop 4 bytes))) (sym amount))
    (stays q store (c.is_fresh.ensures.0 c.if-is_fresh.true)) (works_refl store) c.requires.is_page c.requires.there
    (λ honest. subst (IsPage w Inner) (sym same) c.requires.form)
    (λ honest. ap (items_in w Inner) same ∙ sym are)
    (λ honest p other. refl) refl)

pub returns-then-has_item-clause-tops : goal.returns-then-has_item-clause-tops
returns-then-has_item-clause-tops g c = record {
  some = one_is_some c.one_lead.result.count c.one_lead.ensures.count;
  few = one_is_few c.one_lead.result.count c.one_lead.ensures.count;
  whole = c.one_lead.ensures.whole;
}

pub returns-then-has_item-clause-ok : goal.returns-then-has_item-clause-ok
returns-then-has_item-clause-ok g c = record { works = works_refl (g.P.Pages.store c.args.store.now); «open» = c.requires.open; takes = omega arith }

pub returns-clause-tops : goal.returns-clause-tops
returns-clause-tops g c = c.write_spliced.ensures.tops

pub returns-clause-ok : goal.returns-clause-ok
returns-clause-ok g c = c.write_spliced.ensures.ok

pub returns-clause-err : goal.returns-clause-err
returns-clause-err g c = c.write_spliced.ensures.err
