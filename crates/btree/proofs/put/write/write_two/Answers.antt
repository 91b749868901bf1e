use Rattle.std.proofs.Common.{◌≡◌, ◌≤◌, ◌<◌, ◌+◌, ◌*◌, ◌-◌, ◌∙◌, ◌∷◌, ◌++◌, [], ℕ, List, length, take, sym, ap, subst, Fits, w64, arith}
use Rattle.std.proofs.lemmas.List.{length-take}
use Rattle.byteorder.specs.Endian.{big_bytes}
use Rattle.page_store.specs.Marks.{free_count}
use Rattle.page_store.specs.lemmas.Works.{works_then}
use Rattle.btree.specs.declared.page.kind.Kind.{Kind}
use Rattle.btree.specs.declared.page.kind.Kind.TheVariants.{Leaf, Inner}
use Rattle.btree.specs.declared.page.widths.Widths.{Widths}
use Rattle.btree.specs.Page.{Item, behind_of, item_width, items_of, least_of}
use Rattle.btree.specs.lemmas.Growth.{AreWritten}
use Rattle.btree.specs.lemmas.PutItems.{listed, IsCut}
use Rattle.page_store.specs.lemmas.Frames.{open_still, refused_since, refused_within}
use Rattle.btree.proofs.puts.Faults.{passed_on, cause_since, none_handed_out, refused_after}
use Rattle.btree.proofs.pages.ItemBytes.{mul-mono}
use Rattle.btree.proofs.puts.WrittenItems.{items_parts, leads_back, first_of, rest_is, written_two}
use Rattle.btree.proofs.puts.FreePages.{one_taken}
use Rattle.btree.proofs.put.write.write_two.Goals as goal

some : (kind : Kind) (n : ℕ) → least_of kind ≤ n → 1 ≤ n
some Leaf n enough = enough
some Inner n enough = omega (arith, enough)

-- how much stays in front
cut_within : (w : Widths) (kind : Kind) (count cut : ℕ) → IsCut w kind count cut → cut ≤ count
cut_within w kind count cut parts = let more = some kind (count - cut) parts.back_enough in omega (arith, more)

cut_long : (w : Widths) (kind : Kind) (cut b : ℕ) → b ≡ behind_of w kind → cut * (w.key + b) ≡ cut * item_width w kind
cut_long w kind cut b is = ap (λ (b : ℕ). cut * (w.key + b)) is

cut_fits : (w : Widths) (kind : Kind) (count cut b : ℕ) → b ≡ behind_of w kind → IsCut w kind count cut → Fits w64 (cut * (w.key + b))
cut_fits w kind count cut b is parts = omega (arith, cut_long w kind cut b is, parts.front_fits)

cut_there : (w : Widths) (kind : Kind) (count cut b : ℕ) (bytes whole : List ℕ) → b ≡ behind_of w kind → IsCut w kind count cut
    → length bytes ≡ count * item_width w kind → whole ≡ bytes
    → cut * (w.key + b) ≤ length whole
cut_there w kind count cut b bytes whole is parts all same =
    let less = mul-mono cut count (item_width w kind) (cut_within w kind count cut parts) in
    omega (arith, cut_long w kind cut b is, less, all, ap length same)

-- as many bytes as are taken
taken : (n : ℕ) (bytes : List ℕ) → n ≤ length bytes → length (take n bytes) ≡ n
taken n bytes there = omega (arith, there, length-take n bytes)

none_is_few : (n : ℕ) → n ≡ 0 → n ≤ 1
none_is_few n none = omega (arith, none)

one_is_few : (n m : ℕ) → m ≡ n + 1 → n ≡ 0 → m ≤ 1
one_is_few n m more none = omega (arith, more, none)

pub overflow_mul-cut : goal.overflow_mul-cut
overflow_mul-cut g c = cut_fits c.args.widths c.args.kind c.args.items.now.count c.args.items.now.cut c.behind_of.result c.behind_of.ensures c.requires.cut

pub split_at-requires : goal.split_at-requires
split_at-requires g c =
    let items = c.args.items.now in
    cut_there c.args.widths c.args.kind items.count items.cut c.behind_of.result items.bytes.items c.deref.result.now c.behind_of.ensures c.requires.cut c.requires.whole c.deref.ensures.0

pub overflow_sub-items : goal.overflow_sub-items
overflow_sub-items g c = cut_within c.args.widths c.args.kind c.args.items.now.count c.args.items.now.cut c.requires.cut

pub write_on-requires-clause-whole : goal.write_on-requires-clause-whole
write_on-requires-clause-whole g c = c.split_at.ensures.front_len
    ∙ cut_long c.args.widths c.args.kind c.args.items.now.cut c.behind_of.result c.behind_of.ensures

pub lead_to-requires-clause-few : goal.lead_to-requires-clause-few
lead_to-requires-clause-few g c = none_is_few c.no_few_items-tops.result.count c.no_few_items-tops.ensures.count

pub lead_to-requires-2-clause-few : goal.lead_to-requires-2-clause-few
lead_to-requires-2-clause-few g c =
    one_is_few c.no_few_items-tops.result.count c.lead_to.new.items.count c.lead_to.ensures.count c.no_few_items-tops.ensures.count

pub lead_to-requires-2-clause-whole : goal.lead_to-requires-2-clause-whole
lead_to-requires-2-clause-whole g c = c.lead_to.ensures.whole

pub returns-clause-two : goal.returns-clause-two
returns-clause-two g c = c.lead_to-2.ensures.count ∙ ap (λ (n : ℕ). n + 1) (c.lead_to.ensures.count ∙ ap (λ (n : ℕ). n + 1) c.no_few_items-tops.ensures.count)

pub returns-clause-whole : goal.returns-clause-whole
returns-clause-whole g c = c.lead_to-2.ensures.whole

-- the items are listed, as on one page
as_listed : (key n m : ℕ) (none first : List ℕ) (k : List ℕ) (q : ℕ) → n ≡ 0 → items_of key 4 m first ≡ items_of key 4 n none ++ (k, big_bytes 4 q) ∷ []
    → items_of key 4 m first ≡ (k, big_bytes 4 q) ∷ []
as_listed key n m none first k q empty more = more ∙ ap (λ (n : ℕ). items_of key 4 n none ++ (k, big_bytes 4 q) ∷ []) empty

-- the two parts: how long they are
module _ (w : Widths) (kind : Kind) (count cut b : ℕ) (bytes whole front back : List ℕ) (is : b ≡ behind_of w kind)
    (all : length bytes ≡ count * item_width w kind) (same : whole ≡ bytes)
    (parts : IsCut w kind count cut) (front_len : length front ≡ cut * (w.key + b)) (back_len : length back + cut * (w.key + b) ≡ length whole) where
  abbrev width : ℕ
  width = item_width w kind

  long : length front ≡ cut * width
  long = front_len ∙ ap (λ (c : ℕ). cut * (w.key + c)) is

  total : length whole ≡ count * width
  total = ap length same ∙ all

  within : cut ≤ count
  within = let more = some kind (count - cut) parts.back_enough in omega (arith, more)

  rest : length back ≡ (count - cut) * width
  rest =
      let sum : length back + cut * width ≡ length whole = ap (λ (c : ℕ). length back + cut * (w.key + c)) (sym is) ∙ back_len in
      omega (arith, sum, total, rest_is count width cut within)

  front_fits : length front ≤ 4092
  front_fits = omega (arith, long, parts.front_fits)

  back_fits : length back ≤ 4092
  back_fits = omega (arith, rest, parts.back_fits)

  other_key_there : w.key ≤ length back
  other_key_there =
      let one : 1 * width ≤ (count - cut) * width = mul-mono 1 (count - cut) width (some kind (count - cut) parts.back_enough) in
      omega (arith, rest, one)

  key_there : w.key ≤ length front
  key_there =
      let one : 1 * width ≤ cut * width = mul-mono 1 cut width (some kind cut parts.front_enough) in
      omega (arith, long, one)

pub returns-clause-written : goal.returns-clause-written
returns-clause-written g c =
    let w = c.args.widths in
    let kind = c.args.kind in
    let items = c.args.items.now in
    let behind = behind_of w kind in
    let store = g.P.Pages.store in
    let old = store c.args.store.now in
    let first = c.in_ok-first.ensures.ok in
    let second = c.in_ok-second.ensures in
    let q = c.in_ok-first.first in
    let r = c.in_ok-second.second in
    let few = (g.met.P.Pages.sound c.args.store.now).few in
    let cut = c.split_at.ensures in
    let front = c.split_at.result.0.now in
    let back = c.split_at.result.1.now in
    let parted = c.requires.cut in
    let before = items.cut in
    let other = items.count - items.cut in
    let top : Item = (take w.key front, big_bytes 4 q) in
    let more : Item = (take w.key back, big_bytes 4 r) in
    let one = c.in_ok-write_on.ensures.ok in
    let two = c.in_ok-write_on-2.ensures.ok in
    let there_r : r < length (store c.renewed.new.store).marks = second.within in
    let sum : items.count ≡ before + other = let more = some kind other parted.back_enough in omega (arith, more) in
    let parts : listed w kind items.count items.bytes.items ≡ items_of w.key behind before front ++ items_of w.key behind other back =
    items_parts w.key behind c.behind_of.result before other items.count items.bytes.items c.deref.result.now front back c.behind_of.ensures sum c.deref.ensures.0 cut.front cut.back cut.front_len in
    let list : items_of w.key 4 c.lead_to-2.new.items.count c.lead_to-2.new.items.bytes.items ≡ top ∷ more ∷ [] =
    c.lead_to-2.ensures.listed
    ∙ ap (λ (tops : List Item). tops ++ more ∷ [])
    (as_listed w.key c.no_few_items-tops.result.count c.lead_to.new.items.count c.no_few_items-tops.result.bytes.items c.lead_to.new.items.bytes.items (take w.key front) q c.no_few_items-tops.ensures.count c.lead_to.ensures.listed) in
    subst (λ (tops : List Item). AreWritten w kind c.args.page (listed w kind items.count items.bytes.items) tops old (store c.write_on-2.new.store)) (sym list)
    (written_two w kind c.args.page old (listed w kind items.count items.bytes.items) (items_of w.key behind before front)
    (items_of w.key behind other back) q r top more
    (store c.renewed.new.store) (store c.new_page.new.self) (store c.write_on.new.store) (store c.write_on-2.new.store) parts
    (leads_back q (omega (arith, first.there, few))) (leads_back r (omega (arith, there_r, first.works.same_pages, few)))
    (first_of w.key behind before front (some kind before parted.front_enough)) (first_of w.key behind other back (some kind other parted.back_enough))
    first.place first.works first.fresh first.is_page first.there second.free second.ok second.others second.works second.is_page there_r
    one.form one.items one.others one.marks one.works two.form two.items two.others two.marks)

pub write_on-requires-clause-fits : goal.write_on-requires-clause-fits
write_on-requires-clause-fits g c =
    let items = c.args.items.now in
    let cut = c.split_at.ensures in
    front_fits c.args.widths c.args.kind items.count items.cut c.behind_of.result items.bytes.items c.deref.result.now c.split_at.result.0.now c.split_at.result.1.now c.behind_of.ensures c.requires.whole
    c.deref.ensures.0 c.requires.cut cut.front_len cut.back_len

pub write_on-requires-2-clause-whole : goal.write_on-requires-2-clause-whole
write_on-requires-2-clause-whole g c =
    let items = c.args.items.now in
    let cut = c.split_at.ensures in
    rest c.args.widths c.args.kind items.count items.cut c.behind_of.result items.bytes.items c.deref.result.now c.split_at.result.0.now c.split_at.result.1.now c.behind_of.ensures c.requires.whole
    c.deref.ensures.0 c.requires.cut cut.front_len cut.back_len

pub write_on-requires-2-clause-fits : goal.write_on-requires-2-clause-fits
write_on-requires-2-clause-fits g c =
    let items = c.args.items.now in
    let cut = c.split_at.ensures in
    back_fits c.args.widths c.args.kind items.count items.cut c.behind_of.result items.bytes.items c.deref.result.now c.split_at.result.0.now c.split_at.result.1.now c.behind_of.ensures c.requires.whole
    c.deref.ensures.0 c.requires.cut cut.front_len cut.back_len

pub slice_bounds-lead_to-end : goal.slice_bounds-lead_to-end
slice_bounds-lead_to-end g c =
    let items = c.args.items.now in
    let cut = c.split_at.ensures in
    let key = key_there c.args.widths c.args.kind items.count items.cut c.behind_of.result items.bytes.items c.deref.result.now c.split_at.result.0.now c.split_at.result.1.now c.behind_of.ensures c.requires.whole
    c.deref.ensures.0 c.requires.cut cut.front_len cut.back_len in
    omega (arith, key, length-take c.args.widths.key c.split_at.result.0.now)

pub lead_to-requires-clause-key : goal.lead_to-requires-clause-key
lead_to-requires-clause-key g c =
    let items = c.args.items.now in
    let cut = c.split_at.ensures in
    let key = key_there c.args.widths c.args.kind items.count items.cut c.behind_of.result items.bytes.items c.deref.result.now c.split_at.result.0.now c.split_at.result.1.now c.behind_of.ensures c.requires.whole
    c.deref.ensures.0 c.requires.cut cut.front_len cut.back_len in
    omega (arith, key, length-take c.args.widths.key c.split_at.result.0.now)

pub slice_bounds-lead_to-end-2 : goal.slice_bounds-lead_to-end-2
slice_bounds-lead_to-end-2 g c =
    let items = c.args.items.now in
    let cut = c.split_at.ensures in
    sym (taken c.args.widths.key c.split_at.result.1.now
    (other_key_there c.args.widths c.args.kind items.count items.cut c.behind_of.result items.bytes.items c.deref.result.now c.split_at.result.0.now c.split_at.result.1.now c.behind_of.ensures c.requires.whole
    c.deref.ensures.0 c.requires.cut cut.front_len cut.back_len))

pub lead_to-requires-2-clause-key : goal.lead_to-requires-2-clause-key
lead_to-requires-2-clause-key g c =
    let items = c.args.items.now in
    let cut = c.split_at.ensures in
    taken c.args.widths.key c.split_at.result.1.now
    (other_key_there c.args.widths c.args.kind items.count items.cut c.behind_of.result items.bytes.items c.deref.result.now c.split_at.result.0.now c.split_at.result.1.now c.behind_of.ensures c.requires.whole
    c.deref.ensures.0 c.requires.cut cut.front_len cut.back_len)

pub write_on-requires-2-clause-enough : goal.write_on-requires-2-clause-enough
write_on-requires-2-clause-enough g c = c.requires.cut.back_enough

pub returns-in_err-first-clause-err : goal.returns-in_err-first-clause-err
returns-in_err-first-clause-err g c = passed_on _ c.from_residual.result _ c.from_residual.ensures (refused_within c.in_err-first.ensures.err (omega arith))

pub returns-in_err-second-clause-err : goal.returns-in_err-second-clause-err
returns-in_err-second-clause-err g c =
    let first = c.in_ok-first.ensures.ok in
    passed_on _ c.from_residual-in_err-second.result _ c.from_residual-in_err-second.ensures
    (refused_since 1 first.works first.closed first.takes (omega arith)
    (cause_since (g.P.Pages.store c.args.store.now) (g.P.Pages.store c.renewed.new.store) (g.P.Pages.store c.new_page.new.self) _ first.works first.closed)
    (none_handed_out c.in_err-second.ensures.refused c.in_err-second.ensures.cause))

pub returns-in_err-write_on-clause-err : goal.returns-in_err-write_on-clause-err
returns-in_err-write_on-clause-err g c =
    let first = c.in_ok-first.ensures.ok in
    let second = c.in_ok-second.ensures in
    passed_on _ c.from_residual-in_err-write_on.result _ c.from_residual-in_err-write_on.ensures
    (refused_after 2 (works_then first.works second.works) (second.others.closed ∙ first.closed)
    (omega (arith, first.takes, one_taken second.ok second.free second.within)) (omega arith) c.in_err-write_on.ensures.err)

pub returns-in_err-write_on-2-clause-err : goal.returns-in_err-write_on-2-clause-err
returns-in_err-write_on-2-clause-err g c =
    let first = c.in_ok-first.ensures.ok in
    let second = c.in_ok-second.ensures in
    let one = c.in_ok-write_on.ensures.ok in
    let works = works_then (works_then first.works second.works) one.works in
    passed_on _ c.from_residual-in_err-write_on-2.result _ c.from_residual-in_err-write_on-2.ensures
    (refused_after 2 works (open_still works one.open)
    (omega (arith, first.takes, one_taken second.ok second.free second.within, ap free_count one.marks)) (omega arith) c.in_err-write_on-2.ensures.err)

pub returns-clause-ok : goal.returns-clause-ok
returns-clause-ok g c =
    let first = c.in_ok-first.ensures.ok in
    let second = c.in_ok-second.ensures in
    let one = c.in_ok-write_on.ensures.ok in
    let two = c.in_ok-write_on-2.ensures.ok in
    record {
      works = works_then (works_then (works_then first.works second.works) one.works) two.works;
      «open» = two.open;
      takes = omega (arith, first.takes, one_taken second.ok second.free second.within, ap free_count one.marks, ap free_count two.marks);
    }
