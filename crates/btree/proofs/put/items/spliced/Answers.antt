use Rattle.std.proofs.Common.{◌≡◌, ℕ, ◌+◌, ◌-◌, ◌*◌, ◌≤◌, List, [], length, take, drop, refl, sym, ap, subst, arith}
use Rattle.std.proofs.lemmas.List.{length-take}
use Rattle.btree.specs.declared.page.kind.Kind.{Kind}
use Rattle.btree.specs.declared.page.widths.Widths.{Widths}
use Rattle.btree.specs.Page.{count_in, behind_of, item_width}
use Rattle.btree.proofs.pages.Room.{are_within, word, head_word, head_within, width_word, few_items, more_word, total_word, head_first}
use Rattle.btree.proofs.pages.ItemBytes.{narrow, middle_fits, back_fits, mul-mono, spliced_whole, spliced_listed}
use Rattle.btree.proofs.puts.WrittenItems.{cut_is}
use Rattle.btree.proofs.put.items.spliced.Goals as goal

-- where the items lie, after the first bytes

both_behind : (a b : ℕ) → a ≤ b → 4 + a ≤ 4 + b
both_behind a b less = omega (arith, less)

first_fits : (n : ℕ) (none page : List ℕ) → n ≤ 4092 → none ≡ [] → length none + length (take (4 + n - 4) (drop 4 page)) ≤ 5120
first_fits n none page short nothing = omega (arith, short, ap length nothing, length-take (4 + n - 4) (drop 4 page))

pub overflow_add-width : goal.overflow_add-width
overflow_add-width c = width_word c.args.widths c.args.kind c.behind_of.result c.behind_of.ensures

pub overflow_sub-all : goal.overflow_sub-all
overflow_sub-all c = subst (λ (n : ℕ). c.args.to ≤ n) (sym c.count_of-all.ensures) c.requires.within

pub overflow_sub-total : goal.overflow_sub-total
overflow_sub-total c = subst (λ (n : ℕ). c.args.to ≤ n) (sym c.count_of-all.ensures) c.requires.within

pub overflow_add-total : goal.overflow_add-total
overflow_add-total c =
    let few = few_items c.args.widths c.args.kind (count_in c.args.page.now) c.requires.page.fits in
    more_word c.args.from c.args.count c.args.to (count_in c.args.page.now) c.requires.one_more c.requires.within few

pub overflow_add-total-2 : goal.overflow_add-total-2
overflow_add-total-2 c =
    let few = few_items c.args.widths c.args.kind (count_in c.args.page.now) c.requires.page.fits in
    total_word c.args.from c.args.count c.args.to
    (count_in c.args.page.now) c.count_of-all.result c.requires.one_more c.requires.within few c.count_of-all.ensures

pub overflow_mul-from : goal.overflow_mul-from
overflow_mul-from c =
    let at = are_within c.args.widths c.args.kind c.behind_of.result c.args.from c.args.to
    (count_in c.args.page.now) c.count_of-all.result c.behind_of.ensures c.requires.order c.requires.within c.requires.page.fits c.count_of-all.ensures in
    word (c.args.from * (c.args.widths.key + c.behind_of.result)) at.front

pub overflow_add-from : goal.overflow_add-from
overflow_add-from c =
    let at = are_within c.args.widths c.args.kind c.behind_of.result c.args.from c.args.to
    (count_in c.args.page.now) c.count_of-all.result c.behind_of.ensures c.requires.order c.requires.within c.requires.page.fits c.count_of-all.ensures in
    head_word (c.args.from * (c.args.widths.key + c.behind_of.result)) at.front

pub overflow_mul-to : goal.overflow_mul-to
overflow_mul-to c =
    let at = are_within c.args.widths c.args.kind c.behind_of.result c.args.from c.args.to
    (count_in c.args.page.now) c.count_of-all.result c.behind_of.ensures c.requires.order c.requires.within c.requires.page.fits c.count_of-all.ensures in
    word (c.args.to * (c.args.widths.key + c.behind_of.result)) at.upto

pub overflow_add-to : goal.overflow_add-to
overflow_add-to c =
    let at = are_within c.args.widths c.args.kind c.behind_of.result c.args.from c.args.to
    (count_in c.args.page.now) c.count_of-all.result c.behind_of.ensures c.requires.order c.requires.within c.requires.page.fits c.count_of-all.ensures in
    head_word (c.args.to * (c.args.widths.key + c.behind_of.result)) at.upto

pub overflow_mul-all : goal.overflow_mul-all
overflow_mul-all c =
    let at = are_within c.args.widths c.args.kind c.behind_of.result c.args.from c.args.to
    (count_in c.args.page.now) c.count_of-all.result c.behind_of.ensures c.requires.order c.requires.within c.requires.page.fits c.count_of-all.ensures in
    word (c.count_of-all.result * (c.args.widths.key + c.behind_of.result)) at.whole

pub overflow_add-all : goal.overflow_add-all
overflow_add-all c =
    let at = are_within c.args.widths c.args.kind c.behind_of.result c.args.from c.args.to
    (count_in c.args.page.now) c.count_of-all.result c.behind_of.ensures c.requires.order c.requires.within c.requires.page.fits c.count_of-all.ensures in
    head_word (c.count_of-all.result * (c.args.widths.key + c.behind_of.result)) at.whole

pub slice_bounds-put_bytes-end : goal.slice_bounds-put_bytes-end
slice_bounds-put_bytes-end c =
    let at = are_within c.args.widths c.args.kind c.behind_of.result c.args.from c.args.to
    (count_in c.args.page.now) c.count_of-all.result c.behind_of.ensures c.requires.order c.requires.within c.requires.page.fits c.count_of-all.ensures in
    head_within (c.args.from * (c.args.widths.key + c.behind_of.result)) at.front

pub slice_bounds-put_bytes-start : goal.slice_bounds-put_bytes-start
slice_bounds-put_bytes-start c = head_first (c.args.from * (c.args.widths.key + c.behind_of.result))

pub slice_bounds-put_bytes-count : goal.slice_bounds-put_bytes-count
slice_bounds-put_bytes-count c = head_first (c.args.from * (c.args.widths.key + c.behind_of.result))

pub slice_bounds-put_bytes-end-2 : goal.slice_bounds-put_bytes-end-2
slice_bounds-put_bytes-end-2 c =
    let at = are_within c.args.widths c.args.kind c.behind_of.result c.args.from c.args.to
    (count_in c.args.page.now) c.count_of-all.result c.behind_of.ensures c.requires.order c.requires.within c.requires.page.fits c.count_of-all.ensures in
    head_within (c.count_of-all.result * (c.args.widths.key + c.behind_of.result)) at.whole

pub slice_bounds-put_bytes-start-2 : goal.slice_bounds-put_bytes-start-2
slice_bounds-put_bytes-start-2 c =
    let at = are_within c.args.widths c.args.kind c.behind_of.result c.args.from c.args.to
    (count_in c.args.page.now) c.count_of-all.result c.behind_of.ensures c.requires.order c.requires.within c.requires.page.fits c.count_of-all.ensures in
    both_behind (c.args.to * (c.args.widths.key + c.behind_of.result)) (c.count_of-all.result * (c.args.widths.key + c.behind_of.result)) at.rest

pub slice_bounds-put_bytes-count-2 : goal.slice_bounds-put_bytes-count-2
slice_bounds-put_bytes-count-2 c =
    let at = are_within c.args.widths c.args.kind c.behind_of.result c.args.from c.args.to
    (count_in c.args.page.now) c.count_of-all.result c.behind_of.ensures c.requires.order c.requires.within c.requires.page.fits c.count_of-all.ensures in
    both_behind (c.args.to * (c.args.widths.key + c.behind_of.result)) (c.count_of-all.result * (c.args.widths.key + c.behind_of.result)) at.rest

pub put_bytes-requires : goal.put_bytes-requires
put_bytes-requires c =
    let at = are_within c.args.widths c.args.kind c.behind_of.result c.args.from c.args.to
    (count_in c.args.page.now) c.count_of-all.result c.behind_of.ensures c.requires.order c.requires.within c.requires.page.fits c.count_of-all.ensures in
    (omega arith, first_fits (c.args.from * (c.args.widths.key + c.behind_of.result)) c.new.result.items c.args.page.now at.front c.new.ensures)

pub returns-clause-count : goal.returns-clause-count
returns-clause-count c = ap (λ (n : ℕ). c.args.from + c.args.count + (n - c.args.to)) c.count_of-all.ensures

pub put_bytes-requires-2 : goal.put_bytes-requires-2
put_bytes-requires-2 c =
    let w = c.args.widths in
    let page = c.requires.page in (
      omega arith,
      middle_fits w.key (behind_of w c.args.kind) c.behind_of.result c.args.from c.args.to
          (count_in c.args.page.now) c.args.page.now c.behind_of.ensures page.long c.requires.order c.requires.within page.fits
          c.new.result.items c.put_bytes.new.bytes.items c.new.ensures c.put_bytes.ensures
          c.args.count c.args.bytes.now _ c.requires.whole refl c.requires.few (narrow w c.args.kind),
    )

pub put_bytes-requires-3 : goal.put_bytes-requires-3
put_bytes-requires-3 c =
    let w = c.args.widths in
    let page = c.requires.page in (
      omega arith,
      back_fits w.key (behind_of w c.args.kind) c.behind_of.result c.args.from c.args.to
          (count_in c.args.page.now) c.args.page.now c.behind_of.ensures page.long c.requires.order c.requires.within page.fits
          c.new.result.items c.put_bytes.new.bytes.items c.new.ensures c.put_bytes.ensures
          c.args.count c.args.bytes.now c.put_bytes-2.new.bytes.items c.requires.whole c.put_bytes-2.ensures
          c.count_of-all.result c.count_of-all.ensures c.requires.few (narrow w c.args.kind),
    )

pub returns-clause-whole : goal.returns-clause-whole
returns-clause-whole c =
    let w = c.args.widths in
    let page = c.requires.page in
    spliced_whole w.key (behind_of w c.args.kind) c.behind_of.result c.args.from c.args.to
    (count_in c.args.page.now) c.args.page.now c.behind_of.ensures page.long c.requires.order c.requires.within page.fits
    c.new.result.items c.put_bytes.new.bytes.items c.new.ensures c.put_bytes.ensures
    c.args.count c.args.bytes.now c.put_bytes-2.new.bytes.items c.requires.whole c.put_bytes-2.ensures
    c.count_of-all.result c.count_of-all.ensures c.put_bytes-3.new.bytes.items c.put_bytes-3.ensures

pub returns-clause-listed : goal.returns-clause-listed
returns-clause-listed c =
    let w = c.args.widths in
    let page = c.requires.page in
    spliced_listed w.key (behind_of w c.args.kind) c.behind_of.result c.args.from c.args.to
    (count_in c.args.page.now) c.args.page.now c.behind_of.ensures page.long c.requires.order c.requires.within page.fits
    c.new.result.items c.put_bytes.new.bytes.items c.new.ensures c.put_bytes.ensures
    c.args.count c.args.bytes.now c.put_bytes-2.new.bytes.items c.requires.whole c.put_bytes-2.ensures
    c.count_of-all.result c.count_of-all.ensures c.put_bytes-3.new.bytes.items c.put_bytes-3.ensures

pub returns-clause-cuts : goal.returns-clause-cuts
returns-clause-cuts c = record {
  end = λ none. c.cut_of.ensures.end (omega (arith, none, c.count_of-all.ensures));
  half = λ some. c.cut_of.ensures.half (omega (arith, some, c.count_of-all.ensures));
}

-- one item more than a page had
nearly : (w : Widths) (kind : Kind) (n total : ℕ) → total ≤ n + 1 → n * item_width w kind ≤ 4092 → (total - 1) * item_width w kind ≤ 4092
nearly w kind n total one_more fits =
    let less : (total - 1) * item_width w kind ≤ n * item_width w kind = mul-mono (total - 1) n (item_width w kind) (omega (arith, one_more)) in
    omega (arith, less, fits)

pub returns-clause-cut : goal.returns-clause-cut
returns-clause-cut c over =
    let w = c.args.widths in
    let full = nearly w c.args.kind (count_in c.args.page.now) (c.args.from + c.args.count + (c.count_of-all.result - c.args.to))
    (omega (arith, c.requires.one_more, c.requires.within, c.count_of-all.ensures)) c.requires.page.fits in
    cut_is w c.args.kind (c.args.from + c.args.count + (c.count_of-all.result - c.args.to)) full over _
    (c.count_of-all.result - c.args.to) c.cut_of.ensures.end c.cut_of.ensures.half
