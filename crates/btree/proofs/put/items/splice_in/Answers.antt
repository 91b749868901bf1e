use Rattle.std.proofs.Common.{◌≡◌, ◌≤◌, ◌<◌, ◌∙◌, ◌+◌, ◌-◌, ◌*◌, ℕ, List, length, take, drop, ap, refl, sym, subst, Fits, w64, arith, length-drop}
use Rattle.std.proofs.lemmas.List.{length-take}
use Rattle.btree.specs.declared.page.kind.Kind.{Kind}
use Rattle.btree.specs.declared.page.widths.Widths.{Widths}
use Rattle.btree.specs.Page.{behind_of, count_in, item_width}
use Rattle.btree.proofs.pages.Room.{are_within, word, head_word, head_within, width_word, few_items}
use Rattle.btree.proofs.pages.ItemBytes.{distribute, head_stays, page_listed}
use Rattle.btree.proofs.put.items.splice_in.Goals as goal

-- where the items lie that are put in
more : (a b : ℕ) → a ≤ a + b
more a b = omega arith

both_behind : (a b : ℕ) → a ≤ b → 4 + a ≤ 4 + b
both_behind a b less = omega (arith, less)

page_there : (a b : ℕ) → a + b ≤ 4096 → a ≤ 4096
page_there a b room = omega (arith, room)

page_word : (a b : ℕ) → a + b ≤ 4096 → Fits w64 a
page_word a b room = omega (arith, room)

first_word : (from count rest : ℕ) → from + count + rest ≤ 4092 → Fits w64 (from + count)
first_word from count rest few = omega (arith, few)

all_word : (from to count n all : ℕ) → all ≡ n → from + count + (n - to) ≤ 4092 → Fits w64 (from + count + (all - to))
all_word from to count n all same few = omega (arith, same, few)

all_count : (from to count n all : ℕ) → all ≡ n → from + count + (n - to) ≤ 4092 → from + count + (all - to) < 65536
all_count from to count n all same few = omega (arith, same, few)

part_long : (s n : ℕ) (page : List ℕ) → length page ≡ 4096 → s + n ≤ 4096 → length (take (s + n - s) (drop s page)) ≡ n
part_long s n page long room = omega (arith, long, room, length-drop s page, length-take (s + n - s) (drop s page))

-- the items take no more room than there is
room_at : (wide from to count n len : ℕ) → to ≤ n → len ≡ count * wide → (from + count + (n - to)) * wide ≤ 4092
    → 4 + from * wide + len + (4 + n * wide - (4 + to * wide)) ≤ 4096
room_at wide from to count n len within whole room =
    let all = distribute (from + count) (n - to) wide in
    let first = distribute from count wide in
    let sum : n ≡ to + (n - to) = omega (arith, within) in
    let rest : n * wide ≡ to * wide + (n - to) * wide = ap (λ (m : ℕ). m * wide) sum ∙ distribute to (n - to) wide in
    omega (arith, all, first, rest, whole, room)

room_is : (w : Widths) (kind : Kind) (b from to count n all len : ℕ) → b ≡ behind_of w kind → to ≤ n → all ≡ n
    → len ≡ count * item_width w kind → (from + count + (n - to)) * item_width w kind ≤ 4092
    → 4 + from * (w.key + b) + len + (4 + all * (w.key + b) - (4 + to * (w.key + b))) ≤ 4096
room_is w kind b from to count n all len is within same whole room =
    subst (λ (b : ℕ). 4 + from * (w.key + b) + len + (4 + all * (w.key + b) - (4 + to * (w.key + b))) ≤ 4096) (sym is)
    (subst (λ (m : ℕ). 4 + from * item_width w kind + len + (4 + m * item_width w kind - (4 + to * item_width w kind)) ≤ 4096) (sym same)
    (room_at (item_width w kind) from to count n len within whole room))

pub overflow_add-width : goal.overflow_add-width
overflow_add-width c = width_word c.args.widths c.args.kind c.behind_of.result c.behind_of.ensures

pub overflow_sub-all : goal.overflow_sub-all
overflow_sub-all c = subst (λ (n : ℕ). c.args.to ≤ n) (sym c.count_of-all.ensures) c.requires.within

pub overflow_mul-start : goal.overflow_mul-start
overflow_mul-start c =
    let at = are_within c.args.widths c.args.kind c.behind_of.result c.args.from c.args.to
    (count_in c.args.page.now) c.count_of-all.result c.behind_of.ensures c.requires.order c.requires.within c.requires.page.fits c.count_of-all.ensures in
    word (c.args.from * (c.args.widths.key + c.behind_of.result)) at.front

pub overflow_add-start : goal.overflow_add-start
overflow_add-start c =
    let at = are_within c.args.widths c.args.kind c.behind_of.result c.args.from c.args.to
    (count_in c.args.page.now) c.count_of-all.result c.behind_of.ensures c.requires.order c.requires.within c.requires.page.fits c.count_of-all.ensures in
    head_word (c.args.from * (c.args.widths.key + c.behind_of.result)) at.front

pub overflow_mul-rest : goal.overflow_mul-rest
overflow_mul-rest c =
    let at = are_within c.args.widths c.args.kind c.behind_of.result c.args.from c.args.to
    (count_in c.args.page.now) c.count_of-all.result c.behind_of.ensures c.requires.order c.requires.within c.requires.page.fits c.count_of-all.ensures in
    word (c.args.to * (c.args.widths.key + c.behind_of.result)) at.upto

pub overflow_add-rest : goal.overflow_add-rest
overflow_add-rest c =
    let at = are_within c.args.widths c.args.kind c.behind_of.result c.args.from c.args.to
    (count_in c.args.page.now) c.count_of-all.result c.behind_of.ensures c.requires.order c.requires.within c.requires.page.fits c.count_of-all.ensures in
    head_word (c.args.to * (c.args.widths.key + c.behind_of.result)) at.upto

pub overflow_mul-last : goal.overflow_mul-last
overflow_mul-last c =
    let at = are_within c.args.widths c.args.kind c.behind_of.result c.args.from c.args.to
    (count_in c.args.page.now) c.count_of-all.result c.behind_of.ensures c.requires.order c.requires.within c.requires.page.fits c.count_of-all.ensures in
    word (c.count_of-all.result * (c.args.widths.key + c.behind_of.result)) at.whole

pub overflow_add-last : goal.overflow_add-last
overflow_add-last c =
    let at = are_within c.args.widths c.args.kind c.behind_of.result c.args.from c.args.to
    (count_in c.args.page.now) c.count_of-all.result c.behind_of.ensures c.requires.order c.requires.within c.requires.page.fits c.count_of-all.ensures in
    head_word (c.count_of-all.result * (c.args.widths.key + c.behind_of.result)) at.whole

pub overflow_add-end : goal.overflow_add-end
overflow_add-end c =
    let room = room_is c.args.widths c.args.kind c.behind_of.result c.args.from c.args.to c.args.count
    (count_in c.args.page.now) c.count_of-all.result
    (length c.args.bytes.now) c.behind_of.ensures c.requires.within c.count_of-all.ensures c.requires.whole c.requires.room in
    page_word (4 + c.args.from * (c.args.widths.key + c.behind_of.result) + length c.args.bytes.now) _ room

pub slice_bounds-copy_from_slice-end : goal.slice_bounds-copy_from_slice-end
slice_bounds-copy_from_slice-end c =
    let room = room_is c.args.widths c.args.kind c.behind_of.result c.args.from c.args.to c.args.count
    (count_in c.args.page.now) c.count_of-all.result
    (length c.args.bytes.now) c.behind_of.ensures c.requires.within c.count_of-all.ensures c.requires.whole c.requires.room in
    page_there (4 + c.args.from * (c.args.widths.key + c.behind_of.result) + length c.args.bytes.now) _ room

pub slice_bounds-copy_from_slice-start : goal.slice_bounds-copy_from_slice-start
slice_bounds-copy_from_slice-start c = more (4 + c.args.from * (c.args.widths.key + c.behind_of.result)) (length c.args.bytes.now)

pub slice_bounds-copy_from_slice-count : goal.slice_bounds-copy_from_slice-count
slice_bounds-copy_from_slice-count c = more (4 + c.args.from * (c.args.widths.key + c.behind_of.result)) (length c.args.bytes.now)

pub move_within-requires-clause-room : goal.move_within-requires-clause-room
move_within-requires-clause-room c =
    room_is c.args.widths c.args.kind c.behind_of.result c.args.from c.args.to c.args.count (count_in c.args.page.now) c.count_of-all.result
    (length c.args.bytes.now) c.behind_of.ensures c.requires.within c.count_of-all.ensures c.requires.whole c.requires.room

pub move_within-requires-clause-order : goal.move_within-requires-clause-order
move_within-requires-clause-order c =
    let at = are_within c.args.widths c.args.kind c.behind_of.result c.args.from c.args.to
    (count_in c.args.page.now) c.count_of-all.result c.behind_of.ensures c.requires.order c.requires.within c.requires.page.fits c.count_of-all.ensures in
    both_behind (c.args.to * (c.args.widths.key + c.behind_of.result)) (c.count_of-all.result * (c.args.widths.key + c.behind_of.result)) at.rest

pub move_within-requires-clause-within : goal.move_within-requires-clause-within
move_within-requires-clause-within c =
    let at = are_within c.args.widths c.args.kind c.behind_of.result c.args.from c.args.to
    (count_in c.args.page.now) c.count_of-all.result c.behind_of.ensures c.requires.order c.requires.within c.requires.page.fits c.count_of-all.ensures in
    head_within (c.count_of-all.result * (c.args.widths.key + c.behind_of.result)) at.whole

pub copy_from_slice-requires : goal.copy_from_slice-requires
copy_from_slice-requires c =
    let room = room_is c.args.widths c.args.kind c.behind_of.result c.args.from c.args.to c.args.count
    (count_in c.args.page.now) c.count_of-all.result
    (length c.args.bytes.now) c.behind_of.ensures c.requires.within c.count_of-all.ensures c.requires.whole c.requires.room in
    part_long (4 + c.args.from * (c.args.widths.key + c.behind_of.result))
    (length c.args.bytes.now) c.move_within.new.page c.move_within.array_long
    (page_there (4 + c.args.from * (c.args.widths.key + c.behind_of.result) + length c.args.bytes.now) _ room)

pub overflow_add-from : goal.overflow_add-from
overflow_add-from c =
    let few = few_items c.args.widths c.args.kind (c.args.from + c.args.count + (count_in c.args.page.now - c.args.to)) c.requires.room in
    first_word c.args.from c.args.count (count_in c.args.page.now - c.args.to) few

pub overflow_add-from-2 : goal.overflow_add-from-2
overflow_add-from-2 c =
    let few = few_items c.args.widths c.args.kind (c.args.from + c.args.count + (count_in c.args.page.now - c.args.to)) c.requires.room in
    all_word c.args.from c.args.to c.args.count (count_in c.args.page.now) c.count_of-all.result c.count_of-all.ensures few

pub set_count-requires : goal.set_count-requires
set_count-requires c =
    let few = few_items c.args.widths c.args.kind (c.args.from + c.args.count + (count_in c.args.page.now - c.args.to)) c.requires.room in
    all_count c.args.from c.args.to c.args.count (count_in c.args.page.now) c.count_of-all.result c.count_of-all.ensures few

pub returns-clause-page : goal.returns-clause-page
returns-clause-page c =
    let w = c.args.widths in
    let page = c.requires.page in
    let count : count_in c.set_count.new.bytes ≡ c.args.from + c.args.count +
    (count_in c.args.page.now - c.args.to) = c.set_count.ensures.count
    ∙ ap (λ (n : ℕ). c.args.from + c.args.count + (n - c.args.to)) c.count_of-all.ensures in
    let same = head_stays w.key (behind_of w c.args.kind) c.behind_of.result c.args.from c.args.to (count_in c.args.page.now) c.args.count c.count_of-all.result
    c.args.page.now c.move_within.new.page c.copy_from_slice.new.self c.args.bytes.now _ c.behind_of.ensures page.long c.requires.order c.requires.within page.fits c.count_of-all.ensures c.requires.whole c.requires.room
    c.move_within.ensures c.copy_from_slice.ensures.after refl in
    record {
      long = c.set_count.array_long;
      first = c.set_count.ensures.first ∙ same 0 0 (omega arith) ∙ page.first;
      second = c.set_count.ensures.second ∙ same 1 0 (omega arith) ∙ page.second;
      enough = omega (arith, count, c.requires.enough);
      fits = subst (λ (n : ℕ). n * item_width w c.args.kind ≤ 4092) (sym count) c.requires.room;
    }

pub returns-clause-items : goal.returns-clause-items
returns-clause-items c =
    let w = c.args.widths in
    let page = c.requires.page in
    page_listed w.key (behind_of w c.args.kind) c.behind_of.result c.args.from c.args.to (count_in c.args.page.now) c.args.count c.count_of-all.result
    c.args.page.now c.move_within.new.page c.copy_from_slice.new.self c.args.bytes.now _ c.behind_of.ensures page.long c.requires.order c.requires.within page.fits c.count_of-all.ensures c.requires.whole c.requires.room
    c.move_within.ensures c.copy_from_slice.ensures.after refl _ _ c.set_count.ensures.items c.set_count.ensures.count
