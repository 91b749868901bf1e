use Rattle.std.proofs.Common.{◌≡◌, ◌∙◌, ◌≤◌, ℕ, sym, subst, arith}
use Rattle.std.specs.Prelude.{slice_index}
use Rattle.game_file.specs.Fields.{word_at, long_at, layout_in, packing_in, number_of_packing, capacity_in, goal_number_in, kind_in, HasPlaceFor}
use Rattle.game_file.specs.lemmas.Goals.{goal_is}
use Rattle.game_file.specs.lemmas.Packings.{kind_is}
use Rattle.game_file.specs.lemmas.Words.{long_same, word_same}
use Rattle.tree_table.specs.Slot.{slot_in}
use Rattle.tree_table.proofs.slot.game_slot.Goals as goal

layout : (c : goal.After-put_word-3) → layout_in c.put_word-3.new.root ≡ c.args.layout
layout c = c.put_word-3.ensures.before 0 (omega arith) ∙ c.put_long-2.ensures.before 0 (omega arith)
    ∙ c.put_roots.ensures.before 0 (omega arith) ∙ c.put_sizes.ensures.before 0 (omega arith) ∙ c.put_word-2.ensures.before 0 (omega arith)
    ∙ c.put_long.ensures.before 0 (omega arith) ∙ c.put_word.ensures.before 0 (omega arith) ∙ c.empty_slot-root.ensures.layout

packing : (c : goal.After-put_word-3) → packing_in c.put_word-3.new.root ≡ number_of_packing c.args.slot.now.packing
packing c = c.put_word-3.ensures.before 4 (omega arith) ∙ c.put_long-2.ensures.before 4 (omega arith)
    ∙ c.put_roots.ensures.before 4 (omega arith) ∙ c.put_sizes.ensures.before 4 (omega arith) ∙ c.put_word-2.ensures.before 4 (omega arith)
    ∙ c.put_long.ensures.before 4 (omega arith) ∙ c.put_word.ensures.is ∙ c.number_of_packing.ensures

-- what stands after the fields that are put
from_empty : (c : goal.After-put_word-3) (k : ℕ) → 68 ≤ k → slice_index c.put_long-2.new.root k ≡ slice_index c.empty_slot-root.result k
from_empty c k low =
    c.put_long-2.ensures.behind k (omega (arith, low)) ∙ c.put_roots.ensures.behind k (omega (arith, low))
    ∙ c.put_sizes.ensures.behind k (omega (arith, low)) ∙ c.put_word-2.ensures.behind k (omega (arith, low))
    ∙ c.put_long.ensures.behind k (omega (arith, low))
    ∙ c.put_word.ensures.behind k (omega (arith, low))

-- as in the slot of no game
pages_as : (c : goal.After-put_word-3) → capacity_in c.put_word-3.new.root ≡ capacity_in c.empty_slot-root.result
pages_as c =
    c.put_word-3.ensures.before 68 (omega arith) ∙ word_same c.empty_slot-root.result c.put_long-2.new.root 68 (λ k low high. from_empty c k low)

its_slot : (c : goal.After-put_word-3) → HasPlaceFor c.args.layout c.args.slot.now.goal → slot_in c.put_word-3.new.root ≡ c.args.slot.now
its_slot c = λ place.
    let root = c.put_word-3.new.root in
    let slot = c.args.slot.now in
    let first : word_at root 16 ≡ slot.first = c.put_word-3.ensures.before 16 (omega arith) ∙ c.put_long-2.ensures.before 16 (omega arith)
    ∙ c.put_roots.ensures.before 16 (omega arith) ∙ c.put_sizes.ensures.before 16 (omega arith) ∙ c.put_word-2.ensures.is in
    let text : word_at root 20 ≡ slot.sizes.text = c.put_word-3.ensures.before 20 (omega arith)
    ∙ c.put_long-2.ensures.before 20 (omega arith) ∙ c.put_roots.ensures.before 20 (omega arith) ∙ c.put_sizes.ensures.text in
    let packed : word_at root 24 ≡ slot.sizes.packed = c.put_word-3.ensures.before 24 (omega arith)
    ∙ c.put_long-2.ensures.before 24 (omega arith) ∙ c.put_roots.ensures.before 24 (omega arith) ∙ c.put_sizes.ensures.packed in
    let known : word_at root 28 ≡ slot.sizes.counts.known = c.put_word-3.ensures.before 28 (omega arith)
    ∙ c.put_long-2.ensures.before 28 (omega arith) ∙ c.put_roots.ensures.before 28 (omega arith) ∙ c.put_sizes.ensures.known in
    let expanded : word_at root 32 ≡ slot.sizes.counts.expanded = c.put_word-3.ensures.before 32 (omega arith)
    ∙ c.put_long-2.ensures.before 32 (omega arith) ∙ c.put_roots.ensures.before 32 (omega arith) ∙ c.put_sizes.ensures.expanded in
    let settled : word_at root 36 ≡ slot.sizes.counts.settled = c.put_word-3.ensures.before 36 (omega arith)
    ∙ c.put_long-2.ensures.before 36 (omega arith) ∙ c.put_roots.ensures.before 36 (omega arith) ∙ c.put_sizes.ensures.settled in
    let processed : word_at root 40 ≡ slot.sizes.counts.processed = c.put_word-3.ensures.before 40 (omega arith)
    ∙ c.put_long-2.ensures.before 40 (omega arith) ∙ c.put_roots.ensures.before 40 (omega arith) ∙ c.put_sizes.ensures.processed in
    let positions : word_at root 44 ≡ slot.roots.positions = c.put_word-3.ensures.before 44 (omega arith)
    ∙ c.put_long-2.ensures.before 44 (omega arith) ∙ (λ i. (c.put_roots.ensures.roots i).positions) in
    let records : word_at root 48 ≡ slot.roots.records = c.put_word-3.ensures.before 48 (omega arith)
    ∙ c.put_long-2.ensures.before 48 (omega arith) ∙ (λ i. (c.put_roots.ensures.roots i).records) in
    let edges : word_at root 52 ≡ slot.roots.edges = c.put_word-3.ensures.before 52 (omega arith)
    ∙ c.put_long-2.ensures.before 52 (omega arith) ∙ (λ i. (c.put_roots.ensures.roots i).edges) in
    let order : word_at root 56 ≡ slot.roots.order = c.put_word-3.ensures.before 56 (omega arith)
    ∙ c.put_long-2.ensures.before 56 (omega arith) ∙ (λ i. (c.put_roots.ensures.roots i).order) in
    let many : long_at root 60 ≡ slot.sizes.edges =
    long_same c.put_long-2.new.root root 60 (λ k low high. c.put_word-3.ensures.ahead k (omega (arith, high))) ∙ c.put_long-2.ensures.is in
    let points : goal_number_in root ≡ slot.goal =
    goal_is root slot.goal c.put_word-3.ensures.is (subst (λ (n : ℕ). HasPlaceFor n slot.goal) (sym (layout c)) place) in
    let kind : kind_in root ≡ slot.packing = kind_is root slot.packing (packing c) in
    let same : slot_in root ≡ slot = λ i. record {
      packing = kind i;
      goal = points i;
      first = first i;
      sizes = record {
        text = text i;
        packed = packed i;
        counts =
            record { known = known i; expanded = expanded i; settled = settled i; processed = processed i };
        edges = many i;
      };
      roots = record { positions = positions i; records = records i; edges = edges i; order = order i };
    } in
    same

pub returns : goal.returns
returns c = record {
  layout = layout c;
  pages = λ late.
      pages_as c ∙ c.empty_slot-root.ensures.pages (omega (arith, late, layout c, c.empty_slot-root.ensures.layout));
  packing = packing c;
  commits =
      long_same c.put_long.new.root c.put_word-3.new.root 8
      (λ k low high. c.put_word-3.ensures.ahead k (omega (arith, high)) ∙ c.put_long-2.ensures.ahead k (omega (arith, high))
      ∙ c.put_roots.ensures.ahead k (omega (arith, high)) ∙ c.put_sizes.ensures.ahead k (omega (arith, high))
      ∙ c.put_word-2.ensures.ahead k (omega (arith, high)))
      ∙ c.put_long.ensures.is;
  slot = its_slot c;
  behind = λ k low high.
      c.put_word-3.ensures.behind k (omega (arith, low)) ∙ from_empty c k (omega (arith, low)) ∙ c.empty_slot-root.ensures.behind k (omega (arith, low)) high;
  unsaid = λ early. pages_as c ∙ c.empty_slot-root.ensures.unsaid early;
}
