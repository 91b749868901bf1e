-- The table that pages hold is the one that they spell.
use Rattle.std.proofs.Common.{◌≡◌, inl, inr, ℕ, zero, suc, ◌^◌, ◌<◌, ◌≤◌, ◌==◌, ◌&&◌, nat_lt, List, [], ◌∷◌, ◌++◌, length, map, take, drop}
use Rattle.std.proofs.Common.{get_or, Contains, slice_index, Bool, true, false, Option, Some, None, refl, sym, ◌∙◌, ap, subst, arith}
use Rattle.std.specs.Prelude.{slice_get, All, unwrap_or, if◌then◌else◌}
use Rattle.std.specs.List.{flat_map, range_with_len}
use Rattle.std.specs.Option.{is_some, option_map}
use Rattle.std.proofs.lemmas.Bool.{eq-eqb, ltb-true, lt-ltb}
use Rattle.std.proofs.lemmas.Bool.Decides.{eqb_tells}
use Rattle.std.proofs.lemmas.List.{take_at, drop_at}
use Rattle.retrograde.specs.Changes.{fresh_record as no_record}
use Rattle.std.proofs.lemmas.List.Elements.{All-head, All-tail, All-weaker}
use Rattle.std.proofs.lemmas.List.FromFn.{get_or-range_with_len, length-range_with_len, length-map-range_with_len}
use Rattle.std.proofs.lemmas.Option.{slice_get_within, slice_get-get_or, slice_get-map}
use Rattle.byteorder.specs.Endian.{big_number}
use Rattle.page_store.specs.Store.{Store, reads}
use Rattle.rbg_game.specs.declared.roles.Player.{Player}
use Rattle.rbg_game.specs.declared.roles.Player.TheVariants.{First, Second}
use Rattle.retrograde.specs.declared.records.State.{State}
use Rattle.retrograde.specs.declared.records.State.TheVariants.{Known, Expanded, Settled, Processed}
use Rattle.retrograde.specs.declared.records.Record.{Record}
use Rattle.retrograde.specs.Stored.{Stored}
use Rattle.game_file.specs.declared.sizes.Sizes.{Sizes}
use Rattle.game_file.specs.Bytes.{state_byte, winner_byte, IsRecord, IsCell}
use Rattle.btree.specs.declared.page.kind.Kind.TheVariants.{Inner}
use Rattle.btree.specs.declared.page.widths.Widths.{Widths}
use Rattle.btree.specs.Page.{Item, items_in, items_of, count_in, child_of}
use Rattle.btree.specs.Entries.{find_entry, first_key}
use Rattle.btree.specs.Tree.{entries_below, IsTree, IsMap}
use Rattle.btree.specs.lemmas.Laws.{contains_root}
use Rattle.tree_table.specs.declared.slot.TreeSlot.{TreeSlot}
use Rattle.tree_table.specs.declared.tree.Tree.{Tree}
use Rattle.tree_table.specs.declared.tree.Tree.TheVariants.{Records, Edges, Order}
use Rattle.tree_table.specs.Entries.{edge_key, AreEntriesOf}
use Rattle.tree_table.specs.Forest.{IsTreeOf}
use Rattle.tree_table.specs.Spelled.{entries_down, entries_at, record_in, value_at, table_of, entries_in, table_in}
use Rattle.table.specs.Records.{state_in, winner_in}
use Rattle.tree_table.specs.Trees.{root_of}
use Rattle.tree_table.specs.WorkTable.{HoldsTable}
use Rattle.tree_table.specs.lemmas.Lists.{same_list, zip_got}
use Rattle.tree_table.specs.lemmas.Numbers.{same_edge}

-- entries as the kinds of pages tell them are those of the tree
flat_all : (f g : Item → List Item) (cs : List Item) → All (λ c. f c ≡ g c) cs → flat_map f cs ≡ flat_map g cs
flat_all f g [] all = refl
flat_all f g (c ∷ cs) all =
    let P = λ (a : Item). f a ≡ g a in
    let one : f c ≡ g c = All-head P c cs all in
    let rest : flat_map f cs ≡ flat_map g cs = flat_all f g cs (All-tail P c cs all) in
    λ i. one i ++ rest i

down_is : (w : Widths) (bytes : ℕ → List ℕ) (d levels page : ℕ) → d < levels → IsTree w bytes d page
    → entries_down w.key w.value bytes levels page ≡ entries_below w bytes d page
unfolding entries_down
down_is w bytes d zero page deep tree = absurd (omega (arith, deep))
down_is w bytes zero (suc levels) page deep tree =
    let leaf : (slice_index (bytes page) 0 == 1) ≡ true = eq-eqb (slice_index (bytes page) 0) 1 tree.first in
    ap (λ (b : Bool). if b then items_of w.key w.value (count_in (bytes page)) (drop 4 (bytes page))
    else flat_map (λ c. entries_down w.key w.value bytes levels (child_of c)) (items_of w.key 4 (count_in (bytes page)) (drop 4 (bytes
    page)))) leaf
down_is w bytes (suc d) (suc levels) page deep tree =
    let inner : (slice_index (bytes page) 0 == 1) ≡ false = ap (λ (n : ℕ). n == 1) tree.0.first in
    let f = λ (c : Item). entries_down w.key w.value bytes levels (child_of c) in
    let h = λ (c : Item). entries_below w bytes d (child_of c) in
    let below : All (λ c. f c ≡ h c) (items_in w Inner (bytes page)) =
    All-weaker (λ c. IsTree w bytes d (child_of c) × (first_key (entries_below w bytes d (child_of c)) ≡ Some c.0)) (λ c. f c ≡ h c)
    (λ c t. down_is w bytes d levels (child_of c) (omega (arith, deep)) t.0) (items_in w Inner (bytes page)) tree.1 in
    ap (λ (b : Bool). if b then items_of w.key w.value (count_in (bytes page)) (drop 4 (bytes page)) else flat_map f (items_of w.key 4
    (count_in (bytes page)) (drop 4 (bytes page)))) inner
    ∙ flat_all f h (items_in w Inner (bytes page)) below

at_is : (w : Widths) (capacity root : ℕ) (pages : List ℕ) (es : List Item) (bytes : ℕ → List ℕ) → IsMap w capacity root pages es bytes
    → entries_at w.key w.value bytes root ≡ es
unfolding entries_at
at_is w capacity root pages es bytes (inl empty) =
    ap (λ (b : Bool). if b then [] else entries_down w.key w.value bytes 24 root) (eq-eqb root 0 empty.at_none) ∙ sym empty.no_entry
at_is w capacity root pages es bytes (inr map) =
    let there : 1 ≤ root = (map.within root (subst (λ (ps : List ℕ). Contains ps root) map.pages_are (contains_root w bytes map.depth
    root))).0 in
    let some : (root == 0) ≡ false = not_zero root there in
    ap (λ (b : Bool). if b then [] else entries_down w.key w.value bytes 24 root) some
    ∙ down_is w bytes map.depth 24 root map.shallow map.tree ∙ map.entries_are
  where
    not_zero : (n : ℕ) → 1 ≤ n → (n == 0) ≡ false
    not_zero n some = elim (eqb_tells n 0) [ inl is ↦ absurd (omega (arith, is.1, some)) | inr is ↦ is.0 ]

-- records as their bytes tell them
state_is : (s : State) (b : ℕ) → b ≡ state_byte s → state_in b ≡ s
state_is Known b is = ap state_in is
state_is Expanded b is = ap state_in is
state_is Settled b is = ap state_in is
state_is Processed b is = ap state_in is

winner_is : (w : Option Player) (b : ℕ) → b ≡ winner_byte w → winner_in b ≡ w
winner_is None b is = ap winner_in is
winner_is (Some First) b is = ap winner_in is
winner_is (Some Second) b is = ap winner_in is

record_is : (bytes : List ℕ) (r : Record) → IsRecord bytes r → record_in bytes ≡ r
unfolding record_in
record_is bytes r is = λ i. record {
  state = state_is r.state (slice_index bytes 0) is.state i;
  winner = winner_is r.winner (slice_index bytes 1) is.winner i;
  distance = is.distance i;
  left = is.left i;
  successors = is.successors i;
}

-- what is at a place of a list over numbers
at_number : {A : Type 0} (f : ℕ → A) (n i : ℕ) → i < n → slice_get (map f (range_with_len 0 n)) i ≡ Some (f i)
at_number {A} f n i low =
    let number : slice_get (range_with_len 0 n) i ≡ Some i =
    slice_get-get_or (range_with_len 0 n) i 0 (omega (arith, low, length-range_with_len 0 n)) ∙ ap Some (get_or-range_with_len 0 n i 0 low
    ∙ (omega arith)) in
    slice_get-map f (range_with_len 0 n) i ∙ ap (option_map f) number

-- truths that go with one another are the same
same_truths : (a b : Bool) → (a ≡ true → b ≡ true) → (b ≡ true → a ≡ true) → a ≡ b
same_truths true b there back = sym (there refl)
same_truths false true there back = back refl
same_truths false false there back = refl

all_three : (a b c : Bool) → (a && b && c) ≡ true → (a ≡ true) × (b ≡ true) × (c ≡ true)
all_three true true c is = (refl, refl, is)
all_three true false c is = absurd (cc)
all_three false b c is = absurd (cc)

three_all : (a b c : Bool) → a ≡ true → b ≡ true → c ≡ true → (a && b && c) ≡ true
three_all a b c one two three = λ i. one i && two i && three i

some_value : (o : Option (List ℕ)) → is_some o ≡ true → (v : List ℕ) × (o ≡ Some v)
some_value (Some v) is = (v, refl)
some_value None is = absurd (cc)

module _ (sizes : Sizes) (entries : Tree → List Item) (table : Stored (List ℕ)) (few : sizes.counts.known ≤ 2 ^ 24) (are : AreEntriesOf
    sizes entries table) where
  cell_at : (i : ℕ) (x : List ℕ) (r : Record) → slice_get table.positions i ≡ Some x → slice_get table.records i ≡ Some r
      → IsCell sizes.packed (value_at (entries Records) i) (x, r)
  cell_at i x r one two =
      let (v, found, of) = are.records.each i (x, r) (zip_got table.positions table.records i x r one two) in
      subst (λ (o : Option (List ℕ)). IsCell sizes.packed (unwrap_or o []) (x, r)) (sym found) of

  other_at : {A B : Type 0} (xs : List A) (ys : List B) (i : ℕ) (x : A) → length ys ≡ length xs → slice_get xs i ≡ Some x → B
      → (y : B) × (slice_get ys i ≡ Some y)
  other_at xs ys i x long got d = (get_or ys i d, slice_get-get_or ys i d (omega (arith, long, slice_get_within xs i x got)))

  positions_are : map (λ i. take sizes.packed (value_at (entries Records) i)) (range_with_len 0 sizes.counts.known) ≡ table.positions
  positions_are =
      let f = λ (i : ℕ). take sizes.packed (value_at (entries Records) i) in
      sym (same_list table.positions (map f (range_with_len 0 sizes.counts.known)) (are.known
      ∙ sym (length-map-range_with_len f 0 sizes.counts.known))
      (λ i x got.
      let (r, at) = other_at table.positions table.records i x (are.recorded ∙ sym are.known) got no_record in
      let cell = cell_at i x r got at in
      let part : f i ≡ x = ap (take sizes.packed) cell.is ∙ take_at x cell.behind sizes.packed cell.long in
      at_number f sizes.counts.known i (omega (arith, are.known, slice_get_within table.positions i x got)) ∙ ap Some part))

  records_are : map (λ i. record_in (drop sizes.packed (value_at (entries Records) i))) (range_with_len 0 sizes.counts.known) ≡
      table.records
  records_are =
      let f = λ (i : ℕ). record_in (drop sizes.packed (value_at (entries Records) i)) in
      sym (same_list table.records (map f (range_with_len 0 sizes.counts.known)) (are.recorded
      ∙ sym (length-map-range_with_len f 0 sizes.counts.known))
      (λ i r got.
      let (x, at) = other_at table.records table.positions i r (are.known ∙ sym are.recorded) got [] in
      let cell = cell_at i x r at got in
      let part : f i ≡ r =
      ap (λ (b : List ℕ). record_in (drop sizes.packed b)) cell.is ∙ ap record_in (drop_at x cell.behind sizes.packed cell.long)
      ∙ record_is cell.behind r cell.is_record in
      at_number f sizes.counts.known i (omega (arith, are.recorded, slice_get_within table.records i r got)) ∙ ap Some part))

  order_is : map (λ k. big_number 4 (value_at (entries Order) k)) (range_with_len 0 sizes.counts.settled) ≡ table.order
  order_is =
      let f = λ (k : ℕ). big_number 4 (value_at (entries Order) k) in
      sym (same_list table.order (map f (range_with_len 0 sizes.counts.settled)) (are.settled
      ∙ sym (length-map-range_with_len f 0 sizes.counts.settled))
      (λ k n got.
      let (v, found, of) = are.order.each k n got in
      let part : f k ≡ n = ap (λ (o : Option (List ℕ)). big_number 4 (unwrap_or o [])) found ∙ of.is in
      at_number f sizes.counts.settled k (omega (arith, are.settled, slice_get_within table.order k n got)) ∙ ap Some part))

  edges_are : (i p : ℕ) → (nat_lt i sizes.counts.known && nat_lt p sizes.counts.known && is_some (find_entry (entries Edges) (edge_key i
      p))) ≡ table.has_edge i p
  edges_are i p =
      same_truths (nat_lt i sizes.counts.known && nat_lt p sizes.counts.known && is_some (find_entry (entries Edges) (edge_key i p)))
      (table.has_edge i p)
      (λ is.
      let (one, two, three) = all_three (nat_lt i sizes.counts.known) (nat_lt p sizes.counts.known) (is_some (find_entry (entries Edges)
      (edge_key i p))) is in
      let (v, found) = some_value (find_entry (entries Edges) (edge_key i p)) three in
      let (j, q, same, has) = are.edges.only (edge_key i p) v found in
      let (low, less) = are.edges.between j q has in
      let (a, b) = same_edge i p j q (omega (arith, ltb-true i sizes.counts.known one, few)) (omega (
        arith,
        ltb-true p sizes.counts.known
            two,
        few,
      )) (omega (arith, low, few)) (omega (arith, less, few)) same in
      (λ k. table.has_edge (a k) (b k)) ∙ has)
      (λ has.
      let (low, less) = are.edges.between i p has in
      three_all (nat_lt i sizes.counts.known) (nat_lt p sizes.counts.known) (is_some (find_entry (entries Edges) (edge_key i p))) (lt-ltb i
      sizes.counts.known low) (lt-ltb p sizes.counts.known less)
      (are.edges.each i p has))

  pub spelled_is : table_of sizes entries ≡ table
  unfolding table_of
  spelled_is = λ i. record { positions = positions_are i; records = records_are i; has_edge = λ j p. edges_are j p i; order = order_is i }

-- the entries that the slot names
entries_are : (slot : TreeSlot) (capacity : ℕ) (pages : Tree → List ℕ) (entries : Tree → List Item) (bytes : ℕ → List ℕ)
    → ((t : Tree) → IsTreeOf slot.sizes.packed t capacity (root_of slot.roots t) (pages t) (entries t) bytes) → (t : Tree)
    → entries_in slot bytes t ≡ entries t
entries_are slot capacity pages entries bytes trees t =
    let tree = trees t in
    (λ i. entries_at (sym tree.keys i) (sym tree.values i) bytes (root_of slot.roots t))
    ∙ at_is tree.widths capacity (root_of slot.roots t) (pages t) (entries t) bytes tree.map

pub forest_spells : (slot : TreeSlot) (capacity : ℕ) (pages : Tree → List ℕ) (entries : Tree → List Item) (bytes : ℕ
    → List ℕ) (table : Stored (List ℕ))
    → slot.sizes.counts.known ≤ 2 ^ 24
    → ((t : Tree) → IsTreeOf slot.sizes.packed t capacity (root_of slot.roots t) (pages t) (entries t) bytes)
    → AreEntriesOf slot.sizes entries table → table_in slot bytes ≡ table
unfolding table_in
forest_spells slot capacity pages entries bytes table few trees are =
    (λ i. table_of slot.sizes (λ t. entries_are slot capacity pages entries bytes trees t i)) ∙ spelled_is slot.sizes entries table few are

pub table_is : (slot : TreeSlot) (text : List ℕ) (table : Stored (List ℕ)) (store : Store) → slot.sizes.counts.known ≤ 2 ^ 24
    → HoldsTable slot text table store → table_in slot (reads store) ≡ table
table_is slot text table store few h =
    forest_spells slot (length store.marks) h.forest.pages h.entries (reads store) table few h.forest.forest.trees h.spelled
