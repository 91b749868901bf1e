-- A map has no more entries than its pages have room for.
use Rattle.std.proofs.Common.{◌≡◌, ℕ, zero, suc, ◌+◌, ◌*◌, ◌≤◌, List, [], ◌∷◌, length, subst, ap, sym, arith, length-append}
use Rattle.std.specs.Prelude.{All}
use Rattle.std.specs.List.{flat_map}
use Rattle.std.proofs.lemmas.List.Elements.{All-head, All-tail, All-weaker}
use Rattle.std.proofs.Math.Nat.{mul-le-mul_left}
use Rattle.btree.specs.lemmas.Items.{length-items}
use Rattle.btree.specs.declared.page.kind.Kind.TheVariants.{Leaf, Inner}
use Rattle.btree.specs.declared.page.widths.Widths.{Widths}
use Rattle.btree.specs.Page.{Item, items_in, child_of, count_in}
use Rattle.btree.specs.Entries.{first_key}
use Rattle.btree.specs.Tree.{entries_below, pages_below, IsTree, IsMap}
use Rattle.btree.specs.lemmas.PutFrame.{few_pages}
use Rattle.std.proofs.Common.{inl, inr, Some}

all_few : (f : Item → List Item) (ps : Item → List ℕ) (cs : List Item) → All (λ c. length (f c) ≤ 4092 * length (ps c)) cs
    → length (flat_map f cs) ≤ 4092 * length (flat_map ps cs)
all_few f ps [] few = omega arith
all_few f ps (c ∷ cs) few =
    let P = λ (a : Item). length (f a) ≤ 4092 * length (ps a) in
    let one : length (f c) ≤ 4092 * length (ps c) = All-head P c cs few in
    let rest : length (flat_map f cs) ≤ 4092 * length (flat_map ps cs) = all_few f ps cs (All-tail P c cs few) in
    omega (arith, one, rest, length-append (f c) (flat_map f cs), length-append (ps c) (flat_map ps cs))

-- a page has no more items than bytes
fits : (n k v : ℕ) → 1 ≤ k → n * (k + v) ≤ 4092 → n ≤ 4092
fits n k v some room = let least : n * 1 ≤ n * (k + v) = mul-le-mul_left n (omega (arith, some)) in omega (arith, least, room)

tree_few : (w : Widths) (bytes : ℕ → List ℕ) (d page : ℕ) → IsTree w bytes d page
    → length (entries_below w bytes d page) ≤ 4092 * length (pages_below w bytes d page)
tree_few w bytes zero page tree =
    let count : length (items_in w Leaf (bytes page)) ≡ count_in (bytes page) = length-items w.key w.value (count_in (bytes page)) _ in
    let room : count_in (bytes page) ≤ 4092 = fits (count_in (bytes page)) w.key w.value w.some tree.fits in
    omega (arith, count, room)
tree_few w bytes (suc d) page tree =
    let f = λ (c : Item). entries_below w bytes d (child_of c) in
    let ps = λ (c : Item). pages_below w bytes d (child_of c) in
    let items = items_in w Inner (bytes page) in
    let each : All (λ c. length (f c) ≤ 4092 * length (ps c)) items =
    All-weaker (λ c. IsTree w bytes d (child_of c) × (first_key (entries_below w bytes d (child_of c)) ≡ Some c.0)) (λ c. length (f c) ≤ 4092 * length (ps c))
    (λ c t. tree_few w bytes d (child_of c) t.0) items tree.1 in
    let all : length (flat_map f items) ≤ 4092 * length (flat_map ps items) = all_few f ps items each in
    omega (arith, all)

pub map_few : (w : Widths) (capacity root : ℕ) (pages : List ℕ) (es : List Item) (bytes : ℕ → List ℕ) → capacity ≤ 1048576
    → IsMap w capacity root pages es bytes
    → length es ≤ 4290772992
map_few w capacity root pages es bytes small (inl empty) = subst (λ (xs : List Item). length xs ≤ 4290772992) (sym empty.no_entry) (omega arith)
map_few w capacity root pages es bytes small (inr map) =
    let few : length (entries_below w bytes map.depth root) ≤ 4092 * length (pages_below w bytes map.depth root) = tree_few w bytes map.depth root map.tree in
    let there : length pages ≤ capacity = few_pages pages capacity map.once (λ p here. (map.within p here).1) in
    omega (arith, few, there, small, ap length map.entries_are, ap length map.pages_are)
