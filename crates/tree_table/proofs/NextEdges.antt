-- The next edge is the next key.
use Rattle.std.proofs.Common.{◌≡◌, ◌≢◌, inl, inr, ℕ, zero, suc, ◌^◌, ◌<◌, ◌≤◌, List, [], ◌∷◌, ◌++◌, length, take, drop, Contains, true, false, Bool, cond, Option, Some, None, refl, sym, ◌∙◌, ap, subst, arith}
use Rattle.std.specs.Option.{is_some, IfSome}
use Rattle.std.proofs.lemmas.Bool.{cases_order}
use Rattle.std.proofs.lemmas.Cmp.{nat_list_cmp_total, tied_itself}
use Rattle.std.proofs.lemmas.List.{append-nil, take_at, drop_at}
use Rattle.std.specs.Cmp.{nat_cmp_is}
use Rattle.std.specs.Ordering.{nat_cmp, ordering_then, is_eq, is_gt}
use Rattle.std.specs.declared.cmp.Ordering.{Ordering}
use Rattle.std.specs.declared.cmp.Ordering.TheVariants.{Less, Equal, Greater}
use Rattle.byteorder.specs.Endian.{big_number}
use Rattle.page_store.specs.Store.{Store, reads}
use Rattle.retrograde.specs.Edges.{IsAfter, IsNextEdge, HasNoMoreEdges}
use Rattle.retrograde.specs.Stored.{Stored}
use Rattle.game_file.specs.Bytes.{IsNumber}
use Rattle.btree.specs.Page.{Item, key_cmp}
use Rattle.btree.specs.declared.page.widths.Widths.{Widths}
use Rattle.btree.specs.Entries.{Ascend, find_entry, next_after}
use Rattle.btree.specs.Next.{IsNextEntry}
use Rattle.btree.specs.Tree.{IsMap}
use Rattle.btree.specs.lemmas.Next.{the_next_is_the_least, no_next_is_greater}
use Rattle.btree.specs.lemmas.Order.{ascend_none, same_key}
use Rattle.tree_table.specs.declared.slot.TreeSlot.{TreeSlot}
use Rattle.tree_table.specs.declared.tree.Tree.TheVariants.{Edges}
use Rattle.tree_table.specs.Entries.{number_key, edge_key}
use Rattle.tree_table.specs.Trees.{root_of}
use Rattle.tree_table.specs.WorkTable.{HasTable}
use Rattle.tree_table.specs.lemmas.Keys.{key_behind}
use Rattle.tree_table.proofs.KeyOrder.{keys_cmp, number_cmp}
use Rattle.tree_table.specs.lemmas.Numbers.{key_long, key_back, edge_long}

-- what is found is there, and what is there is found
is_there : (es : List Item) (key value : List ℕ) → find_entry es key ≡ Some value → Contains es (key, value)
is_there [] key value is = absurd (cc)
is_there (e ∷ es) key value is = by_order (is_there es key value) (key_cmp key e.0) refl is
  where
    by_order : (find_entry es key ≡ Some value → Contains es (key, value)) → (o : Ordering) → key_cmp key e.0 ≡ o
        → cond (is_eq o) (Some e.1) (find_entry es key) ≡ Some value
        → Contains (e ∷ es) (key, value)
    by_order rest Less order at = let (k, low, got) = rest at in (suc k, omega (arith, low), got)
    by_order rest Equal order at =
        let same : e.1 ≡ value = cc in
        (0, omega arith, λ i. (sym (same_key key e.0 order) i, same i))
    by_order rest Greater order at = let (k, low, got) = rest at in (suc k, omega (arith, low), got)

some_either : (b : Bool) (v : List ℕ) (o : Option (List ℕ)) → is_some o ≡ true → is_some (cond b (Some v) o) ≡ true
some_either true v o is = refl
some_either false v o is = is

is_found : (es : List Item) (e : Item) → Contains es e → is_some (find_entry es e.0) ≡ true
is_found [] e (k, low, is) = absurd (omega (arith, low))
is_found (x ∷ es) e (zero, low, is) =
    ap (λ (i : Item). is_some (find_entry (x ∷ es) i.0)) (sym is)
    ∙ ap (λ (o : Ordering). is_some (cond (is_eq o) (Some x.1) (find_entry es x.0))) (tied_itself nat_list_cmp_total x.0)
is_found (x ∷ es) e (suc k, low, is) = some_either (is_eq (key_cmp e.0 x.0)) x.1 (find_entry es e.0) (is_found es e (k, omega (arith, low), is))

ascends : (w : Widths) (capacity root : ℕ) (pages : List ℕ) (es : List Item) (bytes : ℕ → List ℕ) → IsMap w capacity root pages es bytes → Ascend es
ascends w capacity root pages es bytes (inl empty) = subst Ascend (sym empty.no_entry) ascend_none
ascends w capacity root pages es bytes (inr map) = map.ascending

some_value : (o : Option (List ℕ)) → is_some o ≡ true → (v : List ℕ) × (o ≡ Some v)
some_value (Some v) is = (v, refl)
some_value None is = absurd (cc)

-- numbers by their order
less : (a b : ℕ) → a < b → nat_cmp a b ≡ Less
less a b low = sym (nat_cmp_is a b Less low)

equal : (a b : ℕ) → a ≡ b → nat_cmp a b ≡ Equal
equal a b same = sym (nat_cmp_is a b Equal same)

more : (a b : ℕ) → b < a → nat_cmp a b ≡ Greater
more a b high = sym (nat_cmp_is a b Greater high)

-- a number is after another where its key is
after_then : (a b : ℕ) → nat_cmp a b ≡ Less → a < b
after_then a b is = elim (cases_order a b) [
  | inl same ↦ let e : Equal ≡ Less = sym (equal a b same) ∙ is in absurd (cc)
  | inr (inl low) ↦ low
  | inr (inr high) ↦ let e : Greater ≡ Less = sym (more a b high) ∙ is in absurd (cc)
]

upto_then : (a b : ℕ) → is_gt (nat_cmp a b) ≡ false → a ≤ b
upto_then a b is = elim (cases_order a b) [
  | inl same ↦ omega (arith, same)
  | inr (inl low) ↦ omega (arith, low)
  | inr (inr high) ↦ let e : true ≡ false = sym (ap is_gt (more a b high)) ∙ is in absurd (cc)
]

first_upto : (a b : ℕ) (o : Ordering) → ordering_then (nat_cmp a b) o ≡ Less → a ≤ b
first_upto a b o is = elim (cases_order a b) [
  | inl same ↦ omega (arith, same)
  | inr (inl low) ↦ omega (arith, low)
  | inr (inr high) ↦ let e : Greater ≡ Less = sym (ap (λ (p : Ordering). ordering_then p o) (more a b high)) ∙ is in absurd (cc)
]

module _ (slot : TreeSlot) (text : List ℕ) (table : Stored (List ℕ)) (old : Store) (few : slot.sizes.counts.known ≤ 2 ^ 24) (h : HasTable slot text table old)
    (s : ℕ) (small : s < 2 ^ 32) (after : Option ℕ) (short : IfSome after (λ n. n < 2 ^ 32)) where
  ascending : Ascend (h.entries Edges)
  ascending = let tree = h.forest.forest.trees Edges in ascends tree.widths (length old.marks) (root_of slot.roots Edges)
      (h.forest.pages Edges) (h.entries Edges) (reads old) tree.map

  known : (i p : ℕ) → table.has_edge i p ≡ true → (i < 2 ^ 32) × (p < 2 ^ 32) × (p < slot.sizes.counts.known)
  known i p has = let (low, less) = h.spelled.edges.between i p has in (omega (arith, low, few), omega (arith, less, few), less)

  -- the key that is asked for, and that of an edge to j from p
  asked : (o : Option ℕ) → IfSome o (λ n. n < 2 ^ 32) → (j p : ℕ) → j < 2 ^ 32 → p < 2 ^ 32 → (rest : Ordering)
      × (key_cmp (key_behind s o) (edge_key j p) ≡ ordering_then (nat_cmp s j) rest)
      × (IsAfter o p → rest ≡ Less) × (rest ≡ Less → IsAfter o p)
  asked None tiny j p a b =
      (Less, ap (λ (k : List ℕ). key_cmp k (edge_key j p)) (sym (append-nil (number_key s))) ∙ keys_cmp s j [] (number_key p) small a, λ later. refl, λ is. tt)
  asked (Some a) tiny j p b c = (
    nat_cmp a p,
    keys_cmp s j (number_key a) (number_key p) small b ∙ ap (ordering_then (nat_cmp s j)) (number_cmp a p tiny c),
    λ later. less a p later,
    λ is. after_then a p is,
  )

  -- an edge that comes later has a greater key
  past : (q : ℕ) → table.has_edge s q ≡ true → IsAfter after q → key_cmp (key_behind s after) (edge_key s q) ≡ Less
  past q has later =
      let (a, b, c) = known s q has in
      let (rest, is, there, back) = asked after short s q a b in
      is ∙ (λ i. ordering_then (equal s s refl i) (there later i))

  there : (q : ℕ) → table.has_edge s q ≡ true → (e : Item) × Contains (h.entries Edges) e × (e.0 ≡ edge_key s q)
  there q has =
      let (v, found) = some_value (find_entry (h.entries Edges) (edge_key s q)) (h.spelled.edges.each s q has) in
      ((edge_key s q, v), is_there (h.entries Edges) (edge_key s q) v found, refl)

  pub no_more : None ≡ next_after (h.entries Edges) (key_behind s after) → HasNoMoreEdges table s after
  no_more none q has later =
      let (e, at, is) = there q has in
      no_next_is_greater (h.entries Edges) (key_behind s after) (sym none) e at (ap (key_cmp (key_behind s after)) is ∙ past q has later)

  module _ (e : Item) (next : Some e ≡ next_after (h.entries Edges) (key_behind s after)) where
    least : IsNextEntry (h.entries Edges) (key_behind s after) e
    least = the_next_is_the_least (h.entries Edges) (key_behind s after) e ascending (sym next)

    -- the next key is that of an edge
    edge : (j p : ℕ) × (e.0 ≡ edge_key j p) × (table.has_edge j p ≡ true)
    edge =
        let (v, found) = some_value (find_entry (h.entries Edges) e.0) (is_found (h.entries Edges) e least.there) in
        h.spelled.edges.only e.0 v found

    pub is_edge : length e.0 ≡ 8
    is_edge = let (j, p, is, has) = edge in ap length is ∙ edge_long j p

    module _ (front back : List ℕ) (m n : ℕ) (parts : e.0 ≡ front ++ back) (one : IsNumber front m) (two : IsNumber back n) where
      -- as it is read
      pub read : (table.has_edge m n ≡ true) × (e.0 ≡ edge_key m n)
      read =
          let (j, p, is, has) = edge in
          let (a, b, c) = known j p has in
          let both : front ++ back ≡ number_key j ++ number_key p = sym parts ∙ is in
          let fronts : front ≡ number_key j = sym (take_at front back 4 one.long) ∙ ap (take 4) both ∙ take_at (number_key j) (number_key p) 4 (key_long j) in
          let backs : back ≡ number_key p = sym (drop_at front back 4 one.long) ∙ ap (drop 4) both ∙ drop_at (number_key j) (number_key p) 4 (key_long j) in
          let first : j ≡ m = sym (key_back j a) ∙ ap (big_number 4) (sym fronts) ∙ one.is in
          let second : p ≡ n = sym (key_back p b) ∙ ap (big_number 4) (sym backs) ∙ two.is in
          (sym (λ i. table.has_edge (first i) (second i)) ∙ has, is ∙ (λ i. edge_key (first i) (second i)))

      pub within : n < slot.sizes.counts.known
      within = (known m n read.0).2

      -- no key of s is left
      pub of_another : m ≢ s → HasNoMoreEdges table s after
      of_another other q has later =
          let (a, b, c) = known m n read.0 in
          let (aq, bq, cq) = known s q has in
          let (rest, is, onward, back) = asked after short m n a b in
          let upto : s ≤ m = first_upto s m rest (sym is ∙ ap (key_cmp (key_behind s after)) (sym read.1) ∙ least.greater) in
          let (f, at, key) = there q has in
          let bound : is_gt (key_cmp e.0 f.0) ≡ false = least.least f at (ap (key_cmp (key_behind s after)) key ∙ past q has later) in
          let order : key_cmp e.0 f.0 ≡ ordering_then (nat_cmp m s) (key_cmp (number_key n) (number_key q)) =
          (λ i. key_cmp (read.1 i) (key i)) ∙ keys_cmp m s (number_key n) (number_key q) a aq in
          let greater : key_cmp e.0 f.0 ≡ Greater =
          order ∙ ap (λ (o : Ordering). ordering_then o (key_cmp (number_key n) (number_key q))) (more m s (below s m upto (λ same. other (sym same)))) in
          let never : true ≡ false = sym (ap is_gt greater) ∙ bound in
          absurd (cc)
        where
          below : (x y : ℕ) → x ≤ y → x ≢ y → x < y
          below x y le differ = omega (arith, le, differ)

      -- or it is the next edge
      pub later : m ≡ s → IsAfter after n
      later same =
          let (a, b, c) = known m n read.0 in
          let (rest, is, onward, back) = asked after short m n a b in
          back (sym (ap (λ (o : Ordering). ordering_then o rest) (equal s m (sym same))) ∙ sym is
          ∙ ap (key_cmp (key_behind s after)) (sym read.1) ∙ least.greater)

      pub next_edge : m ≡ s → IsNextEdge table s after n
      next_edge same = record {
        edge = ap (λ (i : ℕ). table.has_edge i n) (sym same) ∙ read.0;
        later = later same;
        least = λ q has further.
            let (a, b, c) = known m n read.0 in
            let (aq, bq, cq) = known s q has in
            let (f, at, key) = there q has in
            let bound : is_gt (key_cmp e.0 f.0) ≡ false = least.least f at (ap (key_cmp (key_behind s after)) key ∙ past q has further) in
            let order : key_cmp e.0 f.0 ≡ nat_cmp n q =
            (λ i. key_cmp (read.1 i) (key i)) ∙ keys_cmp m s (number_key n) (number_key q) a aq
            ∙ ap (λ (o : Ordering). ordering_then o (key_cmp (number_key n) (number_key q))) (equal m s same)
            ∙ number_cmp n q b bq in
            upto_then n q (sym (ap is_gt order) ∙ bound);
      }
