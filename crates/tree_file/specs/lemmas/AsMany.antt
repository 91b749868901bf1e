-- The entries of a table are as many as its slot tells.
use Rattle.std.proofs.Common.{◌≡◌, inl, inr, ℕ, ◌<◌, ◌≤◌, ◌^◌, ◌||◌, Bool, true, false, cond}
use Rattle.std.proofs.Common.{List, [], ◌∷◌, length, Some, refl, sym, ◌∙◌, ap, subst, arith}
use Rattle.std.proofs.Common.{Contains, get_or}
use Rattle.std.specs.Prelude.{slice_get, zip, IsSome, All}
use Rattle.std.specs.Option.{is_some}
use Rattle.std.specs.declared.cmp.Ordering.TheVariants.{Less}
use Rattle.std.specs.List.{AllByRecursion, IsDistinct, list_any}
use Rattle.std.specs.List.Sorted.{IsStrictlySortedBy}
use Rattle.std.specs.Map.{keys_of}
use Rattle.std.specs.Ordering.{eq_by_cmp, is_eq}
use Rattle.std.proofs.lemmas.Cmp.{nat_list_cmp_total, eq_by_cmp_equiv}
use Rattle.std.proofs.lemmas.List.Elements.{All-contains_itself, All-weaker}
use Rattle.std.proofs.lemmas.Map.Made.{length-le_from_is_member}
use Rattle.std.proofs.lemmas.Map.Steps.{length-le_from_keys}
use Rattle.std.proofs.lemmas.Map.Views.{lookup-from_Contains}
use Rattle.std.proofs.lemmas.Option.{same_Some, slice_get_within, slice_get-get_or}
use Rattle.retrograde.specs.Changes.{fresh_record}
use Rattle.retrograde.specs.Stored.{Stored, IsTable}
use Rattle.game_file.specs.declared.sizes.Sizes.{Sizes}
use Rattle.game_file.specs.Bytes.{IsCell, IsNumber}
use Rattle.btree.specs.Page.{Item, key_cmp}
use Rattle.btree.specs.Entries.{Ascend, find_entry}
use Rattle.tree_table.specs.declared.tree.Tree.{Tree}
use Rattle.tree_table.specs.declared.tree.Tree.TheVariants.{Positions, Records, Edges, Order}
use Rattle.tree_table.specs.Entries.{number_key, AreByNumber, AreEntriesOf}
use Rattle.tree_table.specs.lemmas.Lists.{zip_long}
use Rattle.tree_table.specs.lemmas.Numbers.{same_number}
use Rattle.tree_file.specs.Counted.{IsEdgeBelow, AreAsMany}
use Rattle.tree_file.specs.lemmas.Counts.{listed, distinct, among, there, keys_tell, same_key, length-listed}

abbrev eq : List ℕ → List ℕ → Bool
eq = eq_by_cmp key_cmp

apart_after : (k : List ℕ) (ks : List (List ℕ)) → AllByRecursion (λ y. key_cmp k y ≡ Less) ks → AllByRecursion (λ y. eq k y ≡ false) ks
apart_after k [] less = tt
apart_after k (y ∷ ys) less = (ap is_eq less.0, apart_after k ys less.1)

-- keys that ascend differ
keys_differ : (es : List Item) → Ascend es → IsDistinct eq (keys_of es)
unfolding IsStrictlySortedBy IsDistinct
keys_differ [] ascend = tt
keys_differ (e ∷ es) ascend = (apart_after e.0 (keys_of es) ascend.0, keys_differ es ascend.1)

-- a key of an entry is found
key_found : (q : List ℕ) (es : List Item) → list_any (eq q) (keys_of es) ≡ true → (value : List ℕ) × (find_entry es q ≡ Some value)
key_found q [] is = absurd (cc)
key_found q (e ∷ es) is = by_test (eq q e.0) refl (λ any. key_found q es any)
  where
    by_test : (b : Bool) → eq q e.0 ≡ b → (list_any (eq q) (keys_of es) ≡ true → (value : List ℕ) × (find_entry es q ≡ Some value))
        → (value : List ℕ) × (find_entry (e ∷ es) q ≡ Some value)
    by_test true here later = (e.1, ap (λ (b : Bool). cond b (Some e.1) (find_entry es q)) here)
    by_test false other later =
        let rest : list_any (eq q) (keys_of es) ≡ true = sym (ap (λ (b : Bool). b || list_any (eq q) (keys_of es)) other) ∙ is in
        let (value, found) = later rest in
        (value, ap (λ (b : Bool). cond b (Some e.1) (find_entry es q)) other ∙ found)

-- ascending entries whose keys are exactly this many different ones are as many
as_many : (es : List Item) (n : ℕ) (at : ℕ → List ℕ) → Ascend es → ((i j : ℕ) → i < n → j < n → at i ≡ at j → i ≡ j)
    → ((i : ℕ) → i < n → IsSome (find_entry es (at i)))
    → ((key value : List ℕ) → find_entry es key ≡ Some value → (i : ℕ) × (key ≡ at i) × (i < n)) → length es ≡ n
as_many es n at ascend apart each only =
    let differs : (i j : ℕ) → i < n → j < i → eq (at i) (at j) ≡ false = (λ i j low less.
    elim (keys_tell (at i) (at j)) [
      | inl same ↦ let e : i ≡ j = apart i j low (omega (arith, low, less)) same in absurd (omega (arith, e, less))
      | inr other ↦ other
    ]) in
    let least : length (listed at n) ≤ length es =
    length-le_from_keys (eq_by_cmp_equiv nat_list_cmp_total) (listed at n) es (distinct eq at n differs)
    (λ q any. let (i, low, same) = among eq at q n any in
    subst (λ (k : List ℕ). IsSome (find_entry es k)) (sym (same_key q (at i) same)) (each i low)) in
    let most : length (keys_of es) ≤ length (listed at n) =
    length-le_from_is_member (eq_by_cmp_equiv nat_list_cmp_total) (keys_of es) (listed at n)
    (keys_differ es ascend)
    (λ q any. let (value, found) = key_found q es any in
    let (i, is, low) = only q value found in
    there eq at q n i low (ap (eq q) (sym is) ∙ (eq_by_cmp_equiv nat_list_cmp_total).refl q)) in
    omega (arith, least, most, length-listed at n, keys_long es)
  where
    keys_long : (es : List Item) → length (keys_of es) ≡ length es
    keys_long [] = refl
    keys_long (e ∷ es) = let rest : length (keys_of es) ≡ length es = keys_long es in omega (arith, rest)

-- what is so of each entry that is found is so of all
all_found : (P : Item → Type 0) (es : List Item) → Ascend es
    → ((key value : List ℕ) → find_entry es key ≡ Some value → P (key, value)) → All P es
all_found P es ascend each =
    All-weaker (Contains es) P
    (λ e here. each e.0 e.1 (lookup-from_Contains (eq_by_cmp_equiv nat_list_cmp_total) e.0 e.1 es (keys_differ es ascend) here))
    es (All-contains_itself es)

-- the entries of a table whose parts fit together are as many as its slot tells, and each edge is between known numbers
module _ (sizes : Sizes) (entries : Tree → List Item) (table : Stored (List ℕ)) (ascend : (t : Tree)
    → Ascend (entries t)) (known : sizes.counts.known ≤ 2 ^ 24)
    (settled : sizes.counts.settled ≤ sizes.counts.known) (spelled : AreEntriesOf sizes entries table) (fits : IsTable table) where
  by_number : {A : Type 0} (tree : Tree) (IsOf : List ℕ → A → Type 0) (xs : List A) (n : ℕ) → n ≤ 2 ^ 24 → length xs ≡ n
      → ((i : ℕ) → i < length xs → (x : A) × (slice_get xs i ≡ Some x)) → AreByNumber IsOf (entries tree) xs → length (entries tree) ≡ n
  by_number tree IsOf xs n few long there_is it =
      as_many (entries tree) n number_key (ascend tree)
      (λ i j low less same. same_number i j (omega (arith, low, few)) (omega (arith, less, few)) same)
      (λ i low. let (x, got) = there_is i (omega (arith, low, long)) in let (value, found, is) = it.each i x got in ap is_some found)
      (λ key value found. let (i, is, low) = it.only key value found in (i, is, omega (arith, low, long)))

  positions_many : length (entries Positions) ≡ sizes.counts.known
  positions_many =
      as_many (entries Positions) sizes.counts.known (λ i. get_or table.positions i []) (ascend Positions)
      (λ i j low less same. fits.distinct i j (get_or table.positions j []) (at i low ∙ ap Some same) (at j less))
      (λ i low. let (value, found, is) = spelled.positions.each i (get_or table.positions i []) (at i low) in ap is_some found)
      (λ key value found. let (i, got) = spelled.positions.only key value found in
      (i, sym (same_Some (get_or table.positions i []) key (sym (at i (within i key got)) ∙ got)), within i key got))
    where
      within : (i : ℕ) (x : List ℕ) → slice_get table.positions i ≡ Some x → i < sizes.counts.known
      within i x got = omega (arith, slice_get_within table.positions i x got, spelled.known)

      at : (i : ℕ) → i < sizes.counts.known → slice_get table.positions i ≡ Some (get_or table.positions i [])
      at i low = slice_get-get_or table.positions i [] (omega (arith, low, spelled.known))

  pub spelled_as_many : AreAsMany sizes entries
  spelled_as_many = record {
    positions = positions_many;
    records =
        by_number Records (IsCell sizes.packed) (zip table.positions table.records) sizes.counts.known known
        (zip_long table.positions table.records (spelled.recorded ∙ sym spelled.known) ∙ spelled.known)
        (λ i low. (
          get_or (zip table.positions table.records) i ([], fresh_record),
          slice_get-get_or (zip table.positions table.records) i
              ([], fresh_record) low,
        ))
        spelled.records;
    edges = spelled.edge_count;
    order =
        by_number Order IsNumber table.order sizes.counts.settled (omega (arith, settled, known)) spelled.settled
        (λ i low. (get_or table.order i 0, slice_get-get_or table.order i 0 low))
        spelled.order;
    between = all_found (IsEdgeBelow sizes.counts.known) (entries Edges) (ascend Edges) (λ key value found.
        let (i, p, is, has) = spelled.edges.only key value found in
        let both = spelled.edges.between i p has in
        record { to = i; from = p; is = is; to_known = both.0; from_known = both.1 });
  }
