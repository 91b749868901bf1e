-- What is read of pages that hold a table.
use Rattle.std.proofs.Common.{◌≡◌, ℕ, ◌<◌, List, [], IsTrue, length, get_or, Some, None, sym, ◌∙◌, ap, subst, arith}
use Rattle.std.specs.Prelude.{slice_get}
use Rattle.std.proofs.lemmas.Option.{slice_get_within, slice_get-get_or, same_Some}
use Rattle.page_store.specs.Store.{Store}
use Rattle.retrograde.specs.declared.records.Record.{Record}
use Rattle.retrograde.specs.Stored.{Stored, HasRecord}
use Rattle.retrograde.specs.Changes.{fresh_record}
use Rattle.game_file.specs.Bytes.{IsCell, IsNumber}
use Rattle.game_file.specs.lemmas.Records.{one_cell}
use Rattle.btree.specs.Page.{Item}
use Rattle.btree.specs.Entries.{find_entry}
use Rattle.tree_table.specs.declared.slot.TreeSlot.{TreeSlot}
use Rattle.tree_table.specs.declared.tree.Tree.TheVariants.{Positions, Records, Order}
use Rattle.tree_table.specs.declared.bytes.Cell.{Cell}
use Rattle.tree_table.specs.Frames.{IsCellRead}
use Rattle.tree_table.specs.Entries.{number_key, AreByNumber}
use Rattle.tree_table.specs.WorkTable.{HasTable}
use Rattle.tree_table.specs.lemmas.Lists.{zip_got}

-- numbers that four bytes are
one_number : (v : List ℕ) (m n : ℕ) → IsNumber v m → IsNumber v n → m ≡ n
one_number v m n a b = sym a.is ∙ b.is

number_as : (v w : List ℕ) (n : ℕ) → v ≡ w → IsNumber v n → IsNumber w n
number_as v w n same is = subst (λ (b : List ℕ). IsNumber b n) same is

-- something is at the key of each number
there : {A : Type 0} (IsOf : List ℕ → A → Type 0) (es : List Item) (xs : List A) (d : A) (i : ℕ) → i < length xs → AreByNumber IsOf es xs
    → (v : List ℕ) × (x : A) × (find_entry es (number_key i) ≡ Some v) × IsOf v x × (slice_get xs i ≡ Some x)
there IsOf es xs d i low are =
    let at : slice_get xs i ≡ Some (get_or xs i d) = slice_get-get_or xs i d low in
    let (v, found, of) = are.each i (get_or xs i d) at in
    (v, get_or xs i d, found, of, at)

module _ (slot : TreeSlot) (text : List ℕ) (table : Stored (List ℕ)) (old : Store) (h : HasTable slot text table old) where
  -- the cell of a number
  pub cell_there : (i : ℕ) → i < slot.sizes.counts.known → (v x : List ℕ) × (r : Record)
      × (find_entry (h.entries Records) (number_key i) ≡ Some v) × IsCell slot.sizes.packed v (x, r)
      × (slice_get table.positions i ≡ Some x) × HasRecord table i r
  cell_there i low =
      let one : slice_get table.positions i ≡ Some (get_or table.positions i []) = slice_get-get_or table.positions i []
      (omega (arith, low, h.spelled.known)) in
      let two : slice_get table.records i ≡ Some (get_or table.records i fresh_record) = slice_get-get_or table.records i fresh_record
      (omega (arith, low, h.spelled.recorded)) in
      let (v, found, of) = h.spelled.records.each i (get_or table.positions i [], get_or table.records i fresh_record)
      (zip_got table.positions table.records i _ _ one two) in
      (v, get_or table.positions i [], get_or table.records i fresh_record, found, of, one, two)

  -- a value that is read as a cell is that of the number
  pub cell_read : (i : ℕ) (v x : List ℕ) (r : Record) → i < slot.sizes.counts.known → Some v ≡ find_entry (h.entries Records) (number_key i)
      → IsCell slot.sizes.packed v (x, r)
      → (slice_get table.positions i ≡ Some x) × HasRecord table i r
  cell_read i v x r low found is =
      let (w, y, s, at, of, one, two) = cell_there i low in
      let same : v ≡ w = same_Some v w (found ∙ at) in
      let cells : ◌≡◌ {A = List ℕ × Record} (y, s) (x, r) = one_cell slot.sizes.packed w (y, s) (x, r) of
      (subst (λ (b : List ℕ). IsCell slot.sizes.packed b (x, r)) same is) in
      (one ∙ ap (λ (c : List ℕ × Record). Some c.0) cells, two ∙ ap (λ (c : List ℕ × Record). Some c.1) cells)

  pub cell_absent : (i : ℕ) → i < slot.sizes.counts.known → None ≡ find_entry (h.entries Records) (number_key i) → ⊥
  cell_absent i low none = let (v, x, r, at, of, one, two) = cell_there i low in let e : None ≡ Some v = none ∙ at in cc

  pub cell_broken : (i : ℕ) (v : List ℕ) → i < slot.sizes.counts.known → Some v ≡ find_entry (h.entries Records) (number_key i)
      → ((cell : List ℕ × Record) → IsCell slot.sizes.packed v cell → ⊥) → ⊥
  cell_broken i v low found none =
      let (w, x, r, at, of, one, two) = cell_there i low in
      none (x, r) (subst (λ (b : List ℕ). IsCell slot.sizes.packed b (x, r)) (sym (same_Some v w (found ∙ at))) of)

  -- the number at a place
  pub settled_there : (k : ℕ) → k < slot.sizes.counts.settled → (v : List ℕ) × (n : ℕ)
      × (find_entry (h.entries Order) (number_key k) ≡ Some v) × IsNumber v n × (slice_get table.order k ≡ Some n)
  settled_there k low = there IsNumber (h.entries Order) table.order 0 k (omega (arith, low, h.spelled.settled)) h.spelled.order

  pub settled_read : (k : ℕ) (v : List ℕ) (n : ℕ) → k < slot.sizes.counts.settled → Some v ≡ find_entry (h.entries Order) (number_key k)
      → IsNumber v n → slice_get table.order k ≡ Some n
  settled_read k v n low found is =
      let (w, m, at, of, got) = settled_there k low in
      let same : v ≡ w = same_Some v w (found ∙ at) in
      got ∙ ap Some (one_number w m n of (number_as v w n same is))

  pub settled_absent : (k : ℕ) → k < slot.sizes.counts.settled → None ≡ find_entry (h.entries Order) (number_key k) → ⊥
  settled_absent k low none = let (v, n, at, of, got) = settled_there k low in let e : None ≡ Some v = none ∙ at in cc

  pub settled_broken : (k : ℕ) (v : List ℕ) → k < slot.sizes.counts.settled → Some v ≡ find_entry (h.entries Order) (number_key k)
      → ((n : ℕ) → IsNumber v n → ⊥) → ⊥
  settled_broken k v low found none =
      let (w, n, at, of, got) = settled_there k low in
      none n (number_as w v n (sym (same_Some v w (found ∙ at))) of)

  -- the number of a position
  pub position_there : (x v : List ℕ) → Some v ≡ find_entry (h.entries Positions) x → (i : ℕ) × IsNumber v i
      × (slice_get table.positions i ≡ Some x) × (i < slot.sizes.counts.known)
  position_there x v found =
      let (i, got) = h.spelled.positions.only x v (sym found) in
      let (w, at, of) = h.spelled.positions.each i x got in
      (i, number_as w v i (sym (same_Some v w (found ∙ at))) of, got, omega (arith, slice_get_within table.positions i x got, h.spelled.known))

  pub position_read : (x v : List ℕ) (n : ℕ) → Some v ≡ find_entry (h.entries Positions) x → IsNumber v n
      → (slice_get table.positions n ≡ Some x) × (n < slot.sizes.counts.known)
  position_read x v n found is =
      let (i, of, got, low) = position_there x v found in
      let same : i ≡ n = one_number v i n of is in
      (subst (λ (m : ℕ). slice_get table.positions m ≡ Some x) same got, omega (arith, low, same))

  pub position_absent : (x : List ℕ) → None ≡ find_entry (h.entries Positions) x → (i : ℕ) → slice_get table.positions i ≡ Some x → ⊥
  position_absent x none i got = let (w, at, of) = h.spelled.positions.each i x got in let e : None ≡ Some w = none ∙ at in cc

-- a cell that stands at its number's key
pub cell_is : (slot : TreeSlot) (store : Store) (number : ℕ) (bytes : List ℕ) (cell : Cell) → number < slot.sizes.counts.known
    → (IsTrue store.disk.honest → (text : List ℕ) (table : Stored (List ℕ)) (h : HasTable slot text table store)
    → Some bytes ≡ find_entry (h.entries Records) (number_key number)) → IsCell slot.sizes.packed bytes (cell.position.items, cell.kept)
    → IsCellRead slot store number cell
cell_is slot store number bytes cell known found is = record {
  position = λ honest text table h. (cell_read slot text table store h number bytes cell.position.items cell.kept known (found honest text table h) is).0;
  kept = λ honest text table h. (cell_read slot text table store h number bytes cell.position.items cell.kept known (found honest text table h) is).1;
  long = is.long;
}
