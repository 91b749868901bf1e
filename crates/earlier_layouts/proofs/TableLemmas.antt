-- The parts of the bytes of a table.
use Rattle.std.proofs.Common.{◌≡◌, ◌∙◌, sym, ap, subst, ℕ, ◌+◌, ◌*◌, ◌≤◌, ◌<◌, List, [], ◌∷◌, ◌++◌, length, take, drop, zip, Contains, arith, append_assoc, length-append}
use Rattle.retrograde.specs.declared.records.Record.{Record}
use Rattle.retrograde.specs.Stored.{Stored, IsTable}
use Rattle.game_file.specs.Bytes.{IsCell, IsEdge}
use Rattle.earlier_layouts.specs.Spelled.{AreSpelled, SpellsTable}
use Rattle.game_file.specs.lemmas.Records.{same_fronts}
use Rattle.earlier_layouts.specs.lemmas.Laws.{PartLengths, part_lengths, long_pairs}
use Rattle.earlier_layouts.specs.lemmas.ImageParts.{fixed_cells}
use Rattle.earlier_layouts.specs.lemmas.ImageReads.{AreCells, AreEdges, ChangesEdges, AddsOrder}
use Rattle.game_file.specs.declared.sizes.Sizes.{Sizes}
use Rattle.earlier_layouts.proofs.Splits.{both_parts}

-- these are the parts of the bytes
pub record IsSplit (sizes : Sizes) (bytes front cells edges order : List ℕ) : Type 0 where
  pub is : bytes ≡ front ++ cells ++ edges ++ order
  pub front_long : length front ≡ sizes.text
  pub cells_long : length cells ≡ sizes.counts.known * (sizes.packed + 16)
  pub edges_long : length edges ≡ 8 * sizes.edges

pub split_table : (sizes : Sizes) (bytes front rest cells other edges order : List ℕ) (k : ℕ) → k ≡ sizes.counts.known * (sizes.packed + 16)
    → front ≡ take sizes.text bytes → rest ≡ drop sizes.text bytes → cells ≡ take k rest → other ≡ drop k rest
    → edges ≡ take (8 * sizes.edges) other → order ≡ drop (8 * sizes.edges) other
    → length front ≡ sizes.text → length cells ≡ k → length edges ≡ 8 * sizes.edges → IsSplit sizes bytes front cells edges order
split_table sizes bytes front rest cells other edges order k k_is front_is rest_is cells_is other_is edges_is order_is front_long cells_long edges_long =
    let one : bytes ≡ front ++ rest = both_parts bytes front rest sizes.text front_is rest_is in
    let two : rest ≡ cells ++ other = both_parts rest cells other k cells_is other_is in
    let three : other ≡ edges ++ order = both_parts other edges order (8 * sizes.edges) edges_is order_is in
    record {
      is =
          one ∙ ap (λ (b : List ℕ). front ++ b) two ∙ sym (append_assoc front cells other)
          ∙ ap (λ (b : List ℕ). (front ++ cells) ++ b) three ∙ sym (append_assoc (front ++ cells) edges order);
      front_long = front_long;
      cells_long = cells_long ∙ k_is;
      edges_long = edges_long;
    }

-- they are those that a table spells
module _ (sizes : Sizes) (bytes front cells edges order text : List ℕ) (stored : Stored (List ℕ))
    (split : IsSplit sizes bytes front cells edges order) (s : SpellsTable sizes bytes text stored) where
  long : PartLengths sizes s.cells s.edge_bytes s.order
  long = part_lengths sizes bytes text stored s

  two_long : length (front ++ cells) ≡ length (text ++ s.cells)
  two_long = omega (arith, length-append front cells, length-append text s.cells, split.front_long, split.cells_long, s.text_long, long.for_cells)

  three_long : length (front ++ cells ++ edges) ≡ length (text ++ s.cells ++ s.edge_bytes)
  three_long = omega (arith, length-append (front ++ cells) edges, length-append (text ++ s.cells) s.edge_bytes, two_long, split.edges_long, long.for_edges)

  same_three : (front ++ cells ++ edges ≡ text ++ s.cells ++ s.edge_bytes) × (order ≡ s.order)
  same_three = same_fronts (front ++ cells ++ edges) (text ++ s.cells ++ s.edge_bytes) order s.order three_long (sym split.is ∙ s.is)

  same_two : (front ++ cells ≡ text ++ s.cells) × (edges ≡ s.edge_bytes)
  same_two = same_fronts (front ++ cells) (text ++ s.cells) edges s.edge_bytes two_long same_three.0

  same_cells : cells ≡ s.cells
  same_cells = (same_fronts front text cells s.cells (split.front_long ∙ sym s.text_long) same_two.0).1

  pub whole_cells : AreCells sizes.packed cells stored
  whole_cells = record {
    paired = s.recorded ∙ sym s.known;
    spelled = subst (λ (b : List ℕ). AreSpelled (IsCell sizes.packed) b (zip stored.positions stored.records)) (sym same_cells) s.cells_are;
  }

  pub whole_edges : AreSpelled IsEdge edges s.edges
  whole_edges = subst (λ (b : List ℕ). AreSpelled IsEdge b s.edges) (sym same_two.1) s.edges_are

  pub edges_within : (known : ℕ) → known ≡ sizes.counts.known → IsTable stored → (i p : ℕ) → Contains s.edges (i, p) → (i < known) × (p < known)
  edges_within known known_is table i p there =
      let (first, second) = table.edges i p ((s.exactly i p).0 there) in
      (omega (arith, first, s.known, known_is), omega (arith, second, s.known, known_is))

-- what was read is spelled
pub spells : (sizes : Sizes) (bytes front cells edges order : List ℕ) (celled edged new : Stored (List ℕ)) → IsSplit sizes bytes front cells edges order
    → AreCells sizes.packed cells celled → length celled.positions ≡ sizes.counts.known → ChangesEdges celled edged → AreEdges edges sizes.edges edged
    → AddsOrder order sizes.counts.settled edged new → SpellsTable sizes bytes front new
spells sizes bytes front cells edges order celled edged new split are_cells known kept are_edges last =
    let positions : celled.positions ≡ new.positions = sym (last.others.positions ∙ kept.positions) in
    let records : celled.records ≡ new.records = sym (last.others.records ∙ kept.records) in
    let pairs : zip celled.positions celled.records ≡ zip new.positions new.records =
    ap (λ (ps : List (List ℕ)). zip ps celled.records) positions ∙ ap (λ (rs : List Record). zip new.positions rs) records in
    record {
      cells = cells;
      edges = are_edges.edges;
      edge_bytes = edges;
      order = order;
      is = split.is;
      text_long = split.front_long;
      known = ap length (sym positions) ∙ known;
      recorded = ap length (sym records) ∙ are_cells.paired ∙ known;
      cells_are = subst (λ (ps : List (List ℕ × Record)). AreSpelled (IsCell sizes.packed) cells ps) pairs are_cells.spelled;
      edge_count = are_edges.counted;
      ascending = are_edges.ascending;
      exactly = λ i p. (
        λ there. ap (λ (e : ℕ → ℕ → _). e i p) last.others.edges ∙ (are_edges.exactly i p).0 there,
        λ there. (are_edges.exactly i p).1 (ap (λ (e : ℕ → ℕ → _). e i p) (sym last.others.edges) ∙ there),
      );
      edges_are = are_edges.spelled;
      settled = last.counted;
      order_is = last.spelled;
    }

-- the first item of some
first_spelled : {A : Type 0} (IsOf : List ℕ → A → Type 0) (bytes : List ℕ) (xs : List A) → AreSpelled IsOf bytes xs → 1 ≤ length xs
    → (x : A) × (one rest : List ℕ) × (bytes ≡ one ++ rest) × IsOf one x
first_spelled IsOf bytes [] is some = absurd (omega arith)
first_spelled IsOf bytes (x ∷ xs) (one, rest, is, of, more) some = (x, one, rest, is, of)

-- the first cell of a table
pub first_of : (sizes : Sizes) (bytes front rest cell back text : List ℕ) (stored : Stored (List ℕ)) → SpellsTable sizes bytes text stored
    → 1 ≤ sizes.counts.known
    → front ≡ take sizes.text bytes → rest ≡ drop sizes.text bytes → cell ≡ take (sizes.packed + 16) rest → back ≡ drop (sizes.packed + 16) rest
    → length front ≡ sizes.text → length cell ≡ sizes.packed + 16 → (x : List ℕ × Record) × IsCell sizes.packed cell x
first_of sizes bytes front rest cell back text stored s started front_is rest_is cell_is back_is front_long cell_long =
    go (first_spelled (IsCell sizes.packed) s.cells (zip stored.positions stored.records) s.cells_are some)
  where
    some : 1 ≤ length (zip stored.positions stored.records)
    some = omega (arith, long_pairs stored.positions stored.records (s.recorded ∙ sym s.known), s.known, started)

    go : ((x : List ℕ × Record) × (one more : List ℕ) × (s.cells ≡ one ++ more) × IsCell sizes.packed one x) → (x : List ℕ × Record)
        × IsCell sizes.packed cell x
    go (x, one, more, is, of) =
        let split : bytes ≡ front ++ rest = both_parts bytes front rest sizes.text front_is rest_is in
        let cells : rest ≡ cell ++ back = both_parts rest cell back (sizes.packed + 16) cell_is back_is in
        let theirs : bytes ≡ text ++ (s.cells ++ (s.edge_bytes ++ s.order)) =
        s.is ∙ append_assoc (text ++ s.cells) s.edge_bytes s.order ∙ append_assoc text s.cells (s.edge_bytes ++ s.order) in
        let (texts, behind) = same_fronts front text rest (s.cells ++ (s.edge_bytes ++ s.order)) (front_long ∙ sym s.text_long) (sym split ∙ theirs) in
        let both : cell ++ back ≡ one ++ (more ++ (s.edge_bytes ++ s.order)) =
        sym cells ∙ behind ∙ ap (λ (b : List ℕ). b ++ (s.edge_bytes ++ s.order)) is ∙ append_assoc one more (s.edge_bytes ++ s.order) in
        let long : length cell ≡ length one = cell_long ∙ sym ((fixed_cells sizes.packed).long one x of) in
        let (same, after) = same_fronts cell one back (more ++ (s.edge_bytes ++ s.order)) long both in
        (x, subst (λ (b : List ℕ). IsCell sizes.packed b x) (sym same) of)
