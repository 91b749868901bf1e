-- What holds of the bytes of tables, for readers in src/laws.rt and for proofs here.
use Rattle.std.specs.Prelude.{◌≡◌, ℕ, ◌+◌, ◌*◌, Bool, true, false, List, [], ◌∷◌, ◌++◌, length, zip, Contains}
use Rattle.std.proofs.Common.{refl, sym, ap, subst, ◌∙◌, length-append, arith}
use Rattle.retrograde.specs.Stored.{Stored}
use Rattle.game_file.specs.Bytes.{IsCell, IsEdge, IsNumber}
use Rattle.earlier_layouts.specs.Spelled.{AreSpelled, SpellsTable}
use Rattle.earlier_layouts.specs.Length.{bytes_in}
use Rattle.game_file.specs.declared.sizes.Sizes.{Sizes}
use Rattle.game_file.specs.lemmas.Records.{same_fronts}
use Rattle.earlier_layouts.specs.lemmas.Items.{spelled_long, spelled_same}
use Rattle.earlier_layouts.specs.lemmas.ImageParts.{fixed_cells, fixed_edges, fixed_numbers}

-- how many pairs
pub long_pairs : {A B : Type 0} (xs : List A) (ys : List B) → length ys ≡ length xs → length (zip xs ys) ≡ length xs
long_pairs [] [] same = refl
long_pairs [] (y ∷ ys) same = absurd (cc)
long_pairs (x ∷ xs) [] same = absurd (cc)
long_pairs (x ∷ xs) (y ∷ ys) same = let rest : length (zip xs ys) ≡ length xs = long_pairs xs ys (omega (arith, same)) in omega
    (arith, rest)

-- pairs have their parts
same_pairs : {A B : Type 0} (xs zs : List A) (ys ws : List B) → length ys ≡ length xs → length ws ≡ length zs → zip xs ys ≡ zip zs ws
    → (xs ≡ zs) × (ys ≡ ws)
same_pairs [] [] [] [] a b e = (refl, refl)
same_pairs [] zs (y ∷ ys) ws a b e = absurd (cc)
same_pairs (x ∷ xs) zs [] ws a b e = absurd (cc)
same_pairs xs [] ys (w ∷ ws) a b e = absurd (cc)
same_pairs xs (z ∷ zs) ys [] a b e = absurd (cc)
same_pairs [] (z ∷ zs) [] (w ∷ ws) a b e = absurd (cc)
same_pairs (x ∷ xs) [] (y ∷ ys) [] a b e = absurd (cc)
same_pairs {A} {B} (x ∷ xs) (z ∷ zs) (y ∷ ys) (w ∷ ws) a b e =
    let pair : ◌≡◌ {A = A × B} (x, y) (z, w) = cc in
    let rest : zip xs ys ≡ zip zs ws = cc in
    let (first, second) = same_pairs xs zs ys ws (omega (arith, a)) (omega (arith, b)) rest in
    let one : x ≡ z = ap (λ (p : A × B). p.0) pair in
    let two : y ≡ w = ap (λ (p : A × B). p.1) pair in
    (cc, cc)

-- truths that go with one another are the same
same_truths : (a b : Bool) → (a ≡ true → b ≡ true) → (b ≡ true → a ≡ true) → a ≡ b
same_truths true b there back = sym (there refl)
same_truths false true there back = back refl
same_truths false false there back = refl

-- a stored table is its parts
same_stored : (one two : Stored (List ℕ)) → one.positions ≡ two.positions → one.records ≡ two.records
    → ((i p : ℕ) → one.has_edge i p ≡ two.has_edge i p) → one.order ≡ two.order → one ≡ two
same_stored one two positions records edges order =
    λ k. record { positions = positions k; records = records k; has_edge = λ i p. edges i p k; order = order k }

-- how long each part of the bytes is
pub record PartLengths (sizes : Sizes) (cells edge_bytes order : List ℕ) : Type 0 where
  pub for_cells : length cells ≡ sizes.counts.known * (sizes.packed + 16)
  pub for_edges : length edge_bytes ≡ 8 * sizes.edges
  pub for_order : length order ≡ 4 * sizes.counts.settled

pub part_lengths : (sizes : Sizes) (bytes text : List ℕ) (stored : Stored (List ℕ)) (s : SpellsTable sizes bytes text stored)
    → PartLengths sizes s.cells s.edge_bytes s.order
part_lengths sizes bytes text stored s =
    let pairs : length (zip stored.positions stored.records) ≡ sizes.counts.known = long_pairs stored.positions stored.records (s.recorded
    ∙ sym s.known) ∙ s.known in
    let cells : length s.cells ≡ length (zip stored.positions stored.records) * (sizes.packed + 16) =
    spelled_long (IsCell sizes.packed) (sizes.packed + 16) (fixed_cells sizes.packed) s.cells
    (zip stored.positions stored.records) s.cells_are in
    let edges : length s.edge_bytes ≡ length s.edges * 8 = spelled_long IsEdge 8 fixed_edges s.edge_bytes s.edges s.edges_are in
    let order : length s.order ≡ length stored.order * 4 = spelled_long IsNumber 4 fixed_numbers s.order stored.order s.order_is in
    record {
      for_cells = cells ∙ ap (λ (n : ℕ). n * (sizes.packed + 16)) pairs;
      for_edges = omega (arith, edges, s.edge_count);
      for_order = omega (arith, order, s.settled);
    }

-- how many bytes a table takes
pub tables_have_their_length : (sizes : Sizes) (bytes text : List ℕ) (stored : Stored (List ℕ)) → SpellsTable sizes bytes text stored
    → length bytes ≡ bytes_in sizes
tables_have_their_length sizes bytes text stored s =
    let parts = part_lengths sizes bytes text stored s in
    let cells : length s.cells ≡ sizes.counts.known * (sizes.packed + 16) = parts.for_cells in
    let edges : length s.edge_bytes ≡ 8 * sizes.edges = parts.for_edges in
    let order : length s.order ≡ 4 * sizes.counts.settled = parts.for_order in
    omega (
      arith,
      ap length s.is,
      length-append text s.cells,
      length-append (text ++ s.cells) s.edge_bytes,
      length-append
          (text ++ s.cells ++ s.edge_bytes) s.order,
      s.text_long,
    )

-- bytes spell one table at most
pub bytes_spell_one_table : (sizes : Sizes) (bytes text other : List ℕ) (one two : Stored (List ℕ)) → SpellsTable sizes bytes text one
    → SpellsTable sizes bytes other two → (text ≡ other) × (one ≡ two)
bytes_spell_one_table sizes bytes text other one two s t =
    let a = part_lengths sizes bytes text one s in
    let b = part_lengths sizes bytes other two t in
    let texts_long : length text ≡ length other = s.text_long ∙ sym t.text_long in
    let cells_long : length s.cells ≡ length t.cells = a.for_cells ∙ sym b.for_cells in
    let edges_long : length s.edge_bytes ≡ length t.edge_bytes = a.for_edges ∙ sym b.for_edges in
    let two_long : length (text ++ s.cells) ≡ length (other ++ t.cells) = omega
    (arith, length-append text s.cells, length-append other t.cells) in
    let three_long : length (text ++ s.cells ++ s.edge_bytes) ≡ length (other ++ t.cells ++ t.edge_bytes) =
    omega (arith, length-append (text ++ s.cells) s.edge_bytes, length-append (other ++ t.cells) t.edge_bytes) in
    let (three, orders) = same_fronts (text ++ s.cells ++ s.edge_bytes) (other ++ t.cells ++ t.edge_bytes) s.order t.order three_long
    (sym s.is ∙ t.is) in
    let (two_first, edge_bytes) = same_fronts (text ++ s.cells) (other ++ t.cells) s.edge_bytes t.edge_bytes two_long three in
    let (texts, cells) = same_fronts text other s.cells t.cells texts_long two_first in
    let pairs : zip one.positions one.records ≡ zip two.positions two.records =
    spelled_same (IsCell sizes.packed) (sizes.packed + 16) (fixed_cells sizes.packed) t.cells (zip one.positions one.records)
    (zip two.positions two.records)
    (subst (λ (f : List ℕ). AreSpelled (IsCell sizes.packed) f (zip one.positions one.records)) cells s.cells_are) t.cells_are
    (long_pairs one.positions one.records (s.recorded ∙ sym s.known) ∙ s.known
    ∙ sym (long_pairs two.positions two.records (t.recorded ∙ sym t.known) ∙ t.known)) in
    let (positions, records) = same_pairs one.positions two.positions one.records two.records (s.recorded ∙ sym s.known) (t.recorded
    ∙ sym t.known) pairs in
    let edges : s.edges ≡ t.edges =
    spelled_same IsEdge 8 fixed_edges t.edge_bytes s.edges t.edges
    (subst (λ (f : List ℕ). AreSpelled IsEdge f s.edges) edge_bytes s.edges_are) t.edges_are (s.edge_count ∙ sym t.edge_count) in
    let order : one.order ≡ two.order =
    spelled_same IsNumber 4 fixed_numbers t.order one.order two.order
    (subst (λ (f : List ℕ). AreSpelled IsNumber f one.order) orders s.order_is) t.order_is (s.settled ∙ sym t.settled) in (
      texts,
      same_stored one two positions records
          (λ i p. same_truths (one.has_edge i p) (two.has_edge i p)
          (λ is. (t.exactly i p).0 (subst (λ (es : List (ℕ × ℕ)). Contains es (i, p)) edges ((s.exactly i p).1 is)))
          (λ is. (s.exactly i p).0 (subst (λ (es : List (ℕ × ℕ)). Contains es (i, p)) (sym edges) ((t.exactly i p).1 is))))
          order,
    )
