-- The bytes of a game's text and of its table.
use Rattle.std.specs.Prelude.{◌≡◌, ◌↔◌, ℕ, true, List, [], ◌∷◌, ◌++◌, length, zip, Contains}
use Rattle.std.specs.List.Sorted.{IsStrictlySortedBy}
use Rattle.retrograde.specs.Stored.{Stored}
use Rattle.table.specs.Memory.{edge_cmp}
use Rattle.game_file.specs.declared.sizes.Sizes.{Sizes}
use Rattle.game_file.specs.Bytes.{IsCell, IsEdge, IsNumber}

-- the bytes of these items one after another
abbrev pub AreSpelled : {A : Type 0} → (List ℕ → A → Type 0) → List ℕ → List A → Type 0
AreSpelled IsOf bytes [] = bytes ≡ []
AreSpelled IsOf bytes (x ∷ xs) = (one rest : List ℕ) × (bytes ≡ one ++ rest) × IsOf one x × AreSpelled IsOf rest xs

-- the bytes of a table: the text; each position with its record; the edges, ascending; the settled order
pub record SpellsTable (sizes : Sizes) (bytes text : List ℕ) (stored : Stored (List ℕ)) : Type 0 where
  pub cells : List ℕ
  pub edges : List (ℕ × ℕ)
  pub edge_bytes : List ℕ
  pub order : List ℕ
  pub is : bytes ≡ text ++ cells ++ edge_bytes ++ order
  pub text_long : length text ≡ sizes.text
  pub known : length stored.positions ≡ sizes.counts.known
  pub recorded : length stored.records ≡ sizes.counts.known
  pub cells_are : AreSpelled (IsCell sizes.packed) cells (zip stored.positions stored.records)
  pub edge_count : length edges ≡ sizes.edges
  pub ascending : IsStrictlySortedBy edge_cmp edges
  pub exactly : (i p : ℕ) → Contains edges (i, p) ↔ (stored.has_edge i p ≡ true)
  pub edges_are : AreSpelled IsEdge edge_bytes edges
  pub settled : length stored.order ≡ sizes.counts.settled
  pub order_is : AreSpelled IsNumber order stored.order
