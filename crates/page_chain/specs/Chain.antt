-- A chain of pages: each begins with the number of the next one, in four bytes, and the last with 0.
use Rattle.std.specs.Prelude.{◌≡◌, ℕ, ◌+◌, ◌*◌, ◌<◌, ◌≤◌, List, [], ◌∷◌, ◌++◌, length, take, drop, slice_get, slice_index, Contains, Some}
use Rattle.byteorder.specs.Endian.{big_number}
use Rattle.page_chain.specs.declared.page.TheConstants.{PAYLOAD}

-- the page that a page with these bytes names
abbrev pub next_in : List ℕ → ℕ
next_in bytes = big_number 4 bytes

-- from this page on the chain goes through these pages, and then ends
abbrev pub LeadsThrough : (ℕ → List ℕ) → ℕ → List ℕ → Type 0
LeadsThrough bytes from [] = from ≡ 0
LeadsThrough bytes from (p ∷ ps) = (from ≡ p) × LeadsThrough bytes (next_in (bytes p)) ps

-- what these pages hold after the number of the next one, joined
abbrev pub payloads : (ℕ → List ℕ) → List ℕ → List ℕ
payloads bytes [] = []
payloads bytes (p ∷ ps) = drop 4 (bytes p) ++ payloads bytes ps

-- from this page on, below this capacity, a chain of these pages holds this content: each page once, none too few and
-- none too many for its length
pub record IsChain (capacity first : ℕ) (pages content : List ℕ) (bytes : ℕ → List ℕ) : Type 0 where
  pub leads : LeadsThrough bytes first pages
  pub within : (p : ℕ) → Contains pages p → (1 ≤ p) × (p < capacity)
  pub once : (i j p : ℕ) → slice_get pages i ≡ Some p → slice_get pages j ≡ Some p → i ≡ j
  pub enough : length content ≤ PAYLOAD * length pages
  pub no_more : PAYLOAD * length pages < length content + PAYLOAD
  pub is : take (length content) (payloads bytes pages) ≡ content

-- the first of these pages, 0 where there is none
abbrev pub first_of : List ℕ → ℕ
first_of pages = slice_index pages 0
