-- Holds: for whom else than the committed root a page stays.
use Rattle.std.specs.Prelude.{◌≡◌, ℕ, Bool, false, ◌||◌, List, slice_index_or}
use Rattle.page_store.specs.declared.holds.HoldPlace.{HoldPlace}
use Rattle.page_store.specs.declared.holds.HoldPlace.TheVariants.{First, Second, Third, Fourth}
use Rattle.page_store.specs.declared.holds.Holders.{Holders}

-- none of the four holds
abbrev pub none : Holders
none = record { first = false; second = false; third = false; fourth = false }

-- whether this hold is among them
abbrev pub needed_by : Holders → HoldPlace → Bool
needed_by holders First = holders.first
needed_by holders Second = holders.second
needed_by holders Third = holders.third
needed_by holders Fourth = holders.fourth

-- with this hold among them, or without it
abbrev pub with_need : Holders → HoldPlace → Bool → Holders
with_need holders First needs = record holders { first = needs }
with_need holders Second needs = record holders { second = needs }
with_need holders Third needs = record holders { third = needs }
with_need holders Fourth needs = record holders { fourth = needs }

-- whether there is one
abbrev pub any : Holders → Bool
any holders = holders.first || (holders.second || (holders.third || holders.fourth))

-- which holds are taken, and for each page which of them need it
pub record Holds : Type 0 where
  pub taken : Holders
  pub of : List Holders

-- the holds of these parts
abbrev pub holds_of : Holders → List Holders → Holds
holds_of t h = record { taken = t; of = h }

-- which holds need a page; after the last page none does
abbrev pub holders_at : List Holders → ℕ → Holders
holders_at holders p = slice_index_or holders p none

-- no hold is taken or let go, and each page is needed by the holds that needed it; pages that none needs may have come
pub record SameHolds (old new : Holds) : Type 0 where
  pub taken : new.taken ≡ old.taken
  pub each : (p : ℕ) → holders_at new.of p ≡ holders_at old.of p
