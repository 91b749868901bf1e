-- The search for the first page, as far as it has come.
use Rattle.std.specs.Prelude.{◌≡◌, ◌⊎◌, ℕ, ◌<◌, ◌≤◌, ◌^◌, ◌-◌, List, Option, None, Some}
use Rattle.file_disk.specs.declared.waiting_page.WaitingPage.{WaitingPage}
use Rattle.file_disk.specs.WaitingSectors.{page_at}

-- what is known of the place that was found
abbrev pub IsFound : List WaitingPage → ℕ → ℕ → ℕ → Option ℕ → Type 0
IsFound pages behind number least None = least ≡ 2 ^ 64 - 1
IsFound pages behind number least (Some p) = (p < behind) × (number ≤ (page_at pages p).number) × ((page_at pages p).number ≡ least)

-- among this many places it is the first page from this number on
pub record IsLeast (pages : List WaitingPage) (behind number least : ℕ) (found : Option ℕ) : Type 0 where
  pub is : IsFound pages behind number least found
  pub others : (q : ℕ) → q < behind → ((page_at pages q).number < number) ⊎ (least ≤ (page_at pages q).number)
