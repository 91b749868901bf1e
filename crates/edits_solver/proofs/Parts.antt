-- What a clause says, and of that a part.
use Rattle.std.specs.Prelude.{ℕ, List, Result, Ok, Err, IfOk, OnOk}
use Rattle.std.proofs.Common.{inl, inr}
use Rattle.retrograde.specs.Stored.{Stored}
use Rattle.game_file.specs.State.{State}
use Rattle.solver.specs.declared.listing.Listing.{Listing}
use Rattle.session_lines.specs.declared.input.ListingLine.TheVariants.{Begin}
use Rattle.session_lines.specs.Listed.{IsListingReplied, AllLast}

-- what is so of an answer, from what was said of it
pub ok_so : {T E : Type 0} (result : Result T E) (P Q : T → Type 0) → ((value : T) → P value → Q value) → IfOk result P → IfOk result Q
ok_so (Ok value) P Q so has = so value has
ok_so (Err e) P Q so has = tt

module _ {F Version E : Type 0} (state : F → State) (IsVersion : Version → Stored (List ℕ) → F → Type 0) (AreTwo : Version → Version → Type 0)
    (UsedUp : Type 0) (old new : F) (before after : List (Listing Version)) (IsWritten : List ℕ → Type 0) where
  -- behind a line `begin` all listings last that were open
  pub begun_lasts : (result : Result ℕ E)
      → IfOk result (λ status. (text : List ℕ) × IsListingReplied state IsVersion AreTwo Begin UsedUp old new before after status text × IsWritten text)
      → OnOk result (AllLast IsVersion old new)
  begun_lasts (Ok status) (text, inl (is, begun), written) = begun.others
  begun_lasts (Ok status) (text, inr not, written) = not.others
  begun_lasts (Err e) it = tt
