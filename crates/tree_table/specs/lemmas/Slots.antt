-- What changes of a slot.
use Rattle.std.specs.Prelude.{◌≡◌, ℕ, ◌+◌, ◌-◌, ◌^◌, Bool, true, false, min}
use Rattle.retrograde.specs.declared.records.Counts.{Counts}
use Rattle.retrograde.specs.declared.records.State.{State}
use Rattle.retrograde.specs.Stored.{is_expanded, is_processed}
use Rattle.tree_table.specs.declared.slot.TreeSlot.{TreeSlot}

-- only roots differ
pub record IsSameButRoots (old new : TreeSlot) : Type 0 where
  pub packing : new.packing ≡ old.packing
  pub goal : new.goal ≡ old.goal
  pub first : new.first ≡ old.first
  pub sizes : new.sizes ≡ old.sizes

-- the text is the same, and so are how positions are packed, the goal, and how many bytes a position has
pub record IsSameFrame (old new : TreeSlot) : Type 0 where
  pub packing : new.packing ≡ old.packing
  pub goal : new.goal ≡ old.goal
  pub first : new.first ≡ old.first
  pub text : new.sizes.text ≡ old.sizes.text
  pub packed : new.sizes.packed ≡ old.sizes.packed

-- how many there are, once one that was counted or not is counted or not
abbrev pub recounted : ℕ → Bool → Bool → ℕ
recounted count true false = count - 1
recounted count false true = min (count + 1) (2 ^ 32 - 1)
recounted count true true = count
recounted count false false = count

-- the counts, once a record that was in the one state is in the other
abbrev pub counts_with : Counts → State → State → Counts
counts_with counts was is = record counts {
  expanded = recounted counts.expanded (is_expanded was) (is_expanded is);
  processed = recounted counts.processed (is_processed was) (is_processed is);
}
