-- What was found or not.
use Rattle.std.proofs.Common.{◌≡◌, ℕ, List, Bool, Option, Some, None, true, false}
use Rattle.arrayvec.specs.ArrayVec.{ArrayVec}
use Rattle.btree.specs.Answers.{filled_bytes, filled_entry}
use Rattle.btree.specs.Page.{Item}
use Rattle.btree.specs.declared.find.entry.Entry.{Entry}

-- where a buffer was filled
pub filled : (found : Bool) (into : ArrayVec ℕ) (it : Option (List ℕ)) → found ≡ true → filled_bytes found into ≡ it → Some into.items ≡ it
filled true into it is there = there
filled false into it is there = absurd (cc)

-- where it was not
pub unfilled : (found : Bool) (into : ArrayVec ℕ) (it : Option (List ℕ)) → found ≡ false → filled_bytes found into ≡ it → None ≡ it
unfilled true into it is there = absurd (cc)
unfilled false into it is there = there

-- where a buffer was filled with an entry
pub filled_with : (found : Bool) (into : Entry) (it : Option Item) → found ≡ true → filled_entry found into ≡ it → Some (into.key.items, into.value.items) ≡ it
filled_with true into it is there = there
filled_with false into it is there = absurd (cc)

-- where it was not
pub unfilled_entry : (found : Bool) (into : Entry) (it : Option Item) → found ≡ false → filled_entry found into ≡ it → None ≡ it
unfilled_entry true into it is there = absurd (cc)
unfilled_entry false into it is there = there
