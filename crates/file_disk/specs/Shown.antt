-- What a file shows while writes wait.
use Rattle.std.specs.Prelude.{◌≡◌, ℕ, List, Some}
use Rattle.file_disk.specs.declared.waiting_writes.WaitingWrites.{WaitingWrites}
use Rattle.file_disk.specs.WaitingSectors.{slot_of, shown_of}

-- what is shown of a sector of a file with this content: what waits for it, and else what the file has
abbrev pub shown : WaitingWrites → List ℕ → ℕ → List ℕ
shown waiting content at = shown_of waiting.pages.items waiting.count waiting.bytes.items content at

-- this sector waits
abbrev pub Waits : WaitingWrites → ℕ → Type 0
Waits waiting at = (slot : ℕ) × (slot_of waiting.pages.items waiting.count at ≡ Some slot)
