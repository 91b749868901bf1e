-- Bits that wait for a whole byte, and bits that are still to be read.
use Rattle.std.specs.Prelude.{ℕ, ◌^◌, ◌<◌, ◌≤◌, List, ◌++◌, length, drop, slice_index}
use Rattle.std.specs.List.{flat_map}
use Rattle.position_pack.specs.Bits.{bits_of}
use Rattle.position_pack.specs.declared.writer.Writer.{Writer}
use Rattle.position_pack.specs.declared.reader.Reader.{Reader}

-- the bits that were written: those of the bytes, and those that wait
abbrev pub written : Writer → List ℕ
written w = flat_map (bits_of 8) w.bytes.items ++ bits_of w.count w.held

-- fewer than n bits wait, and what is held is no more than these
pub record HoldsFewer (n : ℕ) (w : Writer) : Type 0 where
  pub few : w.count < n
  pub low : w.held < 2 ^ w.count
  pub bytes : (i : ℕ) → slice_index w.bytes.items i < 256

-- fewer bits than four bytes have wait
abbrev pub IsWriter : Writer → Type 0
IsWriter w = HoldsFewer 32 w

-- the bits that are left of the bytes: those that are held, and those of the next bytes
abbrev pub left : List ℕ → Reader → List ℕ
left bytes r = bits_of r.count r.held ++ flat_map (bits_of 8) (drop r.next bytes)

-- fewer than eight bits are held, and of the bytes that are there
pub record IsReader (bytes : List ℕ) (r : Reader) : Type 0 where
  pub few : r.count < 8
  pub low : r.held < 2 ^ r.count
  pub within : r.next ≤ length bytes
