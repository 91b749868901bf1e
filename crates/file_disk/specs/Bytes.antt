-- Bytes of a file, by their place.
use Rattle.std.specs.Prelude.{◌≡◌, ◌⊎◌, ℕ, ◌+◌, ◌*◌, ◌≤◌, List, length, take, drop, replicate, min}

-- this many bytes from a place on, as many of them as there are
abbrev pub bytes_at : List ℕ → ℕ → ℕ → List ℕ
bytes_at bytes from count = take count (drop from bytes)

-- the bytes of a sector
abbrev pub sector_of : List ℕ → ℕ → List ℕ
sector_of bytes at = bytes_at bytes (512 * at) 512

-- this many bytes from a place on may change, and nothing else does
pub record LeavesOthers (at count : ℕ) (old new : List ℕ) : Type 0 where
  pub same_length : length new ≡ length old
  pub before : (from n : ℕ) → from + n ≤ at → bytes_at new from n ≡ bytes_at old from n
  pub behind : (from n : ℕ) → at + count ≤ from → bytes_at new from n ≡ bytes_at old from n

-- the length may change to this many bytes, or to any between, and what stands in front of both ends stays
pub record KeepsUpTo (bytes : ℕ) (old new : List ℕ) : Type 0 where
  pub kept : (from n : ℕ) → from + n ≤ length old → from + n ≤ bytes → bytes_at new from n ≡ bytes_at old from n
  pub no_shorter : min (length old) bytes ≤ length new
  pub no_longer : (length new ≤ length old) ⊎ (length new ≤ bytes)

-- it has this many bytes now, zeros where there were none
pub record IsResized (bytes : ℕ) (old new : List ℕ) : Type 0 where
  pub long : length new ≡ bytes
  pub zeros : (from n : ℕ) → length old ≤ from → from + n ≤ bytes → bytes_at new from n ≡ replicate n 0
