-- The bytes of one record, one edge, one number. All numbers have their highest byte first.
use Rattle.std.specs.Prelude.{◌≡◌, ℕ, List, ◌++◌, length, drop, slice_index, Option, None, Some}
use Rattle.byteorder.specs.Endian.{big_number}
use Rattle.rbg_game.specs.declared.roles.Player.{Player}
use Rattle.rbg_game.specs.declared.roles.Player.TheVariants.{First, Second}
use Rattle.retrograde.specs.declared.records.State.{State}
use Rattle.retrograde.specs.declared.records.State.TheVariants.{Known, Expanded, Settled, Processed}
use Rattle.retrograde.specs.declared.records.Record.{Record}

-- the byte of a state
abbrev pub state_byte : State → ℕ
state_byte Known = 0
state_byte Expanded = 1
state_byte Settled = 2
state_byte Processed = 3

-- the byte of a winner, 0 where there is none
abbrev pub winner_byte : Option Player → ℕ
winner_byte None = 0
winner_byte (Some First) = 1
winner_byte (Some Second) = 2

-- these 16 bytes are those of a record: the state, the winner, two bytes that are ignored, and three numbers
pub record IsRecord (bytes : List ℕ) (r : Record) : Type 0 where
  pub long : length bytes ≡ 16
  pub state : slice_index bytes 0 ≡ state_byte r.state
  pub winner : slice_index bytes 1 ≡ winner_byte r.winner
  pub distance : big_number 4 (drop 4 bytes) ≡ r.distance
  pub left : big_number 4 (drop 8 bytes) ≡ r.left
  pub successors : big_number 4 (drop 12 bytes) ≡ r.successors

-- they are those of a record as it is written: the two bytes that are ignored are zero
pub record IsPlainRecord (bytes : List ℕ) (r : Record) : Type 0 where
  pub is : IsRecord bytes r
  pub third : slice_index bytes 2 ≡ 0
  pub fourth : slice_index bytes 3 ≡ 0

-- these bytes are a position of this many bytes, and after it its record
pub record IsCell (packed : ℕ) (bytes : List ℕ) (cell : List ℕ × Record) : Type 0 where
  pub long : length cell.0 ≡ packed
  pub behind : List ℕ
  pub is : bytes ≡ cell.0 ++ behind
  pub is_record : IsRecord behind cell.1

-- these bytes are a position of this many bytes, and after it its record as it is written
pub record IsPlainCell (packed : ℕ) (bytes : List ℕ) (cell : List ℕ × Record) : Type 0 where
  pub long : length cell.0 ≡ packed
  pub behind : List ℕ
  pub is : bytes ≡ cell.0 ++ behind
  pub is_record : IsPlainRecord behind cell.1

-- these 8 bytes are the number that is led to and the number that leads there
pub record IsEdge (bytes : List ℕ) (edge : ℕ × ℕ) : Type 0 where
  pub long : length bytes ≡ 8
  pub successor : big_number 4 bytes ≡ edge.0
  pub predecessor : big_number 4 (drop 4 bytes) ≡ edge.1

-- these 4 bytes are this number
pub record IsNumber (bytes : List ℕ) (n : ℕ) : Type 0 where
  pub long : length bytes ≡ 4
  pub is : big_number 4 bytes ≡ n
