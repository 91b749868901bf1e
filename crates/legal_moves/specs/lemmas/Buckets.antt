-- The bucket by which a search finds again what it has kept.
use Rattle.std.specs.Prelude.{ℕ, ◌+◌, ◌-◌, ◌*◌, ◌/◌, ◌%◌, ◌^◌, nat_lt, if◌then◌else◌, List, length, drop, fold}
use Rattle.std.specs.Int.{w64, from_le_bytes}
use Rattle.std.specs.Simd.{first_chunks}
use Rattle.rbg_game.specs.declared.position.SemiState.{SemiState}
use Rattle.legal_moves.specs.declared.search.bucket.TheConstants.{SPREAD}

-- one number mixed into a hash of 16 bits
abbrev pub mixed : ℕ → ℕ → ℕ
mixed hash number = (hash * 31 + number) % 65536

-- one number stirred into a hash of 64 bits
abbrev pub stirred : ℕ → ℕ → ℕ
stirred hash number = ((hash + number) % 2 ^ 64 * SPREAD) % 2 ^ 64

-- eight pieces stirred into a hash of 64 bits as one number
abbrev pub stirred_eight : ℕ → List ℕ → ℕ
stirred_eight hash eight = stirred hash (from_le_bytes w64 eight)

-- the hash of pieces behind what was hashed before: by eights, and then the last eight once more; fewer than eight one by one
abbrev pub hash_of_all : ℕ → List ℕ → ℕ
hash_of_all before pieces =
    if nat_lt (length pieces) 8 then fold stirred before pieces
    else stirred_eight (fold stirred_eight before (first_chunks 8 (length pieces / 8) pieces)) (drop (length pieces - 8) pieces)

-- the bucket of a board: the nine highest bits of the hash of its values and pieces
abbrev pub bucket_of_board : SemiState → ℕ
bucket_of_board S = hash_of_all (fold stirred 0 S.values.items) S.pieces.items / 2 ^ 55

-- the bucket of a board's number, a vertex and the number of the last action
abbrev pub bucket_of_stand : ℕ → ℕ → ℕ → ℕ
bucket_of_stand board vertex place = mixed (mixed (board % 65536) vertex) place % 512
