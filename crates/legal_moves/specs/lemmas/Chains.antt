-- Chains of the indices that have the same bucket.
use Rattle.std.specs.Prelude.{◌≡◌, ℕ, zero, suc, ◌<◌, List, length, Some, slice_get, slice_index}
use Rattle.legal_moves.specs.declared.search.chains.Chains.{Chains}

-- one more than the latest index below n that has the bucket; 0 if none has
abbrev pub IsLatest : List ℕ → ℕ → ℕ → ℕ → Type 0
IsLatest buckets bucket n zero = (i : ℕ) → i < n → ¬ (slice_get buckets i ≡ Some bucket)
IsLatest buckets bucket n (suc k) =
    (k < n) × (slice_get buckets k ≡ Some bucket) × ((i : ℕ) → k < i → i < n → ¬ (slice_get buckets i ≡ Some bucket))

-- the indices with these buckets are chained
pub record AreChained (buckets : List ℕ) (chains : Chains) : Type 0 where
  pub as_many : length chains.befores.items ≡ length buckets
  pub heads : (bucket : ℕ) → bucket < 512 → IsLatest buckets bucket (length buckets) (slice_index chains.heads.items bucket)
  pub befores : (i bucket : ℕ) → slice_get buckets i ≡ Some bucket → IsLatest buckets bucket i (slice_index chains.befores.items i)
