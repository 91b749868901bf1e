use Rattle.std.proofs.Common.{◌≡◌, ◌++◌, ◌≤◌, ◌<◌, ◌+◌, ℕ, List, length, drop}
use Rattle.std.specs.List.{sum_by}
use Rattle.position_pack.specs.Bits.{width}
use Rattle.position_pack.specs.lemmas.Streams.{left, IsReader}
use Rattle.position_pack.proofs.ByteLemmas.{all_bits}
use Rattle.position_pack.proofs.ReadLemmas.{AreBehind}
use Rattle.position_pack.proofs.fields.take_fields.Given as goal

-- the fields so far, and whatever is read of what is left, are what is read of the whole, and nothing else is
abbrev pub invariant-loop-most : goal.invariant-loop-most
invariant-loop-most l = record {
  reader : IsReader l.bytes l.reader;
  as_many : length l.fields.items ≡ l.most-index;
  enough : sum_by width (drop l.most-index l.greatest) ≤ length (left l.bytes l.reader);
  few : length (left l.bytes l.reader) < sum_by width (drop l.most-index l.greatest) + 8;
  sound : (ys zs : List ℕ) → AreBehind (drop l.most-index l.greatest) (left l.bytes l.reader) ys zs
      → AreBehind l.greatest (all_bits l.bytes) (l.fields.items ++ ys) zs;
  complete : (xs zs : List ℕ) → AreBehind l.greatest (all_bits l.bytes) xs zs
      → (ys : List ℕ) × (xs ≡ l.fields.items ++ ys) × AreBehind (drop l.most-index l.greatest) (left l.bytes l.reader) ys zs;
}
