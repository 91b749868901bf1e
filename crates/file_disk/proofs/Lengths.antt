-- A file in memory is made longer or cut.
use Rattle.std.proofs.Common.{◌≡◌, inl, inr, ℕ, ◌+◌, ◌-◌, ◌≤◌, List, ◌++◌, length, refl, sym, ap, ◌∙◌, arith, take, drop, length-append, length-take}
use Rattle.std.specs.Prelude.{replicate}
use Rattle.std.proofs.lemmas.List.{take-append-le, take-take, take_all, drop_at, drop-drop, length-replicate, take-replicate, drop-replicate}
use Rattle.file_disk.specs.Bytes.{bytes_at, IsResized, KeepsUpTo}
use Rattle.file_disk.proofs.SectorPlaces.{before_change}

-- what is cut to this many bytes, with zeros after it
pub resized_is : (old new : List ℕ) (bytes : ℕ) → new ≡ take bytes old ++ replicate (bytes - length old) 0 → IsResized bytes old new
resized_is old new bytes is = record {
  long = long;
  zeros = λ from n le fits.
      ap (λ (b : List ℕ). take n (drop from b)) (is ∙ ap (λ (b : List ℕ). b ++ replicate (bytes - length old) 0) (take_all bytes old (omega arith)))
      ∙ ap (λ (b : List ℕ). take n b) (ap (λ (m : ℕ). drop m (old ++ replicate (bytes - length old) 0)) (omega arith)
      ∙ sym (drop-drop (from - length old) (length old) (old ++ replicate (bytes - length old) 0))
      ∙ ap (drop (from - length old)) (drop_at old (replicate (bytes - length old) 0) (length old) refl)
      ∙ drop-replicate (from - length old) (bytes - length old) 0)
      ∙ take-replicate n (bytes - length old - (from - length old)) 0 (omega arith);
}
  where
    long : length new ≡ bytes
    long = ap (λ (b : List ℕ). length b) is ∙ length-append (take bytes old) (replicate (bytes - length old) 0)
        ∙ omega (arith, length-take bytes old, length-replicate (bytes - length old) (let zero_byte : ℕ = 0 in zero_byte))

pub resized_keeps : (old new : List ℕ) (bytes : ℕ) → new ≡ take bytes old ++ replicate (bytes - length old) 0 → KeepsUpTo bytes old new
resized_keeps old new bytes is = record {
  kept = λ from n within fits. before_change old new (from + n) from n (front (from + n) within fits) (omega arith);
  no_shorter = omega (arith, (resized_is old new bytes is).long);
  no_longer = inr (omega (arith, (resized_is old new bytes is).long));
}
  where
    front : (m : ℕ) → m ≤ length old → m ≤ bytes → take m new ≡ take m old
    front m within fits =
        ap (take m) is ∙ take-append-le m (take bytes old) (replicate (bytes - length old) 0) (omega (arith, length-take bytes old))
        ∙ take-take m bytes old fits

pub same_keeps : (old new : List ℕ) (bytes : ℕ) → new ≡ old → KeepsUpTo bytes old new
same_keeps old new bytes is = record {
  kept = λ from n within fits. ap (λ (b : List ℕ). bytes_at b from n) is;
  no_shorter = omega (arith, ap (λ (b : List ℕ). length b) is);
  no_longer = inl (omega (arith, ap (λ (b : List ℕ). length b) is));
}
