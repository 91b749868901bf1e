-- What the bytes of one cell are, by what was read of them.
use Rattle.std.proofs.Common.{◌≡◌, ◌∙◌, sym, subst, ℕ, Bool, true, false, List, length, take, drop, slice_get, Option, None, Some, IfSome, IfNone, Result, Ok, Err}
use Rattle.std.specs.Prelude.{ok_or, is_some}
use Rattle.retrograde.specs.declared.records.Record.{Record}
use Rattle.game_file.specs.Bytes.{IsCell, IsRecord}
use Rattle.game_file.specs.lemmas.Records.{same_fronts}
use Rattle.earlier_layouts.specs.declared.image.fault.BytesFault.{BytesFault}
use Rattle.earlier_layouts.proofs.Splits.{both_parts}

-- a record was read, or none
module _ (read : Option Record) (o : Result Record BytesFault) (g : BytesFault) (kept : List ℕ) (value : o ≡ ok_or read g) where
  pub not_read : (f : BytesFault) → o ≡ Err f → IfNone read ((r : Record) → IsRecord kept r → ⊥) → (r : Record) → IsRecord kept r → ⊥
  not_read f was none = go read value none
    where
      go : (read : Option Record) → o ≡ ok_or read g → IfNone read ((r : Record) → IsRecord kept r → ⊥) → (r : Record) → IsRecord kept r → ⊥
      go None value none = none
      go (Some r) value none = let other : ◌≡◌ {A = Result Record BytesFault} (Ok r) (Err f) = sym value ∙ was in absurd (cc)

  pub read_is : (r : Record) → o ≡ Ok r → IfSome read (λ x. IsRecord kept x) → IsRecord kept r
  read_is r was some = go read value some
    where
      go : (read : Option Record) → o ≡ ok_or read g → IfSome read (λ x. IsRecord kept x) → IsRecord kept r
      go None value some = let other : ◌≡◌ {A = Result Record BytesFault} (Err g) (Ok r) = sym value ∙ was in absurd (cc)
      go (Some x) value some =
          let both : ◌≡◌ {A = Result Record BytesFault} (Ok x) (Ok r) = sym value ∙ was in
          let same : x ≡ r = cc in
          subst (λ (y : Record). IsRecord kept y) same some

-- the parts of a cell
module _ (packed : ℕ) (cell front kept : List ℕ) (front_is : front ≡ take packed cell) (kept_is : kept ≡ drop packed cell) (long : length front ≡ packed) where
  parts : (x : List ℕ × Record) (of : IsCell packed cell x) → (front ≡ x.0) × (kept ≡ of.behind)
  parts x of = same_fronts front x.0 kept of.behind (long ∙ sym of.long) (sym (both_parts cell front kept packed front_is kept_is) ∙ of.is)

  pub cell_position : (x : List ℕ × Record) → IsCell packed cell x → front ≡ x.0
  cell_position x of = (parts x of).0

  pub not_a_cell : ((r : Record) → IsRecord kept r → ⊥) → (x : List ℕ × Record) → IsCell packed cell x → ⊥
  not_a_cell none x of = none x.1 (subst (λ (b : List ℕ). IsRecord b x.1) (sym (parts x of).1) of.is_record)

-- a position is known, or not
pub known_already : (o : Option ℕ) (b : Bool) (positions : List (List ℕ)) (x : List ℕ) → b ≡ is_some o → b ≡ true
    → IfSome o (λ i. slice_get positions i ≡ Some x)
    → (j : ℕ) × (slice_get positions j ≡ Some x)
known_already None b positions x is so at = absurd (cc)
known_already (Some i) b positions x is so at = (i, at)

pub unknown_still : (o : Option ℕ) (b : Bool) (positions : List (List ℕ)) (x : List ℕ) → b ≡ is_some o → b ≡ false
    → IfNone o ((i : ℕ) → slice_get positions i ≡ Some x → ⊥)
    → (i : ℕ) → slice_get positions i ≡ Some x → ⊥
unknown_still None b positions x is so none = none
unknown_still (Some i) b positions x is so none = absurd (cc)
