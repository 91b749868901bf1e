-- The cell that was seen last, as the table changes.
use Rattle.std.proofs.Common.{◌≡◌, ℕ, zero, suc, List, [], ◌∷◌, Option, Some, length, slice_set, subst, refl}
use Rattle.std.specs.Prelude.{slice_get}
use Rattle.std.specs.Option.{IfSome}
use Rattle.retrograde.specs.declared.records.Record.{Record}
use Rattle.retrograde.specs.Changes.{fresh_record, with_position, with_record, with_edge, with_settled}
use Rattle.retrograde.specs.Stored.{Stored, HasRecord}
use Rattle.tree_table.specs.declared.bytes.Cell.{Cell}
use Rattle.tree_table.specs.declared.last.Seen.{Seen}
use Rattle.tree_table.specs.Last.{IsSeenIn, HasSeen}
use Rattle.tree_table.specs.WorkTable.{Work, IsHonestWork}
use Rattle.tree_table.specs.lemmas.Lists.{push_keeps}

-- one position more leaves those before it
pub seen_with_position : (table : Stored (List ℕ)) (x : List ℕ) (s : Seen) → IsSeenIn table s → IsSeenIn (with_position table x) s
seen_with_position table x s is = record {
  position = push_keeps table.positions x s.number s.cell.position.items is.position;
  kept = push_keeps table.records fresh_record s.number s.cell.kept is.kept;
}

-- an edge is no part of a cell, nor is the settled order
pub seen_with_edge : (table : Stored (List ℕ)) (i p : ℕ) (s : Seen) → IsSeenIn table s → IsSeenIn (with_edge table i p) s
seen_with_edge table i p s is = record { position = is.position; kept = is.kept }

pub seen_with_settled : (table : Stored (List ℕ)) (i : ℕ) (s : Seen) → IsSeenIn table s → IsSeenIn (with_settled table i) s
seen_with_settled table i s is = record { position = is.position; kept = is.kept }

-- the position and the record of a number
abbrev pub IsCellAt : Stored (List ℕ) → ℕ → Cell → Type 0
IsCellAt table i cell = (slice_get table.positions i ≡ Some cell.position.items) × HasRecord table i cell.kept

-- the cell that was seen last is that of the number that it was seen for
pub was_seen : (table : Stored (List ℕ)) (o : Option Seen) (s : Seen) (i : ℕ) (w : Work) → o ≡ Some s → HasSeen o i
    → (IsHonestWork w → IfSome o (IsSeenIn table)) → IsHonestWork w → IsCellAt table i s.cell
was_seen table o s i w is number last honest =
    let it : IsSeenIn table s = subst (λ (p : Option Seen). IfSome p (IsSeenIn table)) is (last honest) in
    subst (λ (n : ℕ). IsCellAt table n s.cell) (subst (λ (p : Option Seen). HasSeen p i) is number) (it.position, it.kept)

pub long_seen : (o : Option Seen) (s : Seen) (n : ℕ) → o ≡ Some s → IfSome o (λ x. length x.cell.position.items ≡ n)
    → length s.cell.position.items ≡ n
long_seen o s n is long = subst (λ (p : Option Seen). IfSome p (λ x. length x.cell.position.items ≡ n)) is long

-- what is put at a place stands there
put_there : {A : Type 0} (xs : List A) (i : ℕ) (x y : A) → slice_get xs i ≡ Some x → slice_get (slice_set xs i y) i ≡ Some y
put_there [] i x y e = absurd (cc)
put_there (z ∷ xs) zero x y e = refl
put_there (z ∷ xs) (suc i) x y e = put_there xs i x y e

pub seen_with_record : (table : Stored (List ℕ)) (i : ℕ) (cell : Cell) (kept : Record) → IsCellAt table i cell
    → IsSeenIn (with_record table i kept) (record { number = i; cell = record { position = cell.position; kept = kept } })
seen_with_record table i cell kept is = record { position = is.0; kept = put_there table.records i cell.kept kept is.1 }
