-- What is said of the cell that was seen last is a fact.
use Rattle.std.proofs.Common.{◌≡◌, ℕ, List, Option, Some, None, length}
use Rattle.std.specs.Prelude.{slice_get}
use Rattle.std.specs.Option.{IfSome}
use mathlib.Core.HLevel.{Unit-prop}
use denote.Struct.Props.{props}
use Rattle.retrograde.specs.declared.records.Record.{Record}
use Rattle.retrograde.specs.Stored.{Stored}
use Rattle.tree_table.specs.declared.last.Seen.{Seen}
use Rattle.tree_table.specs.Last.{IsSeenIn, IsLastSeen}
use Rattle.tree_table.specs.WorkTable.{Work, table_now}

pub position_prop : (o p : Option (List ℕ)) → IsProp (o ≡ p)
position_prop o p = hlevel props

pub record_prop : (o p : Option Record) → IsProp (o ≡ p)
record_prop o p = hlevel props

number_prop : (m n : ℕ) → IsProp (m ≡ n)
number_prop m n = hlevel props

pub if_prop : {X : Type 0} (P : X → Type 0) (o : Option X) → ((x : X) → IsProp (P x)) → IsProp (IfSome o P)
if_prop P (Some x) each = each x
if_prop P None each = Unit-prop

pub seen_prop : (table : Stored (List ℕ)) (s : Seen) → IsProp (IsSeenIn table s)
seen_prop table s x y = λ k. record {
  position = position_prop (slice_get table.positions s.number) (Some s.cell.position.items) x.position y.position k;
  kept = record_prop (slice_get table.records s.number) (Some s.cell.kept) x.kept y.kept k;
}

pub long_prop : (o : Option Seen) (n : ℕ) → IsProp (IfSome o (λ s. length s.cell.position.items ≡ n))
long_prop o n = if_prop (λ s. length s.cell.position.items ≡ n) o (λ s. number_prop (length s.cell.position.items) n)

pub last_prop : (o : Option Seen) (w : Work) → IsProp (IsLastSeen w o)
last_prop o w f h = λ k honest. if_prop (IsSeenIn (table_now w)) o (seen_prop (table_now w)) (f honest) (h honest) k
