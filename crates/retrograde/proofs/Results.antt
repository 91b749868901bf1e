-- What a unit of work leads to is sound, and is one unit away, whatever table the relation leads to.
use Rattle.std.proofs.Common.{◌≡◌, sym, subst, ℕ, ◌≤◌, ◌⊎◌, ⊎_elim, List, length}
use Rattle.std.specs.declared.cmp.Ordering.{Ordering}
use Rattle.std.specs.Cmp.{IsTotalOrder}
use Rattle.std.proofs.lemmas.Bool.{cases_lt}
use Rattle.rbg_game.specs.declared.roles.Player.{Player}
use Rattle.rbg_game.specs.declared.roles.Role.{Role}
use Rattle.retrograde.specs.declared.records.Record.{Record}
use Rattle.retrograde.specs.Graph.{Graph}
use Rattle.retrograde.specs.Stored.{Stored, view_of, expanded_count}
use Rattle.retrograde.specs.Sound.{IsLocallySound}
use Rattle.retrograde.specs.Units.{UnitsOfWork}
use Rattle.retrograde.specs.lemmas.Expansion.{AreNoted, with_expanded}
use Rattle.retrograde.specs.Expands.{Expands, IsChoice}
use Rattle.retrograde.specs.lemmas.ProcessSteps.{with_processed}
use Rattle.retrograde.specs.Settles.{Settles}
use Rattle.retrograde.proofs.SoundExpansion.{expanded_sound}
use Rattle.retrograde.proofs.Expands.{choice, expands}
use Rattle.retrograde.proofs.ExpansionUnit.{expanded_works}
use Rattle.retrograde.proofs.SoundProcess.{processed_sound}
use Rattle.retrograde.proofs.Settles.{settles}
use Rattle.retrograde.proofs.UnitSteps.{processed_works}
use Rattle.retrograde.proofs.OneResult.{notes, expands_once, settles_once}

module _ {P : Type 0} (cmp : P → P → Ordering) (laws : IsTotalOrder cmp) (decide : (x y : P) → (x ≡ y) ⊎ (x ≡ y → ⊥))
    (graph : Graph P) (IsWide : P → Type 0) (old new : Stored P) (sound : IsLocallySound graph IsWide old)
    (x : P) (ys : List P) (leads : Expands cmp graph old new x ys) (free : IsChoice graph x → ⊥) (narrow : IsWide x → ⊥) where
  abbrev e : ℕ
  e = expanded_count old

  abbrev next : Stored P
  next = (notes decide e ys old).0

  abbrev made : Stored P
  made = with_expanded e (length ys) (graph.ahead x) next

  noted : AreNoted e ys old next
  noted = (notes decide e ys old).1

  forced : graph.mover x ≡ Role.Keeper → length ys ≤ 1
  forced keeper = ⊎_elim (λ more. absurd (free (choice cmp laws graph x ys leads.successors more keeper))) (λ few. few) (cases_lt 1 (length ys))

  same : made ≡ new
  same =
      expands_once cmp laws graph old sound.table x ys made new
      (expands cmp laws graph IsWide old sound x leads.number ys leads.successors forced next noted narrow) leads

  pub expands_sound : IsLocallySound graph IsWide new
  expands_sound =
      subst (λ (t : Stored P). IsLocallySound graph IsWide t) same
      (expanded_sound cmp laws graph IsWide old sound x leads.number ys leads.successors forced next noted narrow)

  pub expands_works : (limit : ℕ) → length new.positions ≤ limit → UnitsOfWork cmp graph IsWide limit (view_of old) 1 (view_of new)
  expands_works limit room =
      subst (λ (t : Stored P). UnitsOfWork cmp graph IsWide limit (view_of old) 1 (view_of t)) same
      (expanded_works cmp laws graph IsWide limit old sound x leads.number ys leads.successors forced next noted narrow
      (subst (λ (t : Stored P). length t.positions ≤ limit) (sym same) room))

module _ {P : Type 0} (graph : Graph P) (IsWide : P → Type 0) (old new : Stored P) (sound : IsLocallySound graph IsWide old)
    (full : expanded_count old ≡ length old.positions) (s : ℕ) (r : Record) (w : Player) (leads : Settles graph old new s r w) where
  same_settled : with_processed graph s r w old ≡ new
  same_settled = settles_once graph old sound.table s r w (with_processed graph s r w old) new (settles graph IsWide old sound full s r w leads.next) leads

  pub settles_sound : IsLocallySound graph IsWide new
  settles_sound =
      subst (λ (t : Stored P). IsLocallySound graph IsWide t) same_settled
      (processed_sound graph IsWide old sound full s r w leads.next)

  pub settles_works : (cmp : P → P → Ordering) (limit : ℕ) → length old.positions ≤ limit
      → UnitsOfWork cmp graph IsWide limit (view_of old) 1 (view_of new)
  settles_works cmp limit room =
      subst (λ (t : Stored P). UnitsOfWork cmp graph IsWide limit (view_of old) 1 (view_of t)) same_settled
      (processed_works cmp graph IsWide limit old sound full s r w leads.next room)
