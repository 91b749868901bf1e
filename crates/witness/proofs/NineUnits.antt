-- Nine units of work are more than any table of the game takes.
use Rattle.std.proofs.Common.{◌≡◌, ℕ, zero, suc, ◌<◌, ◌≤◌, Bool, true, false, if◌then◌else◌, List, length, get_or, Some, sym, ap, ◌∙◌, arith}
use Rattle.std.proofs.lemmas.Option.{slice_get-get_or}
use Rattle.position_pack.specs.declared.kind.PackingKind.{PackingKind}
use Rattle.legal_moves.specs.Sources.{IsWideAt}
use Rattle.legal_moves.proofs.Distinct.{distinct-le}
use Rattle.retrograde.specs.Right.{IsRight}
use Rattle.retrograde.specs.Stored.{count_below}
use Rattle.retrograde.specs.Successors.{packed_cmp}
use Rattle.retrograde.specs.Units.{UnitsOfWork}
use Rattle.retrograde.specs.View.{View}
use Rattle.witness.specs.Game.{witness_game}
use Rattle.witness.proofs.Positions.{graph, all, comes, is_among}

one_at_most : (b : Bool) → (if b then 1 else 0) ≤ 1
one_at_most true = omega arith
one_at_most false = omega arith

-- no more numbers below n pass than there are
all_at_most : (n : ℕ) (test : ℕ → Bool) → count_below n test ≤ n
all_at_most zero test = omega arith
all_at_most (suc n) test = omega (arith, all_at_most n test, one_at_most (test n))

module _ (kind : PackingKind) where
  -- a right table knows four positions at most
  pub four_known : (view : View (List ℕ)) → IsRight (graph kind) view → length view.known ≤ 4
  four_known view right =
      distinct-le (all kind) view.known
      (λ i j d less inside same.
      let at_i = slice_get-get_or view.known i d (omega arith) in
      let at_j = slice_get-get_or view.known j d inside in
      let one : i ≡ j = right.coherent.distinct i j (get_or view.known i d) at_i (at_j ∙ ap (λ x. Some x) (sym same)) in
      omega arith)
      (λ k d inside. is_among kind _ (comes kind _ (right.moves.reached (get_or view.known k d) (k, slice_get-get_or view.known k d inside))))

  -- so each of them is expanded and processed before nine units are done
  pub no_nine_units : (old new : View (List ℕ)) (limit units : ℕ) → 8 < units
      → UnitsOfWork packed_cmp (graph kind) (IsWideAt kind witness_game) limit old units new → ⊥
  no_nine_units old new limit units many work =
      let known = four_known new work.right in
      let expanded = work.right.coherent.expanded in
      let processed = all_at_most (length new.known) new.processed in
      omega (arith, work.units)
