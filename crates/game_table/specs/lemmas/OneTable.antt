-- Units of work lead from a table to one.
use Rattle.std.specs.Prelude.{◌≡◌, ◌⊎◌, ℕ, zero, suc, ◌≤◌, ◌<◌, List, length, IsSome}
use Rattle.std.proofs.Common.{refl, sym, subst, ◌∙◌, inl, inr, arith}
use Rattle.std.proofs.lemmas.Bool.{cases_lt}
use Rattle.std.proofs.lemmas.Cmp.{nat_list_cmp_total}
use Rattle.std.proofs.lemmas.Option.{slice_get_within, same_Some}
use Rattle.rbg_game.specs.declared.roles.Player.{Player}
use Rattle.retrograde.specs.declared.records.Record.{Record}
use Rattle.retrograde.specs.Graph.{Graph}
use Rattle.retrograde.specs.Expands.{Expands}
use Rattle.retrograde.specs.Settles.{Settles}
use Rattle.retrograde.specs.Stored.{Stored, IsTable, expanded_count, processed_count, view_of}
use Rattle.retrograde.specs.Successors.{packed_cmp}
use Rattle.retrograde.specs.View.{IsFinished}
use Rattle.retrograde.proofs.OneResult.{expands_once, settles_once, same_sorted}
use Rattle.game_table.specs.Units.{IsUnit, expands, settles, AreUnits}

module _ (graph : Graph (List ℕ)) where
  -- where all is expanded, none is
  all_or_one : (old new : Stored (List ℕ)) (x : List ℕ) (ys : List (List ℕ)) → Expands packed_cmp graph old new x ys
      → expanded_count old ≡ length old.positions → ⊥
  all_or_one old new x ys it all =
      let within : expanded_count old < length old.positions = slice_get_within old.positions (expanded_count old) x it.number in
      omega arith

  expands_to_one : (old a b : Stored (List ℕ)) (x y : List ℕ) (xs ys : List (List ℕ)) → IsTable old → Expands packed_cmp graph old a x xs
      → Expands packed_cmp graph old b y ys → a ≡ b
  expands_to_one old a b x y xs ys table one other =
      let same : y ≡ x = same_Some y x (sym other.number ∙ one.number) in
      let to_b : Expands packed_cmp graph old b x ys = subst (λ (z : List ℕ). Expands packed_cmp graph old b z ys) same other in
      let lists : ys ≡ xs =
      same_sorted packed_cmp nat_list_cmp_total ys xs to_b.successors.ascending one.successors.ascending
      (λ z. (λ there. (one.successors.each z).1 ((to_b.successors.each z).0 there), λ there. (to_b.successors.each z).1 ((one.successors.each z).0 there)))
      in
      expands_once packed_cmp nat_list_cmp_total graph old table x xs a b one
      (subst (λ (zs : List (List ℕ)). Expands packed_cmp graph old b x zs) lists to_b)

  settles_to_one : (old a b : Stored (List ℕ)) (s t : ℕ) (r q : Record) (w v : Player) → IsTable old → Settles graph old a s r w
      → Settles graph old b t q v → a ≡ b
  settles_to_one old a b s t r q w v table one other =
      let place : t ≡ s = same_Some t s (sym other.next.place ∙ one.next.place) in
      let at : Settles graph old b s q v = subst (λ (i : ℕ). Settles graph old b i q v) place other in
      let kept : q ≡ r = same_Some q r (sym at.next.has ∙ one.next.has) in
      let has : Settles graph old b s r v = subst (λ (k : Record). Settles graph old b s k v) kept at in
      let won : v ≡ w = same_Some v w (sym has.next.won ∙ one.next.won) in
      settles_once graph old table s r w a b one (subst (λ (p : Player). Settles graph old b s r p) won has)

  one_unit : (old a b : Stored (List ℕ)) → IsTable old → IsUnit graph old a → IsUnit graph old b → a ≡ b
  one_unit old a b table (expands {x} {ys = xs} one) (expands {x = y} {ys} other) = expands_to_one old a b x y xs ys table one other
  one_unit old a b table (expands {x} {ys} one) (settles all other) = absurd (all_or_one old a x ys one all)
  one_unit old a b table (settles all one) (expands {x} {ys} other) = absurd (all_or_one old b x ys other all)
  one_unit old a b table (settles {s} {r} {w} all one) (settles {s = t} {r = q} {w = v} also other) =
      settles_to_one old a b s t r q w v table one other

  -- as many units lead to one table
  pub one_by_units : (n : ℕ) (old a b : Stored (List ℕ)) → AreUnits graph old n a → AreUnits graph old n b → a ≡ b
  one_by_units zero old a b one other = one ∙ sym other
  one_by_units (suc n) old a b (mid, are, table, unit) (there, also, fits, other) =
      let same : there ≡ mid = one_by_units n old there mid also are in
      one_unit mid a b table unit (subst (λ (t : Stored (List ℕ)). IsUnit graph t b) same other)

  -- of a finished table none is done
  none_left : (old new : Stored (List ℕ)) → IsTable old → IsFinished (view_of old) → IsUnit graph old new → ⊥
  none_left old new table finished (expands {x} {ys} it) = all_or_one old new x ys it finished.all_expanded
  none_left old new table finished (settles {s} all it) =
      let some : IsSome ((view_of old).value s) = table.settled (processed_count old) s it.next.place in
      let below : processed_count old < processed_count old = (table.processed (processed_count old) s it.next.place).0 (finished.all_processed s some) in
      omega arith

  -- fewer units lead to a table on the way, and one more from there
  on_the_way : (m n : ℕ) (old new : Stored (List ℕ)) → n < m → AreUnits graph old m new
      → (mid next : Stored (List ℕ)) × AreUnits graph old n mid × IsTable mid × IsUnit graph mid next
  on_the_way zero n old new less are = absurd (omega arith)
  on_the_way (suc m) n old new less (mid, are, table, unit) =
      elim (cases_lt n m) [
        | inl below ↦ on_the_way m n old mid below are
        | inr above ↦
            let same : m ≡ n = omega (arith, less, above) in
            (mid, new, subst (λ (k : ℕ). AreUnits graph old k mid) same are, table, unit)
      ]

  -- so nothing leads past a finished one
  none_past : (n m : ℕ) (old a b : Stored (List ℕ)) → n < m → AreUnits graph old n a → IsFinished (view_of a) → AreUnits graph old m b → ⊥
  none_past n m old a b less are finished more =
      let (mid, next, there, table, unit) = on_the_way m n old b less more in
      let same : mid ≡ a = one_by_units n old mid a there are in
      none_left mid next table (subst (λ (t : Stored (List ℕ)). IsFinished (view_of t)) (sym same) finished) unit

  -- so of a finished table no unit is done
  pub none_of_finished : (n : ℕ) (old new : Stored (List ℕ)) → IsFinished (view_of old) → AreUnits graph old n new → n ≡ 0
  none_of_finished zero old new finished are = refl
  none_of_finished (suc n) old new finished are = absurd (none_past zero (suc n) old old new (omega arith) refl finished are)

  -- as many as are asked, or as are left to do: that is one number of units, and they lead to one table
  pub one_by_asking : (units n m : ℕ) (old a b : Stored (List ℕ)) → AreUnits graph old n a → (n ≡ units) ⊎ ((n < units) × IsFinished (view_of a))
      → AreUnits graph old m b → (m ≡ units) ⊎ ((m < units) × IsFinished (view_of b)) → (n ≡ m) × (a ≡ b)
  one_by_asking units n m old a b are all also every =
      let same : n ≡ m = each all every in
      (same, one_by_units m old a b (subst (λ (k : ℕ). AreUnits graph old k a) same are) also)
    where
      each : (n ≡ units) ⊎ ((n < units) × IsFinished (view_of a)) → (m ≡ units) ⊎ ((m < units) × IsFinished (view_of b)) → n ≡ m
      each (inl is) (inl so) = is ∙ sym so
      each (inl is) (inr (less, finished)) = absurd (none_past m n old b a (omega arith) also finished are)
      each (inr (less, finished)) (inl so) = absurd (none_past n m old a b (omega arith) are finished also)
      each (inr (less, finished)) (inr (fewer, ended)) = by_size (cases_lt n m) (cases_lt m n)
        where
          by_size : (n < m) ⊎ (m ≤ n) → (m < n) ⊎ (n ≤ m) → n ≡ m
          by_size (inl below) _ = absurd (none_past n m old a b below are finished also)
          by_size (inr _) (inl below) = absurd (none_past m n old b a below also ended are)
          by_size (inr at) (inr too) = omega arith
