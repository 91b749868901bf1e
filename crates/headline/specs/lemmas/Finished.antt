-- A finished table stays as it is, whatever is asked of it.
use Rattle.std.specs.Prelude.{◌≡◌, ℕ, zero, suc, ◌+◌, ◌≤◌, ◌<◌, Bool, true, false, List, length, slice_get, None, Some, IsSome}
use Rattle.std.proofs.Common.{refl, sym, subst, ◌∙◌, ap, inl, inr, arith}
use Rattle.std.proofs.lemmas.Option.{slice_get_within}
use Rattle.rbg_game.specs.declared.roles.Player.{Player}
use Rattle.retrograde.specs.Graph.{Graph}
use Rattle.retrograde.specs.Successors.{packed_cmp}
use Rattle.retrograde.specs.Units.{Grows, UnitsOfWork}
use Rattle.retrograde.specs.View.{View, HasNumber, IsFinished}
use Rattle.retrograde.proofs.Finished.{draws, element, is_some_at, none_or_some, values_are_won}
use Rattle.retrograde.proofs.Units.{settled_stays}

module _ (graph : Graph (List ℕ)) (IsWide : List ℕ → Type 0) (limit : ℕ) where
  -- a value that is settled stays so, number by number
  pub settled_at : (a b : View (List ℕ)) (u : ℕ) → UnitsOfWork packed_cmp graph IsWide limit a u b
      → ((i : ℕ) (x : List ℕ) → HasNumber a i x → HasNumber b i x)
      → (i : ℕ) (w : Player) (n : ℕ) → a.value i ≡ Some (w, n) → b.value i ≡ Some (w, n)
  settled_at a b u works later i w n is =
      let below : i < a.expanded = works.before.coherent.settled i (is_some_at (a.value i) (w, n) is) in
      let fits : a.expanded ≤ length a.known = works.before.coherent.expanded in
      let (x, at) = element a.known i (omega arith) in
      let (j, number, value) = settled_stays packed_cmp graph IsWide limit a b u works x w n (i, at, is) in
      subst (λ (k : ℕ). b.value k ≡ Some (w, n)) (works.right.coherent.distinct j i x number (later i x at)) value

module _ (graph : Graph (List ℕ)) (IsWide : List ℕ → Type 0) (limit : ℕ) (a b : View (List ℕ)) (u : ℕ)
    (works : UnitsOfWork packed_cmp graph IsWide limit a u b) (finished : IsFinished a) where
  none_found : (more : ℕ) → Grows packed_cmp graph more a.expanded a.known b.known → b.known ≡ a.known
  none_found zero same = same
  none_found (suc k) (x, found, at, fresh, rest) =
      let within : a.expanded < length a.known = slice_get_within a.known a.expanded x at in
      let all : a.expanded ≡ length a.known = finished.all_expanded in
      absurd (omega arith)

  pub same_known : b.known ≡ a.known
  same_known = none_found works.more works.grows

  pub same_expanded : b.expanded ≡ a.expanded
  same_expanded =
      let grew : b.expanded ≡ a.expanded + works.more = works.expanded in
      let fits : b.expanded ≤ length b.known = works.right.coherent.expanded in
      let few : length b.known ≡ length a.known = ap length same_known in
      let all : a.expanded ≡ length a.known = finished.all_expanded in
      omega arith

  number_later : (i : ℕ) (x : List ℕ) → HasNumber a i x → HasNumber b i x
  number_later i x at = subst (λ (xs : List (List ℕ)). slice_get xs i ≡ Some x) (sym same_known) at

  settled : (i : ℕ) (w : Player) (n : ℕ) → a.value i ≡ Some (w, n) → b.value i ≡ Some (w, n)
  settled = settled_at graph IsWide limit a b u works number_later

  -- what nobody wins has no value later
  none_later : (i : ℕ) (w : Player) (n : ℕ) → b.value i ≡ Some (w, n) → a.value i ≡ None → ⊥
  none_later i w n is none =
      let below : i < b.expanded = works.right.coherent.settled i (is_some_at (b.value i) (w, n) is) in
      let fits : b.expanded ≤ length b.known = works.right.coherent.expanded in
      let (x, at) = element b.known i (omega arith) in
      let before : HasNumber a i x = subst (λ (xs : List (List ℕ)). slice_get xs i ≡ Some x) same_known at in
      (draws graph a works.before finished i x before).0 none w n (values_are_won graph b works.right x w n (i, at, is)).within

  pub same_value : (i : ℕ) → b.value i ≡ a.value i
  same_value i =
      elim (none_or_some (b.value i)) [
        | inl none ↦
            elim (none_or_some (a.value i)) [
              | inl also ↦ none ∙ sym also
              | inr ((w, n), is) ↦ settled i w n is ∙ sym is
            ]
        | inr ((w, n), is) ↦
            elim (none_or_some (a.value i)) [
              | inl none ↦ absurd (none_later i w n is none)
              | inr ((v, m), was) ↦ settled i v m was ∙ sym was
            ]
      ]

  pub same_processed : (i : ℕ) → b.processed i ≡ a.processed i
  same_processed i = go (a.processed i) refl (b.processed i) refl
    where
      go : (before : Bool) → a.processed i ≡ before → (after : Bool) → b.processed i ≡ after
          → b.processed i ≡ a.processed i
      go true was after is = works.keeps i was ∙ sym was
      go false was false is = is ∙ sym was
      go false was true is =
          let some : IsSome (a.value i) = subst (λ o. IsSome o) (same_value i) (works.right.coherent.processed i is) in
          let also : a.processed i ≡ true = finished.all_processed i some in
          absurd cc
