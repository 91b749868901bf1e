-- What is stored once the next position is expanded.
use Rattle.std.proofs.Common.{◌≡◌, ◌∙◌, sym, ap, subst, ℕ, zero, suc, ◌≤◌, ◌<◌, ◌⊎◌, ⊎_elim, Bool, cond, eqb, true, false, Option, Some, List, [], ◌∷◌, ◌++◌, length, refl, arith, slice_get, inl, inr}
use Rattle.std.specs.Prelude.{Contains}
use Rattle.std.specs.declared.cmp.Ordering.{Ordering}
use Rattle.std.specs.declared.cmp.Ordering.TheVariants.{Less, Equal}
use Rattle.std.specs.Cmp.{IsTotalOrder}
use Rattle.std.proofs.lemmas.Cmp.{tied_itself}
use Rattle.std.proofs.lemmas.Option.{slice_get_within}
use Rattle.std.proofs.lemmas.Bool.Decides.{eqb_tells}
use Rattle.std.proofs.lemmas.List.{length-set}
use Rattle.std.proofs.lemmas.List.Elements.{All-contains}
use Rattle.std.proofs.lemmas.Map.Views.{All-after_first}
use Rattle.rbg_game.specs.declared.roles.Player.{Player}
use Rattle.rbg_game.specs.declared.roles.Role.{Role}
use Rattle.retrograde.specs.declared.records.Record.{Record}
use Rattle.retrograde.specs.Graph.{Graph}
use Rattle.retrograde.specs.View.{HasNumber}
use Rattle.retrograde.specs.Stored.{Stored, HasRecord, view_of, expanded_count}
use Rattle.retrograde.specs.Sound.{IsLocallySound}
use Rattle.retrograde.specs.Successors.{IsSuccessorList}
use Rattle.retrograde.specs.Changes.{fresh_record, with_record}
use Rattle.retrograde.specs.Expands.{Expands, IsChoice, expanded_record, won_record}
use Rattle.retrograde.specs.lemmas.Expansion.{AreNoted, with_ended, with_expanded}
use Rattle.retrograde.proofs.Finished.{element}
use Rattle.retrograde.proofs.Predecessors.{get_set_same}
use Rattle.retrograde.proofs.AdditionFrame.{are_noted_grew}
use Rattle.retrograde.proofs.Additions.{Adds, is_first, is_later, first_or_later, none_in_empty}
use Rattle.retrograde.proofs.SoundExpansion.{Closes, closes, adds, apart, to_new, edge_is, edge_kept, edge_cases, elsewhere, expanded_new}
use Rattle.retrograde.proofs.ExpansionUnit.{new_found}

-- where there is a successor, nothing is settled
expanded_moving : {P : Type 0} (e n : ℕ) (ahead : Option Player) (next : Stored P) → (n ≡ 0 → ⊥)
    → with_expanded e n ahead next ≡ with_record next e (expanded_record n)
expanded_moving e zero ahead next some = absurd (some refl)
expanded_moving e (suc n) ahead next some =
    let fails : eqb (suc n) 0 ≡ false = ⊎_elim (λ (_, same). absurd (omega arith)) (λ (is, _). is) (eqb_tells (suc n) 0) in
    ap (λ (b : Bool). cond b (with_ended e ahead next) (with_record next e (expanded_record (suc n)))) fails

expanded_ended : {P : Type 0} (e n : ℕ) (ahead : Option Player) (next : Stored P) → n ≡ 0 → with_expanded e n ahead next ≡ with_ended e ahead next
expanded_ended e n ahead next none = ap (λ (k : ℕ). with_expanded e k ahead next) none

module _ {P : Type 0} (cmp : P → P → Ordering) (laws : IsTotalOrder cmp) (graph : Graph P) (IsWide : P → Type 0) (stored : Stored P)
    (sound : IsLocallySound graph IsWide stored)
    (x : P) (number : HasNumber (view_of stored) (expanded_count stored) x) (ys : List P) (list : IsSuccessorList cmp graph x ys)
    (forced : graph.mover x ≡ Role.Keeper → length ys ≤ 1)
    (next : Stored P) (noted : AreNoted (expanded_count stored) ys stored next) (narrow : IsWide x → ⊥) where
  abbrev e : ℕ
  e = expanded_count stored

  abbrev new : Stored P
  new = with_expanded e (length ys) (graph.ahead x) next

  closing : Closes e (length ys) (graph.ahead x) next new
  closing = closes e (length ys) (graph.ahead x) next

  even : length next.records ≡ length next.positions
  even = (are_noted_grew e ys stored next noted).even sound.table.records

  within : e < length next.records
  within =
      let longer : length stored.positions ≤ length next.positions = (are_noted_grew e ys stored next noted).longer in
      let here : e < length stored.positions = slice_get_within stored.positions e x number in
      let same : length next.records ≡ length next.positions = even in
      omega arith

  same_order : next.order ≡ stored.order
  same_order = (are_noted_grew e ys stored next noted).order

  written_at : (r : Record) → HasRecord (with_record next e r) e r
  written_at r = get_set_same next.records e r within

  moves : (new' : Stored P) (r : Record) (order : List ℕ) → new ≡ new' → HasRecord new' e r → new'.order ≡ order → HasRecord new e r × (new.order ≡ order)
  moves new' r order same has ordered = subst (λ (t : Stored P). HasRecord t e r × (t.order ≡ order)) (sym same) (has, ordered)

  pub expands : Expands cmp graph stored new x ys
  expands = record {
    number = number;
    successors = list;
    expanded = expanded_new graph stored sound.table x number ys next noted new closing;
    known =
        let (found, fresh, more) = new_found cmp laws graph IsWide (length next.positions) stored sound x number ys list forced next noted narrow in
        (found, fresh, closing.positions ∙ more);
    records = ap (λ (rs : List Record). length rs) closing.records
        ∙ (length-set next.records e closing.written ∙ (even ∙ sym (ap (λ (ks : List P). length ks) closing.positions)));
    edges = λ i p. (edge_cases graph stored sound.table x number ys next noted new closing i p, edge_from i p);
    kept = λ i r other has.
        elsewhere graph stored sound.table x number ys next noted new closing i other
        ∙ (adds graph stored sound.table x number ys next noted new closing).records i r has;
    fresh = fresh_at;
    moving = λ some. moves (with_record next e (expanded_record (length ys))) (expanded_record (length ys)) stored.order
        (expanded_moving e (length ys) (graph.ahead x) next some) (written_at (expanded_record (length ys))) same_order;
    level = λ none nobody.
        moves (with_record next e (expanded_record 0)) (expanded_record 0) stored.order
        (expanded_ended e (length ys) (graph.ahead x) next none ∙ ap (λ (o : Option Player). with_ended e o next) nobody)
        (written_at (expanded_record 0)) same_order;
    won = λ w none ahead.
        moves (with_ended e (Some w) next) (won_record w) (stored.order ++ e ∷ [])
        (expanded_ended e (length ys) (graph.ahead x) next none ∙ ap (λ (o : Option Player). with_ended e o next) ahead) (written_at (won_record w))
        (ap (λ (ks : List ℕ). ks ++ e ∷ []) same_order);
  }
    where
      all_edges : Adds e ys stored next
      all_edges = adds graph stored sound.table x number ys next noted new closing

      edge_from : (i p : ℕ) → ((stored.has_edge i p ≡ true) ⊎ ((p ≡ e) × ((y : P) × Contains ys y × (slice_get new.positions i ≡ Some y))))
          → new.has_edge i p ≡ true
      edge_from i p (inl before) = edge_kept graph stored sound.table x number ys next noted new closing i p before
      edge_from i p (inr (from, (y, here, at))) =
          let (j, at_j, edge) = all_edges.all y here in
          let same : i ≡ j = apart graph stored sound.table x number ys next noted new closing i j y at
          (to_new graph stored sound.table x number ys next noted new closing j y at_j) in
          edge_is graph stored sound.table x number ys next noted new closing i p
          ∙ subst (λ (k : ℕ). next.has_edge k p ≡ true) (sym same) (subst (λ (k : ℕ). next.has_edge j k ≡ true) (sym from) edge)

      fresh_at : (i : ℕ) → length stored.positions ≤ i → i < length new.positions → HasRecord new i fresh_record
      fresh_at i past inside =
          let lengths : length new.positions ≡ length next.positions = ap (λ (ks : List P). length ks) closing.positions in
          let same : length next.records ≡ length next.positions = even in
          let here : e < length stored.positions = slice_get_within stored.positions e x number in
          let records : length stored.records ≡ length stored.positions = sound.table.records in
          let (r, has) = element next.records i (omega arith) in
          let other : i ≡ e → ⊥ = λ is. omega arith in
          elsewhere graph stored sound.table x number ys next noted new closing i other
          ∙ ⊎_elim
          (λ before. let wrong : i < length stored.records = slice_get_within stored.records i r before in absurd (omega arith))
          (λ (_, is). has ∙ ap (λ (q : Record). Some q) (sym is))
          (all_edges.recorded i r has)

-- Where a position has more than one successor, two of them differ.
pub choice : {P : Type 0} (cmp : P → P → Ordering) → IsTotalOrder cmp → (graph : Graph P) (x : P) (ys : List P) → IsSuccessorList cmp graph x ys
    → 1 < length ys → graph.mover x ≡ Role.Keeper → IsChoice graph x
choice {P = P} cmp laws graph x [] list more keeper = absurd (omega arith)
choice {P = P} cmp laws graph x (y ∷ []) list more keeper = absurd (omega arith)
choice {P = P} cmp laws graph x (y ∷ z ∷ ys) list more keeper = record {
  keeper = keeper;
  one = y;
  other = z;
  to_one = (list.each y).0 (is_first y (z ∷ ys));
  to_other = (list.each z).0 (is_later y z (z ∷ ys) (is_first z ys));
  apart = λ same.
      let less : cmp y z ≡ Less = All-contains (λ q. cmp y q ≡ Less) (z ∷ ys) z (All-after_first cmp y (z ∷ ys) list.ascending) (is_first z ys) in
      let less' : cmp y y ≡ Less = subst (λ (u : P). cmp y u ≡ Less) (sym same) less in
      let tied : cmp y y ≡ Equal = tied_itself laws y in
      cc;
}

-- Where it has no more than one, there is no choice.
pub no_choice : {P : Type 0} (cmp : P → P → Ordering) (graph : Graph P) (x : P) (ys : List P) → IsSuccessorList cmp graph x ys
    → (graph.mover x ≡ Role.Keeper → length ys ≤ 1) → IsChoice graph x → ⊥
no_choice {P = P} cmp graph x ys list forced choice = go ys (forced choice.keeper) ((list.each choice.one).1 choice.to_one)
    ((list.each choice.other).1 choice.to_other)
  where
    go : (zs : List P) → length zs ≤ 1 → Contains zs choice.one → Contains zs choice.other → ⊥
    go [] few here there = none_in_empty choice.one here
    go (z ∷ []) few here there = choice.apart (sym (only z choice.one here) ∙ only z choice.other there)
      where
        only : (z y : P) → Contains (z ∷ []) y → z ≡ y
        only z y is = ⊎_elim (λ same. same) (λ none. absurd (none_in_empty y none)) (first_or_later z y [] is)
    go (z ∷ u ∷ zs) few here there = absurd (omega arith)
