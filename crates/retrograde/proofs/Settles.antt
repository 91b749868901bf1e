-- What is stored once the next settled position is processed.
use Rattle.std.proofs.Common.{◌≡◌, ◌∙◌, ◌↔◌, sym, ap, subst, ℕ, zero, suc, ◌<◌, ⊎_elim, Bool, true, false, cond, Option, Some, None, List, [], ◌∷◌, ◌++◌, length, get_or, refl, arith, slice_get, append_assoc}
use Rattle.std.specs.Prelude.{Contains, AllPairs}
use Rattle.std.proofs.lemmas.Option.{same_Some, slice_get_within}
use Rattle.std.proofs.lemmas.List.{append-nil, get_or_default, length-set}
use Rattle.std.proofs.lemmas.Bool.{cases_eq}
use Rattle.std.proofs.lemmas.List.Elements.{Contains-append_left, Contains-push, Contains-push_cases}
use Rattle.std.proofs.lemmas.List.Quantifiers.{all_pairs_push}
use Rattle.rbg_game.specs.declared.roles.Player.{Player}
use Rattle.retrograde.specs.declared.records.Record.{Record}
use Rattle.retrograde.specs.Graph.{Graph}
use Rattle.retrograde.specs.Stored.{Stored, expanded_count}
use Rattle.retrograde.specs.Sound.{IsLocallySound}
use Rattle.retrograde.specs.Process.{is_due, processed_record, with_processed_alone, IsNextSettled}
use Rattle.retrograde.specs.lemmas.ProcessSteps.{lower_with, lower_at, lowered_below, with_processed}
use Rattle.retrograde.specs.Settles.{IsSettledBy, Settles}
use Rattle.retrograde.proofs.Additions.{none_in_empty}
use Rattle.retrograde.proofs.Predecessors.{AreLowered, below_keeps}
use Rattle.retrograde.proofs.SoundProcess.{falls_all}

module _ {P : Type 0} (graph : Graph P) (s : ℕ) (w : Player) (d : ℕ) (old : Stored P) where
  -- the order, once the predecessors below n are seen to
  pub record AreNewly (n : ℕ) (order : List ℕ) : Type 0 where
    pub newly : List ℕ
    pub order_is : order ≡ old.order ++ newly
    pub ascending : AllPairs (λ i j. i < j) newly
    pub each : (i : ℕ) → Contains newly i ↔ ((i < n) × IsSettledBy graph old s w i)

  none : AreNewly 0 old.order
  none = record {
    newly = [];
    order_is = sym (append-nil old.order);
    ascending = λ i j d before within. absurd (omega (arith, within));
    each = λ i. ((λ is. absurd (none_in_empty i is)), (λ (lt, _). absurd (omega arith)));
  }

  past : (n : ℕ) (order : List ℕ) → (IsSettledBy graph old s w n → ⊥) → AreNewly n order → AreNewly (suc n) order
  past n order not' was = record {
    newly = was.newly;
    order_is = was.order_is;
    ascending = was.ascending;
    each = λ i. (
      (λ is. let (lt, it) = (was.each i).0 is in (omega arith, it)),
      (λ (lt, it).
          ⊎_elim
          (λ same. absurd (not' (subst (λ (k : ℕ). IsSettledBy graph old s w k) same it)))
          (λ other. let lt' : i < n = omega arith in (was.each i).1 (lt', it))
          (cases_eq i n)),
    );
  }

  more : (n : ℕ) (order : List ℕ) → IsSettledBy graph old s w n → AreNewly n order → AreNewly (suc n) (order ++ n ∷ [])
  more n order it was = record {
    newly = was.newly ++ n ∷ [];
    order_is = ap (λ (ks : List ℕ). ks ++ n ∷ []) was.order_is ∙ append_assoc old.order was.newly (n ∷ []);
    ascending = all_pairs_push (λ i j. i < j) was.newly n was.ascending (λ k d within. ((was.each (get_or was.newly k d)).0 (k, within, same_at k d within)).0);
    each = λ i. (
      (λ is.
          ⊎_elim
          (λ before. let (lt, that) = (was.each i).0 before in (omega arith, that))
          (λ same. (omega arith, subst (λ (k : ℕ). IsSettledBy graph old s w k) (at_last i same) it))
          (Contains-push_cases was.newly n i is)),
      (λ (lt, that).
          ⊎_elim
          (λ same. subst (λ (k : ℕ). Contains (was.newly ++ n ∷ []) k) (sym same) (Contains-push was.newly n))
          (λ other. let lt' : i < n = omega arith in Contains-append_left was.newly (n ∷ []) i ((was.each i).1 (lt', that)))
          (cases_eq i n)),
    );
  }
    where
      at_last : (i : ℕ) → n ≡ i → n ≡ i
      at_last i same = same

      same_at : (k d : ℕ) → k < length was.newly → get_or was.newly k (get_or was.newly k d) ≡ get_or was.newly k d
      same_at k d within = get_or_default was.newly k (get_or was.newly k d) d within

  pub newly_below : (n : ℕ) → AreNewly n (lowered_below graph s w d n old).order
  newly_below zero = none
  newly_below (suc n) = go (old.has_edge s n) refl (newly_below n)
    where
      now : Stored P
      now = lowered_below graph s w d n old

      keeps : AreLowered graph w d n old now
      keeps = below_keeps graph w d s n old

      due_at : (x : P) (r : Record) → slice_get now.positions n ≡ Some x → slice_get now.records n ≡ Some r → old.has_edge s n ≡ true
          → (b : Bool) → is_due (graph.mover x) w r ≡ b
          → AreNewly n now.order → AreNewly (suc n) (cond b (now.order ++ n ∷ []) now.order)
      due_at x r at has edge true due was = more n now.order (record {
        edge = edge;
        position = x;
        kept = r;
        at = ap (λ (ks : List P). slice_get ks n) (sym keeps.positions) ∙ at;
        has = sym (keeps.later n (omega arith)) ∙ has;
        due = due;
      }) was
      due_at x r at has edge false due was = past n now.order (λ it.
          let x_is : it.position ≡ x = same_Some it.position x (sym it.at ∙ (ap (λ (ks : List P). slice_get ks n) (sym keeps.positions) ∙ at)) in
          let r_is : it.kept ≡ r = same_Some it.kept r (sym it.has ∙ (sym (keeps.later n (omega arith)) ∙ has)) in
          let is : is_due (graph.mover x) w r ≡ true = subst (λ (q : Record). is_due (graph.mover x) w q ≡ true) r_is
          (subst (λ (y : P). is_due (graph.mover y) w it.kept ≡ true) x_is it.due) in
          cc) was

      at : (o : Option P) (q : Option Record) → slice_get now.positions n ≡ o → slice_get now.records n ≡ q → old.has_edge s n ≡ true
          → AreNewly n now.order → AreNewly (suc n) (lower_with graph w d n now o q).order
      at None q none' has edge was = past n now.order
          (λ it. let no_way : None ≡ Some it.position = sym none' ∙ (ap (λ (ks : List P). slice_get ks n) keeps.positions ∙ it.at) in cc) was
      at (Some x) None at' none' edge was = past n now.order
          (λ it. let no_way : None ≡ Some it.kept = sym none' ∙ (keeps.later n (omega arith) ∙ it.has) in cc) was
      at (Some x) (Some r) at' has edge was = due_at x r at' has edge (is_due (graph.mover x) w r) refl was

      go : (b : Bool) → old.has_edge s n ≡ b → AreNewly n now.order → AreNewly (suc n) (cond b (lower_at graph w d n now) now).order
      go false is was = past n now.order (λ it. let no_way : true ≡ false = sym it.edge ∙ is in cc) was
      go true is was = at (slice_get now.positions n) (slice_get now.records n) refl refl is was

module _ {P : Type 0} (graph : Graph P) (IsWide : P → Type 0) (old : Stored P) (sound : IsLocallySound graph IsWide old)
    (full : expanded_count old ≡ length old.positions)
    (s : ℕ) (r : Record) (w : Player) (next : IsNextSettled old s r w) where
  abbrev base : Stored P
  base = with_processed_alone s r old

  abbrev size : ℕ
  size = length old.positions

  leaves : AreLowered graph w r.distance size base (with_processed graph s r w old)
  leaves = below_keeps graph w r.distance s size base

  pub settles : Settles graph old (with_processed graph s r w old) s r w
  settles =
      let all = (falls_all graph old sound.table full s r w next).0 in
      let order = newly_below graph s w r.distance base size in
      record {
        next = next;
        positions = leaves.positions;
        has_edge = leaves.has_edge;
        records = leaves.lengths ∙ length-set old.records s (processed_record r);
        lowers = λ i x q at has edge. all.lowers i x q (slice_get_within old.positions i x at) at has edge;
        others = λ i q has fails. all.stays i q has fails;
        newly = order.newly;
        order = order.order_is;
        ascending = order.ascending;
        settled = λ i. (
          (λ is. ((order.each i).0 is).1),
          (λ it. (order.each i).1 (slice_get_within old.positions i it.position it.at, it)),
        );
      }
