-- To expand the next position is one unit of work, which adds its new successors in order.
use Rattle.std.proofs.Common.{◌≡◌, ◌∙◌, ◌↔◌, sym, ap, subst, ℕ, suc, ◌+◌, ◌≤◌, inl, inr, ⊎_elim, Bool, true, Some, List, [], ◌∷◌, ◌++◌, length, arith, slice_get, append_assoc}
use Rattle.std.specs.Prelude.{Contains}
use Rattle.std.specs.List.{AllByRecursion}
use Rattle.std.specs.List.Sorted.{IsStrictlySortedBy}
use Rattle.std.specs.declared.cmp.Ordering.{Ordering}
use Rattle.std.specs.declared.cmp.Ordering.TheVariants.{Less, Equal}
use Rattle.std.specs.Cmp.{IsTotalOrder}
use Rattle.std.proofs.lemmas.Cmp.{tied_itself}
use Rattle.std.proofs.lemmas.Option.{same_Some, slice_get_within, slice_get-get_or, get_or_from_slice_get}
use Rattle.std.proofs.lemmas.List.{append-nil}
use Rattle.std.proofs.lemmas.List.Elements.{All-contains, Contains-append_left, Contains-push_cases}
use Rattle.std.proofs.lemmas.Map.Keys.{sorted_tail}
use Rattle.std.proofs.lemmas.Map.Views.{All-after_first}
use Rattle.rbg_game.specs.declared.roles.Role.{Role}
use Rattle.retrograde.specs.Graph.{Graph}
use Rattle.retrograde.specs.View.{HasNumber}
use Rattle.retrograde.specs.Stored.{Stored, view_of, expanded_count, count_below}
use Rattle.retrograde.specs.Sound.{IsLocallySound}
use Rattle.retrograde.specs.Successors.{IsSuccessorList}
use Rattle.retrograde.specs.lemmas.Expansion.{IsNoted, AreNoted, with_expanded}
use Rattle.retrograde.specs.Units.{IsNewFrom, UnitsOfWork, processed_in_view}
use Rattle.retrograde.proofs.CountLemmas.{true_or_false}
use Rattle.retrograde.proofs.Sound.{sound_right}
use Rattle.retrograde.proofs.Additions.{is_first, is_later, first_or_later, none_in_empty, count_past}
use Rattle.retrograde.proofs.SoundExpansion.{Closes, closes, expanded_sound, idle, idle_new, expanded_new, still}

contains_at : {P : Type 0} (xs : List P) (x : P) → Contains xs x → (k : ℕ) × (slice_get xs k ≡ Some x)
contains_at xs x (k, within, is) = (k, slice_get-get_or xs k x within ∙ ap (λ y. Some y) is)

contains_from : {P : Type 0} (xs : List P) (k : ℕ) (x : P) → slice_get xs k ≡ Some x → Contains xs x
contains_from xs k x at = (k, slice_get_within xs k x at, get_or_from_slice_get xs k x x at)

all_of : {P : Type 0} (Q : P → Type 0) (zs : List P) → ((z : P) → Contains zs z → Q z) → AllByRecursion Q zs
all_of Q [] each = tt
all_of Q (z ∷ zs) each = (each z (is_first z zs), all_of Q zs (λ u is. each u (is_later z u zs is)))

pub sorted_of : {P : Type 0} (cmp : P → P → Ordering) (z : P) (zs : List P) → ((u : P) → Contains zs u → cmp z u ≡ Less)
    → IsStrictlySortedBy cmp zs → IsStrictlySortedBy cmp (z ∷ zs)
unfolding IsStrictlySortedBy
sorted_of cmp z zs each sorted = (all_of (λ u. cmp z u ≡ Less) zs each, sorted)

pub sorted_none : {P : Type 0} (cmp : P → P → Ordering) → IsStrictlySortedBy cmp []
unfolding IsStrictlySortedBy
sorted_none cmp = tt

module _ {P : Type 0} (cmp : P → P → Ordering) (laws : IsTotalOrder cmp) where
  -- these are the ones of ys that a does not have
  pub record IsFresh (ys known found : List P) : Type 0 where
    pub each : (z : P) → Contains found z ↔ (Contains ys z × (Contains known z → ⊥))
    pub ascending : IsStrictlySortedBy cmp found

  pub finds : (e : ℕ) (ys : List P) (a b : Stored P) → IsStrictlySortedBy cmp ys → AreNoted e ys a b
      → (found : List P) × IsFresh ys a.positions found × (b.positions ≡ a.positions ++ found)
  finds e [] a b sorted same = (
    [],
    record {
      each = λ z. ((λ is. absurd (none_in_empty z is)), (λ is. absurd (none_in_empty z is.0)));
      ascending = sorted_none cmp;
    },
    ap (λ (t : Stored P). t.positions) same ∙ sym (append-nil a.positions),
  )
  finds e (y ∷ ys) a b sorted (next, first, rest) = go first (finds e ys next b (sorted_tail cmp y ys sorted) rest)
    where
      twice : Contains ys y → ⊥
      twice here =
          let less : cmp y y ≡ Less = All-contains (λ q. cmp y q ≡ Less) ys y (All-after_first cmp y ys sorted) here in
          let tied : cmp y y ≡ Equal = tied_itself laws y in
          cc

      go : IsNoted e y a next → (found : List P) × IsFresh ys next.positions found × (b.positions ≡ next.positions ++ found)
          → (found : List P) × IsFresh (y ∷ ys) a.positions found × (b.positions ≡ a.positions ++ found)
      go (inl (j, at, is)) (found, it, more) =
          let same : next.positions ≡ a.positions = ap (λ (t : Stored P). t.positions) is in
          let it' : IsFresh ys a.positions found = subst (λ (ks : List P). IsFresh ys ks found) same it in (
            found,
            record {
              each = λ z. (
                (λ here. let (there, off) = (it'.each z).0 here in (is_later y z ys there, off)),
                (λ (there, off).
                    ⊎_elim
                    (λ first. absurd (off (subst (λ (u : P). Contains a.positions u) first (contains_from a.positions j y at))))
                    (λ later. (it'.each z).1 (later, off))
                    (first_or_later y z ys there)),
              );
              ascending = it'.ascending;
            },
            more ∙ ap (λ (ks : List P). ks ++ found) same,
          )
      go (inr (new, is)) (found, it, more) =
          let same : next.positions ≡ a.positions ++ y ∷ [] = ap (λ (t : Stored P). t.positions) is in
          let it' : IsFresh ys (a.positions ++ y ∷ []) found = subst (λ (ks : List P). IsFresh ys ks found) same it in
          let unknown : Contains a.positions y → ⊥ = λ here. let (k, at) = contains_at a.positions y here in new k at in (
            y ∷ found,
            record {
              each = λ z. (
                (λ here.
                    ⊎_elim
                    (λ first. subst (λ (u : P). Contains (y ∷ ys) u × (Contains a.positions u → ⊥)) first (is_first y ys, unknown))
                    (λ later. let (there, off) = (it'.each z).0 later in (is_later y z ys there, λ had. off (Contains-append_left a.positions (y ∷ []) z had)))
                    (first_or_later y z found here)),
                (λ (there, off).
                    ⊎_elim
                    (λ first. subst (λ (u : P). Contains (y ∷ found) u) first (is_first y found))
                    (λ later.
                    is_later y z found ((it'.each z).1 (
                      later,
                      λ had.
                          ⊎_elim (λ before. off before) (λ same'. twice (subst (λ (u : P). Contains ys u) (sym same') later))
                          (Contains-push_cases a.positions y z had),
                    )))
                    (first_or_later y z ys there)),
              );
              ascending = sorted_of cmp y found
                  (λ u here. All-contains (λ q. cmp y q ≡ Less) ys u (All-after_first cmp y ys sorted) ((it'.each u).0 here).0) it'.ascending;
            },
            more ∙ (ap (λ (ks : List P). ks ++ found) same ∙ append_assoc a.positions (y ∷ []) found),
          )

  module _ (graph : Graph P) (IsWide : P → Type 0) (limit : ℕ) (stored : Stored P) (sound : IsLocallySound graph IsWide stored)
      (x : P) (number : HasNumber (view_of stored) (expanded_count stored) x) (ys : List P) (list : IsSuccessorList cmp graph x ys)
      (forced : graph.mover x ≡ Role.Keeper → length ys ≤ 1)
      (next : Stored P) (noted : AreNoted (expanded_count stored) ys stored next) (narrow : IsWide x → ⊥) where
    abbrev e : ℕ
    e = expanded_count stored

    pub new_found : (found : List P) × IsNewFrom cmp graph stored.positions x found × (next.positions ≡ stored.positions ++ found)
    new_found =
        let (found, it, more) = finds e ys stored next list.ascending noted in (
          found,
          record {
            each = λ y. (
              (λ here. let (there, off) = (it.each y).0 here in ((list.each y).0 there, off)),
              (λ (move, off). (it.each y).1 ((list.each y).1 move, off)),
            );
            ascending = it.ascending;
          },
          more,
        )

    works : (new : Stored P) → Closes e (length ys) (graph.ahead x) next new → IsLocallySound graph IsWide new → (length new.positions ≤ limit)
        → UnitsOfWork cmp graph IsWide limit (view_of stored) 1 (view_of new)
    works new closing is_sound room = record {
      before = sound_right graph IsWide stored sound;
      right = sound_right graph IsWide new is_sound;
      room = room;
      more = 1;
      expanded = let more : expanded_count new ≡ suc e = expands in omega arith;
      grows = let (found, fresh, more) = new_found in (x, found, number, fresh, closing.positions ∙ more);
      narrow = λ i y at from to wide.
          let more : expanded_count new ≡ suc e = expands in
          let same : i ≡ e = omega arith in
          narrow (subst (λ (u : P). IsWide u) (is_x i y same at) wide);
      keeps = λ i is. absurd (was_idle i is);
      units =
          let more : expanded_count new ≡ suc e = expands in
          let p : processed_in_view (view_of new) ≡ 0 = none (length new.positions) (view_of new).processed now_idle in
          let q : processed_in_view (view_of stored) ≡ 0 = none (length stored.positions) (view_of stored).processed was_idle in
          omega arith;
    }
      where
        expands : expanded_count new ≡ suc e
        expands = expanded_new graph stored sound.table x number ys next noted new closing

        was_idle : (i : ℕ) → (view_of stored).processed i ≡ true → ⊥
        was_idle = idle graph stored sound.table x number ys next noted new closing cmp laws IsWide sound list forced

        now_idle : (i : ℕ) → (view_of new).processed i ≡ true → ⊥
        now_idle = idle_new graph stored sound.table x number ys next noted new closing cmp laws IsWide sound list forced

        is_x : (i : ℕ) (y : P) → i ≡ e → HasNumber (view_of new) i y → y ≡ x
        is_x i y same at =
            same_Some y x (sym (subst (λ (k : ℕ). slice_get new.positions k ≡ Some y) same at)
            ∙ still graph stored sound.table x number ys next noted new closing e x number)

        none : (n : ℕ) (test : ℕ → Bool) → ((i : ℕ) → test i ≡ true → ⊥) → count_below n test ≡ 0
        none n test idle' =
            let start : n ≡ 0 + n = omega arith in
            ap (λ (m : ℕ). count_below m test) start
            ∙ count_past 0 n test (λ j _. ⊎_elim (λ is. absurd (idle' j is)) (λ off. off) (true_or_false (test j)))

    pub expanded_works : length (with_expanded e (length ys) (graph.ahead x) next).positions ≤ limit
        → UnitsOfWork cmp graph IsWide limit (view_of stored) 1 (view_of (with_expanded e (length ys) (graph.ahead x) next))
    expanded_works room =
        works (with_expanded e (length ys) (graph.ahead x) next) (closes e (length ys) (graph.ahead x) next)
        (expanded_sound cmp laws graph IsWide stored sound x number ys list forced next noted narrow) room

    pub with_expanded_room : length next.positions ≤ limit → length (with_expanded e (length ys) (graph.ahead x) next).positions ≤ limit
    with_expanded_room le =
        let same : length (with_expanded e (length ys) (graph.ahead x) next).positions ≡ length next.positions = ap
        (λ (ks : List P). length ks) (closes e (length ys) (graph.ahead x) next).positions in
        omega arith
