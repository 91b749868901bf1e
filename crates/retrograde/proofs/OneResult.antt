-- What is said of a table after a unit of work leaves one table.
use Rattle.std.proofs.Common.{◌≡◌, ◌∙◌, ◌↔◌, sym, ap, subst, ℕ, zero, suc, ◌<◌, ◌⊎◌, inl, inr, ⊎_elim, true, Option, Some, None, List, [], ◌∷◌, ◌++◌, length, get_or, refl, arith, slice_get}
use Rattle.std.specs.Prelude.{AllPairs, Contains}
use Rattle.std.specs.Str.{bytes_eq}
use Rattle.std.specs.Cmp.{IsTotalOrder, both_ways}
use Rattle.std.specs.List.{AllZip}
use Rattle.std.specs.List.Sorted.{IsStrictlySortedBy}
use Rattle.std.specs.Ordering.{ordering_reverse}
use Rattle.std.specs.declared.cmp.Ordering.{Ordering}
use Rattle.std.specs.declared.cmp.Ordering.TheVariants.{Less, Greater}
use Rattle.std.proofs.Math.Path.{fun_ext}
use Rattle.std.proofs.lemmas.Option.{same_Some}
use Rattle.std.proofs.lemmas.Bool.{cases_lt, cases_eq}
use Rattle.std.proofs.lemmas.List.{length-set}
use Rattle.std.proofs.lemmas.List.Kept.{AllPairs-cons}
use Rattle.std.proofs.lemmas.Slice.Eq.{bytes_eq-Decides}
use Rattle.std.proofs.lemmas.Map.Keys.{sorted_tail}
use Rattle.std.proofs.lemmas.Map.Views.{All-after_first}
use Rattle.rbg_game.specs.declared.roles.Player.{Player}
use Rattle.retrograde.specs.declared.records.Record.{Record}
use Rattle.retrograde.specs.Graph.{Graph}
use Rattle.retrograde.specs.View.{View, HasNumber}
use Rattle.retrograde.specs.Audit.{AreSuccessors}
use Rattle.retrograde.specs.Successors.{IsSuccessorList}
use Rattle.retrograde.specs.Stored.{Stored, HasRecord, IsTable, expanded_count}
use Rattle.retrograde.specs.Changes.{fresh_record, with_position, with_edge}
use Rattle.retrograde.specs.Expands.{Expands, expanded_record, won_record}
use Rattle.retrograde.specs.lemmas.Expansion.{IsNoted, AreNoted}
use Rattle.retrograde.specs.Settles.{Settles}
use Rattle.retrograde.specs.Process.{lowered, processed_record, with_processed_alone}
use Rattle.retrograde.proofs.Finished.{element}
use Rattle.retrograde.proofs.CountLemmas.{true_or_false}
use Rattle.retrograde.proofs.Additions.{is_first, is_later, first_or_later, none_in_empty}

-- two lists with the same elements at the same places are one
pub same_list : {A : Type 0} (xs ys : List A) → length xs ≡ length ys
    → ((i : ℕ) → i < length xs → (x : A) × (slice_get xs i ≡ Some x) × (slice_get ys i ≡ Some x)) → xs ≡ ys
same_list [] [] long each = refl
same_list [] (y ∷ ys) long each = absurd (omega arith)
same_list (x ∷ xs) [] long each = absurd (omega arith)
same_list (x ∷ xs) (y ∷ ys) long each =
    let (z, here, there) = each 0 (omega arith) in
    let head : x ≡ y = same_Some x z here ∙ sym (same_Some y z there) in
    let tail : xs ≡ ys = same_list xs ys (omega arith) (λ i lt. each (suc i) (omega arith)) in
    cc

-- two lists with the same elements in the same order are one
module _ {A : Type 0} (R : A → A → Type 0) (one_way : (x y : A) → R x y → R y x → ⊥) where
  before_later : (x : A) (xs : List A) → AllPairs R (x ∷ xs) → (z : A) → Contains xs z → R x z
  before_later x xs pairs z (k, within, is) = subst (λ (u : A). R x u) is (pairs 0 (suc k) z (omega arith) (omega arith))

  rest_of : (x : A) (xs : List A) → AllPairs R (x ∷ xs) → AllPairs R xs
  rest_of x xs pairs = λ i j d lt within. pairs (suc i) (suc j) d (omega arith) (omega arith)

  same_head : (x y : A) (xs ys : List A) → AllPairs R (x ∷ xs) → AllPairs R (y ∷ ys) → Contains (y ∷ ys) x → Contains (x ∷ xs) y → x ≡ y
  same_head x y xs ys p q here there =
      ⊎_elim
      (λ same. sym same)
      (λ later.
      ⊎_elim
      (λ same. same)
      (λ later'. absurd (one_way x y (before_later x xs p y later') (before_later y ys q x later)))
      (first_or_later x y xs there))
      (first_or_later y x ys here)

  kept_later : (x y : A) (xs ys : List A) → x ≡ y → AllPairs R (x ∷ xs) → ((z : A) → Contains (x ∷ xs) z → Contains (y ∷ ys) z)
      → (z : A) → Contains xs z → Contains ys z
  kept_later x y xs ys same pairs all z here =
      ⊎_elim
      (λ is.
      let before : R x z = before_later x xs pairs z here in
      let itself : R z z = subst (λ (u : A). R u z) (same ∙ is) before in
      absurd (one_way z z itself itself))
      (λ later. later)
      (first_or_later y z ys (all z (is_later x z xs here)))

  pub same_ordered : (xs ys : List A) → AllPairs R xs → AllPairs R ys → ((z : A) → Contains xs z ↔ Contains ys z) → xs ≡ ys
  same_ordered [] [] p q all = refl
  same_ordered [] (y ∷ ys) p q all = absurd (none_in_empty y ((all y).1 (is_first y ys)))
  same_ordered (x ∷ xs) [] p q all = absurd (none_in_empty x ((all x).0 (is_first x xs)))
  same_ordered (x ∷ xs) (y ∷ ys) p q all =
      let head : x ≡ y = same_head x y xs ys p q ((all x).0 (is_first x xs)) ((all y).1 (is_first y ys)) in
      let tail : xs ≡ ys = same_ordered xs ys (rest_of x xs p) (rest_of y ys q) (λ z. (
        kept_later x y xs ys head p (λ u. (all u).0) z,
        kept_later y x ys xs (sym head) q (λ u. (all u).1) z,
      )) in
      cc

module _ {P : Type 0} (cmp : P → P → Ordering) (laws : IsTotalOrder cmp) where
  less_one_way : (x y : P) → cmp x y ≡ Less → cmp y x ≡ Less → ⊥
  less_one_way x y before after =
      let greater : cmp x y ≡ Greater = laws.antisymm x y ∙ ap ordering_reverse after in
      let no_way : Less ≡ Greater = sym before ∙ greater in
      cc

  pairs_from_sorted : (xs : List P) → IsStrictlySortedBy cmp xs → AllPairs (λ x y. cmp x y ≡ Less) xs
  pairs_from_sorted [] sorted = λ i j d lt within. absurd (omega arith)
  pairs_from_sorted (x ∷ xs) sorted =
      AllPairs-cons (λ x y. cmp x y ≡ Less) x xs (All-after_first cmp x xs sorted) (pairs_from_sorted xs (sorted_tail cmp x xs sorted))

  pub same_sorted : (xs ys : List P) → IsStrictlySortedBy cmp xs → IsStrictlySortedBy cmp ys → ((z : P) → Contains xs z ↔ Contains ys z) → xs ≡ ys
  same_sorted xs ys p q all = same_ordered (λ x y. cmp x y ≡ Less) less_one_way xs ys (pairs_from_sorted xs p) (pairs_from_sorted ys q) all

  -- the successors in order are the successors, each once
  pub successors_from_sorted : (graph : Graph P) (view : View P) (x : P) (ys : List P) (js : List ℕ)
      → IsSuccessorList cmp graph x ys → AllZip (λ y j. HasNumber view j y) ys js → AreSuccessors graph view x ys js
  successors_from_sorted graph view x ys js list numbers = record {
    each = list.each;
    once = λ i j d lt within same.
        let less : cmp (get_or ys i d) (get_or ys j d) ≡ Less = pairs_from_sorted ys list.ascending i j d lt within in
        let less' : cmp (get_or ys j d) (get_or ys j d) ≡ Less = subst (λ (u : P). cmp u (get_or ys j d) ≡ Less) same less in
        less_one_way (get_or ys j d) (get_or ys j d) less' less';
    numbers = numbers;
  }

-- bytes can be told apart
pub bytes_decided : (x y : List ℕ) → (x ≡ y) ⊎ (x ≡ y → ⊥)
bytes_decided x y =
    ⊎_elim
    (λ is. inl ((bytes_eq-Decides x y).0 is))
    (λ fails. inr (λ same. let is : bytes_eq x y ≡ true = (bytes_eq-Decides x y).1 same in cc))
    (true_or_false (bytes_eq x y))

-- where positions can be told apart, successors can be added
module _ {P : Type 0} (decide : (x y : P) → (x ≡ y) ⊎ (x ≡ y → ⊥)) where
  known_or_not : (ks : List P) (y : P) → ((j : ℕ) × (slice_get ks j ≡ Some y)) ⊎ ((j : ℕ) → slice_get ks j ≡ Some y → ⊥)
  known_or_not [] y = inr (λ j at. cc)
  known_or_not (k ∷ ks) y =
      ⊎_elim
      (λ same. inl (0, ap (λ (u : P). Some u) same))
      (λ other.
      ⊎_elim
      (λ (j, at). inl (suc j, at))
      (λ none. inr (not_there other none))
      (known_or_not ks y))
      (decide k y)
    where
      not_there : (k ≡ y → ⊥) → ((j : ℕ) → slice_get ks j ≡ Some y → ⊥) → (j : ℕ) → slice_get (k ∷ ks) j ≡ Some y → ⊥
      not_there other none zero at = other (same_Some k y at)
      not_there other none (suc j) at = none j at

  notes_one : (e : ℕ) (y : P) (a : Stored P) → (b : Stored P) × IsNoted e y a b
  notes_one e y a =
      ⊎_elim
      (λ (j, at). (with_edge a j e, inl (j, at, refl)))
      (λ none. (with_edge (with_position a y) (length a.positions) e, inr (none, refl)))
      (known_or_not a.positions y)

  pub notes : (e : ℕ) (ys : List P) (a : Stored P) → (b : Stored P) × AreNoted e ys a b
  notes e [] a = (a, refl)
  notes e (y ∷ ys) a =
      let (next, first) = notes_one e y a in
      let (b, rest) = notes e ys next in
      (b, (next, first, rest))

-- To expand a position leads to one table.
module _ {P : Type 0} (cmp : P → P → Ordering) (laws : IsTotalOrder cmp) (graph : Graph P) (old : Stored P) (table : IsTable old) (x : P) (ys : List P) where
  abbrev e : ℕ
  e = expanded_count old

  module _ (a b : Stored P) (to_a : Expands cmp graph old a x ys) (to_b : Expands cmp graph old b x ys) where
    positions : a.positions ≡ b.positions
    positions =
        let (f, fresh, is) = to_a.known in
        let (g, fresh', is') = to_b.known in
        let same : f ≡ g = same_sorted cmp laws f g fresh.ascending fresh'.ascending
        (λ y. ((λ here. (fresh'.each y).1 ((fresh.each y).0 here)), (λ here. (fresh.each y).1 ((fresh'.each y).0 here)))) in
        is ∙ (ap (λ (ks : List P). old.positions ++ ks) same ∙ sym is')

    abbrev AtE : Type 0
    AtE = (r : Record) × HasRecord a e r × HasRecord b e r × (a.order ≡ b.order)

    at_e : AtE
    at_e =
        ⊎_elim
        (λ none. ended none (graph.ahead x) refl)
        (λ some.
        let (has, same) = to_a.moving some in
        let (has', same') = to_b.moving some in
        (expanded_record (length ys), has, has', same ∙ sym same'))
        (cases_eq (length ys) 0)
      where
        ended : length ys ≡ 0 → (o : Option Player) → graph.ahead x ≡ o → AtE
        ended none None nobody =
            let (has, same) = to_a.level none nobody in
            let (has', same') = to_b.level none nobody in
            (expanded_record 0, has, has', same ∙ sym same')
        ended none (Some w) ahead =
            let (has, same) = to_a.won w none ahead in
            let (has', same') = to_b.won w none ahead in
            (won_record w, has, has', same ∙ sym same')

    long : length a.positions ≡ length b.positions
    long = ap (λ (ks : List P). length ks) positions

    records : a.records ≡ b.records
    records = same_list a.records b.records (to_a.records ∙ (long ∙ sym to_b.records)) (λ i lt. at i lt)
      where
        at : (i : ℕ) → i < length a.records → (r : Record) × (slice_get a.records i ≡ Some r) × (slice_get b.records i ≡ Some r)
        at i lt =
            ⊎_elim
            (λ same.
            let (r, has, has', _) = at_e in
            (r, ap (λ (k : ℕ). slice_get a.records k) same ∙ has, ap (λ (k : ℕ). slice_get b.records k) same ∙ has'))
            (λ other.
            ⊎_elim
            (λ before.
            let (r, has) = element old.records i (let even : length old.records ≡ length old.positions = table.records in omega arith) in
            (r, to_a.kept i r other has, to_b.kept i r other has))
            (λ past.
            let p : length a.records ≡ length a.positions = to_a.records in
            let q : length a.positions ≡ length b.positions = long in
            (fresh_record, to_a.fresh i past (omega arith), to_b.fresh i past (omega arith)))
            (cases_lt i (length old.positions)))
            (cases_eq i e)

  edge_too : (a b : Stored P) → Expands cmp graph old a x ys → Expands cmp graph old b x ys → a.positions ≡ b.positions
      → (i p : ℕ) → a.has_edge i p ≡ true → b.has_edge i p ≡ true
  edge_too a b to_a to_b same i p is =
      (to_b.edges i p).1 (⊎_elim
      (λ before. inl before)
      (λ (from, (y, here, at)). inr (from, (y, here, ap (λ (ks : List P). slice_get ks i) (sym same) ∙ at)))
      ((to_a.edges i p).0 is))

  pub expands_once : (a b : Stored P) → Expands cmp graph old a x ys → Expands cmp graph old b x ys → a ≡ b
  expands_once a b to_a to_b = λ t. record {
    positions = same t;
    records = records a b to_a to_b t;
    has_edge = edges t;
    order = (at_e a b to_a to_b).3 t;
  }
    where
      same : a.positions ≡ b.positions
      same = positions a b to_a to_b

      edges : a.has_edge ≡ b.has_edge
      edges = fun_ext (λ i. fun_ext (λ p. both_ways (a.has_edge i p) (b.has_edge i p) (edge_too a b to_a to_b same i p)
          (edge_too b a to_b to_a (sym same) i p)))

-- To process one does so too.
module _ {P : Type 0} (graph : Graph P) (old : Stored P) (table : IsTable old) (s : ℕ) (r : Record) (w : Player)
    (a b : Stored P) (to_a : Settles graph old a s r w) (to_b : Settles graph old b s r w) where
  settled_order : a.order ≡ b.order
  settled_order =
      let same : to_a.newly ≡ to_b.newly = same_ordered (λ i j. i < j) (λ i j lt gt. omega arith) to_a.newly to_b.newly to_a.ascending to_b.ascending
      (λ i. ((λ here. (to_b.settled i).1 ((to_a.settled i).0 here)), (λ here. (to_a.settled i).1 ((to_b.settled i).0 here)))) in
      to_a.order ∙ (ap (λ (ks : List ℕ). old.order ++ ks) same ∙ sym to_b.order)

  settled_records : a.records ≡ b.records
  settled_records = same_list a.records b.records (to_a.records ∙ sym to_b.records) (λ i lt. at i lt)
    where
      base : Stored P
      base = with_processed_alone s r old

      at : (i : ℕ) → i < length a.records → (q : Record) × (slice_get a.records i ≡ Some q) × (slice_get b.records i ≡ Some q)
      at i lt =
          let p : length a.records ≡ length old.records = to_a.records in
          let even : length old.records ≡ length old.positions = table.records in
          let base_long : length base.records ≡ length old.records = length-set old.records s (processed_record r) in
          let (q, has) = element base.records i (omega arith) in
          let (x, x_at) = element old.positions i (omega arith) in
          ⊎_elim
          (λ edge. (lowered (graph.mover x) w r.distance q, to_a.lowers i x q x_at has edge, to_b.lowers i x q x_at has edge))
          (λ none. (q, to_a.others i q has none, to_b.others i q has none))
          (true_or_false (old.has_edge s i))

  pub settles_once : a ≡ b
  settles_once = λ t. record {
    positions = (to_a.positions ∙ sym to_b.positions) t;
    records = settled_records t;
    has_edge = (to_a.has_edge ∙ sym to_b.has_edge) t;
    order = settled_order t;
  }
