-- The ends of a search by their bytes.
use Rattle.std.proofs.Common.{◌≡◌, ℕ, zero, suc, ◌+◌, ◌<◌, ◌⊎◌, inl, inr, Bool, true, false, cond, List, [], ◌∷◌, length, map, Some, None, slice_get, All, refl, sym, ap, ◌∙◌, subst, arith}
use Rattle.std.specs.BTreeMap.{BTreeMap, get, is_at, Updates, IsEmpty, IsOrdered}
use Rattle.std.specs.Map.{lookup}
use Rattle.std.specs.Ordering.{is_eq, nat_cmp}
use Rattle.std.specs.Cmp.Lexicographic.{slice_cmp}
use Rattle.std.specs.declared.cmp.Ordering.{Ordering}
use Rattle.std.specs.declared.cmp.Ordering.TheVariants.{Less, Equal, Greater}
use Rattle.std.proofs.lemmas.Bool.{cases_lt}
use Rattle.std.proofs.lemmas.Map.Lookups.{exact_bytes}
use Rattle.arrayvec.specs.ArrayVec.{ArrayVec}
use Rattle.position_pack.specs.Bytes.{bytes_of}
use Rattle.std.specs.Cmp.{IsTotalOrder, on_total}
use Rattle.std.proofs.lemmas.Cmp.{nat_list_cmp_total}
use Rattle.std.proofs.lemmas.Map.Entries.{btree_map_get_place}
use Rattle.legal_moves.specs.Shown.{shown_of, moves_of}
use Rattle.legal_moves.specs.declared.successor.Successor.{Successor}
use Rattle.legal_moves.specs.Configurations.{Configuration}
use Rattle.legal_moves.specs.lemmas.Configurations.{packed_cmp, AreEnds, AreEndsShown, HaveOwnBytes}
use Rattle.legal_moves.proofs.searches.FoundLemmas.{same_at}
use Rattle.legal_moves.proofs.searches.WidthLemmas.{all_by_get}

-- keys that compare equal are equal
pub tied : (x y : ArrayVec ℕ) → is_at (packed_cmp x) y ≡ true → x.items ≡ y.items
tied x y h = exact_bytes x.items y.items (go (slice_cmp nat_cmp x.items y.items) h)
  where
    go : (o : Ordering) → is_eq o ≡ true → o ≡ Equal
    go Less h = absurd (cc)
    go Equal h = refl
    go Greater h = absurd (cc)

is_key : (x : ArrayVec ℕ) (xs : List ℕ) → x.items ≡ xs → let y : ArrayVec ℕ = record { items = xs } in y ≡ x
is_key x xs e = λ i. record { items = sym e i }

-- nothing is below 0
pub ends_none : (cs : List Configuration) (ends : BTreeMap (ArrayVec ℕ) ℕ) → IsEmpty ends → IsOrdered packed_cmp ends → AreEnds cs 0 ends
ends_none cs ends empty ordered = record {
  all = λ i c less at ended. absurd (omega (arith, less));
  only = λ x i at. let never : None ≡ Some i = sym (ap (λ es. lookup (is_at (packed_cmp x)) es) empty) ∙ at in absurd (cc);
  ordered = ordered;
}

module _ (cs : List Configuration) (n : ℕ) (ends : BTreeMap (ArrayVec ℕ) ℕ) (c : Configuration) (h : AreEnds cs n ends) (at_c : slice_get cs n ≡ Some c) where
  upto : (i : ℕ) → i < n + 1 → (i < n) ⊎ (i ≡ n)
  upto i less = elim (cases_lt i n) [
    | inl below ↦ inl below
    | inr past ↦ inr (omega (arith, past, less))
  ]

  -- one at which no move ends
  pub ends_skip : c.ends ≡ false → AreEnds cs (n + 1) ends
  ends_skip goes_on = record {
    all = λ i d less at ended. all i d at ended (upto i less);
    only = λ x i at. let known = h.only x i at in (known.0, known.1, known.2, omega (arith, known.3), known.4);
    ordered = h.ordered;
  }
    where
      all : (i : ℕ) (d : Configuration) → slice_get cs i ≡ Some d → d.ends ≡ true → (i < n) ⊎ (i ≡ n)
          → get packed_cmp ends (record { items = bytes_of d.at }) ≡ Some i
      all i d at ended (inl below) = h.all i d below at ended
      all i d at ended (inr here) =
          let same = same_at cs n d c (subst (λ j. slice_get cs j ≡ Some d) here at) at_c in
          let never : true ≡ false = sym ended ∙ ap (λ z. z.ends) same ∙ goes_on in
          absurd (cc)

  -- one at which a move ends
  module _ (ends' : BTreeMap (ArrayVec ℕ) ℕ) (x : ArrayVec ℕ) (own : HaveOwnBytes cs) (ended : c.ends ≡ true) (e : x.items ≡ bytes_of c.at)
      (updates : Updates packed_cmp ends ends' x (Some n)) (ordered : IsOrdered packed_cmp ends') where
    at_other : (y : ArrayVec ℕ) (t : Bool) → is_at (packed_cmp x) y ≡ t → get packed_cmp ends' y ≡ cond t (Some n) (get packed_cmp ends y)
    at_other y t is = updates.0 y ∙ ap (λ b. cond b (Some n) (get packed_cmp ends y)) is

    all : (i : ℕ) (d : Configuration) → slice_get cs i ≡ Some d → d.ends ≡ true → (i < n) ⊎ (i ≡ n)
        → get packed_cmp ends' (record { items = bytes_of d.at }) ≡ Some i
    all i d at is_end (inl below) = go (is_at (packed_cmp x) (record { items = bytes_of d.at })) refl
      where
        go : (t : Bool) → is_at (packed_cmp x) (record { items = bytes_of d.at }) ≡ t → get packed_cmp ends' (record { items = bytes_of d.at }) ≡ Some i
        go true is =
            let same = own i n d c at at_c (sym (tied x (record { items = bytes_of d.at }) is) ∙ e) in
            absurd (omega (arith, same, below))
        go false is = at_other (record { items = bytes_of d.at }) false is ∙ h.all i d below at is_end
    all i d at is_end (inr here) =
        let same = same_at cs n d c (subst (λ j. slice_get cs j ≡ Some d) here at) at_c in
        subst (λ j. get packed_cmp ends' (record { items = bytes_of d.at }) ≡ Some j) (sym here)
        (subst (λ y. get packed_cmp ends' y ≡ Some n) (sym (is_key x (bytes_of d.at) (e ∙ ap (λ z. bytes_of z.at) (sym same)))) updates.1)

    only : (y : ArrayVec ℕ) (i : ℕ) → get packed_cmp ends' y ≡ Some i → (t : Bool) → is_at (packed_cmp x) y ≡ t → (d : Configuration)
        × (slice_get cs i ≡ Some d) × (d.ends ≡ true) × (i < n + 1) × (y.items ≡ bytes_of d.at)
    only y i at true is =
        let same : Some i ≡ Some n = sym at ∙ at_other y true is in
        let index : i ≡ n = cc in
        (c, ap (slice_get cs) index ∙ at_c, ended, omega (arith, index), sym (tied x y is) ∙ e)
    only y i at false is =
        let known = h.only y i (sym (at_other y false is) ∙ at) in
        (known.0, known.1, known.2, omega (arith, known.3), known.4)

    pub ends_more : AreEnds cs (n + 1) ends'
    ends_more = record {
      all = λ i d less at is_end. all i d at is_end (upto i less);
      only = λ y i at. only y i at (is_at (packed_cmp x) y) refl;
      ordered = ordered;
    }

-- ---- what is shown of them

abbrev pub successor_of : ArrayVec ℕ × ℕ → Successor
successor_of p = record { packed = p.0; index = p.1 }

packed_total : IsTotalOrder packed_cmp
packed_total = on_total (λ (x : ArrayVec ℕ). x.items) nat_list_cmp_total

module _ (cs : List Configuration) (n : ℕ) (many : n ≡ length cs) (ends : BTreeMap (ArrayVec ℕ) ℕ) (h : AreEnds cs n ends)
    (ss : List Successor) (made : ss ≡ map successor_of ends.entries) where
  both : (ps : List (ArrayVec ℕ × ℕ)) → map (shown_of cs) (map successor_of ps) ≡ moves_of cs ps
  both [] = refl
  both (p ∷ ps) = ap (λ ms. shown_of cs (successor_of p) ∷ ms) (both ps)

  pub ends_shown : AreEndsShown cs (map (shown_of cs) ss)
  ends_shown = record {
    ends = ends;
    ends_are = subst (λ m. AreEnds cs m ends) many h;
    moves_are = ap (map (shown_of cs)) made ∙ both ends.entries;
  }

  all_inside : (ps : List (ArrayVec ℕ × ℕ)) → ((i : ℕ) (p : ArrayVec ℕ × ℕ) → slice_get ps i ≡ Some p → p.1 < n) → (i : ℕ) (s : Successor)
      → slice_get (map successor_of ps) i ≡ Some s → s.index < n
  all_inside [] inside i s at = absurd (cc)
  all_inside (p ∷ ps) inside zero s at = let same : successor_of p ≡ s = cc in subst (λ x. x.index < n) same (inside 0 p refl)
  all_inside (p ∷ ps) inside (suc i) s at = all_inside ps (λ j q is. inside (suc j) q is) i s at

  pub ends_inside : All (λ s. s.index < n) ss
  ends_inside = subst (All (λ s. s.index < n)) (sym made)
      (all_by_get (λ s. s.index < n) (map successor_of ends.entries)
      (all_inside ends.entries (λ i p is. (h.only p.0 p.1 (btree_map_get_place packed_total ends i p.0 p.1 h.ordered is)).3)))
