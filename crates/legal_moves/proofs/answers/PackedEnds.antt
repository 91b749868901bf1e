-- The ends of a search for moves, packed and in ascending order, are exactly the successors.
use Rattle.std.proofs.Common.{◌≡◌, ◌≢◌, ℕ, zero, suc, ◌+◌, ◌<◌, ◌≤◌, Bool, true, false, cond, List, [], ◌∷◌, ◌++◌, length, map, filter, take, get_or, Some, slice_get, All, AllPairs, Contains, bytes_eq, refl, sym, ap, ◌∙◌, subst, arith, append-nil}
use Rattle.std.specs.Cmp.{both_ways}
use Rattle.std.specs.Cmp.Lexicographic.{slice_cmp}
use Rattle.std.specs.Ordering.{nat_cmp, is_lt, ordering_reverse}
use Rattle.std.specs.declared.cmp.Ordering.{Ordering}
use Rattle.std.specs.declared.cmp.Ordering.TheVariants.{Less, Equal, Greater}
use Rattle.std.specs.List.Sorted.{IsPermutation, IsSorted}
use Rattle.std.proofs.lemmas.Cmp.{nat_list_cmp_total}
use Rattle.std.proofs.lemmas.List.{length-map, map-append, take_all, get_or-map}
use Rattle.std.proofs.lemmas.List.Elements.{All-nil, All-cons, filter_more}
use Rattle.std.proofs.lemmas.List.Kept.{AllPairs-cons}
use Rattle.std.proofs.lemmas.List.Sorted.{IsPermutation-map, All-permutation, Contains-permutation, length_permutation, sorted_far, ranks_by}
use Rattle.std.proofs.lemmas.Map.Keys.{IsDistinct-IsPermutation}
use Rattle.std.proofs.lemmas.Map.Made.{AllPairs-from_IsDistinct, IsDistinct-from_AllPairs}
use Rattle.std.proofs.lemmas.Option.{get_or_from_slice_get}
use Rattle.std.proofs.lemmas.Slice.Eq.{bytes_eq-Decides}
use Rattle.arrayvec.specs.ArrayVec.{ArrayVec}
use Rattle.rbg_game.specs.Games.{Game}
use Rattle.rbg_game.specs.Rules.{is_switch, action_at}
use Rattle.rbg_game.specs.Sound.{IsSoundGame}
use Rattle.rbg_game.specs.declared.position.Position.{Position}
use Rattle.position_pack.specs.declared.kind.PackingKind.{PackingKind}
use Rattle.position_pack.specs.Shape.{shape_of}
use Rattle.position_pack.specs.Packings.{Form, form_of, packed_by}
use Rattle.position_pack.proofs.OrderLemmas.{compared_equal}
use Rattle.position_pack.proofs.PackingLemmas.{packed_tell}
use Rattle.position_pack.proofs.ShapeLemmas.{small_shape, fits}
use Rattle.legal_moves.specs.Moves.{IsSuccessor}
use Rattle.legal_moves.specs.Listed.{ListsExactly}
use Rattle.legal_moves.specs.Sources.{IsAt, IsMoveBetween}
use Rattle.legal_moves.specs.lemmas.Configurations.{packed_cmp}
use Rattle.legal_moves.specs.lemmas.Ends.{ends_packed, AreAscendingEnds}
use Rattle.legal_moves.specs.lemmas.Reached.{AreReached}
use Rattle.legal_moves.specs.Configurations.{Configuration}
use Rattle.legal_moves.proofs.GetLemmas.{slice_get-within}
use Rattle.legal_moves.proofs.answers.ReachLemmas.{position_of}
use Rattle.legal_moves.proofs.searches.SearchLemmas.{Searched-by_move, move-by_Searched}
use Rattle.legal_moves.proofs.answers.SourceLemmas.{one_position}

-- ---- one configuration after another

module _ (form : Form) (cs : List Configuration) (i : ℕ) (c : Configuration) (at_c : slice_get cs i ≡ Some c) where
  filtered : (t : Bool) → c.ends ≡ t → filter (λ x. x.ends) (take (i + 1) cs) ≡ filter (λ x. x.ends) (take i cs) ++ cond t (c ∷ []) []
  filtered t is =
      filter_more (λ x. x.ends) cs i c (slice_get-within cs i c at_c)
      ∙ ap (λ x. filter (λ y. y.ends) (take i cs) ++ cond x.ends (x ∷ []) []) (get_or_from_slice_get cs i c c at_c)
      ∙ ap (λ b. filter (λ y. y.ends) (take i cs) ++ cond b (c ∷ []) []) is

  -- one at which no move ends
  pub packed_skip : c.ends ≡ false → ends_packed form (take (i + 1) cs) ≡ ends_packed form (take i cs)
  packed_skip is = ap (map (λ x. packed_by form.kind form.shape x.at)) (filtered false is ∙ append-nil (filter (λ x. x.ends) (take i cs)))

  -- one at which a move ends
  pub packed_more : c.ends ≡ true → ends_packed form (take (i + 1) cs) ≡ ends_packed form (take i cs) ++ packed_by form.kind form.shape c.at ∷ []
  packed_more is =
      ap (map (λ x. packed_by form.kind form.shape x.at)) (filtered true is)
      ∙ map-append (λ (x : Configuration). packed_by form.kind form.shape x.at) (filter (λ x. x.ends) (take i cs)) (c ∷ [])

pub packed_all : (form : Form) (cs : List Configuration) (n : ℕ) → length cs ≤ n → ends_packed form (take n cs) ≡ ends_packed form cs
packed_all form cs n past = ap (ends_packed form) (take_all n cs past)

-- ---- what is said of each end is said of its bytes

module _ (f : Configuration → List ℕ) where
  packed : List Configuration → List (List ℕ)
  packed cs = map f (filter (λ c. c.ends) cs)

  all_packed : (P : List ℕ → Type 0) (cs : List Configuration)
      → ((i : ℕ) (c : Configuration) → slice_get cs i ≡ Some c → c.ends ≡ true → P (f c)) → All P (packed cs)
  unfolding packed
  all_packed P [] h = All-nil P
  all_packed P (c ∷ cs) h = go c.ends refl (all_packed P cs (λ i d at ends. h (suc i) d at ends))
    where
      go : (t : Bool) → c.ends ≡ t → All P (packed cs) → All P (map f (cond t (c ∷ filter (λ x. x.ends) cs) (filter (λ x. x.ends) cs)))
      go true is rest = All-cons P (f c) (packed cs) (h 0 c refl is) rest
      go false is rest = rest

  contains_packed : (cs : List Configuration) (i : ℕ) (c : Configuration) → slice_get cs i ≡ Some c → c.ends ≡ true → Contains (packed cs) (f c)
  unfolding packed
  contains_packed [] i c at ends = absurd (cc)
  contains_packed (b ∷ cs) zero c at ends =
      let same : b ≡ c = cc in
      let is : b.ends ≡ true = ap (λ x. x.ends) same ∙ ends in
      subst (λ t. Contains (map f (cond t (b ∷ filter (λ x. x.ends) cs) (filter (λ x. x.ends) cs))) (f c)) (sym is) (0, omega arith, ap f same)
  contains_packed (b ∷ cs) (suc i) c at ends = go b.ends (contains_packed cs i c at ends)
    where
      go : (t : Bool) → Contains (packed cs) (f c) → Contains (map f (cond t (b ∷ filter (λ x. x.ends) cs) (filter (λ x. x.ends) cs))) (f c)
      go true h = (suc h.0, omega (arith, h.1), h.2)
      go false h = h

  AreApart : List Configuration → Type 0
  AreApart cs = (i j : ℕ) (c d : Configuration) → slice_get cs i ≡ Some c → slice_get cs j ≡ Some d → c.ends ≡ true → d.ends ≡ true → f c ≡ f d → i ≡ j

  apart_packed : (cs : List Configuration) → AreApart cs → AllPairs ◌≢◌ (packed cs)
  unfolding packed AreApart
  apart_packed [] h = λ i j d less inside. absurd (omega (arith, inside))
  apart_packed (c ∷ cs) h =
      go c.ends refl (apart_packed cs
      (λ i j d e at_d at_e ends_d ends_e same. let next = h (suc i) (suc j) d e at_d at_e ends_d ends_e same in omega (arith, next)))
    where
      go : (t : Bool) → c.ends ≡ t → AllPairs ◌≢◌ (packed cs) → AllPairs ◌≢◌ (map f (cond t (c ∷ filter (λ x. x.ends) cs) (filter (λ x. x.ends) cs)))
      go true is rest =
          let head = all_packed (λ y. f c ≢ y) cs (λ i d at ends same. let never = h 0 (suc i) c d refl at is ends same in omega (arith, never)) in
          AllPairs-cons ◌≢◌ (f c) (packed cs) head rest
      go false is rest = rest

few_filtered : (cs : List Configuration) → length (filter (λ c. c.ends) cs) ≤ length cs
few_filtered [] = omega arith
few_filtered (c ∷ cs) = go c.ends (few_filtered cs)
  where
    go : (t : Bool) → length (filter (λ x. x.ends) cs) ≤ length cs → length (cond t (c ∷ filter (λ x. x.ends) cs) (filter (λ x. x.ends) cs)) ≤ suc (length cs)
    go true few = omega (arith, few)
    go false few = omega (arith, few)

-- ---- in ascending order

bytes_flip : (x y : List ℕ) → bytes_eq x y ≡ bytes_eq y x
bytes_flip x y =
    both_ways (bytes_eq x y) (bytes_eq y x) (λ t. (bytes_eq-Decides y x).1 (sym ((bytes_eq-Decides x y).0 t)))
    (λ t. (bytes_eq-Decides x y).1 (sym ((bytes_eq-Decides y x).0 t)))

apart_sorted : (xs ys : List (List ℕ)) → IsPermutation xs ys → AllPairs ◌≢◌ xs → AllPairs ◌≢◌ ys
apart_sorted xs ys moved h =
    AllPairs-from_IsDistinct bytes_eq-Decides ys (IsDistinct-IsPermutation bytes_eq bytes_flip xs ys moved (IsDistinct-from_AllPairs bytes_eq-Decides xs h))

less_by : (x y : List ℕ) → is_lt (slice_cmp nat_cmp y x) ≡ false → x ≢ y → slice_cmp nat_cmp x y ≡ Less
less_by x y low other = go (slice_cmp nat_cmp x y) refl
  where
    go : (o : Ordering) → slice_cmp nat_cmp x y ≡ o → o ≡ Less
    go Less is = refl
    go Equal is = absurd (other (compared_equal x y is))
    go Greater is =
        let back : slice_cmp nat_cmp y x ≡ Less = nat_list_cmp_total.antisymm y x ∙ ap ordering_reverse is in
        let never : true ≡ false = sym (ap is_lt back) ∙ low in
        absurd (cc)

ascending_by : (ys : List (List ℕ)) → IsSorted (slice_cmp nat_cmp) ys → AllPairs ◌≢◌ ys → AllPairs (λ x y. slice_cmp nat_cmp x y ≡ Less) ys
ascending_by ys sorted apart i j d less inside =
    less_by (get_or ys i d) (get_or ys j d)
    (sorted_far (λ x y. is_lt (slice_cmp nat_cmp x y)) (ranks_by nat_list_cmp_total (λ x. x)) ys sorted i j d (omega arith) inside)
    (apart i j d less inside)

-- ---- the successors

module _ (kind : PackingKind) (game : Game) (sound : IsSoundGame game) (x : List ℕ) (at : Position) (here : IsAt kind game x at)
    (cs : List Configuration) (reached : AreReached game game.rules at.place at.state cs) where
  of : Configuration → List ℕ
  of c = packed_by kind (shape_of game) c.at

  leads : (i : ℕ) (c : Configuration) → slice_get cs i ≡ Some c → c.ends ≡ true → IsSuccessor game at c.at
  leads i c at_c ends =
      let w = reached.met i c at_c in
      (w.0, move-by_Searched game at w.0 c.at w.1 (sym (reached.ends_are i c at_c) ∙ ends))

  moves : (i : ℕ) (c : Configuration) → slice_get cs i ≡ Some c → c.ends ≡ true → IsMoveBetween kind game x (of c)
  unfolding of
  moves i c at_c ends = (
    at,
    c.at,
    here,
    record { position_is = position_of game at c.at sound here.position_is (leads i c at_c ends); bytes_are = refl },
    leads i c at_c ends,
  )

  there : (y : List ℕ) → IsMoveBetween kind game x y → Contains (packed of cs) y
  unfolding of packed
  there y (other, next, from, to, goes) =
      let own = subst (λ p. IsSuccessor game p next) (one_position kind game sound x at other here from) goes in
      let searched = Searched-by_move game at own.0 next own.1 in
      let f = reached.all own.0 next.state next.place searched.0 searched.1 in
      let place : f.1.at.place ≡ next.place = ap (λ p. p.place) f.3 in
      let switch = reached.ends_are f.0 f.1 f.2 ∙ ap (λ p. is_switch (action_at game.rules 1 p)) place ∙ searched.1 in
      subst (Contains (packed of cs)) (ap (packed_by kind (shape_of game)) f.3 ∙ sym to.bytes_are)
      (contains_packed of cs f.0 f.1 f.2 switch)

  apart : AreApart of cs
  unfolding of AreApart
  apart i j c d at_c at_d ends_c ends_d same =
      let is_c = position_of game at c.at sound here.position_is (leads i c at_c ends_c) in
      let is_d = position_of game at d.at sound here.position_is (leads j d at_d ends_d) in
      reached.different i j c d at_c at_d
      (packed_tell kind (shape_of game) c.at d.at (small_shape game sound) (fits game c.at is_c) (fits game d.at is_d) same)

  module _ (ys : List (List ℕ)) (h : AreAscendingEnds (form_of kind game) cs ys) where
    pub lists_ends : ListsExactly (IsMoveBetween kind game x) ys
    unfolding of packed
    lists_ends = record {
      only = All-permutation (IsMoveBetween kind game x) (packed of cs) ys h.permuted (all_packed of (IsMoveBetween kind game x) cs moves);
      all = λ y move. Contains-permutation (packed of cs) ys y h.permuted (there y move);
      ascending = ascending_by ys h.sorted (apart_sorted (packed of cs) ys h.permuted (apart_packed of cs apart));
    }

    pub few_ends : length ys ≤ 65536
    few_ends =
        let many : length (ends_packed (form_of kind game) cs) ≡ length (filter (λ c. c.ends) cs) = length-map (filter (λ c. c.ends) cs)
        (λ (c : Configuration). packed_by kind (shape_of game) c.at) in
        omega (arith, length_permutation (ends_packed (form_of kind game) cs) ys h.permuted, many, few_filtered cs, reached.few)

-- ---- of packed bytes

sorted_items : (ps : List (ArrayVec ℕ)) → IsSorted packed_cmp ps → IsSorted (slice_cmp nat_cmp) (map (λ p. p.items) ps)
sorted_items ps h k d low inside =
    let short : k + 1 < length ps = omega (arith, inside, length-map ps (λ (p : ArrayVec ℕ). p.items)) in
    let none : ArrayVec ℕ = record { items = d } in
    let next = get_or-map (λ (p : ArrayVec ℕ). p.items) ps (k + 1) none d short in
    let here = get_or-map (λ (p : ArrayVec ℕ). p.items) ps k none d (omega arith) in
    rw (next, here) (h k none low short)

pub ascending : (form : Form) (cs : List Configuration) (ps qs : List (ArrayVec ℕ)) → map (λ p. p.items) ps ≡ ends_packed form cs
    → IsPermutation ps qs → IsSorted packed_cmp qs → AreAscendingEnds form cs (map (λ p. p.items) qs)
ascending form cs ps qs are moved sorted = record {
  permuted = subst (λ xs. IsPermutation xs (map (λ p. p.items) qs)) are (IsPermutation-map (λ (p : ArrayVec ℕ). p.items) ps qs moved);
  sorted = sorted_items qs sorted;
}
