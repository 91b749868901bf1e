-- The ranks of positions in a list: where it ascends, a position is looked for by halves.
use Rattle.std.proofs.Common.{◌≡◌, ◌≢◌, ◌∙◌, ap, sym, subst, refl, ℕ, ◌<◌, ◌≤◌, ◌⊎◌, ◌↔◌, inl, inr, Bool, true, false, nat_eq, nat_lt, Some, None, ◌-◌, List, [], ◌∷◌, ◌++◌, All, length, get_or, arith}
use Rattle.std.specs.Prelude.{Contains, nat_le}
use Rattle.std.specs.Cmp.Lexicographic.{slice_cmp}
use Rattle.std.specs.List.Sorted.{IsPartitionPoint, IsPartitionedBy}
use Rattle.std.specs.Ordering.{nat_cmp, is_lt}
use Rattle.std.specs.declared.cmp.Ordering.{Ordering}
use Rattle.std.specs.declared.cmp.Ordering.TheVariants.{Less, Equal, Greater}
use Rattle.std.proofs.lemmas.Bool.{cases_lt, eqb-true, ltb-true}
use Rattle.std.proofs.lemmas.Cmp.{nat_list_cmp_total}
use Rattle.std.proofs.lemmas.List.{get_or-map, get_or_read, length-map}
use Rattle.std.proofs.lemmas.List.Elements.{All-contains, All-map}
use Rattle.certificate.specs.Format.{Ascends, Line}
use Rattle.certificate.specs.Lists.{HasRankedLine, line_of, lines_in}
use Rattle.certificate.specs.declared.ranked.Ranked.{Ranked}
use Rattle.certificate.proofs.GoingLemmas.{made_from}
use Rattle.certificate.proofs.ListLemmas.{ComesBefore, last_ascends, more_ascends, not_before_itself}

-- what holds of the bytes and the rank of each position of a list holds of whatever stands there
pub at_each : (Q : List ℕ → ℕ → Type 0) (list : List Ranked) → All (λ r. Q r.at.items r.rank) list
    → (x : List ℕ) (n : ℕ) → HasRankedLine list x n → Q x n
at_each Q list each x n there =
    All-contains (λ (l : Line). Q l.at l.rank) (lines_in list) (record { at = x; rank = n }) (All-map (λ (l : Line). Q l.at l.rank) line_of list each) there

is_less : (o : Ordering) → is_lt o ≡ true → o ≡ Less
is_less Less e = refl
is_less Equal e = cc
is_less Greater e = cc

less_is : (o : Ordering) → o ≡ Less → is_lt o ≡ true
less_is o e = ap is_lt e

-- the line of an element
pub line_at : (list : List Ranked) (k : ℕ) (d : Ranked) → k < length list → get_or (lines_in list) k (line_of d) ≡ line_of (get_or list k d)
line_at list k d lt = get_or-map line_of list k d (line_of d) lt

pub stands_there : (list : List Ranked) (k : ℕ) (r : Ranked) → k < length list → r ≡ get_or list k r → Contains (lines_in list) (line_of r)
stands_there list k r lt is = (k, (let long = length-map list line_of in omega arith), line_at list k r lt ∙ ap line_of (sym is))

module _ (list : List Ranked) (ascends : Ascends (lines_in list)) where
  before_later : (i j : ℕ) (d : Ranked) → i < j → j < length list → slice_cmp nat_cmp (get_or list i d).at.items (get_or list j d).at.items ≡ Less
  before_later i j d lt within =
      let long = length-map list line_of in
      let both : slice_cmp nat_cmp (get_or (lines_in list) i (line_of d)).at (get_or (lines_in list) j (line_of d)).at ≡ Less
      = ascends i j (line_of d) lt (omega arith) in
      let right = subst (λ (l : Line). slice_cmp nat_cmp (get_or (lines_in list) i (line_of d)).at l.at ≡ Less) (line_at list j d within) both in
      subst (λ (l : Line). slice_cmp nat_cmp l.at (get_or list j d).at.items ≡ Less) (line_at list i d (omega arith)) right

  -- a position stands at one place
  one_place : (i j : ℕ) (d : Ranked) → i < length list → j < length list → (get_or list i d).at.items ≡ (get_or list j d).at.items → i ≡ j
  one_place i j d hi hj same =
      let not_below : i < j → ⊥ = λ lt.
      not_before_itself (get_or list j d).at.items
      (subst (λ (x : List ℕ). slice_cmp nat_cmp x (get_or list j d).at.items ≡ Less) same (before_later i j d lt hj)) in
      let not_above : j < i → ⊥ = λ gt.
      not_before_itself (get_or list j d).at.items
      (subst (λ (x : List ℕ). slice_cmp nat_cmp (get_or list j d).at.items x ≡ Less) same (before_later j i d gt hi)) in
      omega arith

  module _ (at : List ℕ) where
    abbrev pub comes_before : Ranked → Bool
    comes_before r = is_lt (slice_cmp nat_cmp r.at.items at)

    pub partitioned : IsPartitionedBy comes_before list
    partitioned i j d le within before =
        elim (cases_lt i j) [
          | inl lt ↦
              less_is (slice_cmp nat_cmp (get_or list i d).at.items at)
              (nat_list_cmp_total.trans (get_or list i d).at.items (get_or list j d).at.items at (before_later i j d lt within)
              (is_less (slice_cmp nat_cmp (get_or list j d).at.items at) before))
          | inr ge ↦ (let same : j ≡ i = omega arith in subst (λ (k : ℕ). comes_before (get_or list k d) ≡ true) same before)
        ]

    -- the rank of a position that was found
    pub rank_found : (i : ℕ) (r : Ranked) → i < length list → r ≡ get_or list i r → r.at.items ≡ at → (n : ℕ) → (Some r.rank ≡ Some n) ↔ HasRankedLine list at n
    rank_found i r lt is here n = (
      λ same.
          let rank : r.rank ≡ n = cc in
          subst (λ (m : ℕ). HasRankedLine list at m) rank (subst (λ (x : List ℕ). HasRankedLine list x r.rank) here (stands_there list i r lt is)),
      λ there.
          let (s, (k, within, at_k), line) = made_from line_of list (record { at = at; rank = n }) there in
          let s_at : s.at.items ≡ at = ap (λ (l : Line). l.at) line in
          let s_rank : s.rank ≡ n = ap (λ (l : Line). l.rank) line in
          let place : i ≡ k = one_place i k r lt within
          (ap (λ (q : Ranked). q.at.items) (sym is) ∙ here ∙ sym s_at ∙ ap (λ (q : Ranked). q.at.items) (get_or_read list k s within (sym at_k) r)) in
          let element : r ≡ s = is ∙ ap (λ (j : ℕ). get_or list j r) place ∙ sym (get_or_read list k s within (sym at_k) r) in
          ap Some (ap (λ (q : Ranked). q.rank) element ∙ s_rank),
    )

    -- a position that is not where it would have to be is not there
    pub rank_missing : (place : ℕ) → IsPartitionPoint (λ (r : Ranked). comes_before r ≡ true) (λ (r : Ranked). comes_before r ≡ false) list place
        → ((r : Ranked) → place < length list → r ≡ get_or list place r → r.at.items ≢ at) → (n : ℕ) → (None ≡ Some n) ↔ HasRankedLine list at n
    rank_missing place cut other n = (
      λ same. cc,
      λ there.
          let (s, (k, within, at_k), line) = made_from line_of list (record { at = at; rank = n }) there in
          let s_at : s.at.items ≡ at = ap (λ (l : Line). l.at) line in
          let not_early : k < place → ⊥ = λ early.
          let before : comes_before s ≡ true = subst (λ (q : Ranked). comes_before q ≡ true) at_k (cut.0 k s (omega arith) early) in
          not_before_itself at (subst (λ (x : List ℕ). slice_cmp nat_cmp x at ≡ Less) s_at (is_less (slice_cmp nat_cmp s.at.items at) before)) in
          let not_there : k ≡ place → ⊥ = λ same.
          other s (omega arith) (sym at_k ∙ ap (λ (j : ℕ). get_or list j s) same) s_at in
          let late : place < k = omega arith in
          let earlier : slice_cmp nat_cmp (get_or list place s).at.items at ≡ Less =
          subst (λ (x : List ℕ). slice_cmp nat_cmp (get_or list place s).at.items x ≡ Less) (ap (λ (q : Ranked). q.at.items) at_k ∙ s_at)
          (before_later place k s late within) in
          let yes : comes_before (get_or list place s) ≡ true = less_is (slice_cmp nat_cmp (get_or list place s).at.items at) earlier in
          let no : comes_before (get_or list place s) ≡ false = cut.1 place s (omega arith) (omega arith) in
          absurd (cc),
    )

-- ---- tests of the rank that was found

module _ (Ranks : ℕ → Type 0) (rank : ℕ) where
  pub as_found : (found : ℕ) → ((n : ℕ) → (Some found ≡ Some n) ↔ Ranks n) → (nat_eq found rank ≡ true) ↔ Ranks rank
  as_found found tells = (
    λ is. (let same : found ≡ rank = eqb-true found rank is in (tells rank).0 (ap Some same)),
    λ ranks. (let same : found ≡ rank = let e = (tells rank).1 ranks in cc in grind arith),
  )

  pub as_missing : ((n : ℕ) → (None ≡ Some n) ↔ Ranks n) → (false ≡ true) ↔ Ranks rank
  as_missing tells = (λ is. cc, λ ranks. let e = (tells rank).1 ranks in cc)

  pub below_found : (found : ℕ) → ((n : ℕ) → (Some found ≡ Some n) ↔ Ranks n) → (nat_lt found rank ≡ true) ↔ ((m : ℕ) × Ranks m × (m < rank))
  below_found found tells = (
    λ is. (found, (tells found).0 refl, ltb-true found rank is),
    λ (m, ranks, lt). (let same : found ≡ m = let e = (tells m).1 ranks in cc in grind arith),
  )

  pub below_missing : ((n : ℕ) → (None ≡ Some n) ↔ Ranks n) → (false ≡ true) ↔ ((m : ℕ) × Ranks m × (m < rank))
  below_missing tells = (λ is. cc, λ (m, ranks, lt). let e = (tells m).1 ranks in cc)

  pub from_found : (found : ℕ) → (rank ≡ 0 → ⊥) → ((n : ℕ) → (Some found ≡ Some n) ↔ Ranks n)
      → (nat_le rank found ≡ true) ↔ ((rank ≡ 0) ⊎ ((m : ℕ) × Ranks m × (rank ≤ m)))
  from_found found some tells = (
    λ is. inr (found, (tells found).0 refl, (grind arith)),
    λ from. elim from [
      | inl none ↦ absurd (some none)
      | inr (m, ranks, le) ↦ (let same : found ≡ m = let e = (tells m).1 ranks in cc in grind arith)
    ],
  )

  pub from_missing : (rank ≡ 0 → ⊥) → ((n : ℕ) → (None ≡ Some n) ↔ Ranks n) → (false ≡ true) ↔ ((rank ≡ 0) ⊎ ((m : ℕ) × Ranks m × (rank ≤ m)))
  from_missing some tells = (
    λ is. cc,
    λ from. elim from [
      | inl none ↦ absurd (some none)
      | inr (m, ranks, le) ↦ (let e = (tells m).1 ranks in cc)
    ],
  )

-- ---- the order of bytes

pub less_told : (xs ys : List ℕ) (r : Bool) → r ≡ is_lt (slice_cmp nat_cmp xs ys) → (r ≡ true) ↔ (slice_cmp nat_cmp xs ys ≡ Less)
less_told xs ys r tells = (λ yes. is_less (slice_cmp nat_cmp xs ys) (sym tells ∙ yes), λ less. tells ∙ less_is (slice_cmp nat_cmp xs ys) less)

-- the last line of a list
last_line : (list : List Ranked) (last : Ranked) → 0 < length list → ((d : Ranked) → last ≡ get_or list (length list - 1) d)
    → (d : Line) → get_or (lines_in list) (length (lines_in list) - 1) d ≡ line_of last
last_line list last some is d =
    ap (λ (n : ℕ). get_or (lines_in list) (n - 1) d) (length-map list line_of) ∙ get_or-map line_of list (length list - 1) last d (omega arith)
    ∙ ap line_of (sym (is last))

-- one more position comes behind the last, or the list does not ascend with it
pub ascends_told : (list : List Ranked) (last next : Ranked) → 0 < length list → ((d : Ranked) → last ≡ get_or list (length list - 1) d)
    → Ascends (lines_in list) → (b : Bool) → (b ≡ true) ↔ (slice_cmp nat_cmp last.at.items next.at.items ≡ Less)
    → (b ≡ true) ↔ Ascends (lines_in list ++ line_of next ∷ [])
ascends_told list last next some is ascends b tells = (
  λ yes. more_ascends (lines_in list) (line_of next) ascends
      (λ d more. subst (λ (x : Line). ComesBefore x (line_of next)) (sym (last_line list last some is d)) (tells.0 yes)),
  λ all.
      let long = length-map list line_of in
      let final = last_ascends (lines_in list) (line_of next) all (line_of last) (omega arith) in
      tells.1 (subst (λ (x : Line). ComesBefore x (line_of next)) (last_line list last some is (line_of last)) final),
)
