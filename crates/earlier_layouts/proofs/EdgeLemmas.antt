-- What reading and writing an edge adds.
use Rattle.std.proofs.Common.{◌≡◌, ◌∙◌, sym, ap, subst, refl, ℕ, ◌+◌, ◌<◌, ◌↔◌, ◌⊎◌, inl, inr, ⊎_elim, Bool, true, false, ◌&&◌, ◌||◌, ◌==◌, Option, None, Some, List, [], ◌∷◌, ◌++◌, length, Contains, arith, length-append}
use Rattle.std.specs.Cmp.{ranks}
use Rattle.std.specs.Ordering.{nat_cmp, ordering_then, MatchOrdering}
use Rattle.std.specs.List.{AllByRecursion}
use Rattle.std.specs.List.Sorted.{IsStrictlySortedBy}
use Rattle.std.specs.declared.cmp.Ordering.{Ordering}
use Rattle.std.specs.declared.cmp.Ordering.TheVariants.{Less, Equal, Greater}
use Rattle.std.proofs.lemmas.Bool.{eq-eqb}
use Rattle.retrograde.specs.Stored.{Stored}
use Rattle.retrograde.specs.Changes.{with_edge}
use Rattle.retrograde.proofs.Additions.{is_first, is_later, first_or_later, none_in_empty, edge_cases, edge_kept}
use Rattle.table.specs.Memory.{edge_cmp}
use Rattle.game_file.specs.Bytes.{IsEdge}
use Rattle.earlier_layouts.specs.Spelled.{AreSpelled}
use Rattle.earlier_layouts.specs.lemmas.Items.{spelled_more, spelled_next}
use Rattle.earlier_layouts.specs.lemmas.ImageParts.{fixed_edges}
use Rattle.earlier_layouts.specs.lemmas.ImageReads.{ChangesEdges, IsPast}

-- the order of edges by their numbers
abbrev pub ComesFirst : ℕ × ℕ → ℕ × ℕ → Type 0
ComesFirst x y = (x.0 < y.0) ⊎ ((x.0 ≡ y.0) × (x.1 < y.1))

from_less : (o p : Ordering) (a b c d : ℕ) → MatchOrdering o (a < c) (a ≡ c) (c < a) → MatchOrdering p (b < d) (b ≡ d) (d < b)
    → ordering_then o p ≡ Less → (a < c) ⊎ ((a ≡ c) × (b < d))
from_less Less p a b c d h k is = inl h
from_less Equal Less a b c d h k is = inr (h, k)
from_less Equal Equal a b c d h k is = absurd (cc)
from_less Equal Greater a b c d h k is = absurd (cc)
from_less Greater p a b c d h k is = absurd (cc)

to_less : (o p : Ordering) (a b c d : ℕ) → MatchOrdering o (a < c) (a ≡ c) (c < a) → MatchOrdering p (b < d) (b ≡ d) (d < b)
    → (a < c) ⊎ ((a ≡ c) × (b < d)) → ordering_then o p ≡ Less
to_less Less p a b c d h k is = refl
to_less Equal Less a b c d h k is = refl
to_less Equal Equal a b c d h k (inl is) = absurd (omega arith)
to_less Equal Equal a b c d h k (inr is) = absurd (omega (arith, is.1))
to_less Equal Greater a b c d h k (inl is) = absurd (omega arith)
to_less Equal Greater a b c d h k (inr is) = absurd (omega (arith, is.1))
to_less Greater p a b c d h k (inl is) = absurd (omega arith)
to_less Greater p a b c d h k (inr is) = absurd (omega (arith, is.0))

pub comes_first : (x y : ℕ × ℕ) → edge_cmp x y ≡ Less → ComesFirst x y
comes_first x y is = from_less (nat_cmp x.0 y.0) (nat_cmp x.1 y.1) x.0 x.1 y.0 y.1 (ranks x.0 y.0) (ranks x.1 y.1) is

pub is_less : (x y : ℕ × ℕ) → ComesFirst x y → edge_cmp x y ≡ Less
is_less x y is = to_less (nat_cmp x.0 y.0) (nat_cmp x.1 y.1) x.0 x.1 y.0 y.1 (ranks x.0 y.0) (ranks x.1 y.1) is

first_then : (x y z : ℕ × ℕ) → ComesFirst x y → ComesFirst y z → ComesFirst x z
first_then x y z (inl a) (inl b) = inl (omega arith)
first_then x y z (inl a) (inr b) = inl (omega (arith, b.0))
first_then x y z (inr a) (inl b) = inl (omega (arith, a.0))
first_then x y z (inr a) (inr b) = inr (a.0 ∙ b.0, omega (arith, a.1, b.1))

less_then : (x y z : ℕ × ℕ) → edge_cmp x y ≡ Less → edge_cmp y z ≡ Less → edge_cmp x z ≡ Less
less_then x y z a b = is_less x z (first_then x y z (comes_first x y a) (comes_first y z b))

-- lists with one more at the end
all_push : {A : Type 0} (P : A → Type 0) (xs : List A) (y : A) → AllByRecursion P xs → P y → AllByRecursion P (xs ++ y ∷ [])
all_push P [] y all here = (here, tt)
all_push P (x ∷ xs) y (first, all) here = (first, all_push P xs y all here)

all_seam : {A : Type 0} (P : A → Type 0) (xs : List A) (y : A) (ys : List A) → AllByRecursion P (xs ++ y ∷ ys) → P y
all_seam P [] y ys (here, all) = here
all_seam P (x ∷ xs) y ys (first, all) = all_seam P xs y ys all

all_map : {A : Type 0} (P Q : A → Type 0) (xs : List A) → ((x : A) → P x → Q x) → AllByRecursion P xs → AllByRecursion Q xs
all_map P Q [] each all = tt
all_map P Q (x ∷ xs) each (first, all) = (each x first, all_map P Q xs each all)

pub all_contained : {A : Type 0} (P : A → Type 0) (xs : List A) → ((x : A) → Contains xs x → P x) → AllByRecursion P xs
all_contained P [] each = tt
all_contained P (x ∷ xs) each = (each x (is_first x xs), all_contained P xs (λ y there. each y (is_later x y xs there)))

pub sorted_push : {A : Type 0} (c : A → A → Ordering) (xs : List A) (y : A) → IsStrictlySortedBy c xs
    → AllByRecursion (λ x. c x y ≡ Less) xs → IsStrictlySortedBy c (xs ++ y ∷ [])
unfolding IsStrictlySortedBy
sorted_push c [] y sorted all = (tt, tt)
sorted_push c (x ∷ xs) y (first, sorted) (here, all) = (all_push (λ z. c x z ≡ Less) xs y first here, sorted_push c xs y sorted all)

sorted_seam : {A : Type 0} (c : A → A → Ordering) (xs : List A) (y : A) (ys : List A) → IsStrictlySortedBy c (xs ++ y ∷ ys)
    → AllByRecursion (λ x. c x y ≡ Less) xs
unfolding IsStrictlySortedBy
sorted_seam c [] y ys sorted = tt
sorted_seam c (x ∷ xs) y ys (first, sorted) = (all_seam (λ z. c x z ≡ Less) xs y ys first, sorted_seam c xs y ys sorted)

pub in_front : {A : Type 0} (xs ys : List A) (z : A) → Contains xs z → Contains (xs ++ ys) z
in_front [] ys z there = absurd (none_in_empty z there)
in_front (x ∷ xs) ys z there =
    ⊎_elim
    (λ same. subst (λ w. Contains (x ∷ (xs ++ ys)) w) same (is_first x (xs ++ ys)))
    (λ later. is_later x z (xs ++ ys) (in_front xs ys z later))
    (first_or_later x z xs there)

pub front_or_last : {A : Type 0} (xs : List A) (y z : A) → Contains (xs ++ y ∷ []) z → Contains xs z ⊎ (y ≡ z)
front_or_last [] y z there = ⊎_elim (λ same. inr same) (λ none. absurd (none_in_empty z none)) (first_or_later y z [] there)
front_or_last (x ∷ xs) y z there =
    ⊎_elim
    (λ same. inl (subst (λ w. Contains (x ∷ xs) w) same (is_first x xs)))
    (λ later. ⊎_elim (λ front. inl (is_later x z xs front)) (λ last. inr last) (front_or_last xs y z later))
    (first_or_later x z (xs ++ y ∷ []) there)

pub at_seam : {A : Type 0} (xs : List A) (y : A) (ys : List A) → Contains (xs ++ y ∷ ys) y
at_seam [] y ys = is_first y ys
at_seam (x ∷ xs) y ys = is_later x y (xs ++ y ∷ ys) (at_seam xs y ys)

-- the edges that were read so far, of which `before` is the last
pub record EdgesSoFar (bytes : List ℕ) (count : ℕ) (before : Option (ℕ × ℕ)) (stored : Stored (List ℕ)) : Type 0 where
  pub edges : List (ℕ × ℕ)
  pub spelled : AreSpelled IsEdge bytes edges
  pub counted : length edges ≡ count
  pub ascending : IsStrictlySortedBy edge_cmp edges
  pub exactly : (i p : ℕ) → Contains edges (i, p) ↔ (stored.has_edge i p ≡ true)
  pub past : (e : ℕ × ℕ) → IsPast before e ↔ AllByRecursion (λ x. edge_cmp x e ≡ Less) edges

pub none_so_far : (stored : Stored (List ℕ)) → ((i p : ℕ) → stored.has_edge i p ≡ true → ⊥) → EdgesSoFar [] 0 None stored
unfolding IsStrictlySortedBy
none_so_far stored none = record {
  edges = [];
  spelled = refl;
  counted = refl;
  ascending = tt;
  exactly = λ i p. (λ there. absurd (none_in_empty (i, p) there), λ there. absurd (none i p there));
  past = λ e. (λ is. tt, λ is. tt);
}

here_added : (b : Bool) (i p : ℕ) → (b || (i == i && p == p)) ≡ true
here_added b i p = rw (eq-eqb i i refl, eq-eqb p p refl) (go b)
  where
    go : (c : Bool) → (c || true) ≡ true
    go true = refl
    go false = refl

pub one_more_edge : (bytes one : List ℕ) (count : ℕ) (before : Option (ℕ × ℕ)) (edge : ℕ × ℕ) (old new : Stored (List ℕ)) → EdgesSoFar bytes count before old
    → IsEdge one edge → IsPast before edge → new ≡ with_edge old edge.0 edge.1 → EdgesSoFar (bytes ++ one) (count + 1) (Some edge) new
one_more_edge bytes one count before (i, p) old new so_far of past added =
    let each : AllByRecursion (λ x. edge_cmp x (i, p) ≡ Less) so_far.edges = (so_far.past (i, p)).0 past in
    record {
      edges = so_far.edges ++ (i, p) ∷ [];
      spelled = spelled_more IsEdge bytes so_far.edges one (i, p) so_far.spelled of;
      counted = omega (arith, length-append so_far.edges ((i, p) ∷ []), so_far.counted);
      ascending = sorted_push edge_cmp so_far.edges (i, p) so_far.ascending each;
      exactly = λ j q. (to j q, from j q);
      past = λ e. (
        λ less. all_push (λ x. edge_cmp x e ≡ Less) so_far.edges (i, p)
            (all_map (λ x. edge_cmp x (i, p) ≡ Less) (λ x. edge_cmp x e ≡ Less) so_far.edges (λ x first. less_then x (i, p) e first less) each) less,
        λ all. all_seam (λ x. edge_cmp x e ≡ Less) so_far.edges (i, p) [] all,
      );
    }
  where
    edges_are : (j q : ℕ) → new.has_edge j q ≡ (old.has_edge j q || (j == i && q == p))
    edges_are j q = ap (λ (s : Stored (List ℕ)). s.has_edge j q) added

    to : (j q : ℕ) → Contains (so_far.edges ++ (i, p) ∷ []) (j, q) → new.has_edge j q ≡ true
    to j q there =
        ⊎_elim
        (λ front. edges_are j q ∙ edge_kept (old.has_edge j q) (j == i && q == p) ((so_far.exactly j q).0 front))
        (λ last.
        let at : new.has_edge i p ≡ true = edges_are i p ∙ here_added (old.has_edge i p) i p in
        subst (λ (e : ℕ × ℕ). new.has_edge e.0 e.1 ≡ true) last at)
        (front_or_last so_far.edges (i, p) (j, q) there)

    from : (j q : ℕ) → new.has_edge j q ≡ true → Contains (so_far.edges ++ (i, p) ∷ []) (j, q)
    from j q there =
        ⊎_elim
        (λ before. in_front so_far.edges ((i, p) ∷ []) (j, q) ((so_far.exactly j q).1 before))
        (λ same. subst (λ (e : ℕ × ℕ). Contains (so_far.edges ++ (i, p) ∷ []) e) (λ k. (sym same.0 k, sym same.1 k)) (at_seam so_far.edges (i, p) []))
        (edge_cases (old.has_edge j q) j i q p (sym (edges_are j q) ∙ there))

-- nothing else is changed
pub edge_changes : (first old new : Stored (List ℕ)) (edge : ℕ × ℕ) → ChangesEdges first old → new ≡ with_edge old edge.0 edge.1 → ChangesEdges first new
edge_changes first old new edge kept added = record {
  positions = ap (λ (s : Stored (List ℕ)). s.positions) added ∙ kept.positions;
  records = ap (λ (s : Stored (List ℕ)). s.records) added ∙ kept.records;
  order = ap (λ (s : Stored (List ℕ)). s.order) added ∙ kept.order;
}

-- an edge that is refused stands in no table
pub edge_refused : (bytes one more : List ℕ) (count known : ℕ) (before : Option (ℕ × ℕ)) (stored : Stored (List ℕ)) (all : List (ℕ × ℕ))
    → EdgesSoFar bytes count before stored
    → AreSpelled IsEdge (bytes ++ (one ++ more)) all → count < length all → length one ≡ 8 → IsStrictlySortedBy edge_cmp all
    → ((i p : ℕ) → Contains all (i, p) → (i < known) × (p < known))
    → ((e : ℕ × ℕ) → IsEdge one e → IsPast before e → e.0 < known → e.1 < known → ⊥) → ⊥
edge_refused bytes one more count known before stored all so_far spelled less long sorted within refused =
    go (spelled_next IsEdge 8 fixed_edges bytes one more so_far.edges all so_far.spelled spelled (omega (arith, less, so_far.counted)) long)
  where
    go : ((z : ℕ × ℕ) × (ys : List (ℕ × ℕ)) × (all ≡ so_far.edges ++ z ∷ ys) × IsEdge one z) → ⊥
    go (z, ys, is, of) =
        let past : IsPast before z = (so_far.past z).1
        (sorted_seam edge_cmp so_far.edges z ys (subst (λ (es : List (ℕ × ℕ)). IsStrictlySortedBy edge_cmp es) is sorted)) in
        let there : Contains all (z.0, z.1) = subst (λ (es : List (ℕ × ℕ)). Contains es z) (sym is) (at_seam so_far.edges z ys) in
        let (first, second) = within z.0 z.1 there in
        refused z of past first second
