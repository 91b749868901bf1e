-- Edges are counted one after another.
use Rattle.std.proofs.Common.{◌≡◌, ◌≢◌, ℕ, ◌+◌, ◌^◌, ◌≤◌, ◌<◌, ◌↔◌, inl, inr, List, [], ◌∷◌, ◌++◌, All, refl, sym, ◌∙◌, arith, length-append}
use Rattle.std.proofs.lemmas.List.Elements.{All-append, All-cons, All-nil, All-head, All-tail}
use Rattle.btree.specs.Page.{Item}
use Rattle.tree_table.specs.Entries.{edge_key}
use Rattle.tree_table.specs.lemmas.Numbers.{same_edge}
use Rattle.tree_file.specs.Counted.{IsEdgeBelow}
use Rattle.tree_file.specs.lemmas.One.{CountIs, EdgesAre}
use Rattle.tree_file.specs.lemmas.Told.{AreTallied, IsNoEdge, IsPastCount}

all_front : {X : Type 0} (P : X → Type 0) (xs ys : List X) → All P (xs ++ ys) → All P xs
all_front P [] ys all = All-nil P
all_front P (x ∷ xs) ys all = All-cons P x xs (All-head P x (xs ++ ys) all) (all_front P xs ys (All-tail P x (xs ++ ys) all))

pub all_back : {X : Type 0} (P : X → Type 0) (xs ys : List X) → All P (xs ++ ys) → All P ys
all_back P [] ys all = all
all_back P (x ∷ xs) ys all = all_back P xs ys (All-tail P x (xs ++ ys) all)

-- both ends of an edge are below a number
ends_below : (n to from : ℕ) (item : Item) → n < 2 ^ 32 → item.0 ≡ edge_key to from → to < 2 ^ 32 → from < 2 ^ 32 → IsEdgeBelow n item → (to < n) × (from < n)
ends_below n to from item small is to_fits from_fits between =
    let low : between.to < 2 ^ 32 = omega (arith, small, between.to_known) in
    let less : between.from < 2 ^ 32 = omega (arith, small, between.from_known) in
    let same = same_edge to from between.to between.from to_fits from_fits low less (sym is ∙ between.is) in
    (omega (arith, same.0, between.to_known), omega (arith, same.1, between.from_known))

pub tally_none : AreTallied 0 0 []
tally_none = record {
  many = refl;
  below = λ n small low. All-nil (IsEdgeBelow n);
  least = λ n small all. omega arith;
}

-- one edge more
pub tally_more : (count above mid now to from : ℕ) (es : List Item) (item : Item) → AreTallied count above es → item.0 ≡ edge_key to from → to < 2 ^ 32
    → from < 2 ^ 32
    → ((n : ℕ) → (mid ≤ n) ↔ ((above ≤ n) × (to < n))) → ((n : ℕ) → (now ≤ n) ↔ ((mid ≤ n) × (from < n))) → AreTallied (count + 1) now (es ++ item ∷ [])
tally_more count above mid now to from es item so_far is to_fits from_fits one two = record {
  many = omega (arith, so_far.many, length-append es (item ∷ []));
  below = λ n small low.
      let second = (two n).0 low in
      let first = (one n).0 second.0 in
      All-append (IsEdgeBelow n) es (item ∷ []) (so_far.below n small first.0)
      (All-cons (IsEdgeBelow n) item [] (record { to = to; from = from; is = is; to_known = first.1; from_known = second.1 }) (All-nil (IsEdgeBelow n)));
  least = λ n small all.
      let ends = ends_below n to from item small is to_fits from_fits (All-head (IsEdgeBelow n) item [] (all_back (IsEdgeBelow n) es (item ∷ []) all)) in
      (two n).1 ((one n).1 (so_far.least n small (all_front (IsEdgeBelow n) es (item ∷ []) all), ends.0), ends.1);
}

-- what was told is as it has to be
pub edges_are : (count above wanted known : ℕ) → known < 2 ^ 32 → count ≡ wanted → above ≤ known → (es : List Item) → AreTallied count above es
    → EdgesAre wanted known es
edges_are count above wanted known small same low es told = (told.many ∙ same, told.below known small low)

-- or it is not
pub too_high : (count above wanted known : ℕ) → known < 2 ^ 32 → known < above → (es : List Item) → AreTallied count above es → EdgesAre wanted known es → ⊥
too_high count above wanted known small high es told such = omega (arith, high, told.least known small such.1)

pub other_many : (count above wanted known : ℕ) → count ≢ wanted → (es : List Item) → AreTallied count above es → EdgesAre wanted known es → ⊥
other_many count above wanted known other es told such = other (sym told.many ∙ such.0)

-- this many entries are not past counting
pub not_past : (front back : List Item) (entry : Item) (wanted : ℕ) → wanted < 2 ^ 64 → IsPastCount front entry → CountIs wanted (front ++ entry ∷ back) → ⊥
not_past front back entry wanted small past such = omega (arith, small, past, such, length-append front (entry ∷ back))

-- and each of this many edges is one
pub not_refused : (front back : List Item) (entry : Item) (wanted known : ℕ) → wanted < 2 ^ 64 → IsNoEdge front entry
    → EdgesAre wanted known (front ++ entry ∷ back) → ⊥
not_refused front back entry wanted known small (inl past) such = not_past front back entry wanted small past such.0
not_refused front back entry wanted known small (inr none) such =
    none known (All-head (IsEdgeBelow known) entry back (all_back (IsEdgeBelow known) front (entry ∷ back) such.1))
