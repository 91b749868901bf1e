-- A copy of each part of a table is that part.
use Rattle.std.proofs.Common.{◌≡◌, ◌∙◌, sym, ap, refl, ℕ, List, [], ◌∷◌}
use Rattle.std.specs.List.{AllZip}
use Rattle.arrayvec.specs.ArrayVec.{ArrayVec}
use Rattle.std.proofs.Common.{subst, Some, slice_get}
use Rattle.std.specs.BTreeMap.{is_at}
use Rattle.std.specs.HashMap.{HashMap, get}
use Rattle.std.specs.Map.{lookup}
use Rattle.std.specs.BTreeSet.{BTreeSet, contains}
use Rattle.std.specs.List.{list_any}
use Rattle.retrograde.specs.declared.records.Record.{Record}
use Rattle.retrograde.specs.Stored.{Stored}
use Rattle.table.specs.Memory.{bytes_of_each, position_eq, edge_cmp, AreNumbered}
use Rattle.table.proofs.NumberLemmas.{same_position}

-- lists whose items are the same in turn
pub zip_same : {A : Type 0} (R : A → A → Type 0) → ((x y : A) → R x y → y ≡ x) → (xs ys : List A) → AllZip R xs ys → ys ≡ xs
zip_same R same [] [] all = refl
zip_same R same [] (y ∷ ys) all = absurd all
zip_same R same (x ∷ xs) [] all = absurd all
zip_same R same (x ∷ xs) (y ∷ ys) (one, all) = λ i. same x y one i ∷ zip_same R same xs ys all i

-- a position
pub position_same : (R : ℕ → ℕ → Type 0) → ((x y : ℕ) → R x y → y ≡ x) → (x y : ArrayVec ℕ) → AllZip R x.items y.items → y ≡ x
position_same R same x y all = same_position y x (zip_same R same x.items y.items all)

-- a pair
pub pair_same : {A B : Type 0} (C : A → A → Type 0) (D : B → B → Type 0) → ((x y : A) → C x y → y ≡ x) → ((x y : B) → D x y → y ≡ x)
    → (p q : A × B) → C p.0 q.0 × D p.1 q.1 → q ≡ p
pair_same C D same other p q (one, two) = λ i. (same p.0 q.0 one i, other p.1 q.1 two i)

-- the same entries find the same numbers
pub found_same : {S : Type 0} (m n : HashMap (ArrayVec ℕ) ℕ S) → n.entries ≡ m.entries → (x : ArrayVec ℕ) → get position_eq n x ≡ get position_eq m x
found_same m n same x = ap (λ (es : List (ArrayVec ℕ × ℕ)). lookup (position_eq x) es) same

pub numbered_copy : {S : Type 0} (xs ys : List (ArrayVec ℕ)) (m n : HashMap (ArrayVec ℕ) ℕ S) → ys ≡ xs → n.entries ≡ m.entries
    → AreNumbered xs m → AreNumbered ys n
numbered_copy xs ys m n is same are = record {
  all = λ i x at. found_same m n same x ∙ are.all i x (subst (λ (zs : List (ArrayVec ℕ)). slice_get zs i ≡ Some x) is at);
  only = λ x i at. subst (λ (zs : List (ArrayVec ℕ)). slice_get zs i ≡ Some x) (sym is) (are.only x i (sym (found_same m n same x) ∙ at));
}

-- the same keys have the same edges
pub edges_same : (old new : BTreeSet (ℕ × ℕ)) → new.keys ≡ old.keys → (i p : ℕ) → contains edge_cmp new (i, p) ≡ contains edge_cmp old (i, p)
edges_same old new same i p = ap (λ (ks : List (ℕ × ℕ)). list_any (is_at (edge_cmp (i, p))) ks) same

pub stored_same : (xs ys : List (ArrayVec ℕ)) (records others : List Record) (old new : BTreeSet (ℕ × ℕ)) (order other : List ℕ)
    → ys ≡ xs → others ≡ records → new.keys ≡ old.keys → other ≡ order
    → ◌≡◌ {A = Stored (List ℕ)}
    (record { positions = bytes_of_each ys; records = others; has_edge = λ i p. contains edge_cmp new (i, p); order = other })
    (record { positions = bytes_of_each xs; records = records; has_edge = λ i p. contains edge_cmp old (i, p); order = order })
stored_same xs ys records others old new order other is kept same listed = λ k. record {
  positions = bytes_of_each (is k);
  records = kept k;
  has_edge = λ i p. edges_same old new same i p k;
  order = listed k;
}
