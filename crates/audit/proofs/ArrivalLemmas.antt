-- How many edges to a number are moves.
use Rattle.std.proofs.Common.{◌≡◌, ◌≢◌, ◌∙◌, sym, ap, subst, ℕ, zero, suc, ◌+◌, ◌-◌, ◌^◌, ◌<◌, ◌≤◌, min, ◌⊎◌, ⊎_elim, inl, inr, Bool, true, false, Some, List, length, get_or, refl, arith, add-one, slice_get, set, replicate}
use Rattle.std.specs.Prelude.{Contains, AllPairs}
use Rattle.std.proofs.lemmas.Bool.{cases_lt}
use Rattle.std.proofs.lemmas.Bool.Decides.{eqb_tells}
use Rattle.std.proofs.lemmas.List.{get_or-replicate, length-replicate}
use Rattle.std.proofs.lemmas.List.Elements.{All-contains}
use Rattle.std.proofs.lemmas.List.Sums.{count_by-le-length}
use Rattle.std.proofs.lemmas.Option.{same_Some, slice_get_within, get_or_from_slice_get, slice_get-get_or}
use Rattle.legal_moves.specs.Listed.{ListsExactly}
use Rattle.retrograde.specs.Graph.{Graph}
use Rattle.retrograde.specs.View.{HasNumber}
use Rattle.retrograde.specs.declared.records.Record.{Record}
use Rattle.retrograde.specs.Stored.{Stored, IsTable, view_of, is_expanded, expanded_count, count_below}
use Rattle.retrograde.specs.Audit.{EdgesAreMoves}
use Rattle.retrograde.proofs.CountLemmas.{true_or_false, counts_one, counts_none}
use Rattle.retrograde.proofs.Predecessors.{get_set_same, get_set_other}
use Rattle.audit.specs.lemmas.Edges.{LeadsFrom, IsMoveEdge, IsArriving, AreArrivals, CountsIf}
use Rattle.audit.proofs.Lists.{contains_at, at_contains}

-- a count is no greater than the one after it, nor than the numbers that are gone over
count_more : (a : ℕ → Bool) (n : ℕ) → count_below n a ≤ count_below (suc n) a
count_more a n =
    ⊎_elim (λ is. let e = counts_one a n is in omega (arith, e)) (λ is. let e = counts_none a n is in omega (arith, e)) (true_or_false (a n))

count_few : (a : ℕ → Bool) (n : ℕ) → count_below n a ≤ n
count_few a zero = omega arith
count_few a (suc n) =
    let few = count_few a n in
    ⊎_elim (λ is. let e = counts_one a n is in omega (arith, e, few)) (λ is. let e = counts_none a n is in omega (arith, e, few)) (true_or_false (a n))

-- what is expanded is known
pub expanded_known : {P : Type 0} (stored : Stored P) → IsTable stored → expanded_count stored ≤ length stored.positions
expanded_known stored table =
    let few : expanded_count stored ≤ length stored.records = count_by-le-length (λ (r : Record). is_expanded r.state) stored.records in
    omega (arith, few, table.records)

module _ {P : Type 0} (graph : Graph P) (stored : Stored P) (i : ℕ) (x : P) where
  -- there are no more of them than edges
  arriving_few : (p n : ℕ) → IsArriving graph stored i x p n → n ≤ count_below p (λ q. stored.has_edge i q)
  arriving_few zero n is = let e : n ≡ 0 = is in omega (arith, e)
  arriving_few (suc p) n (inl (m, (edge, _), rest, one)) =
      let few = arriving_few p m rest in
      let more = counts_one (λ q. stored.has_edge i q) p edge in
      omega (arith, few, more, one)
  arriving_few (suc p) n (inr (_, rest)) =
      let few = arriving_few p n rest in
      let more = count_more (λ q. stored.has_edge i q) p in
      omega (arith, few, more)

  pub arriving_below : (p n : ℕ) → IsArriving graph stored i x p n → n ≤ p
  arriving_below p n is =
      let few = arriving_few p n is in
      let all = count_few (λ q. stored.has_edge i q) p in
      omega (arith, few, all)

  -- where there are as many, each edge from below is a move
  all_moves : (p n : ℕ) → IsArriving graph stored i x p n → n ≡ count_below p (λ q. stored.has_edge i q) → (q : ℕ) → q < p → stored.has_edge i q ≡ true
      → LeadsFrom graph stored x q
  all_moves zero n is same q lt edge = absurd (omega arith)
  all_moves (suc p) n (inl (m, (here, leads), rest, one)) same q lt edge =
      let more = counts_one (λ r. stored.has_edge i r) p here in
      let same' : m ≡ count_below p (λ r. stored.has_edge i r) = omega (arith, more, one, same) in
      ⊎_elim
      (λ early. all_moves p m rest same' q early edge)
      (λ late. let e : p ≡ q = omega arith in subst (λ (k : ℕ). LeadsFrom graph stored x k) e leads)
      (cases_lt q p)
  all_moves (suc p) n (inr (none, rest)) same q lt edge =
      ⊎_elim
      (λ is_edge.
      let more = counts_one (λ r. stored.has_edge i r) p is_edge in
      let few = arriving_few p n rest in
      absurd (omega (arith, more, few, same)))
      (λ no_edge.
      let less = counts_none (λ r. stored.has_edge i r) p no_edge in
      let same' : n ≡ count_below p (λ r. stored.has_edge i r) = omega (arith, less, same) in
      ⊎_elim
      (λ early. all_moves p n rest same' q early edge)
      (λ late.
      let e : p ≡ q = omega arith in
      let is_edge : stored.has_edge i p ≡ true = ap (λ (k : ℕ). stored.has_edge i k) e ∙ edge in
      cc)
      (cases_lt q p))
      (true_or_false (stored.has_edge i p))

  -- where each edge from below is a move, there are as many
  as_many_moves : (p n : ℕ) → IsArriving graph stored i x p n → ((q : ℕ) → stored.has_edge i q ≡ true → LeadsFrom graph stored x q)
      → n ≡ count_below p (λ q. stored.has_edge i q)
  as_many_moves zero n is all = is
  as_many_moves (suc p) n (inl (m, (here, _), rest, one)) all =
      let before = as_many_moves p m rest all in
      let more = counts_one (λ q. stored.has_edge i q) p here in
      omega (arith, before, more, one)
  as_many_moves (suc p) n (inr (none, rest)) all =
      ⊎_elim
      (λ is_edge. absurd (none (is_edge, all p is_edge)))
      (λ no_edge.
      let before = as_many_moves p n rest all in
      let less = counts_none (λ q. stored.has_edge i q) p no_edge in
      omega (arith, before, less))
      (true_or_false (stored.has_edge i p))

  -- none comes from after the expanded ones
  arriving_past : (k e p n : ℕ) → e + k ≡ p → expanded_count stored ≤ e → IsArriving graph stored i x e n → IsArriving graph stored i x p n
  arriving_past zero e p n sum all is = let same : e ≡ p = omega arith in subst (λ (q : ℕ). IsArriving graph stored i x q n) same is
  arriving_past (suc k) e p n sum all is =
      let same : suc (e + k) ≡ p = omega arith in
      subst (λ (q : ℕ). IsArriving graph stored i x q n) same
      (inr ((λ (_, (_, _, within, _)). absurd (omega arith)), arriving_past k e (e + k) n refl all is))

  module _ (table : IsTable stored) (n : ℕ) (is : IsArriving graph stored i x (expanded_count stored) n) where
    arriving_in_all : IsArriving graph stored i x (length stored.positions) n
    arriving_in_all =
        let within = expanded_known stored table in
        arriving_past (length stored.positions - expanded_count stored) (expanded_count stored) (length stored.positions) n (omega arith) (omega arith) is

    -- where there are as many as edges, there is no other edge
    pub edges_are_moves : n ≡ count_below (length stored.positions) (λ q. stored.has_edge i q) → EdgesAreMoves graph stored i x
    edges_are_moves same q edge = all_moves (length stored.positions) n arriving_in_all same q (table.edges i q edge).1 edge

    pub as_many_edges : EdgesAreMoves graph stored i x → n ≡ count_below (length stored.positions) (λ q. stored.has_edge i q)
    as_many_edges moves = as_many_moves (length stored.positions) n arriving_in_all moves

-- a count that is written
counted_here : {Is : Type 0} (old new : List ℕ) (i count : ℕ) → Is → i < length old → count ≡ get_or old i count
    → new ≡ set old i (min (count + 1) (2 ^ 32 - 1)) → CountsIf Is old new i
counted_here old new i count is within read written =
    inl (
      is,
      λ n below at.
          let same : count ≡ n = read ∙ get_or_from_slice_get old i n count at in
          let most : min (count + 1) (2 ^ 32 - 1) ≡ suc n = omega (arith, same, below) in
          ap (λ (ns : List ℕ). slice_get ns i) written ∙ (get_set_same old i (min (count + 1) (2 ^ 32 - 1)) within ∙ ap (λ (m : ℕ). Some m) most),
    )

counted_elsewhere : {Is : Type 0} (old new : List ℕ) (i j count : ℕ) → (Is → ⊥) → (j ≡ i → ⊥) → new ≡ set old j count → CountsIf Is old new i
counted_elsewhere old new i j count not other written =
    inr (not, ap (λ (ns : List ℕ). slice_get ns i) written ∙ get_set_other old j i count other)

-- the same, said otherwise
counted_as : {A B : Type 0} (old new : List ℕ) (i : ℕ) → (A → B) → (B → A) → CountsIf A old new i → CountsIf B old new i
counted_as old new i to from (inl (is, more)) = inl (to is, more)
counted_as old new i to from (inr (not, same)) = inr ((λ b. not (from b)), same)

-- one count after the other, where one of them counts at most
counted_both : {A B C : Type 0} (old mid new : List ℕ) (i : ℕ) → (A → B → ⊥) → (A → C) → (B → C) → (C → A ⊎ B) → CountsIf A old mid i → CountsIf B mid new i
    → CountsIf C old new i
counted_both old mid new i apart left right split (inl (a, more)) (inl (b, _)) = absurd (apart a b)
counted_both old mid new i apart left right split (inl (a, more)) (inr (_, same)) = inl (left a, λ n below at. same ∙ more n below at)
counted_both old mid new i apart left right split (inr (_, same)) (inl (b, more)) = inl (right b, λ n below at. more n below (same ∙ at))
counted_both old mid new i apart left right split (inr (a, same)) (inr (b, same')) = inr ((λ both. ⊎_elim a b (split both)), same' ∙ same)

-- x is among the first k
abbrev pub IsBefore : {P : Type 0} → List P → ℕ → P → Type 0
IsBefore ys k x = (m : ℕ) × (m < k) × (slice_get ys m ≡ Some x)

module _ {P : Type 0} (ys : List P) (x : P) (Edge : Type 0) (old : List ℕ) (i : ℕ) where
  -- before the first
  pub counted_none : CountsIf (IsBefore ys 0 x × Edge) old old i
  counted_none = inr ((λ ((m, lt, _), _). absurd (omega arith)), refl)

  -- one more
  pub counted_next : (k : ℕ) (y : P) (mid new : List ℕ) → AllPairs ◌≢◌ ys → slice_get ys k ≡ Some y → CountsIf (IsBefore ys k x × Edge) old mid i
      → CountsIf ((x ≡ y) × Edge) mid new i → CountsIf (IsBefore ys (k + 1) x × Edge) old new i
  counted_next k y mid new differ at before now =
      counted_both old mid new i
      (λ ((m, lt, m_at), _) (is, _).
      differ m k x lt (slice_get_within ys k y at)
      (get_or_from_slice_get ys m x x m_at ∙ (is ∙ sym (get_or_from_slice_get ys k y x at))))
      (λ ((m, lt, m_at), edge). ((m, omega arith, m_at), edge))
      (λ (is, edge). ((k, omega arith, at ∙ ap (λ (z : P). Some z) (sym is)), edge))
      (λ ((m, lt, m_at), edge).
      ⊎_elim
      (λ early. inl ((m, early, m_at), edge))
      (λ late.
      let here : k ≡ m = omega arith in
      let same : slice_get ys k ≡ Some x = ap (λ (j : ℕ). slice_get ys j) here ∙ m_at in
      inr (same_Some x y (sym same ∙ at), edge))
      (cases_lt m k))
      before now

  -- all
  pub counted_all : (k : ℕ) (new : List ℕ) → length ys ≤ k → CountsIf (IsBefore ys k x × Edge) old new i → CountsIf (Contains ys x × Edge) old new i
  counted_all k new all =
      counted_as old new i
      (λ ((m, _, at), edge). (contains_at ys m x at, edge))
      (λ (there, edge). let (m, at) = at_contains ys x there in let within = slice_get_within ys m x at in ((m, omega (arith, within, all), at), edge))

module _ (graph : Graph (List ℕ)) (stored : Stored (List ℕ)) where
  -- a successor to which there is an edge is a move
  pub counted_moves : (i p : ℕ) (x z : List ℕ) (ys : List (List ℕ)) (old new : List ℕ) → HasNumber (view_of stored) p z → p < expanded_count stored
      → ListsExactly (graph.Successor z) ys → CountsIf (Contains ys x × (stored.has_edge i p ≡ true)) old new i
      → CountsIf (IsMoveEdge graph stored i x p) old new i
  counted_moves i p x z ys old new at within lists =
      counted_as old new i
      (λ (there, edge). (edge, (z, at, within, All-contains (graph.Successor z) ys x lists.only there)))
      (λ (edge, (u, u_at, _, move)). (lists.all x (subst (λ (v : List ℕ). graph.Successor v x) (same_Some u z (sym u_at ∙ at)) move), edge))

  -- one predecessor more
  pub arrivals_next : (p : ℕ) (old new : List ℕ) → suc p < 2 ^ 32 → AreArrivals graph stored p old
      → ((i : ℕ) (x : List ℕ) → HasNumber (view_of stored) i x → CountsIf (IsMoveEdge graph stored i x p) old new i) → AreArrivals graph stored (p + 1) new
  arrivals_next p old new below before now i x at =
      let (n, n_at, is) = before i x at in
      let few = arriving_below graph stored i x p n is in
      rw add-one
      (⊎_elim
      (λ (move, more). (suc n, more n (omega (arith, few, below)) n_at, inl (n, move, is, refl)))
      (λ (none, same). (n, same ∙ n_at, inr (none, is)))
      (now i x at))

module _ {P : Type 0} (stored : Stored P) (i p : ℕ) (x y : P) (at : HasNumber (view_of stored) i x) where
  -- a position that is not known is that of no number
  pub unknown_counted : (old : List ℕ) → ((j : ℕ) → slice_get stored.positions j ≡ Some y → ⊥) → CountsIf ((x ≡ y) × (stored.has_edge i p ≡ true)) old old i
  unknown_counted old none = inr ((λ (is, _). none i (at ∙ ap (λ (z : P). Some z) is)), refl)

  module _ (table : IsTable stored) (j : ℕ) (y_at : slice_get stored.positions j ≡ Some y) where
    same_number : x ≡ y → j ≡ i
    same_number is = table.distinct j i y y_at (at ∙ ap (λ (z : P). Some z) is)

    -- without an edge nothing is counted
    pub none_counted : (old : List ℕ) → stored.has_edge j p ≡ false → CountsIf ((x ≡ y) × (stored.has_edge i p ≡ true)) old old i
    none_counted old no_edge =
        inr ((λ (is, edge). let e : stored.has_edge j p ≡ true = ap (λ (k : ℕ). stored.has_edge k p) (same_number is) ∙ edge in cc), refl)

    -- with an edge one more is
    pub one_counted : (old new : List ℕ) (count : ℕ) → stored.has_edge j p ≡ true → j < length old → count ≡ get_or old j count
        → new ≡ set old j (min (count + 1) (2 ^ 32 - 1)) → CountsIf ((x ≡ y) × (stored.has_edge i p ≡ true)) old new i
    one_counted old new count edge within read written =
        ⊎_elim
        (λ (_, same).
        let is : x ≡ y = same_Some x y (sym at ∙ (ap (λ (k : ℕ). slice_get stored.positions k) (sym same) ∙ y_at)) in
        let edge' : stored.has_edge i p ≡ true = ap (λ (k : ℕ). stored.has_edge k p) (sym same) ∙ edge in
        subst (λ (k : ℕ). CountsIf ((x ≡ y) × (stored.has_edge i p ≡ true)) old new k) same (counted_here old new j count (is, edge') within read written))
        (λ (_, other). counted_elsewhere old new i j (min (count + 1) (2 ^ 32 - 1)) (λ (is, _). other (same_number is)) other written)
        (eqb_tells j i)

module _ {P : Type 0} (graph : Graph P) (stored : Stored P) (arrivals : List ℕ) where
  -- what was counted of a number
  pub arriving_at : AreArrivals graph stored (expanded_count stored) arrivals → (i : ℕ) (x : P) → HasNumber (view_of stored) i x
      → IsArriving graph stored i x (expanded_count stored) (get_or arrivals i 0)
  arriving_at are i x at =
      let (n, n_at, is) = are i x at in
      subst (λ (m : ℕ). IsArriving graph stored i x (expanded_count stored) m) (sym (get_or_from_slice_get arrivals i n 0 n_at)) is

  -- before the first
  pub no_arrivals : (size : ℕ) → size ≡ length stored.positions → arrivals ≡ replicate size 0 → AreArrivals graph stored 0 arrivals
  no_arrivals size known zeros i x at =
      let within = slice_get_within stored.positions i x at in
      let below : i < size = omega (arith, known, within) in
      let long : i < length (replicate size 0) = let e = length-replicate {A = ℕ} size 0 in omega (arith, e, below) in (
        0,
        ap (λ (ns : List ℕ). slice_get ns i) zeros
            ∙ (slice_get-get_or (replicate size 0) i 0 long ∙ ap (λ (n : ℕ). Some n) (get_or-replicate size i 0 0 below)),
        refl,
      )
