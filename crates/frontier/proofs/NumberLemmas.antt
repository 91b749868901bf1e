-- What numbers the successors get.
use Rattle.std.proofs.Common.{◌≡◌, ◌∙◌, sym, ap, subst, ℕ, suc, ◌+◌, ◌≤◌, ◌<◌, ◌⊎◌, inl, inr, ⊎_elim, Bool, true, cond, max, Some, List, [], ◌∷◌, ◌++◌, length, refl, arith, slice_get}
use Rattle.std.specs.Prelude.{Contains}
use Rattle.std.specs.declared.cmp.Ordering.{Ordering}
use Rattle.std.specs.declared.cmp.Ordering.TheVariants.{Less, Equal}
use Rattle.std.specs.Cmp.{IsTotalOrder}
use Rattle.std.specs.List.Sorted.{IsStrictlySortedBy}
use Rattle.std.proofs.lemmas.Bool.{cases_eq}
use Rattle.std.proofs.lemmas.Cmp.{tied_itself}
use Rattle.std.proofs.lemmas.Option.{slice_get_within}
use Rattle.std.proofs.lemmas.List.{length_push}
use Rattle.std.proofs.lemmas.List.Elements.{All-contains}
use Rattle.std.proofs.lemmas.Map.Keys.{sorted_tail}
use Rattle.std.proofs.lemmas.Map.Views.{All-after_first}
use Rattle.retrograde.specs.Graph.{Graph}
use Rattle.retrograde.specs.Stored.{Stored}
use Rattle.retrograde.specs.Successors.{IsSuccessorList}
use Rattle.retrograde.specs.Changes.{with_position, with_edge}
use Rattle.retrograde.specs.lemmas.Expansion.{IsNoted, AreNoted}
use Rattle.retrograde.specs.Expands.{IsTooMany}
use Rattle.retrograde.proofs.Additions.{push_before, push_cases, is_first, is_later}
use Rattle.retrograde.proofs.ExpansionUnit.{finds}
use Rattle.frontier.specs.lemmas.GivenNumbers.{AreNumbersOf}

-- y has the number i, or the next one
abbrev pub IsNumberOf : {P : Type 0} → List P → ℕ → P → ℕ → Type 0
IsNumberOf known n y i = ((i < length known) × (slice_get known i ≡ Some y)) ⊎ ((i ≡ n) × ((j : ℕ) → slice_get known j ≡ Some y → ⊥))

-- the first number that is not given, after i
abbrev pub IsNextAfter : ℕ → ℕ → ℕ → Type 0
IsNextAfter n i n' = ((i < n) × (n' ≡ n)) ⊎ ((i ≡ n) × (n' ≡ suc n))

pub next_after : (n i m : ℕ) → i ≤ n → m ≡ max n (i + 1) → IsNextAfter n i m
next_after n i m within is =
    ⊎_elim
    (λ same. inr (same, let more : m ≡ suc n = omega (arith, is) in more))
    (λ other. let less : i < n = omega arith in inl (less, let more : m ≡ n = omega (arith, is) in more))
    (cases_eq i n)

-- what a push that did not fail leaves
pub pushed : {A : Type 0} (b : Bool) (xs ys zs : List A) → b ≡ true → ys ≡ cond b zs xs → ys ≡ zs
pushed b xs ys zs done is = is ∙ ap (λ (t : Bool). cond t zs xs) done

least_next : {P : Type 0} (known ys : List P) (numbers : List ℕ) (k n : ℕ) → AreNumbersOf known k ys numbers n → k ≤ n
least_next known [] [] k n same = omega arith
least_next known [] (i ∷ numbers) k n none = absurd none
least_next known (y ∷ ys) [] k n none = absurd none
least_next known (y ∷ ys) (i ∷ numbers) k n (inl (_, _, rest)) = least_next known ys numbers k n rest
least_next known (y ∷ ys) (i ∷ numbers) k n (inr (_, _, rest)) = let more : suc k ≤ n = least_next known ys numbers (suc k) n rest in omega arith

-- one more
pub numbers_push : {P : Type 0} (known ys : List P) (numbers : List ℕ) (k n : ℕ) (y : P) (i n' : ℕ) → length known ≤ k → AreNumbersOf known k ys numbers n
    → IsNumberOf known n y i → IsNextAfter n i n' → AreNumbersOf known k (ys ++ y ∷ []) (numbers ++ i ∷ []) n'
numbers_push known [] [] k n y i n' past same (inl (within, at)) (inl (_, next)) = inl (within, at, same ∙ sym next)
numbers_push known [] [] k n y i n' past same (inl (within, at)) (inr (is, next)) = absurd (omega arith)
numbers_push known [] [] k n y i n' past same (inr (is, new)) (inl (less, next)) = absurd (omega arith)
numbers_push known [] [] k n y i n' past same (inr (is, new)) (inr (_, next)) = inr (is ∙ sym same, new, ap (λ (m : ℕ). suc m) same ∙ sym next)
numbers_push known [] (j ∷ numbers) k n y i n' past none is next = absurd none
numbers_push known (z ∷ ys) [] k n y i n' past none is next = absurd none
numbers_push known (z ∷ ys) (j ∷ numbers) k n y i n' past (inl (within, at, rest)) is next = inl
    (within, at, numbers_push known ys numbers k n y i n' past rest is next)
numbers_push known (z ∷ ys) (j ∷ numbers) k n y i n' past (inr (same, new, rest)) is next =
    inr (same, new, numbers_push known ys numbers (suc k) n y i n' (omega arith) rest is next)

module _ {P : Type 0} (cmp : P → P → Ordering) (laws : IsTotalOrder cmp) (base : List P) (e : ℕ) where
  -- these are still to be noted, and have these numbers
  pub record IsReady (ys : List P) (numbers : List ℕ) (now : Stored P) : Type 0 where
    pub next : ℕ
    pub are : AreNumbersOf base (length now.positions) ys numbers next
    pub ascending : IsStrictlySortedBy cmp ys
    pub kept : (j : ℕ) (y : P) → slice_get base j ≡ Some y → slice_get now.positions j ≡ Some y
    pub found : (j : ℕ) (y : P) → slice_get now.positions j ≡ Some y → (slice_get base j ≡ Some y) ⊎ (Contains ys y → ⊥)

  pub ready_first : (ys : List P) (numbers : List ℕ) (n : ℕ) (now : Stored P) → now.positions ≡ base → IsStrictlySortedBy cmp ys
      → AreNumbersOf base (length base) ys numbers n → IsReady ys numbers now
  ready_first ys numbers n now same sorted are = record {
    next = n;
    are = subst (λ (ks : List P). AreNumbersOf base (length ks) ys numbers n) (sym same) are;
    ascending = sorted;
    kept = λ j y at. ap (λ (ks : List P). slice_get ks j) same ∙ at;
    found = λ j y at. inl (ap (λ (ks : List P). slice_get ks j) (sym same) ∙ at);
  }

  module _ (y : P) (ys : List P) (i : ℕ) (numbers : List ℕ) (now : Stored P) (ready : IsReady (y ∷ ys) (i ∷ numbers) now) where
    -- one that gets a number was not known
    pub still_unknown : length now.positions ≤ i → (j : ℕ) → slice_get now.positions j ≡ Some y → ⊥
    still_unknown past j at =
        ⊎_elim
        (λ (within, here, _). let inside : i < length now.positions = slice_get_within now.positions i y (ready.kept i y here) in absurd (omega arith))
        (λ (_, new, _). ⊎_elim (λ before. new j before) (λ other. other (is_first y ys)) (ready.found j y at))
        ready.are

    twice : Contains ys y → ⊥
    twice here =
        let less : cmp y y ≡ Less = All-contains (λ q. cmp y q ≡ Less) ys y (All-after_first cmp y ys ready.ascending) here in
        let tied : cmp y y ≡ Equal = tied_itself laws y in
        cc

    module _ (new : Stored P) (known : i < length now.positions → new ≡ with_edge now i e)
        (added : length now.positions ≤ i → new ≡ with_edge (with_position now y) (length now.positions) e) where
      -- one more is noted, and the others wait
      pub ready_next : IsNoted e y now new × IsReady ys numbers new
      ready_next = go ready.are
        where
          go : AreNumbersOf base (length now.positions) (y ∷ ys) (i ∷ numbers) ready.next → IsNoted e y now new × IsReady ys numbers new
          go (inl (within, at, rest)) =
              let here : slice_get now.positions i ≡ Some y = ready.kept i y at in
              let is : new ≡ with_edge now i e = known (slice_get_within now.positions i y here) in
              let waits : IsReady ys numbers (with_edge now i e) = record {
                next = ready.next;
                are = rest;
                ascending = sorted_tail cmp y ys ready.ascending;
                kept = ready.kept;
                found = λ j z z_at. ⊎_elim (λ before. inl before) (λ other. inr (λ later. other (is_later y z ys later))) (ready.found j z z_at);
              } in (inl (i, here, is), subst (λ (t : Stored P). IsReady ys numbers t) (sym is) waits)
          go (inr (same, fresh, rest)) =
              let past : length now.positions ≤ i = omega arith in
              let is : new ≡ with_edge (with_position now y) (length now.positions) e = added past in
              let longer : suc (length now.positions) ≡ length (now.positions ++ y ∷ []) = let p : length
              (now.positions ++ y ∷ []) ≡ length now.positions + 1 = length_push now.positions y in omega arith in
              let waits : IsReady ys numbers (with_edge (with_position now y) (length now.positions) e) = record {
                next = ready.next;
                are = subst (λ (k : ℕ). AreNumbersOf base k ys numbers ready.next) longer rest;
                ascending = sorted_tail cmp y ys ready.ascending;
                kept = λ j z at. push_before now.positions y j z (ready.kept j z at);
                found = λ j z at.
                    ⊎_elim
                    (λ before. ⊎_elim (λ first. inl first) (λ other. inr (λ later. other (is_later y z ys later))) (ready.found j z before))
                    (λ (_, is_y). inr (λ later. twice (subst (λ (u : P). Contains ys u) (sym is_y) later)))
                    (push_cases now.positions y j z at);
              } in (inr (still_unknown past, is), subst (λ (t : Stored P). IsReady ys numbers t) (sym is) waits)

  -- there is a table in which they are noted
  noted : (ys : List P) (numbers : List ℕ) (now : Stored P) (n : ℕ) → AreNumbersOf base (length now.positions) ys numbers n → IsReady ys numbers now
      → (new : Stored P) × AreNoted e ys now new × (length new.positions ≡ n)
  noted [] [] now n same ready = (now, refl, same)
  noted [] (i ∷ numbers) now n none ready = absurd none
  noted (y ∷ ys) [] now n none ready = absurd none
  noted (y ∷ ys) (i ∷ numbers) now n (inl (within, at, rest)) ready =
      let here : i < length now.positions = slice_get_within now.positions i y (ready.kept i y at) in
      let (first, ready') = ready_next y ys i numbers now ready (with_edge now i e) (λ _. refl) (λ past. absurd (omega arith)) in
      let (new, more, count) = noted ys numbers (with_edge now i e) n rest ready' in
      (new, (with_edge now i e, first, more), count)
  noted (y ∷ ys) (i ∷ numbers) now n (inr (same, fresh, rest)) ready =
      let step = with_edge (with_position now y) (length now.positions) e in
      let longer : suc (length now.positions) ≡ length (now.positions ++ y ∷ []) = let p : length
      (now.positions ++ y ∷ []) ≡ length now.positions + 1 = length_push now.positions y in omega arith in
      let (first, ready') = ready_next y ys i numbers now ready step (λ within. absurd (omega arith)) (λ _. refl) in
      let (new, more, count) = noted ys numbers step n (subst (λ (k : ℕ). AreNumbersOf base k ys numbers n) longer rest) ready' in
      (new, (step, first, more), count)

  -- how many would be known
  pub too_many : (graph : Graph P) (x : P) (ys : List P) (numbers : List ℕ) (n limit : ℕ) (now : Stored P) → now.positions ≡ base
      → IsSuccessorList cmp graph x ys
      → AreNumbersOf base (length base) ys numbers n → limit < n → IsTooMany cmp graph limit base x
  too_many graph x ys numbers n limit now same list are over =
      let are' = subst (λ (ks : List P). AreNumbersOf base (length ks) ys numbers n) (sym same) are in
      let (new, all, count) = noted ys numbers now n are' (ready_first ys numbers n now same list.ascending are) in
      let (found, it, more) = finds cmp laws e ys now new list.ascending all in
      let lengths : length (base ++ found) ≡ n = ap (λ (ks : List P). length (ks ++ found)) (sym same) ∙ (ap (λ (ks : List P). length ks) (sym more) ∙ count) in
      record {
        found = found;
        fresh = record {
          each = λ y. (
            (λ here. let (there, off) = (it.each y).0 here in ((list.each y).0 there, subst (λ (ks : List P). Contains ks y → ⊥) same off)),
            (λ (move, off). (it.each y).1 ((list.each y).1 move, subst (λ (ks : List P). Contains ks y → ⊥) (sym same) off)),
          );
          ascending = it.ascending;
        };
        over = omega arith;
      }
