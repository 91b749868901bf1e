-- Units of work add up, and what is settled stays settled.
use Rattle.std.proofs.Common.{◌≡◌, ◌∙◌, sym, subst, ℕ, zero, suc, ◌+◌, ◌≤◌, ◌<◌, ◌⊎◌, inl, inr, ⊎_elim, Some, List, [], ◌∷◌, ◌++◌, length, refl, arith, slice_get, append_assoc}
use Rattle.std.proofs.lemmas.List.{append-nil}
use Rattle.std.proofs.lemmas.Option.{same_Some}
use Rattle.std.proofs.lemmas.Bool.{cases_lt}
use Rattle.std.specs.declared.cmp.Ordering.{Ordering}
use Rattle.rbg_game.specs.declared.roles.Player.{Player}
use Rattle.retrograde.specs.Graph.{Graph}
use Rattle.retrograde.specs.Values.{CanMoveTo, MustMoveTo, WonIn}
use Rattle.retrograde.specs.View.{View, HasNumber, IsExpanded, IsProcessed, HasValue}
use Rattle.retrograde.specs.Right.{IsRight, IsShown}
use Rattle.retrograde.specs.Units.{Grows, processed_in_view, UnitsOfWork}
use Rattle.retrograde.proofs.Finished.{element}

get_before : {A : Type 0} (xs ys : List A) (i : ℕ) (x : A) → slice_get xs i ≡ Some x → slice_get (xs ++ ys) i ≡ Some x
get_before [] ys i x e = cc
get_before (z ∷ xs) ys zero x e = e
get_before (z ∷ xs) ys (suc i) x e = get_before xs ys i x e

module _ {P : Type 0} (cmp : P → P → Ordering) (graph : Graph P) where
  grows_along : (k l e : ℕ) (a b c : List P) → Grows cmp graph k e a b → Grows cmp graph l (e + k) b c → Grows cmp graph (k + l) e a c
  grows_along zero l e a b c same next =
      let count : l ≡ 0 + l = omega arith in
      let place : e + 0 ≡ e = omega arith in
      subst (λ (n : ℕ). Grows cmp graph n e a c) count
      (subst (λ (p : ℕ). Grows cmp graph l p a c) place
      (subst (λ (ks : List P). Grows cmp graph l (e + 0) ks c) same next))
  grows_along (suc k) l e a b c (x, found, at, fresh, rest) next =
      let count : suc (k + l) ≡ suc k + l = omega arith in
      let place : e + suc k ≡ suc e + k = omega arith in
      let next' : Grows cmp graph l (suc e + k) b c = subst (λ (p : ℕ). Grows cmp graph l p b c) place next in
      subst (λ (n : ℕ). Grows cmp graph n e a c) count (x, found, at, fresh, grows_along k l (suc e) (a ++ found) b c rest next')

  -- what is known stays known, with its number
  pub grows_from : (k e : ℕ) (a b : List P) → Grows cmp graph k e a b → (rest : List P) × (b ≡ a ++ rest)
  grows_from zero e a b same = ([], same ∙ sym (append-nil a))
  grows_from (suc k) e a b (x, found, at, fresh, next) =
      let (rest, is) = grows_from k (suc e) (a ++ found) b next in
      (found ++ rest, is ∙ append_assoc a found rest)

  module _ (IsWide : P → Type 0) (limit : ℕ) where
    pub works_alone : (a : View P) → IsRight graph a → length a.known ≤ limit → UnitsOfWork cmp graph IsWide limit a 0 a
    works_alone a right room = record {
      before = right;
      right = right;
      room = room;
      more = 0;
      expanded = omega arith;
      grows = refl;
      narrow = λ i x number from to. absurd (omega arith);
      keeps = λ i is. is;
      units = omega arith;
    }

    number_after : (a b : View P) (u : ℕ) → UnitsOfWork cmp graph IsWide limit a u b → (i : ℕ) (x : P) → HasNumber a i x → HasNumber b i x
    number_after a b u works i x number =
        let (rest, is) = grows_from works.more a.expanded a.known b.known works.grows in
        subst (λ (ks : List P). slice_get ks i ≡ Some x) (sym is) (get_before a.known rest i x number)

    -- a number that was known keeps its position
    number_before : (a b : View P) (u : ℕ) → UnitsOfWork cmp graph IsWide limit a u b → (i : ℕ) (x : P) → i < length a.known → HasNumber b i x → HasNumber a i x
    number_before a b u works i x within number =
        let (y, at) = element a.known i within in
        let same : y ≡ x = same_Some y x (sym (number_after a b u works i y at) ∙ number) in
        subst (λ (z : P). HasNumber a i z) same at

    pub works_along : (a b c : View P) (m n : ℕ) → UnitsOfWork cmp graph IsWide limit a m b → UnitsOfWork cmp graph IsWide limit b n c
        → UnitsOfWork cmp graph IsWide limit a (m + n) c
    works_along a b c m n first second = record {
      before = first.before;
      right = second.right;
      room = second.room;
      more = first.more + second.more;
      expanded = let p : b.expanded ≡ a.expanded + first.more = first.expanded in
          let q : c.expanded ≡ b.expanded + second.more = second.expanded in omega arith;
      grows =
          grows_along first.more second.more a.expanded a.known b.known c.known first.grows
          (subst (λ (e : ℕ). Grows cmp graph second.more e b.known c.known) first.expanded second.grows);
      narrow = λ i x number from to.
          ⊎_elim
          (λ below.
          let fits : b.expanded ≤ length b.known = first.right.coherent.expanded in
          let within : i < length b.known = omega arith in
          first.narrow i x (number_before b c n second i x within number) from below)
          (λ above. second.narrow i x number above to)
          (cases_lt i b.expanded);
      keeps = λ i is. second.keeps i (first.keeps i is);
      units =
          let p : b.expanded + processed_in_view b ≡ a.expanded + processed_in_view a + m = first.units in
          let q : c.expanded + processed_in_view c ≡ b.expanded + processed_in_view b + n = second.units in
          omega arith;
    }

    -- what is settled stays settled so
    pub settled_stays : (a b : View P) (u : ℕ) → UnitsOfWork cmp graph IsWide limit a u b
        → (x : P) (w : Player) (n : ℕ) → HasValue a x w n → HasValue b x w n
    settled_stays a b u works x w n (i, number, is) =
        (works.right.values x w n (i, number_after a b u works i x number)).1
        (shown ((works.before.values x w n (i, number)).0 (i, number, is)))
      where
        processed : (y : P) → IsProcessed a y → IsProcessed b y
        processed y (j, at, done) = (j, number_after a b u works j y at, works.keeps j done)

        by : ((n ≡ 0) × IsExpanded a x)
            ⊎ (CanMoveTo graph w (λ y. IsProcessed a y × ((m : ℕ) × (n ≡ suc m) × WonIn graph w m y)) x
            ⊎ MustMoveTo graph w (IsProcessed a) x)
            → ((n ≡ 0) × IsExpanded b x)
            ⊎ (CanMoveTo graph w (λ y. IsProcessed b y × ((m : ℕ) × (n ≡ suc m) × WonIn graph w m y)) x
            ⊎ MustMoveTo graph w (IsProcessed b) x)
        by (inl (zero_is, (j, at, within))) =
            let more : b.expanded ≡ a.expanded + works.more = works.expanded in
            inl (zero_is, (j, number_after a b u works j x at, omega arith))
        by (inr (inl (turn, (y, move, (there, less))))) = inr (inl (turn, (y, move, (processed y there, less))))
        by (inr (inr (no_turn, has, each))) = inr (inr (no_turn, has, λ y move. processed y (each y move)))

        shown : IsShown graph a x w n → IsShown graph b x w n
        shown it = record { won = it.won; by = by it.by }
