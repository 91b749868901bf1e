-- A search that only looks, by its marks and as configurations.
use Rattle.std.proofs.Common.{◌≡◌, ℕ, zero, suc, ◌+◌, ◌*◌, ◌<◌, ◌⊎◌, ◌==◌, ◌||◌, inl, inr, false, List, [], ◌∷◌, ◌++◌, length, map, replicate, Some, slice_get, refl, sym, ap, ◌∙◌, subst, arith}
use Rattle.std.proofs.Math.Nat.{suc-mul}
use Rattle.std.proofs.lemmas.Bool.{cases_lt}
use Rattle.std.proofs.lemmas.List.{get_or-replicate, get_or_past, length-replicate, length-map}
use Rattle.rbg_game.specs.declared.position.SemiState.{SemiState}
use Rattle.std.specs.List.{list_any}
use Rattle.rbg_game.specs.Rules.{Regex}
use Rattle.rbg_game.specs.Games.{Game}
use Rattle.rbg_game.specs.Positions.{IsStateOf}
use Rattle.legal_moves.specs.lemmas.Marks.{IsMarkSet}
use Rattle.legal_moves.specs.Searches.{place_at}
use Rattle.legal_moves.specs.lemmas.Configurations.{opening, OccurrenceLeads, IsFollowed}
use Rattle.legal_moves.specs.declared.effect.Glance.TheVariants.{At}
use Rattle.legal_moves.specs.lemmas.VertexSearch.{at_vertex, TellsAt, looked, seen_from, mark_of, AreMarked, IsNewLook, IsLookAdded}
use Rattle.legal_moves.specs.lemmas.Progress.{IsGoing, IsTaken}
use Rattle.legal_moves.specs.Configurations.{Configuration}
use Rattle.legal_moves.specs.declared.search.looks.Look.{Look}
use Rattle.legal_moves.specs.declared.search.looks.Looks.{Looks}
use Rattle.legal_moves.proofs.GetLemmas.{slice_get-append, slice_get-push, slice_get-end}
use Rattle.legal_moves.proofs.searches.WidthLemmas.{map_at}
use Rattle.legal_moves.proofs.searches.FoundLemmas.{AreFound-begun}

-- ---- marks

-- a row of which nothing is marked
pub none_marked : (n j : ℕ) → ¬ IsMarkSet (replicate n false) j
none_marked n j set = elim (cases_lt j n) [
  | inl less ↦ let is = get_or-replicate n j false false less in cc
  | inr past ↦ let is = get_or_past (replicate n false) j false (omega (arith, length-replicate n false, past)) in cc
]

-- a mark tells vertex and number
pub mark_tells : (n v k w l : ℕ) → k < n → l < n → v * n + k ≡ w * n + l → (v ≡ w) × (k ≡ l)
mark_tells n zero k zero l below under same = (refl, omega (arith, same))
mark_tells n zero k (suc w) l below under same = absurd (let e = suc-mul w n in omega (arith, e, same, below))
mark_tells n (suc v) k zero l below under same = absurd (let e = suc-mul v n in omega (arith, e, same, under))
mark_tells n (suc v) k (suc w) l below under same =
    let e = suc-mul v n in
    let f = suc-mul w n in
    let r = mark_tells n v k w l below under (omega (arith, e, f, same)) in
    (ap suc r.0, r.1)

module _ (numbers : ℕ) (old : Looks) (l : Look) (marked : AreMarked numbers old) (within : l.place < numbers) where
  -- one that is marked was come to
  pub there : IsMarkSet old.marks.items (mark_of numbers l) → IsLookAdded old.looks.items l old.looks.items
  there set =
      let h = marked.only (mark_of numbers l) set in
      let same = mark_tells numbers h.1.vertex h.1.place l.vertex l.place (marked.within h.0 h.1 h.2) within h.3 in
      inl (refl, h.0, h.1, h.2, same.0, same.1)

  -- one that is not marked is new
  pub new_look : ¬ IsMarkSet old.marks.items (mark_of numbers l) → IsNewLook old.looks.items l
  new_look unset i k at same =
      let e : mark_of numbers k ≡ mark_of numbers l = rw (same.0, same.1) refl in
      unset (subst (IsMarkSet old.marks.items) e (marked.all i k at))

  -- once it is added and marked
  pub marked_more : (new : Looks) → new.looks.items ≡ old.looks.items ++ l ∷ [] → new.numbers ≡ numbers
      → ((j : ℕ) → (IsMarkSet new.marks.items j → IsMarkSet old.marks.items j ⊎ (j ≡ mark_of numbers l))
      × (IsMarkSet old.marks.items j ⊎ (j ≡ mark_of numbers l) → IsMarkSet new.marks.items j))
      → AreMarked numbers new
  marked_more new more same marks = record {
    numbers_are = same;
    within = λ i k at. low i k (pushed i k at);
    all = λ i k at. set i k (pushed i k at);
    only = λ j h. found j ((marks j).0 h);
  }
    where
      pushed : (i : ℕ) (k : Look) → slice_get new.looks.items i ≡ Some k → (slice_get old.looks.items i ≡ Some k) ⊎ (i ≡ length old.looks.items) × (k ≡ l)
      pushed i k at = slice_get-push old.looks.items l i k (subst (λ xs. slice_get xs i ≡ Some k) more at)

      low : (i : ℕ) (k : Look) → (slice_get old.looks.items i ≡ Some k) ⊎ (i ≡ length old.looks.items) × (k ≡ l) → k.place < numbers
      low i k (inl at) = marked.within i k at
      low i k (inr at) = subst (λ x. x.place < numbers) (sym at.1) within

      set : (i : ℕ) (k : Look) → (slice_get old.looks.items i ≡ Some k) ⊎ (i ≡ length old.looks.items) × (k ≡ l) → IsMarkSet new.marks.items (mark_of numbers k)
      set i k (inl at) = (marks (mark_of numbers k)).1 (inl (marked.all i k at))
      set i k (inr at) = (marks (mark_of numbers k)).1 (inr (ap (mark_of numbers) at.1))

      found : (j : ℕ) → IsMarkSet old.marks.items j ⊎ (j ≡ mark_of numbers l) → (i : ℕ) × (k : Look)
          × (slice_get new.looks.items i ≡ Some k) × (mark_of numbers k ≡ j)
      found j (inl h) =
          let f = marked.only j h in
          (f.0, f.1, subst (λ xs. slice_get xs f.0 ≡ Some f.1) (sym more) (slice_get-append old.looks.items (l ∷ []) f.0 f.1 f.2), f.3)
      found j (inr h) = (
        length old.looks.items,
        l,
        subst (λ xs. slice_get xs (length old.looks.items) ≡ Some l) (sym more)
            (slice_get-end old.looks.items l),
        sym h,
      )

-- ---- as configurations

-- a configuration is that of the look at its index
pub look_at : (S : SemiState) (ls : List Look) (i : ℕ) (c : Configuration) → slice_get (seen_from S ls) i ≡ Some c → (l : Look)
    × (slice_get ls i ≡ Some l) × (c ≡ looked S l)
look_at S [] i c h = absurd (cc)
look_at S (l ∷ ls) zero c h = (l, refl, cc)
look_at S (l ∷ ls) (suc i) c h = look_at S ls i c h

pub seen_at : (S : SemiState) (ls : List Look) (i : ℕ) (l : Look) → slice_get ls i ≡ Some l → slice_get (seen_from S ls) i ≡ Some (looked S l)
seen_at S ls i l at = map_at (looked S) ls i l at

map_push : {A B : Type 0} (f : A → B) (xs : List A) (x : A) → map f (xs ++ x ∷ []) ≡ map f xs ++ f x ∷ []
map_push f [] x = refl
map_push f (y ∷ xs) x = ap (λ ys. f y ∷ ys) (map_push f xs x)

pub new_position : (S : SemiState) (ls : List Look) (l : Look) → IsNewLook ls l → (i : ℕ) (d : Configuration)
    → slice_get (seen_from S ls) i ≡ Some d → ¬ (d.at ≡ (looked S l).at)
new_position S ls l new i d at same =
    let k = look_at S ls i d at in
    let is : (looked S k.0).at ≡ (looked S l).at = sym (ap (λ x. x.at) k.2) ∙ same in
    new i k.0 k.1 (ap (λ x. x.state.vertex) is, ap (λ x. x.place) is)

-- a look that was added is a configuration that was taken
pub taken_look : (S : SemiState) (ls ls' : List Look) (l : Look) → IsLookAdded ls l ls' → IsTaken (seen_from S ls) (looked S l) (seen_from S ls')
taken_look S ls ls' l (inl g) =
    let same : (looked S g.2).at ≡ (looked S l).at = rw (g.4, g.5) refl in
    inl (ap (seen_from S) g.0, g.1, looked S g.2, seen_at S ls g.1 g.2 g.3, same)
taken_look S ls ls' l (inr g) =
    inr (ap (seen_from S) g.0 ∙ map_push (looked S) ls l, omega (arith, g.1, length-map ls (looked S)), new_position S ls l g.2)

-- whether some look is at one of these numbers, said of configurations
pub any_look : (S : SemiState) (ls : List Look) (last : List ℕ)
    → list_any (λ c. list_any (λ k. k == c.at.place) last) (seen_from S ls) ≡ list_any (λ l. list_any (λ k. k == l.place) last) ls
any_look S [] last = refl
any_look S (l ∷ ls) last = ap (λ b. list_any (λ k. k == l.place) last || b) (any_look S ls last)

-- a search from place 0 looks up where it came to
pub place_zero : (k : ℕ) → k ≡ place_at 0 k
place_zero zero = refl
place_zero (suc k) = refl

only_opening : (S : SemiState) (i : ℕ) (c : Configuration) → slice_get (opening S ∷ []) i ≡ Some c → c.parent ≡ 0
only_opening S zero c h = let same : opening S ≡ c = cc in sym (ap (λ x. x.parent) same)
only_opening S (suc i) c h = absurd (cc)

-- a search that begins
pub going_begun : (game : Game) (e : Regex) (place : ℕ) (S : SemiState) → IsStateOf game S → IsGoing game e place S (opening S ∷ []) 0
going_begun game e place S state = record {
  found_are = AreFound-begun game e place S state;
  parents_are = λ i c at. omega (arith, only_opening S i c at);
  expanded = λ j n less. absurd (omega (arith, less));
  within = omega arith;
}

-- no occurrence has been tried
pub not_begun : (game : Game) (e : Regex) (place : ℕ) (cs : List Configuration) (at : ℕ) → IsFollowed game e place cs at 0
not_begun game e place cs at = record { met = λ c k U at_c plain less. absurd (omega arith); narrow = λ c k at_c plain less. absurd (omega arith) }

-- what a look leads to
pub look_leads : (game : Game) (e : Regex) (k : ℕ) (S : SemiState) (v w parent : ℕ) → TellsAt game e k (at_vertex S v) (At w)
    → OccurrenceLeads game e k (at_vertex S v) (looked S (record { vertex = w; place = k; parent = parent }))
look_leads game e k S v w parent h = record {
  place_is = refl;
  step = h.0;
  shows_is = sym h.1.1;
  ends_is = sym h.1.0;
}

-- a look that was there is there
pub stays_there : (ls ls' : List Look) (m : Look) (i : ℕ) (l : Look) → slice_get ls i ≡ Some l → IsLookAdded ls m ls' → slice_get ls' i ≡ Some l
stays_there ls ls' m i l at (inl g) = subst (λ xs. slice_get xs i ≡ Some l) (sym g.0) at
stays_there ls ls' m i l at (inr g) = subst (λ xs. slice_get xs i ≡ Some l) (sym g.0) (slice_get-append ls (m ∷ []) i l at)
