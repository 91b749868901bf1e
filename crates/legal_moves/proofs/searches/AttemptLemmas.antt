-- What an occurrence leads to, once it is kept.
use Rattle.std.proofs.Common.{◌≡◌, ℕ, ◌<◌, ◌≤◌, inl, inr, List, [], ◌∷◌, ◌++◌, length, map, Some, slice_get, option_map, unwrap_or, sym, ap, ◌∙◌, subst, arith, length-append}
use Rattle.std.proofs.lemmas.List.{length-map}
use Rattle.rbg_game.specs.Rules.{Regex, action_at, is_switch, is_modifier}
use Rattle.rbg_game.specs.Games.{Game}
use Rattle.rbg_game.specs.declared.position.SemiState.{SemiState}
use Rattle.legal_moves.specs.Effects.{EffectAt}
use Rattle.legal_moves.specs.lemmas.Boards.{at_turn, board_at, boards_in}
use Rattle.legal_moves.specs.lemmas.Configurations.{opening, OccurrenceLeads}
use Rattle.legal_moves.specs.lemmas.Progress.{began, state_at, IsGoing, IsTaken, IsTriedFrom, IsTried, IsFullFrom}
use Rattle.legal_moves.specs.lemmas.Stands.{stood, configurations_of, AreKept, IsNewStand, ShowsOne, IsStandAdded}
use Rattle.legal_moves.specs.lemmas.VertexSearch.{at_vertex}
use Rattle.legal_moves.specs.Configurations.{Configuration}
use Rattle.legal_moves.specs.declared.search.found.Stand.{Stand}
use Rattle.legal_moves.specs.declared.search.found.Found.{Found}
use Rattle.legal_moves.specs.declared.search.found.Shown.{Shown}
use Rattle.legal_moves.proofs.GetLemmas.{slice_get-append, slice_get-there}
use Rattle.legal_moves.proofs.searches.StandLemmas.{stood_at, taken_stand, new_stand_position}

-- the semi-state of the configuration at an index
pub state_of : (cs : List Configuration) (at : ℕ) (c : Configuration) → slice_get cs at ≡ Some c → state_at cs at ≡ c.at.state
state_of cs at c is = ap (λ o. unwrap_or (option_map (λ x. x.at.state) o) (began [])) is

-- the first is where the search began
pub began_is : (game : Game) (e : Regex) (place : ℕ) (S : SemiState) (cs : List Configuration) (at : ℕ) → IsGoing game e place S cs at → began cs ≡ S
began_is game e place S [] at going = absurd (cc (going.found_are.opening_is))
began_is game e place S (c ∷ cs) at going = state_of (c ∷ cs) 0 (opening S) going.found_are.opening_is

pub state_there : (boards : List SemiState) (stands : List Stand) (at : ℕ) (s : Stand) → slice_get stands at ≡ Some s
    → state_at (map (stood boards) stands) at ≡ at_turn (board_at boards s.board) s.mover s.vertex
state_there boards stands at s at_s = state_of (map (stood boards) stands) at (stood boards s) (stood_at boards stands at s at_s)

-- at its own vertex it is what it is
pub own_vertex : (boards : List SemiState) (stands : List Stand) (at : ℕ) (s : Stand) → slice_get stands at ≡ Some s
    → at_vertex (state_at (map (stood boards) stands) at) s.vertex ≡ state_at (map (stood boards) stands) at
own_vertex boards stands at s at_s =
    let there = state_there boards stands at s at_s in
    ap (λ T. at_vertex T s.vertex) there ∙ sym there

module _ (game : Game) (e : Regex) (k at : ℕ) (old mid : Found) (t : Stand) (S U : SemiState)
    (same : configurations_of mid ≡ configurations_of old) (kept : AreKept mid) (on : t.board < length (boards_in mid.boards))
    (is : at_turn (board_at (boards_in mid.boards) t.board) t.mover t.vertex ≡ U)
    (step : EffectAt game e 1 k S U) (place : t.place ≡ k) (parent : t.parent ≡ at)
    (shows : t.shows ≡ is_modifier (action_at e 1 k)) (ends : t.ends ≡ is_switch (action_at e 1 k)) where
  leads : OccurrenceLeads game e k S (stood (boards_in mid.boards) t)
  leads = record {
    place_is = place;
    step = subst (EffectAt game e 1 k S) (sym is) step;
    shows_is = shows;
    ends_is = ends;
  }

  -- it is taken
  pub attempted : (new : Found) → new.boards ≡ mid.boards → IsStandAdded mid.stands.items t new.stands.items
      → IsTriedFrom game e k S at (configurations_of old) (configurations_of new)
  attempted new boards added =
      inr (
        stood (boards_in mid.boards) t,
        leads,
        parent,
        subst
            (λ cs. IsTaken cs (stood (boards_in mid.boards) t) (configurations_of new)) same (taken_stand mid new kept t on boards added),
      )

  -- or there are too many
  pub filled : 65536 ≤ length mid.stands.items → IsNewStand mid.stands.items t → IsFullFrom game e k S at (configurations_of old)
  filled many new = (
    stood (boards_in mid.boards) t,
    leads,
    parent,
    omega
        (arith, many, ap length same, length-map mid.stands.items (stood (boards_in mid.boards))),
    λ i d at_d. new_stand_position mid kept t on new i d (subst (λ cs. slice_get cs i ≡ Some d) (sym same) at_d),
  )

-- ---- what is shown is still there when more is found

later : (cs : List Configuration) (c : Configuration) (i : ℕ) → i < length cs → state_at (cs ++ c ∷ []) i ≡ state_at cs i
later cs c i inside =
    let there = slice_get-there cs i inside in
    state_of (cs ++ c ∷ []) i there.0 (slice_get-append cs (c ∷ []) i there.0 there.1) ∙ sym (state_of cs i there.0 there.1)

module _ (old new : Found) (shown : Shown) (is : ShowsOne old shown) where
  counted : (found : Found) → length (configurations_of found) ≡ length found.stands.items
  counted found = length-map found.stands.items (stood (boards_in found.boards))

  same_shown : configurations_of new ≡ configurations_of old → ShowsOne new shown
  same_shown same = record {
    at_one = omega (arith, is.at_one, ap length same, counted old, counted new);
    state_is = is.state_is ∙ ap (λ cs. state_at cs shown.at) (sym same);
  }

  longer_shown : (c : Configuration) → configurations_of new ≡ configurations_of old ++ c ∷ [] → ShowsOne new shown
  longer_shown c more = record {
    at_one = omega (arith, is.at_one, ap length more, length-append (configurations_of old) (c ∷ []), counted old, counted new);
    state_is =
        is.state_is ∙ sym (later (configurations_of old) c shown.at (omega (arith, is.at_one, counted old)))
        ∙ ap (λ cs. state_at cs shown.at) (sym more);
  }

  pub still_shown_from : (game : Game) (e : Regex) (k : ℕ) (S : SemiState) (at : ℕ)
      → IsTriedFrom game e k S at (configurations_of old) (configurations_of new) → ShowsOne new shown
  still_shown_from game e k S at (inl g) = same_shown g.0
  still_shown_from game e k S at (inr g) = taken g.3
    where
      taken : IsTaken (configurations_of old) g.0 (configurations_of new) → ShowsOne new shown
      taken (inl t) = same_shown t.0
      taken (inr t) = longer_shown g.0 t.0

  pub still_shown : (game : Game) (e : Regex) (k at : ℕ) → IsTried game e k at (configurations_of old) (configurations_of new) → ShowsOne new shown
  still_shown game e k at tried = still_shown_from game e k (state_at (configurations_of old) at) at tried
