-- What is shown of a finished search for moves.
use Rattle.std.proofs.Common.{◌≡◌, ℕ, zero, suc, ◌≤◌, Bool, true, false, cond, List, [], ◌∷◌, ◌++◌, length, Option, Some, None, option_map, unwrap_or, slice_get, refl, sym, ap, ◌∙◌, subst, arith, length-append}
use Rattle.rbg_game.specs.Rules.{Regex, action_at, is_switch, is_modifier}
use Rattle.rbg_game.specs.Games.{Game}
use Rattle.rbg_game.specs.declared.position.SemiState.{SemiState}
use Rattle.rbg_game.specs.declared.position.Position.{Position}
use Rattle.legal_moves.specs.Effects.{EffectAt}
use Rattle.legal_moves.specs.Moves.{IsMove, IsShortest, ShowsFrom}
use Rattle.legal_moves.specs.Searches.{Searched, gone}
use Rattle.legal_moves.specs.Shown.{vertex_at, shown_to, ComeFromBefore}
use Rattle.legal_moves.specs.lemmas.Configurations.{opening, AreFound, IsSearch}
use Rattle.legal_moves.specs.Configurations.{Configuration}
use Rattle.legal_moves.proofs.searches.FoundLemmas.{same_at}
use Rattle.legal_moves.proofs.searches.ExpandLemmas.{ends_at}
use Rattle.legal_moves.proofs.searches.SearchLemmas.{Searched-by_move, move-by_Searched}
use Rattle.legal_moves.proofs.searches.LevelLemmas.{Level, first, later, level_at, levels_rise, begun_at, complete}

-- ---- more turns back than there are show no more

pub shown_enough : (cs : List Configuration) → ComeFromBefore cs → (n m i : ℕ) → i ≤ n → i ≤ m → shown_to cs n i ≡ shown_to cs m i
shown_enough cs before zero zero i l r = refl
shown_enough cs before zero (suc m) zero l r = refl
shown_enough cs before zero (suc m) (suc i) l r = absurd (omega (arith, l))
shown_enough cs before (suc n) zero zero l r = refl
shown_enough cs before (suc n) zero (suc i) l r = absurd (omega (arith, r))
shown_enough cs before (suc n) (suc m) zero l r = refl
shown_enough cs before (suc n) (suc m) (suc i) l r = go (slice_get cs (suc i)) refl (λ j a b. shown_enough cs before n m j a b)
  where
    go : (o : Option Configuration) → slice_get cs (suc i) ≡ o → ((j : ℕ) → j ≤ n → j ≤ m → shown_to cs n j ≡ shown_to cs m j)
        → unwrap_or (option_map (λ c. shown_to cs n c.parent
        ++ cond c.shows ((c.at.place, vertex_at cs c.parent) ∷ []) []) o) [] ≡ unwrap_or
        (option_map (λ c. shown_to cs m c.parent ++ cond c.shows ((c.at.place, vertex_at cs c.parent) ∷ []) []) o) []
    go None at same = refl
    go (Some c) at same =
        let p = before i c at in
        ap (λ xs. xs ++ cond c.shows ((c.at.place, vertex_at cs c.parent) ∷ []) []) (same c.parent (omega (arith, p, l)) (omega (arith, p, r)))

-- what is shown of one more action
pub shown_more : (cs : List Configuration) → ComeFromBefore cs → (i : ℕ) (c : Configuration) → slice_get cs (suc i) ≡ Some c
    → shown_to cs (suc i) (suc i) ≡ shown_to cs c.parent c.parent ++ cond c.shows ((c.at.place, vertex_at cs c.parent) ∷ []) []
shown_more cs before i c at =
    ap (λ o. unwrap_or (option_map (λ x. shown_to cs i x.parent ++ cond x.shows ((x.at.place, vertex_at cs x.parent) ∷ []) []) o) []) at
    ∙ ap (λ xs. xs ++ cond c.shows ((c.at.place, vertex_at cs c.parent) ∷ []) []) (shown_enough cs before i c.parent c.parent (before i c at) (omega arith))

-- what a word with one more action shows
pub ShowsFrom-push : (game : Game) (w : List ℕ) (l : ℕ) (S T U : SemiState) (shown : List (ℕ × ℕ)) → ShowsFrom game w S T shown
    → EffectAt game game.rules 1 l T U → ShowsFrom game (w ++ l ∷ []) S U (shown ++ cond (is_modifier (action_at game.rules 1 l)) ((l, T.vertex) ∷ []) [])
ShowsFrom-push game [] l S T U shown h step = (
  U,
  [],
  subst (λ V. EffectAt game game.rules 1 l V U) h.0 step,
  (refl, refl),
  ap (λ xs. xs ++ cond (is_modifier (action_at game.rules 1 l)) ((l, T.vertex) ∷ []) []) h.1
      ∙ ap (λ V. cond (is_modifier (action_at game.rules 1 l)) ((l, V.vertex) ∷ []) []) h.0,
)
ShowsFrom-push game (k ∷ w) l S T U shown h step = (
  h.0,
  h.1 ++ cond (is_modifier (action_at game.rules 1 l)) ((l, T.vertex) ∷ []) [],
  h.2,
  ShowsFrom-push game w l h.0 T U h.1 h.3 step,
  ap (λ xs. xs ++ cond (is_modifier (action_at game.rules 1 l)) ((l, T.vertex) ∷ []) []) h.4 ∙ over (is_modifier (action_at game.rules 1 k)) h.1,
)
  where
    over : (t : Bool) (rest : List (ℕ × ℕ)) → cond t ((k, S.vertex) ∷ rest) rest
        ++ cond (is_modifier (action_at game.rules 1 l)) ((l, T.vertex) ∷ []) [] ≡ cond t
        ((k, S.vertex) ∷ (rest ++ cond (is_modifier (action_at game.rules 1 l)) ((l, T.vertex) ∷ []) []))
        (rest ++ cond (is_modifier (action_at game.rules 1 l)) ((l, T.vertex) ∷ []) [])
    over true rest = refl
    over false rest = refl

pub before_by_found : (game : Game) (e : Regex) (place : ℕ) (S : SemiState) (cs : List Configuration) → AreFound game e place S cs → ComeFromBefore cs
before_by_found game e place S cs found i c at = let link = found.linked (suc i) c at (omega arith) in omega (arith, link.earlier)

module _ (game : Game) (place : ℕ) (S : SemiState) (cs : List Configuration) (search : IsSearch game game.rules place S cs) where
  before : ComeFromBefore cs
  before = before_by_found game game.rules place S cs search.found

  -- the word of an index, and what it shows
  pub record HasShown (i : ℕ) (c : Configuration) (n : ℕ) : Type 0 where
    pub word : List ℕ
    pub searched : Searched game game.rules place S word c.at.state c.at.place
    pub length_is : length word ≡ n
    pub shows : ShowsFrom game word S c.at.state (shown_to cs i i)

  shown_by : (i n : ℕ) → Level cs i n → (c : Configuration) → slice_get cs i ≡ Some c → HasShown i c n
  shown_by _ _ first c at =
      let same = same_at cs 0 c (opening S) at search.found.opening_is in
      record {
        word = [];
        searched = begun_at game game.rules place S cs search.found c at;
        length_is = refl;
        shows = (ap (λ x. x.at.state) same, refl);
      }
  shown_by _ _ (later i d n at_d l) c at =
      let link = search.found.linked (suc i) d at_d (omega arith) in
      let h = shown_by d.parent n l link.before link.before_is in
      let pushed = ShowsFrom-push game h.word d.at.place S link.before.at.state d.at.state (shown_to cs d.parent d.parent) h.shows link.leads.step in
      let vertex : vertex_at cs d.parent ≡ link.before.at.state.vertex = ap (λ o. unwrap_or (option_map (λ x. x.at.state.vertex) o) 0) link.before_is in
      let shown : shown_to cs (suc i) (suc i) ≡ shown_to cs d.parent d.parent
      ++ cond (is_modifier (action_at game.rules 1 d.at.place))
      ((d.at.place, link.before.at.state.vertex) ∷ []) [] = shown_more cs before i d at_d
      ∙ ap (λ t. shown_to cs d.parent d.parent ++ cond t ((d.at.place, vertex_at cs d.parent) ∷ []) []) link.leads.shows_is
      ∙ ap (λ v. shown_to cs d.parent d.parent ++ cond (is_modifier (action_at game.rules 1 d.at.place)) ((d.at.place, v) ∷ []) []) vertex in
      let made : HasShown (suc i) d (suc n) = record {
        word = h.word ++ d.at.place ∷ [];
        searched = gone h.word link.before.at.state link.before.at.place d.at.state d.at.place h.searched link.plain link.next link.leads.step;
        length_is = omega (arith, length-append h.word (d.at.place ∷ []), h.length_is);
        shows = subst (ShowsFrom game (h.word ++ d.at.place ∷ []) S d.at.state) (sym shown) pushed;
      } in
      subst (λ x. HasShown (suc i) x (suc n)) (same_at cs (suc i) d c at_d at) made

  -- a configuration at which a move ends
  module _ (i : ℕ) (c : Configuration) (at : slice_get cs i ≡ Some c) (ends : c.ends ≡ true) where
    pub level : (n : ℕ) × Level cs i n
    level = level_at game game.rules place S cs search.found i c at

    pub its_word : HasShown i c level.0
    its_word = shown_by i level.0 level.1 c at

    switch : is_switch (action_at game.rules 1 c.at.place) ≡ true
    switch = sym (ends_at game game.rules place S cs search.found i c at) ∙ ends

    pub is_move : (from : Position) → from.state ≡ S → from.place ≡ place → IsMove game from its_word.word c.at
    is_move from same_state same_place =
        move-by_Searched game from its_word.word c.at
        (subst (λ V. Searched game game.rules from.place V its_word.word c.at.state c.at.place) (sym same_state)
        (subst (λ p. Searched game game.rules p S its_word.word c.at.state c.at.place) (sym same_place) its_word.searched)) switch

    -- no word is shorter
    pub shortest : (from : Position) → from.state ≡ S → from.place ≡ place → IsShortest game from its_word.word c.at
    shortest from same_state same_place other move =
        let searched = (Searched-by_move game from other c.at move).0 in
        let here = subst (λ V. Searched game game.rules place V other c.at.state c.at.place) same_state
        (subst (λ p. Searched game game.rules p from.state other c.at.state c.at.place) same_place searched) in
        let f = complete game game.rules place S cs search.found search.expanded other c.at.state c.at.place here in
        let index : f.index ≡ i = search.found.different f.index i f.configuration c f.is_at at f.same in
        let stands = subst (λ j. Level cs j f.level) index f.stands in
        let rise = levels_rise game game.rules place S cs search.found i level.0 i f.level level.1 stands (omega arith) in
        omega (arith, its_word.length_is, rise, f.upto)
