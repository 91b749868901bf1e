-- The configurations that are found stand on levels: each has a word of its level, and no word to it is shorter.
use Rattle.std.proofs.Common.{◌≡◌, ℕ, zero, suc, ◌<◌, ◌≤◌, false, List, [], ◌∷◌, ◌++◌, length, Some, slice_get, refl, sym, ap, subst, arith, length-append}
use Rattle.rbg_game.specs.Rules.{Regex, action_at, is_switch}
use Rattle.rbg_game.specs.Games.{Game}
use Rattle.rbg_game.specs.declared.position.SemiState.{SemiState}
use Rattle.legal_moves.specs.Effects.{EffectAt}
use Rattle.legal_moves.specs.Glushkov.{IsNextAt}
use Rattle.legal_moves.specs.Searches.{place_at, Searched, begun, gone}
use Rattle.legal_moves.specs.lemmas.Configurations.{opening, AreFound, IsFollowed}
use Rattle.legal_moves.specs.Configurations.{Configuration}
use Rattle.legal_moves.proofs.GetLemmas.{slice_get-within}
use Rattle.legal_moves.proofs.searches.FoundLemmas.{same_at}

-- the configuration at an index has this many actions before it
pub data Level (cs : List Configuration) : ℕ → ℕ → Type 0 where
  first : Level cs 0 0
  later : (i : ℕ) (c : Configuration) (n : ℕ) → slice_get cs (suc i) ≡ Some c → Level cs c.parent n → Level cs (suc i) (suc n)

module _ (game : Game) (e : Regex) (place : ℕ) (S : SemiState) (cs : List Configuration) (found : AreFound game e place S cs) where
  level_upto : (f i : ℕ) → i ≤ f → (c : Configuration) → slice_get cs i ≡ Some c → (n : ℕ) × Level cs i n
  level_upto f zero le c at = (0, first)
  level_upto zero (suc i) le c at = absurd (omega (arith, le))
  level_upto (suc f) (suc i) le c at =
      let link = found.linked (suc i) c at (omega arith) in
      let before = level_upto f c.parent (omega (arith, link.earlier, le)) link.before link.before_is in
      (suc before.0, later i c before.0 at before.1)

  pub level_at : (i : ℕ) (c : Configuration) → slice_get cs i ≡ Some c → (n : ℕ) × Level cs i n
  level_at i c at = level_upto i i (omega arith) c at

  -- who was found later stands on no lower level
  pub levels_rise : (i n j m : ℕ) → Level cs i n → Level cs j m → i ≤ j → n ≤ m
  levels_rise _ _ j m first l le = omega arith
  levels_rise _ _ _ _ (later i c n at l) first le = absurd (omega (arith, le))
  levels_rise _ _ _ _ (later i c n at l) (later j d m at' l') le =
      let up = levels_rise c.parent n d.parent m l l' (found.ascending (suc i) (suc j) c d le at at') in
      omega arith

  pub begun_at : (c : Configuration) → slice_get cs 0 ≡ Some c → Searched game e place S [] c.at.state c.at.place
  begun_at c at =
      let same = same_at cs 0 c (opening S) at found.opening_is in
      subst (λ x. Searched game e place S [] x.at.state x.at.place) (sym same) begun

  -- a word of a level
  pub record HasWord (c : Configuration) (n : ℕ) : Type 0 where
    pub word : List ℕ
    pub searched : Searched game e place S word c.at.state c.at.place
    pub length_is : length word ≡ n

  pub one_more : (b c : Configuration) (n : ℕ) → HasWord b n → is_switch (action_at e 1 b.at.place) ≡ false
      → IsNextAt e (place_at place b.at.place) c.at.place → EffectAt game e 1 c.at.place b.at.state c.at.state → HasWord c (suc n)
  one_more b c n h plain next step = record {
    word = h.word ++ c.at.place ∷ [];
    searched = gone h.word b.at.state b.at.place c.at.state c.at.place h.searched plain next step;
    length_is = omega (arith, length-append h.word (c.at.place ∷ []), h.length_is);
  }

  pub word_of : (i n : ℕ) → Level cs i n → (c : Configuration) → slice_get cs i ≡ Some c → HasWord c n
  word_of _ _ first c at = record { word = []; searched = begun_at c at; length_is = refl }
  word_of _ _ (later i d n at_d l) c at =
      let link = found.linked (suc i) d at_d (omega arith) in
      let longer = one_more link.before d n (word_of d.parent n l link.before link.before_is) link.plain link.next link.leads.step in
      subst (λ x. HasWord x (suc n)) (same_at cs (suc i) d c at_d at) longer

  pub word_at : (i : ℕ) (c : Configuration) → slice_get cs i ≡ Some c → (n : ℕ) × HasWord c n
  word_at i c at = let l = level_at i c at in (l.0, word_of i l.0 l.1 c at)

  -- where the configuration of T and k was found, no higher than the level n
  pub record IsFoundBy (T : SemiState) (k n : ℕ) : Type 0 where
    pub index : ℕ
    pub configuration : Configuration
    pub is_at : slice_get cs index ≡ Some configuration
    pub same : configuration.at ≡ record { state = T; place = k }
    pub level : ℕ
    pub stands : Level cs index level
    pub upto : level ≤ n

  module _ (expanded : (j n : ℕ) → j < length cs → IsFollowed game e place cs j n) where
    -- from one that was found one comes to one that was found, at most a level higher
    onward : (T : SemiState) (k : ℕ) (U : SemiState) (l n : ℕ) → IsFoundBy T k n → is_switch (action_at e 1 k) ≡ false
        → IsNextAt e (place_at place k) l → EffectAt game e 1 l T U → IsFoundBy U l (suc n)
    onward T k U l n f plain next step =
        let place_same : f.configuration.at.place ≡ k = ap (λ x. x.place) f.same in
        let state_same : f.configuration.at.state ≡ T = ap (λ x. x.state) f.same in
        let all = expanded f.index (suc l) (slice_get-within cs f.index f.configuration f.is_at) in
        let met = all.met f.configuration l U f.is_at (subst (λ j. is_switch (action_at e 1 j) ≡ false) (sym place_same) plain)
        (omega arith) (subst (λ j. IsNextAt e (place_at place j) l) (sym place_same) next) (subst (λ V. EffectAt game e 1 l V U) (sym state_same) step) in
        go met.0 met.1 met.2 met.3 met.4
      where
        go : (i : ℕ) (c : Configuration) → slice_get cs i ≡ Some c → c.at ≡ record { state = U; place = l } → c.parent ≤ f.index → IsFoundBy U l (suc n)
        go zero c at same le = record {
          index = 0;
          configuration = c;
          is_at = at;
          same = same;
          level = 0;
          stands = first;
          upto = omega arith;
        }
        go (suc i) c at same le =
            let link = found.linked (suc i) c at (omega arith) in
            let below = level_at c.parent link.before link.before_is in
            let rise = levels_rise c.parent below.0 f.index f.level below.1 f.stands le in
            record {
              index = suc i;
              configuration = c;
              is_at = at;
              same = same;
              level = suc below.0;
              stands = later i c below.0 at below.1;
              upto = omega (arith, rise, f.upto);
            }

    -- each word of the graph ends in one that was found, no higher than the word is long
    pub complete : (w : List ℕ) (T : SemiState) (k : ℕ) → Searched game e place S w T k → IsFoundBy T k (length w)
    complete _ _ _ begun = record {
      index = 0;
      configuration = opening S;
      is_at = found.opening_is;
      same = refl;
      level = 0;
      stands = first;
      upto = omega arith;
    }
    complete _ _ _ (gone w T k U l h plain next step) =
        let longer : length (w ++ l ∷ []) ≡ suc (length w) = omega (arith, length-append w (l ∷ [])) in
        subst (IsFoundBy U l) (sym longer) (onward T k U l (length w) (complete w T k h) plain next step)
