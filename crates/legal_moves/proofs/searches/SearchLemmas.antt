-- The search as a graph: moves are exactly the paths from the opening configuration to a switch.
use Rattle.std.proofs.Common.{◌≡◌, ℕ, zero, suc, ◌⊎◌, inl, inr, true, false, Option, Some, None, List, [], ◌∷◌, ◌++◌, refl, sym, ap, ◌∙◌, subst, arith, append_assoc, append-nil}
use Rattle.rbg_game.specs.Rules.{Regex, action_at, is_switch}
use Rattle.rbg_game.specs.Games.{Game}
use Rattle.rbg_game.specs.declared.position.SemiState.{SemiState}
use Rattle.rbg_game.specs.declared.position.Position.{Position}
use Rattle.legal_moves.specs.Words.{IsWord, EndsAt, CanFollow, HasNoSwitch}
use Rattle.legal_moves.specs.Effects.{Path, Leads, EffectAt}
use Rattle.legal_moves.specs.Moves.{IsMove}
use Rattle.legal_moves.specs.Glushkov.{is_nullable, IsLast, IsNextAt, IsWalk}
use Rattle.legal_moves.specs.Searches.{Reaches, opening, after, place_at, Searched, begun, gone}
use Rattle.legal_moves.proofs.WordLemmas.{InRange, in_range, cross}
use Rattle.legal_moves.proofs.automata.GlushkovLemmas.{first_word, next_word, last_word, empty_word, is_nullable-by_word, IsLast-by_word}
use Rattle.legal_moves.proofs.automata.Walks.{CanFollow-by_walk, walk-by_CanFollow}
use Rattle.legal_moves.proofs.EffectLemmas.{action_at-in_range}

-- the last of a list, or the number before it
abbrev last_of : ℕ → List ℕ → ℕ
last_of p [] = p
last_of p (x ∷ w) = last_of x w

last_of-push : (p : ℕ) (t : List ℕ) (k : ℕ) → last_of p (t ++ k ∷ []) ≡ k
last_of-push p [] k = refl
last_of-push p (x ∷ t) k = last_of-push x t k

IsWalk-push : (e : Regex) (p : ℕ) (w : List ℕ) (l : ℕ) → IsWalk e p w → IsNextAt e (last_of p w) l → IsWalk e p (w ++ l ∷ [])
IsWalk-push e p [] l walk next = (next, tt)
IsWalk-push e p (x ∷ w) l walk next = (walk.0, IsWalk-push e x w l walk.1 next)

Path-push : (Step : ℕ → SemiState → SemiState → Type 0) (w : List ℕ) (l : ℕ) (S T U : SemiState) → Path Step w S T → Step l T U → Path Step (w ++ l ∷ []) S U
Path-push Step [] l S T U path step = (U, subst (λ V. Step l V U) path step, refl)
Path-push Step (x ∷ w) l S T U path step = (path.0, path.1, Path-push Step w l path.0 T U path.2 step)

HasNoSwitch-push : (e : Regex) (t : List ℕ) (k : ℕ) → HasNoSwitch e t → is_switch (action_at e 1 k) ≡ false → HasNoSwitch e (t ++ k ∷ [])
HasNoSwitch-push e [] k h plain = (plain, tt)
HasNoSwitch-push e (x ∷ t) k h plain = (h.0, HasNoSwitch-push e t k h.1 plain)

-- an occurrence that stands next somewhere is one of the expression's
pub next_in_range : (e : Regex) (p l : ℕ) → IsNextAt e p l → InRange e 1 l
next_in_range e p l (inl h) = let w = first_word e 1 l h.1 in in_range e 1 _ w.1 [] l w.0 refl
next_in_range e p l (inr h) =
    let w = next_word e 1 p l h in
    in_range e 1 _ w.2 (w.0 ++ p ∷ []) l w.1 (sym (append_assoc w.0 (p ∷ []) (l ∷ w.1)))

-- the place 0 is no switch
pub no_switch_at_0 : (e : Regex) → is_switch (action_at e 1 0) ≡ false
no_switch_at_0 e = go (action_at e 1 0) refl
  where
    go : (x : Option _) → action_at e 1 0 ≡ x → is_switch x ≡ false
    go None same = refl
    go (Some a) same =
        let r = action_at-in_range e 1 0 a same in
        absurd (omega arith)

module _ (game : Game) (e : Regex) (place : ℕ) (S : SemiState) where
  -- what is known of a searched list
  pub record IsSearched (w : List ℕ) (T : SemiState) (k : ℕ) : Type 0 where
    pub walk : IsWalk e place w
    pub leads : Leads game e w S T
    pub last : last_of place w ≡ place_at place k
    pub ends : ((w ≡ []) × (k ≡ 0)) ⊎ ((t : List ℕ) × (w ≡ t ++ k ∷ []) × HasNoSwitch e t)

  ends_push : (w : List ℕ) (k l : ℕ) → ((w ≡ []) × (k ≡ 0)) ⊎ ((t : List ℕ) × (w ≡ t ++ k ∷ []) × HasNoSwitch e t)
      → is_switch (action_at e 1 k) ≡ false → HasNoSwitch e w
  ends_push w k l (inl h) plain = subst (HasNoSwitch e) (sym h.0) tt
  ends_push w k l (inr h) plain = subst (HasNoSwitch e) (sym h.1) (HasNoSwitch-push e h.0 k h.2 plain)

  place_at-next : (p l : ℕ) → IsNextAt e p l → place_at place l ≡ l
  place_at-next p zero next = let r = next_in_range e p zero next in absurd (omega arith)
  place_at-next p (suc l) next = refl

  pub searched : (w : List ℕ) (T : SemiState) (k : ℕ) → Searched game e place S w T k → IsSearched w T k
  searched _ _ _ begun = record { walk = tt; leads = refl; last = refl; ends = inl (refl, refl) }
  searched _ _ _ (gone w T k U l h plain next step) =
      let r = searched w T k h in
      let here : IsNextAt e (last_of place w) l = subst (λ p. IsNextAt e p l) (sym r.last) next in
      record {
        walk = IsWalk-push e place w l r.walk here;
        leads = Path-push (EffectAt game e 1) w l S T U r.leads step;
        last = last_of-push place w l ∙ sym (place_at-next (place_at place k) l next);
        ends = inr (w, refl, ends_push w k l r.ends plain);
      }

  -- from a configuration on along a walk
  go_on : (r u : List ℕ) (state0 : SemiState) (k0 k : ℕ) (T : SemiState) → Searched game e place S u state0 k0
      → is_switch (action_at e 1 k0) ≡ false → IsWalk e (place_at place k0) (r ++ k ∷ []) → HasNoSwitch e r
      → Leads game e (r ++ k ∷ []) state0 T → Searched game e place S (u ++ (r ++ k ∷ [])) T k
  go_on [] u state0 k0 k T h plain walk free leads =
      subst (λ V. Searched game e place S (u ++ k ∷ []) V k) (sym leads.2) (gone u state0 k0 leads.0 k h plain walk.0 leads.1)
  go_on (x ∷ r) u state0 k0 k T h plain walk free leads =
      let first = gone u state0 k0 leads.0 x h plain walk.0 leads.1 in
      let onward : IsWalk e (place_at place x) (r ++ k ∷ []) = subst (λ p. IsWalk e p (r ++ k ∷ []))
      (sym (place_at-next (place_at place k0) x walk.0)) walk.1 in
      subst (λ w. Searched game e place S w T k) (append_assoc u (x ∷ []) (r ++ k ∷ []))
      (go_on r (u ++ x ∷ []) leads.0 x k T first free.0 onward free.1 leads.2)

  pub Searched-by_walk : (t : List ℕ) (k : ℕ) (T : SemiState) → IsWalk e place (t ++ k ∷ []) → HasNoSwitch e t
      → Leads game e (t ++ k ∷ []) S T → Searched game e place S (t ++ k ∷ []) T k
  Searched-by_walk t k T walk free leads = go_on t [] S 0 k T begun (no_switch_at_0 e) walk free leads

  walk_of : (t : List ℕ) (k : ℕ) → CanFollow e place (t ++ k ∷ []) → IsWalk e place (t ++ k ∷ [])
  walk_of [] k h = walk-by_CanFollow e place k [] h
  walk_of (x ∷ t) k h = walk-by_CanFollow e place x (t ++ k ∷ []) h

  follow_of : (t : List ℕ) (k : ℕ) → IsWalk e place (t ++ k ∷ []) → CanFollow e place (t ++ k ∷ [])
  follow_of [] k h = CanFollow-by_walk e place k [] h
  follow_of (x ∷ t) k h = CanFollow-by_walk e place x (t ++ k ∷ []) h

  -- the configurations are those of the graph
  pub Searched-by_Reaches : (c : SemiState × ℕ) → Reaches game e place S c → (w : List ℕ) × Searched game e place S w c.0 c.1
  Searched-by_Reaches _ opening = ([], begun)
  Searched-by_Reaches _ (after w k T follows free leads) = (w ++ k ∷ [], Searched-by_walk w k T (walk_of w k follows) free leads)

  pub Reaches-by_Searched : (w : List ℕ) (T : SemiState) (k : ℕ) → Searched game e place S w T k → Reaches game e place S (T, k)
  Reaches-by_Searched w T k h = go (searched w T k h) (searched w T k h).ends
    where
      go : IsSearched w T k → ((w ≡ []) × (k ≡ 0)) ⊎ ((t : List ℕ) × (w ≡ t ++ k ∷ []) × HasNoSwitch e t) → Reaches game e place S (T, k)
      go r (inl z) =
          let same : T ≡ S = subst (λ v. Leads game e v S T) z.0 r.leads in
          subst (λ j. Reaches game e place S (T, j)) (sym z.1) (subst (λ V. Reaches game e place S (V, 0)) (sym same) opening)
      go r (inr x) =
          after x.0 k T (follow_of x.0 k (subst (IsWalk e place) x.1 r.walk)) x.2 (subst (λ v. Leads game e v S T) x.1 r.leads)

-- the moves are exactly the paths of the graph that end at a switch
pub Searched-by_move : (game : Game) (at : Position) (w : List ℕ) (next : Position) → IsMove game at w next
    → Searched game game.rules at.place at.state w next.state next.place × (is_switch (action_at game.rules 1 next.place) ≡ true)
Searched-by_move game at w next m =
    let t = m.ends.0 in
    let same = m.ends.1 in
    let follows = subst (CanFollow game.rules at.place) same m.follows in
    let leads = subst (λ v. Leads game game.rules v at.state next.state) same m.leads in
    let found = Searched-by_walk game game.rules at.place at.state t next.place next.state
    (walk_of game game.rules at.place at.state t next.place follows) m.ends.2 leads in
    (subst (λ v. Searched game game.rules at.place at.state v next.state next.place) (sym same) found, m.ends.3)

pub move-by_Searched : (game : Game) (at : Position) (w : List ℕ) (next : Position)
    → Searched game game.rules at.place at.state w next.state next.place → is_switch (action_at game.rules 1 next.place) ≡ true → IsMove game at w next
move-by_Searched game at w next h switch = go r r.ends
  where
    r : IsSearched game game.rules at.place at.state w next.state next.place
    r = searched game game.rules at.place at.state w next.state next.place h

    go : IsSearched game game.rules at.place at.state w next.state next.place
        → ((w ≡ []) × (next.place ≡ 0)) ⊎ ((t : List ℕ) × (w ≡ t ++ next.place ∷ []) × HasNoSwitch game.rules t) → IsMove game at w next
    go r (inl z) =
        let never = subst (λ k. is_switch (action_at game.rules 1 k) ≡ true) z.1 switch in
        let plain = no_switch_at_0 game.rules in
        absurd (cc)
    go r (inr x) = record {
      follows = subst (CanFollow game.rules at.place) (sym x.1)
          (follow_of game game.rules at.place at.state x.0 next.place (subst (IsWalk game.rules at.place) x.1 r.walk));
      ends = (x.0, x.1, x.2, switch);
      leads = r.leads;
    }

-- a list is empty or has a last element
snoc : (w : List ℕ) → (w ≡ []) ⊎ ((t : List ℕ) × (k : ℕ) × (w ≡ t ++ k ∷ []))
snoc [] = inl refl
snoc (x ∷ w) = go (snoc w)
  where
    go : (w ≡ []) ⊎ ((t : List ℕ) × (k : ℕ) × (w ≡ t ++ k ∷ [])) → (x ∷ w ≡ []) ⊎ ((t : List ℕ) × (k : ℕ) × (x ∷ w ≡ t ++ k ∷ []))
    go (inl e) = inr ([], x, ap (λ v. x ∷ v) e)
    go (inr r) = inr (x ∷ r.0, r.1, ap (λ v. x ∷ v) r.2)

IsWalk-split : (e : Regex) (p : ℕ) (w : List ℕ) (l : ℕ) → IsWalk e p (w ++ l ∷ []) → IsWalk e p w × IsNextAt e (last_of p w) l
IsWalk-split e p [] l walk = (tt, walk.0)
IsWalk-split e p (x ∷ w) l walk = let r = IsWalk-split e x w l walk.1 in ((walk.0, r.0), r.1)

HasNoSwitch-split : (e : Regex) (t : List ℕ) (k : ℕ) → HasNoSwitch e (t ++ k ∷ []) → HasNoSwitch e t × (is_switch (action_at e 1 k) ≡ false)
HasNoSwitch-split e [] k h = (tt, h.0)
HasNoSwitch-split e (x ∷ t) k h = let r = HasNoSwitch-split e t k h.1 in ((h.0, r.0), r.1)

-- the numbers of a walk are not 0
place_at-last : (e : Regex) (place p : ℕ) (t : List ℕ) (k : ℕ) → IsWalk e p (t ++ k ∷ []) → place_at place k ≡ k
place_at-last e place p [] zero walk = let r = next_in_range e p zero walk.0 in absurd (omega arith)
place_at-last e place p [] (suc k) walk = refl
place_at-last e place p (x ∷ t) k walk = place_at-last e place x t k walk.1

module _ (game : Game) (e : Regex) (place : ℕ) (S : SemiState) where
  -- an action stands next after a configuration whose last action is no switch
  pub record StandsNext (T : SemiState) (p : ℕ) : Type 0 where
    pub word : List ℕ
    pub last : ℕ
    pub found : Searched game e place S word T last
    pub plain : is_switch (action_at e 1 last) ≡ false
    pub next : IsNextAt e (place_at place last) p

  -- that is what the definition of too wide a search asks of a pattern
  pub StandsNext-by_path : (w : List ℕ) (p : ℕ) (T : SemiState) → CanFollow e place (w ++ p ∷ []) → HasNoSwitch e w → Leads game e w S T → StandsNext T p
  StandsNext-by_path w p T follows free leads = go (snoc w)
    where
      both : IsWalk e place w × IsNextAt e (last_of place w) p
      both = IsWalk-split e place w p (walk_of game e place S w p follows)

      go : (w ≡ []) ⊎ ((t : List ℕ) × (k : ℕ) × (w ≡ t ++ k ∷ [])) → StandsNext T p
      go (inl z) =
          let same : T ≡ S = subst (λ v. Leads game e v S T) z leads in
          record {
            word = [];
            last = 0;
            found = subst (λ V. Searched game e place S [] V 0) (sym same) begun;
            plain = no_switch_at_0 e;
            next = subst (λ v. IsNextAt e (last_of place v) p) z both.1;
          }
      go (inr r) =
          let walk = subst (IsWalk e place) r.2 both.0 in
          let apart = HasNoSwitch-split e r.0 r.1 (subst (HasNoSwitch e) r.2 free) in
          let end : last_of place w ≡ place_at place r.1 = ap (last_of place) r.2 ∙ last_of-push place r.0 r.1
          ∙ sym (place_at-last e place place r.0 r.1 walk) in
          record {
            word = r.0 ++ r.1 ∷ [];
            last = r.1;
            found = Searched-by_walk game e place S r.0 r.1 T walk apart.0 (subst (λ v. Leads game e v S T) r.2 leads);
            plain = apart.1;
            next = subst (λ q. IsNextAt e q p) end both.1;
          }

  pub path-by_StandsNext : (T : SemiState) (p : ℕ) → StandsNext T p → (w : List ℕ) × CanFollow e place (w ++ p ∷ []) × HasNoSwitch e w × Leads game e w S T
  path-by_StandsNext T p n =
      let r = searched game e place S n.word T n.last n.found in
      let walk = IsWalk-push e place n.word p r.walk (subst (λ q. IsNextAt e q p) (sym r.last) n.next) in
      (n.word, follow_of game e place S n.word p walk, ends_push game e place S n.word n.last p r.ends n.plain, r.leads)

-- a pattern holds where the empty list is a word, or some configuration of its search stands at an end
module _ (game : Game) (e : Regex) (S : SemiState) (none_switches : (k : ℕ) → is_switch (action_at e 1 k) ≡ false) where
  abbrev pub IsLegal : Type 0
  IsLegal = (w : List ℕ) × (U : SemiState) × IsWord e 1 w × Leads game e w S U

  abbrev pub HasEnd : Type 0
  HasEnd = (is_nullable e ≡ true) ⊎ ((T : SemiState) × (k : ℕ) × Reaches game e 0 S (T, k) × IsLast e 1 k)

  free_of : (w : List ℕ) → HasNoSwitch e w
  free_of [] = tt
  free_of (x ∷ w) = (none_switches x, free_of w)

  pub HasEnd-by_legal : IsLegal → HasEnd
  HasEnd-by_legal h = go (snoc h.0)
    where
      go : (h.0 ≡ []) ⊎ ((t : List ℕ) × (k : ℕ) × (h.0 ≡ t ++ k ∷ [])) → HasEnd
      go (inl z) = inl (is_nullable-by_word e 1 h.0 h.2 z)
      go (inr r) =
          let word = subst (IsWord e 1) r.2 h.2 in
          let whole = subst (IsWord e 1) (sym (append-nil (r.0 ++ r.1 ∷ []))) word in
          inr (
            h.1,
            r.1,
            after r.0 r.1 h.1 ([], [], whole, inl (refl, refl)) (free_of r.0) (subst (λ v. Leads game e v S h.1) r.2 h.3),
            IsLast-by_word e 1 h.0 h.2 r.0 r.1 r.2,
          )

  -- nothing stands before the place 0
  first_part : (u : List ℕ) (w : List ℕ) → IsWord e 1 (u ++ w) → EndsAt u 0 → IsWord e 1 w
  first_part u w word (inl z) = subst (λ v. IsWord e 1 (v ++ w)) z.0 word
  first_part u w word (inr t) =
      let r = in_range e 1 _ word t.0 0 w (ap (λ v. v ++ w) t.1 ∙ append_assoc t.0 (0 ∷ []) w) in
      absurd (omega arith)

  pub legal-by_HasEnd : HasEnd → IsLegal
  legal-by_HasEnd (inl n) = ([], S, empty_word e 1 n, refl)
  legal-by_HasEnd (inr h) = go h.1 h.0 h.2 h.3
    where
      at_end : (c : SemiState × ℕ) → Reaches game e 0 S c → IsLast e 1 c.1 → IsLegal
      at_end _ opening last =
          let w = last_word e 1 0 last in
          let r = in_range e 1 _ w.1 w.0 0 [] refl in
          absurd (omega arith)
      at_end _ (after w k T follows free leads) last =
          let start = first_part follows.0 ((w ++ k ∷ []) ++ follows.1) follows.2 follows.3 in
          let end = last_word e 1 k last in
          let crossed = cross e 1 k w follows.1 end.0 [] _ _ start (append_assoc w (k ∷ []) follows.1) end.1 refl in
          (w ++ k ∷ [], T, crossed, leads)

      go : (k : ℕ) (T : SemiState) → Reaches game e 0 S (T, k) → IsLast e 1 k → IsLegal
      go k T reach last = at_end (T, k) reach last
