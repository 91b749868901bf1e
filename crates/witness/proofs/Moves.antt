-- What the moves of the game are, by its words and its actions, and how far a search for them goes.
use Rattle.std.proofs.Common.{◌≡◌, ℕ, ◌<◌, ◌⊎◌, inl, inr, Bool, true, false, List, [], ◌∷◌, length, Option, Some, Contains, refl, sym, subst, arith, lit≤}
use Rattle.rbg_game.specs.Rules.{Regex, Action, is_switch, action_at, pattern, one, alt, cat, switch, assignment}
use Rattle.rbg_game.specs.Expressions.{number}
use Rattle.std.specs.Option.{option_or}
use Rattle.rbg_game.specs.Take.{sets}
use Rattle.rbg_game.specs.declared.roles.Player.TheVariants.{First}
use Rattle.rbg_game.specs.declared.roles.Role.TheVariants.{Keeper, Player}
use Rattle.rbg_game.specs.declared.position.Position.{Position}
use Rattle.rbg_game.specs.declared.position.SemiState.{SemiState}
use Rattle.legal_moves.specs.Effects.{EffectAt}
use Rattle.legal_moves.specs.Moves.{IsSuccessor, HasNoMove, start_of}
use Rattle.legal_moves.specs.Glushkov.{IsFirst, IsNext, IsNextAt}
use Rattle.legal_moves.specs.Searches.{Searched, begun, gone, Reaches, IsWide, IsWideFrom, many, within, place_at}
use Rattle.legal_moves.proofs.Distinct.{distinct-le}
use Rattle.legal_moves.proofs.EffectLemmas.{EffectAt-functional, EffectAt-by_action, action_at-one, option_or-cases}
use Rattle.legal_moves.proofs.searches.SearchLemmas.{Searched-by_move, move-by_Searched, Searched-by_Reaches}
use Rattle.legal_moves.proofs.automata.Walks.{IsFirst-by_next, IsNext-by_next}
use Rattle.legal_moves.proofs.searches.WidthLemmas.{contains_by_get}
use Rattle.witness.specs.Game.{witness_game, white_chooses, white_has_won, black_has_won}

abbrev rules : Regex
rules = witness_game.rules

abbrev pub start : Position
start = start_of witness_game

abbrev Acts : ℕ → SemiState → SemiState → Type 0
Acts = EffectAt witness_game rules 1

-- ---- which actions follow one another

first_is : (l : ℕ) → IsFirst rules 1 l → l ≡ 1
first_is l h = grind arith

behind_1 : (l : ℕ) → IsNext rules 1 1 l → (l ≡ 2) ⊎ (l ≡ 3)
behind_1 l h = grind arith

behind_2 : (l : ℕ) → IsNext rules 1 2 l → l ≡ 4
behind_2 l h = grind arith

behind_3 : (l : ℕ) → IsNext rules 1 3 l → l ≡ 4
behind_3 l h = grind arith

behind_4 : (l : ℕ) → IsNext rules 1 4 l → ⊥
behind_4 l h = grind arith

-- ---- what they do

abbrev given_to_black : SemiState
given_to_black = record white_chooses.state { values = record { items = 0 ∷ 1 ∷ [] } }

abbrev given_to_white : SemiState
given_to_white = record white_chooses.state { values = record { items = 1 ∷ 0 ∷ [] } }

act_1 : Acts 1 start.state white_chooses.state
act_1 = EffectAt-by_action witness_game rules 1 1 _ _ _ refl refl

act_2 : Acts 2 white_chooses.state given_to_black
act_2 = EffectAt-by_action witness_game rules 1 2 _ _ _ refl (1, refl, lit≤ tt, refl)

act_3 : Acts 3 white_chooses.state given_to_white
act_3 = EffectAt-by_action witness_game rules 1 3 _ _ _ refl (1, refl, lit≤ tt, refl)

act_4_black : Acts 4 given_to_black black_has_won.state
act_4_black = EffectAt-by_action witness_game rules 1 4 _ _ _ refl refl

act_4_white : Acts 4 given_to_white white_has_won.state
act_4_white = EffectAt-by_action witness_game rules 1 4 _ _ _ refl refl

-- ---- what a search comes to

-- an action leads where it is known to lead
carried : (P : SemiState → ℕ → Type 0) (l m : ℕ) (T U V : SemiState) → l ≡ m → Acts l T U → Acts m T V → P V m → P U l
carried P l m T U V same act known here =
    let act_m : Acts m T U = subst (λ j. Acts j T U) same act in
    let state : V ≡ U = EffectAt-functional witness_game rules 1 m T V U known act_m in
    subst (λ j. P U j) (sym same) (subst (λ W. P W m) state here)

-- what holds at first and from each configuration to the next holds of all
module _ (place : ℕ) (S : SemiState) (P : SemiState → ℕ → Type 0) (first : P S 0)
    (step : (T U : SemiState) (k l : ℕ) → P T k → is_switch (action_at rules 1 k) ≡ false → IsNextAt rules (place_at place k) l → Acts l T U → P U l) where
  found : (w : List ℕ) (T : SemiState) (k : ℕ) → Searched witness_game rules place S w T k → P T k
  found _ _ _ begun = first
  found _ _ _ (gone w T k U l before plain next act) = step T U k l (found w T k before) plain next act

data OfStart : SemiState → ℕ → Type 0 where
  begins : OfStart start.state 0
  hands_over : OfStart white_chooses.state 1

start_step : (T U : SemiState) (k l : ℕ) → OfStart T k → is_switch (action_at rules 1 k) ≡ false → IsNextAt rules (place_at 0 k) l → Acts l T U → OfStart U l
start_step _ U _ l begins plain next act =
    carried OfStart l 1 start.state U white_chooses.state (first_is l (IsFirst-by_next rules l next)) act act_1 hands_over
start_step _ U _ l hands_over plain next act = absurd (cc)

of_start : (w : List ℕ) (T : SemiState) (k : ℕ) → Searched witness_game rules 0 start.state w T k → OfStart T k
of_start = found 0 start.state OfStart begins start_step

data OfChoice : SemiState → ℕ → Type 0 where
  chooses : OfChoice white_chooses.state 0
  gives : OfChoice given_to_black 2
  takes : OfChoice given_to_white 3
  black_wins : OfChoice black_has_won.state 4
  white_wins : OfChoice white_has_won.state 4

choice_step : (T U : SemiState) (k l : ℕ) → OfChoice T k → is_switch (action_at rules 1 k) ≡ false → IsNextAt rules (place_at 1 k) l → Acts l T U → OfChoice U l
choice_step _ U _ l chooses plain next act = go (behind_1 l (IsNext-by_next rules 0 l next))
  where
    go : (l ≡ 2) ⊎ (l ≡ 3) → OfChoice U l
    go (inl same) = carried OfChoice l 2 white_chooses.state U given_to_black same act act_2 gives
    go (inr same) = carried OfChoice l 3 white_chooses.state U given_to_white same act act_3 takes
choice_step _ U _ l gives plain next act =
    carried OfChoice l 4 given_to_black U black_has_won.state (behind_2 l (IsNext-by_next rules 1 l next)) act act_4_black black_wins
choice_step _ U _ l takes plain next act =
    carried OfChoice l 4 given_to_white U white_has_won.state (behind_3 l (IsNext-by_next rules 2 l next)) act act_4_white white_wins
choice_step _ U _ l black_wins plain next act = absurd (cc)
choice_step _ U _ l white_wins plain next act = absurd (cc)

of_choice : (w : List ℕ) (T : SemiState) (k : ℕ) → Searched witness_game rules 1 white_chooses.state w T k → OfChoice T k
of_choice = found 1 white_chooses.state OfChoice chooses choice_step

data OfEnd (S : SemiState) : SemiState → ℕ → Type 0 where
  ends : OfEnd S S 0

end_step : (S T U : SemiState) (k l : ℕ) → OfEnd S T k → is_switch (action_at rules 1 k) ≡ false → IsNextAt rules (place_at 4 k) l → Acts l T U → OfEnd S U l
end_step S _ U _ l ends plain next act = absurd (behind_4 l (IsNext-by_next rules 3 l next))

of_end : (S : SemiState) (w : List ℕ) (T : SemiState) (k : ℕ) → Searched witness_game rules 4 S w T k → OfEnd S T k
of_end S = found 4 S (OfEnd S) ends (end_step S)

-- ---- the moves

-- a position is its two parts
position_is : (at other : Position) → at.state ≡ other.state → at.place ≡ other.place → at ≡ other
position_is at other state place = λ i. record { state = state i; place = place i }

only_start : (next : Position) → OfStart next.state next.place → is_switch (action_at rules 1 next.place) ≡ true → next ≡ white_chooses
only_start next is switches = go next.state next.place is switches (position_is next)
  where
    go : (T : SemiState) (k : ℕ) → OfStart T k → is_switch (action_at rules 1 k) ≡ true
        → ((other : Position) → T ≡ other.state → k ≡ other.place → next ≡ other) → next ≡ white_chooses
    go _ _ begins switches same = absurd (cc)
    go _ _ hands_over switches same = same white_chooses refl refl

-- the start has this successor alone
pub only_hands_over : (next : Position) → IsSuccessor witness_game start next → next ≡ white_chooses
only_hands_over next (w, move) =
    let is = Searched-by_move witness_game start w next move in
    only_start next (of_start w next.state next.place is.0) is.1

only_choice : (next : Position) → OfChoice next.state next.place → is_switch (action_at rules 1 next.place) ≡ true
    → (next ≡ black_has_won) ⊎ (next ≡ white_has_won)
only_choice next is switches = go next.state next.place is switches (position_is next)
  where
    go : (T : SemiState) (k : ℕ) → OfChoice T k → is_switch (action_at rules 1 k) ≡ true
        → ((other : Position) → T ≡ other.state → k ≡ other.place → next ≡ other) → (next ≡ black_has_won) ⊎ (next ≡ white_has_won)
    go _ _ chooses switches same = absurd (cc)
    go _ _ gives switches same = absurd (cc)
    go _ _ takes switches same = absurd (cc)
    go _ _ black_wins switches same = inl (same black_has_won refl refl)
    go _ _ white_wins switches same = inr (same white_has_won refl refl)

-- where white chooses, there are these two
pub only_two : (next : Position) → IsSuccessor witness_game white_chooses next → (next ≡ black_has_won) ⊎ (next ≡ white_has_won)
only_two next (w, move) =
    let is = Searched-by_move witness_game white_chooses w next move in
    only_choice next (of_choice w next.state next.place is.0) is.1

no_end : (S T : SemiState) (k : ℕ) → OfEnd S T k → is_switch (action_at rules 1 k) ≡ true → ⊥
no_end S _ _ ends switches = cc

-- after the last action there is none
pub play_is_over : (at : Position) → at.place ≡ 4 → HasNoMove witness_game at
play_is_over at last next (w, move) =
    let is = Searched-by_move witness_game at w next move in
    no_end at.state next.state next.place
    (of_end at.state w next.state next.place (subst (λ p. Searched witness_game rules p at.state w next.state next.place) last is.0)) is.1

pub keeper_hands_over : IsSuccessor witness_game start white_chooses
keeper_hands_over = (
  1 ∷ [],
  move-by_Searched witness_game start (1 ∷ []) white_chooses
      (gone [] start.state 0 white_chooses.state 1 begun refl (inl (refl, inl (inl refl))) act_1) refl,
)

pub white_may_lose : IsSuccessor witness_game white_chooses black_has_won
white_may_lose = (
  2 ∷ 4 ∷ [],
  move-by_Searched witness_game white_chooses (2 ∷ 4 ∷ []) black_has_won
      (gone (2 ∷ []) given_to_black 2 black_has_won.state 4
      (gone [] white_chooses.state 0 given_to_black 2 begun refl (inr (inl (inr (inr (refl, inl refl))))) act_2)
      refl (inr (inr (inr (inl (inl refl), refl)))) act_4_black) refl,
)

pub white_may_win : IsSuccessor witness_game white_chooses white_has_won
white_may_win = (
  3 ∷ 4 ∷ [],
  move-by_Searched witness_game white_chooses (3 ∷ 4 ∷ []) white_has_won
      (gone (3 ∷ []) given_to_white 3 white_has_won.state 4
      (gone [] white_chooses.state 0 given_to_white 3 begun refl (inr (inl (inr (inr (refl, inr refl))))) act_3)
      refl (inr (inr (inr (inl (inr refl), refl)))) act_4_white) refl,
)

-- ---- no search is too wide

not_one : (b : Action) (n k : ℕ) (a : Action) → (b ≡ a → ⊥) → action_at (one b) n k ≡ Some a → ⊥
not_one b n k a apart at = apart (action_at-one b a n k at).1

not_either : (x y : Option Action) (a : Action) → (x ≡ Some a → ⊥) → (y ≡ Some a → ⊥) → option_or x y ≡ Some a → ⊥
not_either x y a left right at = go (option_or-cases x y a at)
  where
    go : (x ≡ Some a) ⊎ (y ≡ Some a) → ⊥
    go (inl here) = left here
    go (inr there) = right there

abbrev choice : Regex
choice = alt (sets 1 1) (sets 0 1)

-- the rules have no pattern
no_pattern : (k : ℕ) (positive : Bool) (inner : Regex) → action_at rules 1 k ≡ Some (pattern positive inner) → ⊥
no_pattern k positive inner =
    let asks : Action = pattern positive inner in
    not_either (action_at (cat (one (switch (Player First))) choice) 1 k) (action_at (one (switch Keeper)) 4 k) asks
    (not_either (action_at (one (switch (Player First))) 1 k) (action_at choice 2 k) asks
    (not_one (switch (Player First)) 1 k asks (λ same. cc))
    (not_either (action_at (sets 1 1) 2 k) (action_at (sets 0 1) 3 k) asks
    (not_one (assignment 1 (number 1)) 2 k asks (λ same. cc)) (not_one (assignment 0 (number 1)) 3 k asks (λ same. cc))))
    (not_one (switch Keeper) 4 k asks (λ same. cc))

-- what comes to a few configurations alone, and has no pattern, is not too wide
few_are_narrow : (e : Regex) (place : ℕ) (S : SemiState) (few : List (SemiState × ℕ))
    → ((k : ℕ) (positive : Bool) (inner : Regex) → action_at e 1 k ≡ Some (pattern positive inner) → ⊥)
    → ((c : SemiState × ℕ) → Reaches witness_game e place S c → Contains few c) → length few < 65537 → IsWideFrom witness_game e place S → ⊥
few_are_narrow _ _ _ few none all less (many e place S reached are apart count) =
    let most = distinct-le few reached apart (λ k d inside. all _ (are k d inside)) in
    omega arith
few_are_narrow _ _ _ few none all less (within e place S w k T positive inner follows plain leads at wide) = none k positive inner at

-- the configurations of each search
abbrev of_start_all : List (SemiState × ℕ)
of_start_all = (start.state, 0) ∷ (white_chooses.state, 1) ∷ []

abbrev of_choice_all : List (SemiState × ℕ)
of_choice_all =
    (white_chooses.state, 0) ∷ (given_to_black, 2) ∷ (given_to_white, 3) ∷ (black_has_won.state, 4) ∷ (white_has_won.state, 4) ∷ []

in_start : (T : SemiState) (k : ℕ) → OfStart T k → Contains of_start_all (T, k)
in_start _ _ begins = contains_by_get of_start_all 0 _ refl
in_start _ _ hands_over = contains_by_get of_start_all 1 _ refl

in_choice : (T : SemiState) (k : ℕ) → OfChoice T k → Contains of_choice_all (T, k)
in_choice _ _ chooses = contains_by_get of_choice_all 0 _ refl
in_choice _ _ gives = contains_by_get of_choice_all 1 _ refl
in_choice _ _ takes = contains_by_get of_choice_all 2 _ refl
in_choice _ _ black_wins = contains_by_get of_choice_all 3 _ refl
in_choice _ _ white_wins = contains_by_get of_choice_all 4 _ refl

abbrev of_end_all : SemiState → List (SemiState × ℕ)
of_end_all S = (S, 0) ∷ []

in_end : (S T : SemiState) (k : ℕ) → OfEnd S T k → Contains (of_end_all S) (T, k)
in_end S _ _ ends = contains_by_get (of_end_all S) 0 _ refl

pub start_is_narrow : IsWide witness_game start → ⊥
start_is_narrow =
    few_are_narrow rules 0 start.state of_start_all no_pattern
    (λ c reaches. let s = Searched-by_Reaches witness_game rules 0 start.state c reaches in in_start c.0 c.1 (of_start s.0 c.0 c.1 s.1)) (omega arith)

pub choice_is_narrow : IsWide witness_game white_chooses → ⊥
choice_is_narrow =
    few_are_narrow rules 1 white_chooses.state of_choice_all no_pattern
    (λ c reaches. let s = Searched-by_Reaches witness_game rules 1 white_chooses.state c reaches in in_choice c.0 c.1 (of_choice s.0 c.0 c.1 s.1)) (omega arith)

pub end_is_narrow : (S : SemiState) → IsWideFrom witness_game rules 4 S → ⊥
end_is_narrow S =
    few_are_narrow rules 4 S (of_end_all S) no_pattern
    (λ c reaches. let s = Searched-by_Reaches witness_game rules 4 S c reaches in in_end S c.0 c.1 (of_end S s.0 c.0 c.1 s.1)) (omega arith)
