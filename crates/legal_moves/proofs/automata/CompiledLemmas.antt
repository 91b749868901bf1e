-- A compiled game: its tables, and the start.
use Rattle.std.proofs.Common.{◌≡◌, ℕ, zero, suc, Some, ◌+◌, ◌-◌, ◌<◌, ◌≤◌, ◌⊎◌, inl, inr, List, [], ◌∷◌, ◌++◌, length, map, take, slice_get, slice_index, unwrap_or, refl, sym, ap, ◌∙◌, subst, arith, length-append}
use Rattle.std.proofs.lemmas.List.{length-map, take_all}
use Rattle.std.proofs.lemmas.List.Elements.{All-map, All-weaker}
use Rattle.arrayvec.specs.ArrayVec.{ArrayVec}
use Rattle.rbg_game.specs.declared.game.Game.{Game as ProgramGame}
use Rattle.rbg_game.specs.declared.roles.Role.TheVariants.{Keeper}
use Rattle.rbg_game.specs.declared.position.Position.{Position}
use Rattle.rbg_game.specs.Meaning.{game_of, vertex_of, variable_of}
use Rattle.rbg_game.specs.Rules.{Regex, one, empty, cat, alt, star, Action, shift, on, off, assignment, comparison, switch, pattern}
use Rattle.rbg_game.specs.Games.{Game}
use Rattle.rbg_game.specs.Sound.{IsSoundGame, IsSoundRegex, IsSoundAction, IsSoundVertex, whole_count, inner_count}
use Rattle.rbg_game.specs.Positions.{IsPositionOf}
use Rattle.legal_moves.specs.Moves.{start_of}
use Rattle.legal_moves.specs.Tables.{inner_of, inner_in, AreTables}
use Rattle.legal_moves.specs.Configurations.{expressions_of, Configuration}
use Rattle.legal_moves.specs.lemmas.Configurations.{expression_at, IsReady, IsSearch}
use Rattle.legal_moves.specs.Searches.{IsWideFrom}
use Rattle.rbg_game.specs.declared.position.SemiState.{SemiState}
use Rattle.legal_moves.specs.declared.automaton.table.Table.{Table}
use Rattle.legal_moves.proofs.GetLemmas.{slice_get-push, slice_get-end}
use Rattle.legal_moves.proofs.automata.ReadyLemmas.{get_within}
use Rattle.legal_moves.proofs.automata.StepLemmas.{slice_get-append_cases}

pub AreTables-none : (tables : List Table) → tables ≡ [] → AreTables [] tables
AreTables-none tables none = record {
  as_many = ap length none;
  each = λ i table e at_table at_e. absurd (cc);
}

module _ (game : Game) (tables : List Table) (are : AreTables (expressions_of game) tables) where
  pub some_table : 1 ≤ length tables
  some_table = omega (arith, are.as_many, length-append (inner_of game.rules) (game.rules ∷ []))

  -- the rules come last
  pub rules_last : expression_at game (length tables - 1) ≡ game.rules
  rules_last =
      let last : length tables - 1 ≡ length (inner_of game.rules) = omega (arith, are.as_many, length-append (inner_of game.rules) (game.rules ∷ [])) in
      ap (λ o. unwrap_or o empty) (ap (slice_get (expressions_of game)) last ∙ slice_get-end (inner_of game.rules) game.rules)

  pub rules_at : (n : ℕ) → n ≡ length tables → expression_at game (n - 1) ≡ game.rules
  rules_at n many = ap (λ m. expression_at game (m - 1)) many ∙ rules_last

  pub rules_ready : IsSoundGame game → IsReady game tables (length tables - 1)
  rules_ready sound = record {
    sound = sound;
    tables_are = are;
    within = omega (arith, some_table);
    expression_is = subst (IsSoundRegex game) (sym rules_last) sound.rules_are;
    small = subst (λ e. whole_count e ≤ 4096) (sym rules_last) sound.few_actions;
  }

-- ---- the start

pub map_twice : {A B C : Type 0} (f : A → B) (g : B → C) (xs : List A) → map (λ x. g (f x)) xs ≡ map g (map f xs)
map_twice f g [] = refl
map_twice f g (x ∷ xs) = ap (λ ys. g (f x) ∷ ys) (map_twice f g xs)

all_zero : {A : Type 0} (xs : List A) (i : ℕ) → slice_index (map (λ x. 0) xs) i ≡ 0
all_zero [] i = refl
all_zero (x ∷ xs) zero = refl
all_zero (x ∷ xs) (suc i) = all_zero xs i

pub start_position : (game : Game) → IsSoundGame game → IsPositionOf game (start_of game)
start_position game sound = record {
  state_is = record {
    pieces_fit = length-map game.vertices (λ v. v.piece);
    pieces_are = All-map (λ x. x < length game.pieces) (λ v. v.piece) game.vertices
        (All-weaker (IsSoundVertex game) (λ v. v.piece < length game.pieces) (λ v h. h.0) game.vertices sound.vertices_are);
    values_fit = length-map game.variables (λ v. 0);
    values_are = λ v inside. omega (arith, all_zero game.variables v);
    vertex_is = omega (arith, sound.has_vertex);
  };
  place_is = omega arith;
}

pub start_is : (game : ProgramGame) (pieces values : ArrayVec ℕ) → pieces.items ≡ map (λ v. v.piece) game.vertices.items
    → values.items ≡ map (λ v. 0) game.variables.items → let at : Position =
    record { state = record { mover = Keeper; pieces = pieces; values = values; vertex = 0 }; place = 0 } in at ≡ start_of (game_of game)
start_is game pieces values of_pieces of_values =
    let e = of_pieces ∙ map_twice vertex_of (λ v. v.piece) game.vertices.items in
    let f = of_values ∙ map_twice variable_of (λ v. 0) game.variables.items in
    λ i. record {
      state = record {
        mover = Keeper;
        pieces = record { items = e i };
        values = record { items = f i };
        vertex = 0;
      };
      place = 0;
    }

pub taken_all : {A B : Type 0} (f : A → B) (xs ys : List A) (n : ℕ) → ys ≡ xs → length ys ≤ n → map f (take n ys) ≡ map f xs
taken_all f xs ys n same past = ap (map f) (take_all n ys past ∙ same)

-- the search of the last table is that of the rules
pub rules_search : (game : Game) (tables : List Table) (n place : ℕ) (S T : SemiState) (cs : List Configuration)
    → AreTables (expressions_of game) tables → n ≡ length tables → S ≡ T → IsSearch game (expression_at game (n - 1)) place S cs
    → IsSearch game game.rules place T cs
rules_search game tables n place S T cs are many same h =
    subst (λ V. IsSearch game game.rules place V cs) same
    (subst (λ e. IsSearch game e place S cs) (ap (λ m. expression_at game (m - 1)) many ∙ rules_last game tables are) h)

pub rules_wide : (game : Game) (tables : List Table) (n place : ℕ) (S T : SemiState) → AreTables (expressions_of game) tables
    → n ≡ length tables → S ≡ T → IsWideFrom game (expression_at game (n - 1)) place S → IsWideFrom game game.rules place T
rules_wide game tables n place S T are many same h =
    subst (λ V. IsWideFrom game game.rules place V) same
    (subst (λ e. IsWideFrom game e place S) (ap (λ m. expression_at game (m - 1)) many ∙ rules_last game tables are) h)

-- ---- each expression that is searched

module _ (game : Game) where
  -- it is sound, and has no more actions than that
  abbrev IsSoundWithin : ℕ → Regex → Type 0
  IsSoundWithin n d = IsSoundRegex game d × (whole_count d ≤ n)

  within_both : (xs ys : List Regex) (m n : ℕ) → ((i : ℕ) (d : Regex) → slice_get xs i ≡ Some d → IsSoundWithin m d)
      → ((i : ℕ) (d : Regex) → slice_get ys i ≡ Some d → IsSoundWithin n d) → (i : ℕ) (d : Regex) → slice_get (xs ++ ys) i ≡ Some d → IsSoundWithin (m + n) d
  within_both xs ys m n left right i d at = go (slice_get-append_cases xs ys i d at)
    where
      go : (slice_get xs i ≡ Some d) ⊎ ((j : ℕ) × (i ≡ length xs + j) × (slice_get ys j ≡ Some d)) → IsSoundWithin (m + n) d
      go (inl h) = let r = left i d h in (r.0, omega (arith, r.1))
      go (inr h) = let r = right h.0 d h.2 in (r.0, omega (arith, r.1))

  within_push : (xs : List Regex) (e : Regex) (n : ℕ) → IsSoundWithin n e
      → ((i : ℕ) (d : Regex) → slice_get xs i ≡ Some d → IsSoundWithin n d) → (i : ℕ) (d : Regex) → slice_get (xs ++ e ∷ []) i ≡ Some d → IsSoundWithin n d
  within_push xs e n last before i d at = go (slice_get-push xs e i d at)
    where
      go : (slice_get xs i ≡ Some d) ⊎ (i ≡ length xs) × (d ≡ e) → IsSoundWithin n d
      go (inl h) = before i d h
      go (inr h) = subst (IsSoundWithin n) (sym h.1) last

  nothing_within : (n i : ℕ) (d : Regex) → slice_get [] i ≡ Some d → IsSoundWithin n d
  nothing_within n i d at = absurd (cc)

  mutual
    sound_inner : (e : Regex) → IsSoundRegex game e → (i : ℕ) (d : Regex) → slice_get (inner_of e) i ≡ Some d → IsSoundWithin (whole_count e) d
    sound_inner (one a) h i d at = let r = sound_in a h i d at in (r.0, omega (arith, r.1))
    sound_inner empty h i d at = nothing_within 0 i d at
    sound_inner (cat a b) h i d at = within_both (inner_of a) (inner_of b) (whole_count a) (whole_count b) (sound_inner a h.0) (sound_inner b h.1) i d at
    sound_inner (alt a b) h i d at = within_both (inner_of a) (inner_of b) (whole_count a) (whole_count b) (sound_inner a h.0) (sound_inner b h.1) i d at
    sound_inner (star a) h i d at = sound_inner a h i d at

    sound_in : (a : Action) → IsSoundAction game a → (i : ℕ) (d : Regex) → slice_get (inner_in a) i ≡ Some d → IsSoundWithin (inner_count a) d
    sound_in (pattern positive e) h i d at = within_push (inner_of e) e (whole_count e) (h.1, omega arith) (sound_inner e h.1) i d at
    sound_in (shift l) h i d at = nothing_within 0 i d at
    sound_in (on xs) h i d at = nothing_within 0 i d at
    sound_in (off x) h i d at = nothing_within 0 i d at
    sound_in (assignment v r) h i d at = nothing_within 0 i d at
    sound_in (comparison a op b) h i d at = nothing_within 0 i d at
    sound_in (switch r) h i d at = nothing_within 0 i d at

  pub all_ready : (tables : List Table) → AreTables (expressions_of game) tables → IsSoundGame game → (i : ℕ) → i < length tables → IsReady game tables i
  all_ready tables are sound i inside =
      let there = get_within (expressions_of game) i (omega (arith, are.as_many, inside)) in
      let good = within_push (inner_of game.rules) game.rules (whole_count game.rules) (sound.rules_are, omega arith)
      (sound_inner game.rules sound.rules_are) i (expression_at game i) there in
      record {
        sound = sound;
        tables_are = are;
        within = inside;
        expression_is = good.0;
        small = omega (arith, good.1, sound.few_actions);
      }
