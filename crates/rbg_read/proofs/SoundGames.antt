-- A game that a text reads to is sound.
use Rattle.std.proofs.Common.{◌≡◌, ℕ, suc, ◌≤◌, Bool, true, false, cond, not, List, [], ◌∷◌, ◌++◌, length, get_or, map, filter, All, Option, Some, None, inl, inr, refl, sym, ap, ◌∙◌, subst, arith, append-nil}
use Rattle.std.specs.Prelude.{if◌then◌else◌, count_by}
use Rattle.std.specs.List.{list_any, sum_by, flat_map, AllByRecursion}
use Rattle.std.specs.Str.{bytes_eq}
use Rattle.std.proofs.lemmas.Bool.{cases_Bool, or_parts, and_parts, eqb-true, ltb-false, not-false, not_from_true, not_from_false}
use Rattle.std.proofs.lemmas.List.{length-map, length-append}
use Rattle.std.proofs.lemmas.List.Elements.{All-nil, All-cons, All-map, All-append}
use Rattle.std.proofs.lemmas.List.Folds.{list_any_at}
use Rattle.std.proofs.lemmas.List.Sums.{sum_by-cons}
use Rattle.std.proofs.lemmas.Slice.Eq.{bytes_eq-Decides}
use Rattle.rbg_text.specs.Token.{Text}
use Rattle.rbg_text.specs.Syntax as g
use Rattle.rbg_text.specs.Syntax.{Declaration, Section, Sum, Base}
use Rattle.rbg_game.specs.Rules.{count}
use Rattle.rbg_game.specs.Games.{Game}
use Rattle.rbg_game.specs.Sound.{IsSoundArrow, IsSoundVertex, IsSoundGame}
use Rattle.rbg_read.specs.Means.{decimal, first_appearances, Names, names_of, values_of, players_of, pieces_of, variables_of, vertices_of, rules_of, sum_rules, declared, arrow, vertex, Means}
use Rattle.rbg_text.specs.Said.{further_vertex}
use Rattle.rbg_read.specs.Causes.{actions_in, expressions_of, all_actions, is_board, has_wrong_sections, has_not_two_players, is_unknown, action_uses_unknown, vertex_uses_unknown, has_unknown_name, has_repeated_name, is_too_large, has_large_number, action_count, passes_a_limit, bounds_of, is_large, has_large_expression, has_switch_inside, has_switch_in_pattern, first_cause}
use Rattle.rbg_read.specs.Reads.{Reads, reads}
use Rattle.rbg_read.specs.declared.fault.GameFault.{GameFault}
use Rattle.rbg_read.proofs.SmallExpressions.{index_below, none_parts}
use Rattle.rbg_read.proofs.SoundRules.{all_from, each_parts, Fine, sound, count_is, count_within}

-- ---- labels: each arrow's label is among the first appearances

kept : {X : Type 0} (p q : X → Bool) → ((y : X) → p y ≡ true → q y ≡ true) → (ys : List X) → list_any p ys ≡ true → list_any p (filter q ys) ≡ true
kept p q step [] h = h
kept p q step (y ∷ ys) h = elim (cases_Bool (p y)) [
  | inl is ↦ rw (step y is, is) refl
  | inr isnt ↦ (
      let rest : list_any p ys ≡ true = rw isnt at h in
      elim (cases_Bool (q y)) [
        | inl stays ↦ rw (stays, isnt) (kept p q step ys rest)
        | inr goes ↦ rw goes (kept p q step ys rest)
      ])
]

apart : (w x y : Text) → bytes_eq w x ≡ false → bytes_eq w y ≡ true → not (bytes_eq x y) ≡ true
apart w x y off same = elim (cases_Bool (bytes_eq x y)) [
  | inl is ↦ (
      let one : w ≡ x = (bytes_eq-Decides w y).0 same ∙ sym ((bytes_eq-Decides x y).0 is) in
      let on = (bytes_eq-Decides w x).1 one in
      absurd (cc))
  | inr isnt ↦ not_from_false (bytes_eq x y) isnt
]

known_first : (w : Text) (ls : List Text) → list_any (bytes_eq w) ls ≡ true → list_any (bytes_eq w) (first_appearances ls) ≡ true
known_first w [] h = h
known_first w (x ∷ ls) h = elim (cases_Bool (bytes_eq w x)) [
  | inl is ↦ rw is refl
  | inr isnt ↦ (
      let rest : list_any (bytes_eq w) ls ≡ true = rw isnt at h in
      rw isnt (kept (bytes_eq w) (λ y. not (bytes_eq x y)) (λ y same. apart w x y isnt same) (first_appearances ls) (known_first w ls rest)))
]

each_of : {X : Type 0} (P : X → Type 0) (xs : List X) → All P xs → AllByRecursion P xs
each_of P [] h = tt
each_of P (x ∷ xs) h = (h 0 x (omega arith), each_of P xs (λ k d l. h (suc k) d (omega arith)))

Known : List Text → Text → Type 0
Known labels w = is_unknown labels w ≡ false

all_known : (ls : List Text) → AllByRecursion (Known (first_appearances ls)) ls
unfolding Known
all_known ls =
    each_of (Known (first_appearances ls)) ls
    (λ k d l. not_from_true _ (known_first (get_or ls k d) ls
    (list_any_at (bytes_eq (get_or ls k d)) ls k d l ((bytes_eq-Decides (get_or ls k d) (get_or ls k d)).1 refl))))

-- ---- the board

module _ (names : Names) (game : Game) (labels_are : length game.labels ≡ length names.labels)
    (pieces_are : length game.pieces ≡ length names.pieces) (vertices_are : length game.vertices ≡ length names.vertices) where
  arrows_sound : (arrows : List g.WrittenArrow) → list_any (λ a. is_unknown names.vertices a.to) arrows ≡ false
      → AllByRecursion (Known names.labels) (map (λ a. a.label) arrows) → All (IsSoundArrow game) (map (arrow names) arrows)
  unfolding Known
  arrows_sound [] h known = All-nil (IsSoundArrow game)
  arrows_sound (a ∷ more) h known =
      let p = or_parts (is_unknown names.vertices a.to) (list_any (λ a. is_unknown names.vertices a.to) more) h in
      All-cons (IsSoundArrow game) (arrow names a) (map (arrow names) more)
      (omega (arith, index_below names.labels a.label known.0, labels_are), omega (arith, index_below names.vertices a.to p.0, vertices_are))
      (arrows_sound more p.1 known.1)

  vertices_sound : (vs : List g.WrittenVertex) → list_any (vertex_uses_unknown names) vs ≡ false
      → AllByRecursion (Known names.labels) (flat_map (λ v. map (λ a. a.label) v.arrows) vs) → All (IsSoundVertex game) (map (vertex names) vs)
  vertices_sound [] h known = All-nil (IsSoundVertex game)
  vertices_sound (v ∷ vs) h known =
      let p = or_parts (vertex_uses_unknown names v) (list_any (vertex_uses_unknown names) vs) h in
      let q = or_parts (is_unknown names.pieces v.piece) (list_any (λ a. is_unknown names.vertices a.to) v.arrows) p.0 in
      let k = each_parts (Known names.labels) (map (λ a. a.label) v.arrows) (flat_map (λ v. map (λ a. a.label) v.arrows) vs) known in
      All-cons (IsSoundVertex game) (vertex names v) (map (vertex names) vs)
      (omega (arith, index_below names.pieces v.piece q.0, pieces_are), arrows_sound v.arrows q.1 k.0)
      (vertices_sound vs p.1 k.1)

-- a text with a board has a vertex
board_some : (all : List Section) → count_by is_board all ≤ length (flat_map vertices_of all)
board_some [] = omega arith
board_some (g.players first more ∷ all) = omega (arith, sum_by-cons (λ x. cond (is_board x) 1 0) (g.players first more) all, board_some all)
board_some (g.pieces first more ∷ all) = omega (arith, sum_by-cons (λ x. cond (is_board x) 1 0) (g.pieces first more) all, board_some all)
board_some (g.variables some ∷ all) = omega (arith, sum_by-cons (λ x. cond (is_board x) 1 0) (g.variables some) all, board_some all)
board_some (g.board first more ∷ all) =
    omega (
      arith,
      sum_by-cons (λ x. cond (is_board x) 1 0) (g.board first more) all,
      board_some all,
      length-append (map further_vertex more) (flat_map vertices_of all),
    )
board_some (g.rules s ∷ all) = omega (arith, sum_by-cons (λ x. cond (is_board x) 1 0) (g.rules s) all, board_some all)

-- ---- variables

limits_are : (ds : List Declaration) → map (λ v. v.bound) (map declared ds) ≡ map (λ d. decimal d.bound) ds
limits_are [] = refl
limits_are (d ∷ ds) = ap (λ ns. decimal d.bound ∷ ns) (limits_are ds)

numbers_fit : (ds : List Declaration) → list_any (λ d. is_too_large d.bound) ds ≡ false → All (λ d. decimal d.bound ≤ 1000000) ds
numbers_fit ds h = all_from (λ d. is_too_large d.bound) (λ d. decimal d.bound ≤ 1000000) (λ d k. ltb-false 1000000 (decimal d.bound) k) ds h

-- ---- actions

fine_all : (names : Names) (limits : List ℕ) (bs : List Base) → list_any (action_uses_unknown names) bs ≡ false
    → list_any (is_large (values_of names) limits) (flat_map expressions_of bs) ≡ false → list_any has_switch_inside bs ≡ false
    → AllByRecursion (Fine names limits) bs
fine_all names limits [] known fits free = tt
fine_all names limits (b ∷ bs) known fits free =
    let p = or_parts (action_uses_unknown names b) (list_any (action_uses_unknown names) bs) known in
    let q = none_parts (is_large (values_of names) limits) (expressions_of b) (flat_map expressions_of bs) fits in
    let r = or_parts (has_switch_inside b) (list_any has_switch_inside bs) free in
    ((p.0, q.0, r.0), fine_all names limits bs p.1 q.1 r.1)

-- ---- the game of a tree

tree_game : List Section → Sum → Game
tree_game all s = record {
  pieces = flat_map pieces_of all;
  variables = map declared (flat_map players_of all ++ flat_map variables_of all);
  labels = (names_of all).labels;
  vertices = map (vertex (names_of all)) (flat_map vertices_of all);
  rules = sum_rules (names_of all) s;
}

is_tree_game : (all : List Section) (game : Game) → Means all game → (s : Sum) × (flat_map rules_of all ≡ s ∷ []) × (game ≡ tree_game all s)
unfolding tree_game
is_tree_game all game means = go (flat_map rules_of all) refl means.rules
  where
    go : (rules : List Sum) → flat_map rules_of all ≡ rules → game.rules ∷ [] ≡ map (sum_rules (names_of all)) rules → (s : Sum)
        × (flat_map rules_of all ≡ s ∷ []) × (game ≡ tree_game all s)
    go [] e h = absurd (cc)
    go (s ∷ []) e h =
        let same : game.rules ≡ sum_rules (names_of all) s = cc in
        (s, e, λ i. record { pieces = means.pieces i; variables = means.variables i; labels = means.labels i; vertices = means.vertices i; rules = same i })
    go (s ∷ t ∷ more) e h = absurd (cc)

-- a cause that is not the first
pub passed : (b : Bool) (c : GameFault) (o : Option GameFault) → (if b then Some c else o) ≡ None → (b ≡ false) × (o ≡ None)
passed true c o h = absurd (cc)
passed false c o h = (refl, h)

tree_sound : (all : List Section) (s : Sum) → flat_map rules_of all ≡ s ∷ [] → first_cause all ≡ None → IsSoundGame (tree_game all s)
unfolding tree_game
tree_sound all s one h =
    let names = names_of all in
    let players = flat_map players_of all in
    let variables = flat_map variables_of all in
    let vertices = flat_map vertices_of all in
    let h2 = passed (has_wrong_sections all) _ _ h in
    let h3 = passed (has_not_two_players all) _ _ h2.1 in
    let h4 = passed (has_unknown_name all) _ _ h3.1 in
    let h5 = passed (has_repeated_name all) _ _ h4.1 in
    let h6 = passed (has_large_number all) _ _ h5.1 in
    let h7 = passed (passes_a_limit all) _ _ h6.1 in
    let h8 = passed (has_large_expression all) _ _ h7.1 in
    let h9 = passed (has_switch_in_pattern all) _ _ h8.1 in
    let sections = and_parts _ _ (and_parts _ _ (not-false _ h2.0)).0 in
    let boards : count_by is_board all ≡ 1 = eqb-true _ _ sections.1 in
    let two : length players ≡ 2 = eqb-true _ _ (not-false _ h3.0) in
    let unknown = or_parts _ _ h4.0 in
    let numbers = or_parts _ _ h6.0 in
    let declarations = or_parts _ _ numbers.0 in
    let many_actions = or_parts _ _ h7.0 in
    let many_variables = or_parts _ _ many_actions.0 in
    let many_pieces = or_parts _ _ many_variables.0 in
    let many_labels = or_parts _ _ many_pieces.0 in
    let count = length-map (players ++ variables) declared in
    let both = length-append players variables in
    let variable_count = length-map variables (λ d. d.name) in
    let values : length (map declared (players ++ variables)) ≡ length (values_of names) =
    omega (arith, count, both, variable_count, length-map players (λ d. d.name), length-append (map (λ d. d.name) players) (map (λ d. d.name) variables)) in
    let vertex_count = length-map vertices (vertex names) in
    let vertex_names = length-map vertices (λ v. v.name) in
    let few : length (map (λ d. d.name) variables) ≤ 32 = ltb-false 32 _ many_variables.1 in
    let actions : all_actions all ≡ actions_in s = ap (λ r. flat_map actions_in r) one ∙ append-nil (actions_in s) in
    let limited : sum_by action_count (all_actions all) ≤ 4096 = ltb-false 4096 _ many_actions.1 in
    record {
      has_players = omega (arith, count, both, two);
      few_variables = omega (arith, count, both, two, variable_count, few);
      bounds_fit = All-map (λ v. v.bound ≤ 1000000) declared (players ++ variables)
          (All-append (λ d. decimal d.bound ≤ 1000000) players variables (numbers_fit players declarations.0) (numbers_fit variables declarations.1));
      few_pieces = ltb-false 64 _ many_pieces.1;
      few_labels = ltb-false 64 _ many_labels.1;
      has_vertex = omega (arith, board_some all, boards, vertex_count);
      few_vertices = omega (arith, ltb-false 128 (length names.vertices) many_labels.0, vertex_count, vertex_names);
      vertices_are = vertices_sound names (tree_game all s) refl refl (vertex_count ∙ sym vertex_names) vertices unknown.0
          (all_known (flat_map (λ v. map (λ a. a.label) v.arrows) vertices));
      few_actions = omega (arith, count_is names s, ap (λ bs. sum_by action_count bs) actions, limited);
      rules_are = sound names (bounds_of all) (tree_game all s) refl refl values (limits_are (players ++ variables)) s
          (subst (λ bs. AllByRecursion (Fine names (bounds_of all)) bs) actions (fine_all names (bounds_of all) (all_actions all) unknown.1 h8.0 h9.0));
    }

pub read_sound : (text : Text) (game : Game) → Reads text game → IsSoundGame game
read_sound text game (reads {all = all} short flat parses fine means) =
    let tree = is_tree_game all game means in
    subst IsSoundGame (sym tree.2) (tree_sound all tree.0 tree.1 fine)

pub numbers_within : (game : Game) → IsSoundGame game → count game.rules ≤ 4096
numbers_within game h = omega (arith, count_within game.rules, h.few_actions)
