-- The parts of a text are those of its syntax tree, the causes against them are those against the tree, and their game is the
-- one that the tree means.
use Rattle.std.proofs.Common.{◌≡◌, ℕ, suc, Bool, true, false, not, ◌&&◌, ◌||◌, nat_lt, nat_le, eqb, cond, List, [], ◌∷◌, ◌++◌, length, map, Option, Some, None, refl, sym, ap, ◌∙◌, arith, zero-add}
use Rattle.std.specs.Prelude.{if◌then◌else◌, count_by}
use Rattle.std.specs.List.{list_any, flat_map, sum_by}
use Rattle.std.proofs.lemmas.Bool.{ne_eqb, lt-leb}
use Rattle.std.proofs.lemmas.List.{length-map, append-nil}
use Rattle.std.proofs.lemmas.List.Sums.{sum_by-cons}
use Rattle.rbg_text.specs.Syntax as g
use Rattle.rbg_text.specs.Syntax.{Declaration, Section, Sum, Base}
use Rattle.rbg_text.specs.Said.{Said, said_of}
use Rattle.rbg_text.specs.Parse.{ParseStep}
use Rattle.rbg_text.specs.Postfix.{sum_onto}
use Rattle.rbg_read.specs.Means.{Names, names_of, values_of, players_of, pieces_of, variables_of, vertices_of, rules_of, sum_rules, Means}
use Rattle.rbg_read.specs.Causes.{actions_in, expressions_of, all_actions, all_expressions, is_players, is_pieces, is_variables, is_board, is_rules, has_wrong_sections, has_not_two_players, vertex_uses_unknown, has_repeated_name, is_large, is_too_large, literals_in, action_uses_unknown, has_switch_inside, action_count, bounds_of, first_cause}
use Rattle.rbg_read.specs.lemmas.Parts.{Parts, Kinds, kinds_of, parts_of, collected, players_said, pieces_said, variables_said, board_said, rules_said, known_of}
use Rattle.rbg_read.specs.lemmas.Flat.{flat_cause, step_uses_unknown, is_large_number, is_action, bounds}
use Rattle.rbg_read.specs.lemmas.Build.{flat_game}
use Rattle.rbg_read.specs.lemmas.Sizes.{has_large_size}
use Rattle.rbg_read.specs.lemmas.Switches.{has_inner_switch}
use Rattle.rbg_read.specs.declared.fault.GameFault.{GameFault}
use Rattle.rbg_read.specs.declared.fault.GameFault.TheVariants as cause
use Rattle.rbg_read.proofs.StepTests.{unknown_names, large_numbers, count_in}
use Rattle.rbg_read.proofs.StepSizes.{large_sizes}
use Rattle.rbg_read.proofs.StepSwitches.{inner_switches}
use Rattle.rbg_read.proofs.StepRules.{resolved_is}

-- ---- sections of a kind

-- what the only section of a kind says is all that is said of the kind
all_players : (all : List Section) → flat_map players_of all ≡ flat_map (λ ds. ds) (flat_map players_said (map said_of all))
all_players [] = refl
all_players (g.players first more ∷ all) = ap (λ ds. (first ∷ more) ++ ds) (all_players all)
all_players (g.pieces first more ∷ all) = all_players all
all_players (g.variables some ∷ all) = all_players all
all_players (g.board first more ∷ all) = all_players all
all_players (g.rules s ∷ all) = all_players all

all_pieces : (all : List Section) → flat_map pieces_of all ≡ flat_map (λ ws. ws) (flat_map pieces_said (map said_of all))
all_pieces [] = refl
all_pieces (g.players first more ∷ all) = all_pieces all
all_pieces (g.pieces first more ∷ all) = ap (λ ws. (first ∷ more) ++ ws) (all_pieces all)
all_pieces (g.variables some ∷ all) = all_pieces all
all_pieces (g.board first more ∷ all) = all_pieces all
all_pieces (g.rules s ∷ all) = all_pieces all

all_variables : (all : List Section) → flat_map variables_of all ≡ flat_map (λ ds. ds) (flat_map variables_said (map said_of all))
all_variables [] = refl
all_variables (g.players first more ∷ all) = all_variables all
all_variables (g.pieces first more ∷ all) = all_variables all
all_variables (g.variables some ∷ all) = ap (λ ds. some ++ ds) (all_variables all)
all_variables (g.board first more ∷ all) = all_variables all
all_variables (g.rules s ∷ all) = all_variables all

all_vertices : (all : List Section) → flat_map vertices_of all ≡ flat_map (λ vs. vs) (flat_map board_said (map said_of all))
all_vertices [] = refl
all_vertices (g.players first more ∷ all) = all_vertices all
all_vertices (g.pieces first more ∷ all) = all_vertices all
all_vertices (g.variables some ∷ all) = all_vertices all
all_vertices (g.board first more ∷ all) = ap (λ vs. vertices_of (g.board first more) ++ vs) (all_vertices all)
all_vertices (g.rules s ∷ all) = all_vertices all

all_rules : (all : List Section) → flat_map rules_said (map said_of all) ≡ map (λ s. sum_onto s []) (flat_map rules_of all)
all_rules [] = refl
all_rules (g.players first more ∷ all) = all_rules all
all_rules (g.pieces first more ∷ all) = all_rules all
all_rules (g.variables some ∷ all) = all_rules all
all_rules (g.board first more ∷ all) = all_rules all
all_rules (g.rules s ∷ all) = ap (λ rs. sum_onto s [] ∷ rs) (all_rules all)

-- how many sections of a kind there are
module _ (p : Section → Bool) (X : Type 0) (said : Said → List X) (same : (s : Section) → cond (p s) 1 0 ≡ length (said (said_of s))) where
  counted : (all : List Section) → count_by p all ≡ length (flat_map said (map said_of all))
  counted [] = refl
  counted (s ∷ all) =
      omega (
        arith,
        sum_by-cons (λ x. cond (p x) 1 0) s all,
        counted all,
        same s,
        Rattle.std.proofs.lemmas.List.length-append (said (said_of s)) (flat_map said (map said_of all)),
      )

one_players : (s : Section) → cond (is_players s) 1 0 ≡ length (players_said (said_of s))
one_players (g.players first more) = refl
one_players (g.pieces first more) = refl
one_players (g.variables some) = refl
one_players (g.board first more) = refl
one_players (g.rules s) = refl

one_pieces : (s : Section) → cond (is_pieces s) 1 0 ≡ length (pieces_said (said_of s))
one_pieces (g.players first more) = refl
one_pieces (g.pieces first more) = refl
one_pieces (g.variables some) = refl
one_pieces (g.board first more) = refl
one_pieces (g.rules s) = refl

one_variables : (s : Section) → cond (is_variables s) 1 0 ≡ length (variables_said (said_of s))
one_variables (g.players first more) = refl
one_variables (g.pieces first more) = refl
one_variables (g.variables some) = refl
one_variables (g.board first more) = refl
one_variables (g.rules s) = refl

one_board : (s : Section) → cond (is_board s) 1 0 ≡ length (board_said (said_of s))
one_board (g.players first more) = refl
one_board (g.pieces first more) = refl
one_board (g.variables some) = refl
one_board (g.board first more) = refl
one_board (g.rules s) = refl

one_rules : (s : Section) → cond (is_rules s) 1 0 ≡ length (rules_said (said_of s))
one_rules (g.players first more) = refl
one_rules (g.pieces first more) = refl
one_rules (g.variables some) = refl
one_rules (g.board first more) = refl
one_rules (g.rules s) = refl

-- ---- each section once

abbrev wrong_kinds : Kinds → Bool
wrong_kinds k =
    not (eqb (length k.players) 1 && eqb (length k.pieces) 1 && nat_le (length k.variables) 1 && eqb (length k.boards) 1 && eqb (length k.rules) 1)

wrong_is : (all : List Section) → has_wrong_sections all ≡ wrong_kinds (kinds_of (map said_of all))
wrong_is all =
    let a = counted is_players (List Declaration) players_said one_players all in
    let b = counted is_pieces _ pieces_said one_pieces all in
    let c = counted is_variables (List Declaration) variables_said one_variables all in
    let d = counted is_board (List g.WrittenVertex) board_said one_board all in
    let e = counted is_rules (List ParseStep) rules_said one_rules all in
    λ i. not (eqb (a i) 1 && eqb (b i) 1 && nat_le (c i) 1 && eqb (d i) 1 && eqb (e i) 1)

data Gathered (k : Kinds) : Type 0 where
  fine : (p : Parts) → parts_of k ≡ Some p → wrong_kinds k ≡ false → k.players ≡ p.players ∷ [] → k.pieces ≡ p.pieces ∷ []
      → flat_map (λ ds. ds) k.variables ≡ p.variables → k.boards ≡ p.vertices ∷ [] → k.rules ≡ p.steps ∷ [] → Gathered k
  wrong : parts_of k ≡ None → wrong_kinds k ≡ true → Gathered k

many : (n : ℕ) → eqb (suc (suc n)) 1 ≡ false
many n = ne_eqb (suc (suc n)) 1 (λ e. absurd (omega arith))

more_than_one : (n : ℕ) → nat_le (suc (suc n)) 1 ≡ false
more_than_one n = lt-leb (suc (suc n)) 1 (omega arith)

gathered : (players : List (List Declaration)) (pieces : _) (variables : List (List Declaration)) (boards : List (List g.WrittenVertex))
    (rules : List (List ParseStep)) → Gathered (record { players = players; pieces = pieces; variables = variables; boards = boards; rules = rules })
gathered [] ws vs bs rs = wrong refl refl
gathered (p ∷ q ∷ more) ws vs bs rs =
    wrong refl (ap (λ t. not (t && eqb (length ws) 1 && nat_le (length vs) 1 && eqb (length bs) 1 && eqb (length rs) 1)) (many (length more)))
gathered (p ∷ []) [] vs bs rs = wrong refl refl
gathered (p ∷ []) (w ∷ x ∷ more) vs bs rs =
    wrong refl (ap (λ t. not (t && nat_le (length vs) 1 && eqb (length bs) 1 && eqb (length rs) 1)) (many (length more)))
gathered (p ∷ []) (w ∷ []) (v ∷ u ∷ more) bs rs =
    wrong refl (ap (λ t. not (t && eqb (length bs) 1 && eqb (length rs) 1)) (more_than_one (length more)))
gathered (p ∷ []) (w ∷ []) [] [] rs = wrong refl refl
gathered (p ∷ []) (w ∷ []) [] (b ∷ c ∷ more) rs = wrong refl (ap (λ t. not (t && eqb (length rs) 1)) (many (length more)))
gathered (p ∷ []) (w ∷ []) [] (b ∷ []) [] = wrong refl refl
gathered (p ∷ []) (w ∷ []) [] (b ∷ []) (r ∷ s ∷ more) = wrong refl (ap not (many (length more)))
gathered (p ∷ []) (w ∷ []) [] (b ∷ []) (r ∷ []) =
    fine (record { players = p; pieces = w; variables = []; vertices = b; steps = r }) refl refl refl refl refl refl refl
gathered (p ∷ []) (w ∷ []) (v ∷ []) [] rs = wrong refl refl
gathered (p ∷ []) (w ∷ []) (v ∷ []) (b ∷ c ∷ more) rs = wrong refl (ap (λ t. not (t && eqb (length rs) 1)) (many (length more)))
gathered (p ∷ []) (w ∷ []) (v ∷ []) (b ∷ []) [] = wrong refl refl
gathered (p ∷ []) (w ∷ []) (v ∷ []) (b ∷ []) (r ∷ s ∷ more) = wrong refl (ap not (many (length more)))
gathered (p ∷ []) (w ∷ []) (v ∷ []) (b ∷ []) (r ∷ []) =
    fine (record { players = p; pieces = w; variables = v; vertices = b; steps = r }) refl refl refl refl (append-nil v) refl refl

-- the parts of a tree
abbrev pub tree_parts : List Section → Sum → Parts
tree_parts all s = record {
  players = flat_map players_of all;
  pieces = flat_map pieces_of all;
  variables = flat_map variables_of all;
  vertices = flat_map vertices_of all;
  steps = sum_onto s [];
}

-- the parts are those of the tree
pub record IsTree (all : List Section) (p : Parts) : Type 0 where
  pub sections : has_wrong_sections all ≡ false
  pub sum : Sum
  pub rules : flat_map rules_of all ≡ sum ∷ []
  pub parts : p ≡ tree_parts all sum

only_sum : (sums : List Sum) (steps : List ParseStep) → map (λ s. sum_onto s []) sums ≡ steps ∷ [] → (s : Sum) × (sums ≡ s ∷ []) × (steps ≡ sum_onto s [])
only_sum [] steps h = absurd (cc)
only_sum (s ∷ []) steps h = (s, refl, cc)
only_sum (s ∷ t ∷ more) steps h = absurd (cc)

some_same : {X : Type 0} (x y : X) → Some x ≡ Some y → x ≡ y
some_same x y h = cc

pub found : (all : List Section) (p : Parts) → collected (map said_of all) ≡ Some p → IsTree all p
found all p h =
    let k = kinds_of (map said_of all) in
    elim (gathered k.players k.pieces k.variables k.boards k.rules) [
      | fine q made right players pieces variables boards rules ↦ (
          let same : p ≡ q = some_same p q (sym h ∙ made) in
          let one = only_sum (flat_map rules_of all) q.steps (sym (all_rules all) ∙ rules) in
          let ps : q.players ≡ flat_map players_of all = sym (all_players all ∙ ap (flat_map (λ ds. ds)) players ∙ append-nil q.players) in
          let ws : q.pieces ≡ flat_map pieces_of all = sym (all_pieces all ∙ ap (flat_map (λ ws. ws)) pieces ∙ append-nil q.pieces) in
          let vs : q.variables ≡ flat_map variables_of all = sym (all_variables all ∙ variables) in
          let bs : q.vertices ≡ flat_map vertices_of all = sym (all_vertices all ∙ ap (flat_map (λ vs. vs)) boards ∙ append-nil q.vertices) in
          let is : q ≡ tree_parts all one.0 = λ i. record { players = ps i; pieces = ws i; variables = vs i; vertices = bs i; steps = one.2 i } in
          record { sections = wrong_is all ∙ right; sum = one.0; rules = one.1; parts = same ∙ is })
      | wrong none bad ↦ absurd (cc)
    ]

pub missing : (all : List Section) → collected (map said_of all) ≡ None → has_wrong_sections all ≡ true
missing all h =
    let k = kinds_of (map said_of all) in
    elim (gathered k.players k.pieces k.variables k.boards k.rules) [
      | fine q made right players pieces variables boards rules ↦ absurd (cc)
      | wrong none bad ↦ wrong_is all ∙ bad
    ]

-- ---- the causes

abbrev chain : Bool → Bool → Bool → Bool → Bool → Bool → Bool → Option GameFault
chain players unknown repeated large limit size switched =
    if players then Some cause.NotTwoPlayers
    else (if unknown then Some cause.UnknownName
    else (if repeated then Some cause.RepeatedName
    else (if large then Some cause.BoundTooLarge
    else (if limit then Some cause.TooLarge
    else (if size then Some cause.ExpressionTooLarge
    else (if switched then Some cause.SwitchInPattern
    else None))))))

module _ (all : List Section) (s : Sum) (one : flat_map rules_of all ≡ s ∷ []) where
  abbrev names : Names
  names = names_of all

  abbrev parts : Parts
  parts = tree_parts all s

  actions : all_actions all ≡ actions_in s
  actions = ap (flat_map actions_in) one ∙ append-nil (actions_in s)

  unknown : list_any (action_uses_unknown names) (all_actions all) ≡ list_any (step_uses_unknown (known_of parts)) parts.steps
  unknown = ap (list_any (action_uses_unknown names)) actions ∙ sym (unknown_names names s)

  large : list_any (λ e. list_any is_too_large (literals_in e)) (all_expressions all) ≡ list_any is_large_number parts.steps
  large = ap (λ bs. list_any (λ e. list_any is_too_large (literals_in e)) (flat_map expressions_of bs)) actions ∙ sym (large_numbers s)

  count : sum_by action_count (all_actions all) ≡ count_by is_action parts.steps
  count = ap (sum_by action_count) actions ∙ sym (count_in s [] ∙ zero-add (sum_by action_count (actions_in s)))

  sizes : list_any (is_large (values_of names) (bounds_of all)) (all_expressions all) ≡ has_large_size (known_of parts).values (bounds parts) parts.steps
  sizes =
      ap (λ bs. list_any (is_large (values_of names) (bounds_of all)) (flat_map expressions_of bs)) actions
      ∙ sym (large_sizes (values_of names) (bounds_of all) s)

  switches : list_any has_switch_inside (all_actions all) ≡ has_inner_switch parts.steps
  switches = ap (list_any has_switch_inside) actions ∙ sym (inner_switches s)

  pub causes_are : has_wrong_sections all ≡ false → first_cause all ≡ flat_cause (known_of parts) parts
  causes_are right =
      let fewer : length names.variables ≡ length (flat_map variables_of all) = length-map (flat_map variables_of all) (λ d. d.name) in
      λ i.
      if right i then Some cause.Section
      else chain (has_not_two_players all)
      (list_any (vertex_uses_unknown names) (flat_map vertices_of all) || unknown i)
      (has_repeated_name all)
      (list_any (λ d. is_too_large d.bound) (flat_map players_of all) || list_any (λ d. is_too_large d.bound) (flat_map variables_of all) || large i)
      (nat_lt 128 (length names.vertices) || nat_lt 64 (length names.labels) || nat_lt 64 (length names.pieces) || nat_lt 32 (fewer i) || nat_lt 4096 (count i))
      (sizes i)
      (switches i)

  pub means_is : Means all (flat_game (known_of parts) parts)
  means_is = record {
    pieces = refl;
    variables = refl;
    labels = refl;
    vertices = refl;
    rules = ap (λ r. r ∷ []) (resolved_is names s) ∙ sym (ap (map (sum_rules names)) one);
  }
