-- What adding an expression does to the draft of a table.
use Rattle.std.specs.Prelude.{◌≡◌, ℕ, ◌+◌, ◌↔◌, Bool, false, List, ◌++◌, length, Some, suc, ◌⊎◌}
use Rattle.std.specs.List.{AllZip}
use Rattle.rbg_game.specs.Rules.{Regex, count, Action, is_switch, is_modifier}
use Rattle.rbg_game.specs.Meaning.{action_of}
use Rattle.legal_moves.specs.Glushkov.{IsNext}
use Rattle.legal_moves.specs.lemmas.Relations.{IsRelated}
use Rattle.legal_moves.specs.declared.automaton.table.Step.{Step}
use Rattle.legal_moves.specs.declared.automaton.table.Step.TheVariants.{Act, Ask}
use Rattle.legal_moves.specs.declared.automaton.table.Ends.{Ends}
use Rattle.legal_moves.specs.declared.automaton.table.Table.{Table}
use Rattle.legal_moves.specs.Tables.{actions_of, inner_of, IsStep, IsEnds, AreTables}
use Rattle.legal_moves.specs.declared.automaton.table.Draft.{Draft}

-- the step is a switch
abbrev pub switches : Step → Bool
switches (Act x) = is_switch (Some (action_of x))
switches (Ask positive i) = false

-- the step is one that a shown move names
abbrev pub modifies : Step → Bool
modifies (Act x) = is_modifier (Some (action_of x))
modifies (Ask positive i) = false

-- the expression is added to a draft, and the tables of its patterns to the tables
pub record IsAdded (e : Regex) (tables tables' : List Table) (draft draft' : Draft) (ends : Ends) : Type 0 where
  pub tables_are : (es : List Regex) → AreTables es tables → AreTables (es ++ inner_of e) tables'
  pub steps_are : (es : List Regex) (actions : List Action) → AreTables es tables → AllZip (IsStep es) draft.steps.items actions
      → AllZip (IsStep (es ++ inner_of e)) draft'.steps.items (actions ++ actions_of e)
  pub count_is : length draft'.steps.items ≡ length draft.steps.items + count e
  pub follows_is : (i j : ℕ) → IsRelated draft'.follows i j ↔ (IsRelated draft.follows i j ⊎ IsNext e (suc (length draft.steps.items)) i j)
  pub ends_are : IsEnds ends e (suc (length draft.steps.items))
