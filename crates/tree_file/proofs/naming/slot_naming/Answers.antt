use Rattle.std.proofs.Common.{◌≡◌, ◌∙◌, ℕ, ◌≤◌, Option, inl, inr, refl, sym, subst, arith}
use Rattle.std.proofs.lemmas.Bool.{cases_lt}
use Rattle.std.proofs.lemmas.List.{get_or_past}
use Rattle.std.specs.Prelude.{slice_index}
use Rattle.game_file.specs.Fields.{capacity_in}
use Rattle.game_file.specs.lemmas.Goals.{goal_is}
use Rattle.game_file.specs.lemmas.Words.{word_same, word_zero}
use Rattle.tree_table.specs.declared.slot.TreeSlot.{TreeSlot}
use Rattle.tree_table.specs.Slot.{IsEmptyTreeSlot}
use Rattle.tree_file.specs.File.{NamesSlot}
use Rattle.tree_file.proofs.naming.slot_naming.Goals as goal

pub returns-in-Some-clause-names : goal.returns-in-Some-clause-names
returns-in-Some-clause-names c =
    subst (λ (g : Option TreeSlot). NamesSlot c.game_slot.result g) (sym c.in-Some.is) (sym (c.game_slot.ensures.slot (inl c.requires)))

pub returns-in-None-clause-pages : goal.returns-in-None-clause-pages
returns-in-None-clause-pages c = λ late.
    let same : capacity_in c.put_long.new.root ≡ capacity_in c.empty_slot-root.result =
    word_same c.empty_slot-root.result c.put_long.new.root 68 (λ k low high. c.put_long.ensures.behind k (omega (arith, low))) in
    same ∙ c.empty_slot-root.ensures.pages (omega (arith, c.empty_slot-root.ensures.layout, c.requires))

behind : (c : goal.After-put_long) (k : ℕ) → 72 ≤ k → slice_index c.put_long.new.root k ≡ 0
behind c k low = elim (cases_lt k 512) [
  | inl within ↦ c.put_long.ensures.behind k (omega (arith, low)) ∙ c.empty_slot-root.ensures.behind k low within
  | inr past ↦ get_or_past c.put_long.new.root k 0 (omega (arith, past, c.put_long.array_long))
]

-- the count of commits is no field of the game
empty : (c : goal.After-put_long) → IsEmptyTreeSlot c.put_long.new.root
empty c =
    let old = c.empty_slot-root.ensures.empty in
    record {
      packing = c.put_long.ensures.before 4 (omega arith) ∙ old.packing;
      fields = λ k low high. c.put_long.ensures.behind k (omega (arith, low)) ∙ old.fields k low high;
      goal = goal_is c.put_long.new.root 0 (word_zero c.put_long.new.root 72 (behind c)) (inr refl);
    }

pub returns-in-None-clause-names : goal.returns-in-None-clause-names
returns-in-None-clause-names c = subst (λ (g : Option TreeSlot). NamesSlot c.put_long.new.root g) (sym c.in-None.is) (empty c)
