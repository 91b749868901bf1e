-- What is so of a file at any moment since it was opened.
use Rattle.std.specs.Prelude.{◌≡◌, ℕ, Option, None, Some, List, IsTrue}
use Rattle.std.proofs.Common.{◌∙◌, ap, sym, subst}
use mathlib.Core.Logic.{∥∥₁_elim, ∥∥₁_prop}
use mathlib.Core.HLevel.{Unit-prop}
use denote.Struct.Props.{props}
use Rattle.page_store.specs.declared.marks.Mark.TheVariants.{Waiting}
use Rattle.page_store.specs.Marks.{mark}
use Rattle.game_file.specs.Fields.{commits_in, layout_in}
use Rattle.tree_table.specs.declared.slot.TreeSlot.{TreeSlot}
use Rattle.tree_table.specs.KeptTrees.{IsStill, IsSizedSlot, StandsFor, AreSized}
use Rattle.tree_table.specs.lemmas.StandingTable.{still_stands_for, was_honest}
use Rattle.tree_file.specs.File.{File}

sized_prop : (slot : TreeSlot) → IsProp (IsSizedSlot slot)
sized_prop slot = hlevel props

pub are_sized_prop : (game : Option TreeSlot) → IsProp (AreSized game)
are_sized_prop None = Unit-prop
are_sized_prop (Some slot) = sized_prop slot

-- the committed root is of this layout and tells this count of commits; the slot has lengths that a table may have; no page waits to be marked; and on an
-- honest disk the pages that the slot names hold the text and a table
pub record IsBackedFile (layout commits : ℕ) (file : File) : Type 0 where
  pub of_layout : layout_in file.work.store.root ≡ layout
  pub counted : commits ≡ commits_in file.work.store.root
  pub sized : AreSized file.game
  pub sealed : (p : ℕ) → mark file.work.store.marks p ≡ Waiting → ⊥
  pub stands : IsTrue file.work.store.disk.honest → ∥ StandsFor file.game file.work.text file.work.store ∥₁

-- so it is still, where the root and the pages that it needs are as they were
pub backed_still : (layout commits : ℕ) (old new : File) → IsBackedFile layout commits old → IsStill old.work.store new.work.store
    → new.work.text ≡ old.work.text
    → new.game ≡ old.game → IsBackedFile layout commits new
backed_still layout commits old new it still text game = record {
  of_layout = ap layout_in still.root ∙ it.of_layout;
  counted = it.counted ∙ ap commits_in (sym still.root);
  sized = subst AreSized (sym game) it.sized;
  sealed = λ p is. it.sealed p (still.waiting p is);
  stands = λ honest.
      let was = was_honest still.goes_on honest in
      ∥∥₁_elim (it.stands was) ∥∥₁_prop (λ (s : StandsFor old.game old.work.text old.work.store).
      ∣ subst (λ (g : Option TreeSlot). StandsFor g new.work.text new.work.store) (sym game)
      (subst (λ (x : List ℕ). StandsFor old.game x new.work.store) (sym text)
      (still_stands_for old.game old.work.text old.work.store new.work.store was still s)) ∣₁);
}
