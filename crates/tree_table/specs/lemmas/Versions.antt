-- What a hold keeps of a table it keeps over each call and each commit, until it is let go.
use Rattle.std.specs.Prelude.{◌≡◌, ◌≢◌, ℕ, true, false, ◌≤◌, List, length, IsTrue}
use Rattle.std.proofs.Common.{refl, sym, ◌∙◌, ap, subst, arith}
use Rattle.sector_disk.specs.Disk.{Disk, GoesOn}
use Rattle.sector_disk.specs.lemmas.Moments.{goes_on_refl, goes_on_trans, still_honest}
use Rattle.page_store.specs.Page.{page}
use Rattle.page_store.specs.declared.marks.Mark.{Mark}
use Rattle.page_store.specs.declared.marks.Mark.TheVariants.{Waiting}
use Rattle.page_store.specs.declared.holds.HoldPlace.{HoldPlace}
use Rattle.page_store.specs.declared.holds.Holders.{Holders}
use Rattle.page_store.specs.Holds.{needed_by}
use Rattle.page_store.specs.lemmas.Holds.{need_is, other_need, same_holds, same_holds_then, held_still}
use Rattle.page_store.specs.Marks.{mark}
use Rattle.page_store.specs.Spelled.{Stands, StandsHeld}
use Rattle.page_store.specs.Store.{Store, StoreWorks, IsRemarked, IsHeldBy, IsSoundStore, IsHoldTaken, IsLetGo, Commits, StoreGrows, reads}
use Rattle.page_store.specs.lemmas.Carried.{hold_stands, hold_stands_held, let_go_stands_held}
use Rattle.page_store.specs.lemmas.Works.{works_refl}
use Rattle.retrograde.specs.Stored.{Stored}
use Rattle.tree_table.specs.declared.slot.TreeSlot.{TreeSlot}
use Rattle.tree_table.specs.Forest.{IsForest}
use Rattle.tree_table.specs.KeptTrees.{IsOneOf, StandsInTrees}
use Rattle.tree_table.specs.Versions.{StandsInVersion, KeepsHolds}
use Rattle.tree_table.specs.lemmas.KeptPages.{forest_rests, forest_fits_more}

-- one page that a hold needs
one : (other : HoldPlace) (p : ℕ) (store : Store) → IsHeldBy other store p → StandsHeld other (λ q. q ≡ p) (λ bytes. Unit {0}) store
one other p store held = record {
  spelled = record { anywhere = λ bytes same. tt };
  held = λ q is. subst (λ (r : ℕ). IsHeldBy other store r) (sym is) held;
}

held_else : (place other : HoldPlace) (old new : Store) → IsSoundStore old → place ≢ other → IsHoldTaken place old new → (p : ℕ)
    → IsHeldBy other old p → IsHeldBy other new p
held_else place other old new sound apart taken p held =
    (hold_stands_held place other old new sound apart taken (one other p old held)).held p refl

held_left : (place other : HoldPlace) (old new : Store) → place ≢ other → IsLetGo place old new → (p : ℕ) → IsHeldBy other old p
    → IsHeldBy other new p
held_left place other old new apart gone p held = (let_go_stands_held place other old new apart gone (one other p old held)).held p refl

-- pages that read as they did hold what they held; the hold needs them still
version_on : (place : HoldPlace) (slot : TreeSlot) (table : Stored (List ℕ)) (old new : Store) → length old.marks ≤ length new.marks
    → ((p : ℕ) → IsHeldBy place old p → reads new p ≡ reads old p) → ((p : ℕ) → IsHeldBy place old p → IsHeldBy place new p)
    → (IsTrue (needed_by old.holds.taken place) → IsTrue (needed_by new.holds.taken place))
    → StandsInVersion place slot table old → StandsInVersion place slot table new
version_on place slot table old new long same held taken it = record {
  text = it.text;
  text_pages = it.text_pages;
  pages = it.pages;
  entries = it.entries;
  forest =
      forest_fits_more slot.sizes.packed (length old.marks) (length new.marks) slot.first slot.roots it.text it.text_pages it.pages it.entries (reads new) long
      (forest_rests slot.sizes.packed (length old.marks) slot.first slot.roots it.text it.text_pages it.pages it.entries (reads old) it.forest
      (reads new) (λ p here. same p (it.held p here)));
  spelled = it.spelled;
  counts = it.counts;
  held = λ p here. held p (it.held p here);
  taken = taken it.taken;
}

-- calls that commit nothing keep the holds, and so does a commit
pub works_keep_holds : (old new : Store) → StoreWorks old new → KeepsHolds old new
works_keep_holds old new works =
    record { goes_on = works.goes_on; no_fewer = omega (arith, works.same_pages); holds = same_holds works.holds; held = works.held }

pub remarked_keeps_holds : (old new : Store) → length new.marks ≡ length old.marks → IsRemarked old new → KeepsHolds old new
remarked_keeps_holds old new long others = record {
  goes_on = subst (λ (d : Disk). GoesOn old.disk d) (sym others.disk) (goes_on_refl old.disk);
  no_fewer = omega (arith, long);
  holds = same_holds others.holds;
  held = λ honest place p held. ap (λ (d : Disk). page d.now.contents p) others.disk;
}

pub keeps_holds_refl : (store : Store) → KeepsHolds store store
keeps_holds_refl store = works_keep_holds store store (works_refl store)

pub commits_keep_holds : (root : List ℕ) (old new : Store) → length new.marks ≡ length old.marks → Commits root old new → KeepsHolds old new
commits_keep_holds root old new long commits =
    record { goes_on = commits.goes_on; no_fewer = omega (arith, long); holds = same_holds commits.holds; held = commits.held }

-- and so does growing
pub grows_keep_holds : (root : List ℕ) (pages : ℕ) (old new : Store) → StoreGrows root pages old new → KeepsHolds old new
grows_keep_holds root pages old new grows =
    record { goes_on = grows.goes_on; no_fewer = grows.no_fewer; holds = grows.holds; held = grows.held }

-- one after another
pub keeps_holds_then : (old mid new : Store) → KeepsHolds old mid → KeepsHolds mid new → KeepsHolds old new
keeps_holds_then old mid new first second = record {
  goes_on = goes_on_trans first.goes_on second.goes_on;
  no_fewer = omega (arith, second.no_fewer, first.no_fewer);
  holds = same_holds_then first.holds second.holds;
  held = λ honest place p held. second.held (still_honest first.goes_on honest) place p (held_still old mid first.holds place p held)
      ∙ first.held honest place p held;
}

-- so they keep each version
pub version_kept : (place : HoldPlace) (slot : TreeSlot) (table : Stored (List ℕ)) (old new : Store) → IsTrue old.disk.honest
    → KeepsHolds old new → StandsInVersion place slot table old → StandsInVersion place slot table new
version_kept place slot table old new honest keeps it =
    version_on place slot table old new keeps.no_fewer (λ p held. keeps.held honest place p held)
    (λ p held. held_still old new keeps.holds place p held)
    (λ open_. ap (λ (h : Holders). needed_by h place) keeps.holds.taken ∙ open_) it

-- what stands as a hold is taken
module _ (place : HoldPlace) (slot : TreeSlot) (text : List ℕ) (old new : Store) (sealed : (p : ℕ) → mark old.marks p ≡ Waiting → ⊥)
    (taken : IsHoldTaken place old new) (it : StandsInTrees slot text old) where
  abbrev Spelt : (ℕ → List ℕ) → Type 0
  Spelt bytes = IsForest slot.sizes.packed (length old.marks) slot.first slot.roots text it.text_pages it.pages it.entries bytes

  stands : Stands (IsOneOf it.text_pages it.pages) Spelt old
  stands = record {
    spelled = record {
      anywhere = λ other same. forest_rests slot.sizes.packed (length old.marks) slot.first slot.roots text it.text_pages it.pages it.entries
          (reads old) it.forest other same;
    };
    needed = it.needed;
  }

  now_stands : StandsHeld place (IsOneOf it.text_pages it.pages) Spelt new
  now_stands = hold_stands place old new sealed taken stands

  pub version_taken : StandsInVersion place slot it.table new
  version_taken = record {
    text = text;
    text_pages = it.text_pages;
    pages = it.pages;
    entries = it.entries;
    forest =
        subst (λ (ms : List Mark). IsForest slot.sizes.packed (length ms) slot.first slot.roots text it.text_pages it.pages it.entries (reads new))
        (sym taken.marks) (now_stands.spelled.anywhere (reads new) (λ p here. refl));
    spelled = it.spelled;
    counts = it.counts;
    held = now_stands.held;
    taken = ap (λ (h : Holders). needed_by h place) taken.taken ∙ need_is old.holds.taken place true;
  }

-- another hold is taken
pub version_taken_else : (place other : HoldPlace) (slot : TreeSlot) (table : Stored (List ℕ)) (old new : Store) → IsSoundStore old → place ≢ other
    → IsHoldTaken place old new → StandsInVersion other slot table old → StandsInVersion other slot table new
version_taken_else place other slot table old new sound apart taken it =
    version_on other slot table old new (omega (arith, ap (λ (ms : List Mark). length ms) taken.marks))
    (λ p held. ap (λ (d : Disk). page d.now.contents p) taken.disk) (λ p held. held_else place other old new sound apart taken p held)
    (λ open_. ap (λ (h : Holders). needed_by h other) taken.taken ∙ other_need old.holds.taken place other true apart ∙ open_) it

-- another hold is let go
pub version_let_go : (place other : HoldPlace) (slot : TreeSlot) (table : Stored (List ℕ)) (old new : Store) → place ≢ other
    → IsLetGo place old new → StandsInVersion other slot table old → StandsInVersion other slot table new
version_let_go place other slot table old new apart gone it =
    version_on other slot table old new (omega (arith, gone.marks.same_length))
    (λ p held. ap (λ (d : Disk). page d.now.contents p) gone.disk) (λ p held. held_left place other old new apart gone p held)
    (λ open_. ap (λ (h : Holders). needed_by h other) gone.taken ∙ other_need old.holds.taken place other false apart ∙ open_) it
