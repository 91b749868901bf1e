-- The descent to the next entry.
use Rattle.std.proofs.Common.{◌≡◌, inl, inr, ℕ, ◌+◌, List, Option, IsTrue, refl}
use Rattle.std.specs.Option.{option_or}
use Rattle.sector_disk.specs.lemmas.Moments.{still_honest}
use Rattle.page_store.specs.declared.fault.PageFault.{PageFault}
use Rattle.page_store.specs.declared.fault.PageFault.TheVariants.{Disk, NotATable, Damaged, TableFull, OutOfMemory, Closed}
use Rattle.page_store.specs.Frames.{PagesRead}
use Rattle.page_store.specs.Store.{Store, reads, StoreWorks, IsUnchanged}
use Rattle.btree.specs.declared.page.kind.Kind.TheVariants.{Leaf, Inner}
use Rattle.btree.specs.declared.page.widths.Widths.{Widths}
use Rattle.btree.specs.Page.{Item, items_in, IsPage}
use Rattle.btree.specs.Changes.{MapReadCause}
use Rattle.btree.specs.Entries.{Ascend, next_after}
use Rattle.btree.specs.lemmas.Ahead.{ReachesNext}
use Rattle.btree.specs.lemmas.Seen.{SeenCause}
use Rattle.btree.specs.lemmas.Steps.{IsStepDown}
use Rattle.btree.proofs.finds.LeafDescent.{IsReaching, read_unchanged, read_works, read_damaged, read_leaf, read_inner, read_cause}

module _ (w : Widths) (old mid new : Store) (root : ℕ) (key : List ℕ) (level page : ℕ) (next : Option (List ℕ))
    (so_far : IsReaching w old mid root key level page next)
    (same : IsUnchanged mid new) (works : StoreWorks mid new) where
  now : IsTrue old.disk.honest → IsTrue mid.disk.honest
  now honest = still_honest so_far.works.goes_on honest

  pub looked_unchanged : IsUnchanged old new
  looked_unchanged = read_unchanged w old mid new root key level page next so_far same works (reads mid page) (λ _. refl)

  pub looked_works : StoreWorks old new
  looked_works = read_works w old mid new root key level page next so_far same works (reads mid page) (λ _. refl)

  pub looked_read : PagesRead old new
  looked_read = record { unchanged = looked_unchanged; works = looked_works }

  -- the leaf
  pub looked_leaf : (entry : Option Item) →
      (IsTrue mid.disk.honest → IsPage w Leaf (reads mid page)
      × (Ascend (items_in w Leaf (reads mid page)) → entry ≡ next_after (items_in w Leaf (reads mid page)) key))
      → IsTrue old.disk.honest → ReachesNext w old root key entry next
  looked_leaf entry seen honest = record {
    leaf = reads mid page;
    reaches = read_leaf w old mid new root key level page next so_far same works (reads mid page) (λ _. refl) (seen (now honest)).0 honest;
    is = (seen (now honest)).1;
  }

  -- an inner page
  pub looked_on : (child : ℕ) (behind : Option (List ℕ))
      → (IsTrue mid.disk.honest → IsPage w Inner (reads mid page) × IsStepDown w (reads mid page) key child behind)
      → IsReaching w old new root key (level + 1) child (option_or behind next)
  looked_on child behind seen = record {
    unchanged = looked_unchanged;
    works = looked_works;
    way = λ honest.
        let (inner, step) = seen (now honest) in
        (read_inner w old mid new root key level page next so_far same works (reads mid page) (λ _. refl) inner child behind step).way honest;
  }

  -- the page is not seen
  pub not_seen : (fault : PageFault) → SeenCause w page mid new fault → MapReadCause w root old new fault
  not_seen Disk grew = read_cause w old mid new root key level page next so_far Disk grew
  not_seen NotATable never = never
  not_seen Damaged (inl outside) = read_cause w old mid new root key level page next so_far Damaged outside
  not_seen Damaged (inr none) = λ honest. read_damaged w old mid new root key level page next so_far same works (reads mid page) (λ _. refl)
      (none (now honest)) honest
  not_seen TableFull never = never
  not_seen OutOfMemory never = never
  not_seen Closed closed = read_cause w old mid new root key level page next so_far Closed closed
