-- Migrations of one table, one after another: an image stores one table, of whichever layout, so each of them finds
-- the same.
use Rattle.std.specs.Prelude.{◌≡◌, ℕ, ◌<◌, [], Option}
use Rattle.std.proofs.Common.{sym, subst, ◌∙◌, ap, inl, inr, arith}
use Rattle.sector_disk.specs.Disk.{Image, Shown, Disk, MayLeave}
use Rattle.sector_disk.specs.lemmas.Moments.{reads_left, leaves_at}
use Rattle.game_file.specs.Fields.{layout_in}
use Rattle.game_file.specs.Kept.{Kept, Layout, in_any}
use Rattle.earlier_layouts.specs.Held.{Stores}
use Rattle.earlier_layouts.specs.lemmas.ReadLaws.{an_image_stores_one_table}
use Rattle.tree_table.specs.Held.{StoresTrees}
use Rattle.tree_table.specs.lemmas.OneTable.{an_image_stores_one_tree_table}
use Rattle.solver.specs.Histories.{HistoryFrom, was_left}
use Rattle.recover.specs.Migrations.{EitherLayout, IsMigrated, IsCurrent, IsFoundThen}
use Rattle.recover.specs.Migrations.{AreMigrations, began, was_migrated, was_current, was_refused}
use Rattle.recover.specs.lemmas.Layouts.{says_first}

-- a table of the first layout is none of a later one
first_apart : (layout m n : ℕ) (image : Image) (one other : Option Kept) → 1 < layout → Stores m image one
    → StoresTrees layout n image other → ⊥
first_apart layout m n image one other later a b =
    let same = sym b.holds.is ∙ a.holds.is in
    let first = says_first a.root m one _ a.keeps in
    let layouts = ap layout_in same in
    omega (arith, later, first, layouts, b.same_layout)

-- an image stores one table, of whichever layout
pub one_of_all : (m n : ℕ) (image : Image) (one other : Option Kept)
    → EitherLayout (EitherLayout Stores (StoresTrees 2)) (StoresTrees 3) m image one
    → EitherLayout (EitherLayout Stores (StoresTrees 2)) (StoresTrees 3) n image other → one ≡ other
one_of_all m n image one other (inl (inl a)) (inl (inl b)) = an_image_stores_one_table m n image one other a b
one_of_all m n image one other (inl (inl a)) (inl (inr b)) = absurd (first_apart 2 m n image one other (omega arith) a b)
one_of_all m n image one other (inl (inl a)) (inr b) = absurd (first_apart 3 m n image one other (omega arith) a b)
one_of_all m n image one other (inl (inr a)) (inl (inl b)) = absurd (first_apart 2 n m image other one (omega arith) b a)
one_of_all m n image one other (inl (inr a)) (inl (inr b)) = (an_image_stores_one_tree_table 2 2 m n image one other a b).1
one_of_all m n image one other (inl (inr a)) (inr b) = (an_image_stores_one_tree_table 2 3 m n image one other a b).1
one_of_all m n image one other (inr a) (inl (inl b)) = absurd (first_apart 3 n m image other one (omega arith) b a)
one_of_all m n image one other (inr a) (inl (inr b)) = (an_image_stores_one_tree_table 3 2 m n image one other a b).1
one_of_all m n image one other (inr a) (inr b) = (an_image_stores_one_tree_table 3 3 m n image one other a b).1

module _ (Earlier Today : ℕ → Layout) (one_each : (m n : ℕ) (image : Image) (one other : Option Kept)
    → EitherLayout Earlier Today m image one → EitherLayout Earlier Today n image other
    → one ≡ other) (kept : Option Kept) where
  abbrev Held : Image → Type 0
  Held image = in_any (EitherLayout Earlier Today) image kept

  -- what a disk holds that was found is the table
  found_is : (left : Shown) (disk : Disk) → IsFoundThen left disk
      → ((image : Image) → MayLeave left image → Held image)
      → (n : ℕ) (found : Option Kept) → EitherLayout Earlier Today n disk.now.contents found → found ≡ kept
  found_is left disk (honest, as_left) holds n found it =
      let (m, here) = holds disk.now.contents (as_left disk.now.contents (reads_left disk)) in
      one_each n m disk.now.contents found kept it here

  -- so whatever a stop leaves is the table, in an earlier layout or in today's
  pub migrations_leave : {left : Shown} → AreMigrations Earlier Today kept left → (image : Image)
      → MayLeave left image → Held image
  migrations_leave (began holds) image may = holds image may
  migrations_leave (was_migrated {before = before} {disk = disk} earlier (honest, as_left) done stop) image may =
      let same = found_is before disk (honest, as_left) (λ p m. migrations_leave earlier p m) done.pages done.kept (inl (done.held honest).stores) in
      elim (leaves_at (done.leaves honest) stop image may) [
        | inl old ↦ migrations_leave earlier image (as_left image old)
        | inr (inl stored) ↦ (done.pages, inl (subst (λ (k : Option Kept). Earlier done.pages image k) same stored))
        | inr (inr stored) ↦ (done.pages, inr (subst (λ (k : Option Kept). Today done.pages image k) same stored))
      ]
  migrations_leave (was_current earlier (honest, as_left) done stop) image may =
      migrations_leave earlier image (as_left image (leaves_at (done.leaves honest) stop image may))
  migrations_leave (was_refused {before = before} {disk = disk} earlier (honest, as_left) not stop) image may =
      elim (leaves_at (not.either honest) stop image may) [
        | inl (inl old) ↦ migrations_leave earlier image (as_left image old)
        | inl (inr (pages, found, holds, stored)) ↦
            let same = found_is before disk (honest, as_left) (λ p m. migrations_leave earlier p m) pages found (inl holds.stores) in
            (pages, inl (subst (λ (k : Option Kept). Earlier pages image k) same stored))
        | inr (pages, found, holds, stored) ↦
            let same = found_is before disk (honest, as_left) (λ p m. migrations_leave earlier p m) pages found (inl holds.stores) in
            (pages, inr (subst (λ (k : Option Kept). Today pages image k) same stored))
      ]

  -- the one that was answered leaves it in today's, and there a history goes on
  pub migrated_goes_on : {before : Shown} {disk back : Disk} {count now : ℕ} → AreMigrations Earlier Today kept before
      → IsFoundThen before disk
      → IsMigrated Earlier Today disk count back now → HistoryFrom Today kept [] back.now
  migrated_goes_on {before} {disk} {back} earlier found done =
      let same = found_is before disk found (λ p m. migrations_leave earlier p m) done.pages done.kept (inl (done.held found.0).stores) in
      was_left (λ image may. (done.pages, subst (λ (k : Option Kept). Today done.pages image k) same (done.is found.0 image may)))

  pub current_goes_on : {before : Shown} {disk back : Disk} {count now : ℕ} → AreMigrations Earlier Today kept before
      → IsFoundThen before disk
      → IsCurrent Earlier Today disk count back now → HistoryFrom Today kept [] back.now
  current_goes_on {before} {disk} {back} earlier found done =
      let same = found_is before disk found (λ p m. migrations_leave earlier p m) done.pages done.kept (inr (done.held found.0).stores) in
      was_left (λ image may. (done.pages, subst (λ (k : Option Kept). Today done.pages image k) same (done.is found.0 image may)))
