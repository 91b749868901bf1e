-- What a power failure leaves, by what a command answers.
use Rattle.std.specs.Prelude.{◌≡◌, ℕ, false, true, Option, IsTrue}
use Rattle.game_file.specs.Kept.{Kept, Layout, goal_kept, packing_kept, text_kept}
use Rattle.game_file.specs.State.{State}
use Rattle.game_file.specs.Stops.{LeavesNow, LeavesTable, LeavesEither}

module _ (Stores : ℕ → Layout) where
  -- a command is done: a stop since it began leaves the table before it or the one after, and a stop now the one after
  pub record StopsDone (old new : State) : Type 0 where
    pub is_open : new.closed ≡ false
    pub since : IsTrue old.disk.honest → LeavesEither (Stores old.capacity) old.disk new.disk old.kept new.kept
    pub now : IsTrue old.disk.honest → LeavesNow (Stores new.capacity) new.disk new.kept

  -- a command is refused: the count of commits, the counts, the text, the packing and the goal are as they were, whatever the disk does; on an honest one
  -- what was kept is, and a stop since the command began leaves that; but if a write or a sync has failed, it leaves that or one that
  -- the command may have come to
  pub record StopsRefused (Next : Option Kept → Type 0) (old new : State) : Type 0 where
    pub commits : new.commits ≡ old.commits
    pub counts : new.counts ≡ old.counts
    pub text : text_kept new.kept ≡ text_kept old.kept
    pub packing : packing_kept new.kept ≡ packing_kept old.kept
    pub goal : goal_kept new.kept ≡ goal_kept old.kept
    pub same : IsTrue old.disk.honest → new.kept ≡ old.kept
    pub since : IsTrue old.disk.honest → new.closed ≡ false → LeavesTable (Stores old.capacity) old.disk new.disk old.kept
    pub failed : IsTrue old.disk.honest → old.closed ≡ false → new.closed ≡ true
        → (is : Option Kept) × Next is × LeavesEither (Stores old.capacity) old.disk new.disk old.kept is
