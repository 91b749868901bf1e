-- Of two tables to which the same commands led, one is the other.
use Rattle.std.proofs.Common.{◌≡◌, ℕ, List, [], ◌∷◌, Option, None, refl, sym, subst}
use Rattle.std.specs.Prelude.{IsTrue}
use Rattle.game_file.specs.Kept.{Kept, Layout}
use Rattle.game_file.specs.State.{State, GoesAhead}
use Rattle.sector_disk.specs.lemmas.Moments.{still_honest}
use Rattle.solver.specs.declared.replies.Reply.TheVariants.{Loaded, Worked}
use Rattle.solver.specs.declared.replies.Worked.{Worked as Done}
use Rattle.solver.specs.Histories.{DoAll}
use Rattle.solver.specs.Machine.{load, work, Does}
use Rattle.solver.specs.Steps.{IsDone}

-- this text that is loaded into no table, and then so many units: what they lead to
pub both_done : (Stores : ℕ → Layout) (text wanted : List ℕ) (units count : ℕ) (was mid is : State) (done : Done) → text ≡ wanted → units ≡ count
    → IsTrue was.disk.honest → was.kept ≡ None → GoesAhead was mid → IsDone Stores (load text None) Loaded was mid
    → IsDone Stores (work units) (Worked done.units done.counts) mid is
    → DoAll ((load wanted None, Loaded) ∷ (work count, Worked done.units done.counts) ∷ []) None is.kept
both_done Stores text wanted units count was mid is done same_text same_units honest none ahead first second =
    let does : DoAll ((load text None, Loaded) ∷ (work units, Worked done.units done.counts) ∷ []) None is.kept = (
      mid.kept,
      subst (λ (k : Option Kept). Does Loaded (load text None) k mid.kept) none (first.step.does honest),
      (is.kept, second.step.does (still_honest ahead.goes_on honest), refl),
    ) in
    subst (λ (t : List ℕ). DoAll ((load t None, Loaded) ∷ (work count, Worked done.units done.counts) ∷ []) None is.kept) same_text
    (subst (λ (n : ℕ). DoAll ((load text None, Loaded) ∷ (work n, Worked done.units done.counts) ∷ []) None is.kept) same_units does)

-- and so of another table with the same answer
pub as_answered : (wanted : List ℕ) (count : ℕ) (done other : Done) (kept : Option Kept) → done ≡ other
    → DoAll ((load wanted None, Loaded) ∷ (work count, Worked other.units other.counts) ∷ []) None kept
    → DoAll ((load wanted None, Loaded) ∷ (work count, Worked done.units done.counts) ∷ []) None kept
as_answered wanted count done other kept same does =
    subst (λ (d : Done). DoAll ((load wanted None, Loaded) ∷ (work count, Worked d.units d.counts) ∷ []) None kept) (sym same) does
