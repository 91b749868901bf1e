-- What an edit of a page does, done or not.
use Rattle.std.specs.Prelude.{◌≡◌, ◌≢◌, ℕ, Bool, false, List, IsTrue, Result, IfOk, IfErr, OnOk}
use Rattle.page_store.specs.declared.fault.PageFault.{PageFault}
use Rattle.page_store.specs.declared.fault.PageFault.TheVariants.{Disk}
use Rattle.page_store.specs.Causes.{PageWriteCause}
use Rattle.page_store.specs.Store.{Store, reads, StoreWorks}

-- the page, which was handed out since the last commit, is edited so where the answer is that it was, and the others read as they did
pub record EditsPage (Edits : List ℕ → List ℕ → Type 0) (page : ℕ) (old new : Store) (result : Result Bool PageFault) : Type 0 where
  pub edited : IsTrue old.disk.honest → IfOk result (λ done. IsTrue done → Edits (reads old page) (reads new page))
  pub others : IsTrue old.disk.honest → (p : ℕ) → p ≢ page → reads new p ≡ reads old p
  pub left : IfOk result (λ done. done ≡ false → new ≡ old)
  pub marks : new.marks ≡ old.marks
  pub open_ : OnOk result (new.closed ≡ false)
  pub untouched : IfErr result (λ fault. fault ≢ Disk → new ≡ old)
  pub cause : IfErr result (PageWriteCause old new)
  pub works : StoreWorks old new
