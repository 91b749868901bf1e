-- How many pages a put takes.
use Rattle.std.proofs.Common.{◌≡◌, inl, inr, ℕ, suc, ◌+◌, ◌≤◌, ◌<◌, List, [], ◌∷◌, Result, Ok, Err, IfOk, length, sym, ap, subst, arith}
use Rattle.std.specs.Result.{OnErr}
use Rattle.std.proofs.lemmas.Bool.{cases_eq}
use Rattle.page_store.specs.declared.fault.PageFault.{PageFault}
use Rattle.page_store.specs.declared.marks.Mark.{Mark}
use Rattle.page_store.specs.declared.marks.Mark.TheVariants.{Committed, Waiting, Fresh, Released, Free, Past}
use Rattle.page_store.specs.Marks.{mark, let_go, free_one, free_count, IsMarked}
use Rattle.page_store.specs.Store.{Store}
use Rattle.page_store.specs.lemmas.Counts.{one_fewer}

-- where each page that was free is still, no fewer are
none_fewer : (old new : List Mark) → length new ≡ length old → ((p : ℕ) → free_one (mark old p) ≤ free_one (mark new p))
    → free_count old ≤ free_count new
none_fewer [] new long each = omega arith
none_fewer (m ∷ old) [] long each = absurd (omega (arith, long))
none_fewer (m ∷ old) (n ∷ new) long each = omega (arith, each 0, none_fewer old new (omega (arith, long)) (λ p. each (suc p)))

-- a page that is let go is free if it was
free_still : (m : Mark) → free_one m ≤ free_one (let_go m)
free_still Committed = omega arith
free_still Waiting = omega arith
free_still Fresh = omega arith
free_still Released = omega arith
free_still Free = omega arith
free_still Past = omega arith

-- to let a page go takes none
pub let_go_takes_none : {at : ℕ} {old new : List Mark} → IsMarked at (let_go (mark old at)) old new → free_count old ≤ free_count new
let_go_takes_none {at} {old} {new} marked = none_fewer old new marked.same_length each
  where
    each : (p : ℕ) → free_one (mark old p) ≤ free_one (mark new p)
    each p = elim (cases_eq p at) [
      | inl same ↦ subst (λ (q : ℕ). free_one (mark old q) ≤ free_one (mark new q)) (sym same)
          (subst (λ (m : Mark). free_one (mark old at) ≤ free_one m) (sym marked.is) (free_still (mark old at)))
      | inr other ↦ omega (arith, ap free_one (marked.others p other))
    ]

-- a page that is handed out is one, and a refusal takes none
pub new_page_takes_one : (old new : Store) (r : Result ℕ PageFault) → IfOk r (λ p. IsMarked p Fresh old.marks new.marks)
    → IfOk r (λ p. mark old.marks p ≡ Free) → IfOk r (λ p. p < length old.marks) → OnErr r (new ≡ old)
    → free_count old.marks ≤ free_count new.marks + 1
new_page_takes_one old new (Ok p) marked free within refused =
    let fewer = one_fewer old.marks new.marks p marked.same_length within free marked.is marked.others in
    omega (arith, fewer)
new_page_takes_one old new (Err fault) marked free within refused = omega (arith, ap (λ (s : Store). free_count s.marks) refused)

-- a page that is handed out is one
pub one_taken : {p : ℕ} {old new : List Mark} → IsMarked p Fresh old new → mark old p ≡ Free → p < length old → free_count new + 1 ≡ free_count old
one_taken {p} {old} {new} marked free within = one_fewer old new p marked.same_length within free marked.is marked.others
