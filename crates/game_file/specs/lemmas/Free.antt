-- How many pages can be free.
use Rattle.std.specs.Prelude.{◌≡◌, ℕ, suc, ◌≤◌, ◌<◌, List, [], ◌∷◌, length, IsTrue}
use Rattle.std.proofs.Common.{refl, ap, ◌∙◌, arith}
use Rattle.page_store.specs.declared.marks.Mark.{Mark}
use Rattle.page_store.specs.declared.marks.Mark.TheVariants.{Committed, Waiting, Fresh, Released, Free, Past}
use Rattle.page_store.specs.Marks.{mark, free_one, free_count, needs, is_past, rests, turned, AreDiscarded}
use Rattle.page_store.specs.Spelled.{IsCalm}
use Rattle.page_store.specs.Store.{Store, StoreWorks}

one_at_most : (m : Mark) → free_one m ≤ 1
one_at_most Committed = omega arith
one_at_most Waiting = omega arith
one_at_most Fresh = omega arith
one_at_most Released = omega arith
one_at_most Free = omega arith
one_at_most Past = omega arith

all_at_most : (marks : List Mark) → free_count marks ≤ length marks
all_at_most [] = omega arith
all_at_most (m ∷ marks) = omega (arith, one_at_most m, all_at_most marks)

-- where the first page is in use, not all pages are free
pub first_is_used : (marks : List Mark) → 1 ≤ length marks → mark marks 0 ≡ Committed → free_count marks < length marks
first_is_used [] some used = absurd (omega (arith, some))
first_is_used (m ∷ marks) some used = omega (arith, ap free_one used, all_at_most marks)

-- pages that are used alike
as_many_free : (old new : List Mark) → length new ≡ length old → ((p : ℕ) → mark new p ≡ mark old p) → free_count new ≡ free_count old
as_many_free [] [] long same = refl
as_many_free [] (n ∷ new) long same = absurd (omega (arith, long))
as_many_free (m ∷ old) [] long same = absurd (omega (arith, long))
as_many_free (m ∷ old) (n ∷ new) long same =
    omega (arith, ap free_one (same 0), as_many_free old new (omega (arith, long)) (λ p. same (suc p)))

-- a page has the mark again that it had between commands
back_again : (m n : Mark) → IsTrue (rests m) → needs n ≡ needs m → is_past n ≡ is_past m → (n ≡ Waiting → m ≡ Waiting)
    → turned Free Committed Waiting n ≡ m
back_again Waiting n rest need past wait = absurd (cc)
back_again Fresh n rest need past wait = absurd (cc)
back_again Released n rest need past wait = absurd (cc)
back_again Committed Committed rest need past wait = refl
back_again Committed Waiting rest need past wait = let no = wait refl in absurd (cc)
back_again Committed Fresh rest need past wait = absurd (cc)
back_again Committed Released rest need past wait = refl
back_again Committed Free rest need past wait = absurd (cc)
back_again Committed Past rest need past wait = absurd (cc)
back_again Free Committed rest need past wait = absurd (cc)
back_again Free Waiting rest need past wait = absurd (cc)
back_again Free Fresh rest need past wait = refl
back_again Free Released rest need past wait = absurd (cc)
back_again Free Free rest need past wait = refl
back_again Free Past rest need past wait = absurd (cc)
back_again Past Committed rest need past wait = absurd (cc)
back_again Past Waiting rest need past wait = absurd (cc)
back_again Past Fresh rest need past wait = absurd (cc)
back_again Past Released rest need past wait = absurd (cc)
back_again Past Free rest need past wait = absurd (cc)
back_again Past Past rest need past wait = refl

-- what was taken between commands is free again where it is given up
pub given_up_free : (was mid new : Store) → IsCalm was → StoreWorks was mid → AreDiscarded mid.marks new.marks
    → free_count new.marks ≡ free_count was.marks
given_up_free was mid new calm works back =
    as_many_free was.marks new.marks (back.same_length ∙ works.same_pages)
    (λ p. back.each p ∙ back_again (mark was.marks p) (mark mid.marks p) (calm.each p) (works.needed p) (works.past p) (works.waiting p))
