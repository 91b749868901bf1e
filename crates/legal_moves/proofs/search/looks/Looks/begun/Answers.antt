use Rattle.std.proofs.Common.{◌≡◌, ◌-◌, ◌*◌, ◌⊎◌, Bool, false, List, [], ◌∷◌, ◌++◌, length, vec_len, take, replicate, slice_get, Some, ℕ, zero, suc, refl, ap, ◌∙◌, subst, arith}
use Rattle.legal_moves.specs.lemmas.Marks.{IsMarkSet}
use Rattle.legal_moves.specs.lemmas.VertexSearch.{AreMarked, mark_of}
use Rattle.legal_moves.specs.declared.search.looks.Look.{Look}
use Rattle.legal_moves.specs.declared.search.looks.Looks.{Looks}
use Rattle.legal_moves.proofs.Exits.{refused}
use Rattle.legal_moves.proofs.searches.LookLemmas.{none_marked, marked_more}
use Rattle.legal_moves.proofs.search.looks.Looks.begun.Goals as goal

nothing : (i : ℕ) (l : Look) → slice_get [] i ≡ Some l → ⊥
nothing i l h = cc

take_none : (n : ℕ) → take {A = Bool} n [] ≡ []
take_none zero = refl
take_none (suc n) = refl

-- nothing grows to this many that are not set
unset_by : (n k : ℕ) (xs ys : List Bool) → xs ≡ [] → k ≡ 0 → ys ≡ take n xs ++ replicate (n - k) false → ys ≡ replicate n false
unset_by n k xs ys none small is =
    let all : n - k ≡ n = omega arith in
    is ∙ ap (λ zs. take n zs ++ replicate (n - k) false) none ∙ ap (λ zs. zs ++ replicate (n - k) false) (take_none n)
    ∙ ap (λ m. replicate m false) all

pub returns-clause-marked : goal.returns-clause-marked
returns-clause-marked c =
    let numbers = c.args.numbers in
    let had = c.in_ok-looks.looks in
    let first : Look = record { vertex = c.args.vertex; place = 0; parent = 0 } in
    let before : Looks = record { looks = had.looks; marks = c.resize.new.self; numbers = had.numbers } in
    let none = c.in_ok-looks.ensures.looks in
    let many : vec_len had.marks ≡ 0 = omega (arith, had.marks.ok.0, ap length c.in_ok-looks.ensures.marks) in
    let unset = unset_by (c.args.vertices * numbers)
    (vec_len had.marks) had.marks.items c.resize.new.self.items c.in_ok-looks.ensures.marks many c.in_ok-resize.ensures.items in
    let at : c.from.result * numbers ≡ mark_of numbers first = rw c.from.ensures (omega arith) in
    let empty : AreMarked numbers before = record {
      numbers_are = c.in_ok-looks.ensures.numbers;
      within = λ i l got. absurd (nothing i l (subst (λ xs. slice_get xs i ≡ Some l) none got));
      all = λ i l got. absurd (nothing i l (subst (λ xs. slice_get xs i ≡ Some l) none got));
      only = λ j set. absurd (none_marked (c.args.vertices * numbers) j (subst (λ xs. IsMarkSet xs j) unset set));
    } in
    marked_more numbers before first empty c.requires.some _ c.in_ok-push.ensures.items c.in_ok-looks.ensures.numbers
    (subst (λ m. (j : ℕ) → (IsMarkSet c.mark.new.row.items j → IsMarkSet c.resize.new.self.items j ⊎ (j ≡ m))
    × (IsMarkSet c.resize.new.self.items j ⊎ (j ≡ m) → IsMarkSet c.mark.new.row.items j)) at c.in_ok-mark.ensures)

pub returns-clause-opening : goal.returns-clause-opening
returns-clause-opening c =
    let first : Look = record { vertex = c.args.vertex; place = 0; parent = 0 } in
    c.in_ok-push.ensures.items ∙ ap (λ xs. xs ++ first ∷ []) c.in_ok-looks.ensures.looks

pub returns-in_err-looks-clause-opening : goal.returns-in_err-looks-clause-opening
returns-in_err-looks-clause-opening c = refused _ c.from_residual.result _ c.from_residual.ensures.1

pub returns-in_err-looks-clause-marked : goal.returns-in_err-looks-clause-marked
returns-in_err-looks-clause-marked c = refused _ c.from_residual.result _ c.from_residual.ensures.1

pub returns-in_err-resize-clause-opening : goal.returns-in_err-resize-clause-opening
returns-in_err-resize-clause-opening c = refused _ c.from_residual-in_err-resize.result _ c.from_residual-in_err-resize.ensures.1

pub returns-in_err-resize-clause-marked : goal.returns-in_err-resize-clause-marked
returns-in_err-resize-clause-marked c = refused _ c.from_residual-in_err-resize.result _ c.from_residual-in_err-resize.ensures.1

pub returns-in_err-mark-clause-opening : goal.returns-in_err-mark-clause-opening
returns-in_err-mark-clause-opening c = refused _ c.from_residual-in_err-mark.result _ c.from_residual-in_err-mark.ensures.1

pub returns-in_err-mark-clause-marked : goal.returns-in_err-mark-clause-marked
returns-in_err-mark-clause-marked c = refused _ c.from_residual-in_err-mark.result _ c.from_residual-in_err-mark.ensures.1

pub returns-in_err-push-clause-opening : goal.returns-in_err-push-clause-opening
returns-in_err-push-clause-opening c = refused _ c.from_residual-in_err-push.result _ c.from_residual-in_err-push.ensures.1

pub returns-in_err-push-clause-marked : goal.returns-in_err-push-clause-marked
returns-in_err-push-clause-marked c = refused _ c.from_residual-in_err-push.result _ c.from_residual-in_err-push.ensures.1
