use Rattle.std.proofs.Common.{◌≡◌, ◌∙◌, ◌+◌, ◌<◌, ◌++◌, ◌∷◌, [], true, false, sym, subst, arith}
use Rattle.legal_moves.specs.lemmas.Marks.{IsMarkSet}
use Rattle.legal_moves.specs.NumberLists.{AreListed}
use Rattle.legal_moves.proofs.ListingLemmas.{listed_by, listed_skip, listed_more, marked_within}
use Rattle.legal_moves.proofs.automaton.relation.listed.Goals as goal
use Rattle.legal_moves.proofs.automaton.relation.listed.Goals.{then-is_marked+in-Ok+in_ok-push, else-is_marked}

pub returns : goal.returns
returns c =
    listed_by _ (IsMarkSet c.args.row.now) c.loop-number.list.items (λ k h. h.0)
    (λ k h. (h, omega (arith, marked_within c.args.row.now k h))) c.loop-number.invariant

pub loop-number-preserved : goal.loop-number-preserved
loop-number-preserved c =
    let row = c.args.row.now in
    let n = c.loop-number.number in
    elim c.if-is_marked.branch [
      | then-is_marked+in-Ok+in_ok-push w ↦
          subst (λ list. AreListed (λ k. IsMarkSet row k × (k < n + 1)) list.items) (sym w.list-is)
          (subst (AreListed (λ k. IsMarkSet row k × (k < n + 1))) (sym w.in_ok-push.ensures.ok)
          (subst (λ k. AreListed (λ j. IsMarkSet row j × (j < n + 1)) (c.loop-number.list.items ++ k ∷ [])) (sym w.in-Ok.ensures.1)
          (listed_more (IsMarkSet row) n c.loop-number.list.items c.loop-number.invariant w.if-is_marked.true)))
      | else-is_marked w ↦
          subst (λ list. AreListed (λ k. IsMarkSet row k × (k < n + 1)) list.items) (sym w.list-is)
          (listed_skip (IsMarkSet row) n c.loop-number.list.items c.loop-number.invariant
          (λ set. let never : true ≡ false = sym set ∙ w.if-is_marked.false in cc))
    ]
