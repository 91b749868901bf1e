use Rattle.std.proofs.Common.{◌≡◌, ◌∙◌, ◌+◌, ◌≤◌, ◌∷◌, [], inl, inr, sym, ap, subst, arith, length, Some, slice_get, length-append}
use Rattle.std.proofs.lemmas.Bool.{cases_lt}
use Rattle.legal_moves.specs.lemmas.Marks.{IsMarkSet}
use Rattle.legal_moves.specs.lemmas.Relations.{IsRelated, row_of}
use Rattle.legal_moves.specs.NumberLists.{AreListed}
use Rattle.legal_moves.proofs.automata.ReadyLemmas.{read_at}
use Rattle.legal_moves.proofs.ListingLemmas.{listed_none, lists_more, list_past, row_is, row_past}
use Rattle.legal_moves.proofs.automaton.relation.Relation.lists.Goals as goal

pub loop-row-preserved : goal.loop-row-preserved
loop-row-preserved c =
    let r = c.args.self.now in
    let i = c.loop-row.row-index in
    let items = c.deref-row-items.result.now in
    let at = subst (λ rows. slice_get rows i ≡ Some c.row-item.result) c.deref-row-items.ensures.value
    (read_at items i c.row-item.result c.loop-row-test.true c.row-item.is) in
    let row : c.deref.result.now ≡ row_of r i = c.deref.ensures.value ∙ sym (row_is r i c.row-item.result at) in
    let lists = c.loop-row.lists.items in
    let list = c.in_ok-listed.field-0 in
    let pushed = c.in_ok-push.ensures.items in
    let new = subst (λ xs. AreListed (IsMarkSet xs) list.items) row c.in_ok-listed.ensures in
    let new_at = subst (λ j. AreListed (IsRelated r j) list.items) (sym c.loop-row.invariant.many) new in
    let many : length c.push.new.self.items ≡ length lists + 1 = ap length pushed ∙ length-append lists (list ∷ []) in
    record {
      many = many ∙ ap (λ n. n + 1) c.loop-row.invariant.many;
      listed = λ j less. lists_more (IsRelated r) lists c.push.new.self.items list c.loop-row.invariant.listed new_at pushed j (omega (arith, less, many));
    }

pub returns : goal.returns
returns c =
    let r = c.args.self.now in
    let lists = c.loop-row.lists.items in
    let whole : length r.rows.items ≤ length lists = omega
    (arith, ap length c.deref-row-items.ensures.value, c.loop-row.invariant.many, c.loop-row-test.false) in
    λ i. elim (cases_lt i (length lists)) [
      | inl below ↦ c.loop-row.invariant.listed i below
      | inr above ↦
          subst (AreListed (IsRelated r i)) (sym (list_past lists i above))
          (listed_none (IsRelated r i) (λ k set. row_past r i k (omega (arith, whole, above)) set))
    ]
