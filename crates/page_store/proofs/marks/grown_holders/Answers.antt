use Rattle.std.proofs.Common.{◌≡◌, ◌∙◌, ◌∷◌, [], inl, inr, ap, arith, List, length, length-append, sym, ℕ, ◌≤◌}
use Rattle.std.proofs.lemmas.Bool.{cases_lt}
use Rattle.std.proofs.lemmas.List.{get_or_past}
use Rattle.page_store.specs.declared.holds.Holders.{Holders}
use Rattle.page_store.specs.Holds.{none, holders_at}
use Rattle.page_store.proofs.Growth.{holders_more}
use Rattle.page_store.proofs.marks.grown_holders.Goals as goal

pub loop-page-preserved : goal.loop-page-preserved
loop-page-preserved c =
    let so_far = c.loop-page.invariant in
    let items = c.in_ok-push.ensures.items in
    record {
      size = ap (λ (hs : List Holders). length hs) items ∙ length-append c.loop-page.grown.items (c.holders_of.result ∷ []) ∙ omega (arith, so_far.size);
      each = λ p below. ap (λ (hs : List Holders). holders_at hs p) items
          ∙ elim (holders_more c.loop-page.grown.items c.holders_of.result c.loop-page.page p so_far.size below) [
            | inl before ↦ before.1 ∙ so_far.each p before.0
            | inr here ↦ here.1 ∙ c.holders_of.ensures ∙ ap (λ (k : ℕ). holders_at c.args.holders.now k) (sym here.0)
          ];
    }

pub returns : goal.returns
returns c =
    let done : c.args.pages ≤ c.loop-page.page = omega (arith, c.loop-page-test.false) in
    let most : c.loop-page.page ≤ c.args.pages = omega (arith, c.loop-page.auto.page-end) in
    let long : length c.loop-page.grown.items ≡ c.args.pages = omega (arith, c.loop-page.invariant.size, done, most) in
    record {
      long = long;
      each = λ p. elim (cases_lt p c.args.pages) [
        | inl low ↦ c.loop-page.invariant.each p (omega (arith, low, done))
        | inr past ↦ get_or_past c.loop-page.grown.items p none (omega (arith, long, past))
            ∙ sym (get_or_past c.args.holders.now p none (omega (arith, c.requires, past)))
      ];
    }
