use Rattle.std.proofs.Common.{◌≡◌, ◌↔◌, true, subst, List, ℕ}
use Rattle.std.specs.Cmp.Lexicographic.{slice_cmp}
use Rattle.std.specs.Ordering.{nat_cmp}
use Rattle.std.specs.declared.cmp.Ordering.TheVariants.{Less}
use Rattle.certificate.proofs.RankLemmas.{ascends_told, less_told}
use Rattle.certificate.proofs.lists.ascends.Goals as goal

pub returns-in-Some : goal.returns-in-Some
returns-in-Some c =
    let last = c.in-Some.last.now in
    let next = c.args.next.now in
    let tells = less_told last.at.items c.deref.result.now c.is_before.result c.is_before.ensures in
    let of_both = subst (λ (ys : List ℕ). (c.is_before.result ≡ true) ↔ (slice_cmp nat_cmp last.at.items ys ≡ Less)) c.deref.ensures.value tells in
    ascends_told c.args.list.now last next c.in-Some.ensures.item.3.0 c.in-Some.ensures.item.3.1 c.requires c.is_before.result of_both
