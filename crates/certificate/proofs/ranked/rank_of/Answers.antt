use Rattle.std.proofs.Common.{rules, ◌≡◌, ◌∙◌, ap, sym, length, arith}
use Rattle.std.specs.Cmp.Lexicographic.{other_text}
use Rattle.std.proofs.lemmas.List.{get_or_default, take_all}
use Rattle.std.proofs.lemmas.List.Sorted.{IsPartitionPoint-from_clause}
use Rattle.certificate.specs.declared.ranked.Ranked.{Ranked}
use Rattle.certificate.proofs.RankLemmas.{comes_before, partitioned, rank_found, rank_missing}
use Rattle.certificate.proofs.ranked.rank_of.Goals as goal

pub returns-then-eq : goal.returns-then-eq
returns-then-eq c =
    let same : c.as_slice.result.now ≡ c.args.at.now = search rules in
    rank_found c.args.list.now c.requires c.args.at.now c.partition_point-place.result c.index-list-place.result (search rules) c.index-list-place.is
    (sym c.as_slice.ensures.value ∙ same)

pub returns-else-eq : goal.returns-else-eq
returns-else-eq c =
    rank_missing c.args.list.now c.requires c.args.at.now c.partition_point-place.result
    (IsPartitionPoint-from_clause (comes_before c.args.list.now c.requires c.args.at.now) c.args.list.now c.partition_point-place.result
    c.partition_point-place.ensures.partitioned (partitioned c.args.list.now c.requires c.args.at.now)
    (λ a r f h. let whole = take_all (length c.args.at.now) c.args.at.now (omega arith) in search (rules, whole)))
    (λ r lt is here.
    let one = c.index-list-place.is ∙ get_or_default c.args.list.now c.partition_point-place.result c.index-list-place.result r lt ∙ sym is in
    other_text c.as_slice.result.now c.args.at.now (sym c.if-eq.false ∙ c.eq.ensures)
    (c.as_slice.ensures.value ∙ ap (λ (q : Ranked). q.at.items) one ∙ here))

pub returns-then-place-list : goal.returns-then-place-list
returns-then-place-list c =
    rank_missing c.args.list.now c.requires c.args.at.now c.partition_point-place.result
    (IsPartitionPoint-from_clause (comes_before c.args.list.now c.requires c.args.at.now) c.args.list.now c.partition_point-place.result
    c.partition_point-place.ensures.partitioned (partitioned c.args.list.now c.requires c.args.at.now)
    (λ a r f h. let whole = take_all (length c.args.at.now) c.args.at.now (omega arith) in search (rules, whole)))
    (λ r lt is here. absurd (omega arith))
