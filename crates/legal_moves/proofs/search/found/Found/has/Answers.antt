use Rattle.std.proofs.Common.{◌≡◌, ◌-◌, ◌<◌, true, false, sym, ap, ◌∙◌, subst, arith, slice_index, length}
use Rattle.legal_moves.specs.lemmas.Stands.{bucket_at, IsSameStand}
use Rattle.std.proofs.lemmas.List.{length-map}
use Rattle.std.proofs.lemmas.Option.{get_or_from_slice_get}
use Rattle.legal_moves.proofs.automata.ReadyLemmas.{read_at}
use Rattle.legal_moves.proofs.searches.ChainLemmas.{IsAlong, along_first, along_next}
use Rattle.legal_moves.proofs.searches.StandLemmas.{same_stand_bucket}
use Rattle.legal_moves.proofs.search.found.Found.has.Goals as goal

pub loop-at-init : goal.loop-at-init
loop-at-init c =
    let stands = c.args.self.now.stands.items in
    let stand = c.args.stand in
    subst (IsAlong bucket_at stands (λ s. IsSameStand s stand) (bucket_at stand))
    (ap (slice_index c.args.self.now.stand_chains.heads.items) (sym c.requires.bucket) ∙ sym c.latest-at.ensures)
    (along_first bucket_at stands (λ s. IsSameStand s stand) (bucket_at stand)
    (λ s same. same_stand_bucket s stand same) c.args.self.now.stand_chains c.requires.kept.stands_are
    (subst (λ b. b < 512) c.requires.bucket c.requires.small))

pub returns-then-is_same_stand-clause-there : goal.returns-then-is_same_stand-clause-there
returns-then-is_same_stand-clause-there c =
    let stands = c.args.self.now.stands.items in
    let at = read_at stands (c.loop-at.at - 1) c.index.result.now (omega (arith, c.loop-at.invariant.inside, c.loop-at-test.true)) c.index.ensures in
    (c.loop-at.at - 1, c.index.result.now, at, c.is_same_stand.ensures.0 c.if-is_same_stand.true)

pub loop-at-smaller : goal.loop-at-smaller
loop-at-smaller c =
    let items = c.args.self.now.stands.items in
    let wanted = c.args.stand in
    let some = c.loop-at-test.true in
    let chains = c.args.self.now.stand_chains in
    let at = read_at items (c.loop-at.at - 1) c.index.result.now (omega (arith, c.loop-at.invariant.inside, some)) c.index.ensures in
    let unwanted : ¬ IsSameStand c.index.result.now wanted = λ same. let never : true ≡ false = sym (c.is_same_stand.ensures.1 same)
    ∙ c.if-is_same_stand.false in cc in
    let next = along_next bucket_at items (λ s. IsSameStand s wanted) (bucket_at wanted)
    (λ s same. same_stand_bucket s wanted same) chains c.loop-at.at c.index.result.now c.requires.kept.stands_are some c.loop-at.invariant at unwanted in
    let many : length chains.befores.items ≡ length items = c.requires.kept.stands_are.as_many ∙ length-map items bucket_at in
    let is = get_or_from_slice_get chains.befores.items (c.loop-at.at - 1) c.index-in-loop-at.result.now 0
    (read_at chains.befores.items (c.loop-at.at - 1) c.index-in-loop-at.result.now
    (omega (arith, many, c.loop-at.invariant.inside, some)) c.index-in-loop-at.ensures) in
    subst (λ n. n < c.loop-at.at) is next.1

pub loop-at-preserved : goal.loop-at-preserved
loop-at-preserved c =
    let items = c.args.self.now.stands.items in
    let wanted = c.args.stand in
    let some = c.loop-at-test.true in
    let chains = c.args.self.now.stand_chains in
    let at = read_at items (c.loop-at.at - 1) c.index.result.now (omega (arith, c.loop-at.invariant.inside, some)) c.index.ensures in
    let unwanted : ¬ IsSameStand c.index.result.now wanted = λ same. let never : true ≡ false = sym (c.is_same_stand.ensures.1 same)
    ∙ c.if-is_same_stand.false in cc in
    let next = along_next bucket_at items (λ s. IsSameStand s wanted) (bucket_at wanted)
    (λ s same. same_stand_bucket s wanted same) chains c.loop-at.at c.index.result.now c.requires.kept.stands_are some c.loop-at.invariant at unwanted in
    let many : length chains.befores.items ≡ length items = c.requires.kept.stands_are.as_many ∙ length-map items bucket_at in
    let is = get_or_from_slice_get chains.befores.items (c.loop-at.at - 1) c.index-in-loop-at.result.now 0
    (read_at chains.befores.items (c.loop-at.at - 1) c.index-in-loop-at.result.now
    (omega (arith, many, c.loop-at.invariant.inside, some)) c.index-in-loop-at.ensures) in
    subst (IsAlong bucket_at items (λ s. IsSameStand s wanted) (bucket_at wanted)) is next.0
