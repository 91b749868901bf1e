use Rattle.std.proofs.Common.{◌≡◌, ◌∷◌, [], ◌++◌, ◌∙◌, ap, sym, arith, slice_set, slice_index, length, suc, length-append}
use Rattle.std.proofs.lemmas.Option.{get_or_from_slice_get}
use Rattle.legal_moves.proofs.automata.ReadyLemmas.{read_at}
use Rattle.legal_moves.proofs.searches.ChainLemmas.{chained_more}
use Rattle.legal_moves.proofs.search.chains.Chains.push.Goals as goal

pub returns : goal.returns
returns c = λ buckets chained.
    let heads = c.args.self.now.heads.items in
    let befores = c.args.self.now.befores.items in
    let at = read_at heads c.args.bucket c.index-before.result.now (omega (arith, c.requires, c.args.self.now.all_buckets)) c.index-before.ensures in
    let is = get_or_from_slice_get heads c.args.bucket c.index-before.result.now 0 at in
    let pushed = c.push_reserved.ensures.items ∙ ap (λ xs. xs ++ c.index-before.result.now ∷ []) c.in_ok-reserve.ensures.items
    ∙ ap (λ x. befores ++ x ∷ []) (sym is) in
    let counted : c.len.result ≡ suc (length befores) = omega
    (arith, c.len.ensures, ap length pushed, length-append befores (slice_index heads c.args.bucket ∷ [])) in
    let many : c.in-Ok.latest ≡ suc (length befores) = c.in-Ok.ensures.1 ∙ counted in
    chained_more buckets c.args.bucket c.args.self.now _ chained c.requires c.args.self.now.all_buckets pushed (ap (slice_set heads c.args.bucket) many)
