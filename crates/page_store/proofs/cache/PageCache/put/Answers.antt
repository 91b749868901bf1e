use Rattle.std.proofs.Common.{◌≢◌, ◌<◌, ◌%◌, ℕ, Some, length, length-set, refl, ◌∙◌, arith}
use Rattle.page_store.specs.Places.{IsPlaced}
use Rattle.page_store.proofs.CachedPages.{given_some, new_apart}
use Rattle.page_store.proofs.NotedPages.{put_noted}
use Rattle.page_store.proofs.cache.PageCache.put.Goals as goal

pub invariant_of-self-in-Some-2 : goal.invariant_of-self-in-Some-2
invariant_of-self-in-Some-2 c =
    let made = c.make_place.new.self in
    let place = c.in-Some-2.place in
    let others : (p at : ℕ) → IsPlaced made.numbers.items made.kept.items p at → p % 4096 ≢ c.args.page % 4096 =
    λ (p at : ℕ) there.
    let held = c.in_ok-place.ensures.others p _ (record { place = at; placed = there; holds = refl }) in
    (c.make_way.ensures.apart p held.place held.placed).1 in
    let here : place < length made.numbers.items =
    given_some (λ place. place < length made.numbers.items) _ _ c.in-Some-2.is c.in_ok-place.ensures.numbers in
    let within : place < length made.kept.items =
    given_some (λ place. place < length made.kept.items) _ _ c.in-Some-2.is c.in_ok-place.ensures.kept in
    record {
      apart = new_apart made.numbers.items made.kept.items c.args.page place c.args.bytes.now made.apart (λ at placed. others c.args.page at placed refl)
          here within;
      few = omega (arith, made.few, length-set made.numbers.items place (Some c.args.page));
      hinted = length-set made.hints.items c.hint_of.result _ ∙ made.hinted;
      noted = put_noted made.numbers.items made.kept.items made.hints.items c.args.page place c.hint_of.result c.args.bytes.now here c.hint_of.ensures
          (omega (arith, c.hint_of.ensures, made.hinted)) others made.noted;
    }
