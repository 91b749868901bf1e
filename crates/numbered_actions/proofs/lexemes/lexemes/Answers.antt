use Rattle.std.proofs.Common.{◌≡◌, ◌-◌, [], ◌∷◌, ◌++◌, length, ap, subst, append-nil}
use Rattle.rbg_text.specs.Token.{Gap}
use Rattle.rbg_text.specs.View.{token_view}
use Rattle.rbg_text.proofs.Splits.{whole_stray}
use Rattle.numbered_actions.specs.Placed.{Stand}
use Rattle.numbered_actions.proofs.TokenPlaces.{stands, one_more_placed, lexed_more}
use Rattle.numbered_actions.proofs.lexemes.lexemes.Goals as goal

pub returns-in_err-token-clause-stray : goal.returns-in_err-token-clause-stray
returns-in_err-token-clause-stray c = λ _. whole_stray _ _ _ c.loop-found.invariant.lexed c.in_err-token.ensures.stray.1

pub standing-requires-clause-room : goal.standing-requires-clause-room
standing-requires-clause-room c =
    let there = rw c.in-Some.is at c.in_ok-token.ensures.token in
    let next = length c.args.text.now - c.left.result in
    (stands c.args.text.now c.loop-found.lexer there.0 c.next_token.new.self c.loop-found.end next (token_view c.in-Some.token) c.loop-found.invariant.left
    c.loop-found.invariant.so_far there.1 there.2 (ap (λ n. length c.args.text.now - n) c.left.ensures)).room

pub loop-found-preserved : goal.loop-found-preserved
loop-found-preserved c =
    let text = c.args.text.now in
    let found = c.loop-found.found.items in
    let longer = c.push.new.self.items in
    let t = token_view c.in-Some.token in
    let there = rw c.in-Some.is at c.in_ok-token.ensures.token in
    let step = rw c.in-Some.is at c.in_ok-token.ensures.some in
    let next = length text - c.left.result in
    let pushed : longer ≡ found ++ c.standing.result ∷ [] = c.in_ok-push.ensures.items in
    let stand = stands text c.loop-found.lexer there.0 c.next_token.new.self c.loop-found.end next t c.loop-found.invariant.left
    c.loop-found.invariant.so_far there.1 there.2 (ap (λ n. length text - n) c.left.ensures) in
    record {
      lexed = lexed_more found longer c.standing.result t _ _ _ c.loop-found.invariant.lexed step pushed c.standing.ensures.token;
      left = stand.left;
      so_far = stand.so_far;
      placed = one_more_placed text c.loop-found.lexer c.next_token.new.self found longer c.standing.result c.loop-found.end next t
          c.loop-found.invariant.placed stand c.standing.ensures.token c.standing.ensures.at c.standing.ensures.bytes c.standing.ensures.gap pushed;
    }

pub returns-clause-placed : goal.returns-clause-placed
returns-clause-placed c =
    let end = c.in_ok-token.ensures.end cc in
    subst (λ ls. Stand c.args.text.now ls c.args.text.now) (append-nil c.loop-found.found.items)
    (c.loop-found.invariant.placed [] (subst (Gap c.loop-found.lexer) end.1 end.0))
