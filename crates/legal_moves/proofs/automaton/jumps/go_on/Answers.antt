use Rattle.std.proofs.Common.{◌≡◌, ℕ, ◌+◌, ◌<◌, ◌≤◌, ◌⊎◌, inl, inr, Some, slice_get, slice_index, sym, ap, ◌∙◌, subst, arith}
use Rattle.std.proofs.lemmas.Bool.{cases_lt}
use Rattle.std.proofs.lemmas.Option.{slice_get-get_or}
use Rattle.rbg_game.specs.Meaning.{game_of}
use Rattle.legal_moves.specs.Glushkov.{IsNextAt}
use Rattle.legal_moves.specs.NumberLists.{AreListed}
use Rattle.legal_moves.specs.lemmas.Configurations.{expression_at}
use Rattle.legal_moves.specs.lemmas.Walks.{HasNoted}
use Rattle.legal_moves.proofs.GetLemmas.{slice_get-within}
use Rattle.legal_moves.proofs.automata.ReadyLemmas.{read_at, followers_listed}
use Rattle.legal_moves.proofs.searches.ExpandLemmas.{number_from, number_upto}
use Rattle.legal_moves.proofs.automata.RowLemmas.{kept_then, noted_kept}
use Rattle.legal_moves.proofs.automaton.jumps.go_on.Goals as goal

pub note-requires-clause-from : goal.note-requires-clause-from
note-requires-clause-from c =
    let game = game_of c.args.game.now in
    let tables = c.args.tables.now in
    let index = c.args.index in
    let e = expression_at game index in
    let T = c.index-tables-index.result in
    let at_T = read_at tables index T c.requires.ready.within c.index-tables-index.is in
    let here = c.index-here.result.now in
    let ks = c.followers-next-items.result.now in
    let ks_is = c.followers-next-items.ensures in
    let listed = subst (AreListed (IsNextAt e here.number)) (sym ks_is) (followers_listed game tables index c.requires.ready T at_T here.number) in
    let n = c.loop-next.next-index in
    let k = slice_index ks n in
    let at_k = slice_get-get_or ks n 0 c.loop-next-test.true in
    let next = listed.only n k at_k in
    number_from e here.number k next

pub note-requires-clause-upto : goal.note-requires-clause-upto
note-requires-clause-upto c =
    let game = game_of c.args.game.now in
    let tables = c.args.tables.now in
    let index = c.args.index in
    let e = expression_at game index in
    let T = c.index-tables-index.result in
    let at_T = read_at tables index T c.requires.ready.within c.index-tables-index.is in
    let here = c.index-here.result.now in
    let ks = c.followers-next-items.result.now in
    let ks_is = c.followers-next-items.ensures in
    let listed = subst (AreListed (IsNextAt e here.number)) (sym ks_is) (followers_listed game tables index c.requires.ready T at_T here.number) in
    let n = c.loop-next.next-index in
    let k = slice_index ks n in
    let at_k = slice_get-get_or ks n 0 c.loop-next-test.true in
    let next = listed.only n k at_k in
    number_upto e here.number k next

pub loop-next-preserved : goal.loop-next-preserved
loop-next-preserved c =
    let game = game_of c.args.game.now in
    let tables = c.args.tables.now in
    let index = c.args.index in
    let e = expression_at game index in
    let T = c.index-tables-index.result in
    let at_T = read_at tables index T c.requires.ready.within c.index-tables-index.is in
    let here = c.index-here.result.now in
    let ks = c.followers-next-items.result.now in
    let ks_is = c.followers-next-items.ensures in
    let listed = subst (AreListed (IsNextAt e here.number)) (sym ks_is) (followers_listed game tables index c.requires.ready T at_T here.number) in
    let n = c.loop-next.next-index in
    let k = slice_index ks n in
    let at_k = slice_get-get_or ks n 0 c.loop-next-test.true in
    let next = listed.only n k at_k in
    let old = c.args.walk.now in
    let walk = c.loop-next.walk in
    let at_here = read_at old.met.items c.args.at here c.requires.at c.index-here.ensures in
    let still_here = c.loop-next.invariant.kept.met c.args.at here at_here in
    let new = c.note.new.walk in
    let more = c.in_ok-note.ensures.kept in
    let here_noted : (i m : ℕ) → (i < n) ⊎ (n ≤ i) → i < n + 1 → slice_get ks i ≡ Some m
    → HasNoted game e new here.vertex m = λ i m either less at. elim either [
      | inl low ↦ noted_kept game e walk new more here.vertex m (c.loop-next.invariant.noted i m low at)
      | inr high ↦
          let same : i ≡ n = omega (arith, high, less) in
          let both : Some k ≡ Some m = sym at_k ∙ ap (slice_get ks) (sym same) ∙ at in
          let one : k ≡ m = cc in
          subst (HasNoted game e new here.vertex) one c.in_ok-note.ensures.noted
    ] in
    record {
      kept = kept_then old walk new c.loop-next.invariant.kept more;
      noted = λ i m less at. here_noted i m (cases_lt i n) less at;
      led = λ p v led. let now = c.loop-next.invariant.led p v led in c.in_ok-note.ensures.led p v here.number now (now.met c.args.at here still_here) next;
    }

pub returns-clause-gone : goal.returns-clause-gone
returns-clause-gone c =
    let game = game_of c.args.game.now in
    let tables = c.args.tables.now in
    let index = c.args.index in
    let e = expression_at game index in
    let T = c.index-tables-index.result in
    let at_T = read_at tables index T c.requires.ready.within c.index-tables-index.is in
    let here = c.index-here.result.now in
    let ks = c.followers-next-items.result.now in
    let ks_is = c.followers-next-items.ensures in
    let listed = subst (AreListed (IsNextAt e here.number)) (sym ks_is) (followers_listed game tables index c.requires.ready T at_T here.number) in
    let old = c.args.walk.now in
    let walk = c.loop-next.walk in
    let at_here = read_at old.met.items c.args.at here c.requires.at c.index-here.ensures in
    let still_here = c.loop-next.invariant.kept.met c.args.at here at_here in
    λ j r at_j next.
    let both : Some here ≡ Some j = sym still_here ∙ at_j in
    let same : here ≡ j = cc in
    let found = listed.all r (subst (λ x. IsNextAt e x.number r) (sym same) next) in
    let less : found.0 < c.loop-next.next-index = omega (arith, slice_get-within ks found.0 r found.1, c.loop-next-test.false) in
    subst (λ x. HasNoted game e walk x.vertex r) same (c.loop-next.invariant.noted found.0 r less found.1)
