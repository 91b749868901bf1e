use Rattle.std.proofs.Common.{◌≡◌, ◌+◌, ◌-◌, ◌*◌, slice_get}
use Rattle.rbg_game.specs.Rules.{count}
use Rattle.rbg_game.specs.Meaning.{game_of}
use Rattle.legal_moves.specs.lemmas.Configurations.{expression_at, IsFollowed}
use Rattle.legal_moves.proofs.ListingLemmas.{past}
use Rattle.legal_moves.specs.lemmas.Progress.{began, state_at, IsGoing}
use Rattle.legal_moves.specs.lemmas.Answers.{IsAnswerAt}
use Rattle.legal_moves.specs.lemmas.Stands.{configurations_of, AreKept, ShowsOne}
use Rattle.legal_moves.specs.lemmas.VertexSearch.{at_vertex, seen_from, AreMarked}
use Rattle.legal_moves.proofs.search.searcher.Searcher.+search.Given as goal

abbrev pub decreases-is_legal : goal.decreases-is_legal
decreases-is_legal l = 7 * l.index + 6

abbrev pub decreases-is_legal_by_search : goal.decreases-is_legal_by_search
decreases-is_legal_by_search l = 7 * l.index + 5

abbrev pub decreases-holds : goal.decreases-holds
decreases-holds l = 7 * l.index + 7

abbrev pub decreases-search : goal.decreases-search
decreases-search l = 7 * l.index + 4

abbrev pub decreases-look : goal.decreases-look
decreases-look l = 7 * l.index + 4

abbrev pub decreases-expand : goal.decreases-expand
decreases-expand l = 7 * l.index + 3

abbrev pub decreases-look_on : goal.decreases-look_on
decreases-look_on l = 7 * l.index + 3

abbrev pub decreases-attempt : goal.decreases-attempt
decreases-attempt l = 7 * l.index + 2

abbrev pub decreases-glance_from : goal.decreases-glance_from
decreases-glance_from l = 7 * l.index + 1

abbrev pub decreases-glance_at : goal.decreases-glance_at
decreases-glance_at l = 7 * l.index + 1

abbrev pub invariant-expand-loop-number : goal.invariant-expand-loop-number
invariant-expand-loop-number l = record {
  kept : AreKept l.found;
  shown : ShowsOne l.found l.here;
  going : IsGoing (game_of l.self.game.now) (expression_at (game_of l.self.game.now) l.index) l.place
      (began (configurations_of l.initial.found)) (configurations_of l.found) l.at;
  known : IsAnswerAt (game_of l.self.game.now) (state_at (configurations_of l.initial.found) l.at) l.known;
  here : IsFollowed (game_of l.self.game.now) (expression_at (game_of l.self.game.now) l.index) l.place (configurations_of l.found) l.at
      (past l.followers l.number-index);
  before : slice_get (configurations_of l.found) l.at ≡ slice_get (configurations_of l.initial.found) l.at;
}

abbrev pub invariant-search-loop-at : goal.invariant-search-loop-at
invariant-search-loop-at l = record {
  kept : AreKept l.found;
  shown : ShowsOne l.found l.here;
  going : IsGoing (game_of l.self.game.now) (expression_at (game_of l.self.game.now) l.index) l.place l.state (configurations_of l.found) l.at;
}

abbrev pub decreases-search-loop-at : goal.decreases-search-loop-at
decreases-search-loop-at l = 65536 - l.at

abbrev pub invariant-look_on-loop-number : goal.invariant-look_on-loop-number
invariant-look_on-loop-number l = record {
  marked : AreMarked (count (expression_at (game_of l.self.game.now) l.index) + 1) l.looks;
  going : IsGoing (game_of l.self.game.now) (expression_at (game_of l.self.game.now) l.index) 0
      (began (seen_from l.state l.initial.looks.looks.items)) (seen_from l.state l.looks.looks.items) l.at;
  known : IsAnswerAt (game_of l.self.game.now) (at_vertex l.state l.vertex) l.known;
  here : IsFollowed (game_of l.self.game.now) (expression_at (game_of l.self.game.now) l.index) 0
      (seen_from l.state l.looks.looks.items) l.at (past l.followers l.number-index);
  before : slice_get l.looks.looks.items l.at ≡ slice_get l.initial.looks.looks.items l.at;
}

abbrev pub invariant-look-loop-at : goal.invariant-look-loop-at
invariant-look-loop-at l = record {
  marked : AreMarked (count (expression_at (game_of l.self.game.now) l.index) + 1) l.looks;
  going : IsGoing (game_of l.self.game.now) (expression_at (game_of l.self.game.now) l.index) 0 (at_vertex l.state l.vertex)
      (seen_from l.state l.looks.looks.items) l.at;
}

abbrev pub decreases-look-loop-at : goal.decreases-look-loop-at
decreases-look-loop-at l = 65536 - l.at
