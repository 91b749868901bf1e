-- Each stretch has a token, and cuts the text as its action does.
use Rattle.std.proofs.Common.{◌≡◌, ℕ, zero, suc, ◌-◌, ◌<◌, ◌≤◌, List, [], ◌∷◌, map, length, drop, get_or, refl, ap, sym, subst, ◌∙◌, arith}
use Rattle.std.specs.Prelude.{All}
use Rattle.std.proofs.lemmas.List.{length-map, length-drop}
use Rattle.rbg_text.specs.Token.{Text, Splits}
use Rattle.rbg_text.specs.View.{token_view}
use Rattle.rbg_text.specs.Syntax.{Section}
use Rattle.rbg_text.specs.Syntax as grammar
use Rattle.rbg_text.proofs.Splits.{splits_once}
use Rattle.rbg_game.specs.Games.{Game}
use Rattle.rbg_read.specs.Means.{Means}
use Rattle.rbg_read.specs.Reads.{Reads, reads, Parses}
use Rattle.numbered_actions.specs.declared.lexemes.Lexeme.{Lexeme}
use Rattle.numbered_actions.specs.declared.stretches.Stretch.{Stretch}
use Rattle.numbered_actions.specs.Written.{Spot, Cut, cut_at, said}
use Rattle.numbered_actions.specs.Placed.{Stand}
use Rattle.numbered_actions.specs.Tokens.{tokens_of, tokens_from, cut_of}
use Rattle.numbered_actions.proofs.Lengths.{said_longer}
use Rattle.numbered_actions.proofs.TokenPlaces.{stand_splits}

-- the sections of a text that reads to a game
pub sections_of : (text : Text) (game : Game) → Reads text game → (all : List Section) × Parses text (grammar.text all) all × Means all game
sections_of text game (reads {all = all} short flat parses none means) =
    (all, record { splits = subst (Splits text) parses.spelled parses.splits; spelled = refl }, means)

-- the tokens that stand in a text are those of its sections
pub spelled_by : (text : Text) (ls : List Lexeme) (all : List Section) → Stand text ls text → Parses text (grammar.text all) all
    → tokens_of ls ≡ grammar.text all
spelled_by text ls all stand parses = splits_once (stand_splits text ls text stand) parses.splits

each_longer : (ls : List Lexeme) (found : List Stretch) (spots : List Spot) → map (cut_of ls) found ≡ map cut_at spots → (k : ℕ) (d : Stretch)
    → k < length found
    → length (tokens_from ls (get_or found k d).to) < length (tokens_from ls (get_or found k d).from)
each_longer ls [] spots are k d lt = absurd (omega (arith, lt))
each_longer ls (s ∷ found) [] are k d lt = absurd (cc)
each_longer ls (s ∷ found) (spot ∷ spots) are zero d lt =
    let same : cut_of ls s ≡ cut_at spot = cc in
    let here : length (tokens_from ls s.from) ≡ length (said spot.written spot.behind) = ap (λ (c : Cut). length c.here) same in
    let behind : length (tokens_from ls s.to) ≡ length spot.behind = ap (λ (c : Cut). length c.behind) same in
    omega (arith, here, behind, said_longer spot.written spot.behind)
each_longer ls (s ∷ found) (spot ∷ spots) are (suc k) d lt =
    let more : map (cut_of ls) found ≡ map cut_at spots = cc in
    each_longer ls found spots more k d (omega (arith, lt))

-- a stretch begins within the tokens, and before it ends
pub each_begins : (ls : List Lexeme) (found : List Stretch) (spots : List Spot) → map (cut_of ls) found ≡ map cut_at spots → (k : ℕ) (s : Stretch)
    → k < length found
    → s ≡ get_or found k s → (s.from < s.to) × (s.from < length ls)
each_begins ls found spots are k s lt at =
    let view = λ (m : Lexeme). token_view m.token in
    let longer = each_longer ls found spots are k s lt in
    let to_is : (get_or found k s).to ≡ s.to = ap (λ (x : Stretch). x.to) (sym at) in
    let from_is : (get_or found k s).from ≡ s.from = ap (λ (x : Stretch). x.from) (sym at) in
    let now : length (tokens_from ls s.to) < length (tokens_from ls s.from) = rw (to_is, from_is) at longer in
    let long_to : length (tokens_from ls s.to) ≡ length ls - s.to = length-map (drop s.to ls) view ∙ length-drop s.to ls in
    let long_from : length (tokens_from ls s.from) ≡ length ls - s.from = length-map (drop s.from ls) view ∙ length-drop s.from ls in
    (omega (arith, now, long_to, long_from), omega (arith, now, long_to, long_from))

-- a stretch ends within the tokens
pub each_fits : (ls : List Lexeme) (found : List Stretch) → All (λ stretch. stretch.to ≤ length ls) found → (k : ℕ) (s : Stretch) → k < length found
    → s ≡ get_or found k s → s.to ≤ length ls
each_fits ls found fits k s lt at = subst (λ (x : Stretch). x.to ≤ length ls) (sym at) (fits k s lt)
