-- The end of a walk over the tokens.
use Rattle.std.proofs.Common.{◌≡◌, List, [], ◌++◌, map, ap, sym, ◌∙◌, append-nil}
use Rattle.rbg_text.specs.Syntax.{Tokens, Section, text}
use Rattle.numbered_actions.specs.Written.{Cut, cut_at, spots_of}
use Rattle.numbered_actions.specs.lemmas.Walk.{Place, elsewhere, found_from}
use Rattle.numbered_actions.proofs.Walks.{all_found}

pub all_walked : (cuts : List Cut) (place : Place) (tokens : Tokens) (all : List Section) → cuts ++ found_from place [] ≡ found_from elsewhere tokens
    → tokens ≡ text all → cuts ≡ map cut_at (spots_of all)
all_walked cuts place tokens all walked is = sym (append-nil cuts) ∙ walked ∙ ap (found_from elsewhere) is ∙ all_found all
