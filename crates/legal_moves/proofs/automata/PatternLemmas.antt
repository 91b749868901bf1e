-- The patterns in an expression, and those of its parts.
use Rattle.std.proofs.Common.{◌≡◌, List, [], ◌∷◌, ◌++◌, flat_map, fold, refl, sym, ◌∙◌, append_assoc, append-nil}
use Rattle.rbg_game.specs.Rules.{Regex, cat, alt, cat_all, alt_all}
use Rattle.legal_moves.specs.Tables.{inner_of}

inner_of-cats : (a : Regex) (rest : List Regex) → inner_of (fold cat a rest) ≡ inner_of a ++ flat_map inner_of rest
inner_of-cats a [] = sym (append-nil (inner_of a))
inner_of-cats a (b ∷ rest) = inner_of-cats (cat a b) rest ∙ append_assoc (inner_of a) (inner_of b) (flat_map inner_of rest)

inner_of-alts : (a : Regex) (rest : List Regex) → inner_of (fold alt a rest) ≡ inner_of a ++ flat_map inner_of rest
inner_of-alts a [] = sym (append-nil (inner_of a))
inner_of-alts a (b ∷ rest) = inner_of-alts (alt a b) rest ∙ append_assoc (inner_of a) (inner_of b) (flat_map inner_of rest)

pub inner_of-cat_all : (es : List Regex) → inner_of (cat_all es) ≡ flat_map inner_of es
inner_of-cat_all [] = refl
inner_of-cat_all (a ∷ rest) = inner_of-cats a rest

pub inner_of-alt_all : (es : List Regex) → inner_of (alt_all es) ≡ flat_map inner_of es
inner_of-alt_all [] = refl
inner_of-alt_all (a ∷ rest) = inner_of-alts a rest
