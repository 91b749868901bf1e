-- How many actions a concatenation and a sum have.
use Rattle.std.proofs.Common.{◌≡◌, ℕ, ◌+◌, ◌≤◌, ◌<◌, List, [], ◌∷◌, length, take, get_or, map, fold, refl, ap, sym, ◌∙◌, add_assoc, add-zero, arith}
use Rattle.std.specs.Prelude.{sum_by}
use Rattle.std.proofs.lemmas.List.Sums.{sum_by-cons, sum_by_more_le}
use Rattle.rbg_game.specs.Rules.{Regex, cat, alt, cat_all, alt_all, count}
use Rattle.rbg_game.specs.Sound.{whole_count}
use Rattle.rbg_game.specs.Meaning.{regex_of}
use Rattle.rbg_game.specs.declared.rules.Rules.{Rules}

-- the actions of a part of the tree
abbrev pub actions : Rules → ℕ
actions e = count (regex_of e)

folded_cats : (a : Regex) (xs : List Regex) → count (fold cat a xs) ≡ count a + sum_by count xs
folded_cats a [] = sym (add-zero (count a))
folded_cats a (x ∷ xs) = folded_cats (cat a x) xs ∙ add_assoc (count a) (count x) (sum_by count xs) ∙ ap (λ n. count a + n) (sym (sum_by-cons count x xs))

folded_alts : (a : Regex) (xs : List Regex) → count (fold alt a xs) ≡ count a + sum_by count xs
folded_alts a [] = sym (add-zero (count a))
folded_alts a (x ∷ xs) = folded_alts (alt a x) xs ∙ add_assoc (count a) (count x) (sum_by count xs) ∙ ap (λ n. count a + n) (sym (sum_by-cons count x xs))

in_parts : (xs : List Rules) → sum_by count (map regex_of xs) ≡ sum_by actions xs
in_parts [] = refl
in_parts (x ∷ xs) = sum_by-cons count (regex_of x) (map regex_of xs) ∙ ap (λ n. actions x + n) (in_parts xs) ∙ sym (sum_by-cons actions x xs)

pub cats_count : (xs : List Rules) → count (cat_all (map regex_of xs)) ≡ sum_by actions xs
cats_count [] = refl
cats_count (x ∷ xs) = folded_cats (regex_of x) (map regex_of xs) ∙ ap (λ n. actions x + n) (in_parts xs) ∙ sym (sum_by-cons actions x xs)

pub alts_count : (xs : List Rules) → count (alt_all (map regex_of xs)) ≡ sum_by actions xs
alts_count [] = refl
alts_count (x ∷ xs) = folded_alts (regex_of x) (map regex_of xs) ∙ ap (λ n. actions x + n) (in_parts xs) ∙ sym (sum_by-cons actions x xs)

-- a part, and those before it, are within the whole
pub within : (xs : List Rules) (i : ℕ) (x : Rules) (whole : ℕ) → i < length xs → x ≡ get_or xs i x → sum_by actions xs ≡ whole
    → sum_by actions (take i xs) + actions x ≤ whole
within xs i x whole lt is e = omega (arith, sum_by_more_le actions xs i x lt, ap actions is, e)

-- the numbered actions are among all
pub count_within : (e : Regex) → count e ≤ whole_count e
count_within (Regex.one a) = omega arith
count_within Regex.empty = omega arith
count_within (cat a b) = omega (arith, count_within a, count_within b)
count_within (alt a b) = omega (arith, count_within a, count_within b)
count_within (Regex.star a) = count_within a
