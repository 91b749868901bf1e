-- Which occurrences can stand first, last and next to one another in a word.
use Rattle.std.specs.Prelude.{◌≡◌, ℕ, ◌+◌, ◌⊎◌, ⊤, Bool, true, false, ◌&&◌, ◌||◌, List, [], ◌∷◌}
use Rattle.rbg_game.specs.Rules.{Regex, one, empty, cat, alt, star, count}

-- the empty list is a word
abbrev pub is_nullable : Regex → Bool
is_nullable (one a) = false
is_nullable empty = true
is_nullable (cat a b) = is_nullable a && is_nullable b
is_nullable (alt a b) = is_nullable a || is_nullable b
is_nullable (star a) = true

-- a word begins with k
abbrev pub IsFirst : Regex → ℕ → ℕ → Type 0
IsFirst (one a) n k = k ≡ n
IsFirst empty n k = ⊥
IsFirst (cat a b) n k = IsFirst a n k ⊎ (is_nullable a ≡ true) × IsFirst b (n + count a) k
IsFirst (alt a b) n k = IsFirst a n k ⊎ IsFirst b (n + count a) k
IsFirst (star a) n k = IsFirst a n k

-- a word ends in k
abbrev pub IsLast : Regex → ℕ → ℕ → Type 0
IsLast (one a) n k = k ≡ n
IsLast empty n k = ⊥
IsLast (cat a b) n k = IsLast b (n + count a) k ⊎ (is_nullable b ≡ true) × IsLast a n k
IsLast (alt a b) n k = IsLast a n k ⊎ IsLast b (n + count a) k
IsLast (star a) n k = IsLast a n k

-- in a word, l stands right after k
abbrev pub IsNext : Regex → ℕ → ℕ → ℕ → Type 0
IsNext (one a) n k l = ⊥
IsNext empty n k l = ⊥
IsNext (cat a b) n k l =
    IsNext a n k l ⊎ (IsNext b (n + count a) k l ⊎ IsLast a n k × IsFirst b (n + count a) l)
IsNext (alt a b) n k l = IsNext a n k l ⊎ IsNext b (n + count a) k l
IsNext (star a) n k l = IsNext a n k l ⊎ IsLast a n k × IsFirst a n l

-- l can stand right after the place, at place 0 first
abbrev pub IsNextAt : Regex → ℕ → ℕ → Type 0
IsNextAt e place l = (place ≡ 0) × IsFirst e 1 l ⊎ IsNext e 1 place l

-- each number of w can stand right after the one before it, the first one after the place
abbrev pub IsWalk : Regex → ℕ → List ℕ → Type 0
IsWalk e place [] = ⊤
IsWalk e place (l ∷ w) = IsNextAt e place l × IsWalk e l w
