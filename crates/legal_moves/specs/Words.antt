-- The words of the rules: lists of the numbers of the occurrences.
use Rattle.std.specs.Prelude.{◌≡◌, ℕ, ◌+◌, ◌⊎◌, ⊤, false, List, [], ◌∷◌, ◌++◌}
use Rattle.rbg_game.specs.Rules.{Regex, one, empty, cat, alt, star, count, action_at, is_switch}

-- finitely many words, joined
pub data Joined (IsWord : List ℕ → Type 0) : List ℕ → Type 0 where
  none : Joined IsWord []
  more : (u v : List ℕ) → IsWord u → Joined IsWord v → Joined IsWord (u ++ v)

-- w is a word of the expression, whose occurrences have the numbers from n on
abbrev pub IsWord : Regex → ℕ → List ℕ → Type 0
IsWord (one a) n w = w ≡ n ∷ []
IsWord empty n w = w ≡ []
IsWord (cat a b) n w =
    (u : List ℕ) × (v : List ℕ) × (w ≡ u ++ v) × IsWord a n u × IsWord b (n + count a) v
IsWord (alt a b) n w = IsWord a n w ⊎ IsWord b (n + count a) w
IsWord (star a) n w = Joined (IsWord a n) w

-- u ends in the occurrence with this number, or is empty at place 0
abbrev pub EndsAt : List ℕ → ℕ → Type 0
EndsAt u place = ((u ≡ []) × (place ≡ 0)) ⊎ ((t : List ℕ) × (u ≡ t ++ place ∷ []))

-- w can follow the place in a word
abbrev pub CanFollow : Regex → ℕ → List ℕ → Type 0
CanFollow e place w =
    (u : List ℕ) × (v : List ℕ) × IsWord e 1 (u ++ (w ++ v)) × EndsAt u place

-- no occurrence in w is a switch
abbrev pub HasNoSwitch : Regex → List ℕ → Type 0
HasNoSwitch e [] = ⊤
HasNoSwitch e (k ∷ w) = (is_switch (action_at e 1 k) ≡ false) × HasNoSwitch e w
