-- Positions and moves do not change with the packing.
use Rattle.std.specs.Prelude.{ℕ, List, [], ◌∷◌, ⊤}
use Rattle.rbg_game.specs.declared.position.Position.{Position}
use Rattle.position_pack.specs.Packings.{Form, IsPacked}

-- both are the bytes of one position, each by its packing
abbrev pub IsRepacked : Form → Form → List ℕ → List ℕ → Type 0
IsRepacked rows form x y = (at : Position) × IsPacked rows at x × IsPacked form at y

-- as many, and each is repacked
abbrev pub AreRepacked : Form → Form → List (List ℕ) → List (List ℕ) → Type 0
AreRepacked rows form [] [] = ⊤
AreRepacked rows form [] (y ∷ ys) = ⊥
AreRepacked rows form (x ∷ xs) [] = ⊥
AreRepacked rows form (x ∷ xs) (y ∷ ys) = IsRepacked rows form x y × AreRepacked rows form xs ys
