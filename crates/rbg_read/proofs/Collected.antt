-- The only members of lists that are mapped.
use Rattle.std.proofs.Common.{◌≡◌, List, [], ◌∷◌, map, Some, Vec, Global, refl, sym}
use Rattle.std.specs.Prelude.{option_map}
use Rattle.rbg_text.specs.Said.{declaration_view, vertex_view}
use Rattle.rbg_text.specs.View.{step_view}
use Rattle.rbg_read.specs.lemmas.Parts.{only, at_most_one, parts_of, parts_view, kinds_view}
use Rattle.rbg_read.specs.declared.parts.Parts.{Parts}
use Rattle.rbg_read.specs.declared.parts.Sections.{Sections}

only_map : {X Y : Type 0} (f : X → Y) (xs : List X) → only (map f xs) ≡ option_map f (only xs)
only_map f [] = refl
only_map f (x ∷ []) = refl
only_map f (x ∷ y ∷ more) = refl

most_map : {X Y : Type 0} (f : X → Y) (xs : List (Vec X Global))
    → at_most_one (map (λ v. map f v.items) xs) ≡ option_map (map f) (at_most_one (map (λ v. v.items) xs))
most_map f [] = refl
most_map f (x ∷ []) = refl
most_map f (x ∷ y ∷ more) = refl

-- the program's parts, from the only sections
pub parts_made : (all : Sections) (p : Parts) → only all.players.items ≡ Some p.players → only all.pieces.items ≡ Some p.pieces
    → at_most_one (map (λ v. v.items) all.variables.items) ≡ Some p.variables.items → only all.boards.items ≡ Some p.vertices
    → only all.rules.items ≡ Some p.steps → Some (parts_view p) ≡ parts_of (kinds_view all)
parts_made all p players pieces variables boards rules =
    sym (rw (
      only_map (λ v. map declaration_view v.items) all.players.items,
      players,
      only_map (λ v. map (λ w. w.now) v.items) all.pieces.items,
      pieces,
      most_map declaration_view all.variables.items,
      variables,
      only_map (λ v. map vertex_view v.items) all.boards.items,
      boards,
      only_map (λ v. map step_view v.items) all.rules.items,
      rules,
    ) refl)
