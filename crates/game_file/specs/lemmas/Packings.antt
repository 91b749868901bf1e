-- Each packing has a number of its own, which is not 0.
use Rattle.std.specs.Prelude.{◌≡◌, ◌==◌, if◌then◌else◌, ◌≤◌, ℕ, List}
use Rattle.std.proofs.Common.{refl, sym, ◌∙◌, ap, arith}
use Rattle.position_pack.specs.declared.kind.PackingKind.{PackingKind}
use Rattle.position_pack.specs.declared.kind.PackingKind.TheVariants.{Bytes, Bits}
use Rattle.game_file.specs.Fields.{kind_in, number_of_packing, packing_in}

-- it is not that of no game
pub some_number : (packing : PackingKind) → 1 ≤ number_of_packing packing
some_number Bytes = omega arith
some_number Bits = omega arith

-- the packing of a packing's number
numbered : (packing : PackingKind) → (if number_of_packing packing == 2 then Bits else Bytes) ≡ packing
numbered Bytes = refl
numbered Bits = refl

-- a slot with the number of a packing names it
pub kind_is : (root : List ℕ) (packing : PackingKind) → packing_in root ≡ number_of_packing packing → kind_in root ≡ packing
kind_is root packing is = ap (λ (n : ℕ). if n == 2 then Bits else Bytes) is ∙ numbered packing

-- a slot has the number of one packing at most
pub one_packing : (root : List ℕ) (one other : PackingKind) → packing_in root ≡ number_of_packing one
    → packing_in root ≡ number_of_packing other → one ≡ other
one_packing root one other first second = sym (kind_is root one first) ∙ kind_is root other second
