-- The first of some causes, by tests.
use Rattle.std.proofs.Common.{◌≡◌, ◌==◌, ℕ, Bool, true, false, not, length, ap, if◌then◌else◌, arith}
use Rattle.std.proofs.lemmas.List.{length-map}
use Rattle.std.specs.Vec.{vec_len}
use Rattle.rbg_text.specs.Said.{declaration_view}
use Rattle.rbg_read.specs.lemmas.Parts.{parts_view}
use Rattle.rbg_read.specs.declared.parts.Parts.{Parts}

-- the test holds before which none holds
pub here : {A : Type 0} (a : Bool) (x w : A) → a ≡ true → (if a then x else w) ≡ x
here a x w e = rw e

-- a test that does not hold is passed
pub past : {A : Type 0} (a : Bool) (x w : A) {z : A} → a ≡ false → w ≡ z → (if a then x else w) ≡ z
past a x w e f = rw e f

-- there are two
pub two_at : {n : ℕ} → n ≡ 2 → not (n == 2) ≡ false
two_at e = ap (λ n. not (n == 2)) e

pub two_players : (p : Parts) (n : ℕ) → n ≡ vec_len p.players → n ≡ 2 → length (parts_view p).players ≡ 2
two_players p n counted two = omega (arith, counted, two, length-map p.players.items declaration_view)
