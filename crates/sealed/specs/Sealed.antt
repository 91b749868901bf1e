-- A value behind a seal.
use Rattle.std.specs.Prelude.{◌≡◌, refl}

-- this value, which nobody can compute who does not have the law below
pub sealed : {A : Type 0} → A → A
sealed value = value

-- what is behind the seal, for a crate that names this one
pub opened : {A : Type 0} (value : A) → sealed value ≡ value
unfolding sealed
opened value = refl
