-- A record that fits its state is settled exactly if it has a winner.
use Rattle.std.proofs.Common.{◌≡◌, ℕ, true, List, Option, Some, None, refl, sym, subst}
use Rattle.std.specs.Prelude.{slice_get, IsSome}
use Rattle.std.specs.Option.{option_map, option_and_then}
use Rattle.rbg_game.specs.declared.roles.Player.{Player}
use Rattle.retrograde.specs.declared.records.Record.{Record}
use Rattle.retrograde.specs.declared.records.State.{State}
use Rattle.retrograde.specs.declared.records.State.TheVariants.{Known, Expanded, Settled, Processed}
use Rattle.retrograde.specs.Stored.{FitsState, is_processed, is_settled, value_of}
use Rattle.retrograde.proofs.Sound.{map_some}

pub settled_has : (r : Record) (s : State) → is_settled s ≡ true → FitsState s r → IsSome r.winner
settled_has r Known is fits = absurd (cc)
settled_has r Expanded is fits = absurd (cc)
settled_has r Settled is fits = fits
settled_has r Processed is fits = fits

has_none : (o : Option Player) → o ≡ None → IsSome o → ⊥
has_none None is some = cc
has_none (Some w) is some = absurd (cc)

pub only_settled : (r : Record) (s : State) → FitsState s r → IsSome r.winner → is_settled s ≡ true
only_settled r Known fits has = absurd (has_none r.winner fits.0 has)
only_settled r Expanded fits has = absurd (has_none r.winner fits.0 has)
only_settled r Settled fits has = refl
only_settled r Processed fits has = refl

pub processed_settled : (s : State) → is_processed s ≡ true → is_settled s ≡ true
processed_settled Known is = absurd (cc)
processed_settled Expanded is = absurd (cc)
processed_settled Settled is = refl
processed_settled Processed is = refl

-- a number with a winner has a record with one
pub value_has : (o : Option Record) → IsSome (option_and_then value_of o) → (r : Record) × (o ≡ Some r) × IsSome r.winner
value_has None has = absurd (cc)
value_has (Some r) has = (r, refl, winner_has r.winner has)
  where
    winner_has : (w : Option Player) → IsSome {T = Player × ℕ} (option_map (λ (p : Player). (p, r.distance)) w) → IsSome w
    winner_has None none = cc
    winner_has (Some p) some = refl

pub value_there : (records : List Record) (i : ℕ) (r : Record) → slice_get records i ≡ Some r → IsSome r.winner
    → IsSome (option_and_then value_of (slice_get records i))
value_there records i r at has = subst (λ (o : Option Record). IsSome (option_and_then value_of o)) (sym at) (map_some r.winner r.distance has)
