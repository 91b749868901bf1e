-- The numbers that go with the bytes of a table.
use Rattle.std.specs.Prelude.{◌≤◌, ◌^◌}
use Rattle.game_file.specs.declared.sizes.Sizes.{Sizes}
use Rattle.position_pack.specs.declared.limits.TheConstants.{MAX_PACKED}
use Rattle.rbg_game.specs.declared.limits.TheConstants.{MAX_TEXT_BYTES}

-- the numbers are in order and within the limits
pub record AreWithinLimits (sizes : Sizes) : Type 0 where
  pub text : sizes.text ≤ MAX_TEXT_BYTES
  pub packed : sizes.packed ≤ MAX_PACKED
  pub started : 1 ≤ sizes.counts.known
  pub known : sizes.counts.known ≤ 2 ^ 24
  pub expanded : sizes.counts.expanded ≤ sizes.counts.known
  pub settled : sizes.counts.settled ≤ sizes.counts.expanded
  pub processed : sizes.counts.processed ≤ sizes.counts.settled
