-- Lists whose lines follow from one another.
use Rattle.std.proofs.Common.{◌≡◌, refl, ℕ, inl, inr, List, All, arith}
use Rattle.std.specs.Prelude.{Contains}
use Rattle.std.proofs.lemmas.List.Elements.{All-contains}
use Rattle.rbg_game.specs.declared.roles.Player.{Player}
use Rattle.retrograde.specs.Graph.{Graph}
use Rattle.legal_moves.specs.declared.fault.MoveFault.{MoveFault}
use Rattle.legal_moves.specs.declared.fault.MoveFault.TheVariants as search_fault
use Rattle.certificate.specs.Format.{Line}
use Rattle.certificate.specs.Lists.{Has}
use Rattle.certificate.specs.Shown.{Follows, IsSearched, IsUnfollowed}
use Rattle.certificate.specs.Shown.{IsUnfollowed as unfollowed}
use Rattle.certificate.specs.Strategies.{IsStrategy, IsDelay, IsSafeSet, RanksFrom}
use Rattle.certificate.specs.lemmas.Faults.{of_search}
use Rattle.certificate.specs.declared.manner.Manner.{Manner}
use Rattle.certificate.specs.declared.manner.Manner.TheVariants.{AtMost, AtLeast, Never}
use Rattle.certificate.specs.declared.manner.TheConstants.{NEVER}

module _ (graph : Graph (List ℕ)) (w : Player) (list : List Line) where
  pub strategy_of : All (Follows graph AtMost w list) list → IsStrategy graph w (Has list)
  strategy_of all = λ x n there. All-contains (Follows graph AtMost w list) list (record { at = x; rank = n }) all there

  pub delay_of : All (Follows graph AtLeast w list) list → IsDelay graph w (Has list)
  delay_of all = λ x n there. All-contains (Follows graph AtLeast w list) list (record { at = x; rank = n }) all there

  pub safe_of : All (Follows graph Never w list) list → IsSafeSet graph w (RanksFrom (Has list) NEVER)
  safe_of all = λ x here. elim here [
    | inl none ↦ absurd (omega (arith, none))
    | inr (m, there, le) ↦ All-contains (Follows graph Never w list) list (record { at = x; rank = m }) all there
  ]

-- a fault of a search at one of the lines
pub unsearched : (graph : Graph (List ℕ)) (Wide : List ℕ → Type 0) (manner : Manner) (w : Player) (list : List Line) (fault : MoveFault)
    → (fault ≡ search_fault.TooWide → (line : Line) × Contains list line × (IsSearched manner line × Wide line.at))
    → IsUnfollowed graph Wide manner w list (of_search fault)
unsearched graph Wide manner w list search_fault.TooWide wide = let (line, there, is) = wide refl in unfollowed.too_wide line there is.0 is.1
unsearched graph Wide manner w list search_fault.OutOfMemory wide = unfollowed.no_memory
