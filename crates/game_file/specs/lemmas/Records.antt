-- Bytes are those of one record at most, and of one position with its record.
use Rattle.std.specs.Prelude.{◌≡◌, ℕ, List, [], ◌∷◌, ◌++◌, length, Option, None, Some}
use Rattle.std.proofs.Common.{refl, sym, subst, ◌∙◌, arith}
use Rattle.rbg_game.specs.declared.roles.Player.{Player}
use Rattle.rbg_game.specs.declared.roles.Player.TheVariants.{First, Second}
use Rattle.retrograde.specs.declared.records.State.{State}
use Rattle.retrograde.specs.declared.records.State.TheVariants.{Known, Expanded, Settled, Processed}
use Rattle.retrograde.specs.declared.records.Record.{Record}
use Rattle.game_file.specs.Bytes.{state_byte, winner_byte, IsRecord, IsCell}

-- fronts of one length of the same list are the same
pub same_fronts : {A : Type 0} (a b x y : List A) → length a ≡ length b → a ++ x ≡ b ++ y → (a ≡ b) × (x ≡ y)
same_fronts [] [] x y long is = (refl, is)
same_fronts [] (q ∷ b) x y long is = absurd (cc)
same_fronts (p ∷ a) [] x y long is = absurd (cc)
same_fronts (p ∷ a) (q ∷ b) x y long is =
    let tails : a ++ x ≡ b ++ y = cc in
    let (front, back) = same_fronts a b x y (omega (arith, long)) tails in
    (cc, back)

-- the state with a byte
same_state : (a b : State) → state_byte a ≡ state_byte b → a ≡ b
same_state Known Known e = refl
same_state Known Expanded e = absurd (cc)
same_state Known Settled e = absurd (cc)
same_state Known Processed e = absurd (cc)
same_state Expanded Known e = absurd (cc)
same_state Expanded Expanded e = refl
same_state Expanded Settled e = absurd (cc)
same_state Expanded Processed e = absurd (cc)
same_state Settled Known e = absurd (cc)
same_state Settled Expanded e = absurd (cc)
same_state Settled Settled e = refl
same_state Settled Processed e = absurd (cc)
same_state Processed Known e = absurd (cc)
same_state Processed Expanded e = absurd (cc)
same_state Processed Settled e = absurd (cc)
same_state Processed Processed e = refl

-- the winner with a byte
same_winner : (a b : Option Player) → winner_byte a ≡ winner_byte b → a ≡ b
same_winner None None e = refl
same_winner None (Some First) e = absurd (cc)
same_winner None (Some Second) e = absurd (cc)
same_winner (Some First) None e = absurd (cc)
same_winner (Some Second) None e = absurd (cc)
same_winner (Some First) (Some First) e = refl
same_winner (Some First) (Some Second) e = absurd (cc)
same_winner (Some Second) (Some First) e = absurd (cc)
same_winner (Some Second) (Some Second) e = refl

-- the record with its parts
same_record : (r s : Record) → r.state ≡ s.state → r.winner ≡ s.winner → r.distance ≡ s.distance → r.left ≡ s.left
    → r.successors ≡ s.successors → r ≡ s
same_record r s state winner distance left successors =
    λ i. record { state = state i; winner = winner i; distance = distance i; left = left i; successors = successors i }

-- the record of 16 bytes
pub one_record : (bytes : List ℕ) (r s : Record) → IsRecord bytes r → IsRecord bytes s → r ≡ s
one_record bytes r s a b =
    same_record r s (same_state r.state s.state (sym a.state ∙ b.state)) (same_winner r.winner s.winner (sym a.winner ∙ b.winner))
    (sym a.distance ∙ b.distance) (sym a.left ∙ b.left) (sym a.successors ∙ b.successors)

pub one_cell : (packed : ℕ) (bytes : List ℕ) (x y : List ℕ × Record) → IsCell packed bytes x → IsCell packed bytes y → x ≡ y
one_cell packed bytes (x, r) (y, s) a b =
    let (positions, behind) = same_fronts x y a.behind b.behind (a.long ∙ sym b.long) (sym a.is ∙ b.is) in
    let records : r ≡ s = one_record b.behind r s (subst (λ (f : List ℕ). IsRecord f r) behind a.is_record) b.is_record in
    λ i. (positions i, records i)
