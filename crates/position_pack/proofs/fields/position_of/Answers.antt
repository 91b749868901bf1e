use Rattle.std.proofs.Common.{◌≡◌, ℕ, zero, suc, ◌+◌, ◌-◌, ◌++◌, ◌≤◌, List, ◌∷◌, [], length, take, drop, get_or, get_or-drop, length-drop, length-take-le, refl, ap, sym, ◌∙◌, arith}
use Rattle.std.specs.Prelude.{Option, None, Some, ◌↔◌}
use Rattle.rbg_game.specs.declared.roles.Role.{Role}
use Rattle.rbg_game.specs.declared.roles.Role.TheVariants.{Keeper, Player}
use Rattle.rbg_game.specs.declared.roles.Player.TheVariants.{First, Second}
use Rattle.position_pack.specs.Fields.{role_code}
use Rattle.position_pack.proofs.PartLemmas.{joined}
use Rattle.position_pack.proofs.fields.position_of.Goals as goal

three_of : (xs : List ℕ) → length xs ≡ 3 → xs ≡ get_or xs 0 0 ∷ get_or xs 1 0 ∷ get_or xs 2 0 ∷ []
three_of [] e = absurd (omega (arith, e))
three_of (a ∷ []) e = absurd (omega (arith, e))
three_of (a ∷ b ∷ []) e = absurd (omega (arith, e))
three_of (a ∷ b ∷ d ∷ []) e = refl
three_of (a ∷ b ∷ d ∷ x ∷ xs) e = absurd (omega (arith, e))

-- fields cut into the pieces, the values and the last three
record Cut (fields p values last : List ℕ) (v : ℕ) : Type 0 where
  whole : fields ≡ p ++ values ++ get_or last 0 0 ∷ get_or last 1 0 ∷ get_or last 2 0 ∷ []
  pieces : length p ≡ v
  role : get_or last 1 0 ≡ get_or fields (length fields - 2) 0

cut_of : (fields p rest values last : List ℕ) (v n : ℕ) → v + 3 ≤ length fields → p ≡ take v fields → rest ≡ drop v fields
    → n ≡ length rest - 3 → values ≡ take n rest → last ≡ drop n rest → Cut fields p values last v
cut_of fields p rest values last v n le ep er en ev el =
    let many : length rest ≡ length fields - v = ap length er ∙ length-drop v fields in
    let three : length last ≡ 3 = ap length el ∙ length-drop n rest ∙ omega (arith, many, en, le) in
    let place : v + (n + 1) ≡ length fields - 2 = omega (arith, many, en, le) in
    record {
      whole = joined v n fields p values _ (sym ep) (ap (take n) (sym er) ∙ sym ev) (ap (drop n) (sym er) ∙ sym el ∙ three_of last three);
      pieces = ap length ep ∙ length-take-le v fields (omega (arith, le));
      role = ap (λ xs. get_or xs 1 0) el ∙ get_or-drop n rest 1 0 ∙ ap (λ xs. get_or xs (n + 1) 0) er ∙ get_or-drop v fields (n + 1) 0
          ∙ ap (λ i. get_or fields i 0) place;
    }

-- a number up to 2 is a role's
no_role : (r : Option Role) (n : ℕ) → n ≤ 2 → ((role : Role) → (r ≡ Some role) ↔ (n ≡ role_code role)) → r ≡ None → ⊥
no_role r zero le each none = let some : r ≡ Some Keeper = (each Keeper).1 refl in cc (some, none)
no_role r (suc zero) le each none = let some : r ≡ Some (Player First) = (each (Player First)).1 refl in cc (some, none)
no_role r (suc (suc zero)) le each none = let some : r ≡ Some (Player Second) = (each (Player Second)).1 refl in cc (some, none)
no_role r (suc (suc (suc n))) le each none = omega (arith, le)

pub returns-in_err-mover : goal.returns-in_err-mover
returns-in_err-mover c =
    let cut : Cut c.args.fields.now c.split_at.result.0.now c.split_at-2.result.0.now c.split_at-2.result.1.now c.args.vertices =
    cut_of c.args.fields.now c.split_at.result.0.now c.split_at.result.1.now c.split_at-2.result.0.now c.split_at-2.result.1.now c.args.vertices _ c.requires.long c.split_at.ensures.front c.split_at.ensures.back refl c.split_at-2.ensures.front c.split_at-2.ensures.back in
    absurd (no_role c.role_of.result (get_or c.split_at-2.result.1.now 1 0) (omega (arith, cut.role, c.requires.role)) c.role_of.ensures (c.in_err-mover.was))

pub returns : goal.returns
returns c =
    let cut : Cut c.args.fields.now c.split_at.result.0.now c.split_at-2.result.0.now c.split_at-2.result.1.now c.args.vertices =
    cut_of c.args.fields.now c.split_at.result.0.now c.split_at.result.1.now c.split_at-2.result.0.now c.split_at-2.result.1.now c.args.vertices _ c.requires.long c.split_at.ensures.front c.split_at.ensures.back refl c.split_at-2.ensures.front c.split_at-2.ensures.back in
    let was = c.in_ok-mover.was in
    let last = c.split_at-2.result.1.now in
    let role : get_or last 1 0 ≡ role_code c.in_ok-mover.mover = (c.role_of.ensures c.in_ok-mover.mover).0 was in
    record {
      fields_are = ap (λ p. p ++ c.take_values.new.values.items ++ get_or last 0 0 ∷ role_code c.in_ok-mover.mover ∷ get_or last 2 0 ∷ []) c.take_pieces.ensures
          ∙ ap (λ v. c.split_at.result.0.now ++ v ++ get_or last 0 0 ∷ role_code c.in_ok-mover.mover ∷ get_or last 2 0 ∷ []) c.take_values.ensures
          ∙ ap (λ r. c.split_at.result.0.now ++ c.split_at-2.result.0.now ++ get_or last 0 0 ∷ r ∷ get_or last 2 0 ∷ []) (sym role)
          ∙ sym cut.whole;
      pieces_fit = ap length c.take_pieces.ensures ∙ cut.pieces;
    }
