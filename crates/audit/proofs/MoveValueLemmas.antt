-- What the records of its successors say of the value of a position.
use Rattle.std.proofs.Common.{◌≡◌, ◌∙◌, sym, ap, subst, ℕ, suc, ◌≤◌, inl, inr, ⊎_elim, Bool, true, false, Option, Some, None, IsSome, List, [], ◌∷◌, length, refl, arith}
use Rattle.std.specs.Prelude.{Contains, option_map, if◌then◌else◌}
use Rattle.std.specs.List.{AllZip}
use Rattle.std.proofs.lemmas.Option.{same_Some}
use Rattle.std.proofs.lemmas.Slice.Zip.{AllZip-long}
use Rattle.rbg_game.specs.declared.roles.Player.{Player}
use Rattle.rbg_game.specs.declared.roles.Player.TheVariants.{First, Second}
use Rattle.rbg_game.specs.declared.roles.Role.{Role}
use Rattle.rbg_game.specs.declared.roles.Role.TheVariants as role
use Rattle.retrograde.specs.declared.records.Record.{Record}
use Rattle.retrograde.specs.Graph.{Graph, HasMove}
use Rattle.retrograde.specs.View.{View, HasNumber, IsProcessed}
use Rattle.retrograde.specs.Stored.{Stored, IsTable, HasRecord, is_processed, value_of, view_of, processed_in}
use Rattle.retrograde.specs.Local.{IsProcessedFor, HasNoOwnWin, AllLeadTo, IsMoveValue, own_win, all_lead, still_open}
use Rattle.retrograde.proofs.Additions.{is_first, is_later, first_or_later, only_first, none_in_empty}
use Rattle.retrograde.proofs.NumberLists.{number_in, position_in, as_many}
use Rattle.retrograde.proofs.Tables.{processed_valued}
use Rattle.audit.specs.lemmas.Conditions.{AreItsRecords}
use Rattle.audit.specs.lemmas.Records.{told, HasNone, IsDueByRecords, one_more}

zip_left : {A B : Type 0} (R : A → B → Type 0) (xs : List A) (ys : List B) → AllZip R xs ys → (x : A) → Contains xs x → (y : B) × Contains ys y × R x y
zip_left R [] ys zip x here = absurd (none_in_empty x here)
zip_left R (z ∷ xs) [] zip x here = absurd zip
zip_left {A} {B} R (z ∷ xs) (w ∷ ys) zip x here =
    ⊎_elim
    (λ same. (w, is_first w ys, subst (λ (u : A). R u w) same zip.0))
    (λ later. let (y, there, is) = zip_left R xs ys zip.1 x later in (y, is_later w y ys there, is))
    (first_or_later z x xs here)

zip_right : {A B : Type 0} (R : A → B → Type 0) (xs : List A) (ys : List B) → AllZip R xs ys → (y : B) → Contains ys y → (x : A) × Contains xs x × R x y
zip_right R xs [] zip y here = absurd (none_in_empty y here)
zip_right R [] (w ∷ ys) zip y here = absurd zip
zip_right {A} {B} R (z ∷ xs) (w ∷ ys) zip y here =
    ⊎_elim
    (λ same. (z, is_first z xs, subst (λ (u : B). R z u) same zip.0))
    (λ later. let (x, there, is) = zip_right R xs ys zip.1 y later in (x, is_later z x xs there, is))
    (first_or_later w y ys here)

-- of one element at most
only_one : {A : Type 0} (xs : List A) (a b : A) → length xs ≤ 1 → Contains xs a → Contains xs b → a ≡ b
only_one [] a b few here there = absurd (none_in_empty a here)
only_one (x ∷ []) a b few here there = sym (only_first x a here) ∙ only_first x b there
only_one (x ∷ y ∷ xs) a b few here there = absurd (omega arith)

-- a test that passed
chosen : (b : Bool) (v : Option (Player × ℕ)) (p : Player × ℕ) → (if b then v else None) ≡ Some p → (b ≡ true) × (v ≡ Some p)
chosen true v p is = (refl, is)
chosen false v p is = cc

-- two players that are not a third are one
other_player : (p v w : Player) → (v ≡ p → ⊥) → (w ≡ p → ⊥) → v ≡ w
other_player First First w a b = absurd (a refl)
other_player First Second First a b = absurd (b refl)
other_player First Second Second a b = refl
other_player Second Second w a b = absurd (a refl)
other_player Second First Second a b = absurd (b refl)
other_player Second First First a b = refl

module _ {P : Type 0} (graph : Graph P) (stored : Stored P) (table : IsTable stored) (i : ℕ) (x : P) (records : List Record)
    (it : AreItsRecords graph stored i x records) where
  abbrev view : View P
  view = view_of stored

  -- a record is that of a successor
  pub record_in : (r : Record) → Contains records r → (y : P) × (j : ℕ) × graph.Successor x y × HasNumber view j y × HasRecord stored j r
  record_in r here =
      let (j, there, has) = zip_right (HasRecord stored) it.js records it.records_are r here in
      let (y, is, at) = position_in stored.positions it.ys it.js it.moves.are.numbers j there in
      (y, j, (it.moves.are.each y).0 is, at, has)

  -- each successor has its record
  pub record_for : (y : P) → graph.Successor x y → (r : Record) × (j : ℕ) × Contains records r × HasNumber view j y × HasRecord stored j r
  record_for y move =
      let (j, there, at) = number_in stored.positions it.ys it.js it.moves.are.numbers y ((it.moves.are.each y).1 move) in
      let (r, here, has) = zip_left (HasRecord stored) it.js records it.records_are j there in
      (r, j, here, at, has)

  processed_is : (j : ℕ) (r : Record) → HasRecord stored j r → view.processed j ≡ is_processed r.state
  processed_is j r has = ap (λ (o : Option Record). processed_in o) has

  value_is : (j : ℕ) (r : Record) → HasRecord stored j r → view.value j ≡ value_of r
  value_is j r has = rw has refl

  told_so : (j : ℕ) (y : P) (r : Record) (w : Player) (n : ℕ) → HasNumber view j y → HasRecord stored j r → told r ≡ Some (w, n) → IsProcessedFor view w n y
  told_so j y r w n at has is =
      let (done, value) = chosen (is_processed r.state) (value_of r) (w, n) is in
      (j, at, processed_is j r has ∙ done, value_is j r has ∙ value)

  so_told : (j : ℕ) (y : P) (r : Record) (w : Player) (n : ℕ) → HasNumber view j y → HasRecord stored j r → IsProcessedFor view w n y → told r ≡ Some (w, n)
  so_told j y r w n at has (k, k_at, done, value) =
      let same : k ≡ j = table.distinct k j y k_at at in
      let done' : is_processed r.state ≡ true = sym (processed_is j r has) ∙ (ap (λ (m : ℕ). view.processed m) (sym same) ∙ done) in
      let value' : value_of r ≡ Some (w, n) = sym (value_is j r has) ∙ (ap (λ (m : ℕ). view.value m) (sym same) ∙ value) in
      rw done' value'

  -- where no record is told of, a successor is not processed
  untold : (j : ℕ) (y : P) (r : Record) → HasNumber view j y → HasRecord stored j r → told r ≡ None → IsProcessed view y → ⊥
  untold j y r at has none (k, k_at, done) =
      let same : k ≡ j = table.distinct k j y k_at at in
      let done' : is_processed r.state ≡ true = sym (processed_is j r has) ∙ (ap (λ (m : ℕ). view.processed m) (sym same) ∙ done) in
      let empty : value_of r ≡ None = rw done' at none in
      let some : IsSome (view.value k) = processed_valued stored table k done in
      let nothing : view.value k ≡ None = ap (λ (m : ℕ). view.value m) same ∙ (value_is j r has ∙ empty) in
      let wrong : IsSome {T = Player × ℕ} None = subst (λ (o : Option (Player × ℕ)). IsSome o) nothing some in
      cc

  no_own : HasNone (graph.mover x) records → HasNoOwnWin graph view x
  no_own none w n (turn, (y, move, there)) =
      let (r, j, here, at, has) = record_for y move in
      none w turn r n here (so_told j y r w n at has there)

  -- two records with a winner have the same one, where nobody who has the turn wins one
  one_winner : HasNone (graph.mover x) records → (r s : Record) (v w : Player) (m n : ℕ) → Contains records r → Contains records s
      → told r ≡ Some (v, m) → told s ≡ Some (w, n) → v ≡ w
  one_winner none r s v w m n here there v_is w_is = by (graph.mover x) refl
    where
      by : (mover : Role) → graph.mover x ≡ mover → v ≡ w
      by (role.Player p) turn =
          other_player p v w
          (λ same. none p turn r m here (v_is ∙ ap (λ (u : Player). Some (u, m)) same))
          (λ same. none p turn s n there (w_is ∙ ap (λ (u : Player). Some (u, n)) same))
      by role.Keeper turn =
          let few : length it.ys ≤ 1 = it.moves.keeper turn in
          let many : length it.ys ≡ length it.js = as_many stored.positions it.ys it.js it.moves.are.numbers in
          let long : length records ≡ length it.js = AllZip-long (HasRecord stored) it.js records it.records_are in
          let same : r ≡ s = only_one records r s (omega arith) here there in
          let e : ◌≡◌ {A = Player × ℕ} (v, m) (w, n) = same_Some (v, m) (w, n) (sym v_is ∙ (ap (λ (q : Record). told q) same ∙ w_is)) in
          ap (λ (q : Player × ℕ). q.0) e

  pub value_from_due : HasMove graph x → (due : Option (Player × ℕ)) → IsDueByRecords (graph.mover x) records due
      → IsMoveValue graph view x (option_map one_more due)
  value_from_due (y, move) None (none, inl empty) =
      let (r, j, here, at, has) = record_for y move in
      absurd (none_in_empty r (subst (λ (rs : List Record). Contains rs r) empty here))
  value_from_due has (None) (none, inr (r, here, is)) =
      let (y, j, move, at, has') = record_in r here in
      still_open (no_own none) (λ all. untold j y r at has' is (all y move)) refl
  value_from_due has (Some (w, n)) (inl (turn, ((r, here, is), least))) =
      let (y, j, move, at, has') = record_in r here in
      own_win w n
      (record {
        turn = turn;
        nearest = (y, move, told_so j y r w n at has' is);
        least = λ z m step there. let (s, k, s_here, s_at, s_has) = record_for z step in least s m s_here (so_told k z s w m s_at s_has there);
      })
      refl
  value_from_due has (Some (w, n)) (inr (none, ((r, here, is), all))) =
      let (y, j, move, at, has') = record_in r here in
      all_lead w n (no_own none)
      (record {
        each = λ z step.
            let (s, k, s_here, s_at, s_has) = record_for z step in
            let (v, m, s_is, le) = all s s_here in
            (m, le, told_so k z s w m s_at s_has (s_is ∙ ap (λ (u : Player). Some (u, m)) (one_winner none s r v w m n s_here here s_is is)));
        farthest = (y, move, told_so j y r w n at has' is);
      })
      refl

-- the processed successors of a position give it one value
module _ {P : Type 0} (graph : Graph P) (stored : Stored P) (table : IsTable stored) (x : P) where
  same_for : (y : P) (v w : Player) (m n : ℕ) → IsProcessedFor (view_of stored) v m y → IsProcessedFor (view_of stored) w n y
      → ◌≡◌ {A = Player × ℕ} (v, m) (w, n)
  same_for y v w m n (j, j_at, _, j_is) (k, k_at, _, k_is) =
      let same : j ≡ k = table.distinct j k y j_at k_at in
      same_Some (v, m) (w, n) (sym j_is ∙ (ap (λ (l : ℕ). (view_of stored).value l) same ∙ k_is))

  same_turn : (v w : Player) → graph.mover x ≡ Role.Player v → graph.mover x ≡ Role.Player w → v ≡ w
  same_turn v w a b = let e : Role.Player v ≡ Role.Player w = sym a ∙ b in cc

  farther : (v w : Player) (m n : ℕ) → AllLeadTo graph (view_of stored) x v m → AllLeadTo graph (view_of stored) x w n → (v ≡ w) × (m ≤ n)
  farther v w m n a b =
      let (y, move, there) = a.farthest in
      let (k, le, here) = b.each y move in
      let same : ◌≡◌ {A = Player × ℕ} (v, m) (w, k) = same_for y v w m k there here in
      let winner : v ≡ w = ap (λ (q : Player × ℕ). q.0) same in
      let far : m ≡ k = ap (λ (q : Player × ℕ). q.1) same in
      (winner, omega arith)

  pub one_value : (a b : Option (Player × ℕ)) → IsMoveValue graph (view_of stored) x a → IsMoveValue graph (view_of stored) x b → a ≡ b
  one_value a b (own_win v m win a_is) (own_win w n win' b_is) =
      let winner : v ≡ w = same_turn v w win.turn win'.turn in
      let (y, move, there) = win.nearest in
      let (z, step, here) = win'.nearest in
      let le : m ≤ n = win.least z n step (subst (λ (u : Player). IsProcessedFor (view_of stored) u n z) (sym winner) here) in
      let ge : n ≤ m = win'.least y m move (subst (λ (u : Player). IsProcessedFor (view_of stored) u m y) winner there) in
      let far : m ≡ n = omega arith in
      a_is ∙ (ap (λ (u : Player). Some (u, suc m)) winner ∙ (ap (λ (k : ℕ). Some (w, suc k)) far ∙ sym b_is))
  one_value a b (own_win v m win a_is) (all_lead w n none all b_is) = absurd (none v m (win.turn, win.nearest))
  one_value a b (own_win v m win a_is) (still_open none left b_is) = absurd (none v m (win.turn, win.nearest))
  one_value a b (all_lead w n none all a_is) (own_win v m win b_is) = absurd (none v m (win.turn, win.nearest))
  one_value a b (all_lead v m none all a_is) (all_lead w n none' all' b_is) =
      let (winner, le) = farther v w m n all all' in
      let (_, ge) = farther w v n m all' all in
      let far : m ≡ n = omega arith in
      a_is ∙ (ap (λ (u : Player). Some (u, suc m)) winner ∙ (ap (λ (k : ℕ). Some (w, suc k)) far ∙ sym b_is))
  one_value a b (all_lead v m none all a_is) (still_open none' left b_is) =
      absurd (left (λ y move. let (k, le, (j, at, done, is)) = all.each y move in (j, at, done)))
  one_value a b (still_open none left a_is) (own_win v m win b_is) = absurd (none v m (win.turn, win.nearest))
  one_value a b (still_open none left a_is) (all_lead w n none' all b_is) =
      absurd (left (λ y move. let (k, le, (j, at, done, is)) = all.each y move in (j, at, done)))
  one_value a b (still_open none left a_is) (still_open none' left' b_is) = a_is ∙ sym b_is
