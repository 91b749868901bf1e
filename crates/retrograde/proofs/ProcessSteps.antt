-- The steps of processing one settled position.
use Rattle.std.proofs.Common.{◌≡◌, ◌∙◌, ap, subst, ℕ, zero, suc, ◌+◌, ◌-◌, ◌≤◌, ◌<◌, ⊎_elim, Bool, true, false, eqb, ◌&&◌, ◌||◌, cond, Option, Some, None, option_map, option_and_then, List, [], ◌∷◌, ◌++◌, length, set, refl, arith, slice_get}
use Rattle.std.specs.Prelude.{count_by}
use Rattle.std.proofs.lemmas.Option.{same_Some, slice_get_within}
use Rattle.std.proofs.lemmas.List.{length_push, length-set}
use Rattle.std.proofs.lemmas.List.Sums.{count_by-le-length, sum_by-cons}
use Rattle.rbg_game.specs.declared.roles.Player.{Player}
use Rattle.retrograde.specs.declared.records.State.{State}
use Rattle.retrograde.specs.declared.records.State.TheVariants.{Known, Expanded, Settled, Processed}
use Rattle.retrograde.specs.declared.records.Record.{Record}
use Rattle.retrograde.specs.Graph.{Graph}
use Rattle.retrograde.specs.Stored.{Stored, FitsState, IsTable, value_of, view_of, is_settled, settled_count, processed_count}
use Rattle.retrograde.specs.Process.{has_turn, is_open, is_due, processed_record, with_processed_alone, IsNextSettled}
use Rattle.retrograde.specs.lemmas.ProcessSteps.{lower_with, lower_at, lowered_below}
use Rattle.retrograde.proofs.CountLemmas.{true_or_false}
use Rattle.retrograde.proofs.Predecessors.{count_set}

-- where one element fails, not all are counted
pub count_less : {A : Type 0} (test : A → Bool) (xs : List A) (i : ℕ) (x : A) → slice_get xs i ≡ Some x → test x ≡ false → count_by test xs < length xs
count_less test [] i x at fails = cc
count_less test (y ∷ xs) zero x at fails =
    let same : y ≡ x = same_Some y x at in
    let here : ◌≡◌ {A = ℕ} (cond (test y) 1 0) 0 = ap (λ (b : Bool). cond b 1 0) (ap test same ∙ fails) in
    let le : count_by test xs ≤ length xs = count_by-le-length test xs in
    let total : count_by test (y ∷ xs) ≡ cond (test y) 1 0 + count_by test xs = sum_by-cons (λ z. cond (test z) 1 0) y xs in
    omega arith
count_less test (y ∷ xs) (suc i) x at fails =
    let less : count_by test xs < length xs = count_less test xs i x at fails in
    let total : count_by test (y ∷ xs) ≡ cond (test y) 1 0 + count_by test xs = sum_by-cons (λ z. cond (test z) 1 0) y xs in
    let most : cond (test y) 1 0 ≤ 1 = at_most_one (test y) in
    omega arith
  where
    at_most_one : (b : Bool) → cond b 1 0 ≤ 1
    at_most_one true = omega arith
    at_most_one false = omega arith

pub open_unsettled : (s : State) → is_open s ≡ true → is_settled s ≡ false
open_unsettled Known is = refl
open_unsettled Expanded is = refl
open_unsettled Settled is = cc
open_unsettled Processed is = cc

pub won_settled : (s : State) (r : Record) (w : Player) → FitsState s r → r.winner ≡ Some w → is_settled s ≡ true
won_settled Known r w fits won = let none : r.winner ≡ None = fits.0 in cc
won_settled Expanded r w fits won = let none : r.winner ≡ None = fits.0 in cc
won_settled Settled r w fits won = refl
won_settled Processed r w fits won = refl

pub both : (a b : Bool) → (a && b) ≡ true → a ≡ true
both true b is = refl
both false b is = is

-- as many numbers are in the order as are settled
abbrev pub IsCounted : {P : Type 0} → Stored P → Type 0
IsCounted stored = length stored.order ≡ settled_count stored

module _ {P : Type 0} (graph : Graph P) (w : Player) (d : ℕ) where
  counted_with : (p : ℕ) (stored : Stored P) (o : Option P) (q : Option Record) → slice_get stored.records p ≡ q
      → IsCounted stored → IsCounted (lower_with graph w d p stored o q)
  counted_with p stored None q at is = is
  counted_with p stored (Some x) None at is = is
  counted_with p stored (Some x) (Some r) at is = go (is_due (graph.mover x) w r) refl
    where
      due : Record
      due = record { state = Settled; winner = Some w; distance = d + 1; left = r.left - 1; successors = r.successors }

      go : (b : Bool) → is_due (graph.mover x) w r ≡ b
          → length (cond b (stored.order ++ p ∷ []) stored.order)
          ≡ count_by (λ (q : Record). is_settled q.state) (set stored.records p (cond b due (record r { left = r.left - 1 })))
      go true yes' =
          let fresh : is_settled r.state ≡ false = open_unsettled r.state (both (is_open r.state) (has_turn w (graph.mover x) || eqb r.left 1) yes') in
          let total : count_by (λ (q : Record). is_settled q.state) (set stored.records p due) + cond (is_settled r.state) 1 0
          ≡ count_by (λ (q : Record). is_settled q.state) stored.records + 1 = count_set (λ (q : Record). is_settled q.state) stored.records p r due at in
          let total' : count_by (λ (q : Record). is_settled q.state) (set stored.records p due) + 0
          ≡ count_by (λ (q : Record). is_settled q.state) stored.records + 1 = subst
          (λ (b : Bool). count_by (λ (q : Record). is_settled q.state) (set stored.records p due) + cond b 1 0 ≡ count_by
          (λ (q : Record). is_settled q.state) stored.records + 1) fresh total in
          let pushed : length (stored.order ++ p ∷ []) ≡ length stored.order + 1 = length_push stored.order p in
          omega arith
      go false not' =
          let total : count_by (λ (q : Record). is_settled q.state) (set stored.records p (record r { left = r.left - 1 })) + cond (is_settled r.state) 1 0
          ≡ count_by (λ (q : Record). is_settled q.state) stored.records + cond (is_settled r.state) 1 0 = count_set
          (λ (q : Record). is_settled q.state) stored.records p r (record r { left = r.left - 1 }) at in
          omega arith

  counted_at : (p : ℕ) (stored : Stored P) → IsCounted stored → IsCounted (lower_at graph w d p stored)
  counted_at p stored is = counted_with p stored (slice_get stored.positions p) (slice_get stored.records p) refl is

  counted_if : (b : Bool) (n : ℕ) (stored : Stored P) → IsCounted stored → IsCounted (cond b (lower_at graph w d n stored) stored)
  counted_if true n stored is = counted_at n stored is
  counted_if false n stored is = is

  pub counted_below : (s n : ℕ) (stored : Stored P) → IsCounted stored → IsCounted (lowered_below graph s w d n stored)
  counted_below s zero stored is = is
  counted_below s (suc n) stored is = counted_if (stored.has_edge s n) n (lowered_below graph s w d n stored) (counted_below s n stored is)

module _ {P : Type 0} (stored : Stored P) (table : IsTable stored)
    (s : ℕ) (r : Record) (w : Player) (next : IsNextSettled stored s r w) (d : ℕ) (distance : r.distance ≡ d) where
  abbrev pub base : Stored P
  base = with_processed_alone s r stored

  pub s_in : s < length stored.records
  s_in = slice_get_within stored.records s r next.has

  pub s_known : s < length stored.positions
  s_known = let same : length stored.records ≡ length stored.positions = table.records in let within : s < length stored.records = s_in in omega arith

  pub base_records : length base.records ≡ length stored.positions
  base_records = length-set stored.records s (processed_record r) ∙ table.records

  pub base_counted : IsCounted base
  base_counted =
      let settled : is_settled r.state ≡ true = won_settled r.state r w (table.states s r next.has) next.won in
      let total : count_by (λ (q : Record). is_settled q.state) (set stored.records s (processed_record r)) + cond (is_settled r.state) 1 0
      ≡ count_by (λ (q : Record). is_settled q.state) stored.records + 1 = count_set (λ (q : Record). is_settled q.state) stored.records s r
      (processed_record r) next.has in
      let total' : count_by (λ (q : Record). is_settled q.state) (set stored.records s (processed_record r)) + 1
      ≡ count_by (λ (q : Record). is_settled q.state) stored.records + 1 = subst
      (λ (b : Bool). count_by (λ (q : Record). is_settled q.state) (set stored.records s (processed_record r)) + cond b 1 0 ≡ count_by
      (λ (q : Record). is_settled q.state) stored.records + 1) settled total in
      let before : length stored.order ≡ count_by (λ (q : Record). is_settled q.state) stored.records = table.counted in
      omega arith

  pub s_waits : (view_of stored).processed s ≡ false
  s_waits =
      ⊎_elim
      (λ is. let lt : processed_count stored < processed_count stored = (table.processed (processed_count stored) s next.place).0 is in absurd (omega arith))
      (λ is. is)
      (true_or_false ((view_of stored).processed s))

  pub value_is : (view_of stored).value s ≡ Some (w, d)
  value_is = ap (λ (o : Option Record). option_and_then value_of o) next.has
      ∙ (ap (λ (o : Option Player). option_map (λ (v : Player). (v, r.distance)) o) next.won ∙ ap (λ (n : ℕ). Some (w, n)) distance)
