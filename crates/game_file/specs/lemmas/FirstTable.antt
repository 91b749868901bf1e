-- The table of a game that was just loaded.
use Rattle.std.proofs.Common.{◌≡◌, ℕ, zero, suc, true, false, List, length, Some, refl, sym, ◌∙◌, ap, subst, arith}
use Rattle.std.specs.Prelude.{slice_get}
use Rattle.std.specs.Option.{IsSome}
use Rattle.std.proofs.lemmas.Option.{same_Some}
use Rattle.retrograde.specs.declared.records.Record.{Record}
use Rattle.retrograde.specs.Changes.{fresh_record}
use Rattle.retrograde.specs.Stored.{IsTable, HasRecord, FitsState, is_expanded, loaded, view_of}
use Rattle.table.specs.Fit.{FitsTogether}

-- the one record of a table that was just loaded
one_record : {P : Type 0} (x : P) (i : ℕ) (r : Record) → HasRecord (loaded x) i r → (i ≡ 0) × (r ≡ fresh_record)
one_record x zero r has = (refl, sym (same_Some fresh_record r has))
one_record x (suc i) r has = absurd (cc)

no_value : {P : Type 0} (x : P) (i : ℕ) → IsSome ((view_of (loaded x)).value i) → ⊥
no_value x zero is = absurd (cc)
no_value x (suc i) is = absurd (cc)

one_place : {P : Type 0} (x : P) (i j : ℕ) (y : P) → slice_get (loaded x).positions i ≡ Some y → slice_get (loaded x).positions j ≡ Some y → i ≡ j
one_place x zero zero y one two = refl
one_place x zero (suc j) y one two = absurd (cc)
one_place x (suc i) j y one two = absurd (cc)

-- its parts fit together
pub loaded_is_table : {P : Type 0} (x : P) → IsTable (loaded x)
loaded_is_table x = record {
  started = omega arith;
  records = refl;
  distinct = one_place x;
  states = λ i r has. subst (λ (s : Record). FitsState s.state s) (sym (one_record x i r has).1) (refl, refl, refl, refl);
  expanded = λ i r has. (
    (λ is. let never : false ≡ true = ap (λ (s : Record). is_expanded s.state) (sym (one_record x i r has).1) ∙ is in absurd (cc)),
    (λ low. absurd (omega (arith, low))),
  );
  listed = λ i is. absurd (no_value x i is);
  settled = λ k i got. absurd (cc);
  counted = refl;
  once = λ j k i one two. absurd (cc);
  processed = λ k i got. absurd (cc);
  edges = λ i j has. absurd (cc);
}

one_long : (x : List ℕ) (i : ℕ) (y : List ℕ) → slice_get (loaded x).positions i ≡ Some y → length y ≡ length x
one_long x zero y got = ap length (sym (same_Some x y got))
one_long x (suc i) y got = absurd (cc)

-- and so do the parts with its start
pub loaded_fits : (x : List ℕ) → FitsTogether (length x) (loaded x)
loaded_fits x = record { table = loaded_is_table x; long = one_long x }
