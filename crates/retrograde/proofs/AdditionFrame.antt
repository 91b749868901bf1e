-- What adding the successors of a position leaves as it was.
use Rattle.std.proofs.Common.{◌≡◌, ◌∙◌, sym, ap, subst, ℕ, ◌+◌, ◌≤◌, inl, inr, true, false, List, [], ◌∷◌, ◌++◌, length, refl, arith}
use Rattle.std.proofs.lemmas.List.{length_push}
use Rattle.retrograde.specs.declared.records.State.{State}
use Rattle.retrograde.specs.declared.records.State.TheVariants.{Known, Expanded, Settled, Processed}
use Rattle.retrograde.specs.Stored.{Stored, is_expanded, is_settled}
use Rattle.retrograde.specs.Changes.{fresh_record}
use Rattle.retrograde.specs.lemmas.Expansion.{IsNoted, AreNoted}

module _ {P : Type 0} (e : ℕ) where
  pub record Grew (old new : Stored P) : Type 0 where
    pub order : new.order ≡ old.order
    pub longer : length old.positions ≤ length new.positions
    pub even : length old.records ≡ length old.positions → length new.records ≡ length new.positions

  pub noted_grew : (y : P) (a b : Stored P) → IsNoted e y a b → Grew a b
  noted_grew y a b (inl (j, at, is)) = subst (λ (t : Stored P). Grew a t) (sym is) (record { order = refl; longer = omega arith; even = λ h. h })
  noted_grew y a b (inr (new, is)) = subst (λ (t : Stored P). Grew a t) (sym is) (record {
    order = refl;
    longer = let more : length (a.positions ++ y ∷ []) ≡ length a.positions + 1 = length_push a.positions y in omega arith;
    even = λ h. length_push a.records fresh_record ∙ (ap (λ n. n + 1) h ∙ sym (length_push a.positions y));
  })

  pub are_noted_grew : (ys : List P) (a b : Stored P) → AreNoted e ys a b → Grew a b
  are_noted_grew [] a b same = subst (λ (t : Stored P). Grew a t) (sym same) (record { order = refl; longer = omega arith; even = λ h. h })
  are_noted_grew (y ∷ ys) a b (next, first, rest) =
      let one : Grew a next = noted_grew y a next first in
      let more : Grew next b = are_noted_grew ys next b rest in
      record {
        order = more.order ∙ one.order;
        longer = let p : length a.positions ≤ length next.positions = one.longer in
            let q : length next.positions ≤ length b.positions = more.longer in omega arith;
        even = λ h. more.even (one.even h);
      }

pub unsettled : (s : State) → (is_expanded s ≡ true → ⊥) → is_settled s ≡ false
unsettled Known not' = refl
unsettled Expanded not' = absurd (not' refl)
unsettled Settled not' = absurd (not' refl)
unsettled Processed not' = absurd (not' refl)
