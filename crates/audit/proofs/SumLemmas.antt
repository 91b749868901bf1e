-- What it means that there are as many edges as moves.
use Rattle.std.proofs.Common.{◌≡◌, ◌∙◌, sym, subst, ℕ, ◌+◌, ◌<◌, ⊎_elim, true, false, eqb, List, length, arith, add-one, slice_get}
use Rattle.std.proofs.lemmas.Bool.Decides.{eqb_tells}
use Rattle.std.proofs.lemmas.Option.{slice_get_within}
use Rattle.retrograde.specs.Graph.{Graph}
use Rattle.retrograde.specs.Verdicts.{A2}
use Rattle.retrograde.specs.Stored.{Stored, IsTable, count_below}
use Rattle.audit.specs.declared.verdict.Verdict.TheVariants.{Right}
use Rattle.audit.specs.Answers.{IsAnswer}
use Rattle.audit.specs.lemmas.Conditions.{sum_below, successors_in}
use Rattle.audit.proofs.AnswerLemmas.{OwnSound, all_own}
use Rattle.audit.proofs.CountLemmas.{no_strays}

-- one more is added
pub sum_more : (n s m : ℕ) (f : ℕ → ℕ) → s ≡ sum_below n f → m ≡ f n → s + m ≡ sum_below (n + 1) f
sum_more n s m f sum_is one = rw add-one (omega arith)

module _ (graph : Graph (List ℕ)) (IsWide : List ℕ → Type 0) (stored : Stored (List ℕ)) (table : IsTable stored) (n : ℕ) (all : n ≡ length stored.positions)
    (sound : OwnSound graph IsWide stored n) where
  pub sums_right : (moves edges : ℕ) → moves ≡ sum_below n (λ i. successors_in (slice_get stored.records i))
      → edges ≡ sum_below n (λ i. count_below (length stored.positions) (λ p. stored.has_edge i p)) → eqb moves edges ≡ true
      → IsAnswer graph IsWide stored Right
  sums_right moves edges moves_are edges_are same =
      let equal : moves ≡ edges = ⊎_elim (λ (_, is). is) (λ (fails, _). let both : true ≡ false = sym same ∙ fails in cc) (eqb_tells moves edges) in
      let sums : sum_below n (λ i. successors_in (slice_get stored.records i)) ≡ sum_below n
      (λ i. count_below (length stored.positions) (λ p. stored.has_edge i p))
      = sym moves_are ∙ (equal ∙ edges_are) in
      let whole = subst (λ (m : ℕ). sum_below m (λ i. successors_in (slice_get stored.records i))
      ≡ sum_below m (λ i. count_below (length stored.positions) (λ p. stored.has_edge i p))) all sums in
      all_own graph IsWide stored n (omega arith) sound
      (no_strays graph stored table
      (λ p z at within. let below : p < length stored.positions = slice_get_within stored.positions p z at in sound.own p z (omega arith) at A2 within) whole)
