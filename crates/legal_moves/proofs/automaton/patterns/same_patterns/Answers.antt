use Rattle.std.proofs.Common.{◌≡◌, ◌⊎◌, inl, inr, ℕ, [], ◌∷◌, ◌++◌, map, length, slice_get, Some, sym, ap, ◌∙◌, subst, arith}
use Rattle.rbg_game.specs.Meaning.{regex_of}
use Rattle.std.proofs.lemmas.List.{length-map}
use Rattle.legal_moves.specs.Tables.{inner_of, AreSame}
use Rattle.legal_moves.proofs.Exits.{refused}
use Rattle.legal_moves.proofs.GetLemmas.{slice_get-push}
use Rattle.legal_moves.proofs.automaton.patterns.same_patterns.Goals as goal

nothing : (i j : ℕ) → slice_get [] i ≡ Some j → ⊥
nothing i j h = cc

pub loop-number-preserved : goal.loop-number-preserved
loop-number-preserved c =
    let es = map (λ r. regex_of r.now) c.list_patterns.new.list.items in
    let same = c.loop-number.same.items in
    let pushed : c.push.new.self.items ≡ same ++ c.first_same.result ∷ [] = c.in_ok-push.ensures.items in
    let first = subst (λ ps. slice_get (map (λ r. regex_of r.now) ps) c.first_same.result ≡ slice_get
    (map (λ r. regex_of r.now) ps) c.loop-number.number) c.deref.ensures.value c.first_same.ensures in
    record {
      many = omega (arith, c.in_ok-push.ensures.len, c.loop-number.invariant.many);
      each = λ i j at. named i j (slice_get-push same c.first_same.result i j (subst (λ xs. slice_get xs i ≡ Some j) pushed at)) first;
    }
  where
    named : (i j : ℕ) → (slice_get c.loop-number.same.items i ≡ Some j) ⊎ (i ≡ length c.loop-number.same.items) × (j ≡ c.first_same.result)
        → slice_get (map (λ r. regex_of r.now) c.list_patterns.new.list.items) c.first_same.result ≡ slice_get
        (map (λ r. regex_of r.now) c.list_patterns.new.list.items) c.loop-number.number
        → slice_get (map (λ r. regex_of r.now) c.list_patterns.new.list.items) j ≡ slice_get (map (λ r. regex_of r.now) c.list_patterns.new.list.items) i
    named i j (inl h) first = c.loop-number.invariant.each i j h
    named i j (inr h) first =
        let here = h.0 ∙ c.loop-number.invariant.many in
        ap (λ k. slice_get (map (λ r. regex_of r.now) c.list_patterns.new.list.items) k) h.1 ∙ first
        ∙ ap (λ k. slice_get (map (λ r. regex_of r.now) c.list_patterns.new.list.items) k) (sym here)

pub returns-in_err-list_patterns : goal.returns-in_err-list_patterns
returns-in_err-list_patterns c = refused _ c.from_residual.result _ c.from_residual.ensures.1

pub returns-in_err-push : goal.returns-in_err-push
returns-in_err-push c = refused _ c.from_residual-in_err-push.result _ c.from_residual-in_err-push.ensures.1

pub loop-number-init : goal.loop-number-init
loop-number-init c =
    let none = c.new-same.ensures.items in
    record {
      many = ap length none;
      each = λ i j at. absurd (nothing i j (subst (λ xs. slice_get xs i ≡ Some j) none at));
    }

pub returns : goal.returns
returns c =
    let listed = c.in_ok-list_patterns.ensures ∙ ap (λ ps. map (λ r. regex_of r.now) ps ++ inner_of (regex_of c.args.rules.now)) c.new-patterns.ensures.items in
    let many : length c.loop-number.same.items ≡ length c.list_patterns.new.list.items = omega arith in
    subst (λ es. AreSame es c.loop-number.same.items) listed
    (record { as_many = many ∙ sym (length-map c.list_patterns.new.list.items (λ r. regex_of r.now)); each = c.loop-number.invariant.each })
