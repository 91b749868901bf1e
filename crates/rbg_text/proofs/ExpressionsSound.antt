-- What the parser of expressions reads is an expression of the grammar.
use Rattle.std.proofs.Common.{◌≡◌, ℕ, zero, suc, true, [], ◌∷◌, ◌++◌, drop, Option, Some, None, ◌∙◌, sym, refl, ap, inl, inr, rules}
use Rattle.std.proofs.lemmas.Bool.{cases_Bool}
use Rattle.std.proofs.lemmas.Option.{some_pair_parts}
use denote.Enum.Bare.{same_true}
use Rattle.rbg_text.specs.contracts.token.Sign.{the_type}
use Rattle.rbg_text.specs.Token.{Token}
use Rattle.rbg_text.specs.Syntax as grammar
use Rattle.rbg_text.specs.Syntax.{Tokens, Expr, sum_of, plus, minus, Term, product_of, times, Factor, positive, negative, Atom, literal, parenthesized}
use Rattle.rbg_text.specs.Parse.{ParseStep, ParseState}
use Rattle.rbg_text.specs.lemmas.Parse.{Parser, Outcome, and_then, first, is_sign, same_sign, sees, advance, after, expect, push, atom_by}
use Rattle.rbg_text.specs.lemmas.Parse.{atom, factor, factors, term, terms, sum, expr}
use Rattle.rbg_text.specs.Postfix.{expr_onto, term_onto, factor_onto, atom_onto}
use Rattle.rbg_text.specs.declared.token.Sign.{Sign}
use Rattle.rbg_text.specs.declared.token.Sign.TheVariants.{OpenParen, CloseParen, Plus, Minus, Star}
use Rattle.rbg_text.proofs.Tokens.{chosen}

-- the value of a step that did not fail
pub bind_some : {A B : Type 0} (o : Outcome A) (f : A → Parser B) (y : B × ParseState) → and_then o f ≡ Some y → (p : A × ParseState)
    × (o ≡ Some p) × (f p.0 p.1 ≡ Some y)
bind_some (Some p) f y e = (p, refl, e)
bind_some None f y e = absurd cc

abbrev pub gives : Unit {0} → ParseState → Outcome (Unit {0})
gives u x = Some (u, x)

pub next_is : (u v : Unit {0}) (x y : ParseState) → gives u x ≡ gives v y → x ≡ y
next_is u v x y e = (some_pair_parts u v x y e).1

same_is : (a b : Sign) → same_sign a b ≡ true → a ≡ b
unfolding same_sign
same_is a b e = same_true the_type (search rules) a b e

-- a sign that comes next
pub seen : (s : Sign) (i : ParseState) → sees s i ≡ true → i.tokens ≡ grammar.mark s (advance i).tokens
unfolding sees advance
seen s i e = go i.tokens e
  where
    go : (ts : Tokens) → is_sign s (first ts) ≡ true → ts ≡ grammar.mark s (drop 1 ts)
    go [] h = absurd cc
    go (Token.name w ∷ ts) h = absurd cc
    go (Token.number w ∷ ts) h = absurd cc
    go (Token.sign u ∷ ts) h = rw (same_is u s h) refl

pub first_is : (ts : Tokens) (t : Token) → first ts ≡ Some t → ts ≡ t ∷ drop 1 ts
first_is [] t e = absurd cc
first_is (x ∷ ts) t e = let same : x ≡ t = cc in rw same refl

pub record Took (s : Sign) (i j : ParseState) : Type 0 where
  pub tokens : i.tokens ≡ grammar.mark s j.tokens
  pub steps : i.steps ≡ j.steps

pub expected : (s : Sign) (i j : ParseState) (u : Unit {0}) → expect s i ≡ Some (u, j) → Took s i j
unfolding expect advance
expected s i j u e = elim (chosen (sees s i) _ _ _ e) [
  | inl p ↦ let same = next_is _ _ _ _ p.1 in rw (← same) (record { tokens = seen s i p.0; steps = refl })
  | inr p ↦ absurd cc
]

record IsAtom (i j : ParseState) : Type 0 where
  what : Atom
  tokens : i.tokens ≡ grammar.atom what j.tokens
  steps : j.steps ≡ atom_onto what i.steps

record IsFactor (i j : ParseState) : Type 0 where
  what : Factor
  tokens : i.tokens ≡ grammar.factor what j.tokens
  steps : j.steps ≡ factor_onto what i.steps

record IsTerm (i j : ParseState) : Type 0 where
  what : Term
  tokens : i.tokens ≡ grammar.term what j.tokens
  steps : j.steps ≡ term_onto what i.steps

pub record IsExpr (i j : ParseState) : Type 0 where
  pub what : Expr
  pub tokens : i.tokens ≡ grammar.expr what j.tokens
  pub steps : j.steps ≡ expr_onto what i.steps

abbrev pub Sound : Parser (Unit {0}) → (ParseState → ParseState → Type 0) → Type 0
Sound p Is = (i j : ParseState) (u : Unit {0}) → p i ≡ Some (u, j) → Is i j

pub record Pushed (s : ParseStep) (i j : ParseState) : Type 0 where
  pub tokens : i.tokens ≡ j.tokens
  pub steps : j.steps ≡ i.steps ++ s ∷ []

pub pushed : (s : ParseStep) (i j : ParseState) (u : Unit {0}) → push s i ≡ Some (u, j) → Pushed s i j
pushed s i j u e = let same = next_is _ _ _ _ e in rw (← same) (record { tokens = refl; steps = refl })

pub record Same (i j : ParseState) : Type 0 where
  pub tokens : i.tokens ≡ j.tokens
  pub steps : j.steps ≡ i.steps

pub stayed : (i j : ParseState) (u v : Unit {0}) → gives v i ≡ gives u j → Same i j
stayed i j u v e = let same = next_is _ _ _ _ e in rw (← same) (record { tokens = refl; steps = refl })

module _ (inner : Parser (Unit {0})) (sound : Sound inner IsExpr) where
  parenthesized_says : (i j : ParseState) (u : Unit {0}) → and_then (and_then (expect OpenParen i) (λ _. inner))
      (λ _. expect CloseParen) ≡ Some (u, j) → IsAtom i j
  parenthesized_says i j u e =
      let b = bind_some (and_then (expect OpenParen i) (λ _. inner)) _ (u, j) e in
      let a = bind_some (expect OpenParen i) _ b.0 b.1 in
      let opening = expected OpenParen i a.0.1 a.0.0 a.1 in
      let inside = sound a.0.1 b.0.1 b.0.0 a.2 in
      let closing = expected CloseParen b.0.1 j u b.2 in
      record {
        what = parenthesized inside.what;
        tokens = opening.tokens ∙ ap (λ ts. grammar.mark OpenParen ts) (inside.tokens ∙ ap (λ ts. grammar.expr inside.what ts) closing.tokens);
        steps = sym closing.steps ∙ (inside.steps ∙ ap (λ out. expr_onto inside.what out) (sym opening.steps));
      }

  atom_says : Sound (atom inner) IsAtom
  unfolding atom advance
  atom_says i j u e = go (first i.tokens) refl e
    where
      go : (o : Option Token) → first i.tokens ≡ o → atom_by inner o i ≡ Some (u, j) → IsAtom i j
      go None h e = parenthesized_says i j u e
      go (Some (Token.name v)) h e =
          let p = pushed (ParseStep.variable v) (advance i) j u e in
          record { what = Atom.variable v; tokens = first_is i.tokens (Token.name v) h ∙ ap (λ ts. grammar.word v ts) p.tokens; steps = p.steps }
      go (Some (Token.number n)) h e =
          let p = pushed (ParseStep.number n) (advance i) j u e in
          record { what = literal n; tokens = first_is i.tokens (Token.number n) h ∙ ap (λ ts. Token.number n ∷ ts) p.tokens; steps = p.steps }
      go (Some (Token.sign s)) h e = parenthesized_says i j u e

  factor_says : Sound (factor inner) IsFactor
  unfolding factor after advance
  factor_says i j u e = elim (cases_Bool (sees Minus i)) [
    | inl is ↦
        let b = bind_some (atom inner (advance i)) _ (u, j) (rw is at e) in
        let a = atom_says (advance i) b.0.1 b.0.0 b.1 in
        let p = pushed ParseStep.negate b.0.1 j u b.2 in
        record {
          what = negative a.what;
          tokens = seen Minus i is ∙ ap (λ ts. grammar.mark Minus ts) (a.tokens ∙ ap (λ ts. grammar.atom a.what ts) p.tokens);
          steps = p.steps ∙ ap (λ out. out ++ ParseStep.negate ∷ []) a.steps;
        }
    | inr isnt ↦
        let b = bind_some (atom inner i) _ (u, j) (rw isnt at e) in
        let a = atom_says i b.0.1 b.0.0 b.1 in
        let p = stayed b.0.1 j u tt b.2 in
        record { what = positive a.what; tokens = a.tokens ∙ ap (λ ts. grammar.atom a.what ts) p.tokens; steps = p.steps ∙ a.steps }
  ]

  factors_say : (n : ℕ) (start i j : ParseState) (u : Unit {0}) → IsTerm start i → factors inner n i ≡ Some (u, j) → IsTerm start j
  unfolding factors after advance
  factors_say zero start i j u so e =
      let p = stayed i j u tt e in
      record { what = so.what; tokens = so.tokens ∙ ap (λ ts. grammar.term so.what ts) p.tokens; steps = p.steps ∙ so.steps }
  factors_say (suc n) start i j u so e = elim (cases_Bool (sees Star i)) [
    | inl is ↦
        let b = bind_some (factor inner (advance i)) _ (u, j) (rw is at e) in
        let f = factor_says (advance i) b.0.1 b.0.0 b.1 in
        factors_say n start (record b.0.1 { steps = b.0.1.steps ++ ParseStep.multiply ∷ [] }) j u (record {
          what = times so.what f.what;
          tokens = so.tokens ∙ ap (λ ts. grammar.term so.what ts) (seen Star i is ∙ ap (λ ts. grammar.mark Star ts) f.tokens);
          steps = ap (λ out. out ++ ParseStep.multiply ∷ []) (f.steps ∙ ap (λ out. factor_onto f.what out) so.steps);
        }) b.2
    | inr isnt ↦
        let p = stayed i j u tt (rw isnt at e) in
        record { what = so.what; tokens = so.tokens ∙ ap (λ ts. grammar.term so.what ts) p.tokens; steps = p.steps ∙ so.steps }
  ]

  term_says : Sound (term inner) IsTerm
  unfolding term
  term_says i j u e =
      let b = bind_some (factor inner i) _ (u, j) e in
      let f = factor_says i b.0.1 b.0.0 b.1 in
      factors_say _ i b.0.1 j u (record { what = product_of f.what; tokens = f.tokens; steps = f.steps }) b.2

  terms_say : (n : ℕ) (start i j : ParseState) (u : Unit {0}) → IsExpr start i → terms inner n i ≡ Some (u, j) → IsExpr start j
  unfolding terms after advance
  terms_say zero start i j u so e =
      let p = stayed i j u tt e in
      record { what = so.what; tokens = so.tokens ∙ ap (λ ts. grammar.expr so.what ts) p.tokens; steps = p.steps ∙ so.steps }
  terms_say (suc n) start i j u so e = elim (cases_Bool (sees Plus i)) [
    | inl is ↦
        let b = bind_some (term inner (advance i)) _ (u, j) (rw is at e) in
        let t = term_says (advance i) b.0.1 b.0.0 b.1 in
        terms_say n start (record b.0.1 { steps = b.0.1.steps ++ ParseStep.add ∷ [] }) j u (record {
          what = plus so.what t.what;
          tokens = so.tokens ∙ ap (λ ts. grammar.expr so.what ts) (seen Plus i is ∙ ap (λ ts. grammar.mark Plus ts) t.tokens);
          steps = ap (λ out. out ++ ParseStep.add ∷ []) (t.steps ∙ ap (λ out. term_onto t.what out) so.steps);
        }) b.2
    | inr isnt ↦ elim (cases_Bool (sees Minus i)) [
      | inl is ↦
          let b = bind_some (term inner (advance i)) _ (u, j) (rw (isnt, is) at e) in
          let t = term_says (advance i) b.0.1 b.0.0 b.1 in
          terms_say n start (record b.0.1 { steps = b.0.1.steps ++ ParseStep.subtract ∷ [] }) j u (record {
            what = minus so.what t.what;
            tokens = so.tokens ∙ ap (λ ts. grammar.expr so.what ts) (seen Minus i is ∙ ap (λ ts. grammar.mark Minus ts) t.tokens);
            steps = ap (λ out. out ++ ParseStep.subtract ∷ []) (t.steps ∙ ap (λ out. term_onto t.what out) so.steps);
          }) b.2
      | inr nor ↦
          let p = stayed i j u tt (rw (isnt, nor) at e) in
          record { what = so.what; tokens = so.tokens ∙ ap (λ ts. grammar.expr so.what ts) p.tokens; steps = p.steps ∙ so.steps }
    ]
  ]

  sum_says : Sound (sum inner) IsExpr
  unfolding sum
  sum_says i j u e =
      let b = bind_some (term inner i) _ (u, j) e in
      let t = term_says i b.0.1 b.0.0 b.1 in
      terms_say _ i b.0.1 j u (record { what = sum_of t.what; tokens = t.tokens; steps = t.steps }) b.2

-- what is read is an expression of the grammar
pub expr_says : (d : ℕ) → Sound (expr d) IsExpr
unfolding expr
expr_says zero i j u e = absurd cc
expr_says (suc d) i j u e = sum_says (expr d) (expr_says d) i j u e
