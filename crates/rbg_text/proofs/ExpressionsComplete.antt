-- The parser of expressions reads exactly the expressions of the grammar.
use Rattle.std.proofs.Common.{◌≡◌, ℕ, zero, suc, ◌≤◌, ◌<◌, false, List, [], ◌∷◌, ◌++◌, length, Some, ◌∙◌, refl, arith}
use Rattle.rbg_text.specs.Token.{Text, Token}
use Rattle.rbg_text.specs.Syntax as grammar
use Rattle.rbg_text.specs.Syntax.{Tokens, Expr, sum_of, plus, minus, Term, product_of, times, Factor, positive, negative, Atom, literal, parenthesized}
use Rattle.rbg_text.specs.Parse.{ParseStep, ParseState}
use Rattle.rbg_text.specs.lemmas.Parse.{Parser, same_sign, sees, advance, after, expect, atom, factor, factors, term, terms, sum, expr}
use Rattle.rbg_text.specs.Postfix.{expr_onto, term_onto, factor_onto, atom_onto}
use Rattle.rbg_text.specs.lemmas.Postfix.{expr_depth, term_depth, factor_depth, atom_depth}
use Rattle.rbg_text.specs.declared.token.Sign.{Sign}
use Rattle.rbg_text.specs.declared.token.Sign.TheVariants.{OpenParen, CloseParen, Plus, Minus, Star}

-- ---- what is in the grammar is read

abbrev pub state : Tokens → List ParseStep → ParseState
state ts out = record { tokens = ts; steps = out }

-- the tokens do not go on with this sign
abbrev pub Not : Sign → Tokens → Type 0
Not s ts = (out : List ParseStep) → sees s (state ts out) ≡ false

-- a part takes tokens
mutual
  pub expr_len : (e : Expr) (rest : Tokens) → length rest < length (grammar.expr e rest)
  expr_len (sum_of t) rest = term_len t rest
  expr_len (plus e t) rest = omega (arith, expr_len e (grammar.mark Plus (grammar.term t rest)), term_len t rest)
  expr_len (minus e t) rest = omega (arith, expr_len e (grammar.mark Minus (grammar.term t rest)), term_len t rest)

  term_len : (t : Term) (rest : Tokens) → length rest < length (grammar.term t rest)
  term_len (product_of f) rest = factor_len f rest
  term_len (times t f) rest = omega (arith, term_len t (grammar.mark Star (grammar.factor f rest)), factor_len f rest)

  factor_len : (f : Factor) (rest : Tokens) → length rest < length (grammar.factor f rest)
  factor_len (positive a) rest = atom_len a rest
  factor_len (negative a) rest = omega (arith, atom_len a rest)

  atom_len : (a : Atom) (rest : Tokens) → length rest < length (grammar.atom a rest)
  atom_len (literal n) rest = omega arith
  atom_len (Atom.variable v) rest = omega arith
  atom_len (parenthesized e) rest = omega (arith, expr_len e (grammar.mark CloseParen rest))

no_minus : (a : Atom) (rest : Tokens) → Not Minus (grammar.atom a rest)
unfolding sees same_sign
no_minus (literal n) rest out = refl
no_minus (Atom.variable v) rest out = refl
no_minus (parenthesized e) rest out = refl

-- the loops stop where no operator follows
factors_stop : (inner : Parser (Unit {0})) (n : ℕ) (rest : Tokens) (out : List ParseStep) → Not Star rest
    → factors inner n (state rest out) ≡ Some (tt, state rest out)
unfolding factors after
factors_stop inner zero rest out stop = refl
factors_stop inner (suc n) rest out stop = rw (stop out) refl

terms_stop : (inner : Parser (Unit {0})) (n : ℕ) (rest : Tokens) (out : List ParseStep) → Not Plus rest → Not Minus rest
    → terms inner n (state rest out) ≡ Some (tt, state rest out)
unfolding terms after
terms_stop inner zero rest out p m = refl
terms_stop inner (suc n) rest out p m = rw (p out, m out) refl

literal_reads : (inner : Parser (Unit {0})) (n : Text) (rest : Tokens) (out : List ParseStep)
    → atom inner (state (Token.number n ∷ rest) out) ≡ Some (tt, state rest (out ++ ParseStep.number n ∷ []))
unfolding atom advance
literal_reads inner n rest out = refl

variable_reads : (inner : Parser (Unit {0})) (v : Text) (rest : Tokens) (out : List ParseStep)
    → atom inner (state (Token.name v ∷ rest) out) ≡ Some (tt, state rest (out ++ ParseStep.variable v ∷ []))
unfolding atom advance
variable_reads inner v rest out = refl

-- after the front, the loop has at least as many turns as there are tokens
pub record Goes (run : Parser (Unit {0})) (go : ℕ → Parser (Unit {0})) (here : Tokens) (before : List ParseStep) (rest : Tokens)
    (behind : List ParseStep) : Type 0 where
  pub turns : ℕ
  pub enough : length rest ≤ turns
  pub goes : run (state here before) ≡ go turns (state rest behind)

-- it reads all of it
abbrev pub Reads : Parser (Unit {0}) → Tokens → List ParseStep → Tokens → List ParseStep → Type 0
Reads run here before rest behind = run (state here before) ≡ Some (tt, state rest behind)

module _ (inner : Parser (Unit {0})) where
  factor_positive : (a : Atom) (rest : Tokens) (out behind : List ParseStep) → Reads (atom inner) (grammar.atom a rest) out rest behind
      → Reads (factor inner) (grammar.atom a rest) out rest behind
  unfolding factor after
  factor_positive a rest out behind h = rw (no_minus a rest out, h) refl

  factor_negative : (ts rest : Tokens) (out behind : List ParseStep) → Reads (atom inner) ts out rest behind
      → Reads (factor inner) (grammar.mark Minus ts) out rest (behind ++ ParseStep.negate ∷ [])
  unfolding factor after sees same_sign advance
  factor_negative ts rest out behind h = rw h refl

  term_start : (ts rest : Tokens) (out behind : List ParseStep) → Reads (factor inner) ts out rest behind → Goes (term inner) (factors inner) ts out rest behind
  unfolding term
  term_start ts rest out behind h = record { turns = length rest; enough = omega arith; goes = rw h refl }

  sum_start : (ts rest : Tokens) (out behind : List ParseStep) → Reads (term inner) ts out rest behind → Goes (sum inner) (terms inner) ts out rest behind
  unfolding sum
  sum_start ts rest out behind h = record { turns = length rest; enough = omega arith; goes = rw h refl }

  factors_step : (n : ℕ) (ts rest : Tokens) (out behind : List ParseStep) → Reads (factor inner) ts out rest behind
      → factors inner (suc n) (state (grammar.mark Star ts) out) ≡ factors inner n (state rest (behind ++ ParseStep.multiply ∷ []))
  unfolding factors after sees same_sign advance
  factors_step n ts rest out behind h = rw h refl

  terms_plus : (n : ℕ) (ts rest : Tokens) (out behind : List ParseStep) → Reads (term inner) ts out rest behind
      → terms inner (suc n) (state (grammar.mark Plus ts) out) ≡ terms inner n (state rest (behind ++ ParseStep.add ∷ []))
  unfolding terms after sees same_sign advance
  terms_plus n ts rest out behind h = rw h refl

  terms_minus : (n : ℕ) (ts rest : Tokens) (out behind : List ParseStep) → Reads (term inner) ts out rest behind
      → terms inner (suc n) (state (grammar.mark Minus ts) out) ≡ terms inner n (state rest (behind ++ ParseStep.subtract ∷ []))
  unfolding terms after sees same_sign advance
  terms_minus n ts rest out behind h = rw h refl

  atom_inside : (ts rest : Tokens) (out behind : List ParseStep) → Reads inner ts out (grammar.mark CloseParen rest) behind
      → Reads (atom inner) (grammar.mark OpenParen ts) out rest behind
  unfolding atom expect sees same_sign advance
  atom_inside ts rest out behind h = rw h refl

-- one more turn of a loop
pub goes_on : {run : Parser (Unit {0})} {go : ℕ → Parser (Unit {0})} {here : Tokens} {before : List ParseStep} (ts rest : Tokens) (s : Sign)
    (mid behind : List ParseStep)
    → length rest ≤ length ts → ((n : ℕ) → go (suc n) (state (grammar.mark s ts) mid) ≡ go n (state rest behind))
    → Goes run go here before (grammar.mark s ts) mid → Goes run go here before rest behind
goes_on {run = run} {go = go} {here = here} {before = before} ts rest s mid behind le step g = again g.turns g.enough g.goes
  where
    again : (n : ℕ) → suc (length ts) ≤ n → run (state here before) ≡ go n (state (grammar.mark s ts) mid) → Goes run go here before rest behind
    again zero enough e = absurd (omega (arith, enough))
    again (suc n) enough e = record { turns = n; enough = omega arith; goes = e ∙ step n }

term_stops : (inner : Parser (Unit {0})) (ts rest : Tokens) (out behind : List ParseStep) → Goes (term inner) (factors inner) ts out rest behind → Not Star rest
    → Reads (term inner) ts out rest behind
term_stops inner ts rest out behind g stop = g.goes ∙ factors_stop inner g.turns rest behind stop

sum_stops : (inner : Parser (Unit {0})) (ts rest : Tokens) (out behind : List ParseStep) → Goes (sum inner) (terms inner) ts out rest behind
    → Not Plus rest → Not Minus rest
    → Reads (sum inner) ts out rest behind
sum_stops inner ts rest out behind g p m = g.goes ∙ terms_stop inner g.turns rest behind p m

-- another sign is none of the operators
pub not_sign : (s u : Sign) (rest : Tokens) → same_sign u s ≡ false → Not s (grammar.mark u rest)
unfolding sees
not_sign s u rest e out = e

mutual
  unfolding expr same_sign

  expr_goes : (e : Expr) (d : ℕ) (rest : Tokens) (out : List ParseStep) → expr_depth e ≤ d → Not Star rest
      → Goes (sum (expr d)) (terms (expr d)) (grammar.expr e rest) out rest (expr_onto e out)
  expr_goes (sum_of t) d rest out deep stop =
      sum_start (expr d) _ rest out _ (term_stops (expr d) _ rest out _ (term_goes t d rest out deep) stop)
  expr_goes (plus e t) d rest out deep stop =
      let h = term_stops (expr d) _ rest (expr_onto e out) _ (term_goes t d rest (expr_onto e out) (omega (arith, deep))) stop in
      goes_on (grammar.term t rest) rest Plus (expr_onto e out) _ (omega (arith, term_len t rest)) (λ n. terms_plus (expr d) n _ rest (expr_onto e out) _ h)
      (expr_goes e d (grammar.mark Plus (grammar.term t rest)) out (omega (arith, deep)) (not_sign Star Plus (grammar.term t rest) refl))
  expr_goes (minus e t) d rest out deep stop =
      let h = term_stops (expr d) _ rest (expr_onto e out) _ (term_goes t d rest (expr_onto e out) (omega (arith, deep))) stop in
      goes_on (grammar.term t rest) rest Minus (expr_onto e out) _ (omega (arith, term_len t rest)) (λ n. terms_minus (expr d) n _ rest (expr_onto e out) _ h)
      (expr_goes e d (grammar.mark Minus (grammar.term t rest)) out (omega (arith, deep)) (not_sign Star Minus (grammar.term t rest) refl))

  term_goes : (t : Term) (d : ℕ) (rest : Tokens) (out : List ParseStep) → term_depth t ≤ d
      → Goes (term (expr d)) (factors (expr d)) (grammar.term t rest) out rest (term_onto t out)
  term_goes (product_of f) d rest out deep = term_start (expr d) _ rest out _ (factor_reads f d rest out deep)
  term_goes (times t f) d rest out deep =
      let h = factor_reads f d rest (term_onto t out) (omega (arith, deep)) in
      goes_on (grammar.factor f rest) rest Star (term_onto t out) _ (omega (arith, factor_len f rest))
      (λ n. factors_step (expr d) n _ rest (term_onto t out) _ h)
      (term_goes t d (grammar.mark Star (grammar.factor f rest)) out (omega (arith, deep)))

  factor_reads : (f : Factor) (d : ℕ) (rest : Tokens) (out : List ParseStep) → factor_depth f ≤ d
      → Reads (factor (expr d)) (grammar.factor f rest) out rest (factor_onto f out)
  factor_reads (positive a) d rest out deep = factor_positive (expr d) a rest out _ (atom_reads a d rest out deep)
  factor_reads (negative a) d rest out deep = factor_negative (expr d) _ rest out _ (atom_reads a d rest out deep)

  atom_reads : (a : Atom) (d : ℕ) (rest : Tokens) (out : List ParseStep) → atom_depth a ≤ d
      → Reads (atom (expr d)) (grammar.atom a rest) out rest (atom_onto a out)
  atom_reads (literal n) d rest out deep = literal_reads (expr d) n rest out
  atom_reads (Atom.variable v) d rest out deep = variable_reads (expr d) v rest out
  atom_reads (parenthesized e) zero rest out deep = absurd (omega (arith, deep))
  atom_reads (parenthesized e) (suc d) rest out deep =
      atom_inside (sum (expr d)) _ rest out _
      (sum_stops (expr d) _ (grammar.mark CloseParen rest) out _
      (expr_goes e d (grammar.mark CloseParen rest) out (omega (arith, deep)) (not_sign Star CloseParen rest refl))
      (not_sign Plus CloseParen rest refl) (not_sign Minus CloseParen rest refl))

-- an expression of the grammar is read, where no operator follows it
pub expr_reads : (e : Expr) (d : ℕ) (rest : Tokens) (out : List ParseStep) → expr_depth e < d → Not Star rest → Not Plus rest → Not Minus rest
    → Reads (expr d) (grammar.expr e rest) out rest (expr_onto e out)
unfolding expr
expr_reads e zero rest out deep s p m = absurd (omega (arith, deep))
expr_reads e (suc d) rest out deep s p m = sum_stops (expr d) _ rest out _ (expr_goes e d rest out (omega (arith, deep)) s) p m
