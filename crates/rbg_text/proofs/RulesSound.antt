-- What the parser of rules reads is in the grammar.
use Rattle.std.proofs.Common.{◌≡◌, ℕ, zero, suc, List, [], ◌∷◌, ◌++◌, length, Option, Some, None, ◌∙◌, sym, refl, ap, inl, inr}
use Rattle.std.proofs.lemmas.Bool.{cases_Bool}
use Rattle.std.specs.Prelude.{if◌then◌else◌}
use Rattle.std.proofs.lemmas.Option.{some_pair_parts}
use Rattle.rbg_text.specs.Token.{Text, Token}
use Rattle.rbg_text.specs.Syntax as grammar
use Rattle.rbg_text.specs.Syntax.{Tokens, Expr, Assignment, Sum, branch, Concat, single, followed, Element, once, Base}
use Rattle.rbg_text.specs.Parse.{ParseStep, ParseState}
use Rattle.rbg_text.specs.lemmas.Parse.{Parser, and_then, first, sees, advance, after, eat, expect, push, done, expr, name_by, name, test_of}
use Rattle.rbg_text.specs.lemmas.Parse.{comparison_by, comparison, pieces, begins_element, set, assignment, assignments, bracket, compared}
use Rattle.rbg_text.specs.lemmas.Parse.{pattern, brace, base_by, base, element, elements, concat, branches, choice, rules_to}
use Rattle.rbg_text.specs.Postfix.{expr_onto, among_onto, assignment_onto, assignments_onto, sum_onto, concat_onto, element_onto, base_onto}
use Rattle.rbg_game.specs.declared.rules.Comparison.{Comparison}
use Rattle.rbg_game.specs.declared.rules.Comparison.TheVariants as test
use Rattle.rbg_text.specs.declared.token.Sign.{Sign}
use Rattle.rbg_text.specs.declared.token.Sign.TheVariants.{DoubleArrow, Arrow as SingleArrow, EqualEqual, NotEqual, LessEqual, GreaterEqual, Less, Greater, Equal, Comma, OpenParen, CloseParen, OpenBracket, CloseBracket, OpenBrace, CloseBrace, Star, Plus, Dollar, Question, Exclamation}
use Rattle.rbg_text.proofs.ExpressionsSound.{bind_some, seen, expected, first_is, Sound, pushed, stayed, IsExpr, expr_says}

-- ---- names, sets and comparisons

-- one token was taken
pub record Takes (t : Token) (i j : ParseState) : Type 0 where
  pub tokens : i.tokens ≡ t ∷ j.tokens
  pub steps : j.steps ≡ i.steps

pub named : (i j : ParseState) (w : Text) → name i ≡ Some (w, j) → Takes (Token.name w) i j
unfolding name advance
named i j w e = go (first i.tokens) refl e
  where
    go : (o : Option Token) → first i.tokens ≡ o → name_by o i ≡ Some (w, j) → Takes (Token.name w) i j
    go (Some (Token.name v)) h e =
        let p = some_pair_parts _ _ _ _ e in
        rw (← p.0, ← p.1) (record { tokens = first_is i.tokens (Token.name v) h; steps = refl })
    go _ h e = absurd cc

test_is : (o : Option Token) (t : Comparison) → test_of o ≡ Some t → o ≡ Some (Token.sign (grammar.test_sign t))
test_is (Some (Token.sign EqualEqual)) t e = let same : test.Equal ≡ t = cc in rw (← same) refl
test_is (Some (Token.sign NotEqual)) t e = let same : test.NotEqual ≡ t = cc in rw (← same) refl
test_is (Some (Token.sign Less)) t e = let same : test.Less ≡ t = cc in rw (← same) refl
test_is (Some (Token.sign LessEqual)) t e = let same : test.LessEqual ≡ t = cc in rw (← same) refl
test_is (Some (Token.sign Greater)) t e = let same : test.Greater ≡ t = cc in rw (← same) refl
test_is (Some (Token.sign GreaterEqual)) t e = let same : test.GreaterEqual ≡ t = cc in rw (← same) refl
test_is _ t e = absurd cc

tested : (i j : ParseState) (t : Comparison) → comparison i ≡ Some (t, j) → Takes (Token.sign (grammar.test_sign t)) i j
unfolding comparison advance
tested i j t e = go (test_of (first i.tokens)) refl e
  where
    go : (o : Option Comparison) → test_of (first i.tokens) ≡ o → comparison_by o i ≡ Some (t, j) → Takes (Token.sign (grammar.test_sign t)) i j
    go (Some v) h e =
        let p = some_pair_parts _ _ _ _ e in
        rw (← p.0, ← p.1) (record { tokens = first_is i.tokens (Token.sign (grammar.test_sign v)) (test_is (first i.tokens) v h); steps = refl })
    go None h e = absurd cc

-- what was read is said by `said`, and its steps by `onto`
record Says {X : Type 0} (said : X → Tokens → Tokens) (onto : X → List ParseStep → List ParseStep) (i j : ParseState) : Type 0 where
  what : X
  tokens : i.tokens ≡ said what j.tokens
  steps : j.steps ≡ onto what i.steps

pieces_say : (n : ℕ) (i j : ParseState) (u : Unit {0}) → pieces n i ≡ Some (u, j) → Says (grammar.further grammar.word) among_onto i j
unfolding pieces after advance
pieces_say zero i j u e = let p = stayed i j u tt e in record { what = []; tokens = p.tokens; steps = p.steps }
pieces_say (suc n) i j u e = elim (cases_Bool (sees Comma i)) [
  | inl is ↦
      let b = bind_some (name (advance i)) _ (u, j) (rw is at e) in
      let w = named (advance i) b.0.1 b.0.0 b.1 in
      let more = pieces_say n (record b.0.1 { steps = b.0.1.steps ++ ParseStep.among b.0.0 ∷ [] }) j u b.2 in
      record {
        what = b.0.0 ∷ more.what;
        tokens = seen Comma i is ∙ ap (λ ts. grammar.mark Comma ts) (w.tokens ∙ ap (λ ts. grammar.word b.0.0 ts) more.tokens);
        steps = more.steps ∙ ap (λ out. among_onto more.what (out ++ ParseStep.among b.0.0 ∷ [])) w.steps;
      }
  | inr isnt ↦ let p = stayed i j u tt (rw isnt at e) in record { what = []; tokens = p.tokens; steps = p.steps }
]

-- a base whose first sign was read before
record Behind (s : Sign) (i j : ParseState) : Type 0 where
  what : Base
  tokens : grammar.mark s i.tokens ≡ grammar.base what j.tokens
  steps : j.steps ≡ base_onto what i.steps

abbrev IsBase : ParseState → ParseState → Type 0
IsBase = Says grammar.base base_onto

abbrev IsElement : ParseState → ParseState → Type 0
IsElement = Says grammar.element element_onto

abbrev IsConcat : ParseState → ParseState → Type 0
IsConcat = Says grammar.concat concat_onto

pub record IsSum (i j : ParseState) : Type 0 where
  pub what : Sum
  pub tokens : i.tokens ≡ grammar.sum what j.tokens
  pub steps : j.steps ≡ sum_onto what i.steps

set_says : Sound set (Behind OpenBrace)
unfolding set after advance
set_says i j u e =
    let k : ParseState = record i { steps = i.steps ++ ParseStep.on ∷ [] } in
    elim (cases_Bool (sees CloseBrace k)) [
      | inl is ↦
          let p = stayed (advance k) j u tt (rw is at e) in
          record {
            what = grammar.on [];
            tokens = ap (λ ts. grammar.mark OpenBrace ts)
                (seen CloseBrace k is ∙ ap (λ ts. grammar.mark CloseBrace ts) p.tokens);
            steps = p.steps;
          }
      | inr isnt ↦
          let b = bind_some (name k) _ (u, j) (rw isnt at e) in
          let w = named k b.0.1 b.0.0 b.1 in
          let k2 : ParseState = record b.0.1 { steps = b.0.1.steps ++ ParseStep.among b.0.0 ∷ [] } in
          let c = bind_some (pieces (length b.0.1.tokens) k2) _ (u, j) b.2 in
          let more = pieces_say (length b.0.1.tokens) k2 c.0.1 c.0.0 c.1 in
          let closing = expected CloseBrace c.0.1 j u c.2 in
          record {
            what = grammar.on (b.0.0 ∷ more.what);
            tokens = ap (λ ts. grammar.mark OpenBrace ts)
                (w.tokens ∙ ap (λ ts. grammar.word b.0.0 ts) (more.tokens ∙ ap (λ ts. grammar.further grammar.word more.what ts) closing.tokens));
            steps = sym closing.steps ∙ (more.steps ∙ ap (λ out. among_onto more.what (out ++ ParseStep.among b.0.0 ∷ [])) w.steps);
          }
    ]

module _ (value : Parser (Unit {0})) (values : Sound value IsExpr) where
  assignment_says : Sound (assignment value) (Says grammar.assignment assignment_onto)
  unfolding assignment
  assignment_says i j u e =
      let b = bind_some (name i) _ (u, j) e in
      let w = named i b.0.1 b.0.0 b.1 in
      let c = bind_some (expect Equal b.0.1) _ (u, j) b.2 in
      let eq = expected Equal b.0.1 c.0.1 c.0.0 c.1 in
      let d = bind_some (value c.0.1) _ (u, j) c.2 in
      let v = values c.0.1 d.0.1 d.0.0 d.1 in
      let p = pushed (ParseStep.assign b.0.0) d.0.1 j u d.2 in
      record {
        what = record { target = b.0.0; value = v.what };
        tokens = w.tokens ∙ ap (λ ts. grammar.word b.0.0 ts)
            (eq.tokens ∙ ap (λ ts. grammar.mark Equal ts) (v.tokens ∙ ap (λ ts. grammar.expr v.what ts) p.tokens));
        steps = p.steps ∙ ap (λ out. out ++ ParseStep.assign b.0.0 ∷ []) (v.steps ∙ ap (λ out. expr_onto v.what out) (sym eq.steps ∙ w.steps));
      }

  assignments_say : (n : ℕ) (i j : ParseState) (u : Unit {0}) → assignments value n i ≡ Some (u, j)
      → Says (grammar.further grammar.assignment) assignments_onto i j
  unfolding assignments after advance
  assignments_say zero i j u e = let p = stayed i j u tt e in record { what = []; tokens = p.tokens; steps = p.steps }
  assignments_say (suc n) i j u e = elim (cases_Bool (sees Comma i)) [
    | inl is ↦
        let b = bind_some (assignment value (advance i)) _ (u, j) (rw is at e) in
        let a = assignment_says (advance i) b.0.1 b.0.0 b.1 in
        let more = assignments_say n (record b.0.1 { steps = b.0.1.steps ++ ParseStep.join ∷ [] }) j u b.2 in
        record {
          what = a.what ∷ more.what;
          tokens = seen Comma i is ∙ ap (λ ts. grammar.mark Comma ts) (a.tokens ∙ ap (λ ts. grammar.assignment a.what ts) more.tokens);
          steps = more.steps ∙ ap (λ out. assignments_onto more.what (out ++ ParseStep.join ∷ [])) a.steps;
        }
    | inr isnt ↦ let p = stayed i j u tt (rw isnt at e) in record { what = []; tokens = p.tokens; steps = p.steps }
  ]

  bracket_says : Sound (bracket value) (Behind OpenBracket)
  unfolding bracket after advance
  bracket_says i j u e = elim (cases_Bool (sees Dollar i)) [
    | inl is ↦
        let b = bind_some (assignment value (advance i)) _ (u, j) (rw is at e) in
        let a = assignment_says (advance i) b.0.1 b.0.0 b.1 in
        let c = bind_some (assignments value (length b.0.1.tokens) b.0.1) _ (u, j) b.2 in
        let more = assignments_say (length b.0.1.tokens) b.0.1 c.0.1 c.0.0 c.1 in
        let closing = expected CloseBracket c.0.1 j u c.2 in
        record {
          what = grammar.assign a.what more.what;
          tokens = ap (λ ts. grammar.mark OpenBracket ts) (seen Dollar i is ∙ ap (λ ts. grammar.mark Dollar ts)
              (a.tokens ∙ ap (λ ts. grammar.assignment a.what ts) (more.tokens ∙ ap (λ ts. grammar.further grammar.assignment more.what ts) closing.tokens)));
          steps = sym closing.steps ∙ (more.steps ∙ ap (λ out. assignments_onto more.what out) a.steps);
        }
    | inr isnt ↦
        let b = bind_some (name i) _ (u, j) (rw isnt at e) in
        let w = named i b.0.1 b.0.0 b.1 in
        let closing = expected CloseBracket (record b.0.1 { steps = b.0.1.steps ++ ParseStep.off b.0.0 ∷ [] }) j u b.2 in
        record {
          what = grammar.off b.0.0;
          tokens = ap (λ ts. grammar.mark OpenBracket ts) (w.tokens ∙ ap (λ ts. grammar.word b.0.0 ts) closing.tokens);
          steps = sym closing.steps ∙ ap (λ out. out ++ ParseStep.off b.0.0 ∷ []) w.steps;
        }
  ]

  -- after `{$`, which stood in the place of `mark Dollar`
  compared_says : (i j k : ParseState) (u : Unit {0}) → k.tokens ≡ grammar.mark Dollar i.tokens → k.steps ≡ i.steps
      → compared value i ≡ Some (u, j) → Behind OpenBrace k j
  unfolding compared
  compared_says i j k u dollar same e =
      let b = bind_some (value i) _ (u, j) e in
      let l = values i b.0.1 b.0.0 b.1 in
      let c = bind_some (comparison b.0.1) _ (u, j) b.2 in
      let t = tested b.0.1 c.0.1 c.0.0 c.1 in
      let d = bind_some (value c.0.1) _ (u, j) c.2 in
      let r = values c.0.1 d.0.1 d.0.0 d.1 in
      let closing = expected CloseBrace (record d.0.1 { steps = d.0.1.steps ++ ParseStep.compare c.0.0 ∷ [] }) j u d.2 in
      record {
        what = grammar.compare l.what c.0.0 r.what;
        tokens = ap (λ ts. grammar.mark OpenBrace ts) (dollar ∙ ap (λ ts. grammar.mark Dollar ts)
            (l.tokens ∙ ap (λ ts. grammar.expr l.what ts)
            (t.tokens ∙ ap (λ ts. grammar.mark (grammar.test_sign c.0.0) ts) (r.tokens ∙ ap (λ ts. grammar.expr r.what ts) closing.tokens))));
        steps = sym closing.steps ∙ ap (λ out. out ++ ParseStep.compare c.0.0 ∷ [])
            (r.steps ∙ ap (λ out. expr_onto r.what out) (t.steps ∙ (l.steps ∙ ap (λ out. expr_onto l.what out) (sym same))));
      }

module _ (inner value : Parser (Unit {0})) (sums : Sound inner IsSum) (values : Sound value IsExpr) where
  -- a sum, a step, and the closing brace
  record Pattern (kind : ParseStep) (i j : ParseState) : Type 0 where
    what : Sum
    tokens : i.tokens ≡ grammar.sum what (grammar.mark CloseBrace j.tokens)
    steps : j.steps ≡ sum_onto what i.steps ++ kind ∷ []

  pattern_says : (kind : ParseStep) (i j : ParseState) (u : Unit {0}) → pattern inner kind i ≡ Some (u, j) → Pattern kind i j
  unfolding pattern
  pattern_says kind i j u e =
      let b = bind_some (inner i) _ (u, j) e in
      let s = sums i b.0.1 b.0.0 b.1 in
      let closing = expected CloseBrace (record b.0.1 { steps = b.0.1.steps ++ kind ∷ [] }) j u b.2 in
      record {
        what = s.what;
        tokens = s.tokens ∙ ap (λ ts. grammar.sum s.what ts) closing.tokens;
        steps = sym closing.steps ∙ ap (λ out. out ++ kind ∷ []) s.steps;
      }

  brace_says : Sound (brace inner value) (Behind OpenBrace)
  unfolding brace after advance
  brace_says i j u e = elim (cases_Bool (sees Dollar i)) [
    | inl is ↦ compared_says value values (advance i) j i u (seen Dollar i is) refl (rw is at e)
    | inr isnt ↦ elim (cases_Bool (sees Question i)) [
      | inl is ↦
          let p = pattern_says ParseStep.some_word (advance i) j u (rw (isnt, is) at e) in
          record {
            what = grammar.some_word p.what;
            tokens = ap (λ ts. grammar.mark OpenBrace ts)
                (seen Question i is ∙ ap (λ ts. grammar.mark Question ts) p.tokens);
            steps = p.steps;
          }
      | inr isnt2 ↦ elim (cases_Bool (sees Exclamation i)) [
        | inl is ↦
            let p = pattern_says ParseStep.no_word (advance i) j u (rw (isnt, isnt2, is) at e) in
            record {
              what = grammar.no_word p.what;
              tokens = ap (λ ts. grammar.mark OpenBrace ts)
                  (seen Exclamation i is ∙ ap (λ ts. grammar.mark Exclamation ts) p.tokens);
              steps = p.steps;
            }
        | inr isnt3 ↦ set_says i j u (rw (isnt, isnt2, isnt3) at e)
      ]
    ]
  ]

  -- what stands after a sign that came first
  behind : (s : Sign) (i j : ParseState) → first i.tokens ≡ Some (Token.sign s) → Behind s (advance i) j → IsBase i j
  unfolding advance
  behind s i j h b = record { what = b.what; tokens = first_is i.tokens (Token.sign s) h ∙ b.tokens; steps = b.steps }

  base_says : Sound (base inner value) IsBase
  unfolding base advance
  base_says i j u e = go (first i.tokens) refl e
    where
      go : (o : Option Token) → first i.tokens ≡ o → base_by inner value o i ≡ Some (u, j) → IsBase i j
      go (Some (Token.name w)) h e =
          let p = pushed (ParseStep.shift w) (advance i) j u e in
          record { what = grammar.shift w; tokens = first_is i.tokens (Token.name w) h ∙ ap (λ ts. grammar.word w ts) p.tokens; steps = p.steps }
      go (Some (Token.sign OpenBrace)) h e = behind OpenBrace i j h (brace_says (advance i) j u e)
      go (Some (Token.sign OpenBracket)) h e = behind OpenBracket i j h (bracket_says value values (advance i) j u e)
      go (Some (Token.sign OpenParen)) h e =
          let b = bind_some (inner (advance i)) _ (u, j) e in
          let s = sums (advance i) b.0.1 b.0.0 b.1 in
          let closing = expected CloseParen b.0.1 j u b.2 in
          behind OpenParen i j h (record {
            what = grammar.group s.what;
            tokens = ap (λ ts. grammar.mark OpenParen ts) (s.tokens ∙ ap (λ ts. grammar.sum s.what ts) closing.tokens);
            steps = sym closing.steps ∙ s.steps;
          })
      go (Some (Token.sign SingleArrow)) h e =
          let b = bind_some (name (advance i)) _ (u, j) e in
          let w = named (advance i) b.0.1 b.0.0 b.1 in
          let p = pushed (ParseStep.switch b.0.0) b.0.1 j u b.2 in
          behind SingleArrow i j h (record {
            what = grammar.switch b.0.0;
            tokens = ap (λ ts. grammar.mark SingleArrow ts) (w.tokens ∙ ap (λ ts. grammar.word b.0.0 ts) p.tokens);
            steps = p.steps ∙ ap (λ out. out ++ ParseStep.switch b.0.0 ∷ []) w.steps;
          })
      go (Some (Token.sign DoubleArrow)) h e =
          let p = pushed ParseStep.keeper (advance i) j u e in
          behind DoubleArrow i j h (record { what = grammar.keeper; tokens = ap (λ ts. grammar.mark DoubleArrow ts) p.tokens; steps = p.steps })
      go _ h e = absurd cc

  element_says : Sound (element inner value) IsElement
  unfolding element after advance
  element_says i j u e =
      let b = bind_some (base inner value i) _ (u, j) e in
      let a = base_says i b.0.1 b.0.0 b.1 in
      star_says i b.0.1 j u a b.2
    where
      star_says : (i k j : ParseState) (u : Unit {0}) → IsBase i k
          → and_then (eat Star k) (λ b. if b then push ParseStep.star else done) ≡ Some (u, j) → IsElement i j
      star_says i k j u a e = elim (cases_Bool (sees Star k)) [
        | inl is ↦
            let p = pushed ParseStep.star (advance k) j u (rw is at e) in
            record {
              what = grammar.star a.what;
              tokens = a.tokens ∙ ap (λ ts. grammar.base a.what ts) (seen Star k is ∙ ap (λ ts. grammar.mark Star ts) p.tokens);
              steps = p.steps ∙ ap (λ out. out ++ ParseStep.star ∷ []) a.steps;
            }
        | inr isnt ↦
            let p = stayed k j u tt (rw isnt at e) in
            record { what = once a.what; tokens = a.tokens ∙ ap (λ ts. grammar.base a.what ts) p.tokens; steps = p.steps ∙ a.steps }
      ]

  elements_say : (n : ℕ) (start i j : ParseState) (u : Unit {0}) → IsConcat start i → elements inner value n i ≡ Some (u, j) → IsConcat start j
  unfolding elements
  elements_say zero start i j u so e =
      let p = stayed i j u tt e in
      record { what = so.what; tokens = so.tokens ∙ ap (λ ts. grammar.concat so.what ts) p.tokens; steps = p.steps ∙ so.steps }
  elements_say (suc n) start i j u so e = elim (cases_Bool (begins_element (first i.tokens))) [
    | inl is ↦
        let c = bind_some (and_then (element inner value i) (λ _. push ParseStep.join)) _ (u, j) (rw is at e) in
        let b = bind_some (element inner value i) _ c.0 c.1 in
        let a = element_says i b.0.1 b.0.0 b.1 in
        let p = pushed ParseStep.join b.0.1 c.0.1 c.0.0 b.2 in
        elements_say n start c.0.1 j u (record {
          what = followed so.what a.what;
          tokens = so.tokens ∙ ap (λ ts. grammar.concat so.what ts) (a.tokens ∙ ap (λ ts. grammar.element a.what ts) p.tokens);
          steps = p.steps ∙ ap (λ out. out ++ ParseStep.join ∷ []) (a.steps ∙ ap (λ out. element_onto a.what out) so.steps);
        }) c.2
    | inr isnt ↦
        let p = stayed i j u tt (rw isnt at e) in
        record { what = so.what; tokens = so.tokens ∙ ap (λ ts. grammar.concat so.what ts) p.tokens; steps = p.steps ∙ so.steps }
  ]

  concat_says : Sound (concat inner value) IsConcat
  unfolding concat
  concat_says i j u e =
      let b = bind_some (element inner value i) _ (u, j) e in
      let a = element_says i b.0.1 b.0.0 b.1 in
      elements_say (length b.0.1.tokens) i b.0.1 j u (record { what = single a.what; tokens = a.tokens; steps = a.steps }) b.2

  branches_say : (n : ℕ) (start i j : ParseState) (u : Unit {0}) → IsSum start i → branches inner value n i ≡ Some (u, j) → IsSum start j
  unfolding branches after advance
  branches_say zero start i j u so e =
      let p = stayed i j u tt e in
      record { what = so.what; tokens = so.tokens ∙ ap (λ ts. grammar.sum so.what ts) p.tokens; steps = p.steps ∙ so.steps }
  branches_say (suc n) start i j u so e = elim (cases_Bool (sees Plus i)) [
    | inl is ↦
        let b = bind_some (concat inner value (advance i)) _ (u, j) (rw is at e) in
        let a = concat_says (advance i) b.0.1 b.0.0 b.1 in
        branches_say n start (record b.0.1 { steps = b.0.1.steps ++ ParseStep.either ∷ [] }) j u (record {
          what = grammar.either so.what a.what;
          tokens = so.tokens ∙ ap (λ ts. grammar.sum so.what ts) (seen Plus i is ∙ ap (λ ts. grammar.mark Plus ts) a.tokens);
          steps = ap (λ out. out ++ ParseStep.either ∷ []) (a.steps ∙ ap (λ out. concat_onto a.what out) so.steps);
        }) b.2
    | inr isnt ↦
        let p = stayed i j u tt (rw isnt at e) in
        record { what = so.what; tokens = so.tokens ∙ ap (λ ts. grammar.sum so.what ts) p.tokens; steps = p.steps ∙ so.steps }
  ]

  choice_says : Sound (choice inner value) IsSum
  unfolding choice
  choice_says i j u e =
      let b = bind_some (concat inner value i) _ (u, j) e in
      let a = concat_says i b.0.1 b.0.0 b.1 in
      branches_say (length b.0.1.tokens) i b.0.1 j u (record { what = branch a.what; tokens = a.tokens; steps = a.steps }) b.2

-- what is read is rules of the grammar
pub rules_say : (d : ℕ) → Sound (rules_to d) IsSum
unfolding rules_to
rules_say zero i j u e = absurd cc
rules_say (suc d) i j u e = choice_says (rules_to d) (expr d) (rules_say d) (expr_says d) i j u e
