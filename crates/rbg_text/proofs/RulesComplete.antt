-- The parser of rules reads the rules of the grammar.
use Rattle.std.proofs.Common.{◌≡◌, ℕ, zero, suc, ◌≤◌, ◌<◌, max, true, false, List, [], ◌∷◌, ◌++◌, length, Some, ◌∙◌, refl, arith}
use Rattle.rbg_text.specs.Token.{Text}
use Rattle.rbg_text.specs.Syntax as grammar
use Rattle.rbg_text.specs.Syntax.{Tokens, Expr, Assignment, Sum, branch, Concat, single, followed, Element, once, Base}
use Rattle.rbg_text.specs.Parse.{ParseStep}
use Rattle.rbg_text.specs.lemmas.Parse.{Parser, first, same_sign, sees, advance, after, expect, expr, name, comparison, pieces, begins_element}
use Rattle.rbg_text.specs.lemmas.Parse.{set, assignment, assignments, bracket, compared, pattern, brace, base, element, elements, concat}
use Rattle.rbg_text.specs.lemmas.Parse.{branches, choice, rules_to}
use Rattle.rbg_text.specs.Postfix.{expr_onto, among_onto, assignment_onto, assignments_onto, sum_onto, concat_onto, element_onto, base_onto}
use Rattle.rbg_text.specs.lemmas.Postfix.{expr_depth, assignments_depth, sum_depth, concat_depth, element_depth, base_depth}
use Rattle.rbg_game.specs.declared.rules.Comparison.{Comparison}
use Rattle.rbg_game.specs.declared.rules.Comparison.TheVariants as test
use Rattle.rbg_text.specs.declared.token.Sign.{Sign}
use Rattle.rbg_text.specs.declared.token.Sign.TheVariants.{Comma, OpenParen, CloseParen, OpenBracket, CloseBracket, OpenBrace, CloseBrace, Star, Plus, Minus, Dollar, Question, Exclamation}
use Rattle.rbg_text.proofs.ExpressionsComplete.{state, Not, Goes, Reads, goes_on, not_sign, expr_len, expr_reads}

-- ---- lists of names and of assignments

pieces_stop : (n : ℕ) (rest : Tokens) (out : List ParseStep) → Not Comma rest → pieces n (state rest out) ≡ Some (tt, state rest out)
unfolding pieces after
pieces_stop zero rest out stop = refl
pieces_stop (suc n) rest out stop = rw (stop out) refl

pieces_read : (ws : List Text) (n : ℕ) (rest : Tokens) (out : List ParseStep) → length (grammar.further grammar.word ws rest) ≤ n → Not Comma rest
    → pieces n (state (grammar.further grammar.word ws rest) out) ≡ Some (tt, state rest (among_onto ws out))
unfolding pieces after sees same_sign advance name
pieces_read [] n rest out enough stop = pieces_stop n rest out stop
pieces_read (w ∷ ws) zero rest out enough stop = absurd (omega (arith, enough))
pieces_read (w ∷ ws) (suc n) rest out enough stop = pieces_read ws n rest (out ++ ParseStep.among w ∷ []) (omega (arith, enough)) stop

set_reads : (ws : List Text) (rest : Tokens) (out : List ParseStep)
    → set (state (grammar.commas grammar.word ws (grammar.mark CloseBrace rest)) out) ≡ Some (tt, state rest (among_onto ws (out ++ ParseStep.on ∷ [])))
unfolding set after sees same_sign advance name expect
set_reads [] rest out = refl
set_reads (w ∷ ws) rest out =
    rw (pieces_read ws (length (grammar.further grammar.word ws (grammar.mark CloseBrace rest))) (grammar.mark CloseBrace rest)
    ((out ++ ParseStep.on ∷ []) ++ ParseStep.among w ∷ []) (omega arith) (not_sign Comma CloseBrace rest refl)) refl

-- what follows a value in brackets is no operator
module _ (s : Sign) (rest : Tokens) (star : same_sign s Star ≡ false) (plus : same_sign s Plus ≡ false) (minus : same_sign s Minus ≡ false) where
  value_reads : (e : Expr) (d : ℕ) (out : List ParseStep) → expr_depth e < d
      → Reads (expr d) (grammar.expr e (grammar.mark s rest)) out (grammar.mark s rest) (expr_onto e out)
  value_reads e d out deep = expr_reads e d (grammar.mark s rest) out deep (not_sign Star s rest star) (not_sign Plus s rest plus) (not_sign Minus s rest minus)

assignment_reads : (a : Assignment) (d : ℕ) (s : Sign) (rest : Tokens) (out : List ParseStep) → same_sign s Star ≡ false
    → same_sign s Plus ≡ false → same_sign s Minus ≡ false → expr_depth a.value < d
    → Reads (assignment (expr d)) (grammar.assignment a (grammar.mark s rest)) out (grammar.mark s rest) (assignment_onto a out)
unfolding assignment name advance expect sees same_sign
assignment_reads a d s rest out star plus minus deep = rw (value_reads s rest star plus minus a.value d out deep) refl

assignments_stop : (value : Parser (Unit {0})) (n : ℕ) (rest : Tokens) (out : List ParseStep) → Not Comma rest
    → assignments value n (state rest out) ≡ Some (tt, state rest out)
unfolding assignments after
assignments_stop value zero rest out stop = refl
assignments_stop value (suc n) rest out stop = rw (stop out) refl

-- the token after an assignment of a list is a comma or the closing bracket
last : List Assignment → Tokens → Tokens
last more rest = grammar.further grammar.assignment more (grammar.mark CloseBracket rest)

one_read : (a : Assignment) (more : List Assignment) (d : ℕ) (rest : Tokens) (out : List ParseStep) → expr_depth a.value < d
    → Reads (assignment (expr d)) (grammar.assignment a (last more rest)) out (last more rest) (assignment_onto a out)
unfolding last same_sign
one_read a [] d rest out deep = assignment_reads a d CloseBracket rest out refl refl refl deep
one_read a (b ∷ more) d rest out deep = assignment_reads a d Comma _ out refl refl refl deep

further_len : (more : List Assignment) (rest : Tokens) → length rest ≤ length (grammar.further grammar.assignment more rest)
further_len [] rest = omega arith
further_len (a ∷ more) rest = omega (arith, further_len more rest, expr_len a.value (grammar.further grammar.assignment more rest))

assignments_read : (more : List Assignment) (n d : ℕ) (rest : Tokens) (out : List ParseStep) → assignments_depth more < d → length (last more rest) ≤ n
    → Reads (assignments (expr d) n) (last more rest) out (grammar.mark CloseBracket rest) (assignments_onto more out)
unfolding assignments last after sees same_sign advance
assignments_read [] n d rest out deep enough = assignments_stop (expr d) n (grammar.mark CloseBracket rest) out (not_sign Comma CloseBracket rest refl)
assignments_read (a ∷ more) zero d rest out deep enough = absurd (omega (arith, enough))
assignments_read (a ∷ more) (suc n) d rest out deep enough =
    let one = one_read a more d rest out (omega (arith, deep)) in
    rw one (assignments_read more n d rest (assignment_onto a out ++ ParseStep.join ∷ []) (omega (arith, deep))
    (omega (arith, enough, expr_len a.value (last more rest))))

bracket_list : (a : Assignment) (more : List Assignment) (d : ℕ) (rest : Tokens) (out : List ParseStep) → max (expr_depth a.value) (assignments_depth more) < d
    → bracket (expr d) (state (grammar.mark Dollar (grammar.assignment a (last more rest))) out) ≡ Some
    (tt, state rest (assignments_onto more (assignment_onto a out)))
unfolding bracket after sees same_sign advance expect
bracket_list a more d rest out deep =
    let one = one_read a more d rest out (omega (arith, deep)) in
    let all = assignments_read more (length (last more rest)) d rest (assignment_onto a out) (omega (arith, deep)) (omega arith) in
    rw (one, all) refl

bracket_off : (w : Text) (value : Parser (Unit {0})) (rest : Tokens) (out : List ParseStep)
    → bracket value (state (grammar.word w (grammar.mark CloseBracket rest)) out) ≡ Some (tt, state rest (out ++ ParseStep.off w ∷ []))
unfolding bracket after sees same_sign advance expect name
bracket_off w value rest out = refl

-- ---- comparisons and patterns

compared_with : (l r : Expr) (t : Comparison) (s : Sign) (d : ℕ) (rest : Tokens) (out : List ParseStep) → max (expr_depth l) (expr_depth r) < d
    → same_sign s Star ≡ false → same_sign s Plus ≡ false → same_sign s Minus ≡ false
    → ((ts : Tokens) (o : List ParseStep) → comparison (state (grammar.mark s ts) o) ≡ Some (t, state ts o))
    → Reads (compared (expr d)) (grammar.expr l (grammar.mark s (grammar.expr r (grammar.mark CloseBrace rest)))) out rest
    (expr_onto r (expr_onto l out) ++ ParseStep.compare t ∷ [])
unfolding compared expect sees same_sign advance
compared_with l r t s d rest out deep star plus minus is =
    let one = value_reads s (grammar.expr r (grammar.mark CloseBrace rest)) star plus minus l d out (omega (arith, deep)) in
    let two = value_reads CloseBrace rest refl refl refl r d (expr_onto l out) (omega (arith, deep)) in
    rw (one, is, two) refl

compared_reads : (l r : Expr) (t : Comparison) (d : ℕ) (rest : Tokens) (out : List ParseStep) → max (expr_depth l) (expr_depth r) < d
    → Reads (compared (expr d)) (grammar.expr l
    (grammar.mark (grammar.test_sign t) (grammar.expr r (grammar.mark CloseBrace rest)))) out rest
    (expr_onto r (expr_onto l out) ++ ParseStep.compare t ∷ [])
unfolding comparison same_sign advance
compared_reads l r test.Equal d rest out deep = compared_with l r test.Equal _ d rest out deep refl refl refl (λ ts o. refl)
compared_reads l r test.NotEqual d rest out deep = compared_with l r test.NotEqual _ d rest out deep refl refl refl (λ ts o. refl)
compared_reads l r test.Less d rest out deep = compared_with l r test.Less _ d rest out deep refl refl refl (λ ts o. refl)
compared_reads l r test.LessEqual d rest out deep = compared_with l r test.LessEqual _ d rest out deep refl refl refl (λ ts o. refl)
compared_reads l r test.Greater d rest out deep = compared_with l r test.Greater _ d rest out deep refl refl refl (λ ts o. refl)
compared_reads l r test.GreaterEqual d rest out deep = compared_with l r test.GreaterEqual _ d rest out deep refl refl refl (λ ts o. refl)

pattern_reads : (inner : Parser (Unit {0})) (kind : ParseStep) (ts rest : Tokens) (out behind : List ParseStep)
    → Reads inner ts out (grammar.mark CloseBrace rest) behind
    → Reads (pattern inner kind) ts out rest (behind ++ kind ∷ [])
unfolding pattern expect sees same_sign advance
pattern_reads inner kind ts rest out behind h = rw h refl

-- ---- elements

-- what an element begins with
base_begins : (b : Base) (rest : Tokens) → begins_element (first (grammar.base b rest)) ≡ true
base_begins (grammar.shift w) rest = refl
base_begins _ rest = refl

base_no_star : (b : Base) (rest : Tokens) → Not Star (grammar.base b rest)
unfolding sees same_sign
base_no_star (grammar.shift w) rest out = refl
base_no_star _ rest out = refl

begins : (e : Element) (rest : Tokens) → begins_element (first (grammar.element e rest)) ≡ true
begins (once b) rest = base_begins b rest
begins (grammar.star b) rest = base_begins b (grammar.mark Star rest)

no_star : (e : Element) (rest : Tokens) → Not Star (grammar.element e rest)
no_star (once b) rest out = base_no_star b rest out
no_star (grammar.star b) rest out = base_no_star b (grammar.mark Star rest) out

further_names_len : (ws : List Text) (rest : Tokens) → length rest ≤ length (grammar.further grammar.word ws rest)
further_names_len [] rest = omega arith
further_names_len (w ∷ ws) rest = omega (arith, further_names_len ws rest)

names_len : (ws : List Text) (rest : Tokens) → length rest ≤ length (grammar.commas grammar.word ws rest)
names_len [] rest = omega arith
names_len (w ∷ ws) rest = omega (arith, further_names_len ws rest)

-- a part takes tokens
mutual
  pub sum_len : (s : Sum) (rest : Tokens) → length rest < length (grammar.sum s rest)
  sum_len (branch c) rest = concat_len c rest
  sum_len (grammar.either s c) rest = omega (arith, sum_len s (grammar.mark Plus (grammar.concat c rest)), concat_len c rest)

  concat_len : (c : Concat) (rest : Tokens) → length rest < length (grammar.concat c rest)
  concat_len (single e) rest = element_len e rest
  concat_len (followed c e) rest = omega (arith, concat_len c (grammar.element e rest), element_len e rest)

  element_len : (e : Element) (rest : Tokens) → length rest < length (grammar.element e rest)
  element_len (once b) rest = base_len b rest
  element_len (grammar.star b) rest = omega (arith, base_len b (grammar.mark Star rest))

  base_len : (b : Base) (rest : Tokens) → length rest < length (grammar.base b rest)
  base_len (grammar.shift w) rest = omega arith
  base_len (grammar.on ws) rest = omega (arith, names_len ws (grammar.mark CloseBrace rest))
  base_len (grammar.off w) rest = omega arith
  base_len (grammar.assign a more) rest = omega
      (arith, further_len more (grammar.mark CloseBracket rest), expr_len a.value (grammar.further grammar.assignment more (grammar.mark CloseBracket rest)))
  base_len (grammar.compare l t r) rest = omega
      (arith, expr_len l (grammar.mark (grammar.test_sign t) (grammar.expr r (grammar.mark CloseBrace rest))), expr_len r (grammar.mark CloseBrace rest))
  base_len (grammar.switch w) rest = omega arith
  base_len grammar.keeper rest = omega arith
  base_len (grammar.some_word s) rest = omega (arith, sum_len s (grammar.mark CloseBrace rest))
  base_len (grammar.no_word s) rest = omega (arith, sum_len s (grammar.mark CloseBrace rest))
  base_len (grammar.group s) rest = omega (arith, sum_len s (grammar.mark CloseParen rest))

module _ (inner value : Parser (Unit {0})) where
  element_once : (b : Base) (rest : Tokens) (out behind : List ParseStep) → Not Star rest → Reads (base inner value) (grammar.base b rest) out rest behind
      → Reads (element inner value) (grammar.base b rest) out rest behind
  unfolding element after
  element_once b rest out behind stop h = rw (h, stop behind) refl

  element_star : (b : Base) (rest : Tokens) (out behind : List ParseStep)
      → Reads (base inner value) (grammar.base b (grammar.mark Star rest)) out (grammar.mark Star rest) behind
      → Reads (element inner value) (grammar.base b (grammar.mark Star rest)) out rest (behind ++ ParseStep.star ∷ [])
  unfolding element after sees same_sign advance
  element_star b rest out behind h = rw h refl

  concat_start : (ts rest : Tokens) (out behind : List ParseStep) → Reads (element inner value) ts out rest behind
      → Goes (concat inner value) (elements inner value) ts out rest behind
  unfolding concat
  concat_start ts rest out behind h = record { turns = length rest; enough = omega arith; goes = rw h refl }

  choice_start : (ts rest : Tokens) (out behind : List ParseStep) → Reads (concat inner value) ts out rest behind
      → Goes (choice inner value) (branches inner value) ts out rest behind
  unfolding choice
  choice_start ts rest out behind h = record { turns = length rest; enough = omega arith; goes = rw h refl }

  elements_step : (n : ℕ) (ts rest : Tokens) (out behind : List ParseStep) → begins_element (first ts) ≡ true → Reads (element inner value) ts out rest behind
      → elements inner value (suc n) (state ts out) ≡ elements inner value n (state rest (behind ++ ParseStep.join ∷ []))
  unfolding elements
  elements_step n ts rest out behind is h = rw (is, h) refl

  elements_stop : (n : ℕ) (rest : Tokens) (out : List ParseStep) → begins_element (first rest) ≡ false
      → elements inner value n (state rest out) ≡ Some (tt, state rest out)
  unfolding elements
  elements_stop zero rest out stop = refl
  elements_stop (suc n) rest out stop = rw stop refl

  branches_step : (n : ℕ) (ts rest : Tokens) (out behind : List ParseStep) → Reads (concat inner value) ts out rest behind
      → branches inner value (suc n) (state (grammar.mark Plus ts) out) ≡ branches inner value n (state rest (behind ++ ParseStep.either ∷ []))
  unfolding branches after sees same_sign advance
  branches_step n ts rest out behind h = rw h refl

  branches_stop : (n : ℕ) (rest : Tokens) (out : List ParseStep) → Not Plus rest → branches inner value n (state rest out) ≡ Some (tt, state rest out)
  unfolding branches after
  branches_stop zero rest out stop = refl
  branches_stop (suc n) rest out stop = rw (stop out) refl

  concat_stops : (ts rest : Tokens) (out behind : List ParseStep) → Goes (concat inner value) (elements inner value) ts out rest behind
      → begins_element (first rest) ≡ false
      → Reads (concat inner value) ts out rest behind
  concat_stops ts rest out behind g stop = g.goes ∙ elements_stop g.turns rest behind stop

  choice_stops : (ts rest : Tokens) (out behind : List ParseStep) → Goes (choice inner value) (branches inner value) ts out rest behind → Not Plus rest
      → Reads (choice inner value) ts out rest behind
  choice_stops ts rest out behind g stop = g.goes ∙ branches_stop g.turns rest behind stop

  base_group : (ts rest : Tokens) (out behind : List ParseStep) → Reads inner ts out (grammar.mark CloseParen rest) behind
      → Reads (base inner value) (grammar.mark OpenParen ts) out rest behind
  unfolding base expect sees same_sign advance
  base_group ts rest out behind h = rw h refl

  base_bracket : (ts rest : Tokens) (out behind : List ParseStep) → Reads (bracket value) ts out rest behind
      → Reads (base inner value) (grammar.mark OpenBracket ts) out rest behind
  unfolding base advance
  base_bracket ts rest out behind h = rw h refl

  base_compared : (ts rest : Tokens) (out behind : List ParseStep) → Reads (compared value) ts out rest behind
      → Reads (base inner value) (grammar.mark OpenBrace (grammar.mark Dollar ts)) out rest behind
  unfolding base brace after sees same_sign advance
  base_compared ts rest out behind h = rw h refl

  base_some_word : (ts rest : Tokens) (out behind : List ParseStep) → Reads (pattern inner ParseStep.some_word) ts out rest behind
      → Reads (base inner value) (grammar.mark OpenBrace (grammar.mark Question ts)) out rest behind
  unfolding base brace after sees same_sign advance
  base_some_word ts rest out behind h = rw h refl

  base_no_word : (ts rest : Tokens) (out behind : List ParseStep) → Reads (pattern inner ParseStep.no_word) ts out rest behind
      → Reads (base inner value) (grammar.mark OpenBrace (grammar.mark Exclamation ts)) out rest behind
  unfolding base brace after sees same_sign advance
  base_no_word ts rest out behind h = rw h refl

  base_set : (ws : List Text) (rest : Tokens) (out : List ParseStep)
      → Reads (base inner value) (grammar.base (grammar.on ws) rest) out rest (base_onto (grammar.on ws) out)
  unfolding base brace after sees same_sign advance
  base_set [] rest out = set_reads [] rest out
  base_set (w ∷ ws) rest out = set_reads (w ∷ ws) rest out

  base_name : (w : Text) (rest : Tokens) (out : List ParseStep) → Reads (base inner value) (grammar.word w rest) out rest (out ++ ParseStep.shift w ∷ [])
  unfolding base advance
  base_name w rest out = refl

  base_switch : (w : Text) (rest : Tokens) (out : List ParseStep)
      → Reads (base inner value) (grammar.base (grammar.switch w) rest) out rest (out ++ ParseStep.switch w ∷ [])
  unfolding base advance name
  base_switch w rest out = refl

  base_keeper : (rest : Tokens) (out : List ParseStep) → Reads (base inner value) (grammar.base grammar.keeper rest) out rest (out ++ ParseStep.keeper ∷ [])
  unfolding base advance
  base_keeper rest out = refl

-- one more element of a concatenation, where the loop is left before it
goes_by : {run : Parser (Unit {0})} {go : ℕ → Parser (Unit {0})} {here : Tokens} {before : List ParseStep} (ts rest : Tokens) (mid behind : List ParseStep)
    → length rest < length ts → ((n : ℕ) → go (suc n) (state ts mid) ≡ go n (state rest behind))
    → Goes run go here before ts mid → Goes run go here before rest behind
goes_by {run = run} {go = go} {here = here} {before = before} ts rest mid behind le step g = again g.turns g.enough g.goes
  where
    again : (n : ℕ) → length ts ≤ n → run (state here before) ≡ go n (state ts mid) → Goes run go here before rest behind
    again zero enough e = absurd (omega (arith, enough))
    again (suc n) enough e = record { turns = n; enough = omega arith; goes = e ∙ step n }

mutual
  unfolding rules_to same_sign last

  sum_goes : (s : Sum) (d : ℕ) (rest : Tokens) (out : List ParseStep) → sum_depth s ≤ d → Not Star rest → begins_element (first rest) ≡ false
      → Goes (choice (rules_to d) (expr d)) (branches (rules_to d) (expr d)) (grammar.sum s rest) out rest (sum_onto s out)
  sum_goes (branch c) d rest out deep star stop =
      choice_start (rules_to d) (expr d) _ rest out _ (concat_stops (rules_to d) (expr d) _ rest out _ (concat_goes c d rest out deep star) stop)
  sum_goes (grammar.either s c) d rest out deep star stop =
      let h = concat_stops (rules_to d) (expr d) _ rest (sum_onto s out) _ (concat_goes c d rest (sum_onto s out) (omega (arith, deep)) star) stop in
      goes_on (grammar.concat c rest) rest Plus (sum_onto s out) _ (omega (arith, concat_len c rest))
      (λ n. branches_step (rules_to d) (expr d) n _ rest (sum_onto s out) _ h)
      (sum_goes s d (grammar.mark Plus (grammar.concat c rest)) out (omega (arith, deep)) (not_sign Star Plus (grammar.concat c rest) refl) refl)

  concat_goes : (c : Concat) (d : ℕ) (rest : Tokens) (out : List ParseStep) → concat_depth c ≤ d → Not Star rest
      → Goes (concat (rules_to d) (expr d)) (elements (rules_to d) (expr d)) (grammar.concat c rest) out rest (concat_onto c out)
  concat_goes (single e) d rest out deep star = concat_start (rules_to d) (expr d) _ rest out _ (element_reads e d rest out deep star)
  concat_goes (followed c e) d rest out deep star =
      let h = element_reads e d rest (concat_onto c out) (omega (arith, deep)) star in
      goes_by (grammar.element e rest) rest (concat_onto c out) _ (element_len e rest)
      (λ n. elements_step (rules_to d) (expr d) n _ rest (concat_onto c out) _ (begins e rest) h)
      (concat_goes c d (grammar.element e rest) out (omega (arith, deep)) (no_star e rest))

  element_reads : (e : Element) (d : ℕ) (rest : Tokens) (out : List ParseStep) → element_depth e ≤ d → Not Star rest
      → Reads (element (rules_to d) (expr d)) (grammar.element e rest) out rest (element_onto e out)
  element_reads (once b) d rest out deep star = element_once (rules_to d) (expr d) b rest out _ star (base_reads b d rest out deep)
  element_reads (grammar.star b) d rest out deep star = element_star (rules_to d) (expr d) b rest out _ (base_reads b d (grammar.mark Star rest) out deep)

  base_reads : (b : Base) (d : ℕ) (rest : Tokens) (out : List ParseStep) → base_depth b ≤ d
      → Reads (base (rules_to d) (expr d)) (grammar.base b rest) out rest (base_onto b out)
  base_reads (grammar.shift w) d rest out deep = base_name (rules_to d) (expr d) w rest out
  base_reads (grammar.on ws) d rest out deep = base_set (rules_to d) (expr d) ws rest out
  base_reads (grammar.off w) d rest out deep = base_bracket (rules_to d) (expr d) _ rest out _ (bracket_off w (expr d) rest out)
  base_reads (grammar.assign a more) d rest out deep = base_bracket (rules_to d) (expr d) _ rest out _ (bracket_list a more d rest out (omega (arith, deep)))
  base_reads (grammar.compare l t r) d rest out deep = base_compared (rules_to d) (expr d) _ rest out _ (compared_reads l r t d rest out (omega (arith, deep)))
  base_reads (grammar.switch w) d rest out deep = base_switch (rules_to d) (expr d) w rest out
  base_reads grammar.keeper d rest out deep = base_keeper (rules_to d) (expr d) rest out
  base_reads (grammar.some_word s) zero rest out deep = absurd (omega (arith, deep))
  base_reads (grammar.some_word s) (suc d) rest out deep =
      base_some_word (rules_to (suc d)) (expr (suc d)) _ rest out _ (pattern_reads (rules_to (suc d)) ParseStep.some_word _ rest out _
      (choice_stops (rules_to d) (expr d) _ (grammar.mark CloseBrace rest) out _
      (sum_goes s d (grammar.mark CloseBrace rest) out (omega (arith, deep)) (not_sign Star CloseBrace rest refl) refl)
      (not_sign Plus CloseBrace rest refl)))
  base_reads (grammar.no_word s) zero rest out deep = absurd (omega (arith, deep))
  base_reads (grammar.no_word s) (suc d) rest out deep =
      base_no_word (rules_to (suc d)) (expr (suc d)) _ rest out _ (pattern_reads (rules_to (suc d)) ParseStep.no_word _ rest out _
      (choice_stops (rules_to d) (expr d) _ (grammar.mark CloseBrace rest) out _
      (sum_goes s d (grammar.mark CloseBrace rest) out (omega (arith, deep)) (not_sign Star CloseBrace rest refl) refl)
      (not_sign Plus CloseBrace rest refl)))
  base_reads (grammar.group s) zero rest out deep = absurd (omega (arith, deep))
  base_reads (grammar.group s) (suc d) rest out deep =
      base_group (rules_to (suc d)) (expr (suc d)) _ rest out _
      (choice_stops (rules_to d) (expr d) _ (grammar.mark CloseParen rest) out _
      (sum_goes s d (grammar.mark CloseParen rest) out (omega (arith, deep)) (not_sign Star CloseParen rest refl) refl)
      (not_sign Plus CloseParen rest refl))

-- rules of the grammar are read, where nothing that goes on with them follows
pub rules_read : (s : Sum) (d : ℕ) (rest : Tokens) (out : List ParseStep) → sum_depth s < d → Not Star rest
    → begins_element (first rest) ≡ false → Not Plus rest
    → Reads (rules_to d) (grammar.sum s rest) out rest (sum_onto s out)
unfolding rules_to
rules_read s zero rest out deep star stop plus = absurd (omega (arith, deep))
rules_read s (suc d) rest out deep star stop plus = choice_stops (rules_to d) (expr d) _ rest out _ (sum_goes s d rest out (omega (arith, deep)) star stop) plus
