-- A walk over the tokens of a text finds the actions that the grammar says.
use Rattle.std.proofs.Common.{◌≡◌, ℕ, suc, List, [], ◌∷◌, ◌++◌, map, refl, ap, ◌∙◌}
use Rattle.rbg_game.specs.declared.rules.Comparison.{Comparison}
use Rattle.rbg_game.specs.declared.rules.Comparison.TheVariants as test
use Rattle.rbg_text.specs.Token.{Text}
use Rattle.rbg_text.specs.Syntax as g
use Rattle.rbg_text.specs.Syntax.{Tokens, Expr, Term, Factor, Atom, Assignment, Sum, Concat, Element, Base, Declaration, Further}
use Rattle.rbg_text.specs.Syntax.{after_comma, at_once, Section, mark}
use Rattle.rbg_text.specs.declared.token.Sign.TheVariants.{Plus, Star, CloseParen, CloseBracket, CloseBrace}
use Rattle.numbered_actions.specs.Written.{Spot, Cut, cut_at, spots, spots_in_concat, spots_in_element, spots_in_base, spots_of, further_assigned}
use Rattle.numbered_actions.specs.lemmas.Walk.{elsewhere, rules, assignment, braces, found_from}

-- ---- within an assignment

mutual
  expr_passes : (e : Expr) (begun rest : Tokens) → found_from (assignment begun) (g.expr e rest) ≡ found_from (assignment begun) rest
  expr_passes (g.sum_of t) begun rest = term_passes t begun rest
  expr_passes (g.plus e t) begun rest = expr_passes e begun _ ∙ term_passes t begun rest
  expr_passes (g.minus e t) begun rest = expr_passes e begun _ ∙ term_passes t begun rest

  term_passes : (t : Term) (begun rest : Tokens) → found_from (assignment begun) (g.term t rest) ≡ found_from (assignment begun) rest
  term_passes (g.product_of f) begun rest = factor_passes f begun rest
  term_passes (g.times t f) begun rest = term_passes t begun _ ∙ factor_passes f begun rest

  factor_passes : (f : Factor) (begun rest : Tokens) → found_from (assignment begun) (g.factor f rest) ≡ found_from (assignment begun) rest
  factor_passes (g.positive a) begun rest = atom_passes a begun rest
  factor_passes (g.negative a) begun rest = atom_passes a begun rest

  atom_passes : (a : Atom) (begun rest : Tokens) → found_from (assignment begun) (g.atom a rest) ≡ found_from (assignment begun) rest
  atom_passes (g.literal w) begun rest = refl
  atom_passes (g.Atom.variable w) begun rest = refl
  atom_passes (g.parenthesized e) begun rest = expr_passes e begun (mark CloseParen rest)

-- ---- within braces

mutual
  expr_within : (e : Expr) (begun : Tokens) (d : ℕ) (rest : Tokens) → found_from (braces begun d) (g.expr e rest) ≡ found_from (braces begun d) rest
  expr_within (g.sum_of t) begun d rest = term_within t begun d rest
  expr_within (g.plus e t) begun d rest = expr_within e begun d _ ∙ term_within t begun d rest
  expr_within (g.minus e t) begun d rest = expr_within e begun d _ ∙ term_within t begun d rest

  term_within : (t : Term) (begun : Tokens) (d : ℕ) (rest : Tokens) → found_from (braces begun d) (g.term t rest) ≡ found_from (braces begun d) rest
  term_within (g.product_of f) begun d rest = factor_within f begun d rest
  term_within (g.times t f) begun d rest = term_within t begun d _ ∙ factor_within f begun d rest

  factor_within : (f : Factor) (begun : Tokens) (d : ℕ) (rest : Tokens) → found_from (braces begun d) (g.factor f rest) ≡ found_from (braces begun d) rest
  factor_within (g.positive a) begun d rest = atom_within a begun d rest
  factor_within (g.negative a) begun d rest = atom_within a begun d rest

  atom_within : (a : Atom) (begun : Tokens) (d : ℕ) (rest : Tokens) → found_from (braces begun d) (g.atom a rest) ≡ found_from (braces begun d) rest
  atom_within (g.literal w) begun d rest = refl
  atom_within (g.Atom.variable w) begun d rest = refl
  atom_within (g.parenthesized e) begun d rest = expr_within e begun d (mark CloseParen rest)

names_within : (ws : List Text) (begun : Tokens) (d : ℕ) (rest : Tokens)
    → found_from (braces begun d) (g.further g.word ws rest) ≡ found_from (braces begun d) rest
names_within [] begun d rest = refl
names_within (w ∷ ws) begun d rest = names_within ws begun d rest

set_within : (ws : List Text) (begun : Tokens) (d : ℕ) (rest : Tokens)
    → found_from (braces begun d) (g.commas g.word ws rest) ≡ found_from (braces begun d) rest
set_within [] begun d rest = refl
set_within (w ∷ ws) begun d rest = names_within ws begun d rest

assignments_within : (more : List Assignment) (begun : Tokens) (d : ℕ) (rest : Tokens)
    → found_from (braces begun d) (g.further g.assignment more rest) ≡ found_from (braces begun d) rest
assignments_within [] begun d rest = refl
assignments_within (a ∷ more) begun d rest = expr_within a.value begun d _ ∙ assignments_within more begun d rest

compared_within : (l r : Expr) (t : Comparison) (begun : Tokens) (d : ℕ) (rest : Tokens)
    → found_from (braces begun d) (g.expr l (mark (g.test_sign t) (g.expr r rest))) ≡ found_from (braces begun d) rest
compared_within l r test.Equal begun d rest = expr_within l begun d _ ∙ expr_within r begun d rest
compared_within l r test.NotEqual begun d rest = expr_within l begun d _ ∙ expr_within r begun d rest
compared_within l r test.Less begun d rest = expr_within l begun d _ ∙ expr_within r begun d rest
compared_within l r test.LessEqual begun d rest = expr_within l begun d _ ∙ expr_within r begun d rest
compared_within l r test.Greater begun d rest = expr_within l begun d _ ∙ expr_within r begun d rest
compared_within l r test.GreaterEqual begun d rest = expr_within l begun d _ ∙ expr_within r begun d rest

mutual
  sum_within : (s : Sum) (begun : Tokens) (d : ℕ) (rest : Tokens) → found_from (braces begun d) (g.sum s rest) ≡ found_from (braces begun d) rest
  sum_within (g.branch c) begun d rest = concat_within c begun d rest
  sum_within (g.either s c) begun d rest = sum_within s begun d _ ∙ concat_within c begun d rest

  concat_within : (c : Concat) (begun : Tokens) (d : ℕ) (rest : Tokens) → found_from (braces begun d) (g.concat c rest) ≡ found_from (braces begun d) rest
  concat_within (g.single e) begun d rest = element_within e begun d rest
  concat_within (g.followed c e) begun d rest = concat_within c begun d _ ∙ element_within e begun d rest

  element_within : (e : Element) (begun : Tokens) (d : ℕ) (rest : Tokens) → found_from (braces begun d) (g.element e rest) ≡ found_from (braces begun d) rest
  element_within (g.once b) begun d rest = base_within b begun d rest
  element_within (g.star b) begun d rest = base_within b begun d (mark Star rest)

  base_within : (b : Base) (begun : Tokens) (d : ℕ) (rest : Tokens) → found_from (braces begun d) (g.base b rest) ≡ found_from (braces begun d) rest
  base_within (g.shift w) begun d rest = refl
  base_within (g.on ws) begun d rest = set_within ws begun (suc d) (mark CloseBrace rest)
  base_within (g.off w) begun d rest = refl
  base_within (g.assign a more) begun d rest = expr_within a.value begun d _ ∙ assignments_within more begun d (mark CloseBracket rest)
  base_within (g.compare l t r) begun d rest = compared_within l r t begun (suc d) (mark CloseBrace rest)
  base_within (g.switch w) begun d rest = refl
  base_within g.keeper begun d rest = refl
  base_within (g.some_word s) begun d rest = sum_within s begun (suc d) (mark CloseBrace rest)
  base_within (g.no_word s) begun d rest = sum_within s begun (suc d) (mark CloseBrace rest)
  base_within (g.group s) begun d rest = sum_within s begun d (mark CloseParen rest)

-- ---- in the rules

joined : (xs ys : List Spot) (a b c : List Cut) → a ≡ map cut_at xs ++ b → b ≡ map cut_at ys ++ c → a ≡ map cut_at (xs ++ ys) ++ c
joined [] ys a b c p q = p ∙ q
joined (x ∷ xs) ys a b c p q = p ∙ ap (λ more. cut_at x ∷ more) (joined xs ys (map cut_at xs ++ b) b c refl q)

-- the assignments of a list, where one has begun
list_found : (more : List Assignment) (begun rest : Tokens)
    → found_from (assignment begun) (g.further g.assignment more (mark CloseBracket rest))
    ≡ record { here = begun; behind = g.further g.assignment more (mark CloseBracket rest) }
    ∷ (map cut_at (further_assigned more (mark CloseBracket rest)) ++ found_from rules rest)
list_found [] begun rest = refl
list_found (a ∷ more) begun rest =
    let next = g.assignment a (g.further g.assignment more (mark CloseBracket rest)) in
    ap (λ cuts. record { here = begun; behind = g.further g.assignment (a ∷ more) (mark CloseBracket rest) } ∷ cuts)
    (expr_passes a.value next _ ∙ list_found more next rest)

mutual
  sum_found : (s : Sum) (rest : Tokens) → found_from rules (g.sum s rest) ≡ map cut_at (spots s rest) ++ found_from rules rest
  sum_found (g.branch c) rest = concat_found c rest
  sum_found (g.either s c) rest =
      let front = mark Plus (g.concat c rest) in
      joined (spots s front) (spots_in_concat c rest) _ _ _ (sum_found s front) (concat_found c rest)

  concat_found : (c : Concat) (rest : Tokens) → found_from rules (g.concat c rest) ≡ map cut_at (spots_in_concat c rest) ++ found_from rules rest
  concat_found (g.single e) rest = element_found e rest
  concat_found (g.followed c e) rest =
      let front = g.element e rest in
      joined (spots_in_concat c front) (spots_in_element e rest) _ _ _ (concat_found c front) (element_found e rest)

  element_found : (e : Element) (rest : Tokens) → found_from rules (g.element e rest) ≡ map cut_at (spots_in_element e rest) ++ found_from rules rest
  element_found (g.once b) rest = base_found b rest
  element_found (g.star b) rest = base_found b (mark Star rest)

  base_found : (b : Base) (rest : Tokens) → found_from rules (g.base b rest) ≡ map cut_at (spots_in_base b rest) ++ found_from rules rest
  base_found (g.shift w) rest = refl
  base_found (g.on ws) rest = set_within ws (g.base (g.on ws) rest) 0 (mark CloseBrace rest)
  base_found (g.off w) rest = refl
  base_found (g.assign a more) rest =
      let begun = g.assignment a (g.further g.assignment more (mark CloseBracket rest)) in
      expr_passes a.value begun _ ∙ list_found more begun rest
  base_found (g.compare l t r) rest = compared_within l r t (g.base (g.compare l t r) rest) 0 (mark CloseBrace rest)
  base_found (g.switch w) rest = refl
  base_found g.keeper rest = refl
  base_found (g.some_word s) rest = sum_within s (g.base (g.some_word s) rest) 0 (mark CloseBrace rest)
  base_found (g.no_word s) rest = sum_within s (g.base (g.no_word s) rest) 0 (mark CloseBrace rest)
  base_found (g.group s) rest = sum_found s (mark CloseParen rest)

-- ---- in the other sections

further_pass : {X : Type 0} (said : X → Tokens → Tokens) → ((x : X) (rest : Tokens) → found_from elsewhere (said x rest) ≡ found_from elsewhere rest)
    → (xs : List X) (rest : Tokens) → found_from elsewhere (g.further said xs rest) ≡ found_from elsewhere rest
further_pass said each [] rest = refl
further_pass said each (x ∷ xs) rest = each x _ ∙ further_pass said each xs rest

commas_pass : {X : Type 0} (said : X → Tokens → Tokens) → ((x : X) (rest : Tokens) → found_from elsewhere (said x rest) ≡ found_from elsewhere rest)
    → (xs : List X) (rest : Tokens) → found_from elsewhere (g.commas said xs rest) ≡ found_from elsewhere rest
commas_pass said each [] rest = refl
commas_pass said each (x ∷ xs) rest = each x _ ∙ further_pass said each xs rest

declaration_passes : (d : Declaration) (rest : Tokens) → found_from elsewhere (g.declaration d rest) ≡ found_from elsewhere rest
declaration_passes d rest = refl

word_passes : (w : Text) (rest : Tokens) → found_from elsewhere (g.word w rest) ≡ found_from elsewhere rest
word_passes w rest = refl

arrow_passes : (a : g.WrittenArrow) (rest : Tokens) → found_from elsewhere (g.arrow a rest) ≡ found_from elsewhere rest
arrow_passes a rest = refl

vertex_passes : (v : g.WrittenVertex) (rest : Tokens) → found_from elsewhere (g.vertex v rest) ≡ found_from elsewhere rest
vertex_passes v rest = commas_pass g.arrow arrow_passes v.arrows (mark CloseBrace rest)

vertices_pass : (more : List Further) (rest : Tokens) → found_from elsewhere (g.further_vertices more rest) ≡ found_from elsewhere rest
vertices_pass [] rest = refl
vertices_pass (after_comma v ∷ more) rest = vertex_passes v _ ∙ vertices_pass more rest
vertices_pass (at_once v ∷ more) rest = vertex_passes v _ ∙ vertices_pass more rest

-- after the rules a section begins, or the text ends
behind_rules : (all : List Section) → found_from rules (g.text all) ≡ found_from elsewhere (g.text all)
behind_rules [] = refl
behind_rules (g.players first more ∷ all) = refl
behind_rules (g.pieces first more ∷ all) = refl
behind_rules (g.variables some ∷ all) = refl
behind_rules (g.board first more ∷ all) = refl
behind_rules (g.rules s ∷ all) = refl

map_of_append : (xs ys : List Spot) → map cut_at xs ++ map cut_at ys ≡ map cut_at (xs ++ ys)
map_of_append [] ys = refl
map_of_append (x ∷ xs) ys = ap (λ more. cut_at x ∷ more) (map_of_append xs ys)

pub all_found : (all : List Section) → found_from elsewhere (g.text all) ≡ map cut_at (spots_of all)
all_found [] = refl
all_found (g.players first more ∷ all) = commas_pass g.declaration declaration_passes (first ∷ more) (g.text all) ∙ all_found all
all_found (g.pieces first more ∷ all) = commas_pass g.word word_passes (first ∷ more) (g.text all) ∙ all_found all
all_found (g.variables some ∷ all) = commas_pass g.declaration declaration_passes some (g.text all) ∙ all_found all
all_found (g.board first more ∷ all) = vertex_passes first _ ∙ vertices_pass more (g.text all) ∙ all_found all
all_found (g.rules s ∷ all) =
    sum_found s (g.text all) ∙ ap (λ cuts. map cut_at (spots s (g.text all)) ++ cuts) (behind_rules all ∙ all_found all)
    ∙ map_of_append (spots s (g.text all)) (spots_of all)
