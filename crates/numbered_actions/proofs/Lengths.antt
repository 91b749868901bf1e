-- An action has a token at least.
use Rattle.std.proofs.Common.{◌<◌, ◌≤◌, List, [], ◌∷◌, length, arith}
use Rattle.rbg_text.specs.Token.{Text}
use Rattle.rbg_text.specs.Syntax as g
use Rattle.rbg_text.specs.Syntax.{Tokens, Expr, Term, Factor, Atom, Assignment, Sum, Concat, Element, Base, mark}
use Rattle.rbg_text.specs.declared.token.Sign.TheVariants.{Plus, Minus, Star, CloseParen, CloseBracket, CloseBrace}
use Rattle.numbered_actions.specs.Written.{Written, assigned, other, said}

mutual
  expr_longer : (e : Expr) (rest : Tokens) → length rest ≤ length (g.expr e rest)
  expr_longer (g.sum_of t) rest = term_longer t rest
  expr_longer (g.plus e t) rest = omega (arith, expr_longer e (mark Plus (g.term t rest)), term_longer t rest)
  expr_longer (g.minus e t) rest = omega (arith, expr_longer e (mark Minus (g.term t rest)), term_longer t rest)

  term_longer : (t : Term) (rest : Tokens) → length rest ≤ length (g.term t rest)
  term_longer (g.product_of f) rest = factor_longer f rest
  term_longer (g.times t f) rest = omega (arith, term_longer t (mark Star (g.factor f rest)), factor_longer f rest)

  factor_longer : (f : Factor) (rest : Tokens) → length rest ≤ length (g.factor f rest)
  factor_longer (g.positive a) rest = atom_longer a rest
  factor_longer (g.negative a) rest = omega (arith, atom_longer a rest)

  atom_longer : (a : Atom) (rest : Tokens) → length rest ≤ length (g.atom a rest)
  atom_longer (g.literal w) rest = omega arith
  atom_longer (g.Atom.variable w) rest = omega arith
  atom_longer (g.parenthesized e) rest = omega (arith, expr_longer e (mark CloseParen rest))

names_longer : (ws : List Text) (rest : Tokens) → length rest ≤ length (g.further g.word ws rest)
names_longer [] rest = omega arith
names_longer (w ∷ ws) rest = omega (arith, names_longer ws rest)

set_longer : (ws : List Text) (rest : Tokens) → length rest ≤ length (g.commas g.word ws rest)
set_longer [] rest = omega arith
set_longer (w ∷ ws) rest = omega (arith, names_longer ws rest)

assignments_longer : (more : List Assignment) (rest : Tokens) → length rest ≤ length (g.further g.assignment more rest)
assignments_longer [] rest = omega arith
assignments_longer (a ∷ more) rest = omega (arith, expr_longer a.value (g.further g.assignment more rest), assignments_longer more rest)

mutual
  sum_longer : (s : Sum) (rest : Tokens) → length rest ≤ length (g.sum s rest)
  sum_longer (g.branch c) rest = concat_longer c rest
  sum_longer (g.either s c) rest = omega (arith, sum_longer s (mark Plus (g.concat c rest)), concat_longer c rest)

  concat_longer : (c : Concat) (rest : Tokens) → length rest ≤ length (g.concat c rest)
  concat_longer (g.single e) rest = element_longer e rest
  concat_longer (g.followed c e) rest = omega (arith, concat_longer c (g.element e rest), element_longer e rest)

  element_longer : (e : Element) (rest : Tokens) → length rest ≤ length (g.element e rest)
  element_longer (g.once b) rest = let m = base_longer b rest in omega (arith, m)
  element_longer (g.star b) rest = let m = base_longer b (mark Star rest) in omega (arith, m)

  base_longer : (b : Base) (rest : Tokens) → length rest < length (g.base b rest)
  base_longer (g.shift w) rest = omega arith
  base_longer (g.on ws) rest = omega (arith, set_longer ws (mark CloseBrace rest))
  base_longer (g.off w) rest = omega arith
  base_longer (g.assign a more) rest =
      let behind = g.further g.assignment more (mark CloseBracket rest) in
      omega (arith, expr_longer a.value behind, assignments_longer more (mark CloseBracket rest))
  base_longer (g.compare l t r) rest =
      let behind = mark (g.test_sign t) (g.expr r (mark CloseBrace rest)) in
      omega (arith, expr_longer l behind, expr_longer r (mark CloseBrace rest))
  base_longer (g.switch w) rest = omega arith
  base_longer g.keeper rest = omega arith
  base_longer (g.some_word s) rest = omega (arith, sum_longer s (mark CloseBrace rest))
  base_longer (g.no_word s) rest = omega (arith, sum_longer s (mark CloseBrace rest))
  base_longer (g.group s) rest = omega (arith, sum_longer s (mark CloseParen rest))

pub said_longer : (w : Written) (rest : Tokens) → length rest < length (said w rest)
said_longer (assigned a) rest = omega (arith, expr_longer a.value rest)
said_longer (other b) rest = base_longer b rest
