-- The steps of an expression in postfix order, after the steps `out`.
use Rattle.std.specs.Prelude.{List, [], ◌∷◌, ◌++◌}
use Rattle.rbg_text.specs.Syntax.{Expr, sum_of, plus, minus, Term, product_of, times, Factor, positive, negative, Atom, literal}
use Rattle.rbg_text.specs.Syntax.{parenthesized, Assignment, Sum, branch, either, Concat, single, followed, Element, once, star, Base}
use Rattle.rbg_text.specs.Syntax.{shift, on, off, assign, compare, switch, keeper, some_word, no_word, group}
use Rattle.rbg_text.specs.Token.{Text}
use Rattle.rbg_text.specs.Parse.{ParseStep}

abbrev mutual
  pub expr_onto : Expr → List ParseStep → List ParseStep
  expr_onto (sum_of t) out = term_onto t out
  expr_onto (plus e t) out = term_onto t (expr_onto e out) ++ ParseStep.add ∷ []
  expr_onto (minus e t) out = term_onto t (expr_onto e out) ++ ParseStep.subtract ∷ []

  pub term_onto : Term → List ParseStep → List ParseStep
  term_onto (product_of f) out = factor_onto f out
  term_onto (times t f) out = factor_onto f (term_onto t out) ++ ParseStep.multiply ∷ []

  pub factor_onto : Factor → List ParseStep → List ParseStep
  factor_onto (positive a) out = atom_onto a out
  factor_onto (negative a) out = atom_onto a out ++ ParseStep.negate ∷ []

  pub atom_onto : Atom → List ParseStep → List ParseStep
  atom_onto (literal n) out = out ++ ParseStep.number n ∷ []
  atom_onto (Atom.variable v) out = out ++ ParseStep.variable v ∷ []
  atom_onto (parenthesized e) out = expr_onto e out

-- ---- rules

-- the pieces of a set
abbrev pub among_onto : List Text → List ParseStep → List ParseStep
among_onto [] out = out
among_onto (w ∷ ws) out = among_onto ws (out ++ ParseStep.among w ∷ [])

abbrev pub assignment_onto : Assignment → List ParseStep → List ParseStep
assignment_onto a out = expr_onto a.value out ++ ParseStep.assign a.target ∷ []

-- the further assignments of a list
abbrev pub assignments_onto : List Assignment → List ParseStep → List ParseStep
assignments_onto [] out = out
assignments_onto (a ∷ more) out = assignments_onto more (assignment_onto a out ++ ParseStep.join ∷ [])

abbrev mutual
  pub sum_onto : Sum → List ParseStep → List ParseStep
  sum_onto (branch c) out = concat_onto c out
  sum_onto (either s c) out = concat_onto c (sum_onto s out) ++ ParseStep.either ∷ []

  pub concat_onto : Concat → List ParseStep → List ParseStep
  concat_onto (single e) out = element_onto e out
  concat_onto (followed c e) out = element_onto e (concat_onto c out) ++ ParseStep.join ∷ []

  pub element_onto : Element → List ParseStep → List ParseStep
  element_onto (once b) out = base_onto b out
  element_onto (star b) out = base_onto b out ++ ParseStep.star ∷ []

  pub base_onto : Base → List ParseStep → List ParseStep
  base_onto (shift w) out = out ++ ParseStep.shift w ∷ []
  base_onto (on ws) out = among_onto ws (out ++ ParseStep.on ∷ [])
  base_onto (off w) out = out ++ ParseStep.off w ∷ []
  base_onto (assign a more) out = assignments_onto more (assignment_onto a out)
  base_onto (compare l t r) out = expr_onto r (expr_onto l out) ++ ParseStep.compare t ∷ []
  base_onto (switch w) out = out ++ ParseStep.switch w ∷ []
  base_onto keeper out = out ++ ParseStep.keeper ∷ []
  base_onto (some_word s) out = sum_onto s out ++ ParseStep.some_word ∷ []
  base_onto (no_word s) out = sum_onto s out ++ ParseStep.no_word ∷ []
  base_onto (group s) out = sum_onto s out
