-- How deep the brackets of expressions and rules nest.
use Rattle.std.specs.Prelude.{ℕ, suc, max, List, [], ◌∷◌}
use Rattle.rbg_text.specs.Syntax.{Expr, sum_of, plus, minus, Term, product_of, times, Factor, positive, negative, Atom, literal}
use Rattle.rbg_text.specs.Syntax.{parenthesized, Assignment, Sum, branch, either, Concat, single, followed, Element, once, star, Base}
use Rattle.rbg_text.specs.Syntax.{shift, on, off, assign, compare, switch, keeper, some_word, no_word, group}

-- how deep the parentheses nest
abbrev mutual
  pub expr_depth : Expr → ℕ
  expr_depth (sum_of t) = term_depth t
  expr_depth (plus e t) = max (expr_depth e) (term_depth t)
  expr_depth (minus e t) = max (expr_depth e) (term_depth t)

  pub term_depth : Term → ℕ
  term_depth (product_of f) = factor_depth f
  term_depth (times t f) = max (term_depth t) (factor_depth f)

  pub factor_depth : Factor → ℕ
  factor_depth (positive a) = atom_depth a
  factor_depth (negative a) = atom_depth a

  pub atom_depth : Atom → ℕ
  atom_depth (literal n) = 0
  atom_depth (Atom.variable v) = 0
  atom_depth (parenthesized e) = suc (expr_depth e)

abbrev pub assignments_depth : List Assignment → ℕ
assignments_depth [] = 0
assignments_depth (a ∷ more) = max (expr_depth a.value) (assignments_depth more)

-- how deep brackets nest
abbrev mutual
  pub sum_depth : Sum → ℕ
  sum_depth (branch c) = concat_depth c
  sum_depth (either s c) = max (sum_depth s) (concat_depth c)

  pub concat_depth : Concat → ℕ
  concat_depth (single e) = element_depth e
  concat_depth (followed c e) = max (concat_depth c) (element_depth e)

  pub element_depth : Element → ℕ
  element_depth (once b) = base_depth b
  element_depth (star b) = base_depth b

  pub base_depth : Base → ℕ
  base_depth (shift w) = 0
  base_depth (on ws) = 1
  base_depth (off w) = 1
  base_depth (assign a more) = suc (assignments_depth (a ∷ more))
  base_depth (compare l t r) = suc (max (expr_depth l) (expr_depth r))
  base_depth (switch w) = 0
  base_depth keeper = 0
  base_depth (some_word s) = suc (sum_depth s)
  base_depth (no_word s) = suc (sum_depth s)
  base_depth (group s) = suc (sum_depth s)
