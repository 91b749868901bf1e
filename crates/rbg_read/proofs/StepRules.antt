-- The steps of a tree stand for the rules that the tree means.
use Rattle.std.proofs.Common.{◌≡◌, ℕ, List, [], ◌∷◌, ◌++◌, map, fold, Option, Some, None, refl, sym, ap, ◌∙◌}
use Rattle.std.proofs.lemmas.List.{append_assoc, append-nil}
use Rattle.rbg_text.specs.Token.{Text}
use Rattle.rbg_text.specs.Syntax as g
use Rattle.rbg_text.specs.Syntax.{Expr, Assignment, Sum, Concat, Element, Base}
use Rattle.rbg_text.specs.Parse.{ParseStep}
use Rattle.rbg_text.specs.Postfix.{expr_onto, term_onto, factor_onto, atom_onto, among_onto, assignment_onto, assignments_onto, sum_onto, concat_onto, element_onto, base_onto}
use Rattle.rbg_game.specs.Rules.{Regex, Action}
use Rattle.rbg_read.specs.Means.{Names, values_of, index_of, expression, product_expression, factor_expression, atom_expression, sum_rules, concat_rules, element_rules, base_rules}
use Rattle.rbg_read.specs.Means as means
use Rattle.rbg_read.specs.lemmas.Parts.{Known}
use Rattle.rbg_read.specs.lemmas.Resolve.{Stack, empty_stack, push_expression, push_rules, push_action, finished_set, finished, performed, after_step, first_rules, resolved}
use Rattle.rbg_read.proofs.StepTests.{known_from}
use Rattle.rbg_read.proofs.StepSizes.{fold_push}

-- ---- a finished set

closed_by : (set : Option (List ℕ)) (s : Stack) → s.set ≡ set → (finished_set set s).set ≡ None
closed_by None s is = is
closed_by (Some pieces) s is = refl

closed : (s : Stack) → (finished s).set ≡ None
closed s = closed_by s.set s refl

finished_once : (s : Stack) → s.set ≡ None → finished s ≡ s
finished_once s none = ap (λ set. finished_set set s) none

module _ (names : Names) where
  abbrev known : Known
  known = known_from names

  abbrev run : List ParseStep → Stack
  run steps = fold (after_step known) empty_stack steps

  -- the stack after some steps
  abbrev after : List ParseStep → Stack
  after steps = finished (run steps)

  push : (xs : List ParseStep) (x : ParseStep) → run (xs ++ x ∷ []) ≡ after_step known (run xs) x
  push xs x = fold_push (after_step known) empty_stack xs x

  -- a step that begins no set
  one : (xs : List ParseStep) (x : ParseStep) (s : Stack) → after_step known (run xs) x ≡ performed known x (after xs)
      → ((s : Stack) → (performed known x s).set ≡ s.set) → after xs ≡ s → after (xs ++ x ∷ []) ≡ performed known x s
  one xs x s is keeps before =
      ap finished (push xs x ∙ is) ∙ finished_once (performed known x (after xs)) (keeps (after xs) ∙ closed (run xs)) ∙ ap (performed known x) before

  -- ---- expressions

  mutual
    in_expr : (e : Expr) (out : List ParseStep) → after (expr_onto e out) ≡ push_expression (expression names e) (after out)
    in_expr (g.sum_of t) out = in_term t out
    in_expr (g.plus e t) out =
        one (term_onto t (expr_onto e out)) ParseStep.add _ refl (λ s. refl)
        (in_term t (expr_onto e out) ∙ ap (push_expression (product_expression names t)) (in_expr e out))
    in_expr (g.minus e t) out =
        one (term_onto t (expr_onto e out)) ParseStep.subtract _ refl (λ s. refl)
        (in_term t (expr_onto e out) ∙ ap (push_expression (product_expression names t)) (in_expr e out))

    in_term : (t : g.Term) (out : List ParseStep) → after (term_onto t out) ≡ push_expression (product_expression names t) (after out)
    in_term (g.product_of f) out = in_factor f out
    in_term (g.times t f) out =
        one (factor_onto f (term_onto t out)) ParseStep.multiply _ refl (λ s. refl)
        (in_factor f (term_onto t out) ∙ ap (push_expression (factor_expression names f)) (in_term t out))

    in_factor : (f : g.Factor) (out : List ParseStep) → after (factor_onto f out) ≡ push_expression (factor_expression names f) (after out)
    in_factor (g.positive a) out = in_atom a out
    in_factor (g.negative a) out = one (atom_onto a out) ParseStep.negate _ refl (λ s. refl) (in_atom a out)

    in_atom : (a : g.Atom) (out : List ParseStep) → after (atom_onto a out) ≡ push_expression (atom_expression names a) (after out)
    in_atom (g.literal n) out = one out (ParseStep.number n) _ refl (λ s. refl) refl
    in_atom (g.Atom.variable v) out = one out (ParseStep.variable v) _ refl (λ s. refl) refl
    in_atom (g.parenthesized e) out = in_expr e out

  -- ---- sets

  abbrev with_set : List ℕ → Stack → Stack
  with_set pieces s = record s { set = Some pieces }

  amongs : (ws : List Text) (out : List ParseStep) (pieces : List ℕ) (s : Stack) → run out ≡ with_set pieces s
      → run (among_onto ws out) ≡ with_set (pieces ++ map (index_of names.pieces) ws) s
  amongs [] out pieces s is = is ∙ ap (λ ps. with_set ps s) (sym (append-nil pieces))
  amongs (w ∷ ws) out pieces s is =
      amongs ws (out ++ ParseStep.among w ∷ []) (pieces ++ index_of names.pieces w ∷ []) s
      (push out (ParseStep.among w) ∙ ap (λ t. after_step known t (ParseStep.among w)) is)
      ∙ ap (λ ps. with_set ps s) (append_assoc pieces (index_of names.pieces w ∷ []) (map (index_of names.pieces) ws))

  set : (ws : List Text) (out : List ParseStep) → after (among_onto ws (out ++ ParseStep.on ∷ [])) ≡ push_action
      (Action.on (map (index_of names.pieces) ws)) (after out)
  set ws out =
      ap finished (amongs ws (out ++ ParseStep.on ∷ []) [] (after out) (push out ParseStep.on))
      ∙ (λ i. push_action (Action.on (map (index_of names.pieces) ws)) (record (after out) { set = sym (closed (run out)) i }))

  -- ---- assignments

  assignment : (a : Assignment) (out : List ParseStep) → after (assignment_onto a out) ≡ push_rules (means.assignment names a) (after out)
  assignment a out = one (expr_onto a.value out) (ParseStep.assign a.target) _ refl (λ s. refl) (in_expr a.value out)

  assignments : (more : List Assignment) (out : List ParseStep) (r : Regex) (s : Stack) → after out ≡ push_rules r s
      → after (assignments_onto more out) ≡ push_rules (fold Regex.cat r (map (means.assignment names) more)) s
  assignments [] out r s is = is
  assignments (a ∷ more) out r s is =
      assignments more (assignment_onto a out ++ ParseStep.join ∷ []) (Regex.cat r (means.assignment names a)) s
      (one (assignment_onto a out) ParseStep.join _ refl (λ s. refl) (assignment a out ∙ ap (push_rules (means.assignment names a)) is))

  -- ---- rules

  mutual
    in_sum : (s : Sum) (out : List ParseStep) → after (sum_onto s out) ≡ push_rules (sum_rules names s) (after out)
    in_sum (g.branch c) out = in_concat c out
    in_sum (g.either s c) out =
        one (concat_onto c (sum_onto s out)) ParseStep.either _ refl (λ s. refl)
        (in_concat c (sum_onto s out) ∙ ap (push_rules (concat_rules names c)) (in_sum s out))

    in_concat : (c : Concat) (out : List ParseStep) → after (concat_onto c out) ≡ push_rules (concat_rules names c) (after out)
    in_concat (g.single e) out = in_element e out
    in_concat (g.followed c e) out =
        one (element_onto e (concat_onto c out)) ParseStep.join _ refl (λ s. refl)
        (in_element e (concat_onto c out) ∙ ap (push_rules (element_rules names e)) (in_concat c out))

    in_element : (e : Element) (out : List ParseStep) → after (element_onto e out) ≡ push_rules (element_rules names e) (after out)
    in_element (g.once b) out = in_base b out
    in_element (g.star b) out = one (base_onto b out) ParseStep.star _ refl (λ s. refl) (in_base b out)

    in_base : (b : Base) (out : List ParseStep) → after (base_onto b out) ≡ push_rules (base_rules names b) (after out)
    in_base (g.shift w) out = one out (ParseStep.shift w) _ refl (λ s. refl) refl
    in_base (g.on ws) out = set ws out
    in_base (g.off w) out = one out (ParseStep.off w) _ refl (λ s. refl) refl
    in_base (g.assign a more) out = assignments more (assignment_onto a out) (means.assignment names a) (after out) (assignment a out)
    in_base (g.compare a t b) out =
        one (expr_onto b (expr_onto a out)) (ParseStep.compare t) _ refl (λ s. refl)
        (in_expr b (expr_onto a out) ∙ ap (push_expression (expression names b)) (in_expr a out))
    in_base (g.switch w) out = one out (ParseStep.switch w) _ refl (λ s. refl) refl
    in_base g.keeper out = one out ParseStep.keeper _ refl (λ s. refl) refl
    in_base (g.some_word s) out = one (sum_onto s out) ParseStep.some_word _ refl (λ s. refl) (in_sum s out)
    in_base (g.no_word s) out = one (sum_onto s out) ParseStep.no_word _ refl (λ s. refl) (in_sum s out)
    in_base (g.group s) out = in_sum s out

  pub resolved_is : (s : Sum) → resolved known (sum_onto s []) ≡ sum_rules names s
  unfolding resolved
  resolved_is s = ap (λ t. first_rules t.rules) (in_sum s [])
