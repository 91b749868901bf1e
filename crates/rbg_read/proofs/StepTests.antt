-- A test of steps finds something in the steps of a tree where a test of actions finds it in the tree.
use Rattle.std.proofs.Common.{◌≡◌, Bool, true, false, ◌||◌, List, [], ◌∷◌, ◌++◌, length, map, ◌+◌, cond, zero-add, refl, sym, ap, ◌∙◌, arith}
use Rattle.std.specs.Prelude.{count_by}
use Rattle.std.specs.List.{list_any, flat_map, sum_by}
use Rattle.std.proofs.lemmas.List.Folds.{list_any-append}
use Rattle.std.proofs.lemmas.List.Sums.{sum_by-append, sum_by-cons}
use Rattle.rbg_text.specs.Token.{Text}
use Rattle.rbg_text.specs.Syntax as g
use Rattle.rbg_text.specs.Syntax.{Expr, Assignment, Sum, Concat, Element, Base}
use Rattle.rbg_text.specs.Parse.{ParseStep}
use Rattle.rbg_text.specs.Postfix.{expr_onto, term_onto, factor_onto, atom_onto, among_onto, assignment_onto, assignments_onto, sum_onto, concat_onto, element_onto, base_onto}
use Rattle.rbg_game.specs.declared.rules.Comparison.{Comparison}
use Rattle.rbg_read.specs.Means.{Names, values_of}
use Rattle.rbg_read.specs.Causes.{names_in, names_in_term, names_in_factor, names_in_atom, literals_in, literals_in_term, literals_in_factor, literals_in_atom, actions_in, actions_in_concat, actions_in_element, actions_in_base, expressions_of, is_unknown, uses_unknown_value, action_uses_unknown, is_too_large, action_count}
use Rattle.rbg_read.specs.lemmas.Flat.{step_uses_unknown, is_large_number, is_action}
use Rattle.rbg_read.specs.lemmas.Parts.{Known}
use Rattle.rbg_read.proofs.Lists.{any_map}

-- ---- tests

pub or_false : (b : Bool) → (b || false) ≡ b
or_false true = refl
or_false false = refl

or_assoc : (a b c : Bool) → ((a || b) || c) ≡ (a || (b || c))
or_assoc true b c = refl
or_assoc false b c = refl

or_comm : (a b : Bool) → (a || b) ≡ (b || a)
or_comm true true = refl
or_comm true false = refl
or_comm false true = refl
or_comm false false = refl

any_push : {X : Type 0} (p : X → Bool) (xs : List X) (x : X) → list_any p (xs ++ x ∷ []) ≡ (list_any p xs || p x)
any_push p xs x = list_any-append p xs (x ∷ []) ∙ ap (λ b. list_any p xs || b) (or_false (p x))

-- one step more, which the test passes over
any_past : {X : Type 0} (p : X → Bool) (xs : List X) (x : X) (b : Bool) → p x ≡ false → list_any p xs ≡ b → list_any p (xs ++ x ∷ []) ≡ b
any_past p xs x b none is = any_push p xs x ∙ ap (λ c. list_any p xs || c) none ∙ or_false (list_any p xs) ∙ is

-- one part after another
two : (o a b x y w : Bool) → x ≡ (y || b) → y ≡ (o || a) → w ≡ (a || b) → x ≡ (o || w)
two o a b x y w first second whole = first ∙ ap (λ c. c || b) second ∙ or_assoc o a b ∙ ap (λ c. o || c) (sym whole)

-- ---- rules, given how expressions and single actions are tested

pub record Tests (p : ParseStep → Bool) (q : Base → Bool) (r : Expr → Bool) : Type 0 where
  pub expressions : (e : Expr) (out : List ParseStep) → list_any p (expr_onto e out) ≡ (list_any p out || r e)
  pub join : p ParseStep.join ≡ false
  pub either : p ParseStep.either ≡ false
  pub star : p ParseStep.star ≡ false
  pub on : p ParseStep.on ≡ false
  pub compares : (t : Comparison) → p (ParseStep.compare t) ≡ false
  pub shifts : (w : Text) → q (g.shift w) ≡ p (ParseStep.shift w)
  pub sets : (ws : List Text) → q (g.on ws) ≡ list_any (λ w. p (ParseStep.among w)) ws
  pub offs : (w : Text) → q (g.off w) ≡ p (ParseStep.off w)
  pub assigns : (a : Assignment) (more : List Assignment) → q (g.assign a more) ≡ list_any (λ a. p (ParseStep.assign a.target) || r a.value) (a ∷ more)
  pub comparisons : (a : Expr) (t : Comparison) (b : Expr) → q (g.compare a t b) ≡ (r a || r b)
  pub switches : (w : Text) → q (g.switch w) ≡ p (ParseStep.switch w)
  pub keepers : q g.keeper ≡ p ParseStep.keeper
  pub some_words : (s : Sum) → q (g.some_word s) ≡ false
  pub no_words : (s : Sum) → q (g.no_word s) ≡ false
  pub some_word : p ParseStep.some_word ≡ false
  pub no_word : p ParseStep.no_word ≡ false

module _ (p : ParseStep → Bool) (q : Base → Bool) (r : Expr → Bool) (tests : Tests p q r) where
  amongs : (ws : List Text) (out : List ParseStep) → list_any p (among_onto ws out) ≡ (list_any p out || list_any (λ w. p (ParseStep.among w)) ws)
  amongs [] out = sym (or_false (list_any p out))
  amongs (w ∷ ws) out =
      two (list_any p out) (p (ParseStep.among w)) (list_any (λ w. p (ParseStep.among w)) ws) _ _ _
      (amongs ws (out ++ ParseStep.among w ∷ [])) (any_push p out (ParseStep.among w)) refl

  assignment : (a : Assignment) (out : List ParseStep) → list_any p (assignment_onto a out) ≡ (list_any p out || (p (ParseStep.assign a.target) || r a.value))
  assignment a out =
      two (list_any p out) (r a.value) (p (ParseStep.assign a.target)) _ _ _
      (any_push p (expr_onto a.value out) (ParseStep.assign a.target)) (tests.expressions a.value out) (or_comm (p (ParseStep.assign a.target)) (r a.value))

  assignments : (more : List Assignment) (out : List ParseStep)
      → list_any p (assignments_onto more out) ≡ (list_any p out || list_any (λ a. p (ParseStep.assign a.target) || r a.value) more)
  assignments [] out = sym (or_false (list_any p out))
  assignments (a ∷ more) out =
      two (list_any p out) (p (ParseStep.assign a.target) || r a.value) (list_any (λ a. p (ParseStep.assign a.target) || r a.value) more) _ _ _
      (assignments more (assignment_onto a out ++ ParseStep.join ∷ []))
      (any_past p (assignment_onto a out) ParseStep.join _ tests.join (assignment a out))
      refl

  -- one action alone
  alone : (b : Base) (x o c : Bool) → x ≡ (o || c) → q b ≡ c → x ≡ (o || (q b || false))
  alone b x o c is same = is ∙ ap (λ d. o || d) (sym same ∙ sym (or_false (q b)))

  mutual
    pub any_in : (s : Sum) (out : List ParseStep) → list_any p (sum_onto s out) ≡ (list_any p out || list_any q (actions_in s))
    any_in (g.branch c) out = any_in_concat c out
    any_in (g.either s c) out =
        any_past p (concat_onto c (sum_onto s out)) ParseStep.either _ tests.either
        (two (list_any p out) (list_any q (actions_in s)) (list_any q (actions_in_concat c)) _ _ _ (any_in_concat c (sum_onto s out))
        (any_in s out) (list_any-append q (actions_in s) (actions_in_concat c)))

    any_in_concat : (c : Concat) (out : List ParseStep) → list_any p (concat_onto c out) ≡ (list_any p out || list_any q (actions_in_concat c))
    any_in_concat (g.single e) out = any_in_element e out
    any_in_concat (g.followed c e) out =
        any_past p (element_onto e (concat_onto c out)) ParseStep.join _ tests.join
        (two (list_any p out) (list_any q (actions_in_concat c)) (list_any q (actions_in_element e)) _ _ _
        (any_in_element e (concat_onto c out)) (any_in_concat c out) (list_any-append q (actions_in_concat c) (actions_in_element e)))

    any_in_element : (e : Element) (out : List ParseStep) → list_any p (element_onto e out) ≡ (list_any p out || list_any q (actions_in_element e))
    any_in_element (g.once b) out = any_in_base b out
    any_in_element (g.star b) out = any_past p (base_onto b out) ParseStep.star _ tests.star (any_in_base b out)

    any_in_base : (b : Base) (out : List ParseStep) → list_any p (base_onto b out) ≡ (list_any p out || list_any q (actions_in_base b))
    any_in_base (g.shift w) out = alone (g.shift w) _ (list_any p out) _ (any_push p out (ParseStep.shift w)) (tests.shifts w)
    any_in_base (g.on ws) out =
        alone (g.on ws) _ (list_any p out) _
        (amongs ws (out ++ ParseStep.on ∷ []) ∙ ap (λ c. c || list_any (λ w. p (ParseStep.among w)) ws) (any_past p out ParseStep.on _ tests.on refl))
        (tests.sets ws)
    any_in_base (g.off w) out = alone (g.off w) _ (list_any p out) _ (any_push p out (ParseStep.off w)) (tests.offs w)
    any_in_base (g.assign a more) out =
        alone (g.assign a more) _ (list_any p out) _
        (two (list_any p out) (p (ParseStep.assign a.target) || r a.value)
        (list_any (λ a. p (ParseStep.assign a.target) || r a.value) more) _ _ _ (assignments more (assignment_onto a out)) (assignment a out) refl)
        (tests.assigns a more)
    any_in_base (g.compare a t b) out =
        alone (g.compare a t b) _ (list_any p out) _
        (any_past p (expr_onto b (expr_onto a out)) (ParseStep.compare t) _ (tests.compares t)
        (two (list_any p out) (r a) (r b) _ _ _ (tests.expressions b (expr_onto a out)) (tests.expressions a out) refl))
        (tests.comparisons a t b)
    any_in_base (g.switch w) out = alone (g.switch w) _ (list_any p out) _ (any_push p out (ParseStep.switch w)) (tests.switches w)
    any_in_base g.keeper out = alone g.keeper _ (list_any p out) _ (any_push p out ParseStep.keeper) tests.keepers
    any_in_base (g.some_word s) out =
        any_past p (sum_onto s out) ParseStep.some_word _ tests.some_word (any_in s out)
        ∙ ap (λ c. list_any p out || (c || list_any q (actions_in s))) (sym (tests.some_words s))
    any_in_base (g.no_word s) out =
        any_past p (sum_onto s out) ParseStep.no_word _ tests.no_word (any_in s out)
        ∙ ap (λ c. list_any p out || (c || list_any q (actions_in s))) (sym (tests.no_words s))
    any_in_base (g.group s) out = any_in s out

-- ---- names

-- the names of a tree, by what they name
abbrev pub known_from : Names → Known
known_from names = record { players = names.players; values = values_of names; pieces = names.pieces; vertices = names.vertices; labels = names.labels }

module _ (names : Names) where
  abbrev p : ParseStep → Bool
  p = step_uses_unknown (known_from names)

  abbrev unknown : Text → Bool
  unknown = is_unknown (values_of names)

  mutual
    in_expr : (e : Expr) (out : List ParseStep) → list_any p (expr_onto e out) ≡ (list_any p out || list_any unknown (names_in e))
    in_expr (g.sum_of t) out = in_term t out
    in_expr (g.plus e t) out =
        any_past p (term_onto t (expr_onto e out)) ParseStep.add _ refl
        (two (list_any p out) (list_any unknown (names_in e)) (list_any unknown (names_in_term t)) _ _ _ (in_term t (expr_onto e out))
        (in_expr e out) (list_any-append unknown (names_in e) (names_in_term t)))
    in_expr (g.minus e t) out =
        any_past p (term_onto t (expr_onto e out)) ParseStep.subtract _ refl
        (two (list_any p out) (list_any unknown (names_in e)) (list_any unknown (names_in_term t)) _ _ _ (in_term t (expr_onto e out))
        (in_expr e out) (list_any-append unknown (names_in e) (names_in_term t)))

    in_term : (t : g.Term) (out : List ParseStep) → list_any p (term_onto t out) ≡ (list_any p out || list_any unknown (names_in_term t))
    in_term (g.product_of f) out = in_factor f out
    in_term (g.times t f) out =
        any_past p (factor_onto f (term_onto t out)) ParseStep.multiply _ refl
        (two (list_any p out) (list_any unknown (names_in_term t)) (list_any unknown (names_in_factor f)) _ _ _
        (in_factor f (term_onto t out)) (in_term t out) (list_any-append unknown (names_in_term t) (names_in_factor f)))

    in_factor : (f : g.Factor) (out : List ParseStep) → list_any p (factor_onto f out) ≡ (list_any p out || list_any unknown (names_in_factor f))
    in_factor (g.positive a) out = in_atom a out
    in_factor (g.negative a) out = any_past p (atom_onto a out) ParseStep.negate _ refl (in_atom a out)

    in_atom : (a : g.Atom) (out : List ParseStep) → list_any p (atom_onto a out) ≡ (list_any p out || list_any unknown (names_in_atom a))
    in_atom (g.literal n) out = any_past p out (ParseStep.number n) _ refl (sym (or_false (list_any p out)))
    in_atom (g.Atom.variable v) out = any_push p out (ParseStep.variable v) ∙ ap (λ c. list_any p out || c) (sym (or_false (is_unknown (values_of names) v)))
    in_atom (g.parenthesized e) out = in_expr e out

  names_tested : Tests p (action_uses_unknown names) (uses_unknown_value names)
  names_tested = record {
    expressions = in_expr;
    join = refl;
    either = refl;
    star = refl;
    on = refl;
    compares = λ t. refl;
    shifts = λ w. refl;
    sets = λ ws. refl;
    offs = λ w. refl;
    assigns = λ a more. refl;
    comparisons = λ a t b. refl;
    switches = λ w. refl;
    keepers = refl;
    some_words = λ s. refl;
    no_words = λ s. refl;
    some_word = refl;
    no_word = refl;
  }

  -- an unknown name in the steps is one in the tree
  pub unknown_names : (s : Sum) → list_any (step_uses_unknown (known_from names)) (sum_onto s []) ≡ list_any (action_uses_unknown names) (actions_in s)
  unknown_names s = any_in p (action_uses_unknown names) (uses_unknown_value names) names_tested s []

-- ---- numbers

large_values : Expr → Bool
large_values e = list_any is_too_large (literals_in e)

large_in : Base → Bool
large_in b = list_any (λ e. list_any is_too_large (literals_in e)) (expressions_of b)

mutual
  num_expr : (e : Expr) (out : List ParseStep) → list_any is_large_number (expr_onto e out) ≡
      (list_any is_large_number out || list_any is_too_large (literals_in e))
  num_expr (g.sum_of t) out = num_term t out
  num_expr (g.plus e t) out =
      any_past is_large_number (term_onto t (expr_onto e out)) ParseStep.add _ refl
      (two (list_any is_large_number out) (list_any is_too_large (literals_in e)) (list_any is_too_large (literals_in_term t)) _ _ _
      (num_term t (expr_onto e out)) (num_expr e out) (list_any-append is_too_large (literals_in e) (literals_in_term t)))
  num_expr (g.minus e t) out =
      any_past is_large_number (term_onto t (expr_onto e out)) ParseStep.subtract _ refl
      (two (list_any is_large_number out) (list_any is_too_large (literals_in e)) (list_any is_too_large (literals_in_term t)) _ _ _
      (num_term t (expr_onto e out)) (num_expr e out) (list_any-append is_too_large (literals_in e) (literals_in_term t)))

  num_term : (t : g.Term) (out : List ParseStep) → list_any is_large_number (term_onto t out) ≡
      (list_any is_large_number out || list_any is_too_large (literals_in_term t))
  num_term (g.product_of f) out = num_factor f out
  num_term (g.times t f) out =
      any_past is_large_number (factor_onto f (term_onto t out)) ParseStep.multiply _ refl
      (two (list_any is_large_number out) (list_any is_too_large (literals_in_term t)) (list_any is_too_large (literals_in_factor f)) _ _ _
      (num_factor f (term_onto t out)) (num_term t out) (list_any-append is_too_large (literals_in_term t) (literals_in_factor f)))

  num_factor : (f : g.Factor) (out : List ParseStep) → list_any is_large_number (factor_onto f out) ≡
      (list_any is_large_number out || list_any is_too_large (literals_in_factor f))
  num_factor (g.positive a) out = num_atom a out
  num_factor (g.negative a) out = any_past is_large_number (atom_onto a out) ParseStep.negate _ refl (num_atom a out)

  num_atom : (a : g.Atom) (out : List ParseStep) → list_any is_large_number (atom_onto a out) ≡
      (list_any is_large_number out || list_any is_too_large (literals_in_atom a))
  num_atom (g.literal n) out = any_push is_large_number out (ParseStep.number n) ∙ ap (λ c. list_any is_large_number out || c) (sym (or_false (is_too_large n)))
  num_atom (g.Atom.variable v) out = any_past is_large_number out (ParseStep.variable v) _ refl (sym (or_false (list_any is_large_number out)))
  num_atom (g.parenthesized e) out = num_expr e out

none_large : (ws : List Text) → false ≡ list_any (λ w. is_large_number (ParseStep.among w)) ws
none_large [] = refl
none_large (w ∷ ws) = none_large ws

large_assigned : (more : List Assignment) → list_any (λ e. list_any is_too_large (literals_in e)) (map (λ a. a.value) more) ≡ list_any
    (λ a. is_large_number (ParseStep.assign a.target) || list_any is_too_large (literals_in a.value)) more
large_assigned more = any_map (λ e. list_any is_too_large (literals_in e)) (λ a. a.value) more

numbers_tested : Tests is_large_number large_in large_values
unfolding large_in large_values
numbers_tested = record {
  expressions = num_expr;
  join = refl;
  either = refl;
  star = refl;
  on = refl;
  compares = λ t. refl;
  shifts = λ w. refl;
  sets = none_large;
  offs = λ w. refl;
  assigns = λ a more. large_assigned (a ∷ more);
  comparisons = λ a t b. ap (λ c. list_any is_too_large (literals_in a) || c) (or_false (list_any is_too_large (literals_in b)));
  switches = λ w. refl;
  keepers = refl;
  some_words = λ s. refl;
  no_words = λ s. refl;
  some_word = refl;
  no_word = refl;
}

pub any_flat : {X Y : Type 0} (p : Y → Bool) (f : X → List Y) (xs : List X) → list_any p (flat_map f xs) ≡ list_any (λ x. list_any p (f x)) xs
any_flat p f [] = refl
any_flat p f (x ∷ xs) = list_any-append p (f x) (flat_map f xs) ∙ ap (λ b. list_any p (f x) || b) (any_flat p f xs)

-- a large number in the steps is one in the tree
pub large_numbers : (s : Sum) → list_any is_large_number (sum_onto s []) ≡ list_any (λ e. list_any is_too_large (literals_in e))
    (flat_map expressions_of (actions_in s))
unfolding large_in large_values
large_numbers s =
    any_in is_large_number large_in large_values numbers_tested s []
    ∙ sym (any_flat (λ e. list_any is_too_large (literals_in e)) expressions_of (actions_in s))

-- ---- how many actions

count_push : (xs : List ParseStep) (x : ParseStep) → count_by is_action (xs ++ x ∷ []) ≡ count_by is_action xs + cond (is_action x) 1 0
count_push xs x = sum_by-append (λ t. cond (is_action t) 1 0) xs (x ∷ []) ∙ ap (λ n. count_by is_action xs + n) (zero-add (cond (is_action x) 1 0))

mutual
  count_expr : (e : Expr) (out : List ParseStep) → count_by is_action (expr_onto e out) ≡ count_by is_action out
  count_expr (g.sum_of t) out = count_term t out
  count_expr (g.plus e t) out = omega (arith, count_push (term_onto t (expr_onto e out)) ParseStep.add, count_term t (expr_onto e out), count_expr e out)
  count_expr (g.minus e t) out = omega (arith, count_push (term_onto t (expr_onto e out)) ParseStep.subtract, count_term t (expr_onto e out), count_expr e out)

  count_term : (t : g.Term) (out : List ParseStep) → count_by is_action (term_onto t out) ≡ count_by is_action out
  count_term (g.product_of f) out = count_factor f out
  count_term (g.times t f) out = omega
      (arith, count_push (factor_onto f (term_onto t out)) ParseStep.multiply, count_factor f (term_onto t out), count_term t out)

  count_factor : (f : g.Factor) (out : List ParseStep) → count_by is_action (factor_onto f out) ≡ count_by is_action out
  count_factor (g.positive a) out = count_atom a out
  count_factor (g.negative a) out = omega (arith, count_push (atom_onto a out) ParseStep.negate, count_atom a out)

  count_atom : (a : g.Atom) (out : List ParseStep) → count_by is_action (atom_onto a out) ≡ count_by is_action out
  count_atom (g.literal n) out = omega (arith, count_push out (ParseStep.number n))
  count_atom (g.Atom.variable v) out = omega (arith, count_push out (ParseStep.variable v))
  count_atom (g.parenthesized e) out = count_expr e out

count_amongs : (ws : List Text) (out : List ParseStep) → count_by is_action (among_onto ws out) ≡ count_by is_action out
count_amongs [] out = refl
count_amongs (w ∷ ws) out = omega (arith, count_amongs ws (out ++ ParseStep.among w ∷ []), count_push out (ParseStep.among w))

count_assignment : (a : Assignment) (out : List ParseStep) → count_by is_action (assignment_onto a out) ≡ count_by is_action out + 1
count_assignment a out = omega (arith, count_push (expr_onto a.value out) (ParseStep.assign a.target), count_expr a.value out)

count_assignments : (more : List Assignment) (out : List ParseStep) → count_by is_action (assignments_onto more out) ≡ count_by is_action out + length more
count_assignments [] out = omega arith
count_assignments (a ∷ more) out =
    omega (
      arith,
      count_assignments more (assignment_onto a out ++ ParseStep.join ∷ []),
      count_push (assignment_onto a out) ParseStep.join,
      count_assignment a out,
    )

mutual
  pub count_in : (s : Sum) (out : List ParseStep) → count_by is_action (sum_onto s out) ≡ count_by is_action out + sum_by action_count (actions_in s)
  count_in (g.branch c) out = count_in_concat c out
  count_in (g.either s c) out =
      omega (
        arith,
        count_push (concat_onto c (sum_onto s out)) ParseStep.either,
        count_in_concat c (sum_onto s out),
        count_in s out,
        sum_by-append action_count (actions_in s) (actions_in_concat c),
      )

  count_in_concat : (c : Concat) (out : List ParseStep) → count_by is_action
      (concat_onto c out) ≡ count_by is_action out + sum_by action_count (actions_in_concat c)
  count_in_concat (g.single e) out = count_in_element e out
  count_in_concat (g.followed c e) out =
      omega (
        arith,
        count_push (element_onto e (concat_onto c out)) ParseStep.join,
        count_in_element e (concat_onto c out),
        count_in_concat c out,
        sum_by-append action_count (actions_in_concat c) (actions_in_element e),
      )

  count_in_element : (e : Element) (out : List ParseStep) → count_by is_action
      (element_onto e out) ≡ count_by is_action out + sum_by action_count (actions_in_element e)
  count_in_element (g.once b) out = count_in_base b out
  count_in_element (g.star b) out = omega (arith, count_push (base_onto b out) ParseStep.star, count_in_base b out)

  count_in_base : (b : Base) (out : List ParseStep) → count_by is_action (base_onto b out) ≡ count_by is_action out + sum_by action_count (actions_in_base b)
  count_in_base (g.shift w) out = omega (arith, count_push out (ParseStep.shift w))
  count_in_base (g.on ws) out = omega (arith, count_amongs ws (out ++ ParseStep.on ∷ []), count_push out ParseStep.on)
  count_in_base (g.off w) out = omega (arith, count_push out (ParseStep.off w))
  count_in_base (g.assign a more) out = omega (arith, count_assignments more (assignment_onto a out), count_assignment a out)
  count_in_base (g.compare a t b) out =
      omega (arith, count_push (expr_onto b (expr_onto a out)) (ParseStep.compare t), count_expr b (expr_onto a out), count_expr a out)
  count_in_base (g.switch w) out = omega (arith, count_push out (ParseStep.switch w))
  count_in_base g.keeper out = omega (arith, count_push out ParseStep.keeper)
  count_in_base (g.some_word s) out = omega
      (arith, count_push (sum_onto s out) ParseStep.some_word, count_in s out, sum_by-cons action_count (g.some_word s) (actions_in s))
  count_in_base (g.no_word s) out = omega
      (arith, count_push (sum_onto s out) ParseStep.no_word, count_in s out, sum_by-cons action_count (g.no_word s) (actions_in s))
  count_in_base (g.group s) out = count_in s out
