-- The stack of sizes over the steps of a tree passes the limit where the tree has a part that does.
use Rattle.std.proofs.Common.{◌≡◌, ℕ, ◌+◌, ◌*◌, Bool, true, false, not, is_some, ◌||◌, nat_lt, List, [], ◌∷◌, ◌++◌, map, fold, Option, Some, None, option_and_then, refl, sym, ap, ◌∙◌}
use Rattle.std.specs.Prelude.{if◌then◌else◌}
use Rattle.std.specs.List.{list_any, flat_map}
use Rattle.std.proofs.lemmas.List.Folds.{list_any-append}
use Rattle.std.proofs.lemmas.List.Concat.{flat_map-append}
use Rattle.std.proofs.lemmas.List.{append-nil}
use Rattle.rbg_text.specs.Token.{Text}
use Rattle.rbg_text.specs.Syntax as g
use Rattle.rbg_text.specs.Syntax.{Expr, Assignment, Sum, Concat, Element, Base}
use Rattle.rbg_text.specs.Parse.{ParseStep}
use Rattle.rbg_text.specs.Postfix.{expr_onto, term_onto, factor_onto, atom_onto, among_onto, assignment_onto, assignments_onto, sum_onto, concat_onto, element_onto, base_onto}
use Rattle.rbg_read.specs.Causes.{max_size, size, term_size, factor_size, atom_size, is_large, is_large_term, is_large_factor, is_large_atom, actions_in, actions_in_concat, actions_in_element, actions_in_base, expressions_of}
use Rattle.rbg_read.specs.lemmas.Sizes.{next_sizes, has_large_size}

pub fold_push : {X Y : Type 0} (f : Y → X → Y) (a : Y) (xs : List X) (x : X) → fold f a (xs ++ x ∷ []) ≡ f (fold f a xs) x
fold_push f a [] x = refl
fold_push f a (y ∷ ys) x = fold_push f (f a y) ys x

-- one size more, unless something is too large
abbrev grown : Bool → ℕ → Option (List ℕ) → Option (List ℕ)
grown large n o = option_and_then (λ s. if large then None else Some (n ∷ s)) o

-- the same sizes, unless something is too large
abbrev stopped : Bool → Option (List ℕ) → Option (List ℕ)
stopped large o = option_and_then (λ s. if large then None else Some s) o

stays : (o : Option (List ℕ)) → option_and_then (λ s. Some s) o ≡ o
stays (Some s) = refl
stays None = refl

unstopped : (o : Option (List ℕ)) → stopped false o ≡ o
unstopped (Some s) = refl
unstopped None = refl

stopped_twice : (a b : Bool) (o : Option (List ℕ)) → stopped b (stopped a o) ≡ stopped (a || b) o
stopped_twice true b (Some s) = refl
stopped_twice false b (Some s) = refl
stopped_twice a b None = refl

or_false : (b : Bool) → (b || false) ≡ b
or_false true = refl
or_false false = refl

module _ (values : List Text) (bounds : List ℕ) where
  abbrev next : Option (List ℕ) → ParseStep → Option (List ℕ)
  next = next_sizes values bounds

  added : (a b : Bool) (m n : ℕ) (o : Option (List ℕ)) → next (grown b n (grown a m o)) ParseStep.add ≡ grown ((a || b) || nat_lt max_size (m + n)) (m + n) o
  added true b m n (Some s) = refl
  added false true m n (Some s) = refl
  added false false m n (Some s) = refl
  added a b m n None = refl

  subtracted : (a b : Bool) (m n : ℕ) (o : Option (List ℕ)) → next (grown b n (grown a m o)) ParseStep.subtract ≡ grown
      ((a || b) || nat_lt max_size (m + n)) (m + n) o
  subtracted true b m n (Some s) = refl
  subtracted false true m n (Some s) = refl
  subtracted false false m n (Some s) = refl
  subtracted a b m n None = refl

  multiplied : (a b : Bool) (m n : ℕ) (o : Option (List ℕ)) → next (grown b n (grown a m o)) ParseStep.multiply ≡ grown
      ((a || b) || nat_lt max_size (m * n)) (m * n) o
  multiplied true b m n (Some s) = refl
  multiplied false true m n (Some s) = refl
  multiplied false false m n (Some s) = refl
  multiplied a b m n None = refl

  compared : (a b : Bool) (m n : ℕ) (t : _) (o : Option (List ℕ)) → next (grown b n (grown a m o)) (ParseStep.compare t) ≡ stopped (a || b) o
  compared true b m n t (Some s) = refl
  compared false true m n t (Some s) = refl
  compared false false m n t (Some s) = refl
  compared a b m n t None = refl

  assigned : (a : Bool) (m : ℕ) (w : Text) (o : Option (List ℕ)) → next (grown a m o) (ParseStep.assign w) ≡ stopped a o
  assigned true m w (Some s) = refl
  assigned false m w (Some s) = refl
  assigned a m w None = refl

  module _ (start : Option (List ℕ)) where
    abbrev run : List ParseStep → Option (List ℕ)
    run steps = fold next start steps

    push : (xs : List ParseStep) (x : ParseStep) → run (xs ++ x ∷ []) ≡ next (run xs) x
    push xs x = fold_push next start xs x

    mutual
      in_expr : (e : Expr) (out : List ParseStep) → run (expr_onto e out) ≡ grown (is_large values bounds e) (size values bounds e) (run out)
      in_expr (g.sum_of t) out = in_term t out
      in_expr (g.plus e t) out =
          push (term_onto t (expr_onto e out)) ParseStep.add
          ∙ ap (λ o. next o ParseStep.add)
          (in_term t (expr_onto e out) ∙ ap (grown (is_large_term values bounds t) (term_size values bounds t)) (in_expr e out))
          ∙ added (is_large values bounds e) (is_large_term values bounds t) (size values bounds e) (term_size values bounds t) (run out)
      in_expr (g.minus e t) out =
          push (term_onto t (expr_onto e out)) ParseStep.subtract
          ∙ ap (λ o. next o ParseStep.subtract)
          (in_term t (expr_onto e out) ∙ ap (grown (is_large_term values bounds t) (term_size values bounds t)) (in_expr e out))
          ∙ subtracted (is_large values bounds e) (is_large_term values bounds t) (size values bounds e) (term_size values bounds t) (run out)

      in_term : (t : g.Term) (out : List ParseStep) → run (term_onto t out) ≡ grown (is_large_term values bounds t) (term_size values bounds t) (run out)
      in_term (g.product_of f) out = in_factor f out
      in_term (g.times t f) out =
          push (factor_onto f (term_onto t out)) ParseStep.multiply
          ∙ ap (λ o. next o ParseStep.multiply)
          (in_factor f (term_onto t out) ∙ ap (grown (is_large_factor values bounds f) (factor_size values bounds f)) (in_term t out))
          ∙ multiplied (is_large_term values bounds t) (is_large_factor values bounds f) (term_size values bounds t) (factor_size values bounds f) (run out)

      in_factor : (f : g.Factor) (out : List ParseStep) → run (factor_onto f out) ≡ grown (is_large_factor values bounds f)
          (factor_size values bounds f) (run out)
      in_factor (g.positive a) out = in_atom a out
      in_factor (g.negative a) out = push (atom_onto a out) ParseStep.negate ∙ stays (run (atom_onto a out)) ∙ in_atom a out

      in_atom : (a : g.Atom) (out : List ParseStep) → run (atom_onto a out) ≡ grown (is_large_atom values bounds a) (atom_size values bounds a) (run out)
      in_atom (g.literal n) out = push out (ParseStep.number n)
      in_atom (g.Atom.variable v) out = push out (ParseStep.variable v)
      in_atom (g.parenthesized e) out = in_expr e out

    -- a step that leaves the sizes as they are
    past : (xs : List ParseStep) (x : ParseStep) (o : Option (List ℕ)) → next (run xs) x ≡ option_and_then (λ s. Some s) (run xs)
        → run xs ≡ o → run (xs ++ x ∷ []) ≡ o
    past xs x o same is = push xs x ∙ same ∙ stays (run xs) ∙ is

    amongs : (ws : List Text) (out : List ParseStep) → run (among_onto ws out) ≡ run out
    amongs [] out = refl
    amongs (w ∷ ws) out = amongs ws (out ++ ParseStep.among w ∷ []) ∙ past out (ParseStep.among w) (run out) refl refl

    assignment : (a : Assignment) (out : List ParseStep) → run (assignment_onto a out) ≡ stopped (is_large values bounds a.value) (run out)
    assignment a out =
        push (expr_onto a.value out) (ParseStep.assign a.target)
        ∙ ap (λ o. next o (ParseStep.assign a.target)) (in_expr a.value out)
        ∙ assigned (is_large values bounds a.value) (size values bounds a.value) a.target (run out)

    abbrev some_large : List Expr → Bool
    some_large es = list_any (is_large values bounds) es

    assignments : (more : List Assignment) (out : List ParseStep) → run (assignments_onto more out) ≡ stopped (some_large (map (λ a. a.value) more)) (run out)
    assignments [] out = sym (unstopped (run out))
    assignments (a ∷ more) out =
        assignments more (assignment_onto a out ++ ParseStep.join ∷ [])
        ∙ ap (stopped (some_large (map (λ a. a.value) more))) (past (assignment_onto a out) ParseStep.join _ refl (assignment a out))
        ∙ stopped_twice (is_large values bounds a.value) (some_large (map (λ a. a.value) more)) (run out)

    -- one part after another
    two : (bs cs : List Base) (o : Option (List ℕ)) → stopped (some_large (flat_map expressions_of cs))
        (stopped (some_large (flat_map expressions_of bs)) o) ≡ stopped (some_large (flat_map expressions_of (bs ++ cs))) o
    two bs cs o =
        stopped_twice (some_large (flat_map expressions_of bs)) (some_large (flat_map expressions_of cs)) o
        ∙ ap (λ b. stopped b o) (sym (ap some_large (flat_map-append expressions_of bs cs)
        ∙ list_any-append (is_large values bounds) (flat_map expressions_of bs) (flat_map expressions_of cs)))

    -- an action without an expression
    plain : (out : List ParseStep) (x : ParseStep) → next (run out) x ≡ option_and_then (λ s. Some s) (run out) → run (out ++ x ∷ []) ≡ stopped false (run out)
    plain out x same = past out x (run out) same refl ∙ sym (unstopped (run out))

    mutual
      pub in_sum : (s : Sum) (out : List ParseStep) → run (sum_onto s out) ≡ stopped (some_large (flat_map expressions_of (actions_in s))) (run out)
      in_sum (g.branch c) out = in_concat c out
      in_sum (g.either s c) out =
          past (concat_onto c (sum_onto s out)) ParseStep.either _ refl
          (in_concat c (sum_onto s out) ∙ ap (stopped (some_large (flat_map expressions_of (actions_in_concat c)))) (in_sum s out)
          ∙ two (actions_in s) (actions_in_concat c) (run out))

      in_concat : (c : Concat) (out : List ParseStep) → run (concat_onto c out) ≡ stopped (some_large (flat_map expressions_of (actions_in_concat c))) (run out)
      in_concat (g.single e) out = in_element e out
      in_concat (g.followed c e) out =
          past (element_onto e (concat_onto c out)) ParseStep.join _ refl
          (in_element e (concat_onto c out) ∙ ap (stopped (some_large (flat_map expressions_of (actions_in_element e)))) (in_concat c out)
          ∙ two (actions_in_concat c) (actions_in_element e) (run out))

      in_element : (e : Element) (out : List ParseStep) → run (element_onto e out) ≡ stopped
          (some_large (flat_map expressions_of (actions_in_element e))) (run out)
      in_element (g.once b) out = in_base b out
      in_element (g.star b) out = past (base_onto b out) ParseStep.star _ refl (in_base b out)

      in_base : (b : Base) (out : List ParseStep) → run (base_onto b out) ≡ stopped (some_large (flat_map expressions_of (actions_in_base b))) (run out)
      in_base (g.shift w) out = plain out (ParseStep.shift w) refl
      in_base (g.on ws) out = amongs ws (out ++ ParseStep.on ∷ []) ∙ plain out ParseStep.on refl
      in_base (g.off w) out = plain out (ParseStep.off w) refl
      in_base (g.assign a more) out =
          assignments more (assignment_onto a out)
          ∙ ap (stopped (some_large (map (λ a. a.value) more))) (assignment a out)
          ∙ stopped_twice (is_large values bounds a.value) (some_large (map (λ a. a.value) more)) (run out)
          ∙ ap (λ es. stopped (some_large es) (run out)) (sym (append-nil (map (λ a. a.value) (a ∷ more))))
      in_base (g.compare a t b) out =
          push (expr_onto b (expr_onto a out)) (ParseStep.compare t)
          ∙ ap (λ o. next o (ParseStep.compare t)) (in_expr b (expr_onto a out) ∙ ap (grown (is_large values bounds b) (size values bounds b)) (in_expr a out))
          ∙ compared (is_large values bounds a) (is_large values bounds b) (size values bounds a) (size values bounds b) t (run out)
          ∙ ap (λ c. stopped (is_large values bounds a || c) (run out)) (sym (or_false (is_large values bounds b)))
      in_base (g.switch w) out = plain out (ParseStep.switch w) refl
      in_base g.keeper out = plain out ParseStep.keeper refl
      in_base (g.some_word s) out = past (sum_onto s out) ParseStep.some_word _ refl (in_sum s out)
      in_base (g.no_word s) out = past (sum_onto s out) ParseStep.no_word _ refl (in_sum s out)
      in_base (g.group s) out = in_sum s out

  answer : (b : Bool) → not (is_some (stopped b (Some []))) ≡ b
  answer true = refl
  answer false = refl

  -- a size over the limit in the steps is one in the tree
  pub large_sizes : (s : Sum) → has_large_size values bounds (sum_onto s []) ≡ list_any (is_large values bounds) (flat_map expressions_of (actions_in s))
  unfolding has_large_size
  large_sizes s = ap (λ o. not (is_some o)) (in_sum (Some []) s []) ∙ answer (list_any (is_large values bounds) (flat_map expressions_of (actions_in s)))
