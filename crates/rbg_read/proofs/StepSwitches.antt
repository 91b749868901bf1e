-- The stack of flags over the steps of a tree finds a pattern with a switch in it where the tree has one.
use Rattle.std.proofs.Common.{◌≡◌, Bool, true, false, not, is_some, ◌||◌, List, [], ◌∷◌, ◌++◌, fold, Option, Some, None, option_and_then, refl, sym, ap, ◌∙◌}
use Rattle.std.specs.Prelude.{if◌then◌else◌}
use Rattle.std.specs.List.{list_any}
use Rattle.std.proofs.lemmas.List.Folds.{list_any-append}
use Rattle.rbg_text.specs.Token.{Text}
use Rattle.rbg_text.specs.Syntax as g
use Rattle.rbg_text.specs.Syntax.{Expr, Assignment, Sum, Concat, Element, Base}
use Rattle.rbg_text.specs.Parse.{ParseStep}
use Rattle.rbg_text.specs.Postfix.{expr_onto, term_onto, factor_onto, atom_onto, among_onto, assignment_onto, assignments_onto, sum_onto, concat_onto, element_onto, base_onto}
use Rattle.rbg_read.specs.Causes.{actions_in, actions_in_concat, actions_in_element, actions_in_base, is_switch, has_switch_inside}
use Rattle.rbg_read.specs.lemmas.Switches.{next_flags, has_inner_switch}
use Rattle.rbg_read.proofs.StepSizes.{fold_push}

abbrev Flags : Type 0
Flags = Option (List Bool)

-- one part more, unless a pattern has a switch in it
abbrev marked : Bool → Bool → Flags → Flags
marked found b o = option_and_then (λ s. if found then None else Some (b ∷ s)) o

stays : (o : Flags) → option_and_then (λ s. Some s) o ≡ o
stays (Some s) = refl
stays None = refl

joined : (f h a b : Bool) (o : Flags) → next_flags (marked h b (marked f a o)) ParseStep.join ≡ marked (f || h) (a || b) o
joined true h a b (Some s) = refl
joined false true a b (Some s) = refl
joined false false a b (Some s) = refl
joined f h a b None = refl

chosen : (f h a b : Bool) (o : Flags) → next_flags (marked h b (marked f a o)) ParseStep.either ≡ marked (f || h) (a || b) o
chosen true h a b (Some s) = refl
chosen false true a b (Some s) = refl
chosen false false a b (Some s) = refl
chosen f h a b None = refl

some_closed : (f b : Bool) (o : Flags) → next_flags (marked f b o) ParseStep.some_word ≡ marked (b || f) b o
some_closed true true (Some s) = refl
some_closed true false (Some s) = refl
some_closed false true (Some s) = refl
some_closed false false (Some s) = refl
some_closed f b None = refl

none_closed : (f b : Bool) (o : Flags) → next_flags (marked f b o) ParseStep.no_word ≡ marked (b || f) b o
none_closed true true (Some s) = refl
none_closed true false (Some s) = refl
none_closed false true (Some s) = refl
none_closed false false (Some s) = refl
none_closed f b None = refl

or_false : (b : Bool) → (b || false) ≡ b
or_false true = refl
or_false false = refl

module _ (start : Flags) where
  abbrev run : List ParseStep → Flags
  run steps = fold next_flags start steps

  push : (xs : List ParseStep) (x : ParseStep) → run (xs ++ x ∷ []) ≡ next_flags (run xs) x
  push xs x = fold_push next_flags start xs x

  past : (xs : List ParseStep) (x : ParseStep) (o : Flags) → next_flags (run xs) x ≡ option_and_then (λ s. Some s) (run xs) → run xs ≡ o
      → run (xs ++ x ∷ []) ≡ o
  past xs x o same is = push xs x ∙ same ∙ stays (run xs) ∙ is

  mutual
    in_expr : (e : Expr) (out : List ParseStep) → run (expr_onto e out) ≡ run out
    in_expr (g.sum_of t) out = in_term t out
    in_expr (g.plus e t) out = past (term_onto t (expr_onto e out)) ParseStep.add _ refl (in_term t (expr_onto e out) ∙ in_expr e out)
    in_expr (g.minus e t) out = past (term_onto t (expr_onto e out)) ParseStep.subtract _ refl (in_term t (expr_onto e out) ∙ in_expr e out)

    in_term : (t : g.Term) (out : List ParseStep) → run (term_onto t out) ≡ run out
    in_term (g.product_of f) out = in_factor f out
    in_term (g.times t f) out = past (factor_onto f (term_onto t out)) ParseStep.multiply _ refl (in_factor f (term_onto t out) ∙ in_term t out)

    in_factor : (f : g.Factor) (out : List ParseStep) → run (factor_onto f out) ≡ run out
    in_factor (g.positive a) out = in_atom a out
    in_factor (g.negative a) out = past (atom_onto a out) ParseStep.negate _ refl (in_atom a out)

    in_atom : (a : g.Atom) (out : List ParseStep) → run (atom_onto a out) ≡ run out
    in_atom (g.literal n) out = past out (ParseStep.number n) _ refl refl
    in_atom (g.Atom.variable v) out = past out (ParseStep.variable v) _ refl refl
    in_atom (g.parenthesized e) out = in_expr e out

  amongs : (ws : List Text) (out : List ParseStep) → run (among_onto ws out) ≡ run out
  amongs [] out = refl
  amongs (w ∷ ws) out = amongs ws (out ++ ParseStep.among w ∷ []) ∙ past out (ParseStep.among w) (run out) refl refl

  assignment : (a : Assignment) (out : List ParseStep) → run (assignment_onto a out) ≡ marked false false (run out)
  assignment a out = push (expr_onto a.value out) (ParseStep.assign a.target) ∙ ap (λ o. next_flags o (ParseStep.assign a.target)) (in_expr a.value out)

  assignments : (more : List Assignment) (out : List ParseStep) (o : Flags) → run out ≡ marked false false o
      → run (assignments_onto more out) ≡ marked false false o
  assignments [] out o is = is
  assignments (a ∷ more) out o is =
      assignments more (assignment_onto a out ++ ParseStep.join ∷ []) o
      (push (assignment_onto a out) ParseStep.join
      ∙ ap (λ o. next_flags o ParseStep.join) (assignment a out ∙ ap (marked false false) is)
      ∙ joined false false false false o)

  abbrev bad : List Base → Bool
  bad bs = list_any has_switch_inside bs

  abbrev some_switch : List Base → Bool
  some_switch bs = list_any is_switch bs

  -- the parts of two lists
  both : (bs cs : List Base) (o : Flags) → marked (bad bs || bad cs) (some_switch bs || some_switch cs) o ≡ marked (bad (bs ++ cs)) (some_switch (bs ++ cs)) o
  both bs cs o = ap (λ f. marked f (some_switch bs || some_switch cs) o) (sym (list_any-append has_switch_inside bs cs))
      ∙ ap (λ b. marked (bad (bs ++ cs)) b o) (sym (list_any-append is_switch bs cs))

  mutual
    pub in_sum : (s : Sum) (out : List ParseStep) → run (sum_onto s out) ≡ marked (bad (actions_in s)) (some_switch (actions_in s)) (run out)
    in_sum (g.branch c) out = in_concat c out
    in_sum (g.either s c) out =
        push (concat_onto c (sum_onto s out)) ParseStep.either
        ∙ ap (λ o. next_flags o ParseStep.either)
        (in_concat c (sum_onto s out) ∙ ap (marked (bad (actions_in_concat c)) (some_switch (actions_in_concat c))) (in_sum s out))
        ∙ chosen (bad (actions_in s)) (bad (actions_in_concat c)) (some_switch (actions_in s)) (some_switch (actions_in_concat c)) (run out)
        ∙ both (actions_in s) (actions_in_concat c) (run out)

    in_concat : (c : Concat) (out : List ParseStep) → run (concat_onto c out) ≡ marked (bad (actions_in_concat c)) (some_switch (actions_in_concat c)) (run out)
    in_concat (g.single e) out = in_element e out
    in_concat (g.followed c e) out =
        push (element_onto e (concat_onto c out)) ParseStep.join
        ∙ ap (λ o. next_flags o ParseStep.join)
        (in_element e (concat_onto c out) ∙ ap (marked (bad (actions_in_element e)) (some_switch (actions_in_element e))) (in_concat c out))
        ∙ joined (bad (actions_in_concat c)) (bad (actions_in_element e)) (some_switch (actions_in_concat c)) (some_switch (actions_in_element e)) (run out)
        ∙ both (actions_in_concat c) (actions_in_element e) (run out)

    in_element : (e : Element) (out : List ParseStep) → run (element_onto e out) ≡ marked (bad (actions_in_element e))
        (some_switch (actions_in_element e)) (run out)
    in_element (g.once b) out = in_base b out
    in_element (g.star b) out = past (base_onto b out) ParseStep.star _ refl (in_base b out)

    in_base : (b : Base) (out : List ParseStep) → run (base_onto b out) ≡ marked (bad (actions_in_base b)) (some_switch (actions_in_base b)) (run out)
    in_base (g.shift w) out = push out (ParseStep.shift w)
    in_base (g.on ws) out = amongs ws (out ++ ParseStep.on ∷ []) ∙ push out ParseStep.on
    in_base (g.off w) out = push out (ParseStep.off w)
    in_base (g.assign a more) out = assignments more (assignment_onto a out) (run out) (assignment a out)
    in_base (g.compare a t b) out =
        push (expr_onto b (expr_onto a out)) (ParseStep.compare t) ∙ ap (λ o. next_flags o (ParseStep.compare t)) (in_expr b (expr_onto a out) ∙ in_expr a out)
    in_base (g.switch w) out = push out (ParseStep.switch w)
    in_base g.keeper out = push out ParseStep.keeper
    in_base (g.some_word s) out =
        push (sum_onto s out) ParseStep.some_word
        ∙ ap (λ o. next_flags o ParseStep.some_word) (in_sum s out)
        ∙ some_closed (bad (actions_in s)) (some_switch (actions_in s)) (run out)
    in_base (g.no_word s) out =
        push (sum_onto s out) ParseStep.no_word
        ∙ ap (λ o. next_flags o ParseStep.no_word) (in_sum s out)
        ∙ none_closed (bad (actions_in s)) (some_switch (actions_in s)) (run out)
    in_base (g.group s) out = in_sum s out

answer : (f b : Bool) → not (is_some (marked f b (Some []))) ≡ f
answer true b = refl
answer false b = refl

-- a pattern with a switch in it among the steps is one in the tree
pub inner_switches : (s : Sum) → has_inner_switch (sum_onto s []) ≡ list_any has_switch_inside (actions_in s)
unfolding has_inner_switch
inner_switches s = ap (λ o. not (is_some o)) (in_sum (Some []) s []) ∙ answer (list_any has_switch_inside (actions_in s)) (list_any is_switch (actions_in s))
