use Rattle.std.proofs.Common.{◌≡◌, ℕ, true, false, slice_index_or, ◌||◌, ◌&&◌, ◌==◌, ◌∷◌, ◌++◌, [], length, map, take, refl, sym, ap, ◌∙◌, subst, arith}
use Rattle.rbg_game.specs.Rules.{cat, alt, on, assignment, comparison, pattern, cat_all, alt_all}
use Rattle.rbg_game.specs.Meaning.{regex_of, action_of, expression_of}
use Rattle.rbg_game.proofs.MeaningLemmas.{regex_of-Action, regex_of-Star, regex_of-Concat, regex_of-Sum, action_of-Pattern, action_of-On, action_of-Off, action_of-Shift, action_of-Switch, action_of-Assignment, action_of-Comparison}
use Rattle.legal_moves.specs.Glushkov.{is_nullable}
use Rattle.rbg_game.specs.declared.rules.Action.TheVariants as Action
use Rattle.std.proofs.lemmas.List.{take_all, length-map}
use Rattle.std.specs.Result.{IfOk}
use Rattle.std.specs.List.{list_any}
use Rattle.legal_moves.specs.Tables.{inner_of, inner_in, is_pattern}
use Rattle.legal_moves.specs.lemmas.Tables.{IsAdded}
use Rattle.legal_moves.proofs.Exits.{refused}
use Rattle.legal_moves.proofs.automata.AlikeLemmas.{some_nullable, IsAdded-along, cat_all-push, alt_all-push, nullable_cat-push, some_nullable-push, nullable_alt_all, take_map-more, or_none, or_assoc}
use Rattle.legal_moves.proofs.automata.TableLemmas.{IsAdded-empty, IsAdded-one, IsAdded-star, IsAdded-cat, IsAdded-alt, IsExpressionTable-made, AreTables-pushed, related_along, asked, unasked}
use Rattle.legal_moves.proofs.automaton.compile.+tables.Goals as goal

pub add_parts-loop-part-init : goal.add_parts-loop-part-init
add_parts-loop-part-init t c = record {
  added = IsAdded-empty c.args.tables.now.items c.args.draft.now c.none-ends.result c.none-ends.ensures.first c.none-ends.ensures.last;
  nullable = c.none-ends.ensures.nullable;
}

pub add_branches-loop-branch-init : goal.add_branches-loop-branch-init
add_branches-loop-branch-init t c = record {
  added = IsAdded-empty c.args.tables.now.items c.args.draft.now c.none-ends.result c.none-ends.ensures.first c.none-ends.ensures.last;
  nullable = c.none-ends.ensures.nullable ∙ c.is_empty.ensures ∙ or_none (length c.args.branches.now == 0);
}

pub add_parts-loop-part-preserved : goal.add_parts-loop-part-preserved
add_parts-loop-part-preserved t c =
    let xs = take c.loop-part.part-index (map regex_of c.args.parts.now) in
    let y = regex_of c.part-item.result in
    let more = take_map-more regex_of c.args.parts.now c.loop-part.part-index c.part-item.result c.loop-part-test.true c.part-item.is in
    let related = related_along c.add_rules.new.draft.follows c.relate_all.new.self c.loop-part.ends.last.items c.in_ok-next.next.first.items c.deref.result.now c.deref-in-loop-part.result.now c.deref.ensures.value c.deref-in-loop-part.ensures.value c.in_ok-relate_all.ensures in
    let added = IsAdded-cat (cat_all xs) y c.args.tables.now.items c.loop-part.tables.items c.add_rules.new.tables.items c.args.draft.now c.loop-part.draft c.add_rules.new.draft c.loop-part.ends c.in_ok-next.next c.loop-part.invariant.added c.in_ok-next.ensures.added (record { steps = c.add_rules.new.draft.steps; follows = c.relate_all.new.self }) c.in_ok-ends.ends c.loop-part.invariant.nullable c.in_ok-next.ensures.nullable refl related c.in_ok-ends.ensures.first c.in_ok-ends.ensures.last in
    record {
      added = subst (λ zs. IsAdded (cat_all zs) c.args.tables.now.items c.add_rules.new.tables.items c.args.draft.now
          (record { steps = c.add_rules.new.draft.steps; follows = c.relate_all.new.self }) c.in_ok-ends.ends) (sym more)
          (IsAdded-along (cat (cat_all xs) y) (cat_all (xs ++ y ∷ [])) c.args.tables.now.items c.add_rules.new.tables.items c.args.draft.now
          (record { steps = c.add_rules.new.draft.steps; follows = c.relate_all.new.self }) c.in_ok-ends.ends (cat_all-push xs y) added);
      nullable = c.in_ok-ends.ensures.nullable ∙ ap (λ b. b && c.in_ok-next.next.nullable) c.loop-part.invariant.nullable
          ∙ ap (λ b. is_nullable (cat_all xs) && b) c.in_ok-next.ensures.nullable ∙ sym (nullable_cat-push xs y)
          ∙ ap (λ zs. is_nullable (cat_all zs)) (sym more);
    }

pub add_branches-loop-branch-preserved : goal.add_branches-loop-branch-preserved
add_branches-loop-branch-preserved t c =
    let xs = take c.loop-branch.branch-index (map regex_of c.args.branches.now) in
    let y = regex_of c.branch-item.result in
    let more = take_map-more regex_of c.args.branches.now c.loop-branch.branch-index c.branch-item.result c.loop-branch-test.true c.branch-item.is in
    let added = IsAdded-alt (alt_all xs) y c.args.tables.now.items c.loop-branch.tables.items c.add_rules.new.tables.items c.args.draft.now c.loop-branch.draft c.add_rules.new.draft c.loop-branch.ends c.in_ok-next.next c.loop-branch.invariant.added c.in_ok-next.ensures.added c.in_ok-ends.ends c.in_ok-ends.ensures.first c.in_ok-ends.ensures.last in
    record {
      added = subst (λ zs. IsAdded (alt_all zs) c.args.tables.now.items c.add_rules.new.tables.items c.args.draft.now c.add_rules.new.draft c.in_ok-ends.ends) (sym more) (IsAdded-along (alt (alt_all xs) y) (alt_all (xs ++ y ∷ [])) c.args.tables.now.items c.add_rules.new.tables.items c.args.draft.now c.add_rules.new.draft c.in_ok-ends.ends (alt_all-push xs y) added);
      nullable = c.in_ok-ends.ensures.nullable ∙ ap (λ b. b || c.in_ok-next.next.nullable) c.loop-branch.invariant.nullable
          ∙ ap (λ b. ((length c.args.branches.now == 0) || some_nullable xs) || b) c.in_ok-next.ensures.nullable
          ∙ or_assoc (length c.args.branches.now == 0) (some_nullable xs) (is_nullable y)
          ∙ ap (λ b. (length c.args.branches.now == 0) || b) (sym (some_nullable-push xs y) ∙ ap some_nullable (sym more));
    }

pub add_rules-returns-in_ok-ends-in-Action-clause-added : goal.add_rules-returns-in_ok-ends-in-Action-clause-added
add_rules-returns-in_ok-ends-in-Action-clause-added t c =
    let a = action_of c.in-Action.action in
    let is = ap regex_of c.in-Action.is ∙ regex_of-Action c.in-Action.action in
    let number : c.len.result ≡ length c.push.new.self.items = omega arith in
    subst (λ e. IsAdded e c.args.tables.now.items c.step_of.new.tables.items c.args.draft.now
    (record { steps = c.push.new.self; follows = c.args.draft.now.follows }) c.in_ok-ends-in-Action.ends) (sym is)
    (IsAdded-one a c.args.tables.now.items c.step_of.new.tables.items c.args.draft.now (record { steps = c.push.new.self; follows = c.args.draft.now.follows }) c.in_ok-step-in-Action.step c.in_ok-ends-in-Action.ends c.in_ok-step-in-Action.ensures c.in_ok-push-in-Action.ensures.items refl (c.in_ok-ends-in-Action.ensures.first ∙ ap (λ k. k ∷ []) number) (c.in_ok-ends-in-Action.ensures.last ∙ ap (λ k. k ∷ []) number))

pub add_rules-returns-in_ok-relate_all-in-Star-clause-added : goal.add_rules-returns-in_ok-relate_all-in-Star-clause-added
add_rules-returns-in_ok-relate_all-in-Star-clause-added t c =
    let x = regex_of c.in-Star.part.value in
    let is = ap regex_of c.in-Star.is ∙ regex_of-Star c.in-Star.part in
    let D = c.add_rules.new.draft in
    let added = subst (λ r. IsAdded (regex_of r) c.args.tables.now.items c.add_rules.new.tables.items c.args.draft.now c.add_rules.new.draft c.in_ok-ends-in-Star.ends) c.deref-in-Star.ensures c.in_ok-ends-in-Star.ensures.added in
    let related = related_along c.add_rules.new.draft.follows c.relate_all.new.self c.in_ok-ends-in-Star.ends.last.items c.in_ok-ends-in-Star.ends.first.items c.deref-in-Star-2.result.now c.deref-in-Star-3.result.now c.deref-in-Star-2.ensures.value c.deref-in-Star-3.ensures.value c.in_ok-relate_all-in-Star.ensures in
    subst (λ e. IsAdded e c.args.tables.now.items c.add_rules.new.tables.items c.args.draft.now
    (record { steps = c.add_rules.new.draft.steps; follows = c.relate_all.new.self })
    (record { nullable = true; first = c.in_ok-ends-in-Star.ends.first; last = c.in_ok-ends-in-Star.ends.last })) (sym is)
    (IsAdded-star x c.args.tables.now.items c.add_rules.new.tables.items c.args.draft.now c.add_rules.new.draft
    (record { steps = c.add_rules.new.draft.steps; follows = c.relate_all.new.self }) c.in_ok-ends-in-Star.ends
    (record { nullable = true; first = c.in_ok-ends-in-Star.ends.first; last = c.in_ok-ends-in-Star.ends.last }) added refl related refl refl)

pub add_table-returns : goal.add_table-returns
add_table-returns t c =
    λ es tables.
    let e = regex_of c.args.rules.now in
    let added = c.in_ok-ends.ensures.added in
    let now = added.tables_are es tables in
    let related = related_along c.add_rules.new.draft.follows c.relate_all.new.self (0 ∷ []) c.in_ok-ends.ends.first.items
    (0 ∷ []) c.deref.result.now refl c.deref.ensures.value c.in_ok-relate_all.ensures in
    let lasts = subst (λ ks. (k : ℕ) → slice_index_or c.in_ok-lasts.lasts.items k false ≡ list_any
    (λ j. j == k) ks) c.deref-2.ensures.value c.in_ok-lasts.ensures in
    let count : c.len-index.result ≡ length c.add_rules.new.tables.items = omega arith in (
      count ∙ now.as_many,
      AreTables-pushed (es ++ inner_of e) e c.add_rules.new.tables.items c.push.new.self.items _ now
          (IsExpressionTable-made es e c.args.tables.now.items c.add_rules.new.tables.items (record { steps = c.new.result; follows = c.new-2.result }) c.add_rules.new.draft c.in_ok-ends.ends c.relate_all.new.self _ tables added c.in_ok-ends.ensures.nullable c.new.ensures.items c.new-2.ensures refl refl related c.in_ok-follows.ensures lasts)
          c.in_ok-push.ensures.items,
    )

pub step_of-returns-in_ok-index-in-Pattern : goal.step_of-returns-in_ok-index-in-Pattern
step_of-returns-in_ok-index-in-Pattern t c =
    λ es tables.
    let e = regex_of c.deref-in-Pattern.result.now in
    let is = ap action_of c.in-Pattern.is ∙ action_of-Pattern c.in-Pattern.positive c.in-Pattern.inner
    ∙ ap (λ r. pattern c.in-Pattern.positive (regex_of r)) (sym c.deref-in-Pattern.ensures) in
    let made = c.in_ok-index-in-Pattern.ensures es tables in
    asked es e c.in-Pattern.positive c.in_ok-index-in-Pattern.index c.add_table.new.tables.items _ is made.0 made.1

pub add_table-returns-in_err-ends : goal.add_table-returns-in_err-ends
add_table-returns-in_err-ends t c = refused _ c.from_residual.result _ c.from_residual.ensures.1

pub add_table-returns-in_err-relate_all : goal.add_table-returns-in_err-relate_all
add_table-returns-in_err-relate_all t c = refused _ c.from_residual-in_err-relate_all.result _ c.from_residual-in_err-relate_all.ensures.1

pub add_table-returns-in_err-follows : goal.add_table-returns-in_err-follows
add_table-returns-in_err-follows t c = refused _ c.from_residual-in_err-follows.result _ c.from_residual-in_err-follows.ensures.1

pub add_table-returns-in_err-push : goal.add_table-returns-in_err-push
add_table-returns-in_err-push t c = refused _ c.from_residual-in_err-push.result _ c.from_residual-in_err-push.ensures.1

pub add_rules-returns-in_err-step-in-Action-clause-added : goal.add_rules-returns-in_err-step-in-Action-clause-added
add_rules-returns-in_err-step-in-Action-clause-added t c = refused _ c.from_residual.result _ c.from_residual.ensures.1

pub add_rules-returns-in_err-step-in-Action-clause-nullable : goal.add_rules-returns-in_err-step-in-Action-clause-nullable
add_rules-returns-in_err-step-in-Action-clause-nullable t c = refused _ c.from_residual.result _ c.from_residual.ensures.1

pub add_rules-returns-in_err-push-in-Action-clause-added : goal.add_rules-returns-in_err-push-in-Action-clause-added
add_rules-returns-in_err-push-in-Action-clause-added t c =
    refused _ c.from_residual-in_err-push-in-Action.result _ c.from_residual-in_err-push-in-Action.ensures.1

pub add_rules-returns-in_err-push-in-Action-clause-nullable : goal.add_rules-returns-in_err-push-in-Action-clause-nullable
add_rules-returns-in_err-push-in-Action-clause-nullable t c =
    refused _ c.from_residual-in_err-push-in-Action.result _ c.from_residual-in_err-push-in-Action.ensures.1

pub add_rules-returns-in_err-ends-in-Action-clause-added : goal.add_rules-returns-in_err-ends-in-Action-clause-added
add_rules-returns-in_err-ends-in-Action-clause-added t c =
    refused _ c.from_residual-in_err-ends-in-Action.result _ c.from_residual-in_err-ends-in-Action.ensures.1

pub add_rules-returns-in_err-ends-in-Action-clause-nullable : goal.add_rules-returns-in_err-ends-in-Action-clause-nullable
add_rules-returns-in_err-ends-in-Action-clause-nullable t c =
    refused _ c.from_residual-in_err-ends-in-Action.result _ c.from_residual-in_err-ends-in-Action.ensures.1

pub add_rules-returns-in_err-ends-in-Star-clause-added : goal.add_rules-returns-in_err-ends-in-Star-clause-added
add_rules-returns-in_err-ends-in-Star-clause-added t c = refused _ c.from_residual-in_err-ends-in-Star.result _ c.from_residual-in_err-ends-in-Star.ensures.1

pub add_rules-returns-in_err-ends-in-Star-clause-nullable : goal.add_rules-returns-in_err-ends-in-Star-clause-nullable
add_rules-returns-in_err-ends-in-Star-clause-nullable t c = refused _ c.from_residual-in_err-ends-in-Star.result _ c.from_residual-in_err-ends-in-Star.ensures.1

pub add_rules-returns-in_err-relate_all-in-Star-clause-added : goal.add_rules-returns-in_err-relate_all-in-Star-clause-added
add_rules-returns-in_err-relate_all-in-Star-clause-added t c =
    refused _ c.from_residual-in_err-relate_all-in-Star.result _ c.from_residual-in_err-relate_all-in-Star.ensures.1

pub add_rules-returns-in_err-relate_all-in-Star-clause-nullable : goal.add_rules-returns-in_err-relate_all-in-Star-clause-nullable
add_rules-returns-in_err-relate_all-in-Star-clause-nullable t c =
    refused _ c.from_residual-in_err-relate_all-in-Star.result _ c.from_residual-in_err-relate_all-in-Star.ensures.1

pub add_parts-returns-in_err-next-clause-added : goal.add_parts-returns-in_err-next-clause-added
add_parts-returns-in_err-next-clause-added t c = refused _ c.from_residual.result _ c.from_residual.ensures.1

pub add_parts-returns-in_err-next-clause-nullable : goal.add_parts-returns-in_err-next-clause-nullable
add_parts-returns-in_err-next-clause-nullable t c = refused _ c.from_residual.result _ c.from_residual.ensures.1

pub add_parts-returns-in_err-relate_all-clause-added : goal.add_parts-returns-in_err-relate_all-clause-added
add_parts-returns-in_err-relate_all-clause-added t c = refused _ c.from_residual-in_err-relate_all.result _ c.from_residual-in_err-relate_all.ensures.1

pub add_parts-returns-in_err-relate_all-clause-nullable : goal.add_parts-returns-in_err-relate_all-clause-nullable
add_parts-returns-in_err-relate_all-clause-nullable t c = refused _ c.from_residual-in_err-relate_all.result _ c.from_residual-in_err-relate_all.ensures.1

pub add_parts-returns-in_err-ends-clause-added : goal.add_parts-returns-in_err-ends-clause-added
add_parts-returns-in_err-ends-clause-added t c = refused _ c.from_residual-in_err-ends.result _ c.from_residual-in_err-ends.ensures.1

pub add_parts-returns-in_err-ends-clause-nullable : goal.add_parts-returns-in_err-ends-clause-nullable
add_parts-returns-in_err-ends-clause-nullable t c = refused _ c.from_residual-in_err-ends.result _ c.from_residual-in_err-ends.ensures.1

pub add_branches-returns-in_err-next-clause-added : goal.add_branches-returns-in_err-next-clause-added
add_branches-returns-in_err-next-clause-added t c = refused _ c.from_residual.result _ c.from_residual.ensures.1

pub add_branches-returns-in_err-next-clause-nullable : goal.add_branches-returns-in_err-next-clause-nullable
add_branches-returns-in_err-next-clause-nullable t c = refused _ c.from_residual.result _ c.from_residual.ensures.1

pub add_branches-returns-in_err-ends-clause-added : goal.add_branches-returns-in_err-ends-clause-added
add_branches-returns-in_err-ends-clause-added t c = refused _ c.from_residual-in_err-ends.result _ c.from_residual-in_err-ends.ensures.1

pub add_branches-returns-in_err-ends-clause-nullable : goal.add_branches-returns-in_err-ends-clause-nullable
add_branches-returns-in_err-ends-clause-nullable t c = refused _ c.from_residual-in_err-ends.result _ c.from_residual-in_err-ends.ensures.1

pub step_of-returns-in_err-pieces-in-On : goal.step_of-returns-in_err-pieces-in-On
step_of-returns-in_err-pieces-in-On t c = refused _ c.from_residual.result _ c.from_residual.ensures.1

pub step_of-returns-in_err-right-in-Assignment : goal.step_of-returns-in_err-right-in-Assignment
step_of-returns-in_err-right-in-Assignment t c =
    refused _ c.from_residual-in_err-right-in-Assignment.result _ c.from_residual-in_err-right-in-Assignment.ensures.1

pub step_of-returns-in_err-left-in-Comparison : goal.step_of-returns-in_err-left-in-Comparison
step_of-returns-in_err-left-in-Comparison t c = refused _ c.from_residual-in_err-left-in-Comparison.result _ c.from_residual-in_err-left-in-Comparison.ensures.1

pub step_of-returns-in_err-right-in-Comparison : goal.step_of-returns-in_err-right-in-Comparison
step_of-returns-in_err-right-in-Comparison t c =
    refused _ c.from_residual-in_err-right-in-Comparison.result _ c.from_residual-in_err-right-in-Comparison.ensures.1

pub step_of-returns-in_err-index-in-Pattern : goal.step_of-returns-in_err-index-in-Pattern
step_of-returns-in_err-index-in-Pattern t c = refused _ c.from_residual-in_err-index-in-Pattern.result _ c.from_residual-in_err-index-in-Pattern.ensures.1

pub step_of-returns-in-Off : goal.step_of-returns-in-Off
step_of-returns-in-Off t c =
    λ es tables.
    let e = ap action_of c.in-Off.is ∙ action_of-Off c.in-Off.piece in
    unasked es c.args.tables.now.items (Action.Off c.in-Off.piece) (action_of c.args.action.now) (sym (ap action_of c.in-Off.is))
    (ap inner_in e) (ap is_pattern e) tables

pub step_of-returns-in-Shift : goal.step_of-returns-in-Shift
step_of-returns-in-Shift t c =
    λ es tables.
    let e = ap action_of c.in-Shift.is ∙ action_of-Shift c.in-Shift.label in
    unasked es c.args.tables.now.items (Action.Shift c.in-Shift.label) (action_of c.args.action.now) (sym (ap action_of c.in-Shift.is))
    (ap inner_in e) (ap is_pattern e) tables

pub step_of-returns-in-Switch : goal.step_of-returns-in-Switch
step_of-returns-in-Switch t c =
    λ es tables.
    let e = ap action_of c.in-Switch.is ∙ action_of-Switch c.in-Switch.role in
    unasked es c.args.tables.now.items (Action.Switch c.in-Switch.role) (action_of c.args.action.now) (sym (ap action_of c.in-Switch.is))
    (ap inner_in e) (ap is_pattern e) tables

pub add_rules-returns-in-Concat-clause-added : goal.add_rules-returns-in-Concat-clause-added
add_rules-returns-in-Concat-clause-added t c =
    let is = ap cat_all (ap (map regex_of) c.deref.ensures.value) ∙ sym (ap regex_of c.in-Concat.is ∙ regex_of-Concat c.in-Concat.parts) in
    subst (λ e. IfOk c.add_parts.result
    (λ ends. IsAdded e c.args.tables.now.items c.add_parts.new.tables.items c.args.draft.now c.add_parts.new.draft ends)) is c.add_parts.ensures.added

pub add_rules-returns-in-Concat-clause-nullable : goal.add_rules-returns-in-Concat-clause-nullable
add_rules-returns-in-Concat-clause-nullable t c =
    let is = ap cat_all (ap (map regex_of) c.deref.ensures.value) ∙ sym (ap regex_of c.in-Concat.is ∙ regex_of-Concat c.in-Concat.parts) in
    subst (λ e. IfOk c.add_parts.result (λ ends. ends.nullable ≡ is_nullable e)) is c.add_parts.ensures.nullable

pub add_rules-returns-in-Sum-clause-added : goal.add_rules-returns-in-Sum-clause-added
add_rules-returns-in-Sum-clause-added t c =
    let is = ap alt_all (ap (map regex_of) c.deref-in-Sum.ensures.value) ∙ sym (ap regex_of c.in-Sum.is ∙ regex_of-Sum c.in-Sum.branches) in
    subst (λ e. IfOk c.add_branches.result (λ ends. IsAdded e c.args.tables.now.items c.add_branches.new.tables.items c.args.draft.now c.add_branches.new.draft ends)) is c.add_branches.ensures.added

pub add_rules-returns-in-Sum-clause-nullable : goal.add_rules-returns-in-Sum-clause-nullable
add_rules-returns-in-Sum-clause-nullable t c =
    let is = ap alt_all (ap (map regex_of) c.deref-in-Sum.ensures.value) ∙ sym (ap regex_of c.in-Sum.is ∙ regex_of-Sum c.in-Sum.branches) in
    subst (λ e. IfOk c.add_branches.result (λ ends. ends.nullable ≡ is_nullable e)) is c.add_branches.ensures.nullable

pub add_parts-returns-clause-added : goal.add_parts-returns-clause-added
add_parts-returns-clause-added t c =
    let whole = take_all c.loop-part.part-index (map regex_of c.args.parts.now) (omega (arith, length-map c.args.parts.now regex_of)) in
    subst (λ es. IsAdded (cat_all es) c.args.tables.now.items c.loop-part.tables.items c.args.draft.now c.loop-part.draft c.loop-part.ends) whole c.loop-part.invariant.added

pub add_parts-returns-clause-nullable : goal.add_parts-returns-clause-nullable
add_parts-returns-clause-nullable t c =
    let whole = take_all c.loop-part.part-index (map regex_of c.args.parts.now) (omega (arith, length-map c.args.parts.now regex_of)) in
    c.loop-part.invariant.nullable ∙ ap (λ es. is_nullable (cat_all es)) whole

pub add_branches-returns-clause-added : goal.add_branches-returns-clause-added
add_branches-returns-clause-added t c =
    let whole = take_all c.loop-branch.branch-index (map regex_of c.args.branches.now) (omega (arith, length-map c.args.branches.now regex_of)) in
    subst (λ es. IsAdded (alt_all es) c.args.tables.now.items c.loop-branch.tables.items c.args.draft.now c.loop-branch.draft c.loop-branch.ends) whole c.loop-branch.invariant.added

pub add_branches-returns-clause-nullable : goal.add_branches-returns-clause-nullable
add_branches-returns-clause-nullable t c =
    let es = map regex_of c.args.branches.now in
    let many = length-map c.args.branches.now regex_of in
    let whole = take_all c.loop-branch.branch-index es (omega (arith, many)) in
    c.loop-branch.invariant.nullable ∙ ap (λ xs. (length c.args.branches.now == 0) || some_nullable xs) whole
    ∙ ap (λ n. (n == 0) || some_nullable es) (sym many) ∙ nullable_alt_all es

pub add_rules-returns-in_ok-ends-in-Action-clause-nullable : goal.add_rules-returns-in_ok-ends-in-Action-clause-nullable
add_rules-returns-in_ok-ends-in-Action-clause-nullable t c =
    c.in_ok-ends-in-Action.ensures.nullable ∙ sym (ap is_nullable (ap regex_of c.in-Action.is ∙ regex_of-Action c.in-Action.action))

pub add_rules-returns-in_ok-relate_all-in-Star-clause-nullable : goal.add_rules-returns-in_ok-relate_all-in-Star-clause-nullable
add_rules-returns-in_ok-relate_all-in-Star-clause-nullable t c = sym (ap is_nullable (ap regex_of c.in-Star.is ∙ regex_of-Star c.in-Star.part))

pub step_of-returns-in_ok-pieces-in-On : goal.step_of-returns-in_ok-pieces-in-On
step_of-returns-in_ok-pieces-in-On t c =
    λ es tables.
    let copied = c.in_ok-pieces-in-On.pieces in
    let e = ap action_of c.in-On.is ∙ action_of-On c.in-On.pieces in
    let same = action_of-On copied ∙ ap on (c.in_ok-pieces-in-On.ensures.items ∙ c.deref.ensures.value) ∙ sym e in
    unasked es c.args.tables.now.items (Action.On copied) (action_of c.args.action.now) same (ap inner_in e) (ap is_pattern e) tables

pub step_of-returns-in_ok-right-in-Assignment : goal.step_of-returns-in_ok-right-in-Assignment
step_of-returns-in_ok-right-in-Assignment t c =
    λ es tables.
    let v = c.in-Assignment.variable in
    let right = c.in_ok-right-in-Assignment.right in
    let e = ap action_of c.in-Assignment.is ∙ action_of-Assignment v c.in-Assignment.right in
    let same = action_of-Assignment v right ∙ ap (assignment v) c.in_ok-right-in-Assignment.ensures ∙ sym e in
    unasked es c.args.tables.now.items (Action.Assignment v right) (action_of c.args.action.now) same (ap inner_in e) (ap is_pattern e) tables

pub step_of-returns-in_ok-right-in-Comparison : goal.step_of-returns-in_ok-right-in-Comparison
step_of-returns-in_ok-right-in-Comparison t c =
    λ es tables.
    let op = c.in-Comparison.comparison in
    let left = c.in_ok-left-in-Comparison.left in
    let right = c.in_ok-right-in-Comparison.right in
    let e = ap action_of c.in-Comparison.is ∙ action_of-Comparison c.in-Comparison.left op c.in-Comparison.right in
    let same = action_of-Comparison left op right
    ∙ ap (λ x. comparison x op (expression_of right)) c.in_ok-left-in-Comparison.ensures
    ∙ ap (comparison (expression_of c.in-Comparison.left) op) c.in_ok-right-in-Comparison.ensures ∙ sym e in
    unasked es c.args.tables.now.items (Action.Comparison left op right) (action_of c.args.action.now) same (ap inner_in e) (ap is_pattern e) tables

pub add_table-returns-in_err-lasts : goal.add_table-returns-in_err-lasts
add_table-returns-in_err-lasts t c = refused _ c.from_residual-in_err-lasts.result _ c.from_residual-in_err-lasts.ensures.1
