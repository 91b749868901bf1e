use Rattle.std.proofs.Common.{◌≡◌, ◌∙◌, sym, ap, subst, arith}
use Rattle.game_file.specs.Fields.{goal_numbered, number_of_packing, packing_in}
use Rattle.game_file.specs.lemmas.Packings.{kind_is}
use Rattle.game_file.specs.Numbers.{AreWithinLimits}
use Rattle.game_file.specs.declared.sizes.Sizes.{Sizes}
use Rattle.tree_table.proofs.slot.read_game.Goals as goal

pub returns-clause-says : goal.returns-clause-says
returns-clause-says c =
    let numbered : packing_in c.args.root.now ≡ number_of_packing c.in_ok-packing.packing = sym c.requires ∙ c.in_ok-packing.ensures.some in
    let packing = sym (kind_is c.args.root.now c.in_ok-packing.packing numbered) in (
      record {
        packing = numbered;
        goal = ap goal_numbered (sym c.goal_number-goal.ensures);
        points = omega (arith, c.if-goal-gt-MAX_POINTS.false, c.goal_number-goal.ensures);
        limits = subst (λ (s : Sizes). AreWithinLimits s) c.sizes_in-sizes.ensures (c.are_within_limits.ensures.0 c.if-not-are_within_limits.false);
        some = omega (arith, c.if-sizes-eq0.false, ap (λ (s : Sizes). s.packed) c.sizes_in-sizes.ensures);
      },
      λ i. record {
        packing = packing i;
        goal = c.goal_number-goal.ensures i;
        first = c.word_at-first.ensures i;
        sizes = c.sizes_in-sizes.ensures i;
        roots = c.roots_in-roots.ensures i;
      },
    )
