use Rattle.std.proofs.Common.{◌≡◌, false, true, length, map, refl, ap, sym, ◌∙◌}
use Rattle.std.specs.List.{list_any}
use Rattle.rbg_text.specs.View.{step_view}
use Rattle.rbg_read.specs.lemmas.Flat.{uses_unknown, repeats_name, has_large, is_past_a_limit, bounds, is_large_number}
use Rattle.rbg_read.specs.lemmas.Sizes.{has_large_size}
use Rattle.rbg_read.specs.lemmas.Switches.{has_inner_switch}
use Rattle.rbg_read.specs.lemmas.Parts.{known_view, parts_view}
use Rattle.rbg_read.proofs.FirstCause.{here, past, two_at, two_players}
use Rattle.rbg_read.proofs.NoCause.{few, no_large}
use Rattle.rbg_read.proofs.checks.check.Goals as goal

pub returns-then-uses_unknown : goal.returns-then-uses_unknown
returns-then-uses_unknown c =
    let names = known_view c.args.names.now in
    let parts = parts_view c.args.parts.now in
    let players : length parts.players ≡ 2 = two_players c.args.parts.now c.len.result c.len.ensures c.if-len-ne2.false in
    let known : uses_unknown names parts ≡ true = sym c.uses_unknown.ensures ∙ c.if-uses_unknown.true in
    λ _. past _ _ _ (two_at players) (here _ _ _ known)

pub returns-then-repeats_name : goal.returns-then-repeats_name
returns-then-repeats_name c =
    let names = known_view c.args.names.now in
    let parts = parts_view c.args.parts.now in
    let players : length parts.players ≡ 2 = two_players c.args.parts.now c.len.result c.len.ensures c.if-len-ne2.false in
    let known : uses_unknown names parts ≡ false = sym c.uses_unknown.ensures ∙ c.if-uses_unknown.false in
    let twice : repeats_name names parts ≡ true = sym c.repeats_name.ensures ∙ c.if-repeats_name.true in
    λ _. past _ _ _ (two_at players) (past _ _ _ known (here _ _ _ twice))

pub returns-then-has_large : goal.returns-then-has_large
returns-then-has_large c =
    let names = known_view c.args.names.now in
    let parts = parts_view c.args.parts.now in
    let players : length parts.players ≡ 2 = two_players c.args.parts.now c.len.result c.len.ensures c.if-len-ne2.false in
    let known : uses_unknown names parts ≡ false = sym c.uses_unknown.ensures ∙ c.if-uses_unknown.false in
    let twice : repeats_name names parts ≡ false = cc in
    let large : has_large parts ≡ true = sym c.has_large.ensures ∙ c.if-has_large.true in
    λ _. past _ _ _ (two_at players) (past _ _ _ known (past _ _ _ twice (here _ _ _ large)))

pub returns-then-is_past_a_limit : goal.returns-then-is_past_a_limit
returns-then-is_past_a_limit c =
    let names = known_view c.args.names.now in
    let parts = parts_view c.args.parts.now in
    let players : length parts.players ≡ 2 = two_players c.args.parts.now c.len.result c.len.ensures c.if-len-ne2.false in
    let known : uses_unknown names parts ≡ false = sym c.uses_unknown.ensures ∙ c.if-uses_unknown.false in
    let twice : repeats_name names parts ≡ false = sym c.repeats_name.ensures ∙ c.if-repeats_name.false in
    let large : has_large parts ≡ false = sym c.has_large.ensures ∙ c.if-has_large.false in
    let over : is_past_a_limit names parts ≡ true = sym c.is_past_a_limit.ensures ∙ c.if-is_past_a_limit.true in
    λ _. past _ _ _ (two_at players) (past _ _ _ known (past _ _ _ twice (past _ _ _ large (here _ _ _ over))))

pub has_large_size-requires-clause-few : goal.has_large_size-requires-clause-few
has_large_size-requires-clause-few c =
    let names = known_view c.args.names.now in
    let parts = parts_view c.args.parts.now in
    let players : length parts.players ≡ 2 = two_players c.args.parts.now c.len.result c.len.ensures c.if-len-ne2.false in
    let over : is_past_a_limit names parts ≡ false = sym c.is_past_a_limit.ensures ∙ c.if-is_past_a_limit.false in
    few names parts c.requires players over

pub has_large_size-requires-clause-within : goal.has_large_size-requires-clause-within
has_large_size-requires-clause-within c =
    let large : has_large (parts_view c.args.parts.now) ≡ false = sym c.has_large.ensures ∙ c.if-has_large.false in
    ap (λ ss. list_any is_large_number (map step_view ss)) c.as_slice-2.ensures.value ∙ (no_large c.args.parts.now large).steps

pub returns-then-branch : goal.returns-then-branch
returns-then-branch c =
    let names = known_view c.args.names.now in
    let parts = parts_view c.args.parts.now in
    let players : length parts.players ≡ 2 = two_players c.args.parts.now c.len.result c.len.ensures c.if-len-ne2.false in
    let known : uses_unknown names parts ≡ false = sym c.uses_unknown.ensures ∙ c.if-uses_unknown.false in
    let twice : repeats_name names parts ≡ false = sym c.repeats_name.ensures ∙ c.if-repeats_name.false in
    let large : has_large parts ≡ false = sym c.has_large.ensures ∙ c.if-has_large.false in
    let over : is_past_a_limit names parts ≡ false = sym c.is_past_a_limit.ensures ∙ c.if-is_past_a_limit.false in
    let read = c.as_slice.ensures.value ∙ c.in_ok-bounds.ensures in
    let big : has_large_size names.values (bounds parts) parts.steps ≡ true =
    ap (λ bs. has_large_size names.values bs parts.steps) (sym read)
    ∙ ap (λ ss. has_large_size names.values c.as_slice.result.now (map step_view ss)) (sym c.as_slice-2.ensures.value)
    ∙ sym c.in_ok-has_large_size.ensures ∙ c.if-branch.true in
    λ _. past _ _ _ (two_at players) (past _ _ _ known (past _ _ _ twice (past _ _ _ large (past _ _ _ over (here _ _ _ big)))))

pub returns-then-branch-2 : goal.returns-then-branch-2
returns-then-branch-2 c =
    let names = known_view c.args.names.now in
    let parts = parts_view c.args.parts.now in
    let players : length parts.players ≡ 2 = two_players c.args.parts.now c.len.result c.len.ensures c.if-len-ne2.false in
    let known : uses_unknown names parts ≡ false = sym c.uses_unknown.ensures ∙ c.if-uses_unknown.false in
    let twice : repeats_name names parts ≡ false = sym c.repeats_name.ensures ∙ c.if-repeats_name.false in
    let large : has_large parts ≡ false = sym c.has_large.ensures ∙ c.if-has_large.false in
    let over : is_past_a_limit names parts ≡ false = sym c.is_past_a_limit.ensures ∙ c.if-is_past_a_limit.false in
    let read = c.as_slice.ensures.value ∙ c.in_ok-bounds.ensures in
    let big : has_large_size names.values (bounds parts) parts.steps ≡ false =
    ap (λ bs. has_large_size names.values bs parts.steps) (sym read)
    ∙ ap (λ ss. has_large_size names.values c.as_slice.result.now (map step_view ss)) (sym c.as_slice-2.ensures.value)
    ∙ sym c.in_ok-has_large_size.ensures ∙ c.if-branch.false in
    let inner : has_inner_switch parts.steps ≡ true =
    ap (λ ss. has_inner_switch (map step_view ss)) (sym c.as_slice-3.ensures.value) ∙ sym c.in_ok-has_inner_switch.ensures ∙ c.if-branch-2.true in
    λ _. past _ _ _ (two_at players) (past _ _ _ known (past _ _ _ twice (past _ _ _ large (past _ _ _ over (past _ _ _ big (here _ _ _ inner))))))

pub returns : goal.returns
returns c =
    let names = known_view c.args.names.now in
    let parts = parts_view c.args.parts.now in
    let players : length parts.players ≡ 2 = two_players c.args.parts.now c.len.result c.len.ensures c.if-len-ne2.false in
    let known : uses_unknown names parts ≡ false = sym c.uses_unknown.ensures ∙ c.if-uses_unknown.false in
    let twice : repeats_name names parts ≡ false = sym c.repeats_name.ensures ∙ c.if-repeats_name.false in
    let large : has_large parts ≡ false = sym c.has_large.ensures ∙ c.if-has_large.false in
    let over : is_past_a_limit names parts ≡ false = sym c.is_past_a_limit.ensures ∙ c.if-is_past_a_limit.false in
    let read = c.as_slice.ensures.value ∙ c.in_ok-bounds.ensures in
    let big : has_large_size names.values (bounds parts) parts.steps ≡ false =
    ap (λ bs. has_large_size names.values bs parts.steps) (sym read)
    ∙ ap (λ ss. has_large_size names.values c.as_slice.result.now (map step_view ss)) (sym c.as_slice-2.ensures.value)
    ∙ sym c.in_ok-has_large_size.ensures ∙ c.if-branch.false in
    let inner : has_inner_switch parts.steps ≡ false =
    ap (λ ss. has_inner_switch (map step_view ss)) (sym c.as_slice-3.ensures.value) ∙ sym c.in_ok-has_inner_switch.ensures ∙ c.if-branch-2.false in
    past _ _ _ (two_at players) (past _ _ _ known (past _ _ _ twice (past _ _ _ large (past _ _ _ over (past _ _ _ big (past _ _ _ inner refl))))))
