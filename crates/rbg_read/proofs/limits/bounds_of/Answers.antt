use Rattle.std.proofs.Common.{◌++◌, map, sym, ap, ◌∙◌}
use Rattle.std.specs.List.{list_any}
use Rattle.rbg_text.specs.Said.{declaration_view}
use Rattle.rbg_read.specs.lemmas.Flat.{has_large_bound}
use Rattle.rbg_read.specs.Means.{decimal}
use Rattle.rbg_read.proofs.NoCause.{no_large}
use Rattle.rbg_read.proofs.Lists.{two_maps}
use Rattle.rbg_read.proofs.limits.bounds_of.Goals as goal

pub add_bounds-requires : goal.add_bounds-requires
add_bounds-requires c =
    ap (λ ds. list_any (λ d. has_large_bound (declaration_view d)) ds) c.as_slice.ensures.value ∙ (no_large c.args.parts.now c.requires).players

pub add_bounds-requires-2 : goal.add_bounds-requires-2
add_bounds-requires-2 c =
    ap (λ ds. list_any (λ d. has_large_bound (declaration_view d)) ds) c.as_slice-2.ensures.value ∙ (no_large c.args.parts.now c.requires).variables

pub returns : goal.returns
returns c =
    c.in_ok-add_bounds-2.ensures
    ∙ ap (λ ns. ns ++ map (λ d. decimal d.bound.now) c.as_slice-2.result.now)
    (c.in_ok-add_bounds.ensures ∙ ap (λ ns. ns ++ map (λ d. decimal d.bound.now) c.as_slice.result.now) c.new-bounds.ensures.items)
    ∙ ap (λ ds. map (λ d. decimal d.bound.now) ds ++ map (λ d. decimal d.bound.now) c.as_slice-2.result.now) c.as_slice.ensures.value
    ∙ ap (λ ds. map (λ d. decimal d.bound.now) c.args.parts.now.players.items ++ map (λ d. decimal d.bound.now) ds) c.as_slice-2.ensures.value
    ∙ sym (two_maps (λ d. decimal d.bound) declaration_view c.args.parts.now.players.items c.args.parts.now.variables.items)
