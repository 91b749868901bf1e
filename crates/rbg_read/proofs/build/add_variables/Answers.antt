use Rattle.std.proofs.Common.{◌≡◌, [], get_or, arith}
use Rattle.std.proofs.lemmas.Bool.{ltb-false}
use Rattle.rbg_text.specs.Said.{declaration_view}
use Rattle.rbg_text.specs.declared.sections.Declaration.{Declaration}
use Rattle.rbg_game.specs.Meaning.{variable_of}
use Rattle.rbg_game.specs.declared.game.Variable.{Variable}
use Rattle.rbg_read.specs.Means.{decimal, declared}
use Rattle.rbg_read.specs.lemmas.Flat.{has_large_bound}
use Rattle.rbg_read.proofs.Lists.{turn_behind, end_behind, none_here}
use Rattle.rbg_read.proofs.build.add_variables.Goals as goal

-- what a goal has past the end of the declarations
abbrev no_declaration : Declaration
no_declaration = record { name = record { ref_ptr = (0, 0); now = [] }; bound = record { ref_ptr = (0, 0); now = [] } }

pub loop-declaration-preserved : goal.loop-declaration-preserved
loop-declaration-preserved c =
    let small = ltb-false _ _ (none_here (λ d. has_large_bound (declaration_view d)) c.args.declarations.now c.loop-declaration.declaration-index no_declaration c.loop-declaration-test.true c.requires) in
    let bound : c.number-bound.result ≡ decimal
    (get_or c.args.declarations.now c.loop-declaration.declaration-index no_declaration).bound.now = omega (arith, small, c.number-bound.ensures) in
    let new : Variable = record { name = c.in_ok-name.name; bound = c.number-bound.result } in
    let same : variable_of new ≡ declared (declaration_view (get_or c.args.declarations.now c.loop-declaration.declaration-index no_declaration)) =
    λ i. record { name = c.in_ok-name.ensures i; bound = bound i } in
    turn_behind variable_of (λ d. declared (declaration_view d)) c.loop-declaration.variables.items c.push.new.self.items new _ c.args.declarations.now c.loop-declaration.declaration-index no_declaration c.loop-declaration-test.true
    c.in_ok-push.ensures.items same c.loop-declaration.invariant

pub returns : goal.returns
returns c = end_behind (λ d. declared
    (declaration_view d)) _ c.args.declarations.now c.loop-declaration.declaration-index c.loop-declaration-test.false c.loop-declaration.invariant
