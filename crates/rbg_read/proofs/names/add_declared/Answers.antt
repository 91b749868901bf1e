use Rattle.std.proofs.Common.{[], refl}
use Rattle.rbg_text.specs.declared.sections.Declaration.{Declaration}
use Rattle.rbg_read.proofs.Lists.{turn_behind, end_behind}
use Rattle.rbg_read.proofs.names.add_declared.Goals as goal

-- what a goal has past the end of the declarations
abbrev no_declaration : Declaration
no_declaration = record { name = record { ref_ptr = (0, 0); now = [] }; bound = record { ref_ptr = (0, 0); now = [] } }

pub loop-declaration-preserved : goal.loop-declaration-preserved
loop-declaration-preserved c =
    turn_behind (λ w. w.now) (λ d. d.name.now) _ _ _ _ c.args.declarations.now c.loop-declaration.declaration-index no_declaration c.loop-declaration-test.true
    c.in_ok-push.ensures.items refl c.loop-declaration.invariant

pub returns : goal.returns
returns c = end_behind (λ d. d.name.now) _ c.args.declarations.now c.loop-declaration.declaration-index c.loop-declaration-test.false c.loop-declaration.invariant
