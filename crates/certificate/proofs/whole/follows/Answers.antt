use Rattle.std.proofs.Common.{◌≡◌, ◌↔◌, ◌∙◌, true, Bool, sym, subst, List, ℕ}
use Rattle.std.specs.Prelude.{IfOk}
use Rattle.certificate.specs.Lists.{line_of, lines_in}
use Rattle.certificate.specs.Shown.{Follows}
use Rattle.certificate.specs.declared.manner.Manner.{Manner}
use Rattle.certificate.specs.declared.manner.Manner.TheVariants.{AtMost, AtLeast, Never}
use Rattle.certificate.proofs.whole.follows.Goals as goal

pub returns-in-AtMost-clause-is : goal.returns-in-AtMost-clause-is
returns-in-AtMost-clause-is g c =
    let graph = g.M.GameGraph.graph c.args.source.now in
    let list = lines_in c.args.list.now in
    let line = line_of c.args.ranked.now in
    subst (λ (m : Manner). IfOk c.goes_down.result (λ (b : Bool). (b ≡ true) ↔ Follows graph m c.args.player list line)) (sym c.in-AtMost.is)
    (subst (λ (x : List ℕ). IfOk c.goes_down.result
    (λ (b : Bool). (b ≡ true) ↔ Follows graph AtMost c.args.player list (record { at = x; rank = c.args.ranked.now.rank })))
    (c.packed_of-at.ensures ∙ c.deref.ensures.value) c.goes_down.ensures.is)

pub returns-in-AtLeast-clause-is : goal.returns-in-AtLeast-clause-is
returns-in-AtLeast-clause-is g c =
    let graph = g.M.GameGraph.graph c.args.source.now in
    let list = lines_in c.args.list.now in
    let line = line_of c.args.ranked.now in
    subst (λ (m : Manner). IfOk c.is_held_for.result (λ (b : Bool). (b ≡ true) ↔ Follows graph m c.args.player list line)) (sym c.in-AtLeast.is)
    (subst (λ (x : List ℕ). IfOk c.is_held_for.result
    (λ (b : Bool). (b ≡ true) ↔ Follows graph AtLeast c.args.player list (record { at = x; rank = c.args.ranked.now.rank })))
    (c.packed_of-at.ensures ∙ c.deref.ensures.value) c.is_held_for.ensures.is)

pub returns-in-Never-clause-is : goal.returns-in-Never-clause-is
returns-in-Never-clause-is g c =
    let graph = g.M.GameGraph.graph c.args.source.now in
    let list = lines_in c.args.list.now in
    let line = line_of c.args.ranked.now in
    subst (λ (m : Manner). IfOk c.is_held.result (λ (b : Bool). (b ≡ true) ↔ Follows graph m c.args.player list line)) (sym c.in-Never.is)
    (subst (λ (x : List ℕ). IfOk c.is_held.result
    (λ (b : Bool). (b ≡ true) ↔ Follows graph Never c.args.player list (record { at = x; rank = c.args.ranked.now.rank })))
    (c.packed_of-at.ensures ∙ c.deref.ensures.value) c.is_held.ensures.is)
