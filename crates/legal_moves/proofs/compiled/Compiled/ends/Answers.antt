use Rattle.std.proofs.Common.{◌≡◌, ◌-◌, ◌≤◌, IfOk, length, refl, sym, subst, arith}
use Rattle.rbg_game.specs.Rules.{count}
use Rattle.rbg_game.specs.Meaning.{game_of}
use Rattle.rbg_game.specs.Positions.{IsPositionOf}
use Rattle.legal_moves.specs.Compiled.{compiled_game}
use Rattle.legal_moves.specs.Jumps.{AreJumpRows, AreJumps}
use Rattle.legal_moves.specs.Searches.{IsWide}
use Rattle.legal_moves.specs.Tables.{inner_of, AreSame}
use Rattle.legal_moves.specs.lemmas.Configurations.{IsReady}
use Rattle.legal_moves.specs.lemmas.Reached.{AreReached}
use Rattle.legal_moves.specs.lemmas.Stands.{configurations_of}
use Rattle.legal_moves.proofs.automata.CompiledLemmas.{rules_at, rules_wide, rules_ready}
use Rattle.legal_moves.proofs.compiled.Compiled.ends.Goals as goal

pub ends-requires : goal.ends-requires
ends-requires c =
    let game = game_of c.self.inside.game in
    let tables = c.self.inside.tables.items in
    let many : c.len-rules.result ≡ length tables = omega arith in
    let last = rules_at game tables c.self.invariant.tables_are c.len-rules.result many in
    let here = subst (λ v. IsPositionOf (compiled_game v) c.args.at.now) (sym c.self.view_is) c.requires.at in
    record {
      ready = subst (λ ts. IsReady game ts (c.len-rules.result - 1)) (sym c.deref.ensures.value)
          (subst (λ n. IsReady game tables (n - 1)) (sym many) (rules_ready game tables c.self.invariant.tables_are c.self.invariant.sound));
      same = subst (AreSame (inner_of game.rules)) (sym c.deref-2.ensures.value) c.self.invariant.same_are;
      jumps = subst (λ ts. AreJumps game ts c.deref-3.result.now) (sym c.deref.ensures.value)
          (subst (AreJumps game tables) (sym c.deref-3.ensures.value) c.self.invariant.jumps_are);
      rows = subst (λ e. AreJumpRows game e c.self.inside.hops) (sym last) c.self.invariant.hops_are;
      state = here.state_is;
      place = subst (λ e. c.args.at.now.place ≤ count e) (sym last) here.place_is;
    }

pub returns-clause-reached : goal.returns-clause-reached
returns-clause-reached c =
    let game = game_of c.self.inside.game in
    let tables = c.self.inside.tables.items in
    let at = c.args.at.now in
    let many : c.len-rules.result ≡ length tables = omega arith in
    let last = rules_at game tables c.self.invariant.tables_are c.len-rules.result many in
    subst (λ v. let other = compiled_game v in IfOk c.ends.result
    (λ found. AreReached other other.rules at.place at.state (configurations_of found))) c.self.view_is
    (subst (λ e. IfOk c.ends.result (λ found. AreReached game e at.place at.state (configurations_of found))) last c.ends.ensures.reached)

pub returns-clause-wide : goal.returns-clause-wide
returns-clause-wide c =
    λ wide.
    let game = game_of c.self.inside.game in
    let tables = c.self.inside.tables.items in
    let at = c.args.at.now in
    let many : c.len-rules.result ≡ length tables = omega arith in
    let there = rules_wide game tables c.len-rules.result at.place at.state at.state c.self.invariant.tables_are many refl (c.ends.ensures.wide wide) in
    subst (λ v. IsWide (compiled_game v) at) c.self.view_is there
