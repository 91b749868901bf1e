use Rattle.std.proofs.Common.{◌≡◌, ◌-◌, IfOk, refl, sym, subst, length, arith}
use Rattle.std.proofs.lemmas.Result.{IfOk-weaker}
use Rattle.rbg_game.specs.Meaning.{game_of}
use Rattle.rbg_game.specs.Sound.{IsSoundGame}
use Rattle.rbg_game.specs.Positions.{IsPositionOf}
use Rattle.legal_moves.specs.Compiled.{compiled_game}
use Rattle.legal_moves.specs.Searches.{IsWide}
use Rattle.legal_moves.specs.Jumps.{AreJumps}
use Rattle.legal_moves.specs.Tables.{inner_of, AreSame}
use Rattle.legal_moves.specs.lemmas.Configurations.{IsReady, IsSearch}
use Rattle.legal_moves.specs.lemmas.Stands.{configurations_of}
use Rattle.legal_moves.proofs.automata.CompiledLemmas.{rules_search, rules_wide, rules_ready}
use Rattle.legal_moves.proofs.compiled.Compiled.search.Goals as goal

pub search-requires : goal.search-requires
search-requires c =
    let game = game_of c.self.inside.game in
    let many : c.len-rules.result ≡ length c.self.inside.tables.items = omega arith in
    let here = subst (λ v. IsPositionOf (compiled_game v) c.args.at.now) (sym c.self.view_is) c.requires.at in
    record {
      ready = subst (λ ts. IsReady game ts (c.len-rules.result - 1)) (sym c.deref.ensures.value)
          (subst (λ n. IsReady game c.self.inside.tables.items (n - 1)) (sym many)
          (rules_ready game c.self.inside.tables.items c.self.invariant.tables_are c.self.invariant.sound));
      same = subst (AreSame (inner_of game.rules)) (sym c.deref-2.ensures.value) c.self.invariant.same_are;
      jumps = subst (λ ts. AreJumps game ts c.deref-3.result.now) (sym c.deref.ensures.value)
          (subst (AreJumps game c.self.inside.tables.items) (sym c.deref-3.ensures.value) c.self.invariant.jumps_are);
      state = here.state_is;
    }

pub returns-clause-found : goal.returns-clause-found
returns-clause-found c =
    let game = game_of c.self.inside.game in
    let at = c.args.at.now in
    let many : c.len-rules.result ≡ length c.self.inside.tables.items = omega arith in
    subst (λ v. let other = compiled_game v in IfOk c.search.result
    (λ found. IsSearch other other.rules at.place at.state (configurations_of found))) c.self.view_is
    (IfOk-weaker c.search.result _ _
    (λ found h. rules_search game c.self.inside.tables.items c.len-rules.result at.place at.state at.state
    (configurations_of found) c.self.invariant.tables_are many refl h) c.search.ensures.found)

pub returns-clause-wide : goal.returns-clause-wide
returns-clause-wide c =
    λ wide.
    let game = game_of c.self.inside.game in
    let tables = c.self.inside.tables.items in
    let many : c.len-rules.result ≡ length tables = omega arith in
    let at = c.args.at.now in
    let there = rules_wide game tables c.len-rules.result at.place at.state at.state c.self.invariant.tables_are many refl (c.search.ensures.wide wide) in
    subst (λ v. IsWide (compiled_game v) at) c.self.view_is there

pub returns-clause-sound : goal.returns-clause-sound
returns-clause-sound c = subst (λ v. IsSoundGame (compiled_game v)) c.self.view_is c.self.invariant.sound
