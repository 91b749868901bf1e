use Rattle.std.proofs.Common.{[], rules, sym, subst}
use Rattle.rbg_game.specs.Meaning.{game_of}
use Rattle.legal_moves.specs.Configurations.{expressions_of}
use Rattle.legal_moves.specs.Jumps.{AreJumps}
use Rattle.legal_moves.specs.Tables.{AreTables}
use Rattle.legal_moves.proofs.automata.CompiledLemmas.{AreTables-none, start_position}
use Rattle.legal_moves.proofs.compiled.Compiled.new.Goals as goal

pub all_jumps-requires-clause-tables : goal.all_jumps-requires-clause-tables
all_jumps-requires-clause-tables c =
    subst (AreTables (expressions_of (game_of c.args.game))) (sym c.deref.ensures.value)
    (c.in_ok-add_table.ensures [] (AreTables-none c.new-tables.result.items c.new-tables.ensures.items)).1

pub jumps_of_rules-requires-clause-tables : goal.jumps_of_rules-requires-clause-tables
jumps_of_rules-requires-clause-tables c =
    subst (AreTables (expressions_of (game_of c.args.game))) (sym c.deref-2.ensures.value)
    (c.in_ok-add_table.ensures [] (AreTables-none c.new-tables.result.items c.new-tables.ensures.items)).1

pub invariant_of-result : goal.invariant_of-result
invariant_of-result c = record {
  sound = c.requires;
  packing_is = search rules;
  tables_are = (c.in_ok-add_table.ensures [] (AreTables-none c.new-tables.result.items c.new-tables.ensures.items)).1;
  same_are = c.in_ok-same.ensures;
  jumps_are = subst (λ ts. AreJumps (game_of c.args.game) ts c.in_ok-jumps.jumps.items) c.deref.ensures.value c.in_ok-jumps.ensures;
  hops_are = c.in_ok-hops.ensures;
}

pub returns-clause-sound : goal.returns-clause-sound
returns-clause-sound c = record {
  sound = c.requires;
  start_is = start_position (game_of c.args.game) c.requires;
}
