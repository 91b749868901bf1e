use Rattle.std.proofs.Common.{◌≡◌, ◌||◌, ◌==◌, length, map, take}
use Rattle.rbg_game.specs.Rules.{cat_all, alt_all}
use Rattle.rbg_game.specs.Meaning.{regex_of}
use Rattle.legal_moves.specs.Glushkov.{is_nullable}
use Rattle.legal_moves.specs.lemmas.Tables.{IsAdded}
use Rattle.legal_moves.proofs.automata.AlikeLemmas.{some_nullable}
use Rattle.legal_moves.proofs.automaton.compile.+tables.Given as goal

abbrev pub invariant-add_parts-loop-part : goal.invariant-add_parts-loop-part
invariant-add_parts-loop-part l = record {
  added : IsAdded (cat_all (take l.part-index (map regex_of l.parts))) l.initial.tables.items l.tables.items l.initial.draft l.draft l.ends;
  nullable : l.ends.nullable ≡ is_nullable (cat_all (take l.part-index (map regex_of l.parts)));
}

abbrev pub invariant-add_branches-loop-branch : goal.invariant-add_branches-loop-branch
invariant-add_branches-loop-branch l = record {
  added : IsAdded (alt_all (take l.branch-index (map regex_of l.branches))) l.initial.tables.items l.tables.items l.initial.draft l.draft l.ends;
  nullable : l.ends.nullable ≡ (length l.branches == 0) || some_nullable (take l.branch-index (map regex_of l.branches));
}
