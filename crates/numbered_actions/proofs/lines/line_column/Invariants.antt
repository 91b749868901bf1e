use Rattle.std.proofs.Common.{◌≡◌, ◌≤◌, ◌+◌, take, fold}
use Rattle.numbered_actions.specs.Listed.{behind_byte}
use Rattle.numbered_actions.proofs.lines.line_column.Given as goal

abbrev pub invariant-loop-byte : goal.invariant-loop-byte
invariant-loop-byte l = record {
  place_is : l.place ≡ fold behind_byte (record { line = 1; column = 1 }) (take l.byte-index l.before);
  line_fits : l.place.line ≤ l.byte-index + 1;
  column_fits : l.place.column ≤ l.byte-index + 1;
}
