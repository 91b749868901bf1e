use Rattle.std.proofs.Common.{◌≡◌, map}
use Rattle.rbg_text.specs.Said.{section_view}
use Rattle.rbg_read.specs.lemmas.Parts.{kinds_of, kinds_view}
use Rattle.rbg_read.proofs.parts.collect.Given as goal

abbrev pub invariant-loop-section : goal.invariant-loop-section
invariant-loop-section l = kinds_view l.all ≡ kinds_of (map section_view l.yielded)
