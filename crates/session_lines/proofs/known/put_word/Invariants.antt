use Rattle.std.proofs.Common.{◌≡◌, ◌++◌, take, map}
use Rattle.std.specs.List.{flat_map}
use Rattle.rbg_game.specs.Meaning.{game_of}
use Rattle.session_lines.specs.Lines.{modifier_text}
use Rattle.session_lines.proofs.known.put_word.Given as goal

abbrev pub invariant-loop-modifier : goal.invariant-loop-modifier
invariant-loop-modifier l =
    l.line.items ≡ l.fn.line.items ++ flat_map (modifier_text (game_of l.game)) (map (λ m. (m.number, m.vertex)) (take l.modifier-index l.word))
