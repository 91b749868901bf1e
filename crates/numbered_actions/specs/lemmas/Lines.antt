-- Lines as they are put together.
use Rattle.std.specs.Prelude.{◌≡◌, ℕ, ◌+◌, ◌-◌, List, [], ◌∷◌, ◌++◌, take, drop, get_or}
use Rattle.std.specs.List.{flat_map}
use Rattle.rbg_text.specs.Token.{Text}
use Rattle.numbered_actions.specs.declared.lexemes.Lexeme.{Lexeme}
use Rattle.numbered_actions.specs.declared.stretches.Stretch.{Stretch}
use Rattle.numbered_actions.specs.Listed.{one_line, head_of}

-- a token with what stands before it, in one line
abbrev pub with_gap : Lexeme → List ℕ
with_gap lexeme = one_line lexeme.gap.now ++ lexeme.bytes.now

-- the line of an action with this number, of its first token and the others
abbrev pub line_of : Text → ℕ → Lexeme → List Lexeme → List ℕ
line_of text number first more = head_of text number first.at ++ ((first.bytes.now ++ flat_map with_gap more) ++ 10 ∷ [])

-- the line of the action that the stretch cuts
abbrev pub IsLineOfStretch : Text → List Lexeme → Stretch → ℕ → List ℕ → Type 0
IsLineOfStretch text tokens action number line = (first : Lexeme) × (first ≡ get_or tokens action.from first)
    × (line ≡ line_of text number first (take (action.to - (action.from + 1)) (drop (action.from + 1) tokens)))
