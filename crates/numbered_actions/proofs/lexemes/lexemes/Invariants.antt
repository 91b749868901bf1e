use Rattle.std.proofs.Common.{◌≡◌, ◌+◌, List, ◌++◌, length, drop}
use Rattle.rbg_text.specs.Lex.{lex}
use Rattle.rbg_text.specs.lemmas.View.{with_front}
use Rattle.numbered_actions.specs.declared.lexemes.Lexeme.{Lexeme}
use Rattle.numbered_actions.specs.Placed.{Stand}
use Rattle.numbered_actions.specs.Tokens.{tokens_of}
use Rattle.numbered_actions.proofs.lexemes.lexemes.Given as goal

abbrev pub invariant-loop-found : goal.invariant-loop-found
invariant-loop-found l = record {
  lexed : lex l.text ≡ with_front (tokens_of l.found.items) (lex l.lexer);
  left : drop l.end l.text ≡ l.lexer;
  so_far : l.end + length l.lexer ≡ length l.text;
  placed : (more : List Lexeme) → Stand l.text more l.lexer → Stand l.text (l.found.items ++ more) l.text;
}

abbrev pub decreases-loop-found : goal.decreases-loop-found
decreases-loop-found l = length l.lexer
