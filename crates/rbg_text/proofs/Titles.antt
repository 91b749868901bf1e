-- A section by its title.
use Rattle.std.proofs.Common.{◌≡◌, true, false, None, codes}
use Rattle.std.specs.Str.{bytes_eq}
use Rattle.rbg_text.specs.Token.{Text}
use Rattle.rbg_text.specs.Parse.{ParseState}
use Rattle.rbg_text.specs.lemmas.Parse.{and_then, name}
use Rattle.rbg_text.specs.lemmas.ParseSections.{give, listed, declaration, all_variables, all_vertices, all_rules, section_by}
use Rattle.rbg_text.specs.Said.{players, pieces, variables, board, rules}

module _ (title : Text) (i : ParseState) where
  pub players_by : bytes_eq title (codes "players") ≡ true → section_by title i ≡ and_then (listed declaration i) (λ all. give (players all))
  unfolding section_by
  players_by a = rw a

  pub pieces_by : bytes_eq title (codes "players") ≡ false → bytes_eq title (codes "pieces") ≡ true
      → section_by title i ≡ and_then (listed name i) (λ all. give (pieces all))
  unfolding section_by
  pieces_by a b = rw (a, b)

  pub variables_by : bytes_eq title (codes "players") ≡ false → bytes_eq title (codes "pieces") ≡ false → bytes_eq title (codes "variables") ≡ true
      → section_by title i ≡ and_then (all_variables i) (λ all. give (variables all))
  unfolding section_by
  variables_by a b d = rw (a, b, d)

  pub board_by : bytes_eq title (codes "players") ≡ false → bytes_eq title (codes "pieces") ≡ false
      → bytes_eq title (codes "variables") ≡ false → bytes_eq title (codes "board") ≡ true
      → section_by title i ≡ and_then (all_vertices i) (λ all. give (board all))
  unfolding section_by
  board_by a b d e = rw (a, b, d, e)

  pub rules_by : bytes_eq title (codes "players") ≡ false → bytes_eq title (codes "pieces") ≡ false
      → bytes_eq title (codes "variables") ≡ false → bytes_eq title (codes "board") ≡ false
      → bytes_eq title (codes "rules") ≡ true → section_by title i ≡ and_then (all_rules i) (λ all. give (rules all))
  unfolding section_by
  rules_by a b d e f = rw (a, b, d, e, f)

  pub none_by : bytes_eq title (codes "players") ≡ false → bytes_eq title (codes "pieces") ≡ false
      → bytes_eq title (codes "variables") ≡ false → bytes_eq title (codes "board") ≡ false
      → bytes_eq title (codes "rules") ≡ false → section_by title i ≡ None
  unfolding section_by
  none_by a b d e f = rw (a, b, d, e, f)
