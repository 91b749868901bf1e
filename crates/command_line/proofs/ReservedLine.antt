-- What `clap` finds in the lines of `create` and `grow` with `--reserve`, step by step.
use Rattle.std.proofs.Common.{◌≡◌, ◌∙◌, [], ◌∷◌, ap, codes, false, true, refl, List, None}
use Rattle.clap.proofs.OnLiterals.{clap_on_literals}
use Rattle.clap.specs.Faults.{check_fault, defaults_fault, level_fault, settle_fault, walk_fault}
use Rattle.clap.specs.Kinds.{Kinds, or_else}
use Rattle.clap.specs.Simple.{built, built_leaf, inherited, names_of, new_shape}
use Rattle.clap.specs.Walk.{Held, finished, nothing_held, settled, walk, walk_from}
use Rattle.clap.specs.Words.{Shape, Text, fault_of}
use Rattle.command_line.specs.Words.{file_word, pages_word, program, reserve_word}
use Rattle.command_line.proofs.WrittenLines.{IsRead, row}

module _ (command file number : Text) (is_file : IsRead file) (is_number : IsRead number) where
  -- the command as it is built, its words, and what is held at their end
  pub built_command : Shape
  unfolding clap_on_literals
  built_command = built_leaf (inherited program.top (record (new_shape command) { rules = file_word ∷ pages_word ∷ reserve_word ∷ [] }))

  pub words : List Text
  words = file ∷ codes "--pages" ∷ number ∷ codes "--reserve" ∷ []

  at_end : Held
  at_end = record {
    rows = row (codes "FILE") file ∷ row (codes "pages") number ∷ row (codes "reserve") (codes "true") ∷ [];
    pending = None;
    skip = 0;
  }

  ends : (walk built_command.rules [] nothing_held words).held ≡ at_end
  unfolding clap_on_literals built_command words at_end
  ends = simp (is_file.not_end, is_file.no_flag, is_number.not_end, is_number.no_flag)

  walked : walk_fault built_command [] (walk_from nothing_held) words ≡ []
  unfolding clap_on_literals built_command words
  walked = simp (is_file.not_end, is_file.no_flag, is_number.not_end, is_number.no_flag)

  -- what may be wrong behind the last word
  rest : Held → Kinds
  rest end = or_else (settle_fault built_command.rules built_command.args_override_self end)
      (or_else (defaults_fault (settled built_command.rules end).rows built_command.rules) (check_fault built_command (finished built_command.rules end) false))

  nothing_left : rest at_end ≡ []
  unfolding clap_on_literals built_command at_end rest
  nothing_left = refl

  pub nothing_below : level_fault built_command [] nothing_held words false [] ≡ []
  unfolding rest
  nothing_below = ap (λ kinds. or_else kinds (rest (walk built_command.rules [] nothing_held words).held)) walked ∙ (ap rest ends ∙ nothing_left)

module _ (name file number : Text) (is_file : IsRead file) (is_number : IsRead number) where
  pub create_reserved_right : fault_of program (name ∷ codes "create" ∷ file ∷ codes "--pages" ∷ number ∷ codes "--reserve" ∷ []) ≡ []
  unfolding clap_on_literals built_command words
  create_reserved_right =
      ap (λ kinds. level_fault (built program).top (names_of (built program)) nothing_held
      (codes "create" ∷ words (codes "create") file number is_file is_number) true kinds)
      (nothing_below (codes "create") file number is_file is_number)

  pub grow_reserved_right : fault_of program (name ∷ codes "grow" ∷ file ∷ codes "--pages" ∷ number ∷ codes "--reserve" ∷ []) ≡ []
  unfolding clap_on_literals built_command words
  grow_reserved_right =
      ap (λ kinds. level_fault (built program).top (names_of (built program)) nothing_held
      (codes "grow" ∷ words (codes "grow") file number is_file is_number) true kinds)
      (nothing_below (codes "grow") file number is_file is_number)
