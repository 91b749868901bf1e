-- With which status words end that ask for no work.
use Rattle.std.specs.Prelude.{◌≡◌, ◌⊎◌, ℕ, List}
use Rattle.clap.specs.Words.{Text}
use Rattle.command_line.specs.Words.{AskHelp, MeanNothing}

-- 0 for help and the version, 2 for words that are no command, 5 for want of memory
abbrev pub IsStatusOfWords : List Text → ℕ → Type 0
IsStatusOfWords line status = ((status ≡ 0) × AskHelp line) ⊎ (((status ≡ 2) × MeanNothing line) ⊎ (status ≡ 5))
