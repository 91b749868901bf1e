-- What the words of a command line ask for, once `clap` has taken them or not.
use Rattle.std.proofs.Common.{◌≡◌, ◌∙◌, ap, refl, sym, subst, true, List, [], inl, inr}
use Rattle.std.specs.Prelude.{Result, IfErr, IfOk}
use Rattle.std.proofs.lemmas.Result.{IfErr-weaker, IfOk-weaker}
use Rattle.clap.proofs.OnLiterals.{clap_on_literals}
use Rattle.clap.specs.Values.{kind_of}
use Rattle.clap.specs.Words.{App, HasKind, HasMatchesOf, Kinds, Text, app_of, fault_of, is_simple, is_simple_and_free, subcommand_of, subcommand_rows_of}
use Rattle.clap.specs.declared.builder.command.Command.{Command}
use Rattle.clap.specs.declared.error.Error.{Error}
use Rattle.clap.specs.declared.parser.matches.ArgMatches.{ArgMatches}
use Rattle.command_line.specs.declared.words.Words.{Words}
use Rattle.command_line.specs.Commands.{AskNothing, FailAs, HasApp}
use Rattle.command_line.specs.Words.{AsksBy, Mean, program}

is_a_simple_one : is_simple program ≡ true
unfolding clap_on_literals
is_a_simple_one = refl

is_a_free_one : is_simple_and_free program ≡ true
unfolding clap_on_literals
is_a_free_one = refl

module _ (command : Command) (line : List Text) (has : HasApp program command) where
  -- what `clap` says of the command it says of the program
  same_fault : fault_of (app_of command) line ≡ fault_of program line
  same_fault = ap (λ (a : App). fault_of a line) has.reads

  is_free : is_simple_and_free (app_of command) ≡ true
  is_free = ap is_simple_and_free has.reads ∙ is_a_free_one

  -- it took the words
  module _ (matches : ArgMatches) (found : HasMatchesOf (app_of command) line matches)
      (right : is_simple_and_free (app_of command) ≡ true → fault_of (app_of command) line ≡ []) where
    met : subcommand_rows_of matches ≡ subcommand_of program line
    met = (found (ap is_simple has.reads ∙ is_a_simple_one)).1 ∙ ap (λ (a : App). subcommand_of a line) has.reads

    pub taken : (result : Result Words Error) → IfOk result (AsksBy (subcommand_rows_of matches)) → IfOk result (Mean line)
    taken result = IfOk-weaker result _ _ (λ asked it. record {
      right = sym same_fault ∙ right is_free;
      asks = subst (λ m. AsksBy m asked) met it;
    })

    pub asks_nothing : (result : Result Words Error) → IfErr result (λ error. AskNothing (subcommand_rows_of matches) (kind_of error))
        → IfErr result (λ error. FailAs line (kind_of error))
    asks_nothing result = IfErr-weaker result _ _ (λ error it. elim it [
      | inl memory ↦ inl memory
      | inr none ↦ inr (inr (none.0, λ asked mean. none.1 asked (subst (λ m. AsksBy m asked) (sym met) mean.asks)))
    ])

  -- it refused them
  pub not_taken : (error : Error) → (is_simple_and_free (app_of command) ≡ true → HasKind (fault_of (app_of command) line) error) → FailAs line (kind_of error)
  not_taken error kinds = elim (subst (λ (ks : Kinds). HasKind ks error) same_fault (kinds is_free)) [
    | inl memory ↦ inl memory
    | inr among ↦ inr (inl among)
  ]
