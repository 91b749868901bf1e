-- How a command line is put together, and what is found in it.
use Rattle.std.proofs.Common.{◌≡◌, ◌∙◌, ◌||◌, ap, ap₂, refl, sym, subst, Bool, true, false, true≢false, List, [], ◌∷◌, ◌++◌, Option, Some, None, inl, inr}
use Rattle.std.specs.Prelude.{Box, Result, Ok, Err, IfOk, option_map, string_bytes}
use Rattle.std.specs.Box.{box_value}
use Rattle.std.specs.Str.{bytes_eq}
use Rattle.std.proofs.lemmas.Slice.Eq.{bytes_eq-Decides}
use Rattle.clap.specs.Built.{AddsArg, AddsSubcommand}
use Rattle.clap.specs.Words.{App, Row, Rule, Shape, Text, subcommand_rows, with_rule, with_subcommand}
use Rattle.clap.specs.declared.builder.arg.Arg.{Arg}
use Rattle.clap.specs.declared.builder.command.Command.{Command}
use Rattle.clap.specs.declared.parser.matches.ArgMatches.TheViews.{out-SubCommand}
use Rattle.clap.specs.declared.parser.matches.SubCommand.{SubCommand}
use Rattle.command_line.specs.declared.words.Words.{Words}
use Rattle.command_line.specs.Commands.{AsksIfAny, HasApp, HasRule, leaf}
use Rattle.command_line.specs.Words.{AsksIn, CommandForm, Found, Is, Owned}

-- one more word
pub more_word : {shape : Shape} {rule : Rule} {old new : Command} {arg : Arg} → HasApp (leaf shape) old → HasRule rule arg → AddsArg old arg new
    → HasApp (leaf (record shape { rules = shape.rules ++ rule ∷ [] })) new
more_word has word adds = record {
  reads = adds.shape word.local ∙ ap₂ with_rule has.reads word.reads;
  local = adds.globals ∙ ap₂ (λ a b. a || b) has.local word.local;
}

-- one more command
pub more_command : {app : App} {shape : Shape} {old sub new : Command} → HasApp app old → HasApp (leaf shape) sub → AddsSubcommand old sub new
    → HasApp (with_subcommand app shape) new
more_command has below adds = record {
  reads = adds.shape below.local ∙ ap₂ with_subcommand has.reads (ap (λ (a : App). a.top) below.reads);
  local = adds.globals ∙ ap₂ (λ a b. a || b) has.local below.local;
}

-- the name and the rows of the command that was met
pub rows_met : {Z : Type 0} (o : Option (Box SubCommand Z)) (name : Text) (rows : List Row)
    → Some name ≡ option_map (λ b. (out-SubCommand (box_value b)).name.now) o → Some rows ≡ option_map (λ p. p.1) (subcommand_rows o)
    → subcommand_rows o ≡ Some (name, rows)
rows_met None name rows named found = cc
rows_met (Some b) name rows named found = cc

either_false : (a b : Bool) → (a || b) ≡ false → (a ≡ false) × (b ≡ false)
either_false true b is = absurd (true≢false is)
either_false false b is = (refl, is)

-- one of the commands has this name
abbrev pub is_name_in : List CommandForm → Text → Bool
is_name_in [] name = false
is_name_in (form ∷ forms) name = bytes_eq form.name name || is_name_in forms name

other_name : (mine other name : Text) → bytes_eq mine name ≡ false → other ≡ mine → other ≡ name → ⊥
other_name mine other name differs is same = true≢false (sym ((bytes_eq-Decides mine name).1 (sym is ∙ same)) ∙ differs)

-- a name that none of them has asks for nothing
pub no_command : (forms : List CommandForm) (name : Text) (found : Found) (asked : Words) → is_name_in forms name ≡ false → ¬ AsksIn forms name found asked
no_command [] name found asked none it = it
no_command (form ∷ forms) name found asked none it = elim it [
  | inl here ↦ other_name form.name name name (either_false _ _ none).0 here.0 refl
  | inr there ↦ no_command forms name found asked (either_false _ _ none).1 there
]

module _ (form : CommandForm) (after : List CommandForm) (name : Text) (found : Found) (is : name ≡ form.name) where
  in_list : (before : List CommandForm) (asked : Words) → form.asks found asked → AsksIn (before ++ form ∷ after) name found asked
  in_list [] asked it = inl (is, it)
  in_list (other ∷ before) asked it = inr (in_list before asked it)

  alone_in_list : (before : List CommandForm) (asked : Words) → is_name_in before form.name ≡ false → is_name_in after form.name ≡ false
      → AsksIn (before ++ form ∷ after) name found asked → form.asks found asked
  alone_in_list [] asked none none_behind it = elim it [
    | inl here ↦ here.1
    | inr there ↦ absurd (no_command after name found asked (subst (λ n. is_name_in after n ≡ false) (sym is) none_behind) there)
  ]
  alone_in_list (other ∷ before) asked none none_behind it = elim it [
    | inl here ↦ absurd (other_name other.name name form.name (either_false _ _ none).0 here.0 is)
    | inr there ↦ alone_in_list before asked (either_false _ _ none).1 none_behind there
  ]

  -- what is asked for by the command that alone has this name
  by_name : (before : List CommandForm) (asked : Option Words) → is_name_in before form.name ≡ false → is_name_in after form.name ≡ false
      → AsksIfAny (form.asks found) asked → AsksIfAny (AsksIn (before ++ form ∷ after) name found) asked
  by_name before None none none_behind it = λ asked other. it asked (alone_in_list before asked none none_behind other)
  by_name before (Some asked) none none_behind it = in_list before asked it

  pub by_its_name : {E : Type 0} (before : List CommandForm) (result : Result (Option Words) E) → is_name_in before form.name ≡ false
      → is_name_in after form.name ≡ false → IfOk result (AsksIfAny (form.asks found))
      → IfOk result (AsksIfAny (AsksIn (before ++ form ∷ after) name found))
  by_its_name before (Ok asked) none none_behind it = by_name before asked none none_behind it
  by_its_name before (Err e) none none_behind it = it

-- a word that was found, and one that was not
pub is_there : (found : Option Text) (given : Option Owned) (word : Owned) → found ≡ option_map string_bytes given → given ≡ Some word → Is found word
is_there found given word is some = is ∙ ap (λ (o : Option Owned). option_map string_bytes o) some

pub not_there : (found : Option Text) (given : Option Owned) (word : Owned) → found ≡ option_map string_bytes given → given ≡ None → ¬ Is found word
not_there found given word is none there =
    let nothing : found ≡ None = is ∙ ap (λ (o : Option Owned). option_map string_bytes o) none in cc
