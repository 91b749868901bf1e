-- What `clap` finds in the line of `load` with a goal. It is shown for any parser of goals first: what a parser is that is not known computes
-- no digits.
use Rattle.std.proofs.Common.{◌≡◌, ◌≢◌, ◌∙◌, ◌==◌, ◌≤◌, ◌^◌, ◌&&◌, ◌∷◌, ◌++◌, [], length, take, drop, Some, true, false}
use Rattle.std.proofs.Common.{ℕ, List, codes, refl, ap, inl, inr, arith, nat_lt, nat_le, lt-ltb, le-leb}
use Rattle.std.specs.Prelude.{pos}
use Rattle.std.specs.Char.{digit_value}
use Rattle.std.specs.List.{list_all}
use Rattle.std.specs.Str.Parse.{AllDigits, IsNumeral, digits_value}
use Rattle.std.proofs.lemmas.Bool.Decides.{eqb_tells}
use Rattle.rbg_game.specs.declared.goal.Goal.{Goal}
use Rattle.rbg_game.specs.Goals.{points_in}
use Rattle.line_syntax.specs.Numbers.{WritesNumber}
use Rattle.clap.proofs.OnLiterals.{clap_on_literals}
use Rattle.clap.specs.Faults.{check_fault, defaults_fault, level_fault, settle_fault, walk_fault}
use Rattle.clap.specs.Kinds.{Kinds, or_else}
use Rattle.clap.specs.Simple.{built, built_leaf, inherited, names_of}
use Rattle.clap.specs.Values.{reading_of}
use Rattle.clap.specs.ValueTests.{accepts}
use Rattle.clap.specs.Walk.{Held, finished, nothing_held, settled, walk, walk_from}
use Rattle.clap.specs.Words.{App, Shape, Text, fault_of, subcommand_of}
use Rattle.clap.specs.declared.builder.value_parser.Reading.TheVariants.{WithoutMinus}
use Rattle.clap.specs.declared.builder.value_parser.ValueParser.{ValueParser}
use Rattle.clap.specs.declared.builder.value_parser.ValueParser.TheVariants.{Signed}
use Rattle.command_line.specs.Words.{file_word, game_word, goal_word, load, program, shape_in}
use Rattle.command_line.proofs.WrittenLines.{IsRead, not_a_digit, row}

module _ (parser : ValueParser) (name file game points : Text) (is_file : IsRead file) (is_game : IsRead game) (is_points : IsRead points) where
  load_with : Shape
  load_with = shape_in (record load { takes = file_word ∷ game_word ∷ record goal_word { parser = Some parser } ∷ [] })

  -- the program with this parser for goals
  abbrev with_goals : App
  with_goals = record program { subs = take 1 program.subs ++ (load_with ∷ drop 2 program.subs) }

  named_by : subcommand_of with_goals (name ∷ codes "load" ∷ file ∷ game ∷ codes "--goal" ∷ points ∷ [])
      ≡ Some (codes "load", row (codes "FILE") file ∷ row (codes "GAME") game ∷ record (row (codes "goal") points) { reading = reading_of parser } ∷ [])
  unfolding clap_on_literals load_with
  named_by = simp (is_file.not_end, is_file.no_flag, is_game.not_end, is_game.no_flag, is_points.not_end, is_points.no_flag)

  -- `load` as it is built, its words, and what is held at their end
  built_load : Shape
  unfolding clap_on_literals load_with
  built_load = built_leaf (inherited program.top load_with)

  words : List Text
  words = file ∷ game ∷ codes "--goal" ∷ points ∷ []

  at_end : Held
  at_end = record { rows = row (codes "FILE") file ∷ row (codes "GAME") game ∷ []; pending = Some (codes "goal", points ∷ []); skip = 0 }

  ends : (walk built_load.rules [] nothing_held words).held ≡ at_end
  unfolding clap_on_literals load_with built_load words at_end
  ends = simp (is_file.not_end, is_file.no_flag, is_game.not_end, is_game.no_flag, is_points.not_end, is_points.no_flag)

  walked : walk_fault built_load [] (walk_from nothing_held) words ≡ []
  unfolding clap_on_literals load_with built_load words
  walked = simp (is_file.not_end, is_file.no_flag, is_game.not_end, is_game.no_flag, is_points.not_end, is_points.no_flag)

  -- what may be wrong behind the last word
  rest : Held → Kinds
  rest end = or_else (settle_fault built_load.rules built_load.args_override_self end)
      (or_else (defaults_fault (settled built_load.rules end).rows built_load.rules) (check_fault built_load (finished built_load.rules end) false))

  module _ (accepted : accepts false parser points ≡ true) where
    settles : settle_fault built_load.rules built_load.args_override_self at_end ≡ []
    unfolding clap_on_literals load_with built_load at_end
    settles = simp accepted

    defaults : defaults_fault (settled built_load.rules at_end).rows built_load.rules ≡ []
    unfolding clap_on_literals load_with built_load at_end
    defaults = refl

    checks : check_fault built_load (finished built_load.rules at_end) false ≡ []
    unfolding clap_on_literals load_with built_load at_end
    checks = refl

    nothing_left : rest at_end ≡ []
    unfolding rest
    nothing_left =
        ap (λ kinds. or_else kinds (or_else (defaults_fault (settled built_load.rules at_end).rows built_load.rules)
        (check_fault built_load (finished built_load.rules at_end) false))) settles
        ∙ (ap (λ kinds. or_else kinds (check_fault built_load (finished built_load.rules at_end) false)) defaults ∙ checks)

    nothing_below : level_fault built_load [] nothing_held words false [] ≡ []
    unfolding rest
    nothing_below = ap (λ kinds. or_else kinds (rest (walk built_load.rules [] nothing_held words).held)) walked ∙ (ap rest ends ∙ nothing_left)

    right_by : fault_of with_goals (name ∷ codes "load" ∷ file ∷ game ∷ codes "--goal" ∷ points ∷ []) ≡ []
    unfolding clap_on_literals load_with built_load words
    right_by = ap (λ kinds. level_fault (built with_goals).top (names_of (built with_goals)) nothing_held (codes "load" ∷ words) true kinds) nothing_below

all_pass : (ds : List ℕ) → AllDigits 10 ds → list_all (λ d. nat_lt (digit_value d) 10) ds ≡ true
all_pass [] all = refl
all_pass (d ∷ ds) all = rw (lt-ltb (digit_value d) 10 all.0) (all_pass ds all.1)

eqb_false : (a b : ℕ) → a ≢ b → (a == b) ≡ false
eqb_false a b differ = elim (eqb_tells a b) [
  | inl same ↦ absurd (differ same.1)
  | inr other ↦ other.0
]

-- the points of a goal are accepted
goal_fits : (points : Text) (number : ℕ) → IsNumeral 10 points → number ≡ digits_value 10 points → 1 ≤ number → number ≤ 1000000
    → accepts false (Signed (pos 1) (pos 1000000)) points ≡ true
goal_fits [] number numeral is some few = absurd (omega (arith, numeral.0))
goal_fits (byte ∷ bytes) number numeral is some few =
    let no_minus : (byte == 45) ≡ false = eqb_false byte 45 (not_a_digit byte 45 refl numeral.1.0) in
    let no_plus : (byte == 43) ≡ false = eqb_false byte 43 (not_a_digit byte 43 refl numeral.1.0) in
    let passes = all_pass (byte ∷ bytes) numeral.1 in
    let low : nat_le 1 (digits_value 10 (byte ∷ bytes)) ≡ true = le-leb 1 (digits_value 10 (byte ∷ bytes)) (omega (arith, is)) in
    let high : nat_le (digits_value 10 (byte ∷ bytes)) 1000000 ≡ true = le-leb (digits_value 10 (byte ∷ bytes)) 1000000 (omega (arith, is)) in
    let fits : nat_lt (digits_value 10 (byte ∷ bytes)) (2 ^ 63) ≡ true = lt-ltb (digits_value 10 (byte ∷ bytes)) (2 ^ 63) (omega (arith, is)) in
    let long : nat_lt 0 (length (byte ∷ bytes)) ≡ true = lt-ltb 0 (length (byte ∷ bytes)) (omega arith) in
    simp (no_minus, no_plus, passes, low, high, fits) (ap (λ b. (b && true) && true) long)

module _ (name file game points : Text) (is_file : IsRead file) (is_game : IsRead game) (is_points : IsRead points) where
  pub load_goal_named : subcommand_of program (name ∷ codes "load" ∷ file ∷ game ∷ codes "--goal" ∷ points ∷ [])
      ≡ Some (codes "load", row (codes "FILE") file ∷ row (codes "GAME") game ∷ record (row (codes "goal") points) { reading = WithoutMinus } ∷ [])
  unfolding load_with
  load_goal_named = named_by (Signed (pos 1) (pos 1000000)) name file game points is_file is_game is_points

  pub load_goal_right : (goal : Goal) → WritesNumber points (points_in goal)
      → fault_of program (name ∷ codes "load" ∷ file ∷ game ∷ codes "--goal" ∷ points ∷ []) ≡ []
  unfolding load_with
  load_goal_right goal writes = right_by (Signed (pos 1) (pos 1000000)) name file game points is_file is_game is_points
      (goal_fits points (points_in goal) writes.digits writes.number_is goal.some goal.few)
