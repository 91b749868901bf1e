-- What enough work comes to, in the words of the headline in brief.
use Rattle.std.proofs.Common.{◌≡◌, ◌⊎◌, inl, inr, ℕ, ◌+◌, ◌*◌, ◌≤◌, List, [], ◌∷◌, Option, None, Some, refl, sym, subst, arith}
use Rattle.rbg_game.specs.Games.{Game}
use Rattle.retrograde.specs.View.{IsFinished}
use Rattle.solver.specs.Machine.{Command, load, work}
use Rattle.headline.specs.Tables.{BriefTable, IsTrueIn, IsTrueOfItsGame, TextSays, play_of}
use Rattle.headline.specs.Brief.{BriefAnswer, loaded, worked, refused, BriefSitting, GoesOnBy, Makes, MakeInTurn, MayMake, SittingsMake, units_so_far}
use Rattle.progress.specs.Enough.{HasAtMost}
use Rattle.progress.specs.InBrief.{units_for, units_for_all, units_for_sittings}
use Rattle.progress.proofs.Bounds.{enough}

-- where no game is loaded, no unit was asked for; of a table each that was asked for is done, or it is finished
abbrev HasDone : ℕ → Option BriefTable → Type 0
HasDone asked None = asked ≡ 0
HasDone asked (Some table) = IsFinished table.view ⊎ (asked ≤ units_so_far table.view)

fewer : (asked more : ℕ) (table : Option BriefTable) → asked ≤ more → HasDone more table → HasDone asked table
fewer asked more None less none = omega (arith, less, none)
fewer asked more (Some table) less (inl finished) = inl finished
fewer asked more (Some table) less (inr done) = inr (omega (arith, less, done))

stays : (asked : ℕ) (old new : Option BriefTable) → new ≡ old → HasDone asked old → HasDone (asked + 0) new
stays asked old new same has = fewer (asked + 0) asked new (omega arith) (subst (HasDone asked) (sym same) has)

goes_on : (asked units done : ℕ) (old new : BriefTable) → HasDone asked (Some old) → GoesOnBy units done old new → HasDone (asked + units) (Some new)
goes_on asked units done old new (inl finished) by = inl (subst (λ (t : BriefTable). IsFinished t.view) (sym (by.finished finished)) finished)
goes_on asked units done old new (inr so_far) by =
    elim by.all [
      | inl all ↦ inr (omega (arith, so_far, all, by.units))
      | inr ended ↦ inl ended.1
    ]

-- one command with its answer
makes_more : (asked : ℕ) (answer : BriefAnswer) (command : Command) (old new : Option BriefTable) → HasDone asked old → Makes answer command old new
    → HasDone (asked + units_for command answer) new
makes_more asked loaded (load text goal) old new has just =
    subst (HasDone (asked + 0)) (sym just.is) (inr (none_yet old just.none has))
  where
    none_yet : (table : Option BriefTable) → table ≡ None → HasDone asked table → asked + 0 ≤ units_so_far just.table.view
    none_yet None same none = omega (arith, none)
    none_yet (Some table) same has = absurd (cc)
makes_more asked loaded (work units) old new has makes = absurd makes
makes_more asked (worked done) (load text goal) old new has makes = absurd makes
makes_more asked (worked done) (work units) None new has makes = absurd makes
makes_more asked (worked done) (work units) (Some old) None has makes = absurd makes
makes_more asked (worked done) (work units) (Some old) (Some new) has by = goes_on asked units done old new has by
makes_more asked refused (load text goal) old new has same = stays asked old new same has
makes_more asked refused (work units) old new has same = stays asked old new same has

-- those of a sitting
all_make_more : (asked : ℕ) (answered : List (Command × BriefAnswer)) (old new : Option BriefTable) → HasDone asked old → MakeInTurn answered old new
    → HasDone (asked + units_for_all answered) new
all_make_more asked [] old new has same = stays asked old new same has
all_make_more asked ((command, answer) ∷ answered) old new has (mid, makes, rest) =
    let all = all_make_more (asked + units_for command answer) answered mid new (makes_more asked answer command old mid has makes) rest in
    fewer (asked + (units_for command answer + units_for_all answered)) (asked + units_for command answer + units_for_all answered) new (omega arith) all

-- one in doubt undoes nothing
doubt_undoes_nothing : (asked : ℕ) (in_doubt : Option Command) (old new : Option BriefTable) → HasDone asked old → MayMake in_doubt old new
    → HasDone asked new
doubt_undoes_nothing asked None old new has same = subst (HasDone asked) (sym same) has
doubt_undoes_nothing asked (Some command) old new has (answer, makes) =
    fewer asked (asked + units_for command answer) new (omega arith) (makes_more asked answer command old new has makes)

sittings_make_more : (asked : ℕ) (sittings : List BriefSitting) (old new : Option BriefTable) → HasDone asked old → SittingsMake sittings old new
    → HasDone (asked + units_for_sittings sittings) new
sittings_make_more asked [] old new has same = stays asked old new same has
sittings_make_more asked (sitting ∷ sittings) old new has (begins, (all, (left, doubt, rest))) =
    let behind = all_make_more asked sitting.answered old sitting.reached has all in
    let found = doubt_undoes_nothing (asked + units_for_all sitting.answered) sitting.in_doubt sitting.reached left behind doubt in
    let more = sittings_make_more (asked + units_for_all sitting.answered) sittings left new found rest in
    fewer (asked + (units_for_all sitting.answered + units_for_sittings sittings)) (asked + units_for_all sitting.answered + units_for_sittings sittings) new
    (omega arith) more

-- a table that tells what is so, with two units for each position that play can come to, is finished
with_enough : (table : BriefTable) (game : Game) (n : ℕ) → IsTrueIn game table → HasAtMost (play_of table.goal game) n → 2 * n ≤ units_so_far table.view
    → IsFinished table.view
with_enough table game n so few many =
    enough (play_of table.goal game) table.view so.once so.reached so.expanded so.settled n few many

pub it_gets_there : (sittings : List BriefSitting) (found : Option BriefTable) (table : BriefTable) (game : Game) (n : ℕ) → SittingsMake sittings None found
    → IsTrueOfItsGame found → found ≡ Some table → TextSays table.text game → HasAtMost (play_of table.goal game) n
    → 2 * n ≤ units_for_sittings sittings → IsFinished table.view
it_gets_there sittings found table game n made so is says few many =
    let (other, true_in) : IsTrueOfItsGame (Some table) = subst (λ (t : Option BriefTable). IsTrueOfItsGame t) is so in
    let one : game ≡ other = true_in.only game says in
    let few_of_it : HasAtMost (play_of table.goal other) n = subst (λ (g : Game). HasAtMost (play_of table.goal g) n) one few in
    let asked = units_for_sittings sittings in
    let has : HasDone asked (Some table) =
    subst (HasDone asked) is (fewer asked (0 + asked) found (omega arith) (sittings_make_more 0 sittings None found refl made)) in
    elim has [
      | inl finished ↦ finished
      | inr done ↦ with_enough table other n true_in few_of_it (omega (arith, many, done))
    ]
