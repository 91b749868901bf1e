-- What holds of the solver's calls, in brief.
use Rattle.std.specs.Prelude.{◌≡◌, ℕ, true, false, Option, None, IsTrue}
use Rattle.std.proofs.Common.{refl, sym, subst, ◌∙◌}
use Rattle.game_file.specs.Kept.{Kept, Layout}
use Rattle.game_file.specs.State.{State}
use Rattle.solver.specs.Machine.{Command}
use Rattle.headline.specs.Tables.{BriefTable, IsTrueOfItsGame}
use Rattle.headline.specs.Brief.{answer_of, AreLawful, BriefAnswer, Makes}
use Rattle.headline.specs.lemmas.Told.{IsToldBy, told_by_one, table_of, table_is_so, does_so}
use Rattle.headline.specs.lemmas.Histories.{calls_of, tells_of, AnsweredBy, AskedBy, Leaves, by_question, by_growth, by_nothing}

module _ {S : Type 0} (Stores : ℕ → Layout) (state : S → State) (ready : S → Type 0) where
  leaves_told : (was is : S) (table : Option BriefTable) → IsTrue (state was).disk.honest
      → Leaves Stores state ready was is
      → IsToldBy (state was).kept table → IsToldBy (state is).kept table
  leaves_told was is table honest (by_question asked) so = subst (λ (k : Option Kept). IsToldBy k table) (sym (asked.kept honest)) so
  leaves_told was is table honest (by_growth pages growth) so = subst (λ (k : Option Kept). IsToldBy k table) (sym (growth.kept honest)) so
  leaves_told was is table honest (by_nothing same) so = subst (λ (s : State). IsToldBy s.kept table) (sym same) so

  -- a call that is no command leaves the table
  asked_tells : (was is : S) (table : Option BriefTable) → IsTrue (state was).disk.honest
      → AskedBy Stores state ready was is
      → tells_of state ready was table → tells_of state ready is table
  asked_tells was is table honest asked (here, is_open, told) =
      let it = asked.asked here in
      let asks = it.asks is_open in
      (it.ready_still, asks.open_still, λ _. leaves_told was is table honest (asks.leaves honest) (told honest))

  -- a command makes of it what its answer says
  answered_tells : (command : Command) (answer : BriefAnswer) (was is : S) (table : Option BriefTable)
      → IsTrue (state was).disk.honest
      → AnsweredBy Stores state ready command answer was is → tells_of state ready was table
      → (after : Option BriefTable) × Makes answer command table after × tells_of state ready is after
  answered_tells command answer was is table honest answered (here, is_open, told) =
      let it = (answered.answered here).answers is_open in
      let (sound, so) = told honest in
      let (now, makes) = does_so it.reply command (state was).kept (state is).kept (it.turn.does honest) sound in (
        table_of (state is).kept now,
        subst (λ (a : BriefAnswer). Makes a command table (table_of (state is).kept now)) (sym it.answer_is)
            (subst (λ (t : Option BriefTable). Makes (answer_of it.reply) command t (table_of (state is).kept now)) (sym so) makes),
        ((answered.answered here).ready_still, it.open_still, λ _. (now, refl)),
      )

  open_or_shut : (s : S) → (state s).closed ≡ false → (state s).closed ≡ true → ⊥
  open_or_shut s is_open closed = let both : false ≡ true = sym is_open ∙ closed in cc

  pub solver_is_lawful : AreLawful (calls_of Stores state ready)
  solver_is_lawful = record {
    created_on = λ d s (here, (count, created)). (here, created.from.goes_on);
    opened_on = λ d s (here, (count, opened)). (here, opened.from.goes_on);
    given_back = λ d later fault (before, now, not, cause). not.from.goes_on;
    answered_on = λ command answer was is answered here. let it = answered.answered here in (it.ready_still, it.goes_on);
    asked_on = λ was is asked here. let it = asked.asked here in (it.ready_still, it.goes_on);
    broken_on = λ in_doubt was is broke. (λ here. (broke.ready_still here, broke.goes_on), broke.shut, open_or_shut was broke.was_open);
    shut_answers = λ command answer was is answered closed. answered.shut closed;
    shut_stays = λ was is asked closed. asked.shut closed;
    tells_open = λ s table (here, is_open, told). (here, open_or_shut s is_open);
    begins = λ d s honest (here, (count, created)).
        (here, created.is_open, λ _. subst (λ (k : Option Kept). IsToldBy k None) (sym (created.empty honest)) (tt, refl));
    leaves = asked_tells;
    makes = answered_tells;
    one = λ s table other honest (here, is_open, told) (there, also, too). told_by_one (state s).kept table other (told honest) (too honest);
    so = λ s table honest (here, is_open, told).
        let (sound, so) = told honest in subst IsTrueOfItsGame (sym so) (table_is_so (state s).kept sound);
  }
