-- A command on a file is a use of it.
use Rattle.std.proofs.Common.{◌≡◌, ◌≢◌, ◌≤◌, ◌<◌, inl, inr, ◌⊎◌, ℕ, List, [], ◌∷◌, ◌++◌, refl, ap, sym, ◌∙◌, subst, append-nil, arith}
use Rattle.std.specs.Prelude.{IsTrue}
use Rattle.std.proofs.lemmas.Bool.{cases_lt}
use Rattle.rbg_game.specs.Goals.{points_of}
use Rattle.sector_disk.specs.Disk.{Disk, GoesOn, Shown}
use Rattle.game_file.specs.Kept.{Layout}
use Rattle.game_file.specs.State.{State}
use Rattle.retrograde.specs.Stored.{Stored}
use Rattle.solver.specs.Histories.{IsFound}
use Rattle.solver.specs.Machine.{Command}
use Rattle.solver.specs.Opened.{IsOpened}
use Rattle.solver.specs.declared.replies.Reply.{Reply}
use Rattle.session.specs.Commands.{Came, made, refused, replied, told_text, audited, another, brought, grown, GivesBack, IsDoneOnFile, IsUnopened}
use Rattle.session.specs.Seen.{Moment}
use Rattle.session.specs.declared.commands.FileCommand.{FileCommand}
use Rattle.session.specs.declared.commands.FileCommand.TheVariants as file
use Rattle.lines_kept.specs.Told.{Answer, command_done, told_by}
use Rattle.lines_kept.specs.Uses.{Uses}

module _ {F Version : Type 0} (Stores : ℕ → Layout) (state : F → State) (IsVersion : Version → Stored (List ℕ) → F → Type 0)
    (AreTwo : Version → Version → Type 0) (IsUsedUp : F → Type 0) (Lasts : F → F → Type 0) where
  -- the table was made
  pub made_is_a_use : (disk back : Disk) (count now : ℕ) → IsTrue disk.honest → IsDoneOnFile Stores file.Create disk count made back now
      → Uses Stores state IsVersion AreTwo IsUsedUp Lasts [] back.now
  made_is_a_use disk back count now honest (is, created, gives) =
      subst (λ (d : Disk). Uses Stores state IsVersion AreTwo IsUsedUp Lasts [] d.now) (sym gives.disk) (Uses.made honest created)

  module _ (disk back : Disk) (count now : ℕ) (told : List (List (Command × Reply))) (shown : Shown) (stop : ℕ)
      (uses : Uses Stores state IsVersion AreTwo IsUsedUp Lasts told shown) (found : IsFound Stores shown disk) (from : disk.clock ≤ stop)
      (to : stop ≤ back.clock) where
    -- a use in which these commands were answered, or none that came to a table
    abbrev IsUse : List Answer → Type 0
    IsUse answers = (more : List (List (Command × Reply))) × ((more ≡ []) ⊎ (more ≡ told_by stop answers ∷ []))
        × Uses Stores state IsVersion AreTwo IsUsedUp Lasts (told ++ more) (back.was stop)

    no_use : (answers : List Answer) → Uses Stores state IsVersion AreTwo IsUsedUp Lasts told (back.was stop) → IsUse answers
    no_use answers is = ([], inl refl, subst (λ t. Uses Stores state IsVersion AreTwo IsUsedUp Lasts t (back.was stop)) (sym (append-nil told)) is)

    -- the table was not opened
    not_opened : (answers : List Answer) (why : _) → IsUnopened Stores disk count why back now → IsUse answers
    not_opened answers why unopened = no_use answers (Uses.nothing uses found (unopened.0.leaves found.honest) stop from to)

    -- it was opened, and the call was a use from there on
    module _ {was is : State} (opened : IsOpened Stores disk count was) (gives : GivesBack is back now) (goes : GoesOn was.disk is.disk) where
      opened_first : (answers : List Answer)
          → (was.disk.clock ≤ stop → stop ≤ is.disk.clock
          → Uses Stores state IsVersion AreTwo IsUsedUp Lasts (told ++ told_by stop answers ∷ []) (is.disk.was stop))
          → IsUse answers
      opened_first answers used = elim (cases_lt stop was.disk.clock) [
        | inl lt ↦ no_use answers (subst (Uses Stores state IsVersion AreTwo IsUsedUp Lasts told) (sym (shown_then lt))
            (Uses.nothing uses found (opened.since found.honest) stop from (omega (arith, lt))))
        | inr le ↦ (
          told_by stop answers ∷ [],
          inr refl,
          subst (Uses Stores state IsVersion AreTwo IsUsedUp Lasts (told ++ told_by stop answers ∷ [])) (sym (ap (λ (d : Disk). d.was stop) gives.disk))
              (used le (omega (arith, to, ap (λ (d : Disk). d.clock) gives.disk))),
        )
      ]
        where
          shown_then : stop < was.disk.clock → back.was stop ≡ was.disk.was stop
          shown_then lt = ap (λ (d : Disk). d.was stop) gives.disk ∙ goes.past stop (omega (arith, lt))

    pub a_command : (command : FileCommand) (came : Came) (moment : Moment) → command ≢ file.Create
        → IsDoneOnFile Stores command disk count came back now → moment.disk ≡ back → IsUse (command_done command came moment)
    a_command file.Create came moment other is same = absurd (other refl)
    a_command (file.Load text goal) (replied said) moment other (was, is, opened, gives, turn) same =
        opened_first opened gives turn.turn.ahead.goes_on (command_done (file.Load text goal) (replied said) moment)
        (λ le ge. Uses.loaded text.items (points_of goal) said moment uses found opened turn.turn (same ∙ gives.disk) stop le ge)
    a_command (file.Load text goal) (refused why) moment other is same = not_opened [] why is
    a_command (file.Load text goal) made moment other is same = absurd is
    a_command (file.Load text goal) (told_text told) moment other is same = absurd is
    a_command (file.Load text goal) (audited verdict counts) moment other is same = absurd is
    a_command (file.Load text goal) another moment other is same = absurd is
    a_command (file.Load text goal) (brought which) moment other is same = absurd is
    a_command (file.Load text goal) grown moment other is same = absurd is
    a_command file.Audit (audited verdict counts) moment other (was, is, opened, asked, gives, has) same =
        opened_first opened gives asked.ahead.goes_on [] (λ le ge. Uses.asked uses found opened asked stop le ge)
    a_command file.Audit (refused why) moment other (inl (was, is, opened, asked, gives, cause)) same =
        opened_first opened gives asked.ahead.goes_on [] (λ le ge. Uses.asked uses found opened asked stop le ge)
    a_command file.Audit (refused why) moment other (inr is) same = not_opened [] why is
    a_command file.Audit made moment other is same = absurd is
    a_command file.Audit (replied said) moment other is same = absurd is
    a_command file.Audit (told_text told) moment other is same = absurd is
    a_command file.Audit another moment other is same = absurd is
    a_command file.Audit (brought which) moment other is same = absurd is
    a_command file.Audit grown moment other is same = absurd is
    a_command (file.Grow pages) grown moment other (was, is, opened, gives, growth, more) same =
        opened_first opened gives growth.ahead.goes_on [] (λ le ge. Uses.growth uses found opened growth stop le ge)
    a_command (file.Grow pages) (refused why) moment other (inl (was, is, opened, gives, growth, more, cause)) same =
        opened_first opened gives growth.ahead.goes_on [] (λ le ge. Uses.growth uses found opened growth stop le ge)
    a_command (file.Grow pages) (refused why) moment other (inr is) same = not_opened [] why is
    a_command (file.Grow pages) made moment other is same = absurd is
    a_command (file.Grow pages) (replied said) moment other is same = absurd is
    a_command (file.Grow pages) (told_text told) moment other is same = absurd is
    a_command (file.Grow pages) (audited verdict counts) moment other is same = absurd is
    a_command (file.Grow pages) another moment other is same = absurd is
    a_command (file.Grow pages) (brought which) moment other is same = absurd is

  pub a_command_is_a_use : (command : FileCommand) (disk back : Disk) (count now : ℕ) (came : Came) (moment : Moment)
      (told : List (List (Command × Reply))) (shown : Shown) (stop : ℕ) → command ≢ file.Create
      → Uses Stores state IsVersion AreTwo IsUsedUp Lasts told shown → IsFound Stores shown disk
      → IsDoneOnFile Stores command disk count came back now → moment.disk ≡ back → disk.clock ≤ stop → stop ≤ back.clock
      → (more : List (List (Command × Reply)))
      × ((more ≡ []) ⊎ (more ≡ told_by stop (command_done command came moment) ∷ []))
      × Uses Stores state IsVersion AreTwo IsUsedUp Lasts (told ++ more) (back.was stop)
  a_command_is_a_use command disk back count now came moment told shown stop other uses found is same from to =
      a_command disk back count now told shown stop uses found from to command came moment other is same
