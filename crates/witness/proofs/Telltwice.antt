-- What was told of a table is told again once it was closed and opened.
use Rattle.std.proofs.Common.{◌≡◌, ℕ, List, [], ◌∷◌, Option, None, Some, refl, sym, ap, ◌∙◌, arith}
use Rattle.std.proofs.lemmas.Option.{same_Some}
use Rattle.rbg_game.specs.declared.roles.Player.{Player}
use Rattle.std.specs.Prelude.{IsTrue}
use Rattle.sector_disk.specs.Disk.{Image, Shown, Disk, MayLeave, at_present}
use Rattle.sector_disk.specs.lemmas.Moments.{still_honest, reads_left}
use Rattle.best_line.specs.declared.answers.Value.{Value}
use Rattle.best_line.specs.declared.answers.Value.TheVariants.{Won, Drawn, Open}
use Rattle.solver.specs.Machine.{Command}
use Rattle.headline.specs.Tables.{BriefTable, Told, the_value, IsForGood, TellsValue}
use Rattle.headline.specs.Brief as brief
use Rattle.headline.specs.Brief.{Calls, AreLawful, BriefAnswer, BriefSitting, AreCalls, BriefHistory, BriefHeadline, OfTable}

-- a position has one value, once it is settled or the table is finished
one_value : (table : Option BriefTable) (v w : Value) → TellsValue 0 v table → TellsValue 0 w table → IsForGood (the_value 0 v) → w ≡ v
one_value None v w first second good = absurd first
one_value (Some table) Open w first second good = absurd good
one_value (Some table) (Won p n) (Won q m) first second good =
    ap (λ (won : Player × ℕ). Won won.0 won.1) (same_Some (q, m) (p, n) (sym second ∙ first))
one_value (Some table) (Won p n) Drawn first second good = let none = second.0 in absurd cc
one_value (Some table) (Won p n) Open first second good = let none = second.0 in absurd cc
one_value (Some table) Drawn (Won q m) first second good = let none = first.0 in absurd cc
one_value (Some table) Drawn Drawn first second good = refl
one_value (Some table) Drawn Open first second good = absurd (second.1 first.1)

module _ {S : Type 0} (calls : Calls S) (lawful : AreLawful calls) where
  -- what the calls of a sitting come to: a table is told behind them, and the disk keeps its word
  record Reaches (is : S) : Type 0 where
    table : Option BriefTable
    tells : calls.tells is table
    honest : IsTrue (calls.disk is).honest

  reaches : {answered : List (Command × BriefAnswer)} {told : List Told} {was is : S} → AreCalls calls answered told was is
      → (table : Option BriefTable) → calls.tells was table → IsTrue (calls.disk was).honest → Reaches is
  reaches brief.no_call table tells honest = record { table = table; tells = tells; honest = honest }
  reaches {was = was} (brief.a_question {mid = mid} asks rest) table tells honest =
      let here = (lawful.tells_open was table tells).0 in
      reaches rest table (lawful.leaves was mid table honest asks tells) (still_honest (lawful.asked_on was mid asks here).1 honest)
  reaches {was = was} (brief.a_command {command = command} {answer = answer} {mid = mid} answers rest) table tells honest =
      let here = (lawful.tells_open was table tells).0 in
      let (after, makes, tells_after) = lawful.makes command answer was mid table honest answers tells in
      reaches rest after tells_after (still_honest (lawful.answered_on command answer was mid answers here).1 honest)
  reaches (brief.it_told says rest) table tells honest = reaches rest table tells honest

  pub told_twice : ((sittings : List BriefSitting) (left : Shown) (image : Image) → BriefHistory calls sittings left → MayLeave left image
      → BriefHeadline calls sittings image)
      → (d : Disk) (made last again : S) (answered : List (Command × BriefAnswer)) (first second : Value) → IsTrue d.honest → calls.created d made
      → AreCalls calls answered (the_value 0 first ∷ []) made last → calls.opened (calls.disk last) again
      → OfTable calls again (λ table. TellsValue 0 second table) → IsForGood (the_value 0 first) → second ≡ first
  told_twice law d made last again answered first second honest created used opened says good =
      let begins = lawful.begins d made honest created in
      let there = reaches used None begins (still_honest (lawful.created_on d made created).1 honest) in
      let sitting : BriefSitting = record { begins = None; answered = answered; told = the_value 0 first ∷ []; reached = there.table; in_doubt = None } in
      let head = law (sitting ∷ []) (calls.disk last).now (calls.disk last).now.contents
      (brief.was_made honest created (record { begins = begins; last = last; used = used; reached = there.tells; ends = brief.between_calls at_present }))
      (reads_left (calls.disk last)) in
      let told = head.again sitting (the_value 0 first) (0, omega arith, refl) (0, omega arith, refl) good in
      let opens = head.gives (calls.disk last) again there.honest refl opened in
      one_value head.table first second told
      (says head.table opens (still_honest (lawful.opened_on (calls.disk last) again opened).1 there.honest)) good
