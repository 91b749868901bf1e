-- What answered commands come to, unit by unit.
use Rattle.std.proofs.Common.{◌≡◌, ◌⊎◌, inl, inr, ℕ, ◌+◌, ◌*◌, ◌<◌, ◌≤◌, List, [], ◌∷◌, Option, None, Some, refl, sym, ◌∙◌, ap, subst, arith}
use Rattle.std.proofs.lemmas.Option.{same_Some}
use Rattle.sector_disk.specs.Disk.{Image}
use Rattle.rbg_game.specs.Games.{Game}
use Rattle.rbg_read.specs.Reads.{Reads}
use Rattle.rbg_read.proofs.OneGame.{one_game}
use Rattle.position_pack.specs.declared.kind.PackingKind.{PackingKind}
use Rattle.position_pack.specs.declared.kind.PackingKind.TheVariants.{Bits}
use Rattle.legal_moves.specs.Sources.{graph_of}
use Rattle.retrograde.specs.Sound.{IsLocallySound}
use Rattle.retrograde.specs.Stored.{loaded, view_of}
use Rattle.retrograde.specs.declared.records.Counts.{Counts}
use Rattle.retrograde.specs.View.{IsFinished}
use Rattle.game_table.specs.Units.{AreUnits}
use Rattle.game_table.specs.Work.{AreDone}
use Rattle.game_table.specs.lemmas.OneTable.{none_of_finished}
use Rattle.game_file.specs.Kept.{Kept, Layout, in_any}
use Rattle.solver.specs.Headline.{Headline, IsExact, SaysWhatIs}
use Rattle.solver.specs.Held.{Holds, IsSound, graph_in, wide_in}
use Rattle.solver.specs.Histories.{Sitting, DoAll, DoesInDoubt, LeadTo}
use Rattle.solver.specs.Machine.{Command, load, work, Does, Loads, WorksOnTable}
use Rattle.solver.specs.lemmas.Laws.{a_sound_table_is_right}
use Rattle.solver.specs.declared.replies.Reply.{Reply}
use Rattle.solver.specs.declared.replies.Reply.TheVariants.{Loaded, Worked, Refused}
use Rattle.solver.proofs.Prefixes.{what_may_be_done_is_sound}
use Rattle.progress.specs.Enough.{HasAtMost, IsSolved, units_in_all, units_of_one, units_asked, units_asked_in}
use Rattle.progress.proofs.Bounds.{enough}

-- the new table is finished, or has as many units more as were asked; and where the old one was finished, so is the new
record IsOn (asked : ℕ) (old new : Kept) : Type 0 where
  done : IsFinished (view_of new.table) ⊎ (units_in_all new ≡ units_in_all old + asked)
  stays : IsFinished (view_of old.table) → IsFinished (view_of new.table)
  -- it is a table of the same game, packed alike
  text : new.text ≡ old.text
  packing : new.packing ≡ old.packing
  goal : new.goal ≡ old.goal

-- a table is there, which goes on so from the old one
record GoesOn (asked : ℕ) (old : Kept) (new : Option Kept) : Type 0 where
  is : Kept
  there : new ≡ Some is
  on : IsOn asked old is

-- one answer with counts
done_on : (units done : ℕ) (game : Game) (was is : Kept) → AreDone (graph_in game was) (wide_in game was) units was.table done is.table
    → is.text ≡ was.text → is.packing ≡ was.packing → is.goal ≡ was.goal → IsOn units was is
done_on units done game was is are text packing goal = record {
  text = text;
  packing = packing;
  goal = goal;
  done = each are.all;
  stays = λ finished.
      let none : done ≡ 0 = none_of_finished (graph_in game was) done was.table is.table finished are.by_units in
      let same : AreUnits (graph_in game was) was.table 0 is.table =
      subst (λ (n : ℕ). AreUnits (graph_in game was) was.table n is.table) none are.by_units in
      subst (λ t. IsFinished (view_of t)) (sym same) finished;
}
  where
    each : (done ≡ units) ⊎ ((done < units) × IsFinished (view_of is.table))
        → IsFinished (view_of is.table) ⊎ (units_in_all is ≡ units_in_all was + units)
    each (inl all) = inr (are.works.units ∙ ap (λ (k : ℕ). units_in_all was + k) all)
    each (inr ended) = inl ended.1

works_on : (units done : ℕ) (counts : Counts) (old : Kept) (new : Option Kept) → IsSound (Some old)
    → WorksOnTable units (Some old) done counts new → GoesOn units old new
works_on units done counts old new (game, is_read, sound) works = record {
  is = works.is;
  there = works.worked;
  on = go works.was (same_Some works.was old (sym works.loaded)) works.same_text works.same_packing works.same_goal works.work;
}
  where
    go : (was : Kept) → was ≡ old → works.is.text ≡ was.text → works.is.packing ≡ was.packing → works.is.goal ≡ was.goal
        → ((game : Game) → Reads was.text game → IsLocallySound (graph_in game was) (wide_in game was) was.table
        → AreDone (graph_in game was) (wide_in game was) units was.table done works.is.table)
        → IsOn units old works.is
    go was same text packing goal makes =
        done_on units done game old works.is
        (subst (λ (k : Kept). ((g : Game) → Reads k.text g → IsLocallySound (graph_in g k) (wide_in g k) k.table
        → AreDone (graph_in g k) (wide_in g k) units k.table done works.is.table)) same makes game is_read sound)
        (text ∙ ap (λ (k : Kept). k.text) same) (packing ∙ ap (λ (k : Kept). k.packing) same) (goal ∙ ap (λ (k : Kept). k.goal) same)

stays_as_it_is : (old : Kept) (new : Option Kept) → new ≡ Some old → GoesOn 0 old new
stays_as_it_is old new same = record {
  is = old;
  there = same;
  on = record { done = inr (omega arith); stays = λ finished. finished; text = refl; packing = refl; goal = refl };
}

-- one command with its answer, on a table that is there
goes_on : (reply : Reply) (command : Command) (old : Kept) (new : Option Kept) → IsSound (Some old) → Does reply command (Some old) new
    → GoesOn (units_of_one command reply) old new
goes_on Loaded (load text goal) old new sound loads = let none = loads.none in absurd (cc)
goes_on Loaded (work units) old new sound does = absurd does
goes_on (Worked done counts) (load text goal) old new sound does = absurd does
goes_on (Worked done counts) (work units) old new sound works = works_on units done counts old new sound works
goes_on (Refused fault) (load text goal) old new sound same = stays_as_it_is old new same
goes_on (Refused fault) (work units) old new sound same = stays_as_it_is old new same

still_sound : (reply : Reply) (command : Command) (old : Kept) (new : Option Kept) (is : Kept) → IsSound (Some old) → Does reply command (Some old) new
    → new ≡ Some is → IsSound (Some is)
still_sound reply command old new is sound does there =
    subst (λ (k : Option Kept). IsSound k) there (what_may_be_done_is_sound command (Some old) new (reply, does) sound)

-- one behind the other
and_then : (a b : ℕ) (old mid new : Kept) → IsOn a old mid → IsOn b mid new → IsOn (a + b) old new
and_then a b old mid new first second = record {
  done = each first.done second.done;
  stays = λ finished. second.stays (first.stays finished);
  text = second.text ∙ first.text;
  packing = second.packing ∙ first.packing;
  goal = second.goal ∙ first.goal;
}
  where
    each : IsFinished (view_of mid.table) ⊎ (units_in_all mid ≡ units_in_all old + a)
        → IsFinished (view_of new.table) ⊎ (units_in_all new ≡ units_in_all mid + b)
        → IsFinished (view_of new.table) ⊎ (units_in_all new ≡ units_in_all old + (a + b))
    each (inl finished) _ = inl (second.stays finished)
    each (inr _) (inl finished) = inl finished
    each (inr one) (inr other) = inr (omega (arith, one, other))

all_sound : (answered : List (Command × Reply)) (old new : Option Kept) → DoAll answered old new → IsSound old → IsSound new
all_sound [] old new same sound = subst (λ (k : Option Kept). IsSound k) (sym same) sound
all_sound ((command, reply) ∷ answered) old new (mid, does, rest) sound =
    all_sound answered mid new rest (what_may_be_done_is_sound command old mid (reply, does) sound)

-- many commands, each with its answer
all_go_on : (answered : List (Command × Reply)) (old : Kept) (new : Option Kept) → IsSound (Some old) → DoAll answered (Some old) new
    → GoesOn (units_asked answered) old new
all_go_on [] old new sound same = stays_as_it_is old new same
all_go_on ((command, reply) ∷ answered) old new sound (mid, does, rest) =
    let first = goes_on reply command old mid sound does in
    let there = still_sound reply command old mid first.is sound does first.there in
    let more = all_go_on answered first.is new there (subst (λ (k : Option Kept). DoAll answered k new) first.there rest) in
    record {
      is = more.is;
      there = more.there;
      on = and_then (units_of_one command reply) (units_asked answered) old first.is more.is first.on more.on;
    }

pub what_is_asked_is_done : (answered : List (Command × Reply)) (old new : Kept) → IsSound (Some old) → DoAll answered (Some old) (Some new)
    → IsFinished (view_of new.table) ⊎ (units_in_all new ≡ units_in_all old + units_asked answered)
what_is_asked_is_done answered old new sound all =
    let gone = all_go_on answered old (Some new) sound all in
    subst (λ (k : Kept). IsFinished (view_of k.table) ⊎ (units_in_all k ≡ units_in_all old + units_asked answered))
    (same_Some gone.is new (sym gone.there)) gone.on.done

-- ---- two units for each position are enough

-- a sound table with so many is finished
pub with_enough : (kept : Kept) (game : Game) (n : ℕ) → IsSound (Some kept) → Reads kept.text game → HasAtMost (graph_in game kept) n
    → 2 * n ≤ units_in_all kept → IsFinished (view_of kept.table)
with_enough kept game n sound is_read few many =
    let right = a_sound_table_is_right kept game sound is_read in
    enough (graph_in game kept) (view_of kept.table) right.coherent.distinct right.moves.reached right.coherent.expanded right.coherent.settled n few many

pub enough_work_finishes : (answered : List (Command × Reply)) (old : Kept) (new : Option Kept) (game : Game) (n : ℕ) → IsSound (Some old)
    → Reads old.text game → HasAtMost (graph_in game old) n → DoAll answered (Some old) new
    → 2 * n ≤ units_in_all old + units_asked answered → IsSolved new
enough_work_finishes answered old new game n sound is_read few all many =
    let gone = all_go_on answered old new sound all in
    let there = subst (λ (k : Option Kept). IsSound k) gone.there (all_sound answered (Some old) new all sound) in
    let reads = subst (λ (text : List ℕ). Reads text game) (sym gone.on.text) is_read in
    let few_then : HasAtMost (graph_in game gone.is) n =
    subst (λ (p : PackingKind). HasAtMost (graph_of p gone.is.goal game) n) (sym gone.on.packing)
    (subst (λ (g : Option ℕ). HasAtMost (graph_of old.packing g game) n) (sym gone.on.goal) few) in
    subst IsSolved (sym gone.there)
    (elim gone.on.done [
      | inl finished ↦ finished
      | inr exact ↦ with_enough gone.is game n there reads few_then (omega (arith, exact, many))
    ])

-- ---- many sittings

-- where no game is loaded, no unit was asked for; of a sound table each that was asked for is done, or it is finished
abbrev HasDone : ℕ → Option Kept → Type 0
HasDone asked None = asked ≡ 0
HasDone asked (Some kept) = IsSound (Some kept) × (IsFinished (view_of kept.table) ⊎ (asked ≤ units_in_all kept))

fewer : (asked more : ℕ) (kept : Option Kept) → asked ≤ more → HasDone more kept → HasDone asked kept
fewer asked more None less none = omega (arith, less, none)
fewer asked more (Some kept) less (sound, inl finished) = (sound, inl finished)
fewer asked more (Some kept) less (sound, inr done) = (sound, inr (omega (arith, less, done)))

as_much : (asked : ℕ) (kept : Option Kept) → HasDone asked kept → HasDone (asked + 0) kept
as_much asked kept has = fewer (asked + 0) asked kept (omega arith) has

-- one command with its answer
does_more : (asked : ℕ) (reply : Reply) (command : Command) (old new : Option Kept) → HasDone asked old → Does reply command old new
    → HasDone (asked + units_of_one command reply) new
does_more asked Loaded (load text goal) old new has loads =
    subst (HasDone (asked + 0)) (sym loads.is)
    (what_may_be_done_is_sound (load text goal) None (Some (table_of loads)) (Loaded, from loads) tt, inr (none_yet old loads.none has))
  where
    table_of : Loads text goal old new → Kept
    table_of it = record { text = text; packing = Bits; goal = goal; table = loaded (graph_of Bits goal it.game).start }

    from : (it : Loads text goal old new) → Loads text goal None (Some (table_of it))
    from it = record { none = refl; game = it.game; reads = it.reads; is = refl }

    none_yet : (k : Option Kept) → k ≡ None → HasDone asked k → asked + 0 ≤ units_in_all (table_of loads)
    none_yet None same none = omega (arith, none)
    none_yet (Some kept) same has = absurd (cc)
does_more asked Loaded (work units) old new has does = absurd does
does_more asked (Worked done counts) (load text goal) old new has does = absurd does
does_more asked (Worked done counts) (work units) None new has works = let there = works.loaded in absurd (cc)
does_more asked (Worked done counts) (work units) (Some kept) new (sound, so_far) works =
    let gone = works_on units done counts kept new sound works in
    let there = still_sound (Worked done counts) (work units) kept new gone.is sound works gone.there in
    subst (HasDone (asked + units)) (sym gone.there) (there, each gone.is gone.on so_far)
  where
    each : (is : Kept) → IsOn units kept is → IsFinished (view_of kept.table) ⊎ (asked ≤ units_in_all kept)
        → IsFinished (view_of is.table) ⊎ (asked + units ≤ units_in_all is)
    each is on (inl finished) = inl (on.stays finished)
    each is on (inr enough_done) =
        elim on.done [
          | inl finished ↦ inl finished
          | inr exact ↦ inr (omega (arith, exact, enough_done))
        ]
does_more asked (Refused fault) (load text goal) old new has same = subst (HasDone (asked + 0)) (sym same) (as_much asked old has)
does_more asked (Refused fault) (work units) old new has same = subst (HasDone (asked + 0)) (sym same) (as_much asked old has)

-- those of a sitting
all_do_more : (asked : ℕ) (answered : List (Command × Reply)) (old new : Option Kept) → HasDone asked old → DoAll answered old new
    → HasDone (asked + units_asked answered) new
all_do_more asked [] old new has same = subst (HasDone (asked + 0)) (sym same) (as_much asked old has)
all_do_more asked ((command, reply) ∷ answered) old new has (mid, does, rest) =
    let first = does_more asked reply command old mid has does in
    let all = all_do_more (asked + units_of_one command reply) answered mid new first rest in
    fewer (asked + (units_of_one command reply + units_asked answered)) (asked + units_of_one command reply + units_asked answered) new (omega arith) all

-- one in doubt undoes nothing
doubt_undoes_nothing : (asked : ℕ) (in_doubt : Option Command) (old new : Option Kept) → HasDone asked old → DoesInDoubt in_doubt old new
    → HasDone asked new
doubt_undoes_nothing asked None old new has same = subst (HasDone asked) (sym same) has
doubt_undoes_nothing asked (Some command) old new has (reply, does) =
    fewer asked (asked + units_of_one command reply) new (omega arith) (does_more asked reply command old new has does)

pub sittings_do_more : (asked : ℕ) (sittings : List Sitting) (old new : Option Kept) → HasDone asked old → LeadTo sittings old new
    → HasDone (asked + units_asked_in sittings) new
sittings_do_more asked [] old new has same = subst (HasDone (asked + 0)) (sym same) (as_much asked old has)
sittings_do_more asked (sitting ∷ sittings) old new has (begins, (all, (left, doubt, rest))) =
    let behind = all_do_more asked sitting.answered old sitting.reached has all in
    let found = doubt_undoes_nothing (asked + units_asked sitting.answered) sitting.in_doubt sitting.reached left behind doubt in
    let more = sittings_do_more (asked + units_asked sitting.answered) sittings left new found rest in
    fewer (asked + (units_asked sitting.answered + units_asked_in sittings)) (asked + units_asked sitting.answered + units_asked_in sittings) new
    (omega arith) more

-- from the empty table, what is there then is finished where enough was asked for
pub enough_sittings_finish : (sittings : List Sitting) (kept : Kept) (game : Game) (n : ℕ) → LeadTo sittings None (Some kept)
    → Reads kept.text game → HasAtMost (graph_in game kept) n → 2 * n ≤ units_asked_in sittings → IsFinished (view_of kept.table)
enough_sittings_finish sittings kept game n leads is_read few many =
    let asked = units_asked_in sittings in
    let (sound, so_far) : HasDone asked (Some kept) =
    fewer asked (0 + asked) (Some kept) (omega arith) (sittings_do_more 0 sittings None (Some kept) refl leads) in
    elim so_far [
      | inl finished ↦ finished
      | inr done ↦ with_enough kept game n sound is_read few (omega (arith, many, done))
    ]

-- so of the table that the headline speaks of
pub it_gets_there : (Stores : ℕ → Layout)
    → ((m n : ℕ) (image : Image) (one other : Option Kept) → Stores m image one → Stores n image other → one ≡ other)
    → (sittings : List Sitting) (image : Image) (kept : Kept) (game : Game) (n : ℕ) → Headline Stores sittings image
    → Holds (in_any Stores) image (Some kept) → Reads kept.text game → HasAtMost (graph_in game kept) n → 2 * n ≤ units_asked_in sittings
    → IsFinished (view_of kept.table) × SaysWhatIs kept game
it_gets_there Stores one_table sittings image kept game n (found, leads, reopens, exact) holds is_read few many =
    let (m, stored) = reopens.holds.stores in
    let (k, held) = holds.stores in
    let same : found ≡ Some kept = one_table m k image found (Some kept) stored held in
    let (other, says) : IsExact (Some kept) = subst (λ (k : Option Kept). IsExact k) same exact in
    let one : other ≡ game = one_game kept.text other game says.reads is_read in (
      enough_sittings_finish sittings kept game n (subst (λ (k : Option Kept). LeadTo sittings None k) same leads) is_read few many,
      subst (λ (g : Game). SaysWhatIs kept g) one says,
    )
