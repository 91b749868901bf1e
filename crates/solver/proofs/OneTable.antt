-- Commands lead from a sound table to one.
use Rattle.std.specs.Prelude.{◌≡◌, ◌⊎◌, ℕ, List, [], ◌∷◌, Option, Some}
use Rattle.std.proofs.Common.{sym, subst, ◌∙◌, ap, inl, inr}
use Rattle.std.proofs.lemmas.Option.{same_Some}
use Rattle.rbg_game.specs.Games.{Game}
use Rattle.rbg_read.specs.Reads.{Reads}
use Rattle.rbg_read.proofs.OneGame.{one_game}
use Rattle.position_pack.specs.declared.kind.PackingKind.TheVariants.{Bits}
use Rattle.legal_moves.specs.Sources.{graph_of}
use Rattle.retrograde.specs.Sound.{IsLocallySound}
use Rattle.retrograde.specs.Stored.{loaded}
use Rattle.retrograde.specs.declared.records.Counts.{Counts}
use Rattle.game_table.specs.Work.{AreDone}
use Rattle.game_table.specs.lemmas.Laws.{work_leads_to_one_table}
use Rattle.game_file.specs.Kept.{Kept}
use Rattle.solver.specs.declared.replies.Reply.{Reply}
use Rattle.solver.specs.declared.replies.Reply.TheVariants.{Loaded, Worked, Refused}
use Rattle.solver.specs.Held.{IsSound, graph_in, wide_in}
use Rattle.solver.specs.Histories.{DoAll}
use Rattle.solver.specs.Machine.{Command, load, work, Does, MayDo, Loads, WorksOnTable}
use Rattle.solver.proofs.Prefixes.{what_may_be_done_is_sound}

-- a game is loaded into one table
loads_to_one : (text : List ℕ) (goal : Option ℕ) (old a b : Option Kept) → Loads text goal old a → Loads text goal old b → a ≡ b
loads_to_one text goal old a b one other =
    let same = one_game text one.game other.game one.reads other.reads in
    one.is ∙ ap (λ (g : Game). Some (record { text = text; packing = Bits; goal = goal; table = loaded (graph_of Bits goal g).start })) same ∙ sym other.is

-- so is work done on one, whatever its reply counts
works_to_one : (units n m : ℕ) (few many : Counts) (old a b : Option Kept) → IsSound old → WorksOnTable units old n few a → WorksOnTable units old m many b
    → a ≡ b
works_to_one units n m few many old a b sound one other =
    one.worked ∙ ap (λ (k : Kept). Some k) (go one.was other.was one.is other.is (subst (λ (k : Option Kept). IsSound k) one.loaded sound)
    (same_Some one.was other.was (sym one.loaded ∙ other.loaded)) one.same_text one.same_packing one.same_goal other.same_text other.same_packing
    other.same_goal one.work other.work) ∙ sym other.worked
  where
    go : (was before is after : Kept) → IsSound (Some was) → was ≡ before
        → is.text ≡ was.text → is.packing ≡ was.packing → is.goal ≡ was.goal
        → after.text ≡ before.text → after.packing ≡ before.packing → after.goal ≡ before.goal
        → ((game : Game) → Reads was.text game → IsLocallySound (graph_in game was) (wide_in game was) was.table
        → AreDone (graph_in game was) (wide_in game was) units was.table n is.table)
        → ((game : Game) → Reads before.text game → IsLocallySound (graph_in game before) (wide_in game before) before.table
        → AreDone (graph_in game before) (wide_in game before) units before.table m after.table)
        → is ≡ after
    go was before is after (game, is_read, here) same text packing goal also packed aimed does makes =
        let to_after : AreDone (graph_in game was) (wide_in game was) units was.table m after.table =
        subst (λ (k : Kept). ((g : Game) → Reads k.text g → IsLocallySound (graph_in g k) (wide_in g k) k.table
        → AreDone (graph_in g k) (wide_in g k) units k.table m after.table)) (sym same) makes game is_read here in
        let tables = (work_leads_to_one_table (graph_in game was) (wide_in game was) units n m was.table is.table after.table
        (does game is_read here) to_after).1 in
        λ i. record {
          text = (text ∙ ap (λ (k : Kept). k.text) same ∙ sym also) i;
          packing = (packing ∙ ap (λ (k : Kept). k.packing) same ∙ sym packed) i;
          goal = (goal ∙ ap (λ (k : Kept). k.goal) same ∙ sym aimed) i;
          table = tables i;
        }

-- what a command may do to a sound table: it leaves it, or leads to one
pub a_command_leads_to_one : (command : Command) (old a b : Option Kept) → IsSound old → MayDo command old a → MayDo command old b
    → (a ≡ old) ⊎ ((b ≡ old) ⊎ (a ≡ b))
a_command_leads_to_one command old a b sound (Refused fault, same) other = inl same
a_command_leads_to_one command old a b sound (Loaded, does) (Refused fault, same) = inr (inl same)
a_command_leads_to_one command old a b sound (Worked done counts, does) (Refused fault, same) = inr (inl same)
a_command_leads_to_one (load text goal) old a b sound (Loaded, one) (Loaded, other) = inr (inr (loads_to_one text goal old a b one other))
a_command_leads_to_one (load text goal) old a b sound (Loaded, one) (Worked done counts, other) = absurd other
a_command_leads_to_one (load text goal) old a b sound (Worked done counts, one) (Loaded, other) = absurd one
a_command_leads_to_one (load text goal) old a b sound (Worked done counts, one) (Worked done2 counts2, other) = absurd one
a_command_leads_to_one (work units) old a b sound (Loaded, one) (Loaded, other) = absurd one
a_command_leads_to_one (work units) old a b sound (Loaded, one) (Worked done counts, other) = absurd one
a_command_leads_to_one (work units) old a b sound (Worked done counts, one) (Loaded, other) = absurd other
a_command_leads_to_one (work units) old a b sound (Worked n few, one) (Worked m many, other) =
    inr (inr (works_to_one units n m few many old a b sound one other))

-- a command with its reply leads to one
does_one : (reply : Reply) (command : Command) (old a b : Option Kept) → IsSound old → Does reply command old a → Does reply command old b → a ≡ b
does_one Loaded (load text goal) old a b sound one other = loads_to_one text goal old a b one other
does_one Loaded (work units) old a b sound one other = absurd one
does_one (Worked done counts) (load text goal) old a b sound one other = absurd one
does_one (Worked done counts) (work units) old a b sound one other = works_to_one units done done counts counts old a b sound one other
does_one (Refused fault) command old a b sound one other = one ∙ sym other

-- and so do many, one after another
pub answered_commands_lead_to_one : (answered : List (Command × Reply)) (old a b : Option Kept) → IsSound old → DoAll answered old a → DoAll answered old b
    → a ≡ b
answered_commands_lead_to_one [] old a b sound one other = one ∙ sym other
answered_commands_lead_to_one ((command, reply) ∷ answered) old a b sound (mid, does, rest) (there, makes, more) =
    let same : there ≡ mid = does_one reply command old there mid sound makes does in
    answered_commands_lead_to_one answered mid a b (what_may_be_done_is_sound command old mid (reply, does) sound) rest
    (subst (λ (k : Option Kept). DoAll answered k b) same more)
