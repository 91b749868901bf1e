-- The table in brief of what is kept: what it tells is so, and what a command does is told.
use Rattle.std.specs.Prelude.{◌≡◌, ℕ, zero, suc, ◌+◌, ◌-◌, ◌^◌, min, List, [], ◌∷◌, ◌++◌, length, Option, None, Some, slice_get}
use Rattle.std.proofs.Common.{refl, sym, subst, ◌∙◌, ap, inl, inr, arith}
use Rattle.std.proofs.lemmas.Option.{same_Some}
use Rattle.rbg_game.specs.Games.{Game}
use Rattle.rbg_game.specs.Sound.{IsSoundGame}
use Rattle.rbg_game.specs.declared.position.Position.{Position}
use Rattle.rbg_game.specs.declared.roles.Player.{Player}
use Rattle.rbg_text.specs.Token.{Text}
use Rattle.rbg_read.specs.Reads.{Reads, reads}
use Rattle.rbg_read.proofs.OneGame.{one_game, one_meaning}
use Rattle.rbg_read.proofs.SoundGames.{read_sound}
use Rattle.position_pack.specs.declared.kind.PackingKind.{PackingKind}
use Rattle.position_pack.specs.declared.kind.PackingKind.TheVariants.{Bits}
use Rattle.legal_moves.specs.Moves.{IsSuccessor, start_of}
use Rattle.legal_moves.specs.Sources.{IsAt, IsPositionBytes, graph_of}
use Rattle.legal_moves.proofs.answers.SourceLemmas.{one_position}
use Rattle.retrograde.specs.Sound.{IsLocallySound}
use Rattle.retrograde.specs.Stored.{Stored, view_of, count_below, loaded as just_loaded}
use Rattle.retrograde.specs.declared.records.Counts.{Counts}
use Rattle.retrograde.specs.Changes.{counts_of}
use Rattle.retrograde.specs.Successors.{packed_cmp}
use Rattle.retrograde.specs.Units.{processed_in_view}
use Rattle.retrograde.specs.View.{HasNumber, IsFinished}
use Rattle.retrograde.proofs.Units.{grows_from}
use Rattle.game_table.specs.lemmas.Laws.{starts_are_positions, sound_tables_fit, a_first_table_is_sound}
use Rattle.game_table.specs.Work.{AreDone}
use Rattle.game_table.specs.Texts.{IsText}
use Rattle.best_line.specs.declared.answers.Value.{Value}
use Rattle.best_line.specs.declared.answers.Value.TheVariants.{Won, Drawn as NobodyWins, Open}
use Rattle.best_line.specs.Lines.{IsBestStep, IsBestLine}
use Rattle.best_line.specs.declared.answers.Row.{Row}
use Rattle.best_line.specs.Values.{IsComplete, IsValue}
use Rattle.best_line.proofs.FinishLemmas.{complete_finished, finished_complete}
use Rattle.game_file.specs.Kept.{Kept}
use Rattle.solver.specs.Held.{IsSound, graph_in, wide_in}
use Rattle.solver.specs.Machine.{Command, load, work, Does, Loads, WorksOnTable}
use Rattle.solver.specs.declared.replies.Reply.{Reply}
use Rattle.solver.specs.declared.replies.Reply.TheVariants.{Loaded, Worked, Refused}
use Rattle.solver.specs.Queries.{OfKept, HasLine, HasRows, HasValueAt, HasText}
use Rattle.solver.specs.lemmas.Laws.{a_sound_table_is_right, what_is_settled_is_won, finished_is_all, finished_leaves_the_drawn}
use Rattle.headline.specs.Tables.{TextSays, BriefTable, IsTrueIn, IsTrueOfItsGame}
use Rattle.headline.specs.Brief.{BriefAnswer, loaded, worked, refused, answer_of}
use Rattle.headline.specs.Tables.{TellsValue, TellsText, TellsRows, TellsCounts, IsMoveIn, IsLineIn, TellsLine}
use Rattle.headline.specs.Brief.{IsJustLoaded, GoesOnBy, Makes, units_so_far}
use Rattle.headline.specs.Tables.{Told, the_value, the_text, the_line, IsTold, IsForGood}
use Rattle.headline.specs.lemmas.Finished.{settled_at, same_known, same_expanded, same_processed, same_value}
use Rattle.headline.specs.lemmas.Plays.{step_down, won_down, drawn_same, reached_up, reached_down}

-- ---- the positions of bytes

module _ (kind : PackingKind) (game : Game) where
  -- each of these is the bytes of a position
  abbrev pub AreBytes : List (List ℕ) → Type 0
  AreBytes xs = (i : ℕ) (x : List ℕ) → slice_get xs i ≡ Some x → IsPositionBytes kind game x

  -- their positions
  pub positions_of : (xs : List (List ℕ)) → AreBytes xs → List Position
  positions_of [] are = []
  positions_of (x ∷ xs) are = (are zero x refl).0 ∷ positions_of xs (λ i y at. are (suc i) y at)

  pub as_many : (xs : List (List ℕ)) (are : AreBytes xs) → length (positions_of xs are) ≡ length xs
  unfolding positions_of
  as_many [] are = refl
  as_many (x ∷ xs) are = ap (λ (n : ℕ). suc n) (as_many xs (λ i y at. are (suc i) y at))

  pub position_at : (xs : List (List ℕ)) (are : AreBytes xs) (i : ℕ) (x : List ℕ) → slice_get xs i ≡ Some x
      → (at : Position) × (slice_get (positions_of xs are) i ≡ Some at) × IsAt kind game x at
  unfolding positions_of
  position_at [] are i x e = cc
  position_at (y ∷ xs) are zero x e =
      let it = are zero y refl in
      (it.0, refl, subst (λ (z : List ℕ). IsAt kind game z it.0) (same_Some y x e) it.1)
  position_at (y ∷ xs) are (suc i) x e = position_at xs (λ j z at. are (suc j) z at) i x e

  pub bytes_at : (xs : List (List ℕ)) (are : AreBytes xs) (i : ℕ) (at : Position) → slice_get (positions_of xs are) i ≡ Some at
      → (x : List ℕ) × (slice_get xs i ≡ Some x) × IsAt kind game x at
  unfolding positions_of
  bytes_at [] are i at e = cc
  bytes_at (y ∷ xs) are zero at e =
      let it = are zero y refl in
      (y, refl, subst (λ (p : Position). IsAt kind game y p) (same_Some it.0 at e) it.1)
  bytes_at (y ∷ xs) are (suc i) at e = bytes_at xs (λ j z here. are (suc j) z here) i at e

-- ---- the table in brief

-- the positions of a sound table
pub are_positions : (kept : Kept) (sound : IsSound (Some kept)) → AreBytes kept.packing sound.0 kept.table.positions
are_positions kept (game, is_read, sound) =
    (sound_tables_fit kept.packing kept.goal game kept.table (starts_are_positions kept.text game is_read) sound).0

-- what a sound table tells, in brief
unfoldable pub brief_of : (kept : Kept) → IsSound (Some kept) → BriefTable
brief_of kept sound = record {
  text = kept.text;
  goal = kept.goal;
  view = record {
    known = positions_of kept.packing sound.0 kept.table.positions (are_positions kept sound);
    expanded = (view_of kept.table).expanded;
    processed = (view_of kept.table).processed;
    value = (view_of kept.table).value;
  };
}

-- the same, where no game may be loaded
abbrev pub table_of : (kept : Option Kept) → IsSound kept → Option BriefTable
table_of None sound = None
table_of (Some kept) sound = Some (brief_of kept sound)

-- ---- one table is told

-- positions are those of their bytes, however that is known
one_list : (kind : PackingKind) (game : Game) → IsSoundGame game → (xs : List (List ℕ)) (are so : AreBytes kind game xs)
    → positions_of kind game xs are ≡ positions_of kind game xs so
unfolding positions_of
one_list kind game sound [] are so = refl
one_list kind game sound (x ∷ xs) are so = λ i.
    one_position kind game sound x (so zero x refl).0 (are zero x refl).0 (so zero x refl).1 (are zero x refl).1 i
    ∷ one_list kind game sound xs (λ j y at. are (suc j) y at) (λ j y at. so (suc j) y at) i

-- nor on how the list is written
moved_list : (kind : PackingKind) (game : Game) → IsSoundGame game → (xs ys : List (List ℕ)) → ys ≡ xs
    → (are : AreBytes kind game xs) (so : AreBytes kind game ys)
    → positions_of kind game ys so ≡ positions_of kind game xs are
moved_list kind game sound xs ys same are so =
    subst (λ (zs : List (List ℕ)). (these : AreBytes kind game zs) → positions_of kind game zs these ≡ positions_of kind game xs are) (sym same)
    (λ these. one_list kind game sound xs these are) so

-- a sound table tells one table, however it is known to be sound
one_of_game : (kept : Kept) (game : Game) (is_read : Reads kept.text game) (sound : IsLocallySound (graph_in game kept) (wide_in game kept) kept.table)
    (r : Reads kept.text game) (s : IsLocallySound (graph_in game kept) (wide_in game kept) kept.table)
    → brief_of kept (game, is_read, sound) ≡ brief_of kept (game, r, s)
unfolding brief_of
one_of_game kept game is_read sound r s = λ i. record {
  text = kept.text;
  goal = kept.goal;
  view = record {
    known = one_list kept.packing game (read_sound kept.text game is_read) kept.table.positions
        (are_positions kept (game, is_read, sound)) (are_positions kept (game, r, s)) i;
    expanded = (view_of kept.table).expanded;
    processed = (view_of kept.table).processed;
    value = (view_of kept.table).value;
  };
}

one_brief : (kept : Kept) (one other : IsSound (Some kept)) → brief_of kept one ≡ brief_of kept other
one_brief kept (game, is_read, sound) (other, also, too) =
    subst (λ (g : Game). (r : Reads kept.text g) (s : IsLocallySound (graph_in g kept) (wide_in g kept) kept.table)
    → brief_of kept (game, is_read, sound) ≡ brief_of kept (g, r, s))
    (one_game kept.text game other is_read also) (one_of_game kept game is_read sound) also too

-- what is kept is told by this table
abbrev pub IsToldBy : Option Kept → Option BriefTable → Type 0
IsToldBy kept table = (sound : IsSound kept) × (table ≡ table_of kept sound)

-- and by no other
pub told_by_one : (kept : Option Kept) (one other : Option BriefTable) → IsToldBy kept one → IsToldBy kept other
    → one ≡ other
told_by_one None one other (sound, is) (too, so) = is ∙ sym so
told_by_one (Some kept) one other (sound, is) (too, so) = is ∙ ap (λ t. Some t) (one_brief kept sound too) ∙ sym so

module _ (kept : Kept) (sound : IsSound (Some kept)) where
  number_down : (i : ℕ) (x : List ℕ) → HasNumber (view_of kept.table) i x
      → (at : Position) × HasNumber (brief_of kept sound).view i at × IsAt kept.packing sound.0 x at
  unfolding brief_of
  number_down i x number = position_at kept.packing sound.0 kept.table.positions (are_positions kept sound) i x number

  number_up : (i : ℕ) (at : Position) → HasNumber (brief_of kept sound).view i at
      → (x : List ℕ) × HasNumber (view_of kept.table) i x × IsAt kept.packing sound.0 x at
  unfolding brief_of
  number_up i at number = bytes_at kept.packing sound.0 kept.table.positions (are_positions kept sound) i at number

  pub same_length : length (brief_of kept sound).view.known ≡ length kept.table.positions
  unfolding brief_of
  same_length = as_many kept.packing sound.0 kept.table.positions (are_positions kept sound)

  pub finished_up : IsFinished (brief_of kept sound).view → IsFinished (view_of kept.table)
  unfolding brief_of
  finished_up finished = record { all_expanded = finished.all_expanded ∙ same_length; all_processed = finished.all_processed }

  finished_down : IsFinished (view_of kept.table) → IsFinished (brief_of kept sound).view
  unfolding brief_of
  finished_down finished = record { all_expanded = finished.all_expanded ∙ sym same_length; all_processed = finished.all_processed }

  says_so : TextSays kept.text sound.0
  says_so = go kept.text sound.0 sound.1
    where
      go : (text : Text) (game : Game) → Reads text game → TextSays text game
      go text game (reads {ts = ts} {all = all} short flat parses fine means) =
          record { tokens = ts; sections = all; parses = parses; means = means }

  -- what it tells is so
  pub brief_is_so : IsTrueIn sound.0 (brief_of kept sound)
  unfolding brief_of
  brief_is_so =
      let game = sound.0 in
      let sound_game = read_sound kept.text game sound.1 in
      let right = a_sound_table_is_right kept game sound sound.1 in
      record {
        says = says_so;
        only = λ other said. one_meaning kept.text game other said.tokens said.sections sound.1 said.parses said.means;
        once = λ i j at one other.
            let (x, first, here) = number_up i at one in
            let (y, second, there) = number_up j at other in
            let same : y ≡ x = there.bytes_are ∙ sym here.bytes_are in
            right.coherent.distinct i j x first (subst (λ (z : List ℕ). HasNumber (view_of kept.table) j z) same second);
        start =
            let (at, number, here) = number_down 0 (graph_in game kept).start right.moves.first in
            subst (λ (p : Position). HasNumber (brief_of kept sound).view 0 p)
            (one_position kept.packing game sound_game (graph_in game kept).start (start_of game) at
            (record { position_is = starts_are_positions kept.text game sound.1; bytes_are = refl }) here)
            number;
        reached = λ at (i, number).
            let (x, there, here) = number_up i at number in
            reached_down kept.packing kept.goal game sound_game x (right.moves.reached x (i, there)) at here;
        expanded = omega (arith, right.coherent.expanded, same_length);
        settled = right.coherent.settled;
        won = λ at w n (i, number, is).
            let (x, there, here) = number_up i at number in
            won_down kept.packing kept.goal game sound_game w n x at here
            (what_is_settled_is_won kept game sound sound.1 x w n (i, there, is));
        all = λ finished at. (
          λ (i, number).
              let (x, there, here) = number_up i at number in
              reached_down kept.packing kept.goal game sound_game x
              ((finished_is_all kept game sound sound.1 (finished_up finished) x).0 (i, there)) at here,
          λ reached.
              let (position_is, there) = reached_up kept.packing kept.goal game sound_game at reached in
              let (i, number) = (finished_is_all kept game sound sound.1 (finished_up finished) _).1 there in
              let (other, told, here) = number_down i _ number in (
                i,
                subst (λ (p : Position). HasNumber (brief_of kept sound).view i p)
                    (one_position kept.packing game sound_game _ at other (record { position_is = position_is; bytes_are = refl }) here) told,
              ),
        );
        drawn = λ finished i at number.
            let (x, there, here) = number_up i at number in
            let by_bytes = finished_leaves_the_drawn kept game sound sound.1 (finished_up finished) i x there in
            let same = drawn_same kept.packing kept.goal game sound_game x at here in
            (λ none. same.0 (by_bytes.0 none), λ drawn. by_bytes.1 (same.1 drawn));
      }

-- of any table
pub table_is_so : (kept : Option Kept) (sound : IsSound kept) → IsTrueOfItsGame (table_of kept sound)
table_is_so None sound = tt
table_is_so (Some kept) sound = (sound.0, brief_is_so kept sound)

-- ---- what a command does

-- a table that stays is told alike
stays : (old new : Option Kept) → new ≡ old → (sound : IsSound old) → (now : IsSound new) × (table_of new now ≡ table_of old sound)
stays old new same sound =
    subst (λ (k : Option Kept). (now : IsSound k) × (table_of k now ≡ table_of old sound)) (sym same) (sound, refl)

-- the table of a game that was just loaded
first_table : List ℕ → Option ℕ → Game → Kept
first_table text goal game = record { text = text; packing = Bits; goal = goal; table = just_loaded (graph_of Bits goal game).start }

first_sound : (text : List ℕ) (goal : Option ℕ) (game : Game) → Reads text game → IsSound (Some (first_table text goal game))
unfolding first_table
first_sound text goal game is_read = (game, is_read, a_first_table_is_sound Bits goal game)

first_told : (text : List ℕ) (goal : Option ℕ) (game : Game) (is_read : Reads text game) (before : Option BriefTable) → before ≡ None
    → IsJustLoaded text goal before (Some (brief_of (first_table text goal game) (first_sound text goal game is_read)))
unfolding first_table brief_of positions_of
first_told text goal game is_read before none = record {
  none = none;
  table = brief_of (first_table text goal game) (first_sound text goal game is_read);
  is = refl;
  text_is = refl;
  goal_is = refl;
  one = refl;
  nothing_done = refl;
}

none_told : (kept : Option Kept) → kept ≡ None → (sound : IsSound kept) → table_of kept sound ≡ None
none_told None none sound = refl
none_told (Some kept) none sound = cc

-- a game is loaded
loads_so : (text : List ℕ) (goal : Option ℕ) (old new : Option Kept) → Loads text goal old new → (sound : IsSound old)
    → (now : IsSound new) × IsJustLoaded text goal (table_of old sound) (table_of new now)
unfolding first_table
loads_so text goal old new loads sound =
    subst (λ (k : Option Kept). (now : IsSound k) × IsJustLoaded text goal (table_of old sound) (table_of k now)) (sym loads.is) (
      first_sound text goal loads.game loads.reads,
      first_told text goal loads.game loads.reads (table_of old sound) (none_told old loads.none sound),
    )

-- what is known stays known, with its number
get_before : (xs ys : List (List ℕ)) (i : ℕ) (x : List ℕ) → slice_get xs i ≡ Some x → slice_get (xs ++ ys) i ≡ Some x
get_before [] ys i x e = cc
get_before (z ∷ xs) ys zero x e = e
get_before (z ∷ xs) ys (suc i) x e = get_before xs ys i x e

-- the same text, packing and goal, with another table
with_table : Kept → Stored (List ℕ) → Kept
with_table was stored = record { text = was.text; packing = was.packing; goal = was.goal; table = stored }

so_far : (kept : Kept) (sound : IsSound (Some kept))
    → units_so_far (brief_of kept sound).view ≡ (view_of kept.table).expanded + processed_in_view (view_of kept.table)
unfolding brief_of
so_far kept sound =
    ap (λ (n : ℕ). (view_of kept.table).expanded + count_below n (view_of kept.table).processed) (same_length kept sound)

module _ (units done : ℕ) (was : Kept) (stored : Stored (List ℕ)) (sound : IsSound (Some was))
    (are : AreDone (graph_in sound.0 was) (wide_in sound.0 was) units was.table done stored) where
  now_sound : IsSound (Some (with_table was stored))
  unfolding with_table
  now_sound = (sound.0, sound.1, are.sound)

  number_later : (i : ℕ) (x : List ℕ) → HasNumber (view_of was.table) i x → HasNumber (view_of stored) i x
  number_later i x number =
      let (rest, is) = grows_from packed_cmp (graph_in sound.0 was) are.works.more (view_of was.table).expanded was.table.positions
      stored.positions are.works.grows in
      subst (λ (xs : List (List ℕ)). slice_get xs i ≡ Some x) (sym is) (get_before was.table.positions rest i x number)

  settled_later : (i : ℕ) (w : Player) (n : ℕ) → (view_of was.table).value i ≡ Some (w, n)
      → (view_of stored).value i ≡ Some (w, n)
  settled_later = settled_at (graph_in sound.0 was) (wide_in sound.0 was) (2 ^ 24) (view_of was.table) (view_of stored) done are.works number_later

  -- a finished table stays as it is
  stays_finished : IsFinished (view_of was.table) → brief_of (with_table was stored) now_sound ≡ brief_of was sound
  unfolding with_table now_sound brief_of
  stays_finished finished =
      let graph = graph_in sound.0 was in
      let wide = wide_in sound.0 was in
      let old = view_of was.table in
      let new = view_of stored in
      λ i. record {
        text = was.text;
        goal = was.goal;
        view = record {
          known = moved_list was.packing sound.0 (read_sound was.text sound.0 sound.1) was.table.positions stored.positions
              (same_known graph wide (2 ^ 24) old new done are.works finished) (are_positions was sound)
              (are_positions (with_table was stored) now_sound) i;
          expanded = same_expanded graph wide (2 ^ 24) old new done are.works finished i;
          processed = λ (j : ℕ). same_processed graph wide (2 ^ 24) old new done are.works finished j i;
          value = λ (j : ℕ). same_value graph wide (2 ^ 24) old new done are.works finished j i;
        };
      }

  -- a position with these bytes has the number that the bytes have
  told_later : (i : ℕ) (x : List ℕ) (at : Position) → HasNumber (view_of stored) i x → IsAt was.packing sound.0 x at
      → HasNumber (brief_of (with_table was stored) now_sound).view i at
  unfolding with_table now_sound
  told_later i x at number here =
      let (other, told, there) = number_down (with_table was stored) now_sound i x number in
      subst (λ (p : Position). HasNumber (brief_of (with_table was stored) now_sound).view i p)
      (one_position was.packing sound.0 (read_sound was.text sound.0 sound.1) x at other here there) told

  works_told : GoesOnBy units done (brief_of was sound) (brief_of (with_table was stored) now_sound)
  unfolding with_table now_sound brief_of
  works_told = record {
    text_is = refl;
    goal_is = refl;
    known = λ i at number. let (x, there, here) = number_up was sound i at number in told_later i x at (number_later i x there) here;
    settled = settled_later;
    finished = λ finished. stays_finished (finished_up was sound finished);
    units = so_far (with_table was stored) now_sound ∙ are.works.units ∙ ap (λ (n : ℕ). n + done) (sym (so_far was sound));
    all = elim are.all [ inl same ↦ inl same | inr (fewer, finished) ↦ inr (fewer, finished_down (with_table was stored) now_sound finished) ];
  }

-- units are done
works_so : (units : ℕ) (old : Option Kept) (done : ℕ) (counts : Counts) (new : Option Kept) → WorksOnTable units old done counts new
    → (sound : IsSound old) → (now : IsSound new) × Makes (worked done) (work units) (table_of old sound) (table_of new now)
unfolding with_table
works_so units None done counts new works sound = let e = works.loaded in cc
works_so units (Some was) done counts None works sound = let e = works.worked in cc
works_so units (Some was) done counts (Some is) works sound =
    go works.was works.is (same_Some was works.was works.loaded) (same_Some is works.is works.worked) works.same_text works.same_packing
    works.same_goal works.work
  where
    go : (before after : Kept) → was ≡ before → is ≡ after → after.text ≡ before.text → after.packing ≡ before.packing → after.goal ≡ before.goal
        → ((game : Game) → Reads before.text game → IsLocallySound (graph_in game before) (wide_in game before) before.table
        → AreDone (graph_in game before) (wide_in game before) units before.table done after.table)
        → (now : IsSound (Some is)) × Makes (worked done) (work units) (table_of (Some was) sound) (table_of (Some is) now)
    go before after e f text packing goal does =
        let are : AreDone (graph_in sound.0 was) (wide_in sound.0 was) units was.table done after.table =
        subst (λ (k : Kept). AreDone (graph_in sound.0 k) (wide_in sound.0 k) units k.table done after.table) (sym e)
        (does sound.0 (subst (λ (k : Kept). Reads k.text sound.0) e sound.1)
        (subst (λ (k : Kept). IsLocallySound (graph_in sound.0 k) (wide_in sound.0 k) k.table) e sound.2)) in
        let same : with_table was after.table ≡ after = λ i. record {
          text = (ap (λ (k : Kept). k.text) e ∙ sym text) i;
          packing = (ap (λ (k : Kept). k.packing) e ∙ sym packing) i;
          goal = (ap (λ (k : Kept). k.goal) e ∙ sym goal) i;
          table = after.table;
        } in
        subst (λ (k : Kept). (now : IsSound (Some k)) × Makes (worked done) (work units) (table_of (Some was) sound) (table_of (Some k) now))
        (same ∙ sym f)
        (now_sound units done was after.table sound are, works_told units done was after.table sound are)

-- what a command with its reply does to a sound table is what its answer in brief makes of what it tells
pub does_so : (reply : Reply) (command : Command) (old new : Option Kept) → Does reply command old new → (sound : IsSound old)
    → (now : IsSound new) × Makes (answer_of reply) command (table_of old sound) (table_of new now)
does_so Loaded (load text goal) old new loads sound = loads_so text goal old new loads sound
does_so Loaded (work units) old new does sound = absurd does
does_so (Worked done counts) (load text goal) old new does sound = absurd does
does_so (Worked done counts) (work units) old new works sound = works_so units old done counts new works sound
does_so (Refused fault) command old new same sound = stays old new same sound

-- ---- what is answered of the table

value_of_brief : (kept : Kept) (sound : IsSound (Some kept)) (number : ℕ) (value : Value) → IsValue (view_of kept.table) number value
    → IsValue (brief_of kept sound).view number value
unfolding brief_of
value_of_brief kept sound number (Won w n) is = is
value_of_brief kept sound number NobodyWins (none, finished) = (none, finished_down kept sound finished)
value_of_brief kept sound number Open (none, not) = (none, λ finished. not (finished_up kept sound finished))

-- the value that is answered is told
pub value_told : (kept : Option Kept) (table : Option BriefTable) → IsToldBy kept table → (number : ℕ) (value : Value)
    → OfKept (HasValueAt number value) kept → TellsValue number value table
value_told None table told number value has = absurd has
value_told (Some kept) table (sound, is) number value has =
    subst (λ (t : Option BriefTable). TellsValue number value t) (sym is) (value_of_brief kept sound number value has.value_is)

-- so is the text
pub text_told : (kept : Option Kept) (table : Option BriefTable) → IsToldBy kept table → (number : ℕ) (text : List ℕ)
    → OfKept (HasText number text) kept → TellsText number text table
unfolding brief_of
text_told None table told number text has = absurd has
text_told (Some kept) table (sound, is) number text has =
    subst (λ (t : Option BriefTable). TellsText number text t) (sym is) (go has.game (one_game kept.text has.game sound.0 has.reads sound.1) has.text_is)
  where
    go : (game : Game) → game ≡ sound.0 → IsText kept.packing game has.bytes text → TellsText number text (Some (brief_of kept sound))
    go game same is_text =
        let (at, told, here) = number_down kept sound number has.bytes has.number_is in
        let there : IsAt kept.packing game has.bytes is_text.at = record { position_is = is_text.spelled.position; bytes_are = is_text.bytes_are } in
        let one : at ≡ is_text.at = one_position kept.packing sound.0 (read_sound kept.text sound.0 sound.1) has.bytes is_text.at at
        (subst (λ (g : Game). IsAt kept.packing g has.bytes is_text.at) same there) here in (
          game,
          is_text.at,
          subst (λ (g : Game). TextSays kept.text g) (sym same) (says_so kept sound),
          subst (λ (p : Position). HasNumber (brief_of kept sound).view number p) one told,
          is_text.spelled.text_is,
        )

module _ (kept : Kept) (sound : IsSound (Some kept)) where
  -- a best step is a move
  step_told : (i : ℕ) (w : Player) (n j : ℕ) → IsBestStep (graph_in sound.0 kept) (view_of kept.table) i w n j
      → IsMoveIn sound.0 (brief_of kept sound).view i j
  step_told i w n j step =
      let is_sound = read_sound kept.text sound.0 sound.1 in
      let (from, told, here) = number_down kept sound i step.from step.from_number in
      let (to, there, at) = number_down kept sound j step.to step.to_number in
      let (next, same, leads) = step_down kept.packing kept.goal sound.0 is_sound step.from step.to from here step.move in
      record {
        from = from;
        to = to;
        from_number = told;
        to_number = there;
        leads = subst (λ (p : Position). IsSuccessor sound.0 from p) (one_position kept.packing sound.0 is_sound step.to to next at same) leads;
      }

  line_is : (w : Player) (n : ℕ) (numbers : List ℕ)
      → IsBestLine (graph_in sound.0 kept) (view_of kept.table) w n numbers
      → IsLineIn sound.0 (brief_of kept sound).view w n numbers
  unfolding brief_of
  line_is w zero [] line = line
  line_is w zero (i ∷ []) line = line
  line_is w zero (i ∷ j ∷ rest) line = line
  line_is w (suc n) [] line = line
  line_is w (suc n) (i ∷ []) line = line
  line_is w (suc n) (i ∷ j ∷ rest) (value, step, line) = (value, step_told i w n j step, line_is w n (j ∷ rest) line)

-- so is a best line
pub line_told : (kept : Option Kept) (table : Option BriefTable) → IsToldBy kept table → (number : ℕ) (numbers : List ℕ)
    → OfKept (HasLine number numbers) kept → TellsLine number numbers table
unfolding brief_of
line_told None table told number numbers has = absurd has
line_told (Some kept) table (sound, is) number numbers has =
    let best = has sound.0 sound.1 in
    subst (λ (t : Option BriefTable). TellsLine number numbers t) (sym is) (
      sound.0,
      best.winner,
      best.distance,
      says_so kept sound,
      best.begins,
      line_is kept sound best.winner best.distance numbers best.line,
    )

-- so are rows
pub rows_told : (kept : Option Kept) (table : Option BriefTable) → IsToldBy kept table
    → (from count : ℕ) (rows : List Row)
    → OfKept (HasRows from count rows) kept → TellsRows from count rows table
unfolding brief_of
rows_told None table told from count rows has = absurd has
rows_told (Some kept) table (sound, is) from count rows has =
    subst (λ (t : Option BriefTable). TellsRows from count rows t) (sym is) (record {
      all = has.rows_are.all ∙ ap (λ (n : ℕ). min count (n - from)) (sym (same_length kept sound));
      numbers = has.rows_are.numbers;
      values = λ k row at. value_of_brief kept sound row.number row.value (has.rows_are.values k row at);
    })

-- so are counts
pub counts_told : (kept : Option Kept) (table : Option BriefTable) → IsToldBy kept table
    → (counts : Counts) (here : Kept) → kept ≡ Some here
    → counts ≡ counts_of here.table → TellsCounts counts table
unfolding brief_of
counts_told None table told counts here none are = absurd cc
counts_told (Some kept) table (sound, is) counts here same are =
    let all : counts ≡ counts_of kept.table = are ∙ ap (λ (k : Kept). counts_of k.table) (sym (same_Some kept here same)) in
    let fits = sound.2.table in
    subst (λ (t : Option BriefTable). TellsCounts counts t) (sym is) (
      ap (λ (c : Counts). c.known) all ∙ sym (same_length kept sound),
      ap (λ (c : Counts). c.expanded) all,
      (
        λ complete. finished_down kept sound (complete_finished kept.table fits (subst IsComplete all complete)),
        λ finished. subst IsComplete (sym all) (finished_complete kept.table fits (finished_up kept sound finished)),
      ),
    )

-- ---- what is told again

-- nothing is told where no game is loaded
nothing_told : (one : Told) → IsTold one None → ⊥
nothing_told (the_value number value) told = told
nothing_told (the_text number text) told = told
nothing_told (the_line number numbers) told = told

line_again : (asked done : ℕ) (old new : BriefTable) → GoesOnBy asked done old new
    → (game : Game) (w : Player) (n : ℕ) (numbers : List ℕ)
    → IsLineIn game old.view w n numbers → IsLineIn game new.view w n numbers
line_again asked done old new goes game w zero [] line = line
line_again asked done old new goes game w zero (i ∷ []) line = goes.settled i w 0 line
line_again asked done old new goes game w zero (i ∷ j ∷ rest) line = line
line_again asked done old new goes game w (suc n) [] line = line
line_again asked done old new goes game w (suc n) (i ∷ []) line = line
line_again asked done old new goes game w (suc n) (i ∷ j ∷ rest) (value, step, line) = (
  goes.settled i w (suc n) value,
  record {
    from = step.from;
    to = step.to;
    from_number = goes.known i step.from step.from_number;
    to_number = goes.known j step.to step.to_number;
    leads = step.leads;
  },
  line_again asked done old new goes game w n (j ∷ rest) line,
)

worked_again : (asked done : ℕ) (old new : BriefTable) → GoesOnBy asked done old new → (one : Told) → IsForGood one
    → IsTold one (Some old)
    → IsTold one (Some new)
worked_again asked done old new goes (the_value number (Won w n)) good is = goes.settled number w n is
worked_again asked done old new goes (the_value number NobodyWins) good (none, finished) =
    subst (λ (t : BriefTable). (t.view.value number ≡ None) × IsFinished t.view) (sym (goes.finished finished)) (none, finished)
worked_again asked done old new goes (the_value number Open) good is = absurd good
worked_again asked done old new goes (the_text number text) good (game, at, says, number_is, text_is) =
    (game, at, subst (λ (t : Text). TextSays t game) (sym goes.text_is) says, goes.known number at number_is, text_is)
worked_again asked done old new goes (the_line number numbers) good (game, w, n, says, begins, line) =
    (game, w, n, subst (λ (t : Text). TextSays t game) (sym goes.text_is) says, begins, line_again asked done old new goes game w n numbers line)

-- whatever a command makes of a table tells what that told for good
pub told_again : (answer : BriefAnswer) (command : Command) (old new : Option BriefTable)
    → Makes answer command old new → (one : Told) → IsForGood one
    → IsTold one old → IsTold one new
told_again loaded (load text goal) old new makes one good told =
    absurd (nothing_told one (subst (λ (t : Option BriefTable). IsTold one t) makes.none told))
told_again loaded (work asked) old new makes one good told = absurd makes
told_again (worked done) (load text goal) old new makes one good told = absurd makes
told_again (worked done) (work asked) None new makes one good told = absurd makes
told_again (worked done) (work asked) (Some old) None makes one good told = absurd makes
told_again (worked done) (work asked) (Some old) (Some new) makes one good told = worked_again asked done old new makes one good told
told_again refused command old new same one good told = subst (λ (t : Option BriefTable). IsTold one t) (sym same) told
