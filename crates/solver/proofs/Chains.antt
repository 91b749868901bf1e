-- What is left after the sittings of a history is a table that they lead to, and reopening gives it.
use Rattle.std.proofs.Common.{◌≡◌, inl, inr, ℕ, List, [], ◌∷◌, ◌++◌, Option, None, refl, sym, subst}
use Rattle.std.specs.Prelude.{IsTrue}
use Rattle.sector_disk.specs.Disk.{Image, Shown, Disk, MayLeave}
use Rattle.sector_disk.specs.lemmas.Moments.{reads_left, still_honest, leaves_at}
use Rattle.root_pair.specs.Root.{IsTableImage}
use Rattle.game_file.specs.Kept.{Kept, Layout, in_any}
use Rattle.game_file.specs.State.{State}
use Rattle.game_file.specs.Stops.{LeavesNow}
use Rattle.solver.specs.declared.fault.SolverFault.{SolverFault}
use Rattle.solver.specs.declared.fault.SolverFault.TheVariants.{Disk as DiskFailed, NotATable, AlreadyATable, Damaged, OldLayout, TooSmall, TableFull, OutOfMemory, Closed, Game as BadGame, NoGame, GameAlready, KeeperChooses, TooWide, TooManyPositions, Inconsistent, NoSuchPosition, NotSettled, ListingsUsedUp, BadPosition}
use Rattle.solver.specs.Headline.{IsUnlucky, Reopens, Headline, HeadlineFrom}
use Rattle.solver.specs.Held.{Holds, IsSound}
use Rattle.solver.specs.Histories.{Sitting, LeadTo, History, HistoryFrom, was_made, was_left, was_found, was_reopened, was_not_opened}
use Rattle.solver.specs.lemmas.Laws.{a_sound_table_is_held}
use Rattle.solver.specs.Opened.{IsOpened, OpenCause}
use Rattle.solver.proofs.Prefixes.{what_sittings_lead_to_is_sound, sitting_leads, a_sound_table_is_exact}

-- one sitting more
lead_more : (sittings : List Sitting) (sitting : Sitting) (old mid new : Option Kept) → LeadTo sittings old mid
    → LeadTo (sitting ∷ []) mid new → LeadTo (sittings ++ (sitting ∷ [])) old new
lead_more [] sitting old mid new same leads = subst (λ (k : Option Kept). LeadTo (sitting ∷ []) k new) same leads
lead_more (s ∷ sittings) sitting old mid new (begins, (all, (left, may, rest))) leads =
    (begins, (all, (left, may, lead_more sittings sitting left mid new rest leads)))

module _ (Stores : ℕ → Layout) where
  -- a table that the sittings lead to, stored
  abbrev IsLeft : Option Kept → List Sitting → Image → Type 0
  IsLeft begins sittings image = (kept : Option Kept) × LeadTo sittings begins kept × in_any Stores image kept

  history_leads : {begins : Option Kept} {sittings : List Sitting} {left : Shown} → IsSound begins → HistoryFrom Stores begins sittings left
      → (image : Image) → MayLeave left image → IsLeft begins sittings image
  history_leads sound (was_made {disk} {count} {was} {sitting} {left} honest created sits) image may =
      let none : was.kept ≡ None = created.empty honest in
      let (kept, leads, stores) =
      sitting_leads Stores was sitting left sits (still_honest created.from.goes_on honest) (subst (λ (k : Option Kept). IsSound k) (sym none) tt)
      (subst (λ (k : Option Kept). LeavesNow (Stores was.capacity) was.disk k) (sym none) (created.now honest)) image may in
      (kept, subst (λ (k : Option Kept). LeadTo (sitting ∷ []) k kept) none leads, stores)
  history_leads {begins} sound (was_left stored) image may = (begins, refl, stored image may)
  history_leads sound (was_found {disk} {count} {was} {sitting} {left} honest opened sits) image may =
      let (kept, leads, stores) =
      sitting_leads Stores was sitting left sits (still_honest opened.from.goes_on honest) sound (opened.now honest) image may in
      (kept, leads, stores)
  history_leads sound (was_reopened {begins} {sittings} {before} {left} {disk} {count} {was} {sitting} history found opened sits) image may =
      let (old, led, stored) = history_leads sound history disk.now.contents (found.as_left disk.now.contents (reads_left disk)) in
      let now_sound = what_sittings_lead_to_is_sound sittings begins old led sound in
      let same : was.kept ≡ old = opened.only found.honest old (a_sound_table_is_held (in_any Stores) disk.now.contents old stored now_sound) in
      let (kept, leads, stores) =
      sitting_leads Stores was sitting left sits (still_honest opened.from.goes_on found.honest)
      (subst (λ (k : Option Kept). IsSound k) (sym same) now_sound) (opened.now found.honest) image may in
      (kept, lead_more sittings sitting begins old kept led (subst (λ (k : Option Kept). LeadTo (sitting ∷ []) k kept) same leads), stores)
  history_leads sound (was_not_opened history found leaves stop) image may =
      history_leads sound history image (found.as_left image (leaves_at leaves stop image may))

  -- a disk that holds a table is opened with it
  pub opened_so : (disk : Disk) (count : ℕ) (state : State) (kept : Option Kept) → IsTrue disk.honest
      → Holds (in_any Stores) disk.now.contents kept → IsOpened Stores disk count state
      → (state.kept ≡ kept) × LeavesNow (Stores state.capacity) state.disk kept
  opened_so disk count state kept honest holds opened =
      let same = opened.only honest kept holds in
      (same, subst (λ (k : Option Kept). LeavesNow (Stores state.capacity) state.disk k) same (opened.now honest))

  module _ (begins : (pages : ℕ) (image : Image) (kept : Option Kept) → Stores pages image kept → IsTableImage image) where
    -- or that is refused for want of memory or for a fault of the disk
    pub opens_or_fails : (disk : Disk) (before now : ℕ) (kept : Option Kept) (fault : SolverFault) → IsTrue disk.honest
        → Holds (in_any Stores) disk.now.contents kept
        → OpenCause Stores disk before now fault → IsUnlucky before now fault
    opens_or_fails disk before now kept DiskFailed honest holds cause = inl (refl, cause)
    opens_or_fails disk before now kept NotATable honest holds cause = absurd (cause honest (begins holds.stores.0 disk.now.contents kept holds.stores.1))
    opens_or_fails disk before now kept AlreadyATable honest holds cause = absurd cause
    opens_or_fails disk before now kept Damaged honest holds cause = absurd ((cause honest).1 kept holds)
    opens_or_fails disk before now kept OldLayout honest holds cause = absurd (cause honest kept holds.stores)
    opens_or_fails disk before now kept TooSmall honest holds cause = absurd cause
    opens_or_fails disk before now kept TableFull honest holds cause = absurd cause
    opens_or_fails disk before now kept OutOfMemory honest holds cause = inr refl
    opens_or_fails disk before now kept Closed honest holds cause = absurd cause
    opens_or_fails disk before now kept (BadGame fault) honest holds cause = absurd cause
    opens_or_fails disk before now kept NoGame honest holds cause = absurd cause
    opens_or_fails disk before now kept GameAlready honest holds cause = absurd cause
    opens_or_fails disk before now kept (KeeperChooses number) honest holds cause = absurd cause
    opens_or_fails disk before now kept TooWide honest holds cause = absurd cause
    opens_or_fails disk before now kept TooManyPositions honest holds cause = absurd cause
    opens_or_fails disk before now kept Inconsistent honest holds cause = absurd cause
    opens_or_fails disk before now kept NoSuchPosition honest holds cause = absurd cause
    opens_or_fails disk before now kept NotSettled honest holds cause = absurd cause
    opens_or_fails disk before now kept ListingsUsedUp honest holds cause = absurd cause
    opens_or_fails disk before now kept BadPosition honest holds cause = absurd cause

    -- reopening gives the table that an image holds
    pub reopens : (image : Image) (kept : Option Kept) → Holds (in_any Stores) image kept → Reopens Stores image kept
    reopens image kept holds = record {
      holds = holds;
      gives = λ disk count state honest reads opened.
          opened_so disk count state kept honest (subst (λ (p : Image). Holds (in_any Stores) p kept) (sym reads) holds) opened;
      fails = λ disk before now fault honest reads cause.
          opens_or_fails disk before now kept fault honest (subst (λ (p : Image). Holds (in_any Stores) p kept) (sym reads) holds) cause;
    }

    -- the headline, of each table that is locally sound as it begins
    pub the_headline_from : (begins : Option Kept) (sittings : List Sitting) (left : Shown) (image : Image) → IsSound begins
        → HistoryFrom Stores begins sittings left → MayLeave left image → HeadlineFrom Stores begins sittings image
    the_headline_from begins sittings left image sound history may =
        let (kept, leads, stores) = history_leads sound history image may in
        let now_sound = what_sittings_lead_to_is_sound sittings begins kept leads sound in
        (kept, leads, reopens image kept (a_sound_table_is_held (in_any Stores) image kept stores now_sound), a_sound_table_is_exact kept now_sound)

    -- of a table that was made
    pub the_headline : (sittings : List Sitting) (left : Shown) (image : Image) → History Stores sittings left → MayLeave left image
        → Headline Stores sittings image
    the_headline sittings left image history may = the_headline_from None sittings left image tt history may
