-- The first table of a game.
use Rattle.std.proofs.Common.{◌≡◌, ℕ, ◌+◌, ◌*◌, ◌<◌, ◌≤◌, List, length, Option, None, Result, Ok, Err, IsTrue, refl, sym, ◌∙◌, ap, subst, arith}
use Rattle.std.specs.Prelude.{OnErr, IfErr}
use Rattle.sector_disk.specs.lemmas.Moments.{goes_on_trans, leaves_more, still_honest}
use Rattle.page_store.specs.lemmas.Works.{closes_then}
use Rattle.retrograde.specs.Stored.{Stored}
use Rattle.tree_table.specs.Commits.{StoreAdvances}
use Rattle.tree_table.specs.lemmas.FirstTable.{IsFirstTable}
use Rattle.tree_table.specs.lemmas.Versions.{keeps_holds_then, works_keep_holds}
use Rattle.page_store.specs.Causes.{StoreCommitCause}
use Rattle.page_store.specs.declared.fault.PageFault.{PageFault}
use Rattle.page_store.specs.declared.fault.PageFault.TheVariants as page
use Rattle.page_store.specs.Marks.{free_count}
use Rattle.page_store.specs.Store.{Store, IsSafe, StoreWorks}
use Rattle.page_chain.specs.Causes.{ChainWriteCause}
use Rattle.page_chain.specs.declared.page.TheConstants.{PAYLOAD}
use Rattle.table.specs.declared.fault.TableFault.{TableFault}
use Rattle.table.specs.declared.fault.TableFault.TheVariants.{Disk, Damaged, TableFull, OutOfMemory, Closed}
use Rattle.btree.specs.lemmas.Unchanged.{grew_before}
use Rattle.tree_table.specs.Causes.{ChangeCause, HasNoTable, StartCause}
use Rattle.tree_table.specs.lemmas.Faults.{fault_of}
use Rattle.page_store.specs.lemmas.Carried.{saved_spells}
use Rattle.retrograde.specs.Stored.{loaded}
use Rattle.position_pack.specs.declared.kind.PackingKind.{PackingKind}
use Rattle.game_file.specs.Kept.{Kept, kept_as}
use Rattle.game_file.specs.lemmas.FirstTable.{loaded_is_table}
use Rattle.game_file.specs.Stops.{LeavesTable}
use Rattle.game_file.specs.Fields.{layout_in, number_of_goal, HasPlaceFor, SaysPages}
use Rattle.tree_table.specs.declared.slot.TreeSlot.{TreeSlot}
use Rattle.tree_table.specs.Held.{StoresTrees}
use Rattle.tree_table.specs.KeptTrees.{IsKeptInTrees, IsVacant, IsWorkedOn}
use Rattle.tree_table.specs.WorkTable.{HoldsTable}
use Rattle.tree_table.specs.lemmas.KeptPages.{kept_stands, spells_stores_trees}

-- a call that commits nothing leaves what is kept, all the time
pub works_leave : (old new : Store) (was : Option Kept) → IsTrue old.disk.honest → (_ : StoreWorks old new) → (safe : IsSafe old) → IsKeptInTrees old was
    → SaysPages old.root (length old.marks) → 16 ≤ length old.marks → length old.marks ≤ 1048576
    → LeavesTable (StoresTrees (layout_in old.root) (length old.marks)) old.disk new.disk was
works_leave old new was honest works safe it says enough few =
    leaves_more (λ image saved. spells_stores_trees old.root (layout_in old.root) (length old.marks) was image refl says enough few
    (saved_spells old (kept_stands old was it) image saved))
    (works.leaves honest safe)

-- why the first table is not put
pub chain_fails : (long : ℕ) (old new : Store) (fault : PageFault) → ChainWriteCause long old new fault → StartCause long old new (fault_of fault)
chain_fails long old new page.Disk cause = cause.0
chain_fails long old new page.NotATable cause = absurd cause
chain_fails long old new page.Damaged cause = absurd cause
chain_fails long old new page.TableFull cause = omega (arith, cause)
chain_fails long old new page.OutOfMemory cause = tt
chain_fails long old new page.Closed cause = cause

pub add_fails : (long : ℕ) (slot : TreeSlot) (old mid new : Store) (fault : TableFault) → StoreWorks old mid → mid.closed ≡ old.closed
    → (IsTrue mid.disk.honest → HasNoTable slot mid → ⊥) → PAYLOAD * free_count old.marks < PAYLOAD * free_count mid.marks + long + PAYLOAD
    → (fault ≡ TableFull → free_count mid.marks < 2) → ChangeCause HasNoTable slot mid new fault → StartCause long old new fault
add_fails long slot old mid new Disk works still there few full cause = grew_before old.failures mid.failures new.failures works.failures cause
add_fails long slot old mid new Damaged works still there few full cause = λ honest. there (still_honest works.goes_on honest) cause
add_fails long slot old mid new TableFull works still there few full cause = omega (arith, few, full refl)
add_fails long slot old mid new OutOfMemory works still there few full cause = tt
add_fails long slot old mid new Closed works still there few full cause = sym still ∙ cause

pub commit_fails : (long : ℕ) (old mid new : Store) (fault : PageFault) → StoreWorks old mid → mid.closed ≡ old.closed → StoreCommitCause mid new fault
    → StartCause long old new (fault_of fault)
commit_fails long old mid new page.Disk works still cause = grew_before old.failures mid.failures new.failures works.failures cause.0
commit_fails long old mid new page.NotATable works still cause = absurd cause
commit_fails long old mid new page.Damaged works still cause = absurd cause
commit_fails long old mid new page.TableFull works still cause = absurd cause
commit_fails long old mid new page.OutOfMemory works still cause = absurd cause
commit_fails long old mid new page.Closed works still cause = sym still ∙ cause

-- a reason in another's words, by what two clauses say
pub on_error : {X E : Type 0} (P Q R : E → Type 0) (r : Result X E) → ((e : E) → P e → Q e → R e) → IfErr r P → IfErr r Q → IfErr r R
on_error P Q R (Ok x) so is too = tt
on_error P Q R (Err e) so is too = so e is too

pub any_error : {X E : Type 0} (P : Type 0) (r : Result X E) → P → OnErr r P
any_error P (Ok x) is = tt
any_error P (Err e) is = is

-- a text that was lent is the one that is kept
pub held_of : (slot : TreeSlot) (lent text : List ℕ) (table : Stored (List ℕ)) (old mid : Store) → lent ≡ text
    → (IsTrue old.disk.honest → HoldsTable slot lent table mid) → IsTrue old.disk.honest → HoldsTable slot text table mid
held_of slot lent text table old mid same holds honest = subst (λ (x : List ℕ). HoldsTable slot x table mid) same (holds honest)

-- a text and a start are put where no game was
pub begun : {lent text x : List ℕ} {kind : PackingKind} {goal : Option ℕ} {slot : TreeSlot} (old mid : Store) → lent ≡ text
    → IsFirstTable lent kind goal x old mid slot → HasPlaceFor (layout_in old.root) (number_of_goal goal) → length text ≤ 65536 → IsVacant old
    → IsWorkedOn slot old mid None (kept_as text kind goal (loaded x))
begun {lent} {text} {x} {kind} {goal} {slot} old mid same told place short vacant = record {
  honest = vacant.honest;
  safe = vacant.safe;
  kept = vacant.kept;
  says = vacant.says;
  enough = vacant.enough;
  works = told.works;
  holds = held_of slot lent text (loaded x) old mid same told.table vacant.honest;
  packing = sym told.packing;
  goal = sym told.goal;
  place = subst (λ (n : ℕ). HasPlaceFor (layout_in old.root) n) (sym told.number) place;
  points = told.sized.points;
  text = sym (told.long ∙ ap (λ (ts : List ℕ). length ts) same);
  table = loaded_is_table x;
  short = omega (arith, short, told.long, ap (λ (ts : List ℕ). length ts) same);
  packed = told.sized.short;
  some = told.sized.some;
  few = told.sized.few;
}

-- no game is loaded still
pub vacant_leaves : (old new : Store) → length old.marks ≤ 1048576 → IsVacant old → StoreWorks old new
    → LeavesTable (StoresTrees (layout_in old.root) (length old.marks)) old.disk new.disk None
vacant_leaves old new few vacant works = works_leave old new None vacant.honest works vacant.safe vacant.kept vacant.says vacant.enough few

-- a call that commits nothing is a later state
pub works_advance : {old new : Store} → StoreWorks old new → StoreAdvances old new
works_advance {old} {new} works = record {
  held = works_keep_holds old new works;
  time = works.goes_on;
  same_size = works.same_size;
  failures = works.failures;
  same_pages = works.same_pages;
  shut = works.closed;
  closes = works.closes;
}

pub advances_then : {old mid new : Store} → StoreAdvances old mid → StoreAdvances mid new → StoreAdvances old new
advances_then {old} {mid} {new} first second = record {
  held = keeps_holds_then old mid new first.held second.held;
  time = goes_on_trans first.time second.time;
  same_size = second.same_size ∙ first.same_size;
  failures = omega (arith, first.failures, second.failures);
  same_pages = second.same_pages ∙ first.same_pages;
  shut = λ is. first.shut (second.shut is);
  closes = closes_then first.time.failed_writes second.time.failed_writes first.closes second.closes;
}

-- a root that has a place for a goal has it still
pub place_later : (slot : TreeSlot) (goal : Option ℕ) (old mid : Store) → StoreWorks old mid → slot.goal ≡ number_of_goal goal
    → HasPlaceFor (layout_in old.root) (number_of_goal goal) → HasPlaceFor (layout_in mid.root) slot.goal
place_later slot goal old mid works number place =
    subst (λ (n : ℕ). HasPlaceFor (layout_in mid.root) n) (sym number)
    (subst (λ (r : List ℕ). HasPlaceFor (layout_in r) (number_of_goal goal)) (sym works.root) place)
