use Rattle.std.proofs.Common.{◌≡◌, ◌≢◌, ◌∙◌, inl, inr, ℕ, ◌≤◌, List, length, false, true, Option, Result, Ok, Err, sym, ap, subst, arith}
use Rattle.std.specs.Prelude.{OnErr, IfErr}
use mathlib.Core.Logic.{∥∥₁_elim, ∥∥₁_prop}
use Rattle.page_store.specs.Causes.{StoreCommitCause}
use Rattle.page_store.specs.Store.{Store, IsUnchanged, IsCommitted}
use Rattle.page_store.specs.declared.fault.PageFault.{PageFault}
use Rattle.page_store.specs.declared.fault.PageFault.TheVariants.{Disk, NotATable, Damaged, TableFull, OutOfMemory, Closed}
use Rattle.page_store.specs.lemmas.Frames.{unchanged_refl}
use Rattle.game_file.specs.Kept.{Kept}
use Rattle.game_file.specs.Numbers.{AreWithinLimits}
use Rattle.position_pack.specs.declared.kind.PackingKind.{PackingKind}
use Rattle.game_file.specs.Fields.{commits_in, layout_in, packing_in, number_of_packing, goal_numbered, HasPlaceFor, SaysPages}
use Rattle.tree_table.specs.declared.slot.TreeSlot.{TreeSlot}
use Rattle.tree_table.specs.Commits.{IsSaved, IsNotSaved}
use Rattle.tree_table.specs.KeptTrees.{IsWorkedOn}
use Rattle.tree_table.specs.Slot.{slot_in, IsGameTreeSlot}
use Rattle.tree_table.specs.WorkTable.{work_of, table_now, HoldsWork}
use Rattle.tree_table.specs.lemmas.KeptPages.{stop_stores, committed_keeps, unchanged_keeps, unchanged_stop}
use Rattle.tree_table.specs.lemmas.StandingTable.{was_honest}
use Rattle.tree_table.specs.lemmas.Versions.{commits_keep_holds}
use Rattle.tree_table.proofs.Commits.{on_ok, commit_left, commit_pages, commit_shut, commit_work, committed_calm, committed_held, committed_stands, held_on}
use Rattle.tree_table.proofs.Limits.{within_limits}
use Rattle.tree_table.proofs.working.TreeTable.save.Given.{Over}
use Rattle.tree_table.proofs.working.TreeTable.save.Goals as goal

-- a commit that fails leaves the store as it was, or closed
left : (old new : Store) (fault : PageFault) → StoreCommitCause old new fault → (fault ≢ Disk → new ≡ old) → new.closed ≡ false → IsUnchanged old new
left old new Disk cause same is_open = elim cause.1 [ inl unchanged ↦ unchanged | inr shut ↦ let never : true ≡ false = sym shut ∙ is_open in absurd (cc) ]
left old new NotATable cause same is_open = absurd cause
left old new Damaged cause same is_open = absurd cause
left old new TableFull cause same is_open = absurd cause
left old new OutOfMemory cause same is_open = absurd cause
left old new Closed cause same is_open = subst (λ (s : Store). IsUnchanged old s) (sym (same (λ e. cc))) (unchanged_refl old)

-- the slot of the game
game : (root : List ℕ) (slot : TreeSlot) (kind : PackingKind) (goal : Option ℕ) → kind ≡ slot.packing → goal ≡ goal_numbered slot.goal → slot.goal ≤ 1000000
    → packing_in root ≡ number_of_packing slot.packing → slot_in root ≡ slot → AreWithinLimits slot.sizes → 1 ≤ slot.sizes.packed
    → IsGameTreeSlot root kind goal
game root slot kind goal same goals points packing is limits some = record {
  packing = packing ∙ ap number_of_packing (sym same);
  goal = ap (λ (s : TreeSlot). goal_numbered s.goal) is ∙ sym goals;
  points = omega (arith, points, ap (λ (s : TreeSlot). s.goal) is);
  limits = subst (λ (s : TreeSlot). AreWithinLimits s.sizes) (sym is) limits;
  some = subst (λ (s : TreeSlot). 1 ≤ s.sizes.packed) (sym is) some;
}

-- the new root has the layout of the one that the work began with
layout_same : (g : Over) (c : goal.After-self-1 g) (begun : Store) (was : Option Kept) (is : Kept)
    → IsWorkedOn c.args.self.now.slot begun (g.P.Pages.store c.args.self.now.store) was is → layout_in c.game_slot-root.result ≡ layout_in begun.root
layout_same g c begun was is it = c.game_slot-root.ensures.layout ∙ c.word_at-layout.ensures ∙ ap layout_in (c.root.ensures ∙ it.works.root)

pages_said : (g : Over) (c : goal.After-self-1 g) (begun : Store) (was : Option Kept) (is : Kept)
    → IsWorkedOn c.args.self.now.slot begun (g.P.Pages.store c.args.self.now.store) was is → SaysPages c.game_slot-root.result (length begun.marks)
pages_said g c begun was is it = λ late. c.game_slot-root.ensures.pages late ∙ c.capacity.ensures ∙ it.works.same_pages

slot_told : (g : Over) (c : goal.After-self-1 g) (begun : Store) (was : Option Kept) (is : Kept)
    → IsWorkedOn c.args.self.now.slot begun (g.P.Pages.store c.args.self.now.store) was is → slot_in c.game_slot-root.result ≡ c.args.self.now.slot
slot_told g c begun was is it =
    c.game_slot-root.ensures.slot (subst (λ (n : ℕ). HasPlaceFor n c.args.self.now.slot.goal)
    (sym (c.word_at-layout.ensures ∙ ap layout_in (c.root.ensures ∙ it.works.root))) it.place)

slot_of_game : (g : Over) (c : goal.After-self-1 g) (begun : Store) (was : Option Kept) (is : Kept)
    → IsWorkedOn c.args.self.now.slot begun (g.P.Pages.store c.args.self.now.store) was is → IsGameTreeSlot c.game_slot-root.result is.packing is.goal
slot_of_game g c begun was is it =
    game c.game_slot-root.result c.args.self.now.slot is.packing is.goal it.packing it.goal it.points c.game_slot-root.ensures.packing
    (slot_told g c begun was is it)
    (within_limits is.table c.args.self.now.slot.sizes it.table it.holds.counts it.short it.packed it.few) it.some

pub invariant_of-self : goal.invariant_of-self
invariant_of-self g c =
    let self = c.args.self.now in
    let old = g.P.Pages.store self.store in
    let new = g.P.Pages.store c.commit-result.new.self in
    let told = c.commit-result.ensures in
    record {
      reads = tt;
      some = self.some;
      short = self.short;
      few = self.few;
      points = self.points;
      holds = λ honest.
          let was = was_honest told.commits.goes_on honest.disk in
          ∥∥₁_elim (self.holds (record { disk = was; whole = honest.whole })) ∥∥₁_prop (λ (h : HoldsWork (work_of self.slot self.text.items self.torn old)).
          ∣ commit_work c.game_slot-root.result self.slot self.text.items self.torn old new c.commit-result.result self.few told.ok told.kept_marks (told.kept_pages was) h ∣₁);
      long = tt;
      last = λ honest. tt;
    }

pub returns-clause-ok : goal.returns-clause-ok
returns-clause-ok g c =
    let self = c.args.self.now in
    let root = c.game_slot-root.result in
    let old = g.P.Pages.store self.store in
    let new = g.P.Pages.store c.commit-result.new.self in
    let told = c.commit-result.ensures in
    let slot = self.slot in
    let text = self.text.items in
    on_ok (IsCommitted root old new) (IsSaved c.args.commits (work_of slot text self.torn old) (work_of slot text self.torn new)) c.commit-result.result
    (λ done. record {
      commits = ap commits_in done.is ∙ c.game_slot-root.ensures.commits;
      layout = ap layout_in done.is ∙ c.game_slot-root.ensures.layout ∙ c.word_at-layout.ensures ∙ ap layout_in c.root.ensures;
      pages = subst (λ (root : List ℕ). SaysPages root (length new.marks)) (sym done.is)
          (λ late. c.game_slot-root.ensures.pages late ∙ c.capacity.ensures ∙ sym done.marks.same_length);
      root = λ place.
          ap slot_in done.is ∙ c.game_slot-root.ensures.slot (subst (λ (n : ℕ). HasPlaceFor n slot.goal)
          (sym (c.word_at-layout.ensures ∙ ap layout_in c.root.ensures)) place);
      done = λ begun was is it.
          let few : length begun.marks ≤ 1048576 = omega (arith, (g.met.P.Pages.sound self.store).few, it.works.same_pages) in
          committed_keeps root slot is.text is.packing is.goal is.table old (slot_of_game g c begun was is it)
          (slot_told g c begun was is it) it.text it.table it.holds
          begun new was it.honest it.safe it.kept (layout_same g c begun was is it) it.says
          (pages_said g c begun was is it) it.works told.commits it.enough few done;
      stands = λ whole honest.
          ∥∥₁_elim (self.holds (record { disk = honest; whole = whole })) ∥∥₁_prop (λ (h : HoldsWork (work_of slot text self.torn old)).
          ∣ committed_stands root slot text (table_now (work_of slot text self.torn old)) old new done (told.kept_pages honest) h ∣₁);
      holds = λ honest text table.
          held_on slot text table old new done.marks.same_length
          (λ p held. inl (committed_held old.holds.of old.marks new.marks done.marks p held)) (told.kept_pages honest);
      needed = λ honest text table. committed_stands root slot text table old new done (told.kept_pages honest);
      calm = committed_calm root old new done;
      committed = (root, done);
      kept_pages = told.kept_pages;
      «open» = done.closed;
    }) told.ok

-- what is said of a refusal, by four clauses
of_refusal : {X E A B : Type 0} (P Q R : E → Type 0) (r : Result X E) → ((e : E) → P e → Q e → A → B → R e) → IfErr r P → IfErr r Q
    → OnErr r A → OnErr r B → IfErr r R
of_refusal P Q R (Ok x) so p q a b = tt
of_refusal P Q R (Err e) so p q a b = so e p q a b

pub returns-clause-err : goal.returns-clause-err
returns-clause-err g c =
    let self = c.args.self.now in
    let root = c.game_slot-root.result in
    let old = g.P.Pages.store self.store in
    let new = g.P.Pages.store c.commit-result.new.self in
    let told = c.commit-result.ensures in
    let slot = self.slot in
    of_refusal (StoreCommitCause old new) (λ fault. fault ≢ Disk → new ≡ old)
    (IsNotSaved (work_of slot self.text.items self.torn old) (work_of slot self.text.items self.torn new)) c.commit-result.result
    (λ fault cause same still marks. record {
      kept = λ begun was is it is_open.
          let few : length begun.marks ≤ 1048576 = omega (arith, (g.met.P.Pages.sound self.store).few, it.works.same_pages) in
          unchanged_keeps root slot is.text is.packing is.goal is.table old (slot_of_game g c begun was is it)
          (slot_told g c begun was is it) it.text it.table it.holds
          begun new was it.honest it.safe it.kept (layout_same g c begun was is it) it.says (pages_said g c begun was is it) it.works told.commits it.enough few
          (left old new fault cause same is_open);
      kept_stop = λ begun was is it is_open.
          let few : length begun.marks ≤ 1048576 = omega (arith, (g.met.P.Pages.sound self.store).few, it.works.same_pages) in
          unchanged_stop root slot is.text is.packing is.goal is.table old (slot_of_game g c begun was is it)
          (slot_told g c begun was is it) it.text it.table it.holds
          begun new was it.honest it.safe it.kept (layout_same g c begun was is it) it.says (pages_said g c begun was is it) it.works told.commits it.enough few
          (left old new fault cause same is_open);
      left = still;
      kept_marks = marks;
      kept_pages = told.kept_pages;
      still = λ other. ap (λ (s : Store). s.closed) (same other);
      cause = cause;
    }) told.cause told.untouched (commit_left old new c.commit-result.result told.commits.goes_on told.kept_root told.kept_marks told.kept_pages) told.kept_marks

pub returns-clause-stop : goal.returns-clause-stop
returns-clause-stop g c = λ begun was is it.
    let root = c.game_slot-root.result in
    let old = g.P.Pages.store c.args.self.now.store in
    let few : length begun.marks ≤ 1048576 = omega (arith, (g.met.P.Pages.sound c.args.self.now.store).few, it.works.same_pages) in
    stop_stores root c.args.self.now.slot is.text is.packing is.goal is.table old (slot_of_game g c begun was is it)
    (slot_told g c begun was is it) it.text it.table it.holds
    begun (g.P.Pages.store c.commit-result.new.self) was it.honest it.safe it.kept (layout_same g c begun was is it) it.says
    (pages_said g c begun was is it) it.works c.commit-result.ensures.commits it.enough few

pub returns-clause-advances : goal.returns-clause-advances
returns-clause-advances g c =
    let old = g.P.Pages.store c.args.self.now.store in
    let new = g.P.Pages.store c.commit-result.new.self in
    let told = c.commit-result.ensures in
    let pages = commit_pages c.game_slot-root.result old new c.commit-result.result told.ok told.kept_marks in
    record {
      held = commits_keep_holds c.game_slot-root.result old new pages told.commits;
      time = told.commits.goes_on;
      same_size = told.commits.same_size;
      failures = told.commits.failures;
      same_pages = pages;
      shut = commit_shut old new c.commit-result.result told.closed told.untouched;
      closes = told.commits.closes;
    }
