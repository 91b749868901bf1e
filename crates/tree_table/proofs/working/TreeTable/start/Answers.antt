use Rattle.std.proofs.Common.{◌≡◌, ◌∙◌, inl, ℕ, true, false, List, length, None, Vec, Global, refl, sym, ap, subst}
use Rattle.sector_disk.specs.lemmas.Moments.{leaves_more, still_honest}
use Rattle.rbg_game.specs.Goals.{points_of}
use Rattle.game_file.specs.Fields.{goal_numbered, layout_in}
use Rattle.game_file.specs.Kept.{kept_as}
use Rattle.retrograde.specs.Stored.{loaded}
use Rattle.table.specs.declared.fault.TableFault.{TableFault}
use Rattle.tree_table.specs.lemmas.Faults.{fault_of}
use Rattle.tree_table.specs.lemmas.StandingTable.{still_then, was_honest, works_still}
use Rattle.tree_table.specs.declared.slot.TreeSlot.{TreeSlot}
use Rattle.tree_table.specs.Causes.{StartCause}
use Rattle.tree_table.specs.Commits.{IsNotStarted}
use Rattle.tree_table.specs.InTrees.{work_in}
use Rattle.tree_table.specs.WorkTable.{HoldsTable, work_of}
use Rattle.tree_table.proofs.Faults.{passed_on}
use Rattle.tree_table.proofs.HeldTable.{holds_itself}
use Rattle.tree_table.specs.KeptTrees.{StandsInTrees}
use Rattle.tree_table.proofs.FirstTable.{advances_then, begun, commit_fails, held_of, place_later, vacant_leaves, works_advance}
use Rattle.tree_table.proofs.working.TreeTable.start.Goals as goal

pub returns-in_err-slot-clause-err : goal.returns-in_err-slot-clause-err
returns-in_err-slot-clause-err g c =
    let old = g.P.Pages.store c.args.self.now.store in
    let mid = g.P.Pages.store c.first_table.new.store in
    let told = c.in_err-slot.ensures.err in
    passed_on _ c.from_residual.result _ c.from_residual.ensures (record {
      kept_text = refl;
      kept_stop = λ vacant is_open. vacant_leaves old mid (g.met.P.Pages.sound c.args.self.now.store).few vacant told.works;
      left = works_still told.works;
      still = told.still;
      cause = subst (λ (x : List ℕ). StartCause (length x) old mid c.in_err-slot.field-0.0) c.deref.ensures.value told.cause;
    })

pub returns-in_err-slot-clause-stop : goal.returns-in_err-slot-clause-stop
returns-in_err-slot-clause-stop g c = λ vacant.
    leaves_more (λ image stored. inl stored)
    (vacant_leaves (g.P.Pages.store c.args.self.now.store) (g.P.Pages.store c.first_table.new.store)
    (g.met.P.Pages.sound c.args.self.now.store).few vacant c.in_err-slot.ensures.err.works)

pub returns-in_err-slot-clause-advances : goal.returns-in_err-slot-clause-advances
returns-in_err-slot-clause-advances g c = works_advance c.in_err-slot.ensures.err.works

pub returns-in-Ok-clause-ok : goal.returns-in-Ok-clause-ok
returns-in-Ok-clause-ok g c =
    let old = g.P.Pages.store c.args.self.now.store in
    let mid = g.P.Pages.store c.first_table.new.store in
    let new = work_in c.save.new.self in
    let told = c.in_ok-slot.ensures.ok in
    let slot = c.in_ok-slot.slot in
    let text : c.deref.result.now ≡ c.args.text.items = c.deref.ensures.value in
    let same = c.save.ensures.same in
    let saved = c.in-Ok.ensures.ok in
    let first = held_of slot c.deref.result.now c.args.text.items (loaded c.args.start.now.items) old mid text told.table in
    record {
      text = same.text ∙ ap (λ (v : Vec ℕ Global). v.items) c.replace-before.ensures.after;
      packing = ap (λ (s : TreeSlot). s.packing) same.slot ∙ told.packing;
      goal = ap (λ (s : TreeSlot). goal_numbered s.goal) same.slot ∙ told.goal;
      torn = same.torn;
      commits = saved.commits;
      layout = saved.layout ∙ ap layout_in told.works.root;
      pages = saved.pages;
      root = saved.root (place_later slot (points_of c.args.goal) old mid told.works told.number c.requires.place) ∙ sym same.slot;
      done = λ vacant.
          saved.done old None (kept_as c.args.text.items c.args.packing (points_of c.args.goal) (loaded c.args.start.now.items))
          (begun old mid text told c.requires.place c.requires.text vacant);
      stands = λ honest.
          subst (λ (s : TreeSlot). StandsInTrees s c.args.text.items new.store) (sym same.slot)
          (saved.needed (still_honest told.works.goes_on honest) c.args.text.items (loaded c.args.start.now.items) (first honest));
      holds = λ honest.
          subst (λ (s : TreeSlot). HoldsTable s c.args.text.items (loaded c.args.start.now.items) new.store) (sym same.slot)
          (saved.holds (still_honest told.works.goes_on honest) c.args.text.items (loaded c.args.start.now.items) (first honest));
      calm = λ none. saved.calm (λ p is. none p (told.works.waiting p is));
      «open» = saved.open;
    }

pub returns-in-Ok-clause-stop : goal.returns-in-Ok-clause-stop
returns-in-Ok-clause-stop g c = λ vacant.
    let old = g.P.Pages.store c.args.self.now.store in
    let mid = g.P.Pages.store c.first_table.new.store in
    let told = c.in_ok-slot.ensures.ok in
    let text : c.deref.result.now ≡ c.args.text.items = c.deref.ensures.value in
    c.save.ensures.stop old None (kept_as c.args.text.items c.args.packing (points_of c.args.goal) (loaded c.args.start.now.items))
    (begun old mid text told c.requires.place c.requires.text vacant)

pub returns-in-Ok-clause-advances : goal.returns-in-Ok-clause-advances
returns-in-Ok-clause-advances g c = advances_then (works_advance c.in_ok-slot.ensures.ok.works) c.save.ensures.advances

pub returns-in-Err-clause-err : goal.returns-in-Err-clause-err
returns-in-Err-clause-err g c =
    let old = g.P.Pages.store c.args.self.now.store in
    let mid = g.P.Pages.store c.first_table.new.store in
    let new = (work_in c.save.new.self).store in
    let told = c.in_ok-slot.ensures.ok in
    let text : c.deref.result.now ≡ c.args.text.items = c.deref.ensures.value in
    let refused = c.in-Err.ensures.err in
    subst (λ (f : TableFault). IsNotStarted (length c.args.text.items) (work_in c.args.self.now)
    (work_of c.save.new.self.slot c.replace-before.result.items true new) f)
    (sym c.table_fault.ensures)
    (record {
      kept_text = ap (λ (v : Vec ℕ Global). v.items) c.replace-before.ensures.value;
      kept_stop = λ vacant is_open.
          refused.kept_stop old None (kept_as c.args.text.items c.args.packing (points_of c.args.goal) (loaded c.args.start.now.items))
          (begun old mid text told c.requires.place c.requires.text vacant) is_open;
      left = still_then (works_still told.works) refused.left;
      still = λ other. refused.still (λ disk. other (ap fault_of disk)) ∙ told.still;
      cause = commit_fails (length c.args.text.items) old mid new _ told.works told.still refused.cause;
    })

pub returns-in-Err-clause-stop : goal.returns-in-Err-clause-stop
returns-in-Err-clause-stop g c = λ vacant.
    let old = g.P.Pages.store c.args.self.now.store in
    let mid = g.P.Pages.store c.first_table.new.store in
    let told = c.in_ok-slot.ensures.ok in
    let text : c.deref.result.now ≡ c.args.text.items = c.deref.ensures.value in
    c.save.ensures.stop old None (kept_as c.args.text.items c.args.packing (points_of c.args.goal) (loaded c.args.start.now.items))
    (begun old mid text told c.requires.place c.requires.text vacant)

pub returns-in-Err-clause-advances : goal.returns-in-Err-clause-advances
returns-in-Err-clause-advances g c = advances_then (works_advance c.in_ok-slot.ensures.ok.works) c.save.ensures.advances

pub invariant_of-self : goal.invariant_of-self
invariant_of-self g c =
    let self = c.args.self.now in
    record {
      some = self.some;
      short = self.short;
      few = self.few;
      points = self.points;
      holds = λ honest. let never : true ≡ false = honest.whole in absurd (cc);
      long = self.long;
      last = λ honest. let never : true ≡ false = honest.whole in absurd (cc);
      reads = tt;
    }

pub invariant_of-self-2 : goal.invariant_of-self-2
invariant_of-self-2 g c =
    let old = g.P.Pages.store c.args.self.now.store in
    let mid = g.P.Pages.store c.first_table.new.store in
    let told = c.in_ok-slot.ensures.ok in
    let slot = c.in_ok-slot.slot in
    let text : c.deref.result.now ≡ c.replace-before.new.dest.items = c.deref.ensures.value
    ∙ ap (λ (v : Vec ℕ Global). v.items) (sym c.replace-before.ensures.after) in
    record {
      reads = tt;
      some = told.sized.some;
      short = told.sized.short;
      few = told.sized.few;
      points = told.sized.points;
      holds = λ honest.
          ∣ holds_itself slot c.replace-before.new.dest.items (loaded c.args.start.now.items) mid told.sized.few
          (held_of slot c.deref.result.now c.replace-before.new.dest.items (loaded c.args.start.now.items) old mid text told.table
          (was_honest told.works.goes_on honest.disk)) ∣₁;
      long = tt;
      last = λ honest. tt;
    }
