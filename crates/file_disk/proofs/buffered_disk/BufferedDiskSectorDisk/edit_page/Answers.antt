use Rattle.std.proofs.Common.{◌∙◌, ◌+◌, ◌*◌, ◌≤◌, ◌≡◌, List, ap, arith, refl, subst, sym, ℕ}
use Rattle.sector_disk.specs.Disk.{Disk, Keeps, Steps}
use Rattle.sector_disk.specs.Pages.{IsOutside}
use Rattle.sector_disk.specs.lemmas.Moments.{goes_on_refl, throughout_start, throughout_step}
use Rattle.file_disk.specs.Buffered.{buffered_disk}
use Rattle.file_disk.specs.Buffers.{Buffers}
use Rattle.file_disk.specs.Shown.{shown}
use Rattle.file_disk.proofs.Disks.{word, sector_now, both_now, steps_over, idle_steps, page_keeps, spared_over}
use Rattle.file_disk.proofs.Events.{writes_none}
use Rattle.file_disk.proofs.WholePages.{whole_inside, whole_shown}
use Rattle.file_disk.proofs.buffered_disk.BufferedDiskSectorDisk.edit_page.Goals as goal

pub returns-clause-edited : goal.returns-clause-edited
returns-clause-edited g c = λ said done.
    let is = word _ _ _ _ said in
    let old : Buffers = record {
      waiting = c.args.self.now.buffered.waiting;
      happened = g.F.ByteFile.events c.args.self.now.buffered.file;
      content = g.F.ByteFile.content c.args.self.now.buffered.file;
      sectors = c.args.self.now.buffered.sectors;
    } in
    let new : Buffers = record {
      waiting = c.edit_at.new.self.waiting;
      happened = g.F.ByteFile.events c.edit_at.new.self.file;
      content = g.F.ByteFile.content c.edit_at.new.self.file;
      sectors = c.edit_at.new.self.sectors;
    } in
    let edited = c.edit_at.ensures.edited in
    let room : 8 * c.from-page.result + 8 ≤ old.sectors = whole_inside _ _ _ _ _ _ edited.had c.args.self.now.buffered.inside in
    record {
      was = edited.was;
      is = edited.is;
      had = record {
        long = edited.had.long;
        each = λ k lt. sector_now _ old _ _ (8 * c.args.page + k) is (omega (arith, lt, room, c.from-page.ensures))
            ∙ ap (λ (n : ℕ). shown old.waiting old.content (8 * n + k)) (sym c.from-page.ensures)
            ∙ whole_shown _ _ _ _ _ edited.had old.content k lt;
      };
      has = record {
        long = edited.has.long;
        each = λ k lt. sector_now _ new _ _ (8 * c.args.page + k) (ap g.F.ByteFile.honest c.edit_at.ensures.file ∙ is)
            (omega (arith, lt, room, c.from-page.ensures, c.edit_at.ensures.sectors))
            ∙ ap (λ (n : ℕ). shown new.waiting new.content (8 * n + k)) (sym c.from-page.ensures)
            ∙ whole_shown _ _ _ _ _ edited.has new.content k lt;
      };
      edits = edited.edits;
    }

pub returns-clause-put : goal.returns-clause-put
returns-clause-put g c =
    let old : Buffers = record {
      waiting = c.args.self.now.buffered.waiting;
      happened = g.F.ByteFile.events c.args.self.now.buffered.file;
      content = g.F.ByteFile.content c.args.self.now.buffered.file;
      sectors = c.args.self.now.buffered.sectors;
    } in
    let new : Buffers = record {
      waiting = c.edit_at.new.self.waiting;
      happened = g.F.ByteFile.events c.edit_at.new.self.file;
      content = g.F.ByteFile.content c.edit_at.new.self.file;
      sectors = c.edit_at.new.self.sectors;
    } in
    let honest : g.F.ByteFile.honest c.edit_at.new.self.file ≡ g.F.ByteFile.honest c.args.self.now.buffered.file =
    ap g.F.ByteFile.honest c.edit_at.ensures.file in
    let events : new.happened ≡ old.happened = ap g.F.ByteFile.events c.edit_at.ensures.file in
    let content : new.content ≡ old.content = ap g.F.ByteFile.content c.edit_at.ensures.file in
    let others = c.edit_at.ensures.edited.others in
    let before : Disk = buffered_disk (g.F.ByteFile.honest c.args.self.now.buffered.file) old c.args.self.now.buffered.ends c.args.self.now.failed_writes in
    let after : Disk = buffered_disk (g.F.ByteFile.honest c.edit_at.new.self.file) new c.edit_at.new.self.ends c.args.self.now.failed_writes in
    let step : Steps before after = steps_over _ _ honest old new _ _ _ _ c.edit_at.ensures.sectors (omega arith)
    (λ a b. idle_steps old new _ _ c.edit_at.ensures.sectors events content) in
    record {
      kept = λ said.
          let is = word _ _ _ _ said in
          throughout_step step (both_now (Keeps (IsOutside c.args.page)) _ _ honest old new _ _ _ _ is
          (page_keeps old new c.args.page c.edit_at.ensures.sectors (writes_none old.waiting events content)
          (λ k out. ap (λ (b : List ℕ). shown new.waiting b k) content ∙ others.shown old.content k (place out c.from-page.ensures))
          (λ k out waits. (waits.0, sym (others.slots k (place out c.from-page.ensures)) ∙ waits.1))));
      time = step.goes_on;
      same_size = step.same_size;
    }
  where
    place : {k n m : ℕ} → IsOutside n k → m ≡ n → IsOutside m k
    place {k} out is = subst (λ (p : ℕ). IsOutside p k) (sym is) out

pub returns-clause-spared : goal.returns-clause-spared
returns-clause-spared g c = spared_over _ _ _ _ _ _ _ _ refl

pub returns-in_default-clause-put : goal.returns-in_default-clause-put
returns-in_default-clause-put g c = record { kept = λ said. throughout_start _ _; time = goes_on_refl _; same_size = refl }
