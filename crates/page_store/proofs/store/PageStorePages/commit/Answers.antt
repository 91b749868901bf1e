use Rattle.std.proofs.Common.{rules, refl, inl, inr, arith}
use Rattle.sector_disk.specs.lemmas.Moments.{goes_on_refl, leaves_now, leaves_more}
use Rattle.root_pair.specs.lemmas.Rest.{pages_behind}
use Rattle.page_store.specs.Holds.{holds_of}
use Rattle.page_store.specs.Store.{store_of}
use Rattle.page_store.specs.lemmas.Works.{safe_saves, closes_same, closes_failed}
use Rattle.page_store.proofs.Soundness.{old_or_new, pages_kept, was_honest, published_reads, published_leaves, published_grew, published_held, published_header}
use Rattle.page_store.proofs.CachedPages.{carried, committed_kept}
use Rattle.page_store.proofs.Exits.{not_closed, is_read, no_read}
use Rattle.page_store.proofs.Unused.{unused_committed}
use Rattle.page_store.proofs.store.PageStorePages.commit.Goals as goal

pub returns-then-self-clause-commits : goal.returns-then-self-clause-commits
returns-then-self-clause-commits g c = record {
  goes_on = goes_on_refl _;
  same_size = refl;
  failures = omega arith;
  closes = closes_same refl refl;
  leaves = λ honest safe. leaves_now _ (λ image left. inl (safe_saves _ safe image left));
  holds = refl;
  held = λ honest place p held. refl;
  header = λ honest. refl;
}

pub returns-in-Ok-clause-commits : goal.returns-in-Ok-clause-commits
returns-in-Ok-clause-commits g c = record {
  goes_on = c.publish.ensures.left.time;
  same_size = c.publish.ensures.left.same_size;
  failures = c.publish.ensures.left.failures;
  closes = closes_same refl (c.in-Ok.ensures.counted.answered refl);
  leaves = λ honest safe. leaves_more (old_or_new _ _ safe) (c.publish.ensures.left.moments honest safe.rest);
  holds = refl;
  held = λ honest. published_held
      (store_of (g.D.SectorDisk.disk c.args.self.now.disk)
      (g.D.SectorDisk.failures c.args.self.now.disk) c.args.self.now.root.bytes c.args.self.now.marks.items c.args.self.now.closed
      (holds_of c.args.self.now.taken c.args.self.now.holders.items))
      (g.D.SectorDisk.disk c.publish.new.disk) honest
      (pages_behind (g.D.SectorDisk.disk c.args.self.now.disk) (g.D.SectorDisk.disk c.publish.new.disk) c.publish.ensures.left.others);
  header = published_header (g.D.SectorDisk.disk c.args.self.now.disk) (g.D.SectorDisk.disk c.publish.new.disk) c.publish.ensures.left.others;
}

pub returns-in-Ok-clause-after : goal.returns-in-Ok-clause-after
returns-in-Ok-clause-after g c = λ honest.
    published_leaves (store_of (g.D.SectorDisk.disk c.args.self.now.disk)
    (g.D.SectorDisk.failures c.args.self.now.disk) c.args.self.now.root.bytes c.args.self.now.marks.items c.args.self.now.closed
    (holds_of c.args.self.now.taken c.args.self.now.holders.items))
    _ _ (omega (arith, c.args.self.now.sound.fits, c.publish.ensures.left.same_size))
    (c.in-Ok.ensures.ok honest (c.args.self.now.sound.safe honest c.if-self.false).rest)

pub returns-in-Ok-clause-ok : goal.returns-in-Ok-clause-ok
returns-in-Ok-clause-ok g c = record {
  is = search rules;
  marks = search rules;
  closed = c.if-self.false;
  reads = λ honest. published_reads _ _ _ (c.in-Ok.ensures.ok honest (c.args.self.now.sound.safe honest c.if-self.false).rest);
}

pub returns-then-is_read-clause-commits : goal.returns-then-is_read-clause-commits
returns-then-is_read-clause-commits g c = record {
  goes_on = c.publish.ensures.left.time;
  same_size = c.publish.ensures.left.same_size;
  failures = c.publish.ensures.left.failures;
  closes = closes_same refl (c.publish.ensures.counted.read (is_read _ _ c.in-Err.is (c.is_read.ensures.0 c.if-is_read.true)));
  leaves = λ honest safe. leaves_more (old_or_new _ _ safe) (c.publish.ensures.left.moments honest safe.rest);
  holds = refl;
  held = λ honest. published_held
      (store_of (g.D.SectorDisk.disk c.args.self.now.disk)
      (g.D.SectorDisk.failures c.args.self.now.disk) c.args.self.now.root.bytes c.args.self.now.marks.items c.args.self.now.closed
      (holds_of c.args.self.now.taken c.args.self.now.holders.items))
      (g.D.SectorDisk.disk c.publish.new.disk) honest
      (pages_behind (g.D.SectorDisk.disk c.args.self.now.disk) (g.D.SectorDisk.disk c.publish.new.disk) c.publish.ensures.left.others);
  header = published_header (g.D.SectorDisk.disk c.args.self.now.disk) (g.D.SectorDisk.disk c.publish.new.disk) c.publish.ensures.left.others;
}

pub returns-else-is_read-clause-commits : goal.returns-else-is_read-clause-commits
returns-else-is_read-clause-commits g c = record {
  goes_on = c.publish.ensures.left.time;
  same_size = c.publish.ensures.left.same_size;
  failures = c.publish.ensures.left.failures;
  closes = closes_failed refl (c.in-Err.ensures.counted.write (no_read c.is_read.ensures c.if-is_read.false));
  leaves = λ honest safe. leaves_more (old_or_new _ _ safe) (c.publish.ensures.left.moments honest safe.rest);
  holds = refl;
  held = λ honest. published_held
      (store_of (g.D.SectorDisk.disk c.args.self.now.disk)
      (g.D.SectorDisk.failures c.args.self.now.disk) c.args.self.now.root.bytes c.args.self.now.marks.items c.args.self.now.closed
      (holds_of c.args.self.now.taken c.args.self.now.holders.items))
      (g.D.SectorDisk.disk c.publish.new.disk) honest
      (pages_behind (g.D.SectorDisk.disk c.args.self.now.disk) (g.D.SectorDisk.disk c.publish.new.disk) c.publish.ensures.left.others);
  header = published_header (g.D.SectorDisk.disk c.args.self.now.disk) (g.D.SectorDisk.disk c.publish.new.disk) c.publish.ensures.left.others;
}

pub returns-else-is_read-clause-cause : goal.returns-else-is_read-clause-cause
returns-else-is_read-clause-cause g c = (published_grew _ _ _ c.in-Err.ensures.fault, inr refl)

pub returns-in-Ok-clause-kept_pages : goal.returns-in-Ok-clause-kept_pages
returns-in-Ok-clause-kept_pages g c = λ honest. pages_kept _ _
    (pages_behind (g.D.SectorDisk.disk c.args.self.now.disk) (g.D.SectorDisk.disk c.publish.new.disk) c.publish.ensures.left.others honest)

pub returns-then-is_read-clause-kept_pages : goal.returns-then-is_read-clause-kept_pages
returns-then-is_read-clause-kept_pages g c = λ honest. pages_kept _ _
    (pages_behind (g.D.SectorDisk.disk c.args.self.now.disk) (g.D.SectorDisk.disk c.publish.new.disk) c.publish.ensures.left.others honest)

pub returns-else-is_read-clause-kept_pages : goal.returns-else-is_read-clause-kept_pages
returns-else-is_read-clause-kept_pages g c = λ honest. pages_kept _ _
    (pages_behind (g.D.SectorDisk.disk c.args.self.now.disk) (g.D.SectorDisk.disk c.publish.new.disk) c.publish.ensures.left.others honest)

pub invariant_of-self-clause-cached : goal.invariant_of-self-clause-cached
invariant_of-self-clause-cached g c =
    carried _ _ _ _ c.args.self.now.cached (λ p held there. there) (was_honest c.publish.ensures.left.time)
    (λ p held there. committed_kept _ _ _ c.turn_committed.ensures.committed p)
    (λ h p held there behind k within.
    (pages_behind (g.D.SectorDisk.disk c.args.self.now.disk) (g.D.SectorDisk.disk c.publish.new.disk) c.publish.ensures.left.others) h k
    (omega (arith, behind, within.0)))

pub invariant_of-self-then-is_read-clause-cached : goal.invariant_of-self-then-is_read-clause-cached
invariant_of-self-then-is_read-clause-cached g c =
    carried _ _ _ _ c.args.self.now.cached (λ p held there. there) (was_honest c.publish.ensures.left.time) (λ p held there kept. kept)
    (λ h p held there behind k within.
    (pages_behind (g.D.SectorDisk.disk c.args.self.now.disk) (g.D.SectorDisk.disk c.publish.new.disk) c.publish.ensures.left.others) h k
    (omega (arith, behind, within.0)))

pub invariant_of-self-in-Err-clause-cached : goal.invariant_of-self-in-Err-clause-cached
invariant_of-self-in-Err-clause-cached g c =
    carried _ _ _ _ c.args.self.now.cached (λ p held there. there) (was_honest c.publish.ensures.left.time) (λ p held there kept. kept)
    (λ h p held there behind k within.
    (pages_behind (g.D.SectorDisk.disk c.args.self.now.disk) (g.D.SectorDisk.disk c.publish.new.disk) c.publish.ensures.left.others) h k
    (omega (arith, behind, within.0)))

pub returns-then-self-clause-after : goal.returns-then-self-clause-after
returns-then-self-clause-after g c = λ honest. tt

pub returns-then-self-clause-ok : goal.returns-then-self-clause-ok
returns-then-self-clause-ok g c = tt

pub returns-then-self-clause-kept_pages : goal.returns-then-self-clause-kept_pages
returns-then-self-clause-kept_pages g c = λ honest p behind. refl

pub returns-then-self-clause-kept_root : goal.returns-then-self-clause-kept_root
returns-then-self-clause-kept_root g c = refl

pub returns-then-self-clause-kept_marks : goal.returns-then-self-clause-kept_marks
returns-then-self-clause-kept_marks g c = refl

pub returns-then-self-clause-untouched : goal.returns-then-self-clause-untouched
returns-then-self-clause-untouched g c = λ other. refl

pub returns-then-self-clause-cause : goal.returns-then-self-clause-cause
returns-then-self-clause-cause g c = c.if-self.true

pub returns-then-self-clause-closed : goal.returns-then-self-clause-closed
returns-then-self-clause-closed g c = λ is. refl

pub returns-then-is_read-clause-after : goal.returns-then-is_read-clause-after
returns-then-is_read-clause-after g c = λ honest. tt

pub returns-then-is_read-clause-ok : goal.returns-then-is_read-clause-ok
returns-then-is_read-clause-ok g c = tt

pub returns-then-is_read-clause-kept_root : goal.returns-then-is_read-clause-kept_root
returns-then-is_read-clause-kept_root g c = refl

pub returns-then-is_read-clause-kept_marks : goal.returns-then-is_read-clause-kept_marks
returns-then-is_read-clause-kept_marks g c = refl

pub returns-then-is_read-clause-untouched : goal.returns-then-is_read-clause-untouched
returns-then-is_read-clause-untouched g c = λ other. absurd (other refl)

pub returns-then-is_read-clause-closed : goal.returns-then-is_read-clause-closed
returns-then-is_read-clause-closed g c = λ is. absurd (not_closed _ c.if-self.false is)

pub returns-else-is_read-clause-after : goal.returns-else-is_read-clause-after
returns-else-is_read-clause-after g c = λ honest. tt

pub returns-else-is_read-clause-ok : goal.returns-else-is_read-clause-ok
returns-else-is_read-clause-ok g c = tt

pub returns-else-is_read-clause-kept_root : goal.returns-else-is_read-clause-kept_root
returns-else-is_read-clause-kept_root g c = refl

pub returns-else-is_read-clause-kept_marks : goal.returns-else-is_read-clause-kept_marks
returns-else-is_read-clause-kept_marks g c = refl

pub returns-else-is_read-clause-untouched : goal.returns-else-is_read-clause-untouched
returns-else-is_read-clause-untouched g c = λ other. absurd (other refl)

pub returns-else-is_read-clause-closed : goal.returns-else-is_read-clause-closed
returns-else-is_read-clause-closed g c = λ is. absurd (not_closed _ c.if-self.false is)

pub returns-in-Ok-clause-kept_root : goal.returns-in-Ok-clause-kept_root
returns-in-Ok-clause-kept_root g c = tt

pub returns-in-Ok-clause-kept_marks : goal.returns-in-Ok-clause-kept_marks
returns-in-Ok-clause-kept_marks g c = tt

pub returns-in-Ok-clause-untouched : goal.returns-in-Ok-clause-untouched
returns-in-Ok-clause-untouched g c = tt

pub returns-in-Ok-clause-cause : goal.returns-in-Ok-clause-cause
returns-in-Ok-clause-cause g c = tt

pub returns-in-Ok-clause-closed : goal.returns-in-Ok-clause-closed
returns-in-Ok-clause-closed g c = λ is. absurd (not_closed _ c.if-self.false is)

pub invariant_of-self-clause-unused : goal.invariant_of-self-clause-unused
invariant_of-self-clause-unused g c = unused_committed _ _ _ _ c.args.self.now.unused c.turn_committed.ensures.committed
