use Rattle.std.proofs.Common.{rules, refl, sym, ◌∙◌, ap, inl, inr, arith, List}
use Rattle.sector_disk.specs.lemmas.Moments.{goes_on_refl, goes_on_trans, leaves_now, leaves_more, still_honest}
use Rattle.root_pair.specs.lemmas.Rest.{rest_longer, pages_behind}
use Rattle.page_store.specs.declared.holds.Holders.{Holders}
use Rattle.page_store.specs.Holds.{holders_at}
use Rattle.page_store.specs.lemmas.Holds.{same_holds}
use Rattle.page_store.specs.lemmas.Works.{safe_saves, closes_same, closes_failed, grew_since}
use Rattle.page_store.proofs.Growth.{not_err, below_saves, longer_reads, longer_sectors, lengthened, lengthened_sound, grown_leaves, mid_rests, grown_after, grown_sound, grown_kept, closed_sound, longer_pages, longer_within, held_pages}
use Rattle.page_store.proofs.Soundness.{published_grew, was_honest}
use Rattle.page_store.proofs.CachedPages.{carried}
use Rattle.page_store.proofs.TurnedMarks.{all_are_noted}
use Rattle.page_store.proofs.Exits.{is_read, no_read, counted_ok, counted_err}
use Rattle.page_store.proofs.Unused.{unused_grown}
use Rattle.page_store.proofs.store.PageStorePages.grow.Goals as goal

pub returns-then-self-clause-grows : goal.returns-then-self-clause-grows
returns-then-self-clause-grows g c = record {
  goes_on = goes_on_refl _;
  no_shorter = omega arith;
  failures = omega arith;
  closes = closes_same refl refl;
  leaves = λ honest safe. leaves_now _ (λ image left. inl (safe_saves _ safe image left));
  no_fewer = omega arith;
  holds = same_holds refl;
  held = λ honest place p held. refl;
}

pub returns-in-Err-grown_holders-clause-grows : goal.returns-in-Err-grown_holders-clause-grows
returns-in-Err-grown_holders-clause-grows g c = record {
  goes_on = goes_on_refl _;
  no_shorter = omega arith;
  failures = omega arith;
  closes = closes_same refl refl;
  leaves = λ honest safe. leaves_now _ (λ image left. inl (safe_saves _ safe image left));
  no_fewer = omega arith;
  holds = same_holds refl;
  held = λ honest place p held. refl;
}

pub returns-in-Err-clause-grows : goal.returns-in-Err-clause-grows
returns-in-Err-clause-grows g c = record {
  goes_on = goes_on_refl _;
  no_shorter = omega arith;
  failures = omega arith;
  closes = closes_same refl refl;
  leaves = λ honest safe. leaves_now _ (λ image left. inl (safe_saves _ safe image left));
  no_fewer = omega arith;
  holds = same_holds refl;
  held = λ honest place p held. refl;
}

pub returns-in-Err-all_noted-clause-grows : goal.returns-in-Err-all_noted-clause-grows
returns-in-Err-all_noted-clause-grows g c = record {
  goes_on = goes_on_refl _;
  no_shorter = omega arith;
  failures = omega arith;
  closes = closes_same refl refl;
  leaves = λ honest safe. leaves_now _ (λ image left. inl (safe_saves _ safe image left));
  no_fewer = omega arith;
  holds = same_holds refl;
  held = λ honest place p held. refl;
}

pub invariant_of-self-then-is_err : goal.invariant_of-self-then-is_err
invariant_of-self-then-is_err g c = record {
  sound = closed_sound _ _ c.args.self.now.sound c.make_room.ensures.longer.no_shorter refl refl refl;
  blocks = c.args.self.now.blocks;
  unused = c.args.self.now.unused;
  cached = carried _ _ _ _ c.args.self.now.cached (λ p held there. there) (was_honest c.make_room.ensures.longer.time) (λ p held there kept. kept)
      (λ h p held there behind. longer_sectors _ _ c.args.self.now.sound (c.make_room.ensures.longer.longer h) p (c.args.self.now.cached.kept p held there).1);
}

pub returns-then-is_err-clause-grows : goal.returns-then-is_err-clause-grows
returns-then-is_err-clause-grows g c = record {
  goes_on = c.make_room.ensures.longer.time;
  no_shorter = c.make_room.ensures.longer.no_shorter;
  failures = c.make_room.ensures.cause.later;
  closes = closes_failed refl (counted_err _ (sym c.is_err.ensures.value ∙ c.if-is_err.true) c.make_room.ensures.counted);
  leaves = λ honest safe. leaves_more (λ image left. inl (below_saves _ safe c.args.self.now.sound image left)) (c.make_room.ensures.longer.moments honest);
  no_fewer = omega arith;
  holds = same_holds refl;
  held = held_pages _ _ c.args.self.now.sound
      (λ honest p behind within. longer_reads _ _ c.args.self.now.sound (c.make_room.ensures.longer.longer honest) p within);
}

pub returns-then-is_err-clause-kept_pages : goal.returns-then-is_err-clause-kept_pages
returns-then-is_err-clause-kept_pages g c = λ honest p behind within. longer_reads _ _ c.args.self.now.sound (c.make_room.ensures.longer.longer honest) p within

pub returns-in-Ok-publish-clause-grows : goal.returns-in-Ok-publish-clause-grows
returns-in-Ok-publish-clause-grows g c =
    let made = sym c.is_err.ensures.value ∙ c.if-is_err.false in
    let room = (not_err _ made c.make_room.ensures.ok).room in
    record {
      goes_on = goes_on_trans c.make_room.ensures.longer.time c.publish.ensures.left.time;
      no_shorter = omega (arith, c.make_room.ensures.longer.no_shorter, c.publish.ensures.left.same_size);
      failures = omega (arith, c.make_room.ensures.cause.later, c.publish.ensures.left.failures);
      closes = closes_same refl (c.in-Ok-publish.ensures.counted.answered refl ∙ counted_ok _ made c.make_room.ensures.counted);
      leaves = λ honest safe.
          let there = c.publish.ensures.left.moments (still_honest c.make_room.ensures.longer.time honest)
          (rest_longer (c.make_room.ensures.longer.longer honest) safe.rest) in
          grown_leaves _ _ _ _ c.args.pages c.args.self.now.sound (omega (arith, room, c.from.ensures)) c.make_room.ensures.longer.longer
          (λ h. (not_err _ made c.make_room.ensures.ok).synced h) c.make_room.ensures.longer.time c.publish.ensures.left.time
          c.make_room.ensures.longer.moments honest safe there;
      no_fewer = omega (arith, c.in-Ok.ensures.long, c.requires.more);
      holds = record { taken = refl; each = λ p. c.in-Ok-grown_holders.ensures.each p ∙ ap (λ (hs : List Holders). holders_at hs p) c.deref-3.ensures.value };
      held = held_pages _ _ c.args.self.now.sound (λ honest p behind within.
          longer_pages _ (g.D.SectorDisk.disk c.make_room.new.disk) (g.D.SectorDisk.disk c.publish.new.disk) c.args.self.now.sound
          (c.make_room.ensures.longer.longer honest)
          (pages_behind (g.D.SectorDisk.disk c.make_room.new.disk) (g.D.SectorDisk.disk c.publish.new.disk) c.publish.ensures.left.others
          (still_honest c.make_room.ensures.longer.time honest)) p behind within);
    }

pub returns-in-Ok-publish-clause-after : goal.returns-in-Ok-publish-clause-after
returns-in-Ok-publish-clause-after g c = λ honest.
    let made = sym c.is_err.ensures.value ∙ c.if-is_err.false in
    let room = (not_err _ made c.make_room.ensures.ok).room in
    let rest = mid_rests _ _ (g.D.SectorDisk.disk c.publish.new.disk) c.args.root.now c.args.pages c.args.self.now.sound
    (omega (arith, room, c.from.ensures)) c.make_room.ensures.longer.longer
    (λ h. (not_err _ made c.make_room.ensures.ok).synced h) c.make_room.ensures.longer.time c.publish.ensures.left.time c.make_room.ensures.longer.moments
    honest (c.args.self.now.sound.safe honest c.if-self.false) in
    grown_after _ _ _ _ c.args.pages c.args.self.now.sound (omega (arith, room, c.from.ensures)) c.make_room.ensures.longer.longer
    (λ h. (not_err _ made c.make_room.ensures.ok).synced h) c.make_room.ensures.longer.time c.publish.ensures.left.time c.make_room.ensures.longer.moments
    honest c.publish.ensures.left.same_size
    (c.in-Ok-publish.ensures.ok (still_honest c.make_room.ensures.longer.time honest) rest)

pub returns-in-Ok-publish-clause-ok : goal.returns-in-Ok-publish-clause-ok
returns-in-Ok-publish-clause-ok g c = record {
  is = refl;
  marks = search rules;
  closed = c.if-self.false;
  reads = λ honest p behind within. longer_pages _ (g.D.SectorDisk.disk c.make_room.new.disk)
      (g.D.SectorDisk.disk c.publish.new.disk) c.args.self.now.sound (c.make_room.ensures.longer.longer honest)
      (pages_behind (g.D.SectorDisk.disk c.make_room.new.disk) (g.D.SectorDisk.disk c.publish.new.disk) c.publish.ensures.left.others
      (still_honest c.make_room.ensures.longer.time honest)) p behind within;
}

pub returns-in-Ok-publish-clause-kept_pages : goal.returns-in-Ok-publish-clause-kept_pages
returns-in-Ok-publish-clause-kept_pages g c = λ honest p behind within.
    longer_pages _ (g.D.SectorDisk.disk c.make_room.new.disk) (g.D.SectorDisk.disk c.publish.new.disk) c.args.self.now.sound
    (c.make_room.ensures.longer.longer honest)
    (pages_behind (g.D.SectorDisk.disk c.make_room.new.disk) (g.D.SectorDisk.disk c.publish.new.disk) c.publish.ensures.left.others
    (still_honest c.make_room.ensures.longer.time honest)) p behind within

pub invariant_of-self-in-Ok-publish : goal.invariant_of-self-in-Ok-publish
invariant_of-self-in-Ok-publish g c =
    let made = sym c.is_err.ensures.value ∙ c.if-is_err.false in
    let room = (not_err _ made c.make_room.ensures.ok).room in
    record {
      sound = grown_sound _ _ (g.D.SectorDisk.disk c.publish.new.disk) c.args.root.now c.args.pages c.args.self.now.sound
          (omega (arith, room, c.from.ensures)) c.make_room.ensures.longer.longer
          (λ h. (not_err _ made c.make_room.ensures.ok).synced h) c.make_room.ensures.longer.time c.publish.ensures.left.time c.make_room.ensures.longer.moments
          _ refl refl (search rules) c.in-Ok-grown_holders.ensures.long
          (record { taken = refl; each = λ p. c.in-Ok-grown_holders.ensures.each p ∙ ap (λ (hs : List Holders). holders_at hs p) c.deref-3.ensures.value }) c.requires.few c.requires.more c.publish.ensures.left.same_size c.requires.some
          (λ honest. c.in-Ok-publish.ensures.ok (still_honest c.make_room.ensures.longer.time honest)
          (mid_rests _ _ (g.D.SectorDisk.disk c.publish.new.disk) c.args.root.now c.args.pages c.args.self.now.sound
          (omega (arith, room, c.from.ensures)) c.make_room.ensures.longer.longer
          (λ h. (not_err _ made c.make_room.ensures.ok).synced h) c.make_room.ensures.longer.time c.publish.ensures.left.time
          c.make_room.ensures.longer.moments honest (c.args.self.now.sound.safe honest c.if-self.false)));
      unused = unused_grown c.args.self.now.holders.items c.args.pages _ _ _ c.args.self.now.unused (search rules);
      blocks = all_are_noted _ _ (omega
          (arith, c.in-Ok-all_noted.ensures.room, c.in-Ok.ensures.long)) c.in-Ok-all_noted.ensures.few c.in-Ok-all_noted.ensures.each;
      cached = carried _ _ _ _ c.args.self.now.cached (λ p held there. there)
          (was_honest (goes_on_trans c.make_room.ensures.longer.time c.publish.ensures.left.time))
          (λ p held there kept. grown_kept c.args.self.now.holders.items c.args.pages _ _ c.requires.more (search rules) p kept)
          (λ h p held there behind. longer_within _ (g.D.SectorDisk.disk c.make_room.new.disk)
          (g.D.SectorDisk.disk c.publish.new.disk) c.args.self.now.sound (c.make_room.ensures.longer.longer h)
          (pages_behind (g.D.SectorDisk.disk c.make_room.new.disk) (g.D.SectorDisk.disk c.publish.new.disk) c.publish.ensures.left.others
          (still_honest c.make_room.ensures.longer.time h)) p behind
          (c.args.self.now.cached.kept p held there).1);
    }

pub invariant_of-self-then-is_read : goal.invariant_of-self-then-is_read
invariant_of-self-then-is_read g c = record {
  sound = lengthened_sound _ _ _ c.args.self.now.sound refl refl refl refl c.make_room.ensures.longer.longer
      (λ honest. c.publish.ensures.unread.read honest (is_read _ _ c.in-Err-publish.is (c.is_read.ensures.0 c.if-is_read.true)))
      c.make_room.ensures.longer.time c.publish.ensures.left.time c.make_room.ensures.longer.moments
      (λ honest. c.publish.ensures.unread.unwritten honest (is_read _ _ c.in-Err-publish.is (c.is_read.ensures.0 c.if-is_read.true)))
      (c.publish.ensures.counted.read (is_read _ _ c.in-Err-publish.is (c.is_read.ensures.0 c.if-is_read.true))
      ∙ counted_ok _ (sym c.is_err.ensures.value ∙ c.if-is_err.false) c.make_room.ensures.counted)
      (omega (arith, c.make_room.ensures.longer.no_shorter, c.publish.ensures.left.same_size));
  blocks = c.args.self.now.blocks;
  unused = c.args.self.now.unused;
  cached = carried _ _ _ _ c.args.self.now.cached (λ p held there. there)
      (was_honest (goes_on_trans c.make_room.ensures.longer.time c.publish.ensures.left.time)) (λ p held there kept. kept)
      (λ h p held there behind. longer_within _ (g.D.SectorDisk.disk c.make_room.new.disk)
      (g.D.SectorDisk.disk c.publish.new.disk) c.args.self.now.sound (c.make_room.ensures.longer.longer h)
      (pages_behind (g.D.SectorDisk.disk c.make_room.new.disk) (g.D.SectorDisk.disk c.publish.new.disk) c.publish.ensures.left.others
      (still_honest c.make_room.ensures.longer.time h)) p behind
      (c.args.self.now.cached.kept p held there).1);
}

pub returns-then-is_read-clause-grows : goal.returns-then-is_read-clause-grows
returns-then-is_read-clause-grows g c =
    let made = sym c.is_err.ensures.value ∙ c.if-is_err.false in
    let room = (not_err _ made c.make_room.ensures.ok).room in
    record {
      goes_on = goes_on_trans c.make_room.ensures.longer.time c.publish.ensures.left.time;
      no_shorter = omega (arith, c.make_room.ensures.longer.no_shorter, c.publish.ensures.left.same_size);
      failures = omega (arith, c.make_room.ensures.cause.later, c.publish.ensures.left.failures);
      closes = closes_same refl (c.publish.ensures.counted.read (is_read _ _ c.in-Err-publish.is (c.is_read.ensures.0 c.if-is_read.true))
          ∙ counted_ok _ made c.make_room.ensures.counted);
      leaves = λ honest safe.
          let there = c.publish.ensures.left.moments (still_honest c.make_room.ensures.longer.time honest)
          (rest_longer (c.make_room.ensures.longer.longer honest) safe.rest) in
          grown_leaves _ _ _ _ c.args.pages c.args.self.now.sound (omega (arith, room, c.from.ensures)) c.make_room.ensures.longer.longer
          (λ h. (not_err _ made c.make_room.ensures.ok).synced h) c.make_room.ensures.longer.time c.publish.ensures.left.time
          c.make_room.ensures.longer.moments honest safe there;
      no_fewer = omega arith;
      holds = same_holds refl;
      held = held_pages _ _ c.args.self.now.sound (λ honest p behind within.
          longer_pages _ (g.D.SectorDisk.disk c.make_room.new.disk) (g.D.SectorDisk.disk c.publish.new.disk) c.args.self.now.sound
          (c.make_room.ensures.longer.longer honest)
          (pages_behind (g.D.SectorDisk.disk c.make_room.new.disk) (g.D.SectorDisk.disk c.publish.new.disk) c.publish.ensures.left.others
          (still_honest c.make_room.ensures.longer.time honest)) p behind within);
    }

pub returns-then-is_read-clause-kept_pages : goal.returns-then-is_read-clause-kept_pages
returns-then-is_read-clause-kept_pages g c = λ honest p behind within.
    longer_pages _ (g.D.SectorDisk.disk c.make_room.new.disk) (g.D.SectorDisk.disk c.publish.new.disk) c.args.self.now.sound
    (c.make_room.ensures.longer.longer honest)
    (pages_behind (g.D.SectorDisk.disk c.make_room.new.disk) (g.D.SectorDisk.disk c.publish.new.disk) c.publish.ensures.left.others
    (still_honest c.make_room.ensures.longer.time honest)) p behind within

pub returns-then-is_read-clause-cause : goal.returns-then-is_read-clause-cause
returns-then-is_read-clause-cause g c = (
  grew_since c.make_room.ensures.cause.later (published_grew _ _ _ c.in-Err-publish.ensures.fault),
  inl (lengthened _ _ _ c.args.self.now.sound refl refl refl refl c.make_room.ensures.longer.longer
      (λ honest. c.publish.ensures.unread.read honest (is_read _ _ c.in-Err-publish.is (c.is_read.ensures.0 c.if-is_read.true)))
      c.make_room.ensures.longer.time c.publish.ensures.left.time c.make_room.ensures.longer.moments
      (λ honest. c.publish.ensures.unread.unwritten honest (is_read _ _ c.in-Err-publish.is (c.is_read.ensures.0 c.if-is_read.true)))
      (c.publish.ensures.counted.read (is_read _ _ c.in-Err-publish.is (c.is_read.ensures.0 c.if-is_read.true))
      ∙ counted_ok _ (sym c.is_err.ensures.value ∙ c.if-is_err.false) c.make_room.ensures.counted)),
)

pub invariant_of-self-in-Err-publish : goal.invariant_of-self-in-Err-publish
invariant_of-self-in-Err-publish g c = record {
  sound = closed_sound _ _ c.args.self.now.sound (omega (arith, c.make_room.ensures.longer.no_shorter, c.publish.ensures.left.same_size)) refl refl refl;
  blocks = c.args.self.now.blocks;
  unused = c.args.self.now.unused;
  cached = carried _ _ _ _ c.args.self.now.cached (λ p held there. there)
      (was_honest (goes_on_trans c.make_room.ensures.longer.time c.publish.ensures.left.time)) (λ p held there kept. kept)
      (λ h p held there behind. longer_within _ (g.D.SectorDisk.disk c.make_room.new.disk)
      (g.D.SectorDisk.disk c.publish.new.disk) c.args.self.now.sound (c.make_room.ensures.longer.longer h)
      (pages_behind (g.D.SectorDisk.disk c.make_room.new.disk) (g.D.SectorDisk.disk c.publish.new.disk) c.publish.ensures.left.others
      (still_honest c.make_room.ensures.longer.time h)) p behind
      (c.args.self.now.cached.kept p held there).1);
}

pub returns-else-is_read-clause-grows : goal.returns-else-is_read-clause-grows
returns-else-is_read-clause-grows g c =
    let made = sym c.is_err.ensures.value ∙ c.if-is_err.false in
    let room = (not_err _ made c.make_room.ensures.ok).room in
    record {
      goes_on = goes_on_trans c.make_room.ensures.longer.time c.publish.ensures.left.time;
      no_shorter = omega (arith, c.make_room.ensures.longer.no_shorter, c.publish.ensures.left.same_size);
      failures = omega (arith, c.make_room.ensures.cause.later, c.publish.ensures.left.failures);
      closes = closes_failed refl (grew_since c.make_room.ensures.longer.time.failed_writes
          (c.in-Err-publish.ensures.counted.write (no_read c.is_read.ensures c.if-is_read.false)));
      leaves = λ honest safe.
          let there = c.publish.ensures.left.moments (still_honest c.make_room.ensures.longer.time honest)
          (rest_longer (c.make_room.ensures.longer.longer honest) safe.rest) in
          grown_leaves _ _ _ _ c.args.pages c.args.self.now.sound (omega (arith, room, c.from.ensures)) c.make_room.ensures.longer.longer
          (λ h. (not_err _ made c.make_room.ensures.ok).synced h) c.make_room.ensures.longer.time c.publish.ensures.left.time
          c.make_room.ensures.longer.moments honest safe there;
      no_fewer = omega arith;
      holds = same_holds refl;
      held = held_pages _ _ c.args.self.now.sound (λ honest p behind within.
          longer_pages _ (g.D.SectorDisk.disk c.make_room.new.disk) (g.D.SectorDisk.disk c.publish.new.disk) c.args.self.now.sound
          (c.make_room.ensures.longer.longer honest)
          (pages_behind (g.D.SectorDisk.disk c.make_room.new.disk) (g.D.SectorDisk.disk c.publish.new.disk) c.publish.ensures.left.others
          (still_honest c.make_room.ensures.longer.time honest)) p behind within);
    }

pub returns-else-is_read-clause-kept_pages : goal.returns-else-is_read-clause-kept_pages
returns-else-is_read-clause-kept_pages g c = λ honest p behind within.
    longer_pages _ (g.D.SectorDisk.disk c.make_room.new.disk) (g.D.SectorDisk.disk c.publish.new.disk) c.args.self.now.sound
    (c.make_room.ensures.longer.longer honest)
    (pages_behind (g.D.SectorDisk.disk c.make_room.new.disk) (g.D.SectorDisk.disk c.publish.new.disk) c.publish.ensures.left.others
    (still_honest c.make_room.ensures.longer.time honest)) p behind within

pub returns-else-is_read-clause-cause : goal.returns-else-is_read-clause-cause
returns-else-is_read-clause-cause g c = (grew_since c.make_room.ensures.cause.later (published_grew _ _ _ c.in-Err-publish.ensures.fault), inr refl)
