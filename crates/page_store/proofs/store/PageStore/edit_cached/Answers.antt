use Rattle.std.proofs.Common.{refl, sym, ap, ◌∙◌}
use Rattle.std.specs.Result.{is_err}
use Rattle.page_store.specs.Holds.{holds_of}
use Rattle.page_store.specs.InStore.{store_in}
use Rattle.page_store.specs.Store.{store_of}
use Rattle.page_store.specs.lemmas.Works.{closes_same, closes_failed}
use Rattle.page_store.proofs.CachedPages.{carried, part_of, added, fresh_kept, is_ok, edited_reads, edited_was, edited_after, edited_left}
use Rattle.page_store.proofs.Soundness.{reads_else, sectors_else, works_write, was_honest, not_system, sound_works}
use Rattle.page_store.proofs.EditedPages.{edits_none, failed_grew, write_failed}
use Rattle.page_store.proofs.Exits.{counted_ok, counted_err}
use Rattle.page_store.proofs.store.PageStore.edit_cached.Goals as goal

pub returns-in_default : goal.returns-in_default
returns-in_default g c = edits_none _ _ _ c.requires.open

pub invariant_of-self : goal.invariant_of-self
invariant_of-self g c = record {
  sound = c.args.self.now.sound;
  blocks = c.args.self.now.blocks;
  unused = c.args.self.now.unused;
  cached = part_of _ c.args.self.now.cache c.edit.new.self c.args.self.now.cached c.in_default.ensures.same;
}

pub invariant_of-self-in-Ok : goal.invariant_of-self-in-Ok
invariant_of-self-in-Ok g c = record {
  sound = sound_works _ _ c.args.self.now.sound (works_write _ _ _ c.args.self.now.sound c.requires.fresh refl refl refl c.put_changed-done.ensures.put.kept c.put_changed-done.ensures.put.time c.put_changed-done.ensures.put.same_size c.put_changed-done.ensures.cause.later (λ closed. c.requires.open)
      (closes_same (c.is_err-self.ensures.value ∙ ap is_err c.in-Ok.is ∙ sym c.requires.open)
      (counted_ok _ (ap is_err c.in-Ok.is) c.put_changed-done.ensures.counted))) c.args.self.now.sound.system;
  blocks = c.args.self.now.blocks;
  unused = c.args.self.now.unused;
  cached = added _ _ _ _ _ _ c.args.self.now.cached
      (edited_after _ _ _ _ _ _ _ _ c.args.self.now.cached c.in-Some.ensures.edited c.bytes_at.ensures) (was_honest c.put_changed-done.ensures.put.time) refl
      (fresh_kept _ _ (not_system _ _ c.args.self.now.sound.system c.requires.fresh) c.requires.fresh)
      (λ h. (is_ok _ _ c.in-Ok.is (c.put_changed-done.ensures.written h
      (edited_was _ _ _ _ _ _ _ _ c.args.self.now.cached c.in-Some.ensures.edited c.bytes_at.ensures h))))
      (sectors_else _ _ _ c.put_changed-done.ensures.put.kept);
}

pub invariant_of-self-in-Err : goal.invariant_of-self-in-Err
invariant_of-self-in-Err g c = record {
  sound = sound_works _ _ c.args.self.now.sound (works_write _ _ _ c.args.self.now.sound c.requires.fresh refl refl refl c.put_changed-done.ensures.put.kept c.put_changed-done.ensures.put.time c.put_changed-done.ensures.put.same_size c.put_changed-done.ensures.cause.later (λ closed. c.requires.open)
      (closes_failed (c.is_err-self.ensures.value ∙ ap is_err c.in-Err.is)
      (counted_err _ (ap is_err c.in-Err.is) c.put_changed-done.ensures.counted))) c.args.self.now.sound.system;
  blocks = c.args.self.now.blocks;
  unused = c.args.self.now.unused;
  cached = carried _ _ _ _ c.args.self.now.cached
      (edited_left _ _ _ _ _ _ _ _ c.args.self.now.cached c.in-Some.ensures.edited c.bytes_at.ensures c.forget.new.self c.forget.ensures)
      (was_honest c.put_changed-done.ensures.put.time)
      (λ p held there kept. kept) (λ h p held there behind. sectors_else _ _ _ c.put_changed-done.ensures.put.kept h p (c.forget.ensures p held there).0);
}

pub returns-in-Ok : goal.returns-in-Ok
returns-in-Ok g c = record {
  edited = λ h is.
      edited_reads _ _ _ _ _ _ _ _ c.args.self.now.cached c.in-Some.ensures.edited c.bytes_at.ensures
      (g.D.SectorDisk.disk c.put_changed-done.new.disk).now.contents h (is_ok _ _ c.in-Ok.is (c.put_changed-done.ensures.written h
      (edited_was _ _ _ _ _ _ _ _ c.args.self.now.cached c.in-Some.ensures.edited c.bytes_at.ensures h)));
  others = λ h. reads_else _ _ _ c.put_changed-done.ensures.put.kept h;
  left = λ is. absurd (cc);
  marks = refl;
  open_ = c.is_err-self.ensures.value ∙ ap is_err c.in-Ok.is;
  untouched = tt;
  cause = tt;
  works = works_write _ _ _ c.args.self.now.sound c.requires.fresh refl refl refl c.put_changed-done.ensures.put.kept c.put_changed-done.ensures.put.time c.put_changed-done.ensures.put.same_size c.put_changed-done.ensures.cause.later (λ closed. c.requires.open)
      (closes_same (c.is_err-self.ensures.value ∙ ap is_err c.in-Ok.is ∙ sym c.requires.open)
      (counted_ok _ (ap is_err c.in-Ok.is) c.put_changed-done.ensures.counted));
}

pub returns-in-Err : goal.returns-in-Err
returns-in-Err g c = record {
  edited = λ h. tt;
  others = λ h. reads_else _ _ _ c.put_changed-done.ensures.put.kept h;
  left = tt;
  marks = refl;
  open_ = tt;
  untouched = λ other. absurd (other c.into.ensures);
  cause = write_failed _ _ _ _ c.into.ensures (failed_grew _ _ c.in-Err.is c.put_changed-done.ensures.cause)
      (c.is_err-self.ensures.value ∙ ap is_err c.in-Err.is) (store_in c.args.self.now)
      (store_of (g.D.SectorDisk.disk c.put_changed-done.new.disk) (g.D.SectorDisk.failures c.put_changed-done.new.disk) c.args.self.now.root.bytes
      c.args.self.now.marks.items c.is_err-self.result (holds_of c.args.self.now.taken c.args.self.now.holders.items)) refl refl refl;
  works = works_write _ _ _ c.args.self.now.sound c.requires.fresh refl refl refl c.put_changed-done.ensures.put.kept c.put_changed-done.ensures.put.time c.put_changed-done.ensures.put.same_size c.put_changed-done.ensures.cause.later (λ closed. c.requires.open)
      (closes_failed (c.is_err-self.ensures.value ∙ ap is_err c.in-Err.is) (counted_err _ (ap is_err c.in-Err.is) c.put_changed-done.ensures.counted));
}
