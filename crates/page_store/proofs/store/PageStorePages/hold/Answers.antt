use Rattle.std.proofs.Common.{◌≡◌, ◌<◌, ℕ, refl, subst, length, List}
use Rattle.page_store.specs.declared.marks.Mark.{Mark}
use Rattle.page_store.proofs.CachedPages.{carried}
use Rattle.page_store.proofs.HoldChanges.{taken_sound}
use Rattle.page_store.specs.Holds.{holds_of, holders_at, with_need}
use Rattle.page_store.specs.Marks.{mark, is_rooted}
use Rattle.page_store.specs.Store.{store_of, IsHoldTaken, Store}
use Rattle.page_store.proofs.Unused.{free_unheld}
use Rattle.page_store.proofs.store.PageStorePages.hold.Goals as goal

pub invariant_of-self : goal.invariant_of-self
invariant_of-self g c =
    let old : Store = store_of (g.D.SectorDisk.disk c.args.self.now.disk)
    (g.D.SectorDisk.failures c.args.self.now.disk) c.args.self.now.root.bytes c.args.self.now.marks.items c.args.self.now.closed
    (holds_of c.args.self.now.taken c.args.self.now.holders.items) in
    let new : Store = store_of (g.D.SectorDisk.disk c.args.self.now.disk)
    (g.D.SectorDisk.failures c.args.self.now.disk) c.args.self.now.root.bytes c.args.self.now.marks.items c.args.self.now.closed
    (holds_of c.with-self.result c.take_hold.new.holders.items) in
    let taken : IsHoldTaken c.in-Some.place old new =
    record {
      disk = refl;
      failures = refl;
      root = refl;
      closed = refl;
      marks = refl;
      was_free = c.in-Some.ensures.some;
      taken = c.with-self.ensures;
      same_length = c.take_hold.ensures.same_length;
      each = subst (λ (ms : List Mark). (p : ℕ) → p < length ms
          → holders_at c.take_hold.new.holders.items p ≡ with_need (holders_at c.args.self.now.holders.items p) c.in-Some.place
          (is_rooted (mark ms p))) c.deref.ensures.value
          c.take_hold.ensures.each;
    } in
    record {
      sound = taken_sound c.in-Some.place old new taken c.args.self.now.sound;
      blocks = c.args.self.now.blocks;
      unused = c.args.self.now.unused;
      cached = carried old new _ _ c.args.self.now.cached (λ p held there. there) (λ h. h) (λ p held there kept. kept) (λ h p held there behind k within. refl);
    }

pub take_hold-requires-clause-unheld : goal.take_hold-requires-clause-unheld
take_hold-requires-clause-unheld g c =
    free_unheld _ _ _ c.args.self.now.unused c.args.self.now.sound.holds.same_length c.args.self.now.sound.holds.stay
