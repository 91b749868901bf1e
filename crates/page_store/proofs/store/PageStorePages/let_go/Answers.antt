use Rattle.std.proofs.Common.{refl, subst, List}
use Rattle.page_store.specs.declared.holds.Holders.{Holders}
use Rattle.page_store.proofs.CachedPages.{carried, left_kept}
use Rattle.page_store.proofs.HoldChanges.{let_go_sound}
use Rattle.page_store.proofs.TurnedMarks.{left_noted}
use Rattle.page_store.specs.Holds.{holds_of}
use Rattle.page_store.specs.Marks.{AreLeft}
use Rattle.page_store.specs.Store.{store_of, IsLetGo, Store}
use Rattle.page_store.proofs.Unused.{free_unheld, unused_left}
use Rattle.page_store.proofs.store.PageStorePages.let_go.Goals as goal

pub invariant_of-self : goal.invariant_of-self
invariant_of-self g c =
    let old : Store = store_of (g.D.SectorDisk.disk c.args.self.now.disk)
    (g.D.SectorDisk.failures c.args.self.now.disk) c.args.self.now.root.bytes c.args.self.now.marks.items c.args.self.now.closed
    (holds_of c.args.self.now.taken c.args.self.now.holders.items) in
    let new : Store = store_of (g.D.SectorDisk.disk c.args.self.now.disk)
    (g.D.SectorDisk.failures c.args.self.now.disk) c.args.self.now.root.bytes c.free_left.new.marks.items c.args.self.now.closed
    (holds_of c.with-self.result c.end_hold.new.holders.items) in
    let marks : AreLeft c.end_hold.new.holders.items c.args.self.now.marks.items c.free_left.new.marks.items =
    subst (λ (hs : List Holders). AreLeft hs c.args.self.now.marks.items c.free_left.new.marks.items) c.deref.ensures.value c.free_left.ensures in
    let gone : IsLetGo c.args.hold.place old new =
    record {
      disk = refl;
      failures = refl;
      root = refl;
      closed = refl;
      marks = marks;
      taken = c.with-self.ensures;
      same_length = c.end_hold.ensures.same_length;
      each = c.end_hold.ensures.each;
    } in
    record {
      sound = let_go_sound c.args.hold.place old new gone c.args.self.now.sound;
      blocks = left_noted _ _ _ _ marks c.args.self.now.blocks;
      unused = unused_left _ _ _ _ c.args.self.now.unused marks;
      cached = carried old new _ _ c.args.self.now.cached (λ p held there. there) (λ h. h) (λ p held there. left_kept _ _ _ marks p)
          (λ h p held there behind k within. refl);
    }

pub end_hold-requires : goal.end_hold-requires
end_hold-requires g c =
    free_unheld _ _ _ c.args.self.now.unused c.args.self.now.sound.holds.same_length c.args.self.now.sound.holds.stay
