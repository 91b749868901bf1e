use Rattle.std.proofs.Common.{refl, arith}
use Rattle.page_store.proofs.Growth.{are_cut, shortened, cut_sound}
use Rattle.page_store.proofs.CachedPages.{empty_cache}
use Rattle.page_store.proofs.TurnedMarks.{cut_noted}
use Rattle.page_store.proofs.Unused.{unused_cut}
use Rattle.page_store.proofs.store.PageStorePages.set_capacity.Goals as goal

pub returns-clause-marks : goal.returns-clause-marks
returns-clause-marks g c = are_cut _ _ _ c.requires.room c.truncate.ensures.items

pub returns-clause-others : goal.returns-clause-others
returns-clause-others g c = shortened _ _ _ refl refl refl refl refl c.truncate-2.ensures.items

pub invariant_of-self : goal.invariant_of-self
invariant_of-self g c = record {
  sound = cut_sound _ _ _ (shortened _ _ _ refl refl refl refl refl c.truncate-2.ensures.items) c.truncate-2.ensures.items
      (are_cut _ _ _ c.requires.room c.truncate.ensures.items) c.requires.some c.requires.room c.args.self.now.sound;
  blocks = cut_noted _ _ _ _ _ _ (are_cut _ _ _ c.requires.room c.truncate.ensures.items) c.requires.room c.blocks_of.ensures.room c.truncate-3.ensures.items c.args.self.now.blocks;
  unused = unused_cut _ _ _ _ c.requires.room c.args.self.now.unused (are_cut _ _ _ c.requires.room c.truncate.ensures.items);
  cached = empty_cache _ _ c.clear.ensures;
}

pub blocks_of-requires : goal.blocks_of-requires
blocks_of-requires g c = omega (arith, c.requires.room, c.args.self.now.blocks.room, c.args.self.now.blocks.few)
