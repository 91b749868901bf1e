use Rattle.std.proofs.Common.{arith, ◌<◌, length}
use Rattle.file_disk.proofs.PagePlaces.{fill_put, fill_others, fill_slots, gets_sector}
use Rattle.file_disk.proofs.waiting_writes.WaitingWrites.fill.Goals as goal

pub returns-clause-put : goal.returns-clause-put
returns-clause-put c = λ content.
    let here : c.args.place < length c.args.self.now.pages.items = omega arith in
    fill_put _ _ _ _ _ _ _ content c.requires.there c.args.self.now.few c.args.self.now.distinct c.requires.its
    (gets_sector _ _ _ _ _ c.index_mut-page.ensures.value here c.set_sector.ensures.its c.set_sector.ensures.others) c.put_sector.ensures.written

pub returns-clause-others : goal.returns-clause-others
returns-clause-others c = λ content k other.
    let here : c.args.place < length c.args.self.now.pages.items = omega arith in
    fill_others _ _ _ _ _ _ _ content c.requires.there c.args.self.now.few c.requires.its
    (gets_sector _ _ _ _ _ c.index_mut-page.ensures.value here c.set_sector.ensures.its c.set_sector.ensures.others) c.put_sector.ensures.others k other

pub returns-clause-slots : goal.returns-clause-slots
returns-clause-slots c = λ k other.
    let here : c.args.place < length c.args.self.now.pages.items = omega arith in
    fill_slots _ _ _ _ _ c.requires.there c.args.self.now.few c.requires.its
    (gets_sector _ _ _ _ _ c.index_mut-page.ensures.value here c.set_sector.ensures.its c.set_sector.ensures.others) k other
