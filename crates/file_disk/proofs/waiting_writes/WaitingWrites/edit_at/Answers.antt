use Rattle.std.proofs.Common.{◌≡◌, ◌≤◌, ◌+◌, ◌*◌, length, refl, arith}
use Rattle.file_disk.specs.Bytes.{bytes_at}
use Rattle.file_disk.proofs.SectorPlaces.{part_long}
use Rattle.file_disk.proofs.Slots.{place_is}
use Rattle.file_disk.proofs.WholePages.{whole_others}
use Rattle.file_disk.proofs.waiting_writes.WaitingWrites.edit_at.Goals as goal

pub returns-clause-edited : goal.returns-clause-edited
returns-clause-edited g c =
    let is = place_is c.args.self.now.pages.items c.args.self.now.count c.args.page c.args.place c.requires.found in
    let within : 4096 * c.args.place + 4096 ≤ length c.args.self.now.bytes.items = omega (arith, c.requires.there, c.args.self.now.few, c.args.self.now.sized) in
    let long : length (bytes_at c.edit_bytes.new.bytes.items (4096 * c.args.place) 4096) ≡ 4096 =
    part_long c.edit_bytes.new.bytes.items (4096 * c.args.place) 4096 (omega (arith, within, c.edit_bytes.ensures.others.same_length)) in
    record {
      was = _;
      is = _;
      had = record {
        place = c.args.place;
        found = c.requires.found;
        whole = c.requires.whole;
        long = part_long c.args.self.now.bytes.items (4096 * c.args.place) 4096 within;
        stand = refl;
      };
      has = record { place = c.args.place; found = c.requires.found; whole = c.requires.whole; long = long; stand = refl };
      edits = c.edit_bytes.ensures.edited;
      others = record {
        shown = λ content k outside.
            whole_others _ _ c.args.self.now.count c.args.place c.args.page is.1 refl (λ q ne. refl) _ _ content c.edit_bytes.ensures.others k outside;
        slots = λ k outside. refl;
      };
    }
