use Rattle.std.proofs.Common.{◌+◌, ◌*◌, ◌≤◌, ◌∙◌, List, ℕ, length, ap, arith}
use Rattle.file_disk.proofs.SectorPlaces.{part_long}
use Rattle.file_disk.proofs.waiting_writes.WaitingWrites.whole_page.Goals as goal

pub returns : goal.returns
returns c =
    let within : 4096 * c.in-Some.place + 4096 ≤ length c.args.self.now.bytes.items =
    omega (arith, c.in-Some.ensures.there, c.args.self.now.few, c.args.self.now.sized) in
    record {
      place = c.in-Some.place;
      found = c.in-Some.ensures.found;
      whole = c.in-Some.ensures.whole;
      long = ap (λ (b : List ℕ). length b) c.bytes_of_place.ensures ∙ part_long c.args.self.now.bytes.items (4096 * c.in-Some.place) 4096 within;
      stand = c.bytes_of_place.ensures;
    }
