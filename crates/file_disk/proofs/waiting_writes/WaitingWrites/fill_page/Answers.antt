use Rattle.std.proofs.Common.{◌∙◌, ap, sym, subst, ℕ, ◌*◌}
use Rattle.file_disk.specs.Bytes.{bytes_at, LeavesOthers}
use Rattle.file_disk.proofs.WholePages.{filled_else, filled_inside, filled_number, filled_waits, has_all, whole_others, whole_slots}
use Rattle.file_disk.proofs.waiting_writes.WaitingWrites.fill_page.Goals as goal

pub returns-clause-put : goal.returns-clause-put
returns-clause-put c =
    filled_waits _ _ _ _ c.requires.there c.args.self.now.few c.requires.its c.args.self.now.bytes.items _ _ c.args.self.now.distinct has_all c.told-from
    (ap (λ (n : ℕ). bytes_at c.put_bytes.new.bytes.items (4096 * c.args.place) n) (sym c.told-from) ∙ c.put_bytes.ensures.written)

pub returns-clause-others : goal.returns-clause-others
returns-clause-others c =
    let number = filled_number c.args.self.now.pages.items c.args.self.now.count c.args.place _ c.requires.there c.args.self.now.few c.requires.its in
    let else_same = filled_else c.args.self.now.pages.items c.args.self.now.count c.args.place _ c.requires.there c.args.self.now.few c.requires.its in
    record {
      shown = λ content k outside.
          whole_others _ _ c.args.self.now.count c.args.place c.args.page c.requires.its number else_same _ _ content
          (subst (λ (n : ℕ). LeavesOthers (4096 * c.args.place) n c.args.self.now.bytes.items c.put_bytes.new.bytes.items) c.told-from c.put_bytes.ensures.others)
          k outside;
      slots = λ k outside. whole_slots _ _ c.args.self.now.count c.args.place c.args.page c.requires.its number else_same k outside;
    }

pub returns-clause-inside : goal.returns-clause-inside
returns-clause-inside c = filled_inside _ _ _ _ c.requires.there c.args.self.now.few c.requires.its
