use Rattle.std.proofs.Common.{inl, inr, ℕ, List, Some, refl, sym, ap, ◌∙◌, arith}
use Rattle.std.proofs.lemmas.Bool.{cases_eq}
use Rattle.file_disk.specs.Bytes.{sector_of}
use Rattle.file_disk.specs.WaitingSectors.{slot_in, given}
use Rattle.file_disk.proofs.waiting_writes.WaitingWrites.lay_over.Goals as goal

pub loop-part-init : goal.loop-part-init
loop-part-init c = record { laid = λ s lt. absurd (omega (arith, lt)); still = λ s le. refl }

pub loop-part-preserved : goal.loop-part-preserved
loop-part-preserved c =
    let kept = c.loop-part.invariant in
    let part = c.loop-part.part in
    record {
      laid = λ s lt. elim (cases_eq s part) [
        | inl is ↦
            ap (sector_of c.lay_part.new.into) is ∙ c.lay_part.ensures.its
            ∙ ap (λ (b : List ℕ). given c.args.self.now.bytes.items b (slot_in c.args.self.now.pages.items part (Some c.args.place)))
            (kept.still part (omega arith))
            ∙ ap (λ (n : ℕ). given c.args.self.now.bytes.items (sector_of c.args.into.now n)
            (slot_in c.args.self.now.pages.items n (Some c.args.place))) (sym is)
        | inr ne ↦ c.lay_part.ensures.others s ne ∙ kept.laid s (omega (arith, lt, ne))
      ];
      still = λ s le. c.lay_part.ensures.others s (λ is. omega (arith, is, le)) ∙ kept.still s (omega (arith, le));
    }
