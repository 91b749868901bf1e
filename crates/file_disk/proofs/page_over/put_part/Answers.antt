use Rattle.std.proofs.Common.{◌≡◌, ◌+◌, ◌-◌, ◌*◌, ◌≤◌, ℕ, List, length, ap, sym, ◌∙◌, subst, arith}
use borrow.Rule.Slice.PartMut.{put_mid}
use Rattle.file_disk.specs.Bytes.{bytes_at, LeavesOthers}
use Rattle.file_disk.proofs.SectorPlaces.{put_over, put_there}
use Rattle.file_disk.proofs.page_over.put_part.Goals as goal

pub returns-clause-its : goal.returns-clause-its
returns-clause-its c =
    let at : ℕ = 512 * c.args.part in
    let from : List ℕ = c.copy_from_slice.new.self in
    let after : from ≡ c.args.from.now = c.copy_from_slice.ensures.after in
    let long : length from ≡ 512 = ap (λ (b : List ℕ). length b) after ∙ c.requires.long in
    let end : at + 512 ≡ at + length from = omega (arith, long) in
    let within : at + 512 ≤ length c.args.page.now = omega (arith, c.told-page, c.requires.part) in
    ap (λ (n : ℕ). bytes_at (put_mid at (at + 512 - at) c.args.page.now from) at n) (sym long) ∙ put_there c.args.page.now from at (at + 512) end within ∙ after

pub returns-clause-others : goal.returns-clause-others
returns-clause-others c =
    let at : ℕ = 512 * c.args.part in
    let from : List ℕ = c.copy_from_slice.new.self in
    let after : from ≡ c.args.from.now = c.copy_from_slice.ensures.after in
    let long : length from ≡ 512 = ap (λ (b : List ℕ). length b) after ∙ c.requires.long in
    let end : at + 512 ≡ at + length from = omega (arith, long) in
    let within : at + 512 ≤ length c.args.page.now = omega (arith, c.told-page, c.requires.part) in
    subst (λ (n : ℕ). LeavesOthers at n c.args.page.now (put_mid at (at + 512 - at) c.args.page.now from)) long (put_over c.args.page.now from at (at + 512) end within)
