use Rattle.std.proofs.Common.{rules, ◌≡◌, ◌+◌, ◌≤◌, ℕ, List, length, refl, ap, sym, ◌∙◌, subst}
use Rattle.file_disk.specs.Bytes.{bytes_at, LeavesOthers}
use Rattle.file_disk.proofs.SectorPlaces.{put_in, put_over, put_there}
use Rattle.file_disk.proofs.put_bytes.put_bytes.Goals as goal

pub returns-clause-written : goal.returns-clause-written
returns-clause-written c =
    let end : c.args.at + length c.args.from.now ≡ c.args.at + length c.args.from.now = refl in
    let within : c.args.at + length c.args.from.now ≤ length c.args.bytes.now.items = c.requires in
    let len : c.args.bytes.now.len ≡ length c.args.bytes.now.items = search rules in
    ap (λ (b : List ℕ). bytes_at b c.args.at (length c.args.from.now))
    (put_in _ _ _ _ _ _ _ c.deref_mut.ensures.value c.copy_from_slice.ensures.after len end within)
    ∙ put_there _ _ _ _ end within

pub returns-clause-others : goal.returns-clause-others
returns-clause-others c =
    let end : c.args.at + length c.args.from.now ≡ c.args.at + length c.args.from.now = refl in
    let within : c.args.at + length c.args.from.now ≤ length c.args.bytes.now.items = c.requires in
    let len : c.args.bytes.now.len ≡ length c.args.bytes.now.items = search rules in
    subst (λ (b : List ℕ). LeavesOthers c.args.at (length c.args.from.now) c.args.bytes.now.items b)
    (sym (put_in _ _ _ _ _ _ _ c.deref_mut.ensures.value c.copy_from_slice.ensures.after len end within))
    (put_over _ _ _ _ end within)
