use Rattle.std.proofs.Common.{rules, ◌≡◌, ◌++◌, ◌-◌, ℕ, length, take, ap, ◌∙◌}
use Rattle.std.specs.Prelude.{replicate}
use Rattle.file_disk.proofs.Lengths.{resized_is, resized_keeps, same_keeps}
use Rattle.file_disk.proofs.memory_file.MemoryFileByteFile.set_len.Goals as goal

pub returns-in-Ok-clause-resized : goal.returns-in-Ok-clause-resized
returns-in-Ok-clause-resized c = λ honest.
    let long : c.args.self.now.bytes.len ≡ length c.args.self.now.bytes.items = search rules in
    resized_is c.args.self.now.bytes.items c.resize.new.self.items c.args.bytes
    (c.in-Ok.ensures.items ∙ ap (λ (n : ℕ). take c.args.bytes c.args.self.now.bytes.items ++ replicate (c.args.bytes - n) 0) long)

pub returns-in-Ok-clause-kept : goal.returns-in-Ok-clause-kept
returns-in-Ok-clause-kept c = λ honest.
    let long : c.args.self.now.bytes.len ≡ length c.args.self.now.bytes.items = search rules in
    resized_keeps c.args.self.now.bytes.items c.resize.new.self.items c.args.bytes
    (c.in-Ok.ensures.items ∙ ap (λ (n : ℕ). take c.args.bytes c.args.self.now.bytes.items ++ replicate (c.args.bytes - n) 0) long)

pub returns-in-Err-clause-kept : goal.returns-in-Err-clause-kept
returns-in-Err-clause-kept c = λ honest. same_keeps c.args.self.now.bytes.items c.resize.new.self.items c.args.bytes c.in-Err.ensures.items
