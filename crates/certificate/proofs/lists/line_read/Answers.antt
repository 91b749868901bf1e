use Rattle.std.proofs.Common.{refl, subst, List, ℕ}
use Rattle.rbg_game.specs.declared.position.Position.{Position}
use Rattle.position_pack.specs.Packings.{IsPacked}
use Rattle.certificate.proofs.ListLoops.{passed_on}
use Rattle.certificate.proofs.ReadLemmas.{line_is_read, no_letters_there, no_parts, no_position_there}
use Rattle.certificate.proofs.lists.line_read.Goals as goal

pub returns-in_default-clause-fault : goal.returns-in_default-clause-fault
returns-in_default-clause-fault c = no_parts c.args.packing.now c.args.manner c.args.line.now c.in_default.ensures

pub returns-in_err-at-clause-fault : goal.returns-in_err-at-clause-fault
returns-in_err-at-clause-fault c =
    passed_on _ c.from_residual.result _ c.from_residual.ensures
    (no_letters_there c.args.packing.now c.args.manner c.args.line.now c.in-Some.written.now c.in-Some.rank c.in-Some.ensures _ c.in_err-at.ensures.fault)

pub returns-in-Some-unpack-clause-read : goal.returns-in-Some-unpack-clause-read
returns-in-Some-unpack-clause-read c =
    let bytes = c.in_ok-at.ensures.read in
    line_is_read c.args.packing.now c.args.manner c.args.line.now c.in-Some.written.now c.in-Some.rank c.in-Some.ensures c.in_ok-at.at.items bytes.1 bytes.0
    c.requires.filled c.requires.small c.in-Some-unpack.field-0
    (subst (λ (x : List ℕ). IsPacked c.args.packing.now c.in-Some-unpack.field-0 x) c.deref.ensures.value c.in-Some-unpack.ensures)
    (record { at = c.in_ok-at.at; rank = c.in-Some.rank }) refl refl

pub returns-in-None-clause-fault : goal.returns-in-None-clause-fault
returns-in-None-clause-fault c =
    let bytes = c.in_ok-at.ensures.read in
    no_position_there c.args.packing.now c.args.manner c.args.line.now c.in-Some.written.now c.in-Some.rank c.in-Some.ensures c.in_ok-at.at.items bytes.1 bytes.0
    c.requires.filled
    (subst (λ (x : List ℕ). (at : Position) → ¬ IsPacked c.args.packing.now at x) c.deref.ensures.value c.in-None.ensures)

pub returns-in-Some-unpack-clause-position : goal.returns-in-Some-unpack-clause-position
returns-in-Some-unpack-clause-position c = (
  c.in-Some-unpack.field-0,
  subst (λ (x : List ℕ). IsPacked c.args.packing.now c.in-Some-unpack.field-0 x) c.deref.ensures.value c.in-Some-unpack.ensures,
)
