use Rattle.std.proofs.Common.{◌≡◌, Bool, true, false, ◌+◌, ◌/◌, ℕ, Option, None, Some, List, length, ap, sym, ◌∙◌, subst, arith}
use Rattle.std.specs.Prelude.{MatchBool, MatchOption}
use Rattle.std.specs.List.{sum_by}
use Rattle.rbg_game.specs.declared.position.Position.{Position}
use Rattle.position_pack.specs.declared.kind.PackingKind.TheVariants.{Bits}
use Rattle.position_pack.specs.Shape.{Shape}
use Rattle.position_pack.specs.Fields.{fields_of}
use Rattle.position_pack.specs.Bits.{width, greatest_of}
use Rattle.position_pack.specs.Packings.{IsPacked}
use Rattle.position_pack.specs.lemmas.Bits.{AreFields, AreInRange, IsFieldsOf}
use Rattle.position_pack.proofs.ShapeLemmas.{shape}
use Rattle.position_pack.proofs.PackingLemmas.{as_many}
use Rattle.position_pack.proofs.PartFields.{few_fields, are_fields, is_packed}
use Rattle.position_pack.proofs.packed.Packing.unpack_bits.Goals as goal

-- a position of this shape is packed by bits in the bytes
abbrev ByBits : List ℕ → Shape → Position → Type 0
ByBits bytes shape at = IsPacked (record { kind = Bits; shape = shape }) at bytes

when_true : (A B : Type 0) (b : Bool) → b ≡ true → MatchBool b A B → A
when_true A B true is h = h
when_true A B false is h = absurd (cc)

when_false : (A B : Type 0) (b : Bool) → b ≡ false → MatchBool b A B → B
when_false A B true is h = absurd (cc)
when_false A B false is h = h

read : (Q R : Position → Type 0) (P : Type 0) (r : Option Position) → MatchOption r ⊥ Q → ((at : Position) → Q at → R at) → MatchOption r P R
read Q R P None h each = absurd h
read Q R P (Some at) h each = each at h

pub returns-then-bytes-div_ceil : goal.returns-then-bytes-div_ceil
returns-then-bytes-div_ceil c = λ at is.
    let s : Shape = shape c.self.inside.pieces c.self.inside.bounds.items c.self.inside.vertices c.self.inside.actions in
    let view = ap (λ f. f.shape) c.self.view_is in
    let here = subst (λ s. ByBits c.args.bytes.now s at) (sym view) is in
    let many : length c.args.bytes.now ≡ (sum_by width (greatest_of s) + 7) / 8 = ap length here.bytes_are ∙ as_many Bits s at here.fits in
    let bits = c.bits_in.ensures ∙ ap (sum_by width) (c.deref.ensures.0 ∙ c.self.inside.greatest_are) in
    c.if-bytes-div_ceil.true (omega (arith, many, bits, c.div_ceil.ensures))

pub returns-then-not-take_fields : goal.returns-then-not-take_fields
returns-then-not-take_fields c = λ at is.
    let view = ap (λ f. f.shape) c.self.view_is in
    let here = subst (λ s. ByBits c.args.bytes.now s at) (sym view) is in
    let greatest = c.deref-2.ensures.0 ∙ c.self.inside.greatest_are in
    when_false _ _ c.take_fields.result c.if-not-take_fields.true c.take_fields.ensures (fields_of at)
    (subst (λ g. AreFields g c.args.bytes.now (fields_of at)) (sym greatest) (are_fields _ at c.args.bytes.now here))

pub position_of-requires : goal.position_of-requires
position_of-requires c =
    let greatest = c.deref-2.ensures.0 ∙ c.self.inside.greatest_are in
    let are : AreFields c.deref-2.result.now c.args.bytes.now c.take_fields.new.fields.items =
    when_true _ _ c.take_fields.result c.if-not-take_fields.false c.take_fields.ensures in
    let there = subst (λ g. AreFields g c.args.bytes.now c.take_fields.new.fields.items) greatest are in
    let few = few_fields _ c.take_fields.new.fields.items c.self.inside.small there.within in
    subst (λ n. AreInRange n c.deref-3.result.now) (sym c.from.ensures) (subst (AreInRange c.self.inside.vertices) (sym c.deref-3.ensures.0) few)

pub returns : goal.returns
returns c =
    let view = ap (λ f. f.shape) c.self.view_is in
    let greatest = c.deref-2.ensures.0 ∙ c.self.inside.greatest_are in
    let are : AreFields c.deref-2.result.now c.args.bytes.now c.take_fields.new.fields.items =
    when_true _ _ c.take_fields.result c.if-not-take_fields.false c.take_fields.ensures in
    let there = subst (λ g. AreFields g c.args.bytes.now c.take_fields.new.fields.items) greatest are in
    read (IsFieldsOf c.from.result c.deref-3.result.now) _ _ c.position_of.result c.position_of.ensures
    (λ at of_at. subst (λ s. ByBits c.args.bytes.now s at) view
    (is_packed _ at c.args.bytes.now c.take_fields.new.fields.items c.self.inside.some_pieces c.self.inside.some_vertices there
    (subst (λ n. IsFieldsOf n c.take_fields.new.fields.items at) c.from.ensures (subst (λ xs. IsFieldsOf c.from.result xs at) c.deref-3.ensures.0 of_at))))
