-- Both packings.
use Rattle.std.proofs.Common.{◌≡◌, ℕ, List, length, refl, sym, ◌∙◌, subst}
use Rattle.std.specs.Prelude.{◌↔◌}
use Rattle.std.specs.Ordering.{nat_cmp}
use Rattle.std.specs.Cmp.Lexicographic.{slice_cmp}
use Rattle.rbg_game.specs.declared.position.Position.{Position}
use Rattle.position_pack.specs.declared.kind.PackingKind.{PackingKind}
use Rattle.position_pack.specs.declared.kind.PackingKind.TheVariants.{Bytes, Bits}
use Rattle.position_pack.specs.Shape.{Shape, IsSmall, Fits}
use Rattle.position_pack.specs.Fields.{fields_of}
use Rattle.position_pack.specs.Bytes.{bytes_of}
use Rattle.position_pack.specs.Packings.{Form, packed_by, length_by, IsPacked}
use Rattle.position_pack.proofs.PartLemmas.{AreBytes, parts_of}
use Rattle.position_pack.proofs.OrderLemmas.{order, tell}
use Rattle.position_pack.proofs.FieldLemmas.{bits_order, bits_told, length-by_bits}

-- the bytes tell the position
pub packed_tell : (kind : PackingKind) (shape : Shape) (x y : Position) → IsSmall shape → Fits shape x → Fits shape y
    → packed_by kind shape x ≡ packed_by kind shape y → x ≡ y
packed_tell Bytes shape x y = tell shape x y
packed_tell Bits shape x y = bits_told shape x y

-- the order of the bytes is that of the fields
pub packed_order : (kind : PackingKind) (shape : Shape) (x y : Position) → IsSmall shape → Fits shape x → Fits shape y
    → slice_cmp nat_cmp (packed_by kind shape x) (packed_by kind shape y) ≡ slice_cmp nat_cmp (fields_of x) (fields_of y)
packed_order Bytes shape x y = order shape x y
packed_order Bits shape x y = bits_order shape x y

-- all positions have as many bytes
pub as_many : (kind : PackingKind) (shape : Shape) (at : Position) → Fits shape at → length (packed_by kind shape at) ≡ length_by kind shape
as_many Bytes shape at fits = (parts_of shape at (bytes_of at) (record { fits = fits; bytes_are = refl })).as_many
as_many Bits shape at fits = length-by_bits shape at fits

pub undone : (form : Form) (at : Position) (bytes : List ℕ) → IsSmall form.shape → Fits form.shape at
    → (bytes ≡ packed_by form.kind form.shape at) ↔ ((other : Position) → IsPacked form other bytes ↔ (other ≡ at))
undone form at bytes small fits = (to, λ each. ((each at).1 refl).bytes_are)
  where
    to : bytes ≡ packed_by form.kind form.shape at → (other : Position) → IsPacked form other bytes ↔ (other ≡ at)
    to same other = (
      (λ packed. packed_tell form.kind form.shape other at small packed.fits fits (sym packed.bytes_are ∙ same)),
      (λ is. subst (λ x. IsPacked form x bytes) (sym is) (record { fits = fits; bytes_are = same })),
    )

pub by_bytes : (shape : Shape) (at : Position) (bytes : List ℕ) → IsPacked (record { kind = Bytes; shape = shape }) at bytes → AreBytes shape at bytes
by_bytes shape at bytes is = record { fits = is.fits; bytes_are = is.bytes_are }

pub by_form : (shape : Shape) (at : Position) (bytes : List ℕ) → AreBytes shape at bytes → IsPacked (record { kind = Bytes; shape = shape }) at bytes
by_form shape at bytes are = record { fits = are.fits; bytes_are = are.bytes_are }
