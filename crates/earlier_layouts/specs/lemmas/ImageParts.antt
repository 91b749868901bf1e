-- Each cell, edge and number takes as many bytes as any other, which are those of no other.
use Rattle.std.specs.Prelude.{◌≡◌, ℕ, ◌+◌, length}
use Rattle.std.proofs.Common.{sym, ap, ◌∙◌, length-append, arith}
use Rattle.game_file.specs.Bytes.{IsCell, IsEdge, IsNumber}
use Rattle.game_file.specs.lemmas.Records.{one_cell}
use Rattle.earlier_layouts.specs.lemmas.Items.{IsFixed}

pub fixed_cells : (packed : ℕ) → IsFixed (IsCell packed) (packed + 16)
fixed_cells packed = record {
  long = λ bytes x is. omega (arith, ap length is.is, length-append x.0 is.behind, is.long, is.is_record.long);
  one = one_cell packed;
}

pub fixed_edges : IsFixed IsEdge 8
fixed_edges = record {
  long = λ bytes x is. is.long;
  one = λ bytes x y a b. same x y (sym a.successor ∙ b.successor) (sym a.predecessor ∙ b.predecessor);
}
  where
    same : (x y : ℕ × ℕ) → x.0 ≡ y.0 → x.1 ≡ y.1 → x ≡ y
    same x y e f = λ i. (e i, f i)

pub fixed_numbers : IsFixed IsNumber 4
fixed_numbers = record { long = λ bytes x is. is.long; one = λ bytes x y a b. sym a.is ∙ b.is }
