-- Why bytes whose table is not whole spell no other.
use Rattle.std.proofs.Common.{◌≡◌, ℕ, zero, suc, List, [], ◌∷◌, Some, length, sym, ◌∙◌, ap, subst, arith}
use Rattle.std.proofs.lemmas.Option.{slice_get_within}
use Rattle.std.specs.Prelude.{slice_get, zip}
use Rattle.retrograde.specs.declared.records.Record.{Record}
use Rattle.retrograde.specs.Stored.{Stored}
use Rattle.page_store.specs.declared.fault.PageFault.TheVariants.{Damaged}
use Rattle.game_file.specs.declared.sizes.Sizes.{Sizes}
use Rattle.game_file.specs.Bytes.{IsCell}
use Rattle.earlier_layouts.specs.Spelled.{AreSpelled, SpellsTable}
use Rattle.earlier_layouts.specs.lemmas.Laws.{bytes_spell_one_table}
use Rattle.earlier_layouts.specs.lemmas.FileReads.{IsSizedTable, SpellingCause}

-- positions that were spelled have their length
cells_long : (packed : ℕ) (bytes : List ℕ) (xs : List (List ℕ)) (rs : List Record) → length rs ≡ length xs → AreSpelled (IsCell packed) bytes (zip xs rs)
    → (i : ℕ) (x : List ℕ) → slice_get xs i ≡ Some x → length x ≡ packed
cells_long packed bytes [] rs same spelled i x found = absurd (omega (arith, slice_get_within [] i x found))
cells_long packed bytes (y ∷ xs) [] same spelled i x found = absurd (cc)
cells_long packed bytes (y ∷ xs) (r ∷ rs) same (one, rest, is, of, more) zero x found =
    let same_one : y ≡ x = cc in
    ap (λ (z : List ℕ). length z) (sym same_one) ∙ of.long
cells_long packed bytes (y ∷ xs) (r ∷ rs) same (one, rest, is, of, more) (suc i) x found = cells_long packed rest xs rs (omega (arith, same)) more i x found

-- the bytes spell no table whose parts fit together and are counted right
pub not_whole : (sizes : Sizes) (bytes text : List ℕ) (stored : Stored (List ℕ)) → SpellsTable sizes bytes text stored
    → (IsSizedTable sizes stored → ⊥) → SpellingCause sizes bytes Damaged
not_whole sizes bytes text stored is none = λ other table is_table counts spelled.
    let (texts, same) = bytes_spell_one_table sizes bytes other text table stored spelled is in
    none (subst (λ (t : Stored (List ℕ)). IsSizedTable sizes t) same (record {
      fits = record {
        table = is_table;
        long = cells_long sizes.packed spelled.cells table.positions table.records (spelled.recorded ∙ sym spelled.known) spelled.cells_are;
      };
      counts = counts;
    }))
