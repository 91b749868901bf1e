-- The order of keys that are numbers is the order of the numbers.
use Rattle.std.proofs.Common.{◌≡◌, ℕ, ◌/◌, ◌%◌, ◌^◌, ◌<◌, List, [], ◌∷◌, ◌++◌, length, refl, ap, sym, ◌∙◌, arith}
use Rattle.std.proofs.lemmas.Bool.Decides.{nat_tests}
use Rattle.std.specs.Ordering.{nat_cmp, ordering_then}
use Rattle.std.specs.declared.cmp.Ordering.{Ordering}
use Rattle.std.specs.declared.cmp.Ordering.TheVariants.{Less, Equal, Greater}
use Rattle.btree.specs.Page.{key_cmp}
use Rattle.tree_table.specs.Entries.{number_key}
use Rattle.tree_table.specs.lemmas.Numbers.{key_long}

then_then : (a b c : Ordering) → ordering_then (ordering_then a b) c ≡ ordering_then a (ordering_then b c)
then_then Less b c = refl
then_then Equal b c = refl
then_then Greater b c = refl

-- keys that begin with parts of the same length
cmp_parts : (a b c d : List ℕ) → length a ≡ length b → key_cmp (a ++ c) (b ++ d) ≡ ordering_then (key_cmp a b) (key_cmp c d)
cmp_parts [] [] c d e = refl
cmp_parts [] (y ∷ b) c d e = absurd (omega (arith, e))
cmp_parts (x ∷ a) [] c d e = absurd (omega (arith, e))
cmp_parts (x ∷ a) (y ∷ b) c d e = ap (ordering_then (nat_cmp x y)) (cmp_parts a b c d (omega (arith, e)))
    ∙ sym (then_then (nat_cmp x y) (key_cmp a b) (key_cmp c d))

-- two bytes compare as their number, and so do two halves
two_cmp : (v w : ℕ) → v < 65536 → w < 65536 → ordering_then (nat_cmp (v / 256 % 256) (w / 256 % 256)) (nat_cmp (v % 256) (w % 256)) ≡ nat_cmp v w
two_cmp v w hv hw = grind (arith, nat_tests)

half_cmp : (v w : ℕ) → ordering_then (nat_cmp (v / 65536) (w / 65536)) (nat_cmp (v % 65536) (w % 65536)) ≡ nat_cmp v w
half_cmp v w = grind (arith, nat_tests)

four_then : (a b c d : Ordering) → ordering_then a (ordering_then b (ordering_then c (ordering_then d Equal))) ≡ ordering_then
    (ordering_then a b) (ordering_then c d)
four_then Less b c d = refl
four_then Greater b c d = refl
four_then Equal Less c d = refl
four_then Equal Greater c d = refl
four_then Equal Equal Less d = refl
four_then Equal Equal Greater d = refl
four_then Equal Equal Equal Less = refl
four_then Equal Equal Equal Equal = refl
four_then Equal Equal Equal Greater = refl

top : (v : ℕ) → v / 16777216 % 256 ≡ v / 65536 / 256 % 256
top v = omega arith

low : (v : ℕ) → v / 256 % 256 ≡ v % 65536 / 256 % 256
low v = omega arith

last : (v : ℕ) → v % 256 ≡ v % 65536 % 256
last v = omega arith

pub number_cmp : (v w : ℕ) → v < 2 ^ 32 → w < 2 ^ 32 → key_cmp (number_key v) (number_key w) ≡ nat_cmp v w
number_cmp v w hv hw =
    four_then (nat_cmp (v / 16777216 % 256) (w / 16777216 % 256)) (nat_cmp (v / 65536 % 256) (w / 65536 % 256))
    (nat_cmp (v / 256 % 256) (w / 256 % 256)) (nat_cmp (v % 256) (w % 256))
    ∙ (λ i. ordering_then (ordering_then (nat_cmp (top v i) (top w i)) (nat_cmp (v / 65536 % 256) (w / 65536 % 256)))
    (ordering_then (nat_cmp (low v i) (low w i)) (nat_cmp (last v i) (last w i))))
    ∙ (λ i. ordering_then (two_cmp (v / 65536) (w / 65536) (omega (arith, hv)) (omega (arith, hw)) i)
    (two_cmp (v % 65536) (w % 65536) (omega arith) (omega arith) i))
    ∙ half_cmp v w

-- and whatever is after, if they differ
pub keys_cmp : (v w : ℕ) (a b : List ℕ) → v < 2 ^ 32 → w < 2 ^ 32 → key_cmp (number_key v ++ a) (number_key w ++ b) ≡ ordering_then (nat_cmp v w) (key_cmp a b)
keys_cmp v w a b hv hw =
    cmp_parts (number_key v) (number_key w) a b (key_long v ∙ sym (key_long w)) ∙ ap (λ o. ordering_then o (key_cmp a b)) (number_cmp v w hv hw)
