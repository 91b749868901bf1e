-- Keys that are numbers.
use Rattle.std.proofs.Common.{◌≡◌, ℕ, ◌^◌, ◌<◌, List, [], ◌++◌, length, drop, sym, ◌∙◌, ap, arith, length-append}
use Rattle.std.proofs.lemmas.List.{append-nil, drop_at}
use Rattle.byteorder.specs.Endian.{big_number}
use Rattle.byteorder.specs.Numbers.{length-bytes_high_first, big_number-reads_back}
use Rattle.game_file.specs.Bytes.{IsNumber}
use Rattle.tree_table.specs.Entries.{number_key, edge_key}

pub key_long : (n : ℕ) → length (number_key n) ≡ 4
key_long n = length-bytes_high_first 4 n

-- the number whose key it is, whatever is after it
pub key_read : (n : ℕ) (rest : List ℕ) → n < 2 ^ 32 → big_number 4 (number_key n ++ rest) ≡ n
key_read n rest small = big_number-reads_back 4 n rest (omega (arith, small))

pub key_back : (n : ℕ) → n < 2 ^ 32 → big_number 4 (number_key n) ≡ n
key_back n small = ap (big_number 4) (sym (append-nil (number_key n))) ∙ key_read n [] small

pub key_number : (n : ℕ) → n < 2 ^ 32 → IsNumber (number_key n) n
key_number n small = record { long = key_long n; is = key_back n small }

-- numbers with one key are the same
pub same_number : (m n : ℕ) → m < 2 ^ 32 → n < 2 ^ 32 → number_key m ≡ number_key n → m ≡ n
same_number m n one two same = sym (key_back m one) ∙ ap (big_number 4) same ∙ key_back n two

pub edge_long : (i p : ℕ) → length (edge_key i p) ≡ 8
edge_long i p = omega (arith, length-append (number_key i) (number_key p), key_long i, key_long p)

-- edges with one key are the same
pub same_edge : (i p j q : ℕ) → i < 2 ^ 32 → p < 2 ^ 32 → j < 2 ^ 32 → q < 2 ^ 32 → edge_key i p ≡ edge_key j q → (i ≡ j) × (p ≡ q)
same_edge i p j q a b c d same = (
  sym (key_read i (number_key p) a) ∙ ap (big_number 4) same ∙ key_read j (number_key q) c,
  same_number p q b d (sym (drop_at (number_key i) (number_key p) 4 (key_long i)) ∙ ap (drop 4) same
      ∙ drop_at (number_key j) (number_key q) 4 (key_long j)),
)
