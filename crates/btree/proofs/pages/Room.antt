-- What fits on a page and in a word.
use Rattle.std.proofs.Common.{◌≡◌, ℕ, zero, suc, ◌+◌, ◌-◌, ◌*◌, ◌≤◌, List, length, take, drop, sym, ap, subst, Fits, w64, arith, length-drop}
use Rattle.std.proofs.lemmas.List.{length-take}
use Rattle.btree.specs.declared.page.kind.Kind.{Kind}
use Rattle.btree.specs.declared.page.widths.Widths.{Widths}
use Rattle.btree.specs.Page.{behind_of, item_width}
use Rattle.btree.proofs.pages.ItemBytes.{mul-mono, narrow}

-- how far the items of a page reach, up to two places and up to the end
pub record AreWithin (w : Widths) (b from to all : ℕ) : Type 0 where
  pub front : from * (w.key + b) ≤ 4092
  pub upto : to * (w.key + b) ≤ 4092
  pub whole : all * (w.key + b) ≤ 4092
  pub rest : to * (w.key + b) ≤ all * (w.key + b)

pub are_within : (w : Widths) (kind : Kind) (b from to count all : ℕ) → b ≡ behind_of w kind → from ≤ to → to ≤ count
    → count * item_width w kind ≤ 4092 → all ≡ count → AreWithin w b from to all
are_within w kind b from to count all is order within fits same =
    let wide : w.key + b ≡ item_width w kind = ap (λ (b : ℕ). w.key + b) is in
    let last : all * (w.key + b) ≤ 4092 = subst (λ (n : ℕ). n ≤ 4092) (λ i. sym same i * sym wide i) fits in
    let more : to * (w.key + b) ≤ all * (w.key + b) = mul-mono to all (w.key + b) (omega (arith, within, same)) in
    let less : from * (w.key + b) ≤ to * (w.key + b) = mul-mono from to (w.key + b) order in
    record { front = omega (arith, less, more, last); upto = omega (arith, more, last); whole = last; rest = more }

-- what is short enough for a page fits in a word
pub word : (n : ℕ) → n ≤ 4092 → Fits w64 n
word n short = omega (arith, short)

pub head_word : (n : ℕ) → n ≤ 4092 → Fits w64 (4 + n)
head_word n short = omega (arith, short)

pub head_within : (n : ℕ) → n ≤ 4092 → 4 + n ≤ 4096
head_within n short = omega (arith, short)

pub width_word : (w : Widths) (kind : Kind) (b : ℕ) → b ≡ behind_of w kind → Fits w64 (w.key + b)
width_word w kind b is = omega (arith, narrow w kind, is)

-- a page has no more items than bytes
pub few_items : (w : Widths) (kind : Kind) (count : ℕ) → count * item_width w kind ≤ 4092 → count ≤ 4092
few_items w kind count fits = by_width (item_width w kind) (omega (arith, w.some)) fits
  where
    by_width : (width : ℕ) → 1 ≤ width → count * width ≤ 4092 → count ≤ 4092
    by_width zero some fits = absurd (omega (arith, some))
    by_width (suc n) some fits = omega (arith, fits)

-- how many items there are, with some in the place of others
pub more_word : (from count to n : ℕ) → from + count ≤ to + 1 → to ≤ n → n ≤ 4092 → Fits w64 (from + count)
more_word from count to n one_more within few = omega (arith, one_more, within, few)

pub total_word : (from count to n all : ℕ) → from + count ≤ to + 1 → to ≤ n → n ≤ 4092 → all ≡ n → Fits w64 (from + count + (all - to))
total_word from count to n all one_more within few same = omega (arith, one_more, within, few, same)

-- a key after the first bytes of a page
pub key_word : (w : Widths) → Fits w64 (4 + w.key)
key_word w = omega (arith, w.key_fits)

pub key_within : (w : Widths) → 4 + w.key ≤ 4096
key_within w = omega (arith, w.key_fits)

pub head_first : (n : ℕ) → 4 ≤ 4 + n
head_first n = omega arith

pub key_long : (w : Widths) (page : List ℕ) → length page ≡ 4096 → length (take (4 + w.key - 4) (drop 4 page)) ≡ w.key
key_long w page long = omega (arith, w.key_fits, long, length-drop 4 page, length-take (4 + w.key - 4) (drop 4 page))
