-- A sector is put into the place of its page.
use Rattle.std.proofs.Common.{◌≡◌, ℕ, ◌+◌, ◌-◌, ◌≤◌, List, ◌++◌, length, refl, sym, ap, subst, ◌∙◌}
use Rattle.std.proofs.Common.{arith, take, drop, length-append, length-drop}
use Rattle.std.proofs.lemmas.List.{take-take, drop-drop, drop-take, length-take, length-take-le, take_at}
use Rattle.std.proofs.lemmas.Slice.{take-put_mid_below, drop-put_mid, between-put_mid}
use borrow.Rule.Slice.PartMut.{put_mid}
use Rattle.file_disk.specs.Bytes.{bytes_at, LeavesOthers}

-- a part of a part
pub part_of : (bytes : List ℕ) (at count from n : ℕ) → from + n ≤ count → bytes_at (bytes_at bytes at count) from n ≡ bytes_at bytes (at + from) n
part_of bytes at count from n le =
    ap (λ (c : ℕ). take n (drop from (take c (drop at bytes)))) (split)
    ∙ ap (λ (b : List ℕ). take n b) (drop-take from (count - from) (drop at bytes))
    ∙ take-take n (count - from) (drop from (drop at bytes)) (omega arith)
    ∙ ap (λ (b : List ℕ). take n b) (drop-drop from at bytes)
  where
    split : count ≡ from + (count - from)
    split = omega arith

-- a part in front of a change
pub before_change : (old new : List ℕ) (at from n : ℕ) → take at new ≡ take at old → from + n ≤ at → bytes_at new from n ≡ bytes_at old from n
before_change old new at from n same le =
    sym (front new) ∙ ap (λ (b : List ℕ). take n (drop from b)) same ∙ front old
  where
    front : (b : List ℕ) → take n (drop from (take at b)) ≡ take n (drop from b)
    front b = part_of b 0 at from n le ∙ ap (λ (a : ℕ). take n (drop a b)) (omega arith)

-- and one after it
behind_change : (old new : List ℕ) (end from n : ℕ) → drop end new ≡ drop end old → end ≤ from → bytes_at new from n ≡ bytes_at old from n
behind_change old new end from n same le =
    ap (λ (b : List ℕ). take n b) (sym (rest new) ∙ ap (λ (b : List ℕ). drop (from - end) b) same ∙ rest old)
  where
    rest : (b : List ℕ) → drop (from - end) (drop end b) ≡ drop from b
    rest b = drop-drop (from - end) end b ∙ ap (λ (a : ℕ). drop a b) (omega arith)

-- bytes that are put over others
pub spliced : (old new from : List ℕ) (at : ℕ) → at + length from ≤ length old → length new ≡ length old
    → take at new ≡ take at old → drop (at + length from) new ≡ drop (at + length from) old → LeavesOthers at (length from) old new
spliced old new from at within long before behind = record {
  same_length = long;
  before = λ start n le. before_change old new at start n before le;
  behind = λ start n le. behind_change old new (at + length from) start n behind le;
}

-- a part that is put over another of its length
length-put_mid : (at end : ℕ) (old from : List ℕ) → end ≡ at + length from → end ≤ length old → length (put_mid at (end - at) old from) ≡ length old
length-put_mid at end old from is within =
    length-append (take at old) (from ++ drop (end - at) (drop at old))
    ∙ ap (λ (n : ℕ). length (take at old) + n) (length-append from (drop (end - at) (drop at old)))
    ∙ (omega (arith, length-take at old, length-drop (end - at) (drop at old), length-drop at old))

-- what a copy into a part of a vector leaves of it
pub put_in : (old lent copied from : List ℕ) (at end len : ℕ) → lent ≡ old → copied ≡ from → len ≡ length old → end ≡ at + length from
    → end ≤ length old
    → take len (put_mid at (end - at) lent copied ++ drop (length (put_mid at (end - at) lent copied)) old) ≡ put_mid at (end - at) old from
put_in old lent copied from at end len is_lent is_copied is_len is_end within =
    ap (λ (l : List ℕ). take len (put_mid at (end - at) l copied ++ drop (length (put_mid at (end - at) l copied)) old)) is_lent
    ∙ ap (λ (l : List ℕ). take len (put_mid at (end - at) old l ++ drop (length (put_mid at (end - at) old l)) old)) is_copied
    ∙ take_at (put_mid at (end - at) old from) _ len (long ∙ sym is_len)
  where
    long : length (put_mid at (end - at) old from) ≡ length old
    long = length-put_mid at end old from is_end within

-- and the same said of its bytes
pub put_over : (old from : List ℕ) (at end : ℕ) → end ≡ at + length from → end ≤ length old
    → LeavesOthers at (length from) old (put_mid at (end - at) old from)
put_over old from at end is_end within = spliced old (put_mid at (end - at) old from) from at (omega arith)
    (length-put_mid at end old from is_end within)
    (take-put_mid_below at (end - at) old from at (omega arith) (omega arith))
    (drop-put_mid at (end - at) old from (at + length from) (omega arith) (omega arith) (omega arith))

pub put_there : (old from : List ℕ) (at end : ℕ) → end ≡ at + length from → end ≤ length old
    → bytes_at (put_mid at (end - at) old from) at (length from) ≡ from
put_there old from at end is_end within =
    ap (λ (n : ℕ). take n (drop at (put_mid at (end - at) old from))) count ∙ between-put_mid at (end - at) old from end (omega arith) (omega arith)
  where
    count : length from ≡ end - at
    count = omega arith

-- a part that is lent, and its length
pub part_lent : (at n : ℕ) (lent old : List ℕ) → lent ≡ old → take (at + n - at) (drop at lent) ≡ bytes_at old at n
part_lent at n lent old is = ap (λ (l : List ℕ). take (at + n - at) (drop at l)) is ∙ ap (λ (m : ℕ). take m (drop at old)) (omega arith)

pub part_long : (old : List ℕ) (at n : ℕ) → at + n ≤ length old → length (bytes_at old at n) ≡ n
part_long old at n within = length-take-le n (drop at old) (omega (arith, within, length-drop at old))

-- a part of this length that was lent and changed
module _ (at count len : ℕ) (old lent from : List ℕ) (is_lent : lent ≡ old) (is_len : len ≡ length old) (long : length from ≡ count)
    (within : at + count ≤ length old) where
  abbrev put : List ℕ
  put = put_mid at (at + count - at) old from

  end : at + count ≡ at + length from
  end = omega (arith, long)

  is : take len (put_mid at (at + count - at) lent from ++ drop (length (put_mid at (at + count - at) lent from)) old) ≡ put
  is = put_in old lent from from at (at + count) len is_lent refl is_len end within

  pub changed_part : bytes_at (take len (put_mid at (at + count - at) lent from ++ drop (length (put_mid at (at + count - at) lent from)) old)) at count ≡ from
  changed_part =
      ap (λ (b : List ℕ). bytes_at b at count) is ∙ ap (λ (n : ℕ). bytes_at put at n) (sym long) ∙ put_there old from at (at + count) end within

  pub changed_others : LeavesOthers at count old
      (take len (put_mid at (at + count - at) lent from ++ drop (length (put_mid at (at + count - at) lent from)) old))
  changed_others =
      subst (λ (b : List ℕ). LeavesOthers at count old b) (sym is)
      (subst (λ (n : ℕ). LeavesOthers at n old put) long (put_over old from at (at + count) end within))
