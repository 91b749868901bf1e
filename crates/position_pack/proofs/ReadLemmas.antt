-- Fields that are read from bits.
use Rattle.std.proofs.Common.{◌≡◌, ℕ, zero, suc, ◌+◌, ◌^◌, ◌<◌, ◌≤◌, List, [], ◌∷◌, ◌++◌, length, take, drop, get_or, length-drop, replicate, refl, ap, sym, ◌∙◌, subst, append_assoc, append-nil, arith}
use Rattle.std.specs.List.{sum_by}
use Rattle.std.proofs.lemmas.List.{length-append, length-replicate, drop_more}
use Rattle.std.proofs.lemmas.List.Sums.{sum_by-cons}
use Rattle.position_pack.specs.Bits.{width, bits_of, field_bits}
use Rattle.position_pack.specs.lemmas.Bits.{AreFieldsAtMost, AreFields}
use Rattle.position_pack.proofs.OrderLemmas.{same_front}
use Rattle.position_pack.proofs.BitLemmas.{length-bits, bits_tell, bits-zero, fits_width}
use Rattle.position_pack.proofs.ByteLemmas.{all_bits, length-all_bits, low_bytes, padded, unpadded, zeros_behind}
use Rattle.position_pack.proofs.FieldLemmas.{fields_are_bits}
use Rattle.position_pack.proofs.ShiftLemmas.{power_positive}

-- the bits are those of the fields, which are within their greatest values, and then others
pub record AreBehind (greatest bits xs zs : List ℕ) : Type 0 where
  pub within : AreFieldsAtMost greatest xs
  pub bits_are : field_bits greatest xs ++ zs ≡ bits

-- one more field is put
pub field_more : (greatest fields : List ℕ) (k : ℕ) → k < length greatest → k < length fields
    → field_bits (take (k + 1) greatest) fields ≡ field_bits (take k greatest) fields ++ bits_of (width (get_or greatest k 0)) (get_or fields k 0)
field_more [] fields k lt here = absurd (omega (arith, lt))
field_more (most ∷ greatest) [] k lt here = absurd (omega (arith, here))
field_more (most ∷ greatest) (x ∷ fields) zero lt here = append-nil (bits_of (width most) x)
field_more (most ∷ greatest) (x ∷ fields) (suc k) lt here =
    let rest : field_bits (take (k + 1) greatest) fields ≡ field_bits (take k greatest) fields ++ bits_of (width (get_or greatest k 0)) (get_or fields k 0) =
    field_more greatest fields k (omega (arith, lt)) (omega (arith, here)) in
    let next : suc k + 1 ≡ suc (k + 1) = omega arith in
    ap (λ n. field_bits (take n (most ∷ greatest)) (x ∷ fields)) next ∙ ap (λ xs. bits_of (width most) x ++ xs) rest
    ∙ sym (append_assoc (bits_of (width most) x) (field_bits (take k greatest) fields) (bits_of (width (get_or greatest k 0)) (get_or fields k 0)))

-- after the last field nothing is
pub field_none : (greatest fields : List ℕ) (k : ℕ) → length fields ≤ k → field_bits (take (k + 1) greatest) fields ≡ field_bits (take k greatest) fields
field_none [] fields zero le = refl
field_none [] fields (suc k) le = let next : suc k + 1 ≡ suc (k + 1) = omega arith in ap (λ n. field_bits (take n []) fields) next
field_none (most ∷ greatest) [] zero le = refl
field_none (most ∷ greatest) [] (suc k) le = let next : suc k + 1 ≡ suc (k + 1) = omega arith in ap (λ n. field_bits (take n (most ∷ greatest)) []) next
field_none (most ∷ greatest) (x ∷ fields) zero le = absurd (omega (arith, le))
field_none (most ∷ greatest) (x ∷ fields) (suc k) le =
    let next : suc k + 1 ≡ suc (k + 1) = omega arith in
    ap (λ n. field_bits (take n (most ∷ greatest)) (x ∷ fields)) next
    ∙ ap (λ xs. bits_of (width most) x ++ xs) (field_none greatest fields k (omega (arith, le)))

pub length-field_bits : (greatest fields : List ℕ) → length (field_bits greatest fields) ≤ sum_by width greatest
length-field_bits [] fields = omega arith
length-field_bits (most ∷ greatest) [] = omega arith
length-field_bits (most ∷ greatest) (x ∷ fields) =
    let rest : length (field_bits greatest fields) ≤ sum_by width greatest = length-field_bits greatest fields in
    let one = length-append (bits_of (width most) x) (field_bits greatest fields) in
    let two = length-bits (width most) x in
    let three = sum_by-cons width most greatest in
    omega (arith, rest, one, two, three)

-- the value that was read, and then what is after it
pub next_sound : (greatest : List ℕ) (k v : ℕ) (bits rest : List ℕ) → k < length greatest → v ≤ get_or greatest k 0
    → bits ≡ bits_of (width (get_or greatest k 0)) v ++ rest
    → (ys zs : List ℕ) → AreBehind (drop (k + 1) greatest) rest ys zs → AreBehind (drop k greatest) bits (v ∷ ys) zs
next_sound greatest k v bits rest lt le is ys zs behind =
    let most = get_or greatest k 0 in
    let here : most ∷ drop (k + 1) greatest ≡ drop k greatest = sym (drop_more greatest k 0 lt) in
    subst (λ ms. AreBehind ms bits (v ∷ ys) zs) here (record {
      within = (le, behind.within);
      bits_are = append_assoc (bits_of (width most) v) (field_bits (drop (k + 1) greatest) ys) zs
          ∙ ap (λ xs. bits_of (width most) v ++ xs) behind.bits_are ∙ sym is;
    })

-- what was there is the value that was read, and after it the rest
pub record IsNext (most v : ℕ) (greatest rest ys zs : List ℕ) : Type 0 where
  pub others : List ℕ
  pub begins : ys ≡ v ∷ others
  pub le : v ≤ most
  pub behind : AreBehind greatest rest others zs

next_is : (most v : ℕ) (greatest bits rest ys zs : List ℕ) → most < 2 ^ 32 → v < 2 ^ width most → bits ≡ bits_of (width most) v ++ rest
    → AreBehind (most ∷ greatest) bits ys zs → IsNext most v greatest rest ys zs
next_is most v greatest bits rest [] zs word low is behind = absurd behind.within
next_is most v greatest bits rest (y ∷ ys) zs word low is behind =
    let fits : most < 2 ^ width most = fits_width most word in
    let room : y < 2 ^ width most = omega (arith, behind.within.0, fits) in
    let same = same_front (bits_of (width most) y) (bits_of (width most) v) (field_bits greatest ys ++ zs) rest
    (length-bits (width most) y ∙ sym (length-bits (width most) v))
    (sym (append_assoc (bits_of (width most) y) (field_bits greatest ys) zs) ∙ behind.bits_are ∙ is) in
    let value : y ≡ v = bits_tell (width most) y v room low same.0 in
    record {
      others = ys;
      begins = ap (λ x. x ∷ ys) value;
      le = omega (arith, behind.within.0, value);
      behind = record { within = behind.within.1; bits_are = same.1 };
    }

pub next_complete : (greatest : List ℕ) (k v : ℕ) (bits rest : List ℕ) → k < length greatest → get_or greatest k 0 < 2 ^ 32
    → v < 2 ^ width (get_or greatest k 0) → bits ≡ bits_of (width (get_or greatest k 0)) v ++ rest
    → (ys zs : List ℕ) → AreBehind (drop k greatest) bits ys zs → IsNext (get_or greatest k 0) v (drop (k + 1) greatest) rest ys zs
next_complete greatest k v bits rest lt word low is ys zs behind =
    next_is (get_or greatest k 0) v (drop (k + 1) greatest) bits rest ys zs word low is
    (subst (λ ms. AreBehind ms bits ys zs) (drop_more greatest k 0 lt) behind)

-- what is left to be read, by one field
pub sum_drop : (greatest : List ℕ) (k : ℕ) → k < length greatest
    → sum_by width (drop k greatest) ≡ width (get_or greatest k 0) + sum_by width (drop (k + 1) greatest)
sum_drop greatest k lt = ap (sum_by width) (drop_more greatest k 0 lt) ∙ sum_by-cons width (get_or greatest k 0) (drop (k + 1) greatest)

-- the fields of bytes, from what is after them
pub read_all : (greatest bytes fields zs : List ℕ) (z : ℕ) → ((i : ℕ) → get_or bytes i 0 < 256) → z < 8 → zs ≡ replicate z 0
    → AreBehind greatest (all_bits bytes) fields zs → AreFields greatest bytes fields
read_all greatest bytes fields zs z low few zeros behind =
    record {
      within = behind.within;
      bytes_are = unpadded bytes (field_bits greatest fields) z (low_bytes bytes low) few
          (sym behind.bits_are ∙ ap (λ xs. field_bits greatest fields ++ xs) zeros);
    }

-- what is after the fields of bytes are zeros
pub all_behind : (greatest bytes fields : List ℕ) → AreFields greatest bytes fields
    → AreBehind greatest (all_bits bytes) fields (replicate (zeros_behind (field_bits greatest fields)) 0)
all_behind greatest bytes fields are =
    record {
      within = are.within;
      bits_are = sym (padded (field_bits greatest fields) (fields_are_bits greatest fields)) ∙ ap all_bits (sym are.bytes_are);
    }

drop_none : (xs : List ℕ) (k : ℕ) → length xs ≤ k → drop k xs ≡ []
drop_none [] zero le = refl
drop_none [] (suc k) le = refl
drop_none (x ∷ xs) zero le = absurd (omega (arith, le))
drop_none (x ∷ xs) (suc k) le = drop_none xs k (omega (arith, le))

-- fewer than eight bits are left: they are held
pub left_held : (bytes : List ℕ) (next count held : ℕ) → length (bits_of count held ++ all_bits (drop next bytes)) < 8
    → bits_of count held ++ all_bits (drop next bytes) ≡ bits_of count held
left_held bytes next count held few =
    let one = length-append (bits_of count held) (all_bits (drop next bytes)) in
    let two = length-all_bits (drop next bytes) in
    let three = length-drop next bytes in
    ap (λ xs. bits_of count held ++ all_bits xs) (drop_none bytes next (omega (arith, one, two, three, few))) ∙ append-nil (bits_of count held)

none_left : (bits ys zs : List ℕ) → AreBehind [] bits ys zs → zs ≡ bits
none_left bits [] zs behind = behind.bits_are
none_left bits (y ∷ ys) zs behind = absurd behind.within

-- after the last field are zeros
pub held_zero : (greatest bits ys : List ℕ) (k count held z : ℕ) → length greatest ≤ k → held < 2 ^ count → bits ≡ bits_of count held
    → AreBehind (drop k greatest) bits ys (replicate z 0) → held ≡ 0
held_zero greatest bits ys k count held z last low is behind =
    let same : replicate z 0 ≡ bits_of count held = none_left bits ys (replicate z 0)
    (subst (λ ms. AreBehind ms bits ys (replicate z 0)) (drop_none greatest k last) behind) ∙ is in
    let many : z ≡ count = sym (length-replicate z 0) ∙ ap length same ∙ length-bits count held in
    let zeros : bits_of count held ≡ bits_of count 0 = sym same ∙ ap (λ n. replicate {A = ℕ} n 0) many ∙ sym (bits-zero count) in
    bits_tell count held 0 low (power_positive count) zeros

-- no field is left
pub none_behind : (greatest bits : List ℕ) (k : ℕ) → length greatest ≤ k → AreBehind (drop k greatest) bits [] bits
none_behind greatest bits k last = subst (λ ms. AreBehind ms bits [] bits) (sym (drop_none greatest k last)) (record { within = tt; bits_are = refl })

pub none_summed : (greatest : List ℕ) (k : ℕ) → length greatest ≤ k → sum_by width (drop k greatest) ≡ 0
none_summed greatest k last = ap (sum_by width) (drop_none greatest k last)
