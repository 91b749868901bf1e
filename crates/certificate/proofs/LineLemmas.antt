-- Bytes as lines, and where they are cut.
use Rattle.std.proofs.Common.{◌≡◌, ◌≢◌, ◌∙◌, ap, sym, refl, ℕ, ◌<◌, ◌^◌, List, [], ◌∷◌, ◌++◌, length, All, arith}
use Rattle.std.specs.Prelude.{◌==◌}
use Rattle.std.specs.Fmt.{decimal}
use Rattle.std.specs.Str.Parse.{digits_value}
use Rattle.std.proofs.lemmas.Bool.{cond-false, cond_both, ne_eqb}
use Rattle.std.proofs.lemmas.List.{nil_from_length}
use Rattle.std.proofs.lemmas.List.Elements.{All-nil, All-cons}
use Rattle.std.proofs.lemmas.Fmt.{decimal_is_IsNumeral}
use Rattle.position_pack.proofs.TellLemmas.{Lacks, lacks, before, digits_lack}
use Rattle.certificate.specs.Format.{IsOneLine, before_first, lines}

-- a line has no byte that ends one
pub no_end : (xs : List ℕ) → IsOneLine xs → Lacks 10 xs
no_end xs h = lacks 10 xs (λ k lt. h k 0 lt)

one_more : (b : ℕ) (bytes : List ℕ) → b ≢ 10 → lines (b ∷ bytes) ≡ before_first b (lines bytes)
unfolding lines
one_more b bytes other = cond-false (b == 10) ([] ∷ lines bytes) (before_first b (lines bytes)) (ne_eqb b 10 other)

pub no_lines : lines [] ≡ []
unfolding lines
no_lines = refl

-- what stands before the first byte 10 is the first line
pub lines_cut : (front back : List ℕ) → Lacks 10 front → lines (front ++ (10 ∷ back)) ≡ front ∷ lines back
unfolding lines
lines_cut [] back h = refl
lines_cut (b ∷ front) back h = one_more b (front ++ (10 ∷ back)) h.0 ∙ ap (before_first b) (lines_cut front back h.1)

-- bytes without such a byte are one line
pub lines_one : (b : ℕ) (bytes : List ℕ) → Lacks 10 (b ∷ bytes) → lines (b ∷ bytes) ≡ (b ∷ bytes) ∷ []
lines_one b [] h = one_more b [] h.0 ∙ ap (before_first b) no_lines
lines_one b (x ∷ bytes) h = one_more b (x ∷ bytes) h.0 ∙ ap (before_first b) (lines_one x bytes h.1)

some_before : (b : ℕ) (all : List (List ℕ)) → before_first b all ≡ [] → ⊥
some_before b [] e = cc
some_before b (x ∷ all) e = cc

-- bytes have a line
pub some_lines : (b : ℕ) (bytes : List ℕ) → lines (b ∷ bytes) ≡ [] → ⊥
unfolding lines
some_lines b bytes =
    cond_both (b == 10) ([] ∷ lines bytes) (before_first b (lines bytes)) (λ (all : List (List ℕ)). all ≡ [] → ⊥)
    (λ is e. cc) (λ is e. some_before b (lines bytes) e)

-- where texts are cut at the first byte that is not in the front
pub cut_first : (c : ℕ) (a b r s : List ℕ) → Lacks c a → Lacks c b → a ++ (c ∷ r) ≡ b ++ (c ∷ s) → (a ≡ b) × (r ≡ s)
cut_first = before

-- a text without the byte has it nowhere
pub gone : (c : ℕ) (d b e : List ℕ) → Lacks c d → d ≡ b ++ (c ∷ e) → ⊥
gone c [] [] e h same = cc
gone c [] (y ∷ b) e h same = cc
gone c (x ∷ d) [] e h same = h.0 (let first : x ≡ c = cc in first)
gone c (x ∷ d) (y ∷ b) e h same = gone c d b e h.1 (let rest : d ≡ b ++ (c ∷ e) = cc in rest)

-- and at the last one, which is not in the back
pub cut_last : (c : ℕ) (a b d e : List ℕ) → Lacks c d → Lacks c e → a ++ (c ∷ d) ≡ b ++ (c ∷ e) → (a ≡ b) × (d ≡ e)
cut_last c [] [] d e hd he same = (refl, cc)
cut_last c [] (y ∷ b) d e hd he same = absurd (gone c d b e hd (let rest : d ≡ b ++ (c ∷ e) = cc in rest))
cut_last c (x ∷ a) [] d e hd he same = absurd (gone c e a d he (let rest : e ≡ a ++ (c ∷ d) = cc in rest))
cut_last c (x ∷ a) (y ∷ b) d e hd he same =
    let first : x ≡ y = cc in
    let tail : a ++ (c ∷ d) ≡ b ++ (c ∷ e) = cc in
    let rest = cut_last c a b d e hd he tail in
    (rw (first, rest.0) refl, rest.1)

-- ---- numbers

pub decimal_tells : (m n : ℕ) → m < 2 ^ 32 → n < 2 ^ 32 → decimal m ≡ decimal n → m ≡ n
decimal_tells m n hm hn e = sym (decimal_is_IsNumeral m (omega arith)).1 ∙ ap (digits_value 10) e ∙ (decimal_is_IsNumeral n (omega arith)).1

pub no_end_in_digits : (n : ℕ) → n < 2 ^ 32 → Lacks 10 (decimal n)
no_end_in_digits n lt = digits_lack 10 (omega arith) n (omega arith)

pub no_blank_in_digits : (n : ℕ) → n < 2 ^ 32 → Lacks 32 (decimal n)
no_blank_in_digits n lt = digits_lack 32 (omega arith) n (omega arith)

-- ---- what is said of each byte, and one byte after another

pub all_lack : (c : ℕ) (xs : List ℕ) → Lacks c xs → All (λ b. b ≢ c) xs
all_lack c [] h = All-nil (λ b. b ≢ c)
all_lack c (x ∷ xs) h = All-cons (λ b. b ≢ c) x xs h.0 (all_lack c xs h.1)

pub each_lacks : (c : ℕ) (xs : List ℕ) → All (λ b. b ≢ c) xs → Lacks c xs
each_lacks c xs h = lacks c xs (λ k lt. h k 0 lt)

pub digits_in_line : (n : ℕ) → n < 2 ^ 32 → IsOneLine (decimal n)
digits_in_line n lt = all_lack 10 (decimal n) (no_end_in_digits n lt)

-- the last line, which the end of the bytes ends
pub last_line : (bytes rest : List ℕ) → IsOneLine bytes → 0 < length bytes → length rest ≡ 0 → lines bytes ≡ bytes ∷ lines rest
last_line [] rest h some none = absurd (omega arith)
last_line (b ∷ bytes) rest h some none =
    lines_one b bytes (no_end (b ∷ bytes) h) ∙ ap (λ (all : List (List ℕ)). (b ∷ bytes) ∷ all) (sym no_lines ∙ ap lines (sym (nil_from_length rest none)))

-- bytes that are some have a line, and none have none
pub lines_there : (bytes : List ℕ) → 0 < length bytes → lines bytes ≡ [] → ⊥
lines_there [] some = absurd (omega arith)
lines_there (b ∷ bytes) some = some_lines b bytes

pub none_there : (bytes : List ℕ) → length bytes ≡ 0 → lines bytes ≡ []
none_there bytes none = ap lines (nil_from_length bytes none) ∙ no_lines
