-- The words of a text, and numbers by their digits.
use Rattle.std.proofs.Common.{◌≡◌, ◌≢◌, ℕ, zero, suc, ◌^◌, ◌<◌, List, ◌∷◌, ◌++◌, length, get_or, Option, None, refl, ap, sym, ◌∙◌, subst, arith}
use Rattle.std.specs.Prelude.{All, MatchOption}
use Rattle.std.specs.Fmt.{decimal}
use Rattle.std.specs.Str.Parse.{IsNumeral, AllDigits, digits_value, without_leading_plus}
use Rattle.std.proofs.lemmas.Fmt.{decimal_digit, decimal_is_IsNumeral, decimal-digits_value, first_decimal}
use Rattle.std.proofs.lemmas.Str.Parse.{IsNumeralModel, numerals_by_value, tells_digits, without_leading_plus_none}
use Rattle.std.proofs.lemmas.List.{get_or_at, length-append}
use Rattle.position_pack.specs.lemmas.Spelled.{IsSplitAt, AreWords}
use Rattle.position_pack.proofs.TellLemmas.{before, lacks}

-- a text without the byte is not cut
pub not_cut : (c : ℕ) (text front back : List ℕ) → All (λ b. b ≢ c) text → text ≡ front ++ (c ∷ back) → ⊥
not_cut c text front back none is =
    none (length front) 0 (omega (arith, ap length is, length-append front (c ∷ back)))
    (ap (λ t. get_or t (length front) 0) is ∙ get_or_at front c back 0 (length front) refl)

-- where a text is cut tells its front and its back
pub cut_told : (c : ℕ) (text front back a r : List ℕ) → IsSplitAt c text front back → All (λ b. b ≢ c) a → text ≡ a ++ (c ∷ r) → (front ≡ a) × (back ≡ r)
cut_told c text front back a r cut none is =
    before c front a back r (lacks c front (λ k lt. cut.front_lacks k 0 lt)) (lacks c a (λ k lt. none k 0 lt)) (sym cut.text_is ∙ is)

-- ---- the digits of a number

-- how the digits of a number begin: with no plus, and with a zero only at zero
abbrev pub BeginsPlainly : List ℕ → Type 0
BeginsPlainly ds = (get_or ds 0 0 ≢ 43) × (get_or ds 0 0 ≡ 48 → length ds ≡ 1)

begins : (n : ℕ) → n < 2 ^ 64 → BeginsPlainly (decimal n)
begins zero lt = subst BeginsPlainly (sym (decimal_digit 0 (omega arith))) ((omega arith), λ _. refl)
begins (suc n) lt =
    let first = first_decimal (suc n) (omega arith) lt in
    ((omega (arith, first)), λ e. absurd (omega (arith, first, e)))

pub decimal_begins : (n : ℕ) (bytes : List ℕ) → n < 2 ^ 64 → bytes ≡ decimal n → BeginsPlainly bytes
decimal_begins n bytes lt is = subst BeginsPlainly (sym is) (begins n lt)

-- the number of such digits
pub value_told : (n : ℕ) (bytes : List ℕ) → n < 2 ^ 64 → bytes ≡ decimal n → digits_value 10 (without_leading_plus bytes) ≡ n
value_told n bytes lt is =
    ap (digits_value 10) (without_leading_plus_none bytes (decimal_begins n bytes lt is).0 ∙ is) ∙ (decimal_is_IsNumeral n lt).1

own : IsNumeralModel (AllDigits 10) (digits_value 10)
own = numerals_by_value (AllDigits 10) tells_digits

-- digits that begin plainly are those of their number
pub digits_told : (n : ℕ) (bytes : List ℕ) → BeginsPlainly bytes → IsNumeral 10 (without_leading_plus bytes)
    → n ≡ digits_value 10 (without_leading_plus bytes) → n < 2 ^ 64 → bytes ≡ decimal n
digits_told n bytes plain numeral is lt =
    let same = without_leading_plus_none bytes plain.0 in
    let digits : IsNumeral 10 bytes = subst (IsNumeral 10) same numeral in
    let value : n ≡ digits_value 10 bytes = is ∙ ap (digits_value 10) same in
    sym (ap decimal value ∙ decimal-digits_value own bytes digits.1 digits.0 plain.1 (omega (arith, lt, value)))

-- ---- five words

pub no_role : (text a b c d e : List ℕ) → All (λ x. x ≢ 32) text → AreWords text a b c d e → ⊥
no_role text a b c d e none are = not_cut 32 text a _ none are.text_is

pub no_place : (text f r a b c d e : List ℕ) → IsSplitAt 32 text f r → All (λ x. x ≢ 32) r → AreWords text a b c d e → ⊥
no_place text f r a b c d e first none are = not_cut 32 r b _ none (cut_told 32 text f r a _ first are.role_lacks are.text_is).1

pub no_vertex : (text f r g s a b c d e : List ℕ) → IsSplitAt 32 text f r → IsSplitAt 32 r g s → All (λ x. x ≢ 32) s → AreWords text a b c d e → ⊥
no_vertex text f r g s a b c d e first second none are =
    let place = cut_told 32 text f r a _ first are.role_lacks are.text_is in
    not_cut 32 s c _ none (cut_told 32 r g s b _ second are.place_lacks place.1).1

pub no_pieces : (text f r g s h t a b c d e : List ℕ) → IsSplitAt 32 text f r → IsSplitAt 32 r g s → IsSplitAt 32 s h t
    → All (λ x. x ≢ 32) t → AreWords text a b c d e → ⊥
no_pieces text f r g s h t a b c d e first second third none are =
    let place = cut_told 32 text f r a _ first are.role_lacks are.text_is in
    let vertex = cut_told 32 r g s b _ second are.place_lacks place.1 in
    not_cut 32 t d e none (cut_told 32 s h t c _ third are.vertex_lacks vertex.1).1

-- a function that has returned what a callee of it refused
pub refused : {X : Type 0} (P : Type 0) (Q : X → Type 0) (r : Option X) → r ≡ None → P → MatchOption r P Q
refused P Q r is p = rw is p
