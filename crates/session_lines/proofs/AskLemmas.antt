-- What a line asks for.
use Rattle.std.proofs.Common.{◌≡◌, ◌≢◌, ◌<◌, ◌≤◌, ◌+◌, ◌-◌, inl, inr, ℕ, List, [], ◌∷◌, ◌++◌, length, get_or, take, drop, refl, ap, sym, ◌∙◌, subst, append_assoc, append-nil, arith}
use Rattle.std.specs.Prelude.{codes}
use Rattle.std.proofs.lemmas.List.{get_or-take, get_or-drop, get_or_default, length-take-le, length-drop, take_all, take-append-drop}
use Rattle.session_lines.specs.declared.input.Asked.{Asked}
use Rattle.session_lines.specs.declared.input.Asked.TheVariants.{Nothing, Usage}
use Rattle.session_lines.specs.Asked.{EndsWord, IsBlank, BeginsWith, SayWords, AsksInWords}
use Rattle.session_lines.specs.lemmas.Words.{IsFirstWord, IsTrimmed, IsSplit, SaysBehind, many, few}

-- ---- words of a line

plus_zero : (n : ℕ) → n ≡ n + 0
plus_zero n = omega arith

begins_not : (rest : List ℕ) → (get_or rest 0 0 ≡ 32 → ⊥) → rest ≢ [] → ¬ EndsWord rest
begins_not [] other some = λ _. some refl
begins_not (b ∷ bs) other some = other

trimmed : (line : List ℕ) (n : ℕ) → n < length line → ((k : ℕ) → k < n → get_or line k 0 ≡ 32) → (get_or line n 0 ≡ 32 → ⊥) → IsTrimmed line (drop n line)
trimmed line n lt spaces other = record {
  blanks = take n line;
  blank = λ k d is.
      let within : k < n = omega (arith, is, length-take-le n line (omega (arith, lt))) in
      get_or-take n line k d within ∙ get_or_default line k d 0 (omega (arith, within, lt)) ∙ spaces k within;
  line_is = sym (take-append-drop n line);
  begins = begins_not (drop n line) (λ e. other (ap (λ m. get_or line m 0) (plus_zero n) ∙ sym (get_or-drop n line 0 0) ∙ e));
}

-- the spaces up to the first other byte
pub trimmed_at : (line : List ℕ) (n : ℕ) → n < length line → ((k : ℕ) → k < n → get_or line k 0 ≡ 32) → (get_or line n 0 ≡ 32 → ⊥)
    → IsTrimmed line (take (length line - n) (drop n line))
trimmed_at line n lt spaces other =
    subst (IsTrimmed line) (sym (take_all (length line - n) (drop n line) (omega (arith, length-drop n line)))) (trimmed line n lt spaces other)

-- spaces up to the end
pub all_spaces : (line : List ℕ) (n : ℕ) → length line ≤ n → ((k : ℕ) → k < n → get_or line k 0 ≡ 32) → IsTrimmed line []
all_spaces line n le spaces = record {
  blanks = line;
  blank = λ k d is. get_or_default line k d 0 is ∙ spaces k (omega (arith, is, le));
  line_is = sym (append-nil line);
  begins = λ some. absurd (some refl);
}

pub nothing : (xs : List ℕ) → length xs ≡ 0 → xs ≡ []
nothing [] e = refl
nothing (x ∷ xs) e = absurd (omega (arith, e))

-- a list with a first element, and the rest
pub begins_with_space : (xs : List ℕ) → 1 ≤ length xs → get_or xs 0 0 ≡ 32 → xs ≡ 32 ∷ take (length xs - 1) (drop 1 xs)
begins_with_space [] some is = absurd (omega (arith, some))
begins_with_space (x ∷ xs) some is = ap (λ h. h ∷ xs) is ∙ ap (λ t. 32 ∷ t) (sym (take_all (length (x ∷ xs) - 1) xs (omega arith)))

-- what is trimmed and then split gives its first word
pub first_word : (line trimmed word rest : List ℕ) → IsTrimmed line trimmed → IsSplit trimmed word rest → IsFirstWord line word rest
first_word line [] [] [] t s = inr (refl, refl, subst IsBlank (sym (t.line_is ∙ append-nil t.blanks)) t.blank)
first_word line [] [] (x ∷ xs) t s = absurd (omega (arith, ap length s.line_is))
first_word line [] (x ∷ xs) rest t s = absurd (omega (arith, ap length s.line_is))
first_word line (b ∷ bs) [] rest t s =
    absurd (t.begins (λ e. absurd (omega (arith, ap length e))) (subst EndsWord (sym s.line_is) s.ends))
first_word line (b ∷ bs) (x ∷ xs) rest t s = inl (record {
  blanks = t.blanks;
  blank = t.blank;
  line_is = t.line_is ∙ ap (λ r. t.blanks ++ r) s.line_is ∙ sym (append_assoc t.blanks (x ∷ xs) rest);
  some = λ e. absurd (omega (arith, ap length e));
  solid = s.solid;
  ends = s.ends;
})

begins : (line word rest : List ℕ) → IsFirstWord line word rest → word ≢ [] → BeginsWith line word rest
begins line word rest (inl it) some = it
begins line word rest (inr it) some = absurd (some it.0)

blank : (line word rest : List ℕ) → IsFirstWord line word rest → word ≡ [] → IsBlank line
blank line word rest (inl it) none = absurd (it.some none)
blank line word rest (inr it) none = it.2

module _ (first line a b c ra rb rc : List ℕ) (asked : Asked) where
  pub one_word : IsFirstWord line a ra → a ≡ [] → SayWords (first ∷ []) asked → SaysBehind first line asked
  one_word is none say = few [] asked (line, refl, blank line a ra is none) (omega arith) say

  pub two_words : IsFirstWord line a ra → a ≢ [] → IsFirstWord ra b rb → b ≡ [] → SayWords (first ∷ a ∷ []) asked → SaysBehind first line asked
  two_words is some then none say =
      few (a ∷ []) asked (ra, (ra, begins line a ra is some, refl), blank ra b rb then none) (omega arith) say

  pub three_words : IsFirstWord line a ra → a ≢ [] → IsFirstWord ra b rb → b ≢ [] → IsFirstWord rb c rc → c ≡ []
      → SayWords (first ∷ a ∷ b ∷ []) asked → SaysBehind first line asked
  three_words is some then more last none say =
      few (a ∷ b ∷ []) asked (rb, (ra, begins line a ra is some, (rb, begins ra b rb then more, refl)), blank rb c rc last none) (omega arith) say

  pub four_words : IsFirstWord line a ra → a ≢ [] → IsFirstWord ra b rb → b ≢ [] → IsFirstWord rb c rc → c ≢ [] → SaysBehind first line Usage
  four_words is some then more last there =
      many (a ∷ b ∷ c ∷ []) rc (ra, begins line a ra is some, (rb, begins ra b rb then more, (rc, begins rb c rc last there, refl))) refl

-- what the words of a line ask for, the first of which is neither `find` nor `value-of`
pub in_words : (line first rest : List ℕ) (asked : Asked) → IsFirstWord line first rest → first ≢ [] → first ≢ codes "find" → first ≢ codes "value-of"
    → SaysBehind first rest asked → AsksInWords line asked
in_words line first rest Usage is some find value (many words left starts long) =
    AsksInWords.many (first ∷ words) left (rest, begins line first rest is some, starts) (omega (arith, long)) (find, value)
in_words line first rest asked is some find value (few words _ are short say) =
    AsksInWords.few (first ∷ words) asked (are.0, (rest, begins line first rest is some, are.1), are.2) (omega (arith, short)) (find, value) say

-- a blank line asks for nothing
pub no_words : (line word rest : List ℕ) → IsFirstWord line word rest → word ≡ [] → AsksInWords line Nothing
no_words line word rest is none = AsksInWords.few [] Nothing (line, refl, blank line word rest is none) (omega arith) tt refl

-- the first word is this one, and this is after it
pub word_is : (line first rest word behind : List ℕ) → IsFirstWord line first rest → first ≡ word → rest ≡ behind → word ≢ [] → BeginsWith line word behind
word_is line first rest word behind (inl it) same is some = subst (BeginsWith line word) is (subst (λ w. BeginsWith line w rest) same it)
word_is line first rest word behind (inr it) same is some = absurd (some (sym same ∙ it.0))

-- the first word is `find`, or `value-of`, and this is after it
pub finds : (line first rest behind : List ℕ) → IsFirstWord line first rest → first ≡ codes "find" → rest ≡ behind → BeginsWith line (codes "find") behind
finds line first rest behind is same behind_is =
    word_is line first rest (codes "find") behind is same behind_is (λ none. absurd (omega (arith, ap length none)))

pub values : (line first rest behind : List ℕ) → IsFirstWord line first rest → first ≡ codes "value-of" → rest ≡ behind
    → BeginsWith line (codes "value-of") behind
values line first rest behind is same behind_is =
    word_is line first rest (codes "value-of") behind is same behind_is (λ none. absurd (omega (arith, ap length none)))

-- what ends a word and does not begin with a space is nothing
pub ends_with_nothing : (line first rest : List ℕ) → IsFirstWord line first rest → ((b : ℕ) (bs : List ℕ) → rest ≡ b ∷ bs → b ≢ 32) → rest ≡ []
ends_with_nothing line first [] (inl it) other = refl
ends_with_nothing line first (b ∷ bs) (inl it) other = absurd (other b bs refl it.ends)
ends_with_nothing line first rest (inr it) other = it.1
