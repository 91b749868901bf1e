-- The longest token: the relation and the function agree.
use Rattle.std.proofs.Common.{◌≡◌, ◌≢◌, ℕ, ◌≤◌, Bool, true, false, ◌&&◌, cond, List, [], ◌∷◌, ◌++◌, length, take, drop, Option, Some, None, ◌∙◌, sym, refl, ap, inl, inr, ◌⊎◌, arith, one-add}
use Rattle.std.proofs.lemmas.Bool.{cases_Bool, and_parts, and_from, leb-true}
use Rattle.std.proofs.lemmas.Option.{some_pair_parts}
use Rattle.std.proofs.lemmas.Bool.Decides.{Decides-eqb}
use Rattle.std.proofs.lemmas.List.{take_at, drop_at, take-append-drop}
use Rattle.std.proofs.lemmas.List.Folds.{length-prefix_len}
use Rattle.std.proofs.lemmas.Slice.Eq.{starts_is}
use Rattle.std.specs.Prelude.{slice_index, nat_le, IsTrue, option_map}
use Rattle.std.specs.List.{prefix_len, list_all}
use Rattle.std.specs.Char.{is_ascii_digit}
use Rattle.rbg_text.specs.Token.{Text, Token, token_text, IsToken, is_word_byte, sign_text, Takes}
use Rattle.rbg_text.specs.Lex.{signs, is_at, sign_among, sign_at, word_token, word_len, after_sign, take_token}
use Rattle.rbg_text.specs.declared.token.Sign.{Sign}
use Rattle.rbg_text.specs.declared.token.Sign.TheVariants.{DoubleArrow}

-- ---- signs

-- a sign is told by its bytes
named : (s : Sign) → sign_at (sign_text s) ≡ Some s
unfolding sign_at sign_among is_at
named DoubleArrow = refl
named _ = refl

pub sign_same : (s u : Sign) → sign_text s ≡ sign_text u → s ≡ u
sign_same s u e = let p : Some s ≡ Some u = sym (named s) ∙ (ap sign_at e ∙ named u) in cc

-- no sign begins as a word does
not_word : (s : Sign) (more : Text) → is_word_byte (slice_index (sign_text s ++ more) 0) ≡ false
not_word DoubleArrow more = refl
not_word _ more = refl

begins : (text : Text) (s : Sign) → is_at text s ≡ true → text ≡ sign_text s ++ drop (length (sign_text s)) text
unfolding is_at
begins text s is = (starts_is Decides-eqb text (sign_text s) (is_at text s) refl).0 is

is_beginning : (text : Text) (s : Sign) (more : Text) → text ≡ sign_text s ++ more → is_at text s ≡ true
unfolding is_at
is_beginning text s more e = (starts_is Decides-eqb text (sign_text s) (is_at text s) refl).1 more e

-- which way a test went
pub chosen : {A : Type 0} (b : Bool) (x y z : A) → cond b x y ≡ z → ((b ≡ true) × (x ≡ z)) ⊎ ((b ≡ false) × (y ≡ z))
chosen true x y z e = inl (refl, e)
chosen false x y z e = inr (refl, e)

among_is : (table : List Sign) (text : Text) (s : Sign) → sign_among table text ≡ Some s → is_at text s ≡ true
unfolding sign_among
among_is [] text s e = absurd cc
among_is (x ∷ more) text s e = elim (chosen (is_at text x) _ _ _ e) [
  | inl p ↦ let same : x ≡ s = cc in rw same at p.0
  | inr p ↦ among_is more text s p.1
]

In : Sign → List Sign → Type 0
In u [] = ⊥
In u (s ∷ more) = (u ≡ s) ⊎ In u more

among_in : (table : List Sign) (text : Text) (s : Sign) → sign_among table text ≡ Some s → In s table
unfolding sign_among In
among_in [] text s e = absurd cc
among_in (x ∷ more) text s e = elim (chosen (is_at text x) _ _ _ e) [
  | inl p ↦ inl cc
  | inr p ↦ inr (among_in more text s p.1)
]

in_signs : (s : Sign) → In s signs
unfolding sign_at
in_signs s = among_in signs (sign_text s) s (named s)

-- each sign is at least as long as those after it
descending : List Sign → Type 0
descending [] = Unit {0}
descending (s ∷ more) = ((u : Sign) → In u more → length (sign_text u) ≤ length (sign_text s)) × descending more

all_in : (p : Sign → Bool) (table : List Sign) (u : Sign) → list_all p table ≡ true → In u table → p u ≡ true
unfolding In
all_in p [] u e i = absurd i
all_in p (x ∷ more) u e i =
    let q = and_parts (p x) (list_all p more) e in
    elim i [ inl here ↦ rw here q.0 | inr later ↦ all_in p more u q.1 later ]

descends : List Sign → Bool
descends [] = true
descends (s ∷ more) = list_all (λ u. nat_le (length (sign_text u)) (length (sign_text s))) more && descends more

descending_by : (table : List Sign) → descends table ≡ true → descending table
unfolding descends descending
descending_by [] e = tt
descending_by (x ∷ more) e =
    let q = and_parts (list_all (λ u. nat_le (length (sign_text u)) (length (sign_text x))) more) (descends more) e in
    (λ u i. leb-true _ _ (all_in (λ u. nat_le (length (sign_text u)) (length (sign_text x))) more u q.0 i), descending_by more q.1)

signs_descend : descending signs
unfolding descends
signs_descend = descending_by signs refl

among_longest : (table : List Sign) (text : Text) (s u : Sign) → descending table → sign_among table text ≡ Some s → In u table → is_at text u ≡ true
    → length (sign_text u) ≤ length (sign_text s)
unfolding sign_among In descending
among_longest [] text s u d e i at = absurd cc
among_longest (x ∷ more) text s u d e i at = elim (chosen (is_at text x) _ _ _ e) [
  | inl p ↦ let same : x ≡ s = cc in elim i [ inl here ↦ rw (here, same) (omega arith) | inr later ↦ rw (← same) (d.0 u later) ]
  | inr p ↦ elim i [ inl here ↦ absurd (let off : is_at text u ≡ false = rw here p.0 in cc) | inr later ↦ among_longest more text s u d.1 p.1 later at ]
]

among_none : (table : List Sign) (text : Text) (u : Sign) → sign_among table text ≡ None → In u table → is_at text u ≡ true → ⊥
unfolding sign_among In
among_none [] text u e i at = i
among_none (x ∷ more) text u e i at = elim (chosen (is_at text x) _ _ _ e) [
  | inl p ↦ absurd cc
  | inr p ↦ elim i [ inl here ↦ (let off : is_at text u ≡ false = rw here p.0 in cc) | inr later ↦ among_none more text u p.1 later at ]
]

-- ---- words

digit_is_word : (b : ℕ) → is_ascii_digit b ≡ true → is_word_byte b ≡ true
digit_is_word b e = rw e refl

pub digits_are_word : (w : Text) → list_all is_ascii_digit w ≡ true → list_all is_word_byte w ≡ true
digits_are_word [] e = refl
digits_are_word (b ∷ bs) e =
    let p = and_parts (is_ascii_digit b) (list_all is_ascii_digit bs) e in
    and_from (is_word_byte b) (list_all is_word_byte bs) (digit_is_word b p.0) (digits_are_word bs p.1)

run_longest : (p : ℕ → Bool) (w more : Text) → list_all p w ≡ true → length w ≤ prefix_len p (w ++ more)
run_longest p [] more e = omega arith
run_longest p (b ∷ bs) more e =
    let q = and_parts (p b) (list_all p bs) e in
    rw q.0 (omega (arith, run_longest p bs more q.1))

run_passes : (p : ℕ → Bool) (text : Text) → list_all p (take (prefix_len p text) text) ≡ true
run_passes p [] = refl
run_passes p (b ∷ bs) = elim (cases_Bool (p b)) [
  | inl is ↦ rw (is, one-add) (and_from (p b) _ is (run_passes p bs))
  | inr isnt ↦ rw isnt refl
]

word_token_text : (w : Text) → token_text (word_token w) ≡ w
word_token_text w = elim (cases_Bool (list_all is_ascii_digit w)) [ inl is ↦ rw is refl | inr isnt ↦ rw isnt refl ]

word_is_token : (w : Text) → list_all is_word_byte w ≡ true → w ≢ [] → IsToken (word_token w)
word_is_token w e some = elim (cases_Bool (list_all is_ascii_digit w)) [
  | inl is ↦ rw is (is, some)
  | inr isnt ↦ rw isnt (e, λ all. cc)
]

-- ---- the token that a text begins with

-- the length of a word or a sign at the front of a text is at most this
word_fits : (text : Text) (u : Token) (more : Text) → is_word_byte (slice_index text 0) ≡ true → IsToken u → text ≡ token_text u ++ more
    → length (token_text u) ≤ length (take (word_len text) text)
word_fits text (Token.name v) more is t e = rw (length-prefix_len is_word_byte text, e) (run_longest is_word_byte v more t.0)
word_fits text (Token.number v) more is t e = rw (length-prefix_len is_word_byte text, e) (run_longest is_word_byte v more (digits_are_word v t.0))
word_fits text (Token.sign s) more is t e = absurd (let off : is_word_byte (slice_index text 0) ≡ false = rw e (not_word s more) in cc)

some_word : (text : Text) → is_word_byte (slice_index text 0) ≡ true → take (word_len text) text ≢ []
some_word [] is e = cc
some_word (b ∷ bs) is e = let f : b ∷ take (word_len bs) bs ≡ [] = rw (is, one-add) at e in cc

takes_word : (text : Text) → is_word_byte (slice_index text 0) ≡ true → Takes text (word_token (take (word_len text) text)) (drop (word_len text) text)
takes_word text is = record {
  token = word_is_token (take (word_len text) text) (run_passes is_word_byte text) (some_word text is);
  written = rw (word_token_text (take (word_len text) text)) (sym (take-append-drop (word_len text) text));
  longest = λ u more t e. rw (word_token_text (take (word_len text) text)) (word_fits text u more is t e);
}

-- a word at the front shows
shows_word : (w more : Text) → list_all is_word_byte w ≡ true → w ≢ [] → is_word_byte (slice_index (w ++ more) 0) ≡ true
shows_word [] more all some = absurd (some refl)
shows_word (b ∷ bs) more all some = (and_parts (is_word_byte b) (list_all is_word_byte bs) all).0

-- a name is not empty
pub name_some : (w : Text) → (IsTrue (list_all is_ascii_digit w) → ⊥) → w ≢ []
name_some w h e = h (rw e refl)

sign_fits : (text : Text) (s : Sign) (u : Token) (more : Text) → is_word_byte (slice_index text 0) ≡ false → sign_at text ≡ Some s → IsToken u
    → text ≡ token_text u ++ more → length (token_text u) ≤ length (sign_text s)
unfolding sign_at
sign_fits text s (Token.name v) more isnt at t e =
    absurd (let on : is_word_byte (slice_index text 0) ≡ true = rw e (shows_word v more t.0 (name_some v t.1)) in cc)
sign_fits text s (Token.number v) more isnt at t e =
    absurd (let on : is_word_byte (slice_index text 0) ≡ true = rw e (shows_word v more (digits_are_word v t.0) t.1) in cc)
sign_fits text s (Token.sign u) more isnt at t e = among_longest signs text s u signs_descend at (in_signs u) (is_beginning text u more e)

takes_sign : (text : Text) (s : Sign) → is_word_byte (slice_index text 0) ≡ false → sign_at text ≡ Some s
    → Takes text (Token.sign s) (drop (length (sign_text s)) text)
unfolding sign_at
takes_sign text s isnt at = record {
  token = tt;
  written = begins text s (among_is signs text s at);
  longest = λ u more t e. sign_fits text s u more isnt at t e;
}

nothing_at : (text : Text) (u : Token) (more : Text) → is_word_byte (slice_index text 0) ≡ false → sign_at text ≡ None → IsToken u
    → text ≡ token_text u ++ more → ⊥
unfolding sign_at
nothing_at text (Token.name v) more isnt at t e = let on : is_word_byte (slice_index text 0) ≡ true = rw e (shows_word v more t.0 (name_some v t.1)) in cc
nothing_at text (Token.number v) more isnt at t e = let on : is_word_byte (slice_index text 0) ≡ true = rw e
    (shows_word v more (digits_are_word v t.0) t.1) in cc
nothing_at text (Token.sign u) more isnt at t e = among_none signs text u at (in_signs u) (is_beginning text u more e)

pub option_map_some : {A B : Type 0} (f : A → B) (o : Option A) (y : B) → option_map f o ≡ Some y → (x : A) × (o ≡ Some x) × (f x ≡ y)
option_map_some f None y e = absurd cc
option_map_some f (Some x) y e = (x, refl, cc)

option_map_none : {A B : Type 0} (f : A → B) (o : Option A) → option_map f o ≡ None → o ≡ None
option_map_none f None e = refl
option_map_none f (Some x) e = absurd cc

takes_one : (text : Text) (t : Token) (rest : Text) (s : Sign) → is_word_byte (slice_index text 0) ≡ false → sign_at text ≡ Some s
    → after_sign text s ≡ (t, rest) → Takes text t rest
takes_one text t rest s isnt at e =
    let a : Token.sign s ≡ t = ap (λ x. x.0) e in
    let b : drop (length (sign_text s)) text ≡ rest = ap (λ x. x.1) e in
    rw (← a, ← b) (takes_sign text s isnt at)

pub takes : (text : Text) (t : Token) (rest : Text) → take_token text ≡ Some (t, rest) → Takes text t rest
unfolding take_token
takes text t rest e = elim (chosen (is_word_byte (slice_index text 0)) _ _ _ e) [
  | inl p ↦ let q = some_pair_parts _ _ _ _ p.1 in rw (← q.0, ← q.1) (takes_word text p.0)
  | inr p ↦
      let m = option_map_some (after_sign text) (sign_at text) (t, rest) p.1 in
      takes_one text t rest m.0 p.0 m.1 m.2
]

-- a text where nothing is taken begins with no token
pub takes_none : (text : Text) (u : Token) (more : Text) → take_token text ≡ None → IsToken u → text ≡ token_text u ++ more → ⊥
unfolding take_token
takes_none text u more e t w = elim (chosen (is_word_byte (slice_index text 0)) _ _ _ e) [
  | inl p ↦ absurd cc
  | inr p ↦ nothing_at text u more p.0 (option_map_none (after_sign text) (sign_at text) p.1) t w
]

no_word_sign : (s : Sign) → list_all is_word_byte (sign_text s) ≡ false
no_word_sign DoubleArrow = refl
no_word_sign _ = refl

sign_not_word : (s : Sign) (w : Text) → list_all is_word_byte w ≡ true → sign_text s ≡ w → ⊥
sign_not_word s w all e = let off : list_all is_word_byte w ≡ false = rw (← e) (no_word_sign s) in cc

token_same : (t u : Token) → IsToken t → IsToken u → token_text t ≡ token_text u → t ≡ u
token_same (Token.name v) (Token.name w) p q e = ap (λ x. Token.name x) e
token_same (Token.name v) (Token.number w) p q e = absurd (p.1 (rw e q.0))
token_same (Token.name v) (Token.sign s) p q e = absurd (sign_not_word s v p.0 (sym e))
token_same (Token.number v) (Token.name w) p q e = absurd (q.1 (rw (← e) p.0))
token_same (Token.number v) (Token.number w) p q e = ap (λ x. Token.number x) e
token_same (Token.number v) (Token.sign s) p q e = absurd (sign_not_word s v (digits_are_word v p.0) (sym e))
token_same (Token.sign s) (Token.name w) p q e = absurd (sign_not_word s w q.0 e)
token_same (Token.sign s) (Token.number w) p q e = absurd (sign_not_word s w (digits_are_word w q.0) e)
token_same (Token.sign s) (Token.sign u) p q e = ap (λ x. Token.sign x) (sign_same s u e)

pub takes_once : (text : Text) (t u : Token) (rest more : Text) → Takes text t rest → Takes text u more → (t ≡ u) × (rest ≡ more)
takes_once text t u rest more p q =
    let same : length (token_text t) ≡ length (token_text u) = omega (arith, p.longest u more q.token q.written, q.longest t rest p.token p.written) in
    let both : token_text t ++ rest ≡ token_text u ++ more = sym p.written ∙ q.written in
    let a : token_text t ≡ token_text u = sym (take_at (token_text t) rest (length (token_text u)) same)
    ∙ (ap (λ x. take (length (token_text u)) x) both ∙ take_at (token_text u) more (length (token_text u)) refl) in
    let b : rest ≡ more = sym (drop_at (token_text t) rest (length (token_text u)) same)
    ∙ (ap (λ x. drop (length (token_text u)) x) both ∙ drop_at (token_text u) more (length (token_text u)) refl) in
    (token_same t u p.token q.token a, b)
