-- A text has at most one split into tokens, and `lex` finds it.
use Rattle.std.proofs.Common.{◌≡◌, ℕ, zero, suc, ◌≤◌, ◌<◌, true, false, ◌==◌, List, [], ◌∷◌, ◌++◌, length, Option, Some, None, ◌∙◌, sym, refl, ap, inl, inr, arith}
use Rattle.std.proofs.lemmas.Bool.{cases_Bool, or_cases, eqb-true, and_parts}
use Rattle.std.proofs.lemmas.List.{length-append, append-nil}
use Rattle.std.proofs.lemmas.Option.{option_and_then_some}
use Rattle.std.specs.List.{list_all}
use Rattle.rbg_text.specs.Token.{Text, Token, token_text, IsToken, is_word_byte, is_blank, sign_text, Takes, CutsLine, Gap, IsStray, Splits}
use Rattle.rbg_text.specs.Lex.{skip_from, skip, take_token, cons_tokens, lex_here, lex_from, lex}
use Rattle.rbg_text.specs.lemmas.View.{with_front}
use Rattle.rbg_text.specs.declared.token.Sign.{Sign}
use Rattle.rbg_text.specs.declared.token.Sign.TheVariants.{DoubleArrow}
use Rattle.rbg_text.proofs.Gaps.{skip-gap, gap_at}
use Rattle.rbg_text.proofs.Tokens.{takes, takes_none, takes_once, option_map_some, name_some, digits_are_word}

-- ---- a token begins with no blank and no comment

-- a byte that is not a number is not this one
off_at : (b k : ℕ) → is_word_byte k ≡ false → is_word_byte b ≡ true → b == k ≡ true → ⊥
off_at b k off on is = let same : is_word_byte k ≡ true = rw (eqb-true b k is) at on in cc

no_blank : (b : ℕ) → is_word_byte b ≡ true → is_blank b ≡ true → ⊥
no_blank b w is = elim (or_cases _ (b == 10) is) [
  | inl p ↦ elim (or_cases _ (b == 13) p) [
    | inl q ↦ elim (or_cases (b == 32) (b == 9) q) [ inl r ↦ off_at b 32 refl w r | inr r ↦ off_at b 9 refl w r ]
    | inr q ↦ off_at b 13 refl w q
  ]
  | inr p ↦ off_at b 10 refl w p
]

word_no_blank : (b : ℕ) → is_word_byte b ≡ true → is_blank b ≡ false
word_no_blank b w = elim (cases_Bool (is_blank b)) [
  | inl is ↦ absurd (no_blank b w is)
  | inr isnt ↦ isnt
]

word_no_slash : (b : ℕ) → is_word_byte b ≡ true → b == 47 ≡ false
word_no_slash b w = elim (cases_Bool (b == 47)) [
  | inl is ↦ absurd (let off : is_word_byte b ≡ false = rw (eqb-true b 47 is) refl in cc)
  | inr isnt ↦ isnt
]

skip-word : (w more : Text) → list_all is_word_byte w ≡ true → (w ≡ [] → ⊥) → skip (w ++ more) ≡ w ++ more
unfolding skip_from
skip-word [] more all some = absurd (some refl)
skip-word (b ∷ bs) more all some =
    let is = (and_parts (is_word_byte b) (list_all is_word_byte bs) all).0 in
    rw (word_no_blank b is, word_no_slash b is) refl

skip-sign : (s : Sign) (more : Text) → skip (sign_text s ++ more) ≡ sign_text s ++ more
unfolding skip_from
skip-sign DoubleArrow more = refl
skip-sign _ more = refl

skip-token : (t : Token) (more : Text) → IsToken t → skip (token_text t ++ more) ≡ token_text t ++ more
skip-token (Token.name w) more is = skip-word w more is.0 (name_some w is.1)
skip-token (Token.number w) more is = skip-word w more (digits_are_word w is.0) is.1
skip-token (Token.sign s) more is = skip-sign s more

-- a token has a byte
sign_some : (s : Sign) → 1 ≤ length (sign_text s)
sign_some DoubleArrow = omega arith
sign_some _ = omega arith

some_len : (w : Text) → (w ≡ [] → ⊥) → 1 ≤ length w
some_len [] h = absurd (h refl)
some_len (b ∷ bs) h = omega arith

token_some : (t : Token) → IsToken t → 1 ≤ length (token_text t)
token_some (Token.name w) is = some_len w (name_some w is.1)
token_some (Token.number w) is = some_len w is.1
token_some (Token.sign s) is = sign_some s

-- ---- lengths

line_len : {text rest : Text} → CutsLine text rest → length rest ≤ length text
line_len CutsLine.end = omega arith
line_len CutsLine.feed = omega arith
line_len (CutsLine.byte ne l) = omega (arith, line_len l)

gap_len : {text rest : Text} → Gap text rest → length rest ≤ length text
gap_len Gap.none = omega arith
gap_len (Gap.blank is g) = omega (arith, gap_len g)
gap_len (Gap.comment l g) = omega (arith, line_len l, gap_len g)

takes_len : (text : Text) (t : Token) (rest : Text) → Takes text t rest → length rest < length text
takes_len text t rest k = omega (arith, token_some t k.token, ap length k.written ∙ length-append (token_text t) rest)

-- ---- the function finds the split

-- what begins with a token is not skipped, and the token is taken
skip-takes : (text : Text) (t : Token) (rest : Text) → Takes text t rest → skip text ≡ text
skip-takes text t rest k = rw k.written (skip-token t rest k.token)

taken : (text : Text) (t : Token) (rest : Text) → Takes text t rest → take_token text ≡ Some (t, rest)
taken text t rest k = go (take_token text) refl
  where
    go : (o : Option (Token × Text)) → take_token text ≡ o → o ≡ Some (t, rest)
    go None e = absurd (takes_none text t rest e k.token k.written)
    go (Some (u, more)) e = let same = takes_once text u t more rest (takes text u more e) k in rw (same.0, same.1) refl

lex_step : (next : Text → Option (List Token)) (text : Text) (t : Token) (rest : Text) (ts : List Token) → Takes text t rest → next rest ≡ Some ts
    → lex_here next text ≡ Some (t ∷ ts)
lex_step next [] t rest ts k e = absurd (omega (arith, takes_len [] t rest k))
lex_step next (b ∷ bs) t rest ts k e = rw (taken (b ∷ bs) t rest k, e) refl

pub lexes : {text : Text} {ts : List Token} → Splits text ts → (n : ℕ) → length text ≤ n → lex_from n text ≡ Some ts
unfolding lex_from skip_from
lexes (Splits.end g) zero le = rw (skip-gap g) refl
lexes (Splits.end g) (suc n) le = rw (skip-gap g) refl
lexes (Splits.token {here = here} {rest = rest} {t = t} g k more) zero le = absurd (omega (arith, gap_len g, takes_len here t rest k))
lexes (Splits.token {here = here} {rest = rest} {t = t} {ts = ts} g k more) (suc n) le =
    rw (skip-gap g, skip-takes here t rest k) (lex_step (lex_from n) here t rest ts k (lexes more n (omega (arith, gap_len g, takes_len here t rest k))))

-- ---- what the function finds is a split

found_here : (next : Text → Option (List Token)) → ((rest : Text) (us : List Token) → next rest ≡ Some us → Splits rest us)
    → (text here : Text) (ts : List Token) → Gap text here → lex_here next here ≡ Some ts → Splits text ts
found_here next each text [] ts g e = let none : [] ≡ ts = cc in rw (← none) (Splits.end g)
found_here next each text (b ∷ bs) ts g e =
    option_and_then_some (λ p. cons_tokens p.0 (next p.1)) (take_token (b ∷ bs)) ts e (λ p taken rest.
    let m = option_map_some (λ us. p.0 ∷ us) (next p.1) ts rest in
    rw (← m.2) (Splits.token g (takes (b ∷ bs) p.0 p.1 taken) (each p.1 m.0 m.1)))

pub found : (n : ℕ) (text : Text) (ts : List Token) → lex_from n text ≡ Some ts → Splits text ts
unfolding lex_from
found zero text ts e = found_here (λ _. None) (λ rest us h. absurd cc) text (skip text) ts (gap_at text) e
found (suc n) text ts e = found_here (lex_from n) (λ rest us h. found n rest us h) text (skip text) ts (gap_at text) e

-- a text has at most one split into tokens
pub splits_once : {text : Text} {ts us : List Token} → Splits text ts → Splits text us → ts ≡ us
splits_once {text = text} {ts = ts} {us = us} p q =
    let same : Some ts ≡ Some us = sym (lexes p (length text) (omega arith)) ∙ lexes q (length text) (omega arith) in cc

pub lex-splits : {text : Text} {ts : List Token} → Splits text ts → lex text ≡ Some ts
unfolding lex
lex-splits {text = text} p = lexes p (length text) (omega arith)

pub splits-lex : (text : Text) (ts : List Token) → lex text ≡ Some ts → Splits text ts
unfolding lex
splits-lex text ts e = found (length text) text ts e

pub lex_none : (text : Text) → ((ts : List Token) → Splits text ts → ⊥) → lex text ≡ None
lex_none text h = go (lex text) refl
  where
    go : (o : Option (List Token)) → lex text ≡ o → o ≡ None
    go None e = refl
    go (Some ts) e = absurd (h ts (splits-lex text ts e))

-- ---- the function from token to token

pub lex_end : (text : Text) → skip text ≡ [] → lex text ≡ Some []
lex_end text e = lex-splits (Splits.end (let g = gap_at text in rw e at g))

-- the split of what follows the first token
tail_split : {text : Text} {t : Token} {rest : Text} {ts : List Token} → Takes (skip text) t rest → Splits text ts → (us : List Token)
    × (ts ≡ t ∷ us) × Splits rest us
unfolding skip_from
tail_split {text = text} {t = t} {rest = rest} k (Splits.end g) = absurd (omega (arith, takes_len (skip text) t rest k, ap length (skip-gap g)))
tail_split {text = text} {t = t} {rest = rest} k (Splits.token {here = here} {rest = more} {t = u} {ts = ts} g l s) =
    let same : here ≡ skip text = sym (skip-takes here u more l) ∙ sym (skip-gap g) in
    let once = takes_once (skip text) t u rest more k (rw same at l) in
    (ts, rw once.0 refl, rw once.1 s)

pub lex_more : (text : Text) (t : Token) (rest : Text) → take_token (skip text) ≡ Some (t, rest) → lex text ≡ cons_tokens t (lex rest)
lex_more text t rest e = go (lex rest) refl
  where
    go : (o : Option (List Token)) → lex rest ≡ o → lex text ≡ cons_tokens t o
    go None r = lex_none text (λ ts s. let m = tail_split (takes (skip text) t rest e) s in let found = lex-splits m.2 in absurd cc)
    go (Some us) r = lex-splits (Splits.token (gap_at text) (takes (skip text) t rest e) (splits-lex rest us r))

no_token : {text : Text} {ts : List Token} → (skip text ≡ [] → ⊥) → take_token (skip text) ≡ None → Splits text ts → ⊥
unfolding skip_from
no_token some e (Splits.end g) = some (skip-gap g)
no_token {text = text} some e (Splits.token {here = here} {rest = more} {t = u} g l s) =
    let same : here ≡ skip text = sym (skip-takes here u more l) ∙ sym (skip-gap g) in
    takes_none (skip text) u more e l.token (rw (← same) l.written)

pub lex_stray : (text : Text) → (skip text ≡ [] → ⊥) → take_token (skip text) ≡ None → lex text ≡ None
lex_stray text some e = lex_none text (λ ts s. no_token some e s)

-- ---- a step of the lexer, which skips to `text` first

pub step_some : (self text rest : Text) (t : Token) → text ≡ skip self → Some (t, rest) ≡ take_token text → lex self ≡ cons_tokens t (lex rest)
step_some self text rest t here e = lex_more self t rest (rw (← here) (sym e))

pub step_shorter : (self text rest : Text) (t : Token) → text ≡ skip self → Some (t, rest) ≡ take_token text → length rest < length self
step_shorter self text rest t here e = omega (arith, takes_len text t rest (takes text t rest (sym e)), gap_len (gap_at self), ap length here)

pub step_stray : (self text : Text) → text ≡ skip self → (text ≡ [] → ⊥) → None ≡ take_token text → lex self ≡ None
step_stray self text here some e = lex_stray self (rw (← here) some) (rw (← here) (sym e))

-- what a lexer takes, and where it ends or stays
pub step_takes : (self text rest : Text) (t : Token) → text ≡ skip self → Some (t, rest) ≡ take_token text → (here : Text) × Gap self here × Takes here t rest
step_takes self text rest t here e = (text, rw here (gap_at self), takes text t rest (sym e))

pub step_gap : (self text : Text) → text ≡ skip self → Gap self text
step_gap self text here = rw here (gap_at self)

pub stray_here : (text : Text) → (text ≡ [] → ⊥) → None ≡ take_token text → IsStray text
stray_here text some e = record { some = some; none = λ t rest k. let found = taken text t rest k in cc }

pub whole_split : (text : Text) (front : List Token) (more : Option (List Token)) → lex text ≡ with_front front more → more ≡ Some [] → Splits text front
whole_split text front more e none = splits-lex text front (e ∙ rw (none, append-nil) refl)

pub whole_stray : (text : Text) (front : List Token) (more : Option (List Token)) → lex text ≡ with_front front more → more ≡ None
    → (ts : List Token) → Splits text ts → ⊥
whole_stray text front more e none ts s = let found = lex-splits s in let lost : lex text ≡ None = e ∙ rw none refl in cc
