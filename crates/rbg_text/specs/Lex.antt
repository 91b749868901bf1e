-- Splitting a text, as a function.
use Rattle.std.specs.Prelude.{ℕ, zero, suc, Bool, true, false, not, ◌&&◌, if◌then◌else◌, ◌==◌, nat_eq, List, [], ◌∷◌, length, take, drop}
use Rattle.std.specs.Prelude.{slice_index, Option, Some, None, is_some, unwrap_or, option_map, option_and_then}
use Rattle.std.specs.List.{prefix_len, list_all, starts_with}
use Rattle.std.specs.Char.{is_ascii_digit}
use Rattle.rbg_text.specs.Token.{Text, Token, is_word_byte, is_blank, sign_text}
use Rattle.rbg_text.specs.declared.token.Sign.{Sign}
use Rattle.rbg_text.specs.declared.token.Sign.TheVariants.{DoubleArrow, Arrow, EqualEqual, NotEqual, LessEqual, GreaterEqual, Less, Greater}
use Rattle.rbg_text.specs.declared.token.Sign.TheVariants.{Equal, Hash, Comma, Colon, OpenParen, CloseParen, OpenBracket, CloseBracket}
use Rattle.rbg_text.specs.declared.token.Sign.TheVariants.{OpenBrace, CloseBrace, Star, Plus, Minus, Dollar, Question, Exclamation}

-- whether a comment goes on after the byte b, which `next` follows, or none where b belongs to a token
abbrev pub turn : Bool → ℕ → ℕ → Option Bool
turn true b next = Some (not (b == 10))
turn false b next = if is_blank b then Some false else (if b == 47 && next == 47 then Some true else None)

-- the text after blanks and comments; `inside` says that a comment has begun
unfoldable pub skip_from : Bool → Text → Text
skip_from inside [] = []
skip_from inside (b ∷ bs) =
    let t = turn inside b (slice_index bs 0) in
    if is_some t then skip_from (unwrap_or t false) bs else b ∷ bs

abbrev pub skip : Text → Text
skip text = skip_from false text

-- the signs, longer ones first
abbrev pub signs : List Sign
signs =
    DoubleArrow ∷ Arrow ∷ EqualEqual ∷ NotEqual ∷ LessEqual ∷ GreaterEqual ∷ Less ∷ Greater ∷ Equal ∷ Hash ∷ Comma ∷ Colon
    ∷ OpenParen ∷ CloseParen ∷ OpenBracket ∷ CloseBracket ∷ OpenBrace ∷ CloseBrace ∷ Star ∷ Plus ∷ Minus ∷ Dollar ∷ Question ∷ Exclamation
    ∷ []

unfoldable pub is_at : Text → Sign → Bool
is_at text s = starts_with nat_eq text (sign_text s)

-- the first sign of a list that the text begins with
unfoldable pub sign_among : List Sign → Text → Option Sign
sign_among [] text = None
sign_among (s ∷ more) text = if is_at text s then Some s else sign_among more text

unfoldable pub sign_at : Text → Option Sign
sign_at text = sign_among signs text

abbrev pub word_token : Text → Token
word_token w = if list_all is_ascii_digit w then Token.number w else Token.name w

abbrev pub word_len : Text → ℕ
word_len text = prefix_len is_word_byte text

abbrev pub after_sign : Text → Sign → Token × Text
after_sign text s = (Token.sign s, drop (length (sign_text s)) text)

-- the token that the text begins with, and the text after it
unfoldable pub take_token : Text → Option (Token × Text)
take_token text =
    if is_word_byte (slice_index text 0) then Some (word_token (take (word_len text) text), drop (word_len text) text)
    else option_map (after_sign text) (sign_at text)

abbrev pub cons_tokens : Token → Option (List Token) → Option (List Token)
cons_tokens t ts = option_map (λ us. t ∷ us) ts

abbrev pub lex_here : (Text → Option (List Token)) → Text → Option (List Token)
lex_here next [] = Some []
lex_here next (b ∷ bs) = option_and_then (λ p. cons_tokens p.0 (next p.1)) (take_token (b ∷ bs))

-- the tokens of a text with at most n of them
unfoldable pub lex_from : ℕ → Text → Option (List Token)
lex_from zero text = lex_here (λ _. None) (skip text)
lex_from (suc n) text = lex_here (lex_from n) (skip text)

unfoldable pub lex : Text → Option (List Token)
lex text = lex_from (length text) text
