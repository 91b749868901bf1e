-- Where the tokens of a text stand.
use Rattle.std.proofs.Common.{◌≡◌, ℕ, zero, suc, ◌+◌, ◌-◌, ◌≤◌, List, [], ◌∷◌, ◌++◌, length, take, drop, Option, None, Some, refl, ap, sym}
use Rattle.std.proofs.Common.{subst, ◌∙◌, append_assoc, length-append, arith}
use Rattle.std.proofs.lemmas.List.{take-append-drop, drop_at, take_at, length-take-le, map-append}
use Rattle.rbg_text.specs.Token.{Text, Token, CutsLine, end, feed, byte, Gap, none, blank, comment, Takes, Splits, token_text}
use Rattle.rbg_text.specs.Lex.{cons_tokens}
use Rattle.rbg_text.specs.View.{token_view}
use Rattle.rbg_text.specs.lemmas.View.{with_front}
use Rattle.numbered_actions.specs.declared.lexemes.Lexeme.{Lexeme}
use Rattle.numbered_actions.specs.Placed.{IsLexeme, Stand}
use Rattle.numbered_actions.specs.Listed.{AreTokensFrom}
use Rattle.numbered_actions.specs.Tokens.{tokens_of}

-- a text is what stands before a part, and the part
abbrev EndsWith : Text → Text → Type 0
EndsWith text tail = (front : Text) × (text ≡ front ++ tail)

line_ends : {text after : Text} → CutsLine text after → EndsWith text after
line_ends end = ([], refl)
line_ends feed = ([], refl)
line_ends (byte {b = b} ne line) = let rest = line_ends line in (b ∷ rest.0, ap (λ t. b ∷ t) rest.1)

gap_ends : {text here : Text} → Gap text here → EndsWith text here
gap_ends none = ([], refl)
gap_ends (blank {b = b} is gap) = let rest = gap_ends gap in (b ∷ rest.0, ap (λ t. b ∷ t) rest.1)
gap_ends (comment line gap) =
    let first = line_ends line in
    let rest = gap_ends gap in
    (47 ∷ 47 ∷ (first.0 ++ rest.0), ap (λ t. 47 ∷ 47 ∷ t) (first.1 ∙ ap (λ t. first.0 ++ t) rest.1 ∙ sym (append_assoc first.0 rest.0 _)))

front_more : (ts : List Token) (t : Token) (more : Option (List Token)) → with_front ts (cons_tokens t more) ≡ with_front (ts ++ t ∷ []) more
front_more ts t None = refl
front_more ts t (Some us) = ap Some (sym (append_assoc ts (t ∷ []) us))

-- where the next token stands, if the lexer has come to the byte `last`, from where on the text is `old`
pub record Stands (text old : Text) (last next : ℕ) (t : Token) (new : Text) : Type 0 where
  pub room : last + length (token_text t) ≤ next
  pub within : next ≤ length text
  pub between : Gap old (drop (next - length (token_text t)) text)
  pub takes : Takes (drop (next - length (token_text t)) text) t new
  pub bytes_are : take (length (token_text t)) (drop (next - length (token_text t)) text) ≡ token_text t
  pub gap_is : old ≡ take ((next - length (token_text t)) - last) (drop last text) ++ drop (next - length (token_text t)) text
  pub left : drop next text ≡ new
  pub so_far : next + length new ≡ length text

pub stands : (text old here new : Text) (last next : ℕ) (t : Token) → drop last text ≡ old → last + length old ≡ length text → Gap old here → Takes here t new
    → next ≡ length text - length new → Stands text old last next t new
stands text old here new last next t at_last size gap takes is =
    let before = gap_ends gap in
    let word = token_text t in
    let front = take last text ++ before.0 in
    let whole : text ≡ front ++ here =
    sym (take-append-drop last text) ∙ ap (λ s. take last text ++ s) (at_last ∙ before.1) ∙ sym (append_assoc (take last text) before.0 here) in
    let whole_new : text ≡ (front ++ word) ++ new = whole ∙ ap (λ s. front ++ s) takes.written ∙ sym (append_assoc front word new) in
    let long_old : length old ≡ length before.0 + length here = ap length before.1 ∙ length-append before.0 here in
    let long_here : length here ≡ length word + length new = ap length takes.written ∙ length-append word new in
    let long_text : length text ≡ length front + length here = ap length whole ∙ length-append front here in
    let at_here : length front ≡ next - length word = omega (arith, long_text, long_here, is) in
    let at_new : length (front ++ word) ≡ next = omega (arith, length-append front word, long_text, long_here, is) in
    let here_is : drop (next - length word) text ≡ here =
    subst (λ s. drop (next - length word) s ≡ here) (sym whole) (drop_at front here (next - length word) at_here) in
    let gap_long : length before.0 ≡ (next - length word) - last =
    omega (arith, at_here, length-append (take last text) before.0, length-take-le last text (omega (arith, size))) in
    record {
      room = omega (arith, size, long_old, long_here, is);
      within = omega (arith, is);
      between = subst (Gap old) (sym here_is) gap;
      takes = subst (λ s. Takes s t new) (sym here_is) takes;
      bytes_are = ap (λ s. take (length word) s) (here_is ∙ takes.written) ∙ take_at word new (length word) refl;
      gap_is = before.1 ∙ ap (λ s. before.0 ++ s) (sym here_is)
          ∙ ap (λ s. s ++ drop (next - length word) text)
          (sym (ap (λ s. take ((next - length word) - last) s) (at_last ∙ before.1) ∙ take_at before.0 here ((next - length word) - last) gap_long));
      left = subst (λ s. drop next s ≡ new) (sym whole_new) (drop_at (front ++ word) new next at_new);
      so_far = omega (arith, size, long_old, long_here, is);
    }

-- a token that is put after the others
pub one_more_placed : (text old new : Text) (found longer : List Lexeme) (l : Lexeme) (last next : ℕ) (t : Token)
    → ((more : List Lexeme) → Stand text more old → Stand text (found ++ more) text) → Stands text old last next t new → token_view l.token ≡ t
    → l.at ≡ next - length (token_text t) → l.bytes.now ≡ take (length (token_text t)) (drop l.at text) → l.gap.now ≡ take (l.at - last) (drop last text)
    → longer ≡ found ++ l ∷ [] → (more : List Lexeme) → Stand text more new → Stand text (longer ++ more) text
one_more_placed text old new found longer l last next t before there token at bytes gap more_found more stand =
    let begins : drop (next - length (token_text t)) text ≡ drop l.at text = ap (λ n. drop n text) (sym at) in
    let placed : IsLexeme text l old new = record {
      between = subst (Gap old) begins there.between;
      takes = subst (λ u. Takes (drop l.at text) u new) (sym token) (subst (λ s. Takes s t new) begins there.takes);
      bytes_are = bytes ∙ ap (λ s. take (length (token_text t)) s) (sym begins) ∙ there.bytes_are ∙ ap token_text (sym token);
      gap_is = there.gap_is ∙ ap (λ s. s ++ drop (next - length (token_text t)) text) (sym (gap ∙ ap (λ n. take (n - last) (drop last text)) at))
          ∙ ap (λ s. l.gap.now ++ s) begins;
    } in
    subst (λ ls. Stand text ls text) (sym (ap (λ ls. ls ++ more) more_found ∙ append_assoc found (l ∷ []) more)) (before (l ∷ more) (new, placed, stand))

pub stand_splits : (text : Text) (ls : List Lexeme) (tail : Text) → Stand text ls tail → Splits tail (tokens_of ls)
stand_splits text [] tail gap = Splits.end gap
stand_splits text (l ∷ more) tail stand = Splits.token stand.1.between stand.1.takes (stand_splits text more stand.0 stand.2)

-- the tokens from one on stand too
pub stand_drop : (text : Text) (ls : List Lexeme) (tail : Text) (k : ℕ) → Stand text ls tail → (rest : Text) × Stand text (drop k ls) rest
stand_drop text ls tail zero stand = (tail, stand)
stand_drop text [] tail (suc k) stand = (tail, stand)
stand_drop text (l ∷ more) tail (suc k) stand = stand_drop text more stand.0 k stand.2

pub stand_begins : (text : Text) (l : Lexeme) (more : List Lexeme) (tail : Text) → Stand text (l ∷ more) tail
    → AreTokensFrom (drop l.at text) (tokens_of (l ∷ more))
stand_begins text l more tail stand = (stand.0, stand.1.takes, stand_splits text more stand.0 stand.2)

-- a token more that was lexed
pub lexed_more : (found longer : List Lexeme) (l : Lexeme) (t : Token) (whole old new : Option (List Token)) → whole ≡ with_front (tokens_of found) old
    → old ≡ cons_tokens t new → longer ≡ found ++ l ∷ [] → token_view l.token ≡ t → whole ≡ with_front (tokens_of longer) new
lexed_more found longer l t whole old new before step more token =
    let tokens : tokens_of longer ≡ tokens_of found ++ t ∷ [] =
    ap tokens_of more ∙ map-append (λ (m : Lexeme). token_view m.token) found (l ∷ []) ∙ ap (λ u. tokens_of found ++ u ∷ []) token in
    before ∙ ap (with_front (tokens_of found)) step ∙ front_more (tokens_of found) t new ∙ ap (λ ts. with_front ts new) (sym tokens)
