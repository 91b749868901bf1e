-- The lines of actions, one after the other.
use Rattle.std.proofs.Common.{◌≡◌, ℕ, zero, suc, ◌+◌, ◌-◌, ◌<◌, ◌≤◌, List, [], ◌∷◌, ◌++◌, length, take, drop, map, get_or, Some, Result, Ok}
use Rattle.std.proofs.Common.{Err, refl, ap, sym, subst, ◌∙◌, append_assoc, append-nil, add-one, arith}
use Rattle.std.specs.Prelude.{All, IfOk, slice_get}
use Rattle.std.specs.List.{flat_map}
use Rattle.std.proofs.lemmas.List.{length-map, length-drop, take-map, drop_more}
use Rattle.rbg_text.specs.Token.{Text}
use Rattle.rbg_text.specs.View.{token_view}
use Rattle.numbered_actions.specs.declared.lexemes.Lexeme.{Lexeme}
use Rattle.numbered_actions.specs.declared.stretches.Stretch.{Stretch}
use Rattle.numbered_actions.specs.Written.{Spot, Cut, cut_at}
use Rattle.numbered_actions.specs.Placed.{Stand}
use Rattle.numbered_actions.specs.Tokens.{tokens_of, tokens_from, cut_of}
use Rattle.numbered_actions.specs.Listed.{AreTokensFrom, ShowsTokens, last, further, one_line, IsActionLine, AreActionLines}
use Rattle.numbered_actions.specs.lemmas.Lines.{with_gap, line_of, IsLineOfStretch}
use Rattle.numbered_actions.proofs.TokenPlaces.{stand_drop, stand_begins}
use Rattle.numbered_actions.proofs.FoundStretches.{each_begins, each_fits}

-- one line more
pub one_more_action : (text : Text) (cuts : List Cut) (k number : ℕ) (lines line : List ℕ) (cut : Cut) → slice_get cuts k ≡ Some cut
    → AreActionLines text (take k cuts) number lines → IsActionLine text cut (number + k) line → AreActionLines text (take (k + 1) cuts) number (lines ++ line)
one_more_action text [] k number lines line cut at are is = absurd (cc)
one_more_action text (c ∷ cuts) zero number lines line cut at are is =
    let same : c ≡ cut = cc in
    let first : number + 0 ≡ number = omega arith in
    let here = subst (λ x. IsActionLine text x number line) (sym same) (subst (λ n. IsActionLine text cut n line) first is) in
    (line, [], ap (λ w. w ++ line) are ∙ sym (append-nil line), here, refl)
one_more_action text (c ∷ cuts) (suc k) number lines line cut at are is =
    let next : number + suc k ≡ number + 1 + k = omega arith in
    let rest = one_more_action text cuts k (number + 1) are.1 line cut at are.4 (subst (λ n. IsActionLine text cut n line) next is) in
    let more = rw add-one at rest in
    rw add-one (are.0, are.1 ++ line, ap (λ w. w ++ line) are.2 ∙ append_assoc are.0 are.1 line, are.3, more)

-- tokens as they stand in the text, in one line
shown : (text : Text) (l : Lexeme) (more : List Lexeme) (tail : Text) (n : ℕ) → Stand text (l ∷ more) tail
    → ShowsTokens (drop l.at text) (token_view l.token ∷ tokens_of (take n more)) (l.bytes.now ++ flat_map with_gap (take n more))
shown text l more tail zero stand =
    subst (ShowsTokens (drop l.at text) (token_view l.token ∷ [])) (sym (append-nil l.bytes.now ∙ stand.1.bytes_are)) (last stand.1.takes)
shown text l [] tail (suc n) stand =
    subst (ShowsTokens (drop l.at text) (token_view l.token ∷ [])) (sym (append-nil l.bytes.now ∙ stand.1.bytes_are)) (last stand.1.takes)
shown text l (m ∷ more) tail (suc n) stand =
    let behind = flat_map with_gap (take n more) in
    let next = shown text m more stand.0 n stand.2 in
    let line = further m.gap.now stand.1.takes stand.2.1.between stand.2.1.gap_is next in
    subst (ShowsTokens (drop l.at text) (token_view l.token ∷ token_view m.token ∷ tokens_of (take n more)))
    (ap (λ w. w ++ (one_line m.gap.now ++ (m.bytes.now ++ behind))) (sym stand.1.bytes_are)
    ∙ ap (λ w. l.bytes.now ++ w) (sym (append_assoc (one_line m.gap.now) m.bytes.now behind)))
    line

-- a stretch cuts off its tokens
cut_off : (tokens : List Lexeme) (s : Stretch) (l : Lexeme) → drop s.from tokens ≡ l ∷ drop (s.from + 1) tokens → s.from < s.to → s.to ≤ length tokens
    → let cut = cut_of tokens s in
    take (length cut.here - length cut.behind) cut.here ≡ token_view l.token ∷ tokens_of (take (s.to - (s.from + 1)) (drop (s.from + 1) tokens))
cut_off tokens s l here begins fits =
    let view = λ (m : Lexeme). token_view m.token in
    let n = s.to - (s.from + 1) in
    let long_here : length (tokens_from tokens s.from) ≡ length tokens - s.from = length-map (drop s.from tokens) view ∙ length-drop s.from tokens in
    let long_behind : length (tokens_from tokens s.to) ≡ length tokens - s.to = length-map (drop s.to tokens) view ∙ length-drop s.to tokens in
    let so_many : length (tokens_from tokens s.from) - length (tokens_from tokens s.to) ≡ suc n = omega (arith, long_here, long_behind, begins, fits) in
    ap (λ k. take k (tokens_from tokens s.from)) so_many ∙ ap (λ ls. take (suc n) (tokens_of ls)) here
    ∙ ap (λ ts. token_view l.token ∷ ts) (take-map view n (drop (s.from + 1) tokens))

-- the line of an action
action_line : (text : Text) (tokens : List Lexeme) (s : Stretch) (l : Lexeme) (number : ℕ) → Stand text tokens text → l ≡ get_or tokens s.from l
    → s.from < s.to → s.from < length tokens → s.to ≤ length tokens
    → IsActionLine text (cut_of tokens s) number (line_of text number l (take (s.to - (s.from + 1)) (drop (s.from + 1) tokens)))
action_line text tokens s l number stand at begins within fits =
    let more = drop (s.from + 1) tokens in
    let n = s.to - (s.from + 1) in
    let here : drop s.from tokens ≡ l ∷ more = drop_more tokens s.from l within ∙ ap (λ (m : Lexeme). m ∷ more) (sym at) in
    let there = stand_drop text tokens text s.from stand in
    let placed : Stand text (l ∷ more) there.0 = subst (λ ls. Stand text ls there.0) here there.1 in
    record {
      at = l.at;
      begins = subst (λ ls. AreTokensFrom (drop l.at text) (tokens_of ls)) (sym here) (stand_begins text l more there.0 placed);
      shown = l.bytes.now ++ flat_map with_gap (take n more);
      shows = subst (λ ts. ShowsTokens (drop l.at text) ts (l.bytes.now ++ flat_map with_gap (take n more))) (sym (cut_off tokens s l here begins fits))
          (shown text l more there.0 n placed);
      written = refl;
    }

got : {A B : Type 0} (f : A → B) (xs : List A) (k : ℕ) (x : A) → x ≡ get_or xs k x → k < length xs → slice_get (map f xs) k ≡ Some (f x)
got f [] k x at lt = absurd (omega (arith, lt))
got f (y ∷ xs) zero x at lt = ap (λ z. Some (f z)) (sym at)
got f (y ∷ xs) (suc k) x at lt = got f xs k x at (omega (arith, lt))

-- the line of the action at an index after the others
pub one_line_more : (text : Text) (tokens : List Lexeme) (actions : List Stretch) (spots : List Spot) (i : ℕ) (lines longer : List ℕ) (s : Stretch)
    → Stand text tokens text → map (cut_of tokens) actions ≡ map cut_at spots → All (λ stretch. stretch.to ≤ length tokens) actions
    → s ≡ get_or actions i s → i < length actions → AreActionLines text (take i (map (cut_of tokens) actions)) 1 lines
    → (line : List ℕ) × IsLineOfStretch text tokens s (i + 1) line × (longer ≡ lines ++ line)
    → AreActionLines text (take (i + 1) (map (cut_of tokens) actions)) 1 longer
one_line_more text tokens actions spots i lines longer s stand cuts fits at lt before (line, is_line, more) =
    let next : i + 1 ≡ 1 + i = omega arith in
    let begins = each_begins tokens actions spots cuts i s lt at in
    let to_fits = each_fits tokens actions fits i s lt at in
    let of_tokens = action_line text tokens s is_line.0 (i + 1) stand is_line.1 begins.0 begins.1 to_fits in
    let is = subst (IsActionLine text (cut_of tokens s) (i + 1)) (sym is_line.2) of_tokens in
    subst (λ w. AreActionLines text (take (i + 1) (map (cut_of tokens) actions)) 1 w) (sym more)
    (one_more_action text (map (cut_of tokens) actions) i 1 lines line (cut_of tokens s) (got (cut_of tokens) actions i s at lt) before
    (subst (λ n. IsActionLine text (cut_of tokens s) n line) next is))

-- a line that was put together
pub line_put : (old a b c d head bytes rest : List ℕ) → a ≡ old ++ head → b ≡ a ++ bytes → c ≡ b ++ rest → d ≡ c ++ 10 ∷ []
    → d ≡ old ++ (head ++ ((bytes ++ rest) ++ 10 ∷ []))
line_put old a b c d head bytes rest p q r s =
    s ∙ ap (λ w. w ++ 10 ∷ []) (r ∙ ap (λ w. w ++ rest) (q ∙ ap (λ w. w ++ bytes) p)) ∙ simp append_assoc

pub then_ok : {X E : Type 0} {P Q : Type 0} (r : Result X E) → (P → Q) → IfOk r (λ _. P) → IfOk r (λ _. Q)
then_ok (Ok x) f h = f h
then_ok (Err e) f h = tt

pub map_ok : {X E : Type 0} {P Q : X → Type 0} (r : Result X E) → ((x : X) → P x → Q x) → IfOk r P → IfOk r Q
map_ok (Ok x) f h = f x h
map_ok (Err e) f h = tt
