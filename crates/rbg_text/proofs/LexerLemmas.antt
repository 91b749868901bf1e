-- A turn of the lexer's loops.
use Rattle.std.proofs.Common.{◌≡◌, ℕ, ◌+◌, ◌<◌, ◌≤◌, Bool, false, cond, List, [], length, get_or, drop, Some, None, ◌∙◌, ap, add-zero}
use Rattle.std.proofs.lemmas.List.{at_drop_more, at_drop_all, get_or-drop, drop_more}
use Rattle.std.specs.Prelude.{slice_index, is_some, unwrap_or}
use Rattle.rbg_text.specs.Token.{Text}
use Rattle.rbg_text.specs.Lex.{is_at, sign_among, turn, skip_from}
use Rattle.rbg_text.specs.declared.token.Sign.{Sign}

pub sign_among-drop : (signs : List Sign) (text : Text) (i : ℕ) (d : Sign) → i < length signs
    → sign_among (drop i signs) text ≡ cond (is_at text (get_or signs i d)) (Some (get_or signs i d)) (sign_among (drop (i + 1) signs) text)
unfolding sign_among
sign_among-drop signs text i d h = at_drop_more (λ xs. sign_among xs text) signs i d h

pub sign_among-end : (signs : List Sign) (text : Text) (i : ℕ) → length signs ≤ i → sign_among (drop i signs) text ≡ None
unfolding sign_among
sign_among-end signs text i h = at_drop_all (λ xs. sign_among xs text) signs i h

first-drop : (n : ℕ) (text : Text) → slice_index (drop n text) 0 ≡ get_or text n 0
first-drop n text = get_or-drop n text 0 0 ∙ ap (λ k. get_or text k 0) (add-zero n)

pub skip_from-drop : (inside : Bool) (text : Text) (i : ℕ) → i < length text
    → let t = turn inside (get_or text i 0) (get_or text (i + 1) 0) in
    skip_from inside (drop i text) ≡ cond (is_some t) (skip_from (unwrap_or t false) (drop (i + 1) text)) (drop i text)
unfolding skip_from
skip_from-drop inside text i h = rw (drop_more text i 0 h, first-drop)

pub skip_end : (inside : Bool) (text : Text) (i : ℕ) → length text ≤ i → skip_from inside (drop i text) ≡ []
unfolding skip_from
skip_end inside text i h = at_drop_all (λ xs. skip_from inside xs) text i h
