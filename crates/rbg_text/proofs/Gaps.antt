-- Blanks and comments: the relation and the function agree.
use Rattle.std.proofs.Common.{◌≡◌, ◌≢◌, ℕ, true, false, ◌&&◌, ◌==◌, [], ◌∷◌, ◌∙◌, refl, inl, inr}
use Rattle.std.proofs.lemmas.Bool.{cases_Bool, ne_eqb, eqb-true, eqb-false, and_parts, and_right}
use Rattle.rbg_text.specs.Token.{Text, is_blank, CutsLine, Gap, end, feed, byte, none, blank, comment}
use Rattle.rbg_text.specs.Lex.{skip_from, skip}

line_skip : {text after : Text} → CutsLine text after → skip_from true text ≡ skip_from false after
unfolding skip_from
line_skip end = refl
line_skip feed = refl
line_skip (byte {b = b} ne l) = rw (ne_eqb b 10 ne) (line_skip l)

-- a gap is skipped
pub skip-gap : {text rest : Text} → Gap text rest → skip text ≡ skip rest
unfolding skip_from
skip-gap none = refl
skip-gap (blank is g) = rw is (skip-gap g)
skip-gap (comment l g) = line_skip l ∙ skip-gap g

-- the rest of a comment, and what is skipped after it
Commented : Text → Type 0
Commented text = (after : Text) × CutsLine text after × Gap after (skip_from true text)

line_on : (b : ℕ) (bs : Text) → b ≢ 10 → Commented bs → Commented (b ∷ bs)
unfolding Commented skip_from
line_on b bs ne c = (c.0, byte ne c.1, rw (ne_eqb b 10 ne) c.2)

commented_end : Commented []
unfolding Commented skip_from
commented_end = ([], end, none)

line_ended : (b : ℕ) (bs : Text) → b ≡ 10 → Gap bs (skip bs) → Commented (b ∷ bs)
unfolding Commented skip_from
line_ended b bs is g = rw is (10 ∷ bs, feed, blank refl g)

comment_on : (b c : ℕ) (cs : Text) → b ≡ 47 → c ≡ 47 → Commented cs → Gap (b ∷ c ∷ cs) (skip_from true (c ∷ cs))
unfolding Commented skip_from
comment_on b c cs is also more = rw (is, also) (comment more.1 more.2)

mutual
  unfolding skip_from

  -- what is skipped is a gap
  pub gap_at : (text : Text) → Gap text (skip text)
  gap_at [] = none
  gap_at (b ∷ []) = elim (cases_Bool (is_blank b)) [
    | inl is ↦ rw is (blank is (gap_at []))
    | inr is ↦ rw (is, and_right (b == 47) false refl) none
  ]
  gap_at (b ∷ c ∷ cs) = elim (cases_Bool (is_blank b)) [
    | inl is ↦ rw is (blank is (gap_at (c ∷ cs)))
    | inr isnt ↦ rw isnt (elim (cases_Bool (b == 47 && c == 47)) [
      | inl is ↦ rw is (comment_on b c cs (eqb-true b 47 (and_parts (b == 47) (c == 47) is).0)
          (eqb-true c 47 (and_parts (b == 47) (c == 47) is).1) (line_at cs))
      | inr is ↦ rw is none
    ])
  ]

  line_at : (text : Text) → Commented text
  line_at [] = commented_end
  line_at (b ∷ bs) = elim (cases_Bool (b == 10)) [
    | inl is ↦ line_ended b bs (eqb-true b 10 is) (gap_at bs)
    | inr is ↦ line_on b bs (eqb-false b 10 is) (line_at bs)
  ]
