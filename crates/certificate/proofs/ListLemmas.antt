-- The lines of lists: each is written in its own way, and a list ends at an empty line.
use Rattle.std.proofs.Common.{◌≡◌, ◌≢◌, ◌∙◌, ap, sym, refl, subst, ℕ, ◌<◌, ◌^◌, Result, Ok, ◌-◌, List, [], ◌∷◌, ◌++◌, length, get_or, map, All, inl, inr, arith}
use Rattle.std.specs.Cmp.Lexicographic.{slice_cmp}
use Rattle.std.specs.Ordering.{nat_cmp}
use Rattle.std.specs.declared.cmp.Ordering.TheVariants.{Less, Equal}
use Rattle.std.proofs.lemmas.Bool.{cases_lt}
use Rattle.std.proofs.lemmas.Cmp.{nat_list_cmp_total, tied_itself}
use Rattle.std.specs.Fmt.{decimal}
use Rattle.std.proofs.lemmas.List.{get_or_append_left, get_or_push, length-append, length_push}
use Rattle.std.proofs.lemmas.List.Elements.{All-head, All-tail}
use Rattle.base64.specs.Engines.{standard_no_pad}
use Rattle.base64.specs.GeneralPurpose.{IsBytes, decode_of}
use Rattle.base64.proofs.EngineFacts.{decode_of-encode_of, encode_of-nil}
use Rattle.certificate.specs.Format.{Ascends, IsLine, Line, letters, line_text}
use Rattle.certificate.specs.lemmas.Parts.{EndsList}
use Rattle.certificate.specs.declared.manner.Manner.{Manner}
use Rattle.certificate.specs.declared.manner.Manner.TheVariants.{AtMost, AtLeast, Never}
use Rattle.certificate.proofs.LineLemmas.{cut_last, decimal_tells, no_blank_in_digits}

same_ok : {E : Type 0} (a b : List ℕ) → ◌≡◌ {A = Result (List ℕ) E} (Ok a) (Ok b) → a ≡ b
same_ok a b e = cc

-- letters tell the bytes
pub letters_tell : (a b : List ℕ) → IsBytes a → IsBytes b → letters a ≡ letters b → a ≡ b
unfolding letters
letters_tell a b ha hb same =
    same_ok a b (sym (decode_of-encode_of standard_no_pad a refl ha) ∙ ap (decode_of standard_no_pad) same ∙ decode_of-encode_of standard_no_pad b refl hb)

pub no_letters : letters [] ≡ []
unfolding letters
no_letters = encode_of-nil standard_no_pad

same_line : (x y : Line) → x.at ≡ y.at → x.rank ≡ y.rank → x ≡ y
same_line x y at rank = λ i. record { at = at i; rank = rank i }

ranked_tells : (x y : Line) → IsBytes x.at → IsBytes y.at → x.rank < 2 ^ 32 → y.rank < 2 ^ 32
    → letters x.at ++ (32 ∷ decimal x.rank) ≡ letters y.at ++ (32 ∷ decimal y.rank) → x ≡ y
ranked_tells x y hx hy rx ry same =
    let parts = cut_last 32 (letters x.at) (letters y.at) (decimal x.rank) (decimal y.rank) (no_blank_in_digits x.rank rx)
    (no_blank_in_digits y.rank ry) same in
    same_line x y (letters_tell x.at y.at hx hy parts.0) (decimal_tells x.rank y.rank rx ry parts.1)

-- the text of a line tells it
pub line_tells : (manner : Manner) (x y : Line) → IsLine manner x → IsLine manner y → line_text manner x ≡ line_text manner y → x ≡ y
line_tells AtMost x y hx hy same = ranked_tells x y hx.bytes hy.bytes hx.rank hy.rank same
line_tells AtLeast x y hx hy same = ranked_tells x y hx.bytes hy.bytes hx.rank hy.rank same
line_tells Never x y hx hy same = same_line x y (letters_tell x.at y.at hx.bytes hy.bytes same) (hx.rank ∙ sym hy.rank)

-- a list goes on behind some of its lines with the line of this text
pub record GoesOn (manner : Manner) (list before : List Line) (text : List ℕ) : Type 0 where
  pub line : Line
  pub after : List Line
  pub list_is : list ≡ before ++ line ∷ after
  pub text_is : line_text manner line ≡ text
  pub is : IsLine manner line

module _ (manner : Manner) where
  -- lines in front of one that is not empty are some of the list
  pub goes_on : (list before : List Line) (text : List ℕ) (more rest : List (List ℕ)) → All (IsLine manner) list → All (IsLine manner) before
      → text ≢ [] → EndsList rest → map (line_text manner) before ++ text ∷ more ≡ map (line_text manner) list ++ rest → GoesOn manner list before text
  goes_on [] [] text more rest hl hb filled ends same = absurd (filled (subst EndsList (sym same) ends))
  goes_on [] (b ∷ before) text more rest hl hb filled ends same =
      absurd ((All-head (IsLine manner) b before hb).filled (subst EndsList (sym same) ends))
  goes_on (x ∷ list) [] text more rest hl hb filled ends same = record {
    line = x;
    after = list;
    list_is = refl;
    text_is = (let first : line_text manner x ≡ text = cc in first);
    is = All-head (IsLine manner) x list hl;
  }
  goes_on (x ∷ list) (b ∷ before) text more rest hl hb filled ends same =
      let first : line_text manner x ≡ line_text manner b = cc in
      let tail : map (line_text manner) before ++ text ∷ more ≡ map (line_text manner) list ++ rest = cc in
      let same_first = line_tells manner x b (All-head (IsLine manner) x list hl) (All-head (IsLine manner) b before hb) first in
      let found = goes_on list before text more rest (All-tail (IsLine manner) x list hl) (All-tail (IsLine manner) b before hb) filled ends tail in
      record {
        line = found.line;
        after = found.after;
        list_is = λ i. same_first i ∷ found.list_is i;
        text_is = found.text_is;
        is = found.is;
      }

  -- lines in front of an end are those of one list
  pub one_list : (list other : List Line) (rest more : List (List ℕ)) → All (IsLine manner) list → All (IsLine manner) other
      → EndsList rest → EndsList more → map (line_text manner) list ++ rest ≡ map (line_text manner) other ++ more → (list ≡ other) × (rest ≡ more)
  one_list [] [] rest more hl ho ends stops same = (refl, same)
  one_list [] (y ∷ other) rest more hl ho ends stops same = absurd ((All-head (IsLine manner) y other ho).filled (subst EndsList same ends))
  one_list (x ∷ list) [] rest more hl ho ends stops same = absurd ((All-head (IsLine manner) x list hl).filled (subst EndsList (sym same) stops))
  one_list (x ∷ list) (y ∷ other) rest more hl ho ends stops same =
      let first : line_text manner x ≡ line_text manner y = cc in
      let tail : map (line_text manner) list ++ rest ≡ map (line_text manner) other ++ more = cc in
      let one = line_tells manner x y (All-head (IsLine manner) x list hl) (All-head (IsLine manner) y other ho) first in
      let others = one_list list other rest more (All-tail (IsLine manner) x list hl) (All-tail (IsLine manner) y other ho) ends stops tail in
      (λ i. one i ∷ others.0 i, others.1)

-- the bytes of a position come before those of another
abbrev pub ComesBefore : Line → Line → Type 0
ComesBefore x y = slice_cmp nat_cmp x.at y.at ≡ Less

-- the first lines of an ascending list ascend
pub front_ascends : (front back : List Line) → Ascends (front ++ back) → Ascends front
front_ascends front back ascends = λ i j d lt within.
    let long = length-append front back in
    let both : ComesBefore (get_or (front ++ back) i d) (get_or (front ++ back) j d) = ascends i j d lt (omega arith) in
    let right = subst (λ (y : Line). ComesBefore (get_or (front ++ back) i d) y) (get_or_append_left front back d j within) both in
    subst (λ (x : Line). ComesBefore x (get_or front j d)) (get_or_append_left front back d i (omega arith)) right

less_than : (x y z : List ℕ) → slice_cmp nat_cmp x y ≡ Less → slice_cmp nat_cmp y z ≡ Less → slice_cmp nat_cmp x z ≡ Less
less_than = nat_list_cmp_total.trans

pub not_before_itself : (x : List ℕ) → slice_cmp nat_cmp x x ≡ Less → ⊥
not_before_itself x less = let tied : slice_cmp nat_cmp x x ≡ Equal = tied_itself nat_list_cmp_total x in cc

-- a list ascends with one more line behind its last
pub more_ascends : (list : List Line) (next : Line) → Ascends list → ((d : Line) → 0 < length list → ComesBefore (get_or list (length list - 1) d) next)
    → Ascends (list ++ next ∷ [])
more_ascends list next ascends last = λ i j d lt within.
    let long = length_push list next in
    elim (cases_lt j (length list)) [
      | inl inside ↦
          subst (λ (y : Line). ComesBefore (get_or (list ++ next ∷ []) i d) y) (sym (get_or_append_left list (next ∷ []) d j inside))
          (subst (λ (x : Line). ComesBefore x (get_or list j d)) (sym (get_or_append_left list (next ∷ []) d i (omega arith))) (ascends i j d lt inside))
      | inr outside ↦
          let at_end : length list ≡ j = omega arith in
          let before_next : ComesBefore (get_or list i d) next =
          elim (cases_lt i (length list - 1)) [
            | inl earlier ↦ less_than (get_or list i d).at (get_or list (length list - 1) d).at next.at
                (ascends i (length list - 1) d earlier (omega arith)) (last d (omega arith))
            | inr final ↦ (let same : length list - 1 ≡ i = omega arith in subst (λ (k : ℕ). ComesBefore (get_or list k d) next) same (last d (omega arith)))
          ] in
          subst (λ (y : Line). ComesBefore (get_or (list ++ next ∷ []) i d) y) (sym (get_or_push list next d j at_end))
          (subst (λ (x : Line). ComesBefore x next) (sym (get_or_append_left list (next ∷ []) d i (omega arith))) before_next)
    ]

-- in an ascending list the last line but one comes before the last
pub last_ascends : (list : List Line) (next : Line) → Ascends (list ++ next ∷ []) → (d : Line) → 0 < length list
    → ComesBefore (get_or list (length list - 1) d) next
last_ascends list next ascends d some =
    let long = length_push list next in
    let both : ComesBefore (get_or (list ++ next ∷ []) (length list - 1) d) (get_or (list ++ next ∷ []) (length list) d) = ascends
    (length list - 1) (length list) d (omega arith) (omega arith) in
    let right = subst (λ (y : Line). ComesBefore (get_or (list ++ next ∷ []) (length list - 1) d) y) (get_or_push list next d (length list) refl) both in
    subst (λ (x : Line). ComesBefore x next) (get_or_append_left list (next ∷ []) d (length list - 1) (omega arith)) right
