-- How a certificate begins: each part is told by the bytes.
use Rattle.std.proofs.Common.{◌≡◌, ◌≢◌, ◌∙◌, ap, sym, refl, ℕ, ◌<◌, ◌≤◌, ◌^◌, Option, None, Some, List, [], ◌∷◌, ◌++◌, length, drop, get_or, codes, append_assoc, arith}
use Rattle.std.specs.Fmt.{decimal}
use Rattle.std.proofs.lemmas.List.{append_cancel_left, length-append}
use Rattle.position_pack.proofs.OrderLemmas.{same_front}
use Rattle.rbg_text.specs.Token.{Text}
use Rattle.rbg_game.specs.Goals.{CanBeGoal}
use Rattle.certificate.specs.Claims.{goal_line, head_of}
use Rattle.certificate.specs.Format.{Beginning, Begins, IsGoal, IsOneLine}
use Rattle.certificate.specs.lemmas.Parts.{IsGoalOf, text_part}
use Rattle.certificate.proofs.LineLemmas.{cut_first, decimal_tells, digits_in_line, no_end, no_end_in_digits}

abbrev pub version : List ℕ
version = codes "rbgsolve certificate 1" ++ 10 ∷ []

-- what is left of a certificate from a line on
abbrev pub from_value : Beginning → List ℕ
from_value b = codes "value " ++ (b.value ++ (10 ∷ b.behind))

abbrev pub from_position : Beginning → List ℕ
from_position b = codes "position " ++ (b.position ++ (10 ∷ from_value b))

abbrev pub from_text : Beginning → List ℕ
from_text b = text_part b.text (from_position b)

abbrev pub from_goal : Beginning → List ℕ
from_goal b = goal_line b.goal ++ from_text b

nested : (goal text length_is position value behind : List ℕ)
    → (codes "rbgsolve certificate 1" ++ 10 ∷ goal ++ codes "text " ++ length_is ++ 10 ∷ text ++ 10 ∷ codes "position " ++ position
    ++ 10 ∷ codes "value " ++ value ++ 10 ∷ []) ++ behind
    ≡ version ++ (goal ++ (codes "text " ++
    (length_is ++ (10 ∷ (text ++ (10 ∷ (codes "position " ++ (position ++ (10 ∷ (codes "value " ++ (value ++ (10 ∷ behind))))))))))))
nested goal text length_is position value behind = simp append_assoc

pub opened : (b : Beginning) → head_of b.goal b.text b.position b.value ++ b.behind ≡ version ++ from_goal b
opened b = nested (goal_line b.goal) b.text (decimal (length b.text)) b.position b.value b.behind

pub begun : (bytes : List ℕ) (b : Beginning) → Begins bytes b → bytes ≡ version ++ from_goal b
begun bytes b begins = begins.begins ∙ opened b

goal_opened : (points : ℕ) (rest : List ℕ) → goal_line (Some points) ++ rest ≡ codes "goal " ++ (decimal points ++ (10 ∷ rest))
goal_opened points rest = simp append_assoc

-- ---- the goal

other_word : (r s : List ℕ) → codes "goal " ++ r ≡ codes "text " ++ s → ⊥
other_word r s same = let first : 103 ≡ 116 = ap (λ (xs : List ℕ). get_or xs 0 0) same in omega (arith, first)

same_points : (m n : ℕ) (r s : List ℕ) → IsGoal (Some m) → IsGoal (Some n) → codes "goal " ++ (decimal m ++ (10 ∷ r)) ≡ codes "goal " ++ (decimal n ++ (10 ∷ s))
    → (m ≡ n) × (r ≡ s)
same_points m n r s hm hn same =
    let few : m < 2 ^ 32 = omega (arith, hm.1) in
    let others : n < 2 ^ 32 = omega (arith, hn.1) in
    let parts = cut_first 10 (decimal m) (decimal n) r s (no_end_in_digits m few) (no_end_in_digits n others)
    (append_cancel_left (codes "goal ") (decimal m ++ (10 ∷ r)) (decimal n ++ (10 ∷ s)) same) in
    (decimal_tells m n few others parts.0, parts.1)

-- two goals in front of a text are the same
pub one_goal : (g h : Option ℕ) (r s : List ℕ) → IsGoal g → IsGoal h → goal_line g ++ (codes "text " ++ r) ≡ goal_line h ++ (codes "text " ++ s)
    → (g ≡ h) × (codes "text " ++ r ≡ codes "text " ++ s)
one_goal None None r s hg hh same = (refl, same)
one_goal None (Some n) r s hg hh same = absurd (other_word (decimal n ++ (10 ∷ (codes "text " ++ s))) r (sym (goal_opened n (codes "text " ++ s)) ∙ sym same))
one_goal (Some m) None r s hg hh same = absurd (other_word (decimal m ++ (10 ∷ (codes "text " ++ r))) s (sym (goal_opened m (codes "text " ++ r)) ∙ same))
one_goal (Some m) (Some n) r s hg hh same =
    let parts = same_points m n (codes "text " ++ r) (codes "text " ++ s) hg hh
    (sym (goal_opened m (codes "text " ++ r)) ∙ same ∙ goal_opened n (codes "text " ++ s)) in
    (ap Some parts.0, parts.1)

-- a goal that was read is the one in front of the text
pub goal_told : (bytes : List ℕ) (goal : Option ℕ) (rest : List ℕ) → IsGoalOf bytes goal rest
    → (g : Option ℕ) (r : List ℕ) → IsGoal g → bytes ≡ goal_line g ++ (codes "text " ++ r) → (g ≡ goal) × (rest ≡ codes "text " ++ r)
goal_told bytes None rest read None r hg same = (refl, sym read.bytes_are ∙ same)
goal_told bytes None rest read (Some n) r hg same =
    absurd (read.none_is refl (decimal n ++ (10 ∷ (codes "text " ++ r))) (same ∙ goal_opened n (codes "text " ++ r)))
goal_told bytes (Some m) rest read None r hg same =
    absurd (other_word (decimal m ++ (10 ∷ rest)) r (sym (goal_opened m rest) ∙ sym read.bytes_are ∙ same))
goal_told bytes (Some m) rest read (Some n) r hg same =
    let parts = same_points n m (codes "text " ++ r) rest hg read.is
    (sym (goal_opened n (codes "text " ++ r)) ∙ sym same ∙ read.bytes_are ∙ goal_opened m rest) in
    (ap Some parts.0, sym parts.1)

-- ---- the text and the lines behind it

pub one_text : (a b r s : List ℕ) → length a < 2 ^ 32 → length b < 2 ^ 32 → text_part a r ≡ text_part b s → (a ≡ b) × (r ≡ s)
one_text a b r s ha hb same =
    let inner = append_cancel_left (codes "text ") (decimal (length a) ++ (10 ∷ (a ++ (10 ∷ r)))) (decimal (length b) ++ (10 ∷ (b ++ (10 ∷ s)))) same in
    let digits = cut_first 10 (decimal (length a)) (decimal (length b)) (a ++ (10 ∷ r)) (b ++ (10 ∷ s))
    (no_end_in_digits (length a) ha) (no_end_in_digits (length b) hb) inner in
    let texts = same_front a b (10 ∷ r) (10 ∷ s) (decimal_tells (length a) (length b) ha hb digits.0) digits.1 in
    (texts.0, ap (drop 1) texts.1)

pub one_line : (words a b r s : List ℕ) → IsOneLine a → IsOneLine b → words ++ (a ++ (10 ∷ r)) ≡ words ++ (b ++ (10 ∷ s)) → (a ≡ b) × (r ≡ s)
one_line words a b r s ha hb same = cut_first 10 a b r s (no_end a ha) (no_end b hb) (append_cancel_left words (a ++ (10 ∷ r)) (b ++ (10 ∷ s)) same)

-- a text is no longer than the bytes that it stands in
pub text_within : (bytes : List ℕ) (b : Beginning) → bytes ≡ version ++ from_goal b → length b.text ≤ length bytes
text_within bytes b same =
    let whole = length-append version (from_goal b) in
    let behind_goal = length-append (goal_line b.goal) (from_text b) in
    let behind_word = length-append (codes "text ") (decimal (length b.text) ++ (10 ∷ (b.text ++ (10 ∷ from_position b)))) in
    let behind_length = length-append (decimal (length b.text)) (10 ∷ (b.text ++ (10 ∷ from_position b))) in
    let behind_text = length-append b.text (10 ∷ from_position b) in
    omega (arith, ap length same)

-- bytes begin in one way
pub one_beginning : (bytes : List ℕ) (b c : Beginning) → length bytes < 2 ^ 32 → Begins bytes b → Begins bytes c → b ≡ c
one_beginning bytes b c few hb hc =
    let from_b = begun bytes b hb in
    let from_c = begun bytes c hc in
    let text_b = text_within bytes b from_b in
    let text_c = text_within bytes c from_c in
    let goals = one_goal b.goal c.goal _ _ hb.goal_is hc.goal_is (append_cancel_left version (from_goal b) (from_goal c) (sym from_b ∙ from_c)) in
    let texts = one_text b.text c.text (from_position b) (from_position c) (omega (arith, text_b)) (omega (arith, text_c)) goals.1 in
    let positions = one_line (codes "position ") b.position c.position (from_value b) (from_value c) hb.position_is hc.position_is texts.1 in
    let values = one_line (codes "value ") b.value c.value b.behind c.behind hb.value_is hc.value_is positions.1 in
    λ i. record { goal = goals.0 i; text = texts.0 i; position = positions.0 i; value = values.0 i; behind = values.1 i }

-- the goal with which bytes are written is theirs
pub goal_written : (bytes : List ℕ) (b : Beginning) (goal : Option ℕ) (text position value behind : List ℕ) → Begins bytes b → IsGoal goal
    → bytes ≡ head_of goal text position value ++ behind → b.goal ≡ goal
goal_written bytes b goal text position value behind begins is same =
    let c : Beginning = record { goal = goal; text = text; position = position; value = value; behind = behind } in
    (one_goal b.goal goal _ _ begins.goal_is is (append_cancel_left version (from_goal b) (from_goal c) (sym (begun bytes b begins) ∙ same ∙ opened c))).0

-- ---- a head that is read part by part

module _ (bytes rest : List ℕ) (few : length bytes < 2 ^ 32) (first : bytes ≡ version ++ rest) (b : Beginning) (begins : Begins bytes b) where
  behind_version : rest ≡ from_goal b
  behind_version = append_cancel_left version rest (from_goal b) (sym first ∙ begun bytes b begins)

  text_few : length b.text < 2 ^ 32
  text_few = let within = text_within bytes b (begun bytes b begins) in omega arith

  pub no_goal : ((g : Option ℕ) (r : List ℕ) → IsGoal g → rest ≢ goal_line g ++ (codes "text " ++ r)) → ⊥
  no_goal none = none b.goal _ begins.goal_is behind_version

  module _ (goal : Option ℕ) (next : List ℕ) (read : IsGoalOf rest goal next) where
    behind_goal : next ≡ from_text b
    behind_goal = (goal_told rest goal next read b.goal _ begins.goal_is behind_version).1

    pub no_text : ((t : Text) (r : List ℕ) → length t < 2 ^ 32 → next ≢ text_part t r) → ⊥
    no_text none = none b.text (from_position b) text_few behind_goal

    module _ (text after : List ℕ) (short : length text < 2 ^ 32) (is_text : next ≡ text_part text after) where
      behind_text : after ≡ from_position b
      behind_text = (one_text text b.text after (from_position b) short text_few (sym is_text ∙ behind_goal)).1

      pub no_position : ((x r : List ℕ) → IsOneLine x → after ≢ codes "position " ++ (x ++ (10 ∷ r))) → ⊥
      no_position none = none b.position (from_value b) begins.position_is behind_text

      module _ (position more : List ℕ) (one : IsOneLine position) (is_position : after ≡ codes "position " ++ (position ++ (10 ∷ more))) where
        pub no_value : ((x r : List ℕ) → IsOneLine x → more ≢ codes "value " ++ (x ++ (10 ∷ r))) → ⊥
        no_value none =
            none b.value b.behind begins.value_is
            (one_line (codes "position ") position b.position more (from_value b) one begins.position_is (sym is_position ∙ behind_text)).1

-- the parts that were read are those of a beginning
pub all_read : (bytes rest : List ℕ) (goal : Option ℕ) (next text after position more value behind : List ℕ) → bytes ≡ version ++ rest → IsGoalOf rest goal next
    → next ≡ text_part text after → IsOneLine position → after ≡ codes "position " ++ (position ++ (10 ∷ more)) → IsOneLine value
    → more ≡ codes "value " ++ (value ++ (10 ∷ behind))
    → Begins bytes (record { goal = goal; text = text; position = position; value = value; behind = behind })
all_read bytes rest goal next text after position more value behind first read is_text one is_position other is_value =
    let b : Beginning = record { goal = goal; text = text; position = position; value = value; behind = behind } in
    let from_two : after ≡ from_position b = is_position ∙ ap (λ (xs : List ℕ). codes "position " ++ (position ++ (10 ∷ xs))) is_value in
    let from_three : next ≡ from_text b = is_text ∙ ap (text_part text) from_two in
    record {
      begins = first ∙ ap (λ (xs : List ℕ). version ++ xs) (read.bytes_are ∙ ap (λ (xs : List ℕ). goal_line goal ++ xs) from_three) ∙ sym (opened b);
      goal_is = read.is;
      position_is = one;
      value_is = other;
    }

-- ---- parts that are not there

-- the line of a length and what is behind it
pub text_parts : (bytes digits rest : List ℕ) → IsOneLine digits → bytes ≡ codes "text " ++ (digits ++ (10 ∷ rest)) → (text more : List ℕ)
    → length text < 2 ^ 32
    → bytes ≡ text_part text more → (digits ≡ decimal (length text)) × (rest ≡ text ++ (10 ∷ more))
text_parts bytes digits rest one is text more few same =
    one_line (codes "text ") digits (decimal (length text)) rest (text ++ (10 ∷ more)) one (digits_in_line (length text) few) (sym is ∙ same)

-- a goal that has to be there
pub some_goal : (bytes x : List ℕ) → bytes ≡ codes "goal " ++ x → (g : Option ℕ) (r : List ℕ) → IsGoal g → bytes ≡ goal_line g ++ (codes "text " ++ r)
    → (n : ℕ) × CanBeGoal n × (bytes ≡ codes "goal " ++ (decimal n ++ (10 ∷ (codes "text " ++ r))))
some_goal bytes x is None r hg same = absurd (other_word x r (sym is ∙ same))
some_goal bytes x is (Some n) r hg same = (n, hg, same ∙ goal_opened n (codes "text " ++ r))

pub goal_digits : (bytes digits rest : List ℕ) → IsOneLine digits → bytes ≡ codes "goal " ++ (digits ++ (10 ∷ rest)) → (g : Option ℕ) (r : List ℕ) → IsGoal g
    → bytes ≡ goal_line g ++ (codes "text " ++ r) → (n : ℕ) × CanBeGoal n × (digits ≡ decimal n)
goal_digits bytes digits rest one is g r hg same =
    let (n, can, opens) = some_goal bytes (digits ++ (10 ∷ rest)) is g r hg same in
    let few : n < 2 ^ 32 = omega (arith, can.1) in
    (n, can, (one_line (codes "goal ") digits (decimal n) rest (codes "text " ++ r) one (digits_in_line n few) (sym is ∙ opens)).0)
