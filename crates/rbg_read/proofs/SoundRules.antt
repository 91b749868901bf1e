-- Rules with no cause against them are sound.
use Rattle.std.proofs.Common.{◌≡◌, ℕ, ◌+◌, ◌<◌, ◌≤◌, Bool, false, ◌||◌, List, [], ◌∷◌, ◌++◌, length, map, fold, All, refl, sym, ◌∙◌, subst, arith}
use Rattle.std.specs.List.{list_any, sum_by, AllByRecursion}
use Rattle.std.proofs.lemmas.Bool.{or_parts}
use Rattle.std.proofs.lemmas.List.Elements.{All-nil, All-cons, All-map}
use Rattle.std.proofs.lemmas.List.Sums.{sum_by-append, sum_by-cons}
use Rattle.rbg_text.specs.Token.{Text}
use Rattle.rbg_text.specs.Syntax as g
use Rattle.rbg_text.specs.Syntax.{Expr, Assignment, Sum, Concat, Element, Base}
use Rattle.rbg_game.specs.Rules.{Regex, count}
use Rattle.rbg_game.specs.Games.{Game}
use Rattle.rbg_game.specs.Expressions.{HasSmallParts, NamesBelow}
use Rattle.rbg_game.specs.Sound.{whole_count, LacksSwitch, bounds, IsSoundExpression, IsSoundRegex}
use Rattle.rbg_read.specs.Means.{Names, values_of, index_of, expression, assignment, sum_rules, concat_rules, element_rules, base_rules}
use Rattle.rbg_read.specs.Causes.{actions_in, actions_in_concat, actions_in_element, actions_in_base, expressions_of, is_unknown, uses_unknown_value, action_uses_unknown, is_large, is_switch, has_switch_inside, action_count}
use Rattle.rbg_read.proofs.SmallExpressions.{index_below, none_parts, small, named}

-- ---- lists

pub each_parts : {X : Type 0} (P : X → Type 0) (xs ys : List X) → AllByRecursion P (xs ++ ys) → AllByRecursion P xs × AllByRecursion P ys
each_parts P [] ys h = (tt, h)
each_parts P (x ∷ xs) ys h = let rest = each_parts P xs ys h.1 in ((h.0, rest.0), rest.1)

-- where none passes the test
pub all_from : {X : Type 0} (p : X → Bool) (P : X → Type 0) → ((x : X) → p x ≡ false → P x) → (xs : List X) → list_any p xs ≡ false → All P xs
all_from p P step [] h = All-nil P
all_from p P step (x ∷ xs) h =
    let parts = or_parts (p x) (list_any p xs) h in
    All-cons P x xs (step x parts.0) (all_from p P step xs parts.1)

pub each_from : {X : Type 0} (p : X → Bool) (P : X → Type 0) → ((x : X) → p x ≡ false → P x) → (xs : List X) → list_any p xs ≡ false → AllByRecursion P xs
each_from p P step [] h = tt
each_from p P step (x ∷ xs) h =
    let parts = or_parts (p x) (list_any p xs) h in
    (step x parts.0, each_from p P step xs parts.1)

-- ---- how many actions there are

pub count_within : (e : Regex) → count e ≤ whole_count e
count_within (Regex.one a) = omega arith
count_within Regex.empty = omega arith
count_within (Regex.cat a b) = omega (arith, count_within a, count_within b)
count_within (Regex.alt a b) = omega (arith, count_within a, count_within b)
count_within (Regex.star a) = count_within a

module _ (names : Names) where
  count_more : (a : Regex) (more : List Assignment) → whole_count (fold Regex.cat a (map (assignment names) more)) ≡ whole_count a + length more
  count_more a [] = omega arith
  count_more a (x ∷ more) = count_more (Regex.cat a (assignment names x)) more ∙ (omega arith)

  mutual
    pub count_is : (s : Sum) → whole_count (sum_rules names s) ≡ sum_by action_count (actions_in s)
    count_is (g.branch c) = concat_count_is c
    count_is (g.either s c) = omega (arith, count_is s, concat_count_is c, sum_by-append action_count (actions_in s) (actions_in_concat c))

    concat_count_is : (c : Concat) → whole_count (concat_rules names c) ≡ sum_by action_count (actions_in_concat c)
    concat_count_is (g.single e) = element_count_is e
    concat_count_is (g.followed c e) =
        omega (arith, concat_count_is c, element_count_is e, sum_by-append action_count (actions_in_concat c) (actions_in_element e))

    element_count_is : (e : Element) → whole_count (element_rules names e) ≡ sum_by action_count (actions_in_element e)
    element_count_is (g.once b) = base_count_is b
    element_count_is (g.star b) = base_count_is b

    base_count_is : (b : Base) → whole_count (base_rules names b) ≡ sum_by action_count (actions_in_base b)
    base_count_is (g.shift label) = refl
    base_count_is (g.on pieces) = refl
    base_count_is (g.off piece) = refl
    base_count_is (g.assign first more) = count_more (assignment names first) more ∙ (omega arith)
    base_count_is (g.compare left test right) = refl
    base_count_is (g.switch player) = refl
    base_count_is g.keeper = refl
    base_count_is (g.some_word s) = omega (arith, count_is s, sum_by-cons action_count (g.some_word s) (actions_in s))
    base_count_is (g.no_word s) = omega (arith, count_is s, sum_by-cons action_count (g.no_word s) (actions_in s))
    base_count_is (g.group s) = count_is s

-- ---- no switch

module _ (names : Names) where
  lacks_more : (a : Regex) (more : List Assignment) → LacksSwitch a → LacksSwitch (fold Regex.cat a (map (assignment names) more))
  lacks_more a [] h = h
  lacks_more a (x ∷ more) h = lacks_more (Regex.cat a (assignment names x)) more (h, tt)

  mutual
    pub lacks : (s : Sum) → list_any is_switch (actions_in s) ≡ false → LacksSwitch (sum_rules names s)
    lacks (g.branch c) h = concat_lacks c h
    lacks (g.either s c) h = let p = none_parts is_switch (actions_in s) (actions_in_concat c) h in (lacks s p.0, concat_lacks c p.1)

    concat_lacks : (c : Concat) → list_any is_switch (actions_in_concat c) ≡ false → LacksSwitch (concat_rules names c)
    concat_lacks (g.single e) h = element_lacks e h
    concat_lacks (g.followed c e) h =
        let p = none_parts is_switch (actions_in_concat c) (actions_in_element e) h in (concat_lacks c p.0, element_lacks e p.1)

    element_lacks : (e : Element) → list_any is_switch (actions_in_element e) ≡ false → LacksSwitch (element_rules names e)
    element_lacks (g.once b) h = base_lacks b h
    element_lacks (g.star b) h = base_lacks b h

    base_lacks : (b : Base) → list_any is_switch (actions_in_base b) ≡ false → LacksSwitch (base_rules names b)
    base_lacks (g.shift label) h = tt
    base_lacks (g.on pieces) h = tt
    base_lacks (g.off piece) h = tt
    base_lacks (g.assign first more) h = lacks_more (assignment names first) more tt
    base_lacks (g.compare left test right) h = tt
    base_lacks (g.switch player) h = absurd (cc)
    base_lacks g.keeper h = absurd (cc)
    base_lacks (g.some_word s) h = lacks s h
    base_lacks (g.no_word s) h = lacks s h
    base_lacks (g.group s) h = lacks s h

-- ---- names and sizes

-- no cause lies in the action itself
abbrev pub Fine : Names → List ℕ → Base → Type 0
Fine names limits b =
    (action_uses_unknown names b ≡ false) × (list_any (is_large (values_of names) limits) (expressions_of b) ≡ false) × (has_switch_inside b ≡ false)

module _ (names : Names) (limits : List ℕ) (game : Game) (labels_are : length game.labels ≡ length names.labels)
    (pieces_are : length game.pieces ≡ length names.pieces) (values_are : length game.variables ≡ length (values_of names))
    (bounds_are : bounds game ≡ limits) where
  piece_below : (w : Text) → is_unknown names.pieces w ≡ false → index_of names.pieces w < length game.pieces
  piece_below w h = omega (arith, index_below names.pieces w h, pieces_are)

  sound_expression : (e : Expr) → uses_unknown_value names e ≡ false → is_large (values_of names) limits e ≡ false → IsSoundExpression game (expression names e)
  sound_expression e known fits = (
    subst (λ n. NamesBelow n (expression names e)) (sym values_are) (named names limits e known),
    subst (λ bs. HasSmallParts bs (expression names e)) (sym bounds_are) (small names limits e fits),
  )

  sound_assignment : (a : Assignment) → is_unknown (values_of names) a.target || uses_unknown_value names a.value ≡ false
      → is_large (values_of names) limits a.value ≡ false → IsSoundRegex game (assignment names a)
  sound_assignment a known fits =
      let p = or_parts (is_unknown (values_of names) a.target) (uses_unknown_value names a.value) known in
      (omega (arith, index_below (values_of names) a.target p.0, values_are), sound_expression a.value p.1 fits)

  sound_more : (r : Regex) (more : List Assignment) → IsSoundRegex game r
      → list_any (λ a. is_unknown (values_of names) a.target || uses_unknown_value names a.value) more ≡ false
      → list_any (is_large (values_of names) limits) (map (λ a. a.value) more) ≡ false → IsSoundRegex game (fold Regex.cat r (map (assignment names) more))
  sound_more r [] h known fits = h
  sound_more r (a ∷ more) h known fits =
      let p = or_parts _ _ known in
      let q = or_parts _ _ fits in
      sound_more (Regex.cat r (assignment names a)) more (h, sound_assignment a p.0 q.0) p.1 q.1

  mutual
    pub sound : (s : Sum) → AllByRecursion (Fine names limits) (actions_in s) → IsSoundRegex game (sum_rules names s)
    sound (g.branch c) h = concat_sound c h
    sound (g.either s c) h = let p = each_parts (Fine names limits) (actions_in s) (actions_in_concat c) h in (sound s p.0, concat_sound c p.1)

    concat_sound : (c : Concat) → AllByRecursion (Fine names limits) (actions_in_concat c) → IsSoundRegex game (concat_rules names c)
    concat_sound (g.single e) h = element_sound e h
    concat_sound (g.followed c e) h =
        let p = each_parts (Fine names limits) (actions_in_concat c) (actions_in_element e) h in (concat_sound c p.0, element_sound e p.1)

    element_sound : (e : Element) → AllByRecursion (Fine names limits) (actions_in_element e) → IsSoundRegex game (element_rules names e)
    element_sound (g.once b) h = base_sound b h
    element_sound (g.star b) h = base_sound b h

    base_sound : (b : Base) → AllByRecursion (Fine names limits) (actions_in_base b) → IsSoundRegex game (base_rules names b)
    base_sound (g.shift label) h = omega (arith, index_below names.labels label h.0.0, labels_are)
    base_sound (g.on pieces) h =
        All-map (λ x. x < length game.pieces) (index_of names.pieces) pieces
        (all_from (is_unknown names.pieces) (λ w. index_of names.pieces w < length game.pieces) piece_below pieces h.0.0)
    base_sound (g.off piece) h = piece_below piece h.0.0
    base_sound (g.assign first more) h =
        let p = or_parts _ _ h.0.0 in
        let q = or_parts _ _ h.0.1 in
        sound_more (assignment names first) more (sound_assignment first p.0 q.0) p.1 q.1
    base_sound (g.compare left test right) h =
        let p = or_parts (uses_unknown_value names left) (uses_unknown_value names right) h.0.0 in
        let q = or_parts _ _ h.0.1 in
        let r = or_parts _ _ q.1 in
        (sound_expression left p.0 q.0, sound_expression right p.1 r.0)
    base_sound (g.switch player) h = tt
    base_sound g.keeper h = tt
    base_sound (g.some_word s) h = (lacks names s h.0.2, sound s h.1)
    base_sound (g.no_word s) h = (lacks names s h.0.2, sound s h.1)
    base_sound (g.group s) h = sound s h
