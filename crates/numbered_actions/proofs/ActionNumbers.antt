-- The actions that are listed are those of the rules, by their numbers.
use Rattle.std.proofs.Common.{◌≡◌, ℕ, ◌+◌, List, [], ◌∷◌, ◌++◌, map, fold, slice_get, Option, Some, None, refl, ap, sym, subst, ◌∙◌}
use Rattle.std.proofs.Common.{append_assoc, append-nil, arith}
use Rattle.std.specs.Prelude.{IfSome}
use Rattle.std.specs.List.{AllZip, flat_map}
use Rattle.rbg_text.specs.Syntax as g
use Rattle.rbg_text.specs.Syntax.{Tokens, Assignment, Sum, Concat, Element, Base, Section, mark, further}
use Rattle.rbg_text.specs.declared.token.Sign.TheVariants.{Plus, Star, CloseParen, CloseBracket}
use Rattle.rbg_game.specs.Rules.{Regex, Action, action_at}
use Rattle.rbg_read.specs.Means.{Names, names_of, rules_of, sum_rules, concat_rules, element_rules, base_rules}
use Rattle.rbg_read.specs.Means as means
use Rattle.numbered_actions.proofs.NumberedActions.{actions_of, length_actions, by_list, length_zip, zip_at}
use Rattle.numbered_actions.specs.Written.{Spot, assigned, meaning, spots, spots_in_concat, spots_in_element, spots_in_base, spots_of}
use Rattle.numbered_actions.specs.Written.{further_assigned}
use Rattle.numbered_actions.specs.Laws.{NumbersAreKept}

zip_append : {A B : Type 0} (R : A → B → Type 0) (xs ys : List A) (zs ws : List B) → AllZip R xs zs → AllZip R ys ws → AllZip R (xs ++ ys) (zs ++ ws)
zip_append R [] ys [] ws h k = k
zip_append R [] ys (z ∷ zs) ws h k = absurd h
zip_append R (x ∷ xs) ys [] ws h k = absurd h
zip_append R (x ∷ xs) ys (z ∷ zs) ws h k = (h.0, zip_append R xs ys zs ws h.1 k)

-- the action is what is written at the spot
abbrev Is : Names → Spot → Action → Type 0
Is names spot a = meaning names spot.written ≡ Regex.one a

assigned_zip : (names : Names) (more : List Assignment) (rest : Tokens) (r : Regex) (front : List Spot) → AllZip (Is names) front (actions_of r)
    → AllZip (Is names) (front ++ further_assigned more rest) (actions_of (fold Regex.cat r (map (means.assignment names) more)))
assigned_zip names [] rest r front h = subst (λ xs. AllZip (Is names) xs (actions_of r)) (sym (append-nil front)) h
assigned_zip names (a ∷ more) rest r front h =
    let spot : Spot = record { written = assigned a; behind = further g.assignment more rest } in
    let longer = zip_append (Is names) front (spot ∷ []) (actions_of r) (actions_of (means.assignment names a)) h (refl, tt) in
    subst (λ xs. AllZip (Is names) xs (actions_of (fold Regex.cat (Regex.cat r (means.assignment names a)) (map (means.assignment names) more))))
    (append_assoc front (spot ∷ []) (further_assigned more rest))
    (assigned_zip names more rest (Regex.cat r (means.assignment names a)) (front ++ spot ∷ []) longer)

mutual
  sum_zip : (names : Names) (s : Sum) (rest : Tokens) → AllZip (Is names) (spots s rest) (actions_of (sum_rules names s))
  sum_zip names (g.branch c) rest = concat_zip names c rest
  sum_zip names (g.either s c) rest =
      let front = mark Plus (g.concat c rest) in
      zip_append (Is names) (spots s front) (spots_in_concat c rest) (actions_of (sum_rules names s)) (actions_of (concat_rules names c))
      (sum_zip names s front) (concat_zip names c rest)

  concat_zip : (names : Names) (c : Concat) (rest : Tokens) → AllZip (Is names) (spots_in_concat c rest) (actions_of (concat_rules names c))
  concat_zip names (g.single e) rest = element_zip names e rest
  concat_zip names (g.followed c e) rest =
      let front = g.element e rest in
      zip_append (Is names) (spots_in_concat c front) (spots_in_element e rest) (actions_of (concat_rules names c)) (actions_of (element_rules names e))
      (concat_zip names c front) (element_zip names e rest)

  element_zip : (names : Names) (e : Element) (rest : Tokens) → AllZip (Is names) (spots_in_element e rest) (actions_of (element_rules names e))
  element_zip names (g.once b) rest = base_zip names b rest
  element_zip names (g.star b) rest = base_zip names b (mark Star rest)

  base_zip : (names : Names) (b : Base) (rest : Tokens) → AllZip (Is names) (spots_in_base b rest) (actions_of (base_rules names b))
  base_zip names (g.shift w) rest = (refl, tt)
  base_zip names (g.on ws) rest = (refl, tt)
  base_zip names (g.off w) rest = (refl, tt)
  base_zip names (g.assign a more) rest =
      let behind = mark CloseBracket rest in
      let spot : Spot = record { written = assigned a; behind = further g.assignment more behind } in
      assigned_zip names more behind (means.assignment names a) (spot ∷ []) (refl, tt)
  base_zip names (g.compare l t r) rest = (refl, tt)
  base_zip names (g.switch w) rest = (refl, tt)
  base_zip names g.keeper rest = (refl, tt)
  base_zip names (g.some_word s) rest = (refl, tt)
  base_zip names (g.no_word s) rest = (refl, tt)
  base_zip names (g.group s) rest = sum_zip names s (mark CloseParen rest)

numbered : (names : Names) (e : Regex) (all : List Spot) → AllZip (Is names) all (actions_of e) → (k : ℕ)
    → IfSome (slice_get all k) (λ spot. (a : Action) × (meaning names spot.written ≡ Regex.one a) × (action_at e 1 (k + 1) ≡ Some a))
numbered names e all zip k = go (slice_get all k) refl
  where
    go : (o : Option Spot) → slice_get all k ≡ o
        → IfSome o (λ spot. (a : Action) × (meaning names spot.written ≡ Regex.one a) × (action_at e 1 (k + 1) ≡ Some a))
    go None at = tt
    go (Some spot) at =
        let there = zip_at (Is names) all (actions_of e) zip k spot at in
        let next : 1 + k ≡ k + 1 = omega arith in
        (there.0, there.2, subst (λ n. action_at e 1 n ≡ Some there.0) next (by_list e there.0 1 k there.1))

all_zip : (names : Names) (all : List Section) → AllZip (Is names) (spots_of all) (flat_map actions_of (map (sum_rules names) (flat_map rules_of all)))
all_zip names [] = tt
all_zip names (g.players first more ∷ all) = all_zip names all
all_zip names (g.pieces first more ∷ all) = all_zip names all
all_zip names (g.variables some ∷ all) = all_zip names all
all_zip names (g.board first more ∷ all) = all_zip names all
all_zip names (g.rules s ∷ all) =
    zip_append (Is names) (spots s (g.text all)) (spots_of all) (actions_of (sum_rules names s))
    (flat_map actions_of (map (sum_rules names) (flat_map rules_of all)))
    (sum_zip names s (g.text all)) (all_zip names all)

pub numbers_kept : NumbersAreKept
numbers_kept all game means =
    let names = names_of all in
    let one : flat_map actions_of (map (sum_rules names) (flat_map rules_of all)) ≡ actions_of game.rules =
    ap (λ rs. flat_map actions_of rs) (sym means.rules) ∙ append-nil (actions_of game.rules) in
    let zip = subst (λ actions. AllZip (Is names) (spots_of all) actions) one (all_zip names all) in
    (length_zip (Is names) (spots_of all) (actions_of game.rules) zip ∙ length_actions game.rules, numbered names game.rules (spots_of all) zip)
