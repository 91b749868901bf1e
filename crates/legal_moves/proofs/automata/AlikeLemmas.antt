-- Expressions that differ in how they are put together have the same tables.
use Rattle.std.proofs.Common.{◌≡◌, ℕ, suc, ◌+◌, ◌<◌, ◌≤◌, ◌⊎◌, inl, inr, ◌↔◌, Bool, true, false, ◌&&◌, ◌||◌, cond, List, [], ◌∷◌, ◌++◌, length, get_or, ◌==◌, take, map, fold, refl, sym, ap, ◌∙◌, subst, arith}
use Rattle.std.specs.List.{AllZip}
use Rattle.std.proofs.lemmas.List.{take_more, take_all, length-map, get_or-map}
use Rattle.rbg_game.specs.Rules.{Regex, empty, cat, alt, count, cat_all, alt_all}
use Rattle.legal_moves.specs.Glushkov.{is_nullable, IsNext}
use Rattle.legal_moves.specs.lemmas.Relations.{IsRelated}
use Rattle.legal_moves.specs.Tables.{actions_of, inner_of, first_of, last_of, IsStep, AreTables}
use Rattle.legal_moves.specs.lemmas.Tables.{IsAdded}
use Rattle.legal_moves.specs.declared.automaton.table.Ends.{Ends}
use Rattle.legal_moves.specs.declared.automaton.table.Table.{Table}
use Rattle.legal_moves.specs.declared.automaton.table.Draft.{Draft}

-- they have the same tables, but for the empty word
pub record AreAlike (x y : Regex) : Type 0 where
  pub inner_is : inner_of x ≡ inner_of y
  pub actions_are : actions_of x ≡ actions_of y
  pub count_is : count x ≡ count y
  pub first_is : (n : ℕ) → first_of x n ≡ first_of y n
  pub last_is : (n : ℕ) → last_of x n ≡ last_of y n
  pub next_is : (n i j : ℕ) → IsNext x n i j ↔ IsNext y n i j

pub IsAdded-along : (x y : Regex) (tables0 tables1 : List Table) (draft0 draft1 : Draft) (E : Ends) → AreAlike x y
    → IsAdded x tables0 tables1 draft0 draft1 E → IsAdded y tables0 tables1 draft0 draft1 E
IsAdded-along x y tables0 tables1 draft0 draft1 E s h = record {
  tables_are = λ es t. subst (λ zs. AreTables (es ++ zs) tables1) s.inner_is (h.tables_are es t);
  steps_are = λ es actions t k. subst (λ zs. AllZip (IsStep (es ++ zs)) draft1.steps.items (actions ++ actions_of y)) s.inner_is
      (subst (λ zs. AllZip (IsStep (es ++ inner_of x)) draft1.steps.items (actions ++ zs)) s.actions_are (h.steps_are es actions t k));
  count_is = omega (arith, h.count_is, s.count_is);
  follows_is = λ i j. ((λ k. there i j ((h.follows_is i j).0 k)), (λ k. (h.follows_is i j).1 (back i j k)));
  ends_are = record {
    first_is = h.ends_are.first_is ∙ s.first_is (suc (length draft0.steps.items));
    last_is = h.ends_are.last_is ∙ s.last_is (suc (length draft0.steps.items));
  };
}
  where
    there : (i j : ℕ) → IsRelated draft0.follows i j ⊎ IsNext x (suc (length draft0.steps.items)) i j
        → IsRelated draft0.follows i j ⊎ IsNext y (suc (length draft0.steps.items)) i j
    there i j (inl k) = inl k
    there i j (inr k) = inr ((s.next_is (suc (length draft0.steps.items)) i j).0 k)

    back : (i j : ℕ) → IsRelated draft0.follows i j ⊎ IsNext y (suc (length draft0.steps.items)) i j
        → IsRelated draft0.follows i j ⊎ IsNext x (suc (length draft0.steps.items)) i j
    back i j (inl k) = inl k
    back i j (inr k) = inr ((s.next_is (suc (length draft0.steps.items)) i j).1 k)

AreAlike-itself : (x : Regex) → AreAlike x x
AreAlike-itself x = record {
  inner_is = refl;
  actions_are = refl;
  count_is = refl;
  first_is = λ n. refl;
  last_is = λ n. refl;
  next_is = λ n i j. ((λ h. h), (λ h. h));
}

same_either : (t : Bool) (xs : List ℕ) → cond t ([] ++ xs) xs ≡ xs
same_either true xs = refl
same_either false xs = refl

plus_none : (n : ℕ) → n + 0 ≡ n
plus_none n = omega arith

AreAlike-cat_empty : (y : Regex) → AreAlike (cat empty y) y
AreAlike-cat_empty y = record {
  inner_is = refl;
  actions_are = refl;
  count_is = omega arith;
  first_is = λ n. ap (first_of y) (plus_none n);
  last_is = λ n. same_either (is_nullable y) (last_of y (n + 0)) ∙ ap (last_of y) (plus_none n);
  next_is = λ n i j. ((λ h. there n i j h), (λ h. inr (inl (subst (λ m. IsNext y m i j) (sym (plus_none n)) h))));
}
  where
    there : (n i j : ℕ) → IsNext (cat empty y) n i j → IsNext y n i j
    there n i j (inl h) = absurd h
    there n i j (inr (inl h)) = subst (λ m. IsNext y m i j) (plus_none n) h
    there n i j (inr (inr h)) = absurd h.0

AreAlike-alt_empty : (y : Regex) → AreAlike (alt empty y) y
AreAlike-alt_empty y = record {
  inner_is = refl;
  actions_are = refl;
  count_is = omega arith;
  first_is = λ n. ap (first_of y) (plus_none n);
  last_is = λ n. ap (last_of y) (plus_none n);
  next_is = λ n i j. ((λ h. there n i j h), (λ h. inr (subst (λ m. IsNext y m i j) (sym (plus_none n)) h)));
}
  where
    there : (n i j : ℕ) → IsNext (alt empty y) n i j → IsNext y n i j
    there n i j (inl h) = absurd h
    there n i j (inr h) = subst (λ m. IsNext y m i j) (plus_none n) h

fold-push : (f : Regex → Regex → Regex) (a : Regex) (xs : List Regex) (y : Regex) → fold f a (xs ++ y ∷ []) ≡ f (fold f a xs) y
fold-push f a [] y = refl
fold-push f a (x ∷ xs) y = fold-push f (f a x) xs y

pub cat_all-push : (xs : List Regex) (y : Regex) → AreAlike (cat (cat_all xs) y) (cat_all (xs ++ y ∷ []))
cat_all-push [] y = AreAlike-cat_empty y
cat_all-push (a ∷ xs) y = subst (λ z. AreAlike (cat (fold cat a xs) y) z) (sym (fold-push cat a xs y)) (AreAlike-itself _)

pub alt_all-push : (xs : List Regex) (y : Regex) → AreAlike (alt (alt_all xs) y) (alt_all (xs ++ y ∷ []))
alt_all-push [] y = AreAlike-alt_empty y
alt_all-push (a ∷ xs) y = subst (λ z. AreAlike (alt (fold alt a xs) y) z) (sym (fold-push alt a xs y)) (AreAlike-itself _)

pub nullable_cat-push : (xs : List Regex) (y : Regex) → is_nullable (cat_all (xs ++ y ∷ [])) ≡ is_nullable (cat_all xs) && is_nullable y
nullable_cat-push [] y = refl
nullable_cat-push (a ∷ xs) y = ap is_nullable (fold-push cat a xs y)

-- whether the empty word is in one of the branches, or there are none
abbrev pub some_nullable : List Regex → Bool
some_nullable [] = false
some_nullable (a ∷ xs) = is_nullable (fold alt a xs)

pub some_nullable-push : (xs : List Regex) (y : Regex) → some_nullable (xs ++ y ∷ []) ≡ some_nullable xs || is_nullable y
some_nullable-push [] y = refl
some_nullable-push (a ∷ xs) y = ap is_nullable (fold-push alt a xs y)

-- ---- the loops over parts and branches

pub take_map-more : {X Y : Type 0} (f : X → Y) (xs : List X) (i : ℕ) (x : X) → i < length xs → x ≡ get_or xs i x
    → take (i + 1) (map f xs) ≡ take i (map f xs) ++ f x ∷ []
take_map-more f xs i x h e =
    take_more (map f xs) i (f x) (omega (arith, length-map xs f))
    ∙ ap (λ y. take i (map f xs) ++ y ∷ []) (get_or-map f xs i x (f x) h ∙ ap f (sym e))

pub take_map-all : {X Y : Type 0} (f : X → Y) (xs : List X) (i : ℕ) → length xs ≤ i → take i (map f xs) ≡ map f xs
take_map-all f xs i h = take_all i (map f xs) (omega (arith, length-map xs f))

-- at the end of the branches the empty word is as the code has it
pub nullable_alt_all : (xs : List Regex) → (length xs == 0) || some_nullable xs ≡ is_nullable (alt_all xs)
nullable_alt_all [] = refl
nullable_alt_all (a ∷ xs) =
    let some : (length (a ∷ xs) == 0) ≡ false = grind arith in
    ap (λ t. t || is_nullable (fold alt a xs)) some

pub or_none : (t : Bool) → t ≡ t || false
or_none true = refl
or_none false = refl

pub or_assoc : (a b c : Bool) → (a || b) || c ≡ a || (b || c)
or_assoc true b c = refl
or_assoc false b c = refl
