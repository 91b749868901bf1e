-- How the tables and the draft of one grow with each part of an expression.
use Rattle.std.proofs.Common.{◌≡◌, ℕ, zero, suc, ◌+◌, ◌⊎◌, inl, inr, ◌↔◌, Bool, false, cond, List, [], ◌∷◌, ◌++◌, length, take, Some, slice_get, slice_index_or, ◌==◌, Contains, refl, sym, ap, ◌∙◌, subst, arith, append_assoc, append-nil, length-append}
use Rattle.std.specs.List.{AllZip, list_any}
use Rattle.rbg_game.specs.Rules.{Regex, one, empty, cat, alt, star, count, Action, pattern}
use Rattle.legal_moves.specs.Glushkov.{is_nullable, IsFirst, IsLast, IsNext, IsNextAt}
use Rattle.legal_moves.specs.lemmas.Relations.{IsRelated}
use Rattle.legal_moves.specs.NumberLists.{AreListed, list_at}
use Rattle.legal_moves.proofs.ListingLemmas.{listed_by}
use Rattle.rbg_game.specs.Meaning.{action_of}
use Rattle.rbg_game.specs.declared.rules.Action.{Action as CodeAction}
use Rattle.legal_moves.specs.Tables.{actions_of, inner_of, inner_in, is_pattern, first_of, last_of, IsStep, IsExpressionTable, AreTables}
use Rattle.legal_moves.specs.lemmas.Tables.{IsAdded}
use Rattle.legal_moves.specs.declared.automaton.relation.Relation.{Relation}
use Rattle.legal_moves.specs.declared.automaton.table.Step.{Step}
use Rattle.legal_moves.specs.declared.automaton.table.Step.TheVariants.{Act, Ask}
use Rattle.legal_moves.specs.declared.automaton.table.Ends.{Ends}
use Rattle.legal_moves.specs.declared.automaton.table.Table.{Table}
use Rattle.legal_moves.specs.declared.automaton.table.Draft.{Draft}
use Rattle.legal_moves.proofs.automata.EndsLemmas.{contains_first, contains_last}
use Rattle.legal_moves.proofs.GetLemmas.{slice_get-append, slice_get-end, slice_get-push, slice_get-within, take-push, take-all, all_zip-append, all_zip-weaker}

-- ---- steps

pub IsStep-more : (es more : List Regex) (s : Step) (a : Action) → IsStep es s a → IsStep (es ++ more) s a
IsStep-more es more (Act x) a h = h
IsStep-more es more (Ask positive i) a h = (h.0, slice_get-append es more i h.0 h.1, h.2)

steps_more : (es more : List Regex) (ss : List Step) (xs : List Action) → AllZip (IsStep es) ss xs → AllZip (IsStep (es ++ more)) ss xs
steps_more es more = all_zip-weaker (IsStep es) (IsStep (es ++ more)) (IsStep-more es more)

-- ---- tables

pub AreTables-push : (es : List Regex) (e : Regex) (tables : List Table) (table : Table) → AreTables es tables
    → IsExpressionTable es table e → AreTables (es ++ e ∷ []) (tables ++ table ∷ [])
AreTables-push es e tables table h new = record {
  as_many = omega (arith, h.as_many, length-append tables (table ∷ []), length-append es (e ∷ []));
  each = λ i t x at_t at_x. go i t x (slice_get-push tables table i t at_t) (slice_get-push es e i x at_x);
}
  where
    go : (i : ℕ) (t : Table) (x : Regex) → (slice_get tables i ≡ Some t) ⊎ (i ≡ length tables) × (t ≡ table)
        → (slice_get es i ≡ Some x) ⊎ (i ≡ length es) × (x ≡ e) → IsExpressionTable (take i (es ++ e ∷ [])) t x
    go i t x (inl p) (inl q) =
        let within = slice_get-within es i x q in
        subst (λ zs. IsExpressionTable zs t x) (sym (take-push es e i (omega arith))) (h.each i t x p q)
    go i t x (inl p) (inr q) =
        let within = slice_get-within tables i t p in
        absurd (omega (arith, h.as_many, q.0))
    go i t x (inr p) (inl q) =
        let within = slice_get-within es i x q in
        absurd (omega (arith, h.as_many, p.0))
    go i t x (inr p) (inr q) =
        subst (λ zs. IsExpressionTable zs t x) (sym (ap (λ k. take k (es ++ e ∷ [])) q.0 ∙ take-all es e))
        (subst (λ z. IsExpressionTable es z x) (sym p.1) (subst (λ z. IsExpressionTable es table z) (sym q.1) new))

-- ---- one part after another

count_along : (a b c d : ℕ) → a ≡ b + c → suc a ≡ suc b + c
count_along a b c d h = omega (arith, h)

module _ (x y : Regex) (tables0 tables1 tables2 : List Table) (draft0 draft1 draft2 : Draft) (ends1 ends2 : Ends)
    (first : IsAdded x tables0 tables1 draft0 draft1 ends1) (second : IsAdded y tables1 tables2 draft1 draft2 ends2) where
  n : ℕ
  n = suc (length draft0.steps.items)

  next_n : suc (length draft1.steps.items) ≡ n + count x
  unfolding n
  next_n = omega (arith, first.count_is)

  both_tables : (es : List Regex) → AreTables es tables0 → AreTables (es ++ (inner_of x ++ inner_of y)) tables2
  both_tables es h = subst (λ zs. AreTables zs tables2) (append_assoc es (inner_of x) (inner_of y))
      (second.tables_are (es ++ inner_of x) (first.tables_are es h))

  both_steps : (es : List Regex) (actions : List Action) → AreTables es tables0 → AllZip (IsStep es) draft0.steps.items actions
      → AllZip (IsStep (es ++ (inner_of x ++ inner_of y))) draft2.steps.items (actions ++ (actions_of x ++ actions_of y))
  both_steps es actions t h =
      subst (λ zs. AllZip (IsStep zs) draft2.steps.items (actions ++ (actions_of x ++ actions_of y))) (append_assoc es (inner_of x) (inner_of y))
      (subst (λ zs. AllZip (IsStep ((es ++ inner_of x) ++ inner_of y)) draft2.steps.items zs) (append_assoc actions (actions_of x) (actions_of y))
      (second.steps_are (es ++ inner_of x) (actions ++ actions_of x) (first.tables_are es t) (first.steps_are es actions t h)))

  both_count : length draft2.steps.items ≡ length draft0.steps.items + (count x + count y)
  both_count = omega (arith, first.count_is, second.count_is)

  second_first : ends2.first.items ≡ first_of y (n + count x)
  unfolding n
  second_first = second.ends_are.first_is ∙ ap (first_of y) next_n

  second_last : ends2.last.items ≡ last_of y (n + count x)
  unfolding n
  second_last = second.ends_are.last_is ∙ ap (last_of y) next_n

  -- what is related after both
  both_related : (i j : ℕ) → IsRelated draft2.follows i j ↔ (IsRelated draft0.follows i j ⊎ (IsNext x n i j ⊎ IsNext y (n + count x) i j))
  unfolding n
  both_related i j = (
    (λ h. there ((second.follows_is i j).0 h)),
    (λ h. (second.follows_is i j).1 (back h)),
  )
    where
      there : IsRelated draft1.follows i j ⊎ IsNext y (suc (length draft1.steps.items)) i j
          → IsRelated draft0.follows i j ⊎ (IsNext x n i j ⊎ IsNext y (n + count x) i j)
      there (inl h) = again ((first.follows_is i j).0 h)
        where
          again : IsRelated draft0.follows i j ⊎ IsNext x (suc (length draft0.steps.items)) i j
              → IsRelated draft0.follows i j ⊎ (IsNext x n i j ⊎ IsNext y (n + count x) i j)
          again (inl g) = inl g
          again (inr g) = inr (inl g)
      there (inr h) = inr (inr (subst (λ m. IsNext y m i j) next_n h))

      back : IsRelated draft0.follows i j ⊎ (IsNext x n i j ⊎ IsNext y (n + count x) i j)
          → IsRelated draft1.follows i j ⊎ IsNext y (suc (length draft1.steps.items)) i j
      back (inl h) = inl ((first.follows_is i j).1 (inl h))
      back (inr (inl h)) = inl ((first.follows_is i j).1 (inr h))
      back (inr (inr h)) = inr (subst (λ m. IsNext y m i j) (sym next_n) h)

  -- one of the two
  pub IsAdded-alt : (E : Ends) → E.first.items ≡ ends1.first.items ++ ends2.first.items → E.last.items ≡ ends1.last.items
      ++ ends2.last.items → IsAdded (alt x y) tables0 tables2 draft0 draft2 E
  unfolding n
  IsAdded-alt E f l = record {
    tables_are = both_tables;
    steps_are = both_steps;
    count_is = both_count;
    follows_is = both_related;
    ends_are = record {
      first_is = f ∙ ap (λ xs. xs ++ ends2.first.items) first.ends_are.first_is ∙ ap (λ ys. first_of x n ++ ys) second_first;
      last_is = l ∙ ap (λ xs. xs ++ ends2.last.items) first.ends_are.last_is ∙ ap (λ ys. last_of x n ++ ys) second_last;
    };
  }

  -- one after another, where the ends of the first were related to the beginnings of the second
  pub IsAdded-cat : (D : Draft) (E : Ends) → ends1.nullable ≡ is_nullable x → ends2.nullable ≡ is_nullable y → D.steps ≡ draft2.steps
      → ((i j : ℕ) → IsRelated D.follows i j ↔ (IsRelated draft2.follows i j ⊎ Contains ends1.last.items i × Contains ends2.first.items j))
      → E.first.items ≡ cond ends1.nullable (ends1.first.items ++ ends2.first.items) ends1.first.items
      → E.last.items ≡ cond ends2.nullable (ends1.last.items ++ ends2.last.items) ends2.last.items → IsAdded (cat x y) tables0 tables2 draft0 D E
  unfolding n
  IsAdded-cat D E null1 null2 same related f l = record {
    tables_are = both_tables;
    steps_are = λ es actions t h. subst
        (λ ss. AllZip (IsStep (es ++ (inner_of x ++ inner_of y))) ss.items (actions ++ (actions_of x ++ actions_of y))) (sym same) (both_steps es actions t h);
    count_is = ap (λ ss. length ss.items) same ∙ both_count;
    follows_is = λ i j. ((λ h. there i j ((related i j).0 h)), (λ h. (related i j).1 (back i j h)));
    ends_are = record {
      first_is = f ∙ ap (λ xs. cond ends1.nullable (xs ++ ends2.first.items) xs) first.ends_are.first_is
          ∙ ap (λ ys. cond ends1.nullable (first_of x n ++ ys) (first_of x n)) second_first
          ∙ ap (λ t. cond t (first_of x n ++ first_of y (n + count x)) (first_of x n)) null1;
      last_is = l ∙ ap (λ xs. cond ends2.nullable (xs ++ ends2.last.items) ends2.last.items) first.ends_are.last_is
          ∙ ap (λ ys. cond ends2.nullable (last_of x n ++ ys) ys) second_last
          ∙ ap (λ t. cond t (last_of x n ++ last_of y (n + count x)) (last_of y (n + count x))) null2;
    };
  }
    where
      ends : (i : ℕ) → Contains ends1.last.items i ↔ IsLast x n i
      ends i = subst (λ xs. Contains xs i ↔ IsLast x n i) (sym first.ends_are.last_is) (contains_last x n i)

      begins : (j : ℕ) → Contains ends2.first.items j ↔ IsFirst y (n + count x) j
      begins j = subst (λ xs. Contains xs j ↔ IsFirst y (n + count x) j) (sym second_first) (contains_first y (n + count x) j)

      there : (i j : ℕ) → IsRelated draft2.follows i j ⊎ Contains ends1.last.items i × Contains ends2.first.items j
          → IsRelated draft0.follows i j ⊎ IsNext (cat x y) n i j
      there i j (inl h) = again ((both_related i j).0 h)
        where
          again : IsRelated draft0.follows i j ⊎ (IsNext x n i j ⊎ IsNext y (n + count x) i j) → IsRelated draft0.follows i j ⊎ IsNext (cat x y) n i j
          again (inl g) = inl g
          again (inr (inl g)) = inr (inl g)
          again (inr (inr g)) = inr (inr (inl g))
      there i j (inr h) = inr (inr (inr ((ends i).0 h.0, (begins j).0 h.1)))

      back : (i j : ℕ) → IsRelated draft0.follows i j ⊎ IsNext (cat x y) n i j → IsRelated draft2.follows i j ⊎ Contains ends1.last.items i
          × Contains ends2.first.items j
      back i j (inl h) = inl ((both_related i j).1 (inl h))
      back i j (inr (inl h)) = inl ((both_related i j).1 (inr (inl h)))
      back i j (inr (inr (inl h))) = inl ((both_related i j).1 (inr (inr h)))
      back i j (inr (inr (inr h))) = inr ((ends i).1 h.0, (begins j).1 h.1)

-- again and again, where the ends were related to the beginnings
pub IsAdded-star : (x : Regex) (tables0 tables1 : List Table) (draft0 draft1 D : Draft) (ends1 E : Ends)
    → IsAdded x tables0 tables1 draft0 draft1 ends1 → D.steps ≡ draft1.steps
    → ((i j : ℕ) → IsRelated D.follows i j ↔ (IsRelated draft1.follows i j ⊎ Contains ends1.last.items i × Contains ends1.first.items j))
    → E.first ≡ ends1.first → E.last ≡ ends1.last → IsAdded (star x) tables0 tables1 draft0 D E
IsAdded-star x tables0 tables1 draft0 draft1 D ends1 E h same related f l = record {
  tables_are = h.tables_are;
  steps_are = λ es actions t k. subst (λ ss. AllZip (IsStep (es ++ inner_of x)) ss.items (actions ++ actions_of x)) (sym same) (h.steps_are es actions t k);
  count_is = ap (λ ss. length ss.items) same ∙ h.count_is;
  follows_is = λ i j. ((λ k. there i j ((related i j).0 k)), (λ k. (related i j).1 (back i j k)));
  ends_are = record {
    first_is = ap (λ v. v.items) f ∙ h.ends_are.first_is;
    last_is = ap (λ v. v.items) l ∙ h.ends_are.last_is;
  };
}
  where
    n : ℕ
    n = suc (length draft0.steps.items)

    ends : (i : ℕ) → Contains ends1.last.items i ↔ IsLast x (suc (length draft0.steps.items)) i
    ends i = subst (λ xs. Contains xs i ↔ IsLast x (suc (length draft0.steps.items)) i) (sym h.ends_are.last_is)
        (contains_last x (suc (length draft0.steps.items)) i)

    begins : (j : ℕ) → Contains ends1.first.items j ↔ IsFirst x (suc (length draft0.steps.items)) j
    begins j = subst (λ xs. Contains xs j ↔ IsFirst x (suc (length draft0.steps.items)) j) (sym h.ends_are.first_is)
        (contains_first x (suc (length draft0.steps.items)) j)

    there : (i j : ℕ) → IsRelated draft1.follows i j ⊎ Contains ends1.last.items i × Contains ends1.first.items j
        → IsRelated draft0.follows i j ⊎ IsNext (star x) (suc (length draft0.steps.items)) i j
    there i j (inl k) = again ((h.follows_is i j).0 k)
      where
        again : IsRelated draft0.follows i j ⊎ IsNext x (suc (length draft0.steps.items)) i j
            → IsRelated draft0.follows i j ⊎ IsNext (star x) (suc (length draft0.steps.items)) i j
        again (inl g) = inl g
        again (inr g) = inr (inl g)
    there i j (inr k) = inr (inr ((ends i).0 k.0, (begins j).0 k.1))

    back : (i j : ℕ) → IsRelated draft0.follows i j ⊎ IsNext (star x) (suc (length draft0.steps.items)) i j
        → IsRelated draft1.follows i j ⊎ Contains ends1.last.items i × Contains ends1.first.items j
    back i j (inl k) = inl ((h.follows_is i j).1 (inl k))
    back i j (inr (inl k)) = inl ((h.follows_is i j).1 (inr k))
    back i j (inr (inr k)) = inr ((ends i).1 k.0, (begins j).1 k.1)

-- nothing is added
pub IsAdded-empty : (T : List Table) (D : Draft) (E : Ends) → E.first.items ≡ [] → E.last.items ≡ [] → IsAdded empty T T D D E
IsAdded-empty T D E f l = record {
  tables_are = λ es h. subst (λ zs. AreTables zs T) (sym (append-nil es)) h;
  steps_are = λ es actions t h. subst (λ zs. AllZip (IsStep zs) D.steps.items (actions ++ [])) (sym (append-nil es))
      (subst (λ zs. AllZip (IsStep es) D.steps.items zs) (sym (append-nil actions)) h);
  count_is = omega arith;
  follows_is = λ i j. ((λ h. inl h), (λ h. back i j h));
  ends_are = record { first_is = f; last_is = l };
}
  where
    back : (i j : ℕ) → IsRelated D.follows i j ⊎ ⊥ → IsRelated D.follows i j
    back i j (inl h) = h
    back i j (inr h) = absurd h

-- one occurrence
pub IsAdded-one : (a : Action) (tables0 tables1 : List Table) (draft0 D : Draft) (step : Step) (E : Ends)
    → ((es : List Regex) → AreTables es tables0 → AreTables (es ++ inner_in a) tables1 × IsStep (es ++ inner_in a) step a)
    → D.steps.items ≡ draft0.steps.items ++ step ∷ [] → D.follows ≡ draft0.follows → E.first.items ≡ length D.steps.items ∷ []
    → E.last.items ≡ length D.steps.items ∷ [] → IsAdded (one a) tables0 tables1 draft0 D E
IsAdded-one a tables0 tables1 draft0 D step E made pushed same f l = record {
  tables_are = λ es h. (made es h).0;
  steps_are = λ es actions t h. subst (λ ss. AllZip (IsStep (es ++ inner_in a)) ss (actions ++ a ∷ [])) (sym pushed)
      (all_zip-append (IsStep (es ++ inner_in a)) draft0.steps.items (step ∷ []) actions (a ∷ [])
      (steps_more es (inner_in a) draft0.steps.items actions h) ((made es t).1, tt));
  count_is = counted;
  follows_is = λ i j. ((λ h. inl (subst (λ r. IsRelated r i j) same h)), (λ h. back i j h));
  ends_are = record { first_is = f ∙ ap (λ k. k ∷ []) number; last_is = l ∙ ap (λ k. k ∷ []) number };
}
  where
    counted : length D.steps.items ≡ length draft0.steps.items + 1
    counted = ap length pushed ∙ length-append draft0.steps.items (step ∷ [])

    number : length D.steps.items ≡ suc (length draft0.steps.items)
    number = omega (arith, counted)

    back : (i j : ℕ) → IsRelated draft0.follows i j ⊎ ⊥ → IsRelated D.follows i j
    back i j (inl h) = subst (λ r. IsRelated r i j) (sym same) h
    back i j (inr h) = absurd h

-- ---- a whole table

-- what is related can follow
pub next_by_related : (e : Regex) (T T' : List Table) (draft0 D : Draft) (E : Ends) (R : Relation) → IsAdded e T T' draft0 D E
    → draft0.steps.items ≡ [] → ((i j : ℕ) → ¬ IsRelated draft0.follows i j)
    → ((i j : ℕ) → IsRelated R i j ↔ (IsRelated D.follows i j ⊎ Contains (0 ∷ []) i × Contains E.first.items j)) → (i j : ℕ) → IsRelated R i j → IsNextAt e i j
next_by_related e T T' draft0 D E R h none bare related i j k = there i j ((related i j).0 k)
  where
    from_1 : suc (length draft0.steps.items) ≡ 1
    from_1 = ap (λ xs. suc (length xs)) none

    begins : (j : ℕ) → Contains E.first.items j ↔ IsFirst e 1 j
    begins j = subst (λ xs. Contains xs j ↔ IsFirst e 1 j) (sym (h.ends_are.first_is ∙ ap (first_of e) from_1)) (contains_first e 1 j)

    is_0 : (i : ℕ) → Contains (0 ∷ []) i → i ≡ 0
    is_0 i (zero, l, same) = sym same
    is_0 i (suc k, l, same) = absurd (omega (arith, l))

    there : (i j : ℕ) → IsRelated D.follows i j ⊎ Contains (0 ∷ []) i × Contains E.first.items j → IsNextAt e i j
    there i j (inl k) = again ((h.follows_is i j).0 k)
      where
        again : IsRelated draft0.follows i j ⊎ IsNext e (suc (length draft0.steps.items)) i j → IsNextAt e i j
        again (inl g) = absurd (bare i j g)
        again (inr g) = inr (subst (λ m. IsNext e m i j) from_1 g)
    there i j (inr k) = inl (is_0 i k.0, (begins j).0 k.1)

pub IsExpressionTable-made : (es : List Regex) (e : Regex) (T T' : List Table) (draft0 D : Draft) (E : Ends) (R : Relation) (table : Table)
    → AreTables es T → IsAdded e T T' draft0 D E → E.nullable ≡ is_nullable e → draft0.steps.items ≡ []
    → ((i j : ℕ) → ¬ IsRelated draft0.follows i j) → table.steps ≡ D.steps → table.ends ≡ E
    → ((i j : ℕ) → IsRelated R i j ↔ (IsRelated D.follows i j ⊎ Contains (0 ∷ []) i × Contains E.first.items j))
    → ((i : ℕ) → AreListed (IsRelated R i) (list_at table.follows.items i))
    → ((k : ℕ) → slice_index_or table.lasts.items k false ≡ list_any (λ j. j == k) table.ends.last.items) → IsExpressionTable (es ++ inner_of e) table e
IsExpressionTable-made es e T T' draft0 D E R table t h null none bare steps ends related lists lasts = record {
  steps_are = subst (λ ss. AllZip (IsStep (es ++ inner_of e)) ss.items (actions_of e)) (sym steps)
      (h.steps_are es [] t (subst (λ ss. AllZip (IsStep es) ss []) (sym none) tt));
  follows_are = λ i. listed_by (IsRelated R i) (IsNextAt e i) (list_at table.follows.items i)
      (λ k m. next_by_related e T T' draft0 D E R h none bare related i k m) (λ k n. (related i k).1 (back i k n)) (lists i);
  ends_are = record {
    first_is = ap (λ x. x.first.items) ends ∙ h.ends_are.first_is ∙ ap (first_of e) from_1;
    last_is = ap (λ x. x.last.items) ends ∙ h.ends_are.last_is ∙ ap (last_of e) from_1;
  };
  nullable_is = ap (λ x. x.nullable) ends ∙ null;
  lasts_are = lasts;
}
  where
    from_1 : suc (length draft0.steps.items) ≡ 1
    from_1 = ap (λ xs. suc (length xs)) none

    begins : (j : ℕ) → Contains E.first.items j ↔ IsFirst e 1 j
    begins j = subst (λ xs. Contains xs j ↔ IsFirst e 1 j) (sym (h.ends_are.first_is ∙ ap (first_of e) from_1)) (contains_first e 1 j)

    back : (i j : ℕ) → IsNextAt e i j → IsRelated D.follows i j ⊎ Contains (0 ∷ []) i × Contains E.first.items j
    back i j (inl k) = inr ((0, omega arith, sym k.0), (begins j).1 k.1)
    back i j (inr k) = inl ((h.follows_is i j).1 (inr (subst (λ m. IsNext e m i j) (sym from_1) k)))

pub related_along : (r r' : Relation) (xs ys us vs : List ℕ) → us ≡ xs → vs ≡ ys
    → ((i j : ℕ) → IsRelated r' i j ↔ (IsRelated r i j ⊎ Contains us i × Contains vs j)) → (i j : ℕ)
    → IsRelated r' i j ↔ (IsRelated r i j ⊎ Contains xs i × Contains ys j)
related_along r r' xs ys us vs e f h i j =
    subst (λ zs. IsRelated r' i j ↔ (IsRelated r i j ⊎ Contains zs i × Contains ys j)) e
    (subst (λ zs. IsRelated r' i j ↔ (IsRelated r i j ⊎ Contains us i × Contains zs j)) f (h i j))

-- the step of a pattern whose table was added last
pub asked : (es : List Regex) (e : Regex) (positive : Bool) (index : ℕ) (tables : List Table) (a : Action) → a ≡ pattern positive e
    → index ≡ length (es ++ inner_of e) → AreTables ((es ++ inner_of e) ++ e ∷ []) tables → AreTables (es ++ inner_in a) tables
    × IsStep (es ++ inner_in a) (Ask positive index) a
asked es e positive index tables a is at made =
    let whole = append_assoc es (inner_of e) (e ∷ []) in
    let found : slice_get ((es ++ inner_of e) ++ e ∷ []) index ≡ Some e = ap (slice_get ((es ++ inner_of e) ++ e ∷ [])) at
    ∙ slice_get-end (es ++ inner_of e) e in
    subst (λ x. AreTables (es ++ inner_in x) tables × IsStep (es ++ inner_in x) (Ask positive index) x) (sym is) (
      subst (λ zs. AreTables zs tables) whole made,
      (e, subst (λ zs. slice_get zs index ≡ Some e) whole found, refl),
    )

pub AreTables-pushed : (es : List Regex) (e : Regex) (tables tables' : List Table) (table : Table) → AreTables es tables
    → IsExpressionTable es table e → tables' ≡ tables ++ table ∷ [] → AreTables (es ++ e ∷ []) tables'
AreTables-pushed es e tables tables' table h new same =
    subst (AreTables (es ++ e ∷ [])) (sym same) (AreTables-push es e tables table h new)

-- an action that asks no pattern
pub unasked : (es : List Regex) (tables : List Table) (x : CodeAction) (a : Action) → action_of x ≡ a → inner_in a ≡ []
    → is_pattern a ≡ false → AreTables es tables → AreTables (es ++ inner_in a) tables × ((action_of x ≡ a) × (is_pattern a ≡ false))
unasked es tables x a same none plain are =
    (subst (λ fs. AreTables fs tables) (sym (ap (λ f. es ++ f) none ∙ append-nil es)) are, (same, plain))
