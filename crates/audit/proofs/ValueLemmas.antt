-- The least and the greatest of the distances that records tell.
use Rattle.std.proofs.Common.{◌≡◌, ◌∙◌, sym, ap, subst, ℕ, ◌≤◌, ◌⊎◌, inl, inr, ⊎_elim, Option, Some, None, List, [], ◌∷◌, ◌++◌, refl, arith, min}
use Rattle.std.specs.Prelude.{Contains}
use Rattle.std.proofs.lemmas.Option.{same_Some}
use Rattle.std.proofs.lemmas.Bool.{cases_lt}
use Rattle.std.proofs.lemmas.List.Elements.{Contains-push, Contains-push_cases}
use Rattle.rbg_game.specs.declared.roles.Player.{Player}
use Rattle.rbg_game.specs.declared.roles.Player.TheVariants.{First, Second}
use Rattle.retrograde.specs.declared.records.Record.{Record}
use Rattle.retrograde.proofs.Finished.{none_or_some}
use Rattle.retrograde.proofs.Additions.{none_in_empty}
use Rattle.audit.specs.lemmas.Records.{told, IsNearest, IsFarthest}
use Rattle.audit.proofs.Lists.{in_before}

pub same_player : (v w : Player) → (v ≡ w) ⊎ (v ≡ w → ⊥)
same_player First First = inl refl
same_player First Second = inr (λ is. cc)
same_player Second First = inr (λ is. cc)
same_player Second Second = inl refl

-- what is told is a win of this player, or it is not
pub won_or_not : (o : Option (Player × ℕ)) (w : Player) → ((m : ℕ) × (o ≡ Some (w, m))) ⊎ ((m : ℕ) → o ≡ Some (w, m) → ⊥)
won_or_not None w = inr (λ m is. cc)
won_or_not (Some (v, n)) w =
    ⊎_elim
    (λ same. inl (n, ap (λ u. Some (u, n)) same))
    (λ apart. inr (λ m is. apart (ap (λ (p : Player × ℕ). p.0) (same_Some (v, n) (w, m) is))))
    (same_player v w)

pub nearest_none : (w : Player) → IsNearest [] w None
nearest_none w = λ r m here. absurd (none_in_empty r here)

module _ (records : List Record) (r : Record) (w : Player) (least now : Option ℕ) (before : IsNearest records w least) where
  -- one that the player does not win changes nothing
  nearest_other : ((m : ℕ) → told r ≡ Some (w, m) → ⊥) → (o : Option ℕ) → o ≡ least → IsNearest (records ++ r ∷ []) w o
  nearest_other other None same =
      let was : IsNearest records w None = subst (λ (p : Option ℕ). IsNearest records w p) (sym same) before in
      λ q m here is. ⊎_elim
      (λ early. was q m early is)
      (λ last. other m (ap (λ (s : Record). told s) last ∙ is))
      (Contains-push_cases records r q here)
  nearest_other other (Some n) same =
      let was : IsNearest records w (Some n) = subst (λ (p : Option ℕ). IsNearest records w p) (sym same) before in
      let ((q, here, is), all) = was in (
        (q, in_before records r q here, is),
        λ q m here is. ⊎_elim
            (λ early. all q m early is)
            (λ last. absurd (other m (ap (λ (s : Record). told s) last ∙ is)))
            (Contains-push_cases records r q here),
      )

  -- the first that he wins is the nearest
  nearest_first : (m : ℕ) → told r ≡ Some (w, m) → least ≡ None → IsNearest (records ++ r ∷ []) w (Some m)
  nearest_first m is none =
      let was : IsNearest records w None = subst (λ (p : Option ℕ). IsNearest records w p) none before in (
        (r, Contains-push records r, is),
        λ q k here at. ⊎_elim
            (λ early. absurd (was q k early at))
            (λ last.
            let same : (w, m) ≡ (w, k) = same_Some (w, m) (w, k) (sym is ∙ (ap (λ (s : Record). told s) last ∙ at)) in
            let e : m ≡ k = ap (λ (p : Player × ℕ). p.1) same in omega arith)
            (Contains-push_cases records r q here),
      )

  -- and of more, the least
  nearest_next : (m n : ℕ) → told r ≡ Some (w, m) → least ≡ Some n → IsNearest (records ++ r ∷ []) w (Some (min n m))
  nearest_next m n is some =
      let was : IsNearest records w (Some n) = subst (λ (p : Option ℕ). IsNearest records w p) some before in
      let ((q, here, at), all) = was in (
        ⊎_elim
            (λ le. let e : n ≡ min n m = le in (q, in_before records r q here, at ∙ ap (λ (k : ℕ). Some (w, k)) e))
            (λ le. let e : m ≡ min n m = le in (r, Contains-push records r, is ∙ ap (λ (k : ℕ). Some (w, k)) e))
            either,
        λ q k there told_is. ⊎_elim
            (λ early. let le : n ≤ k = all q k early told_is in omega arith)
            (λ last.
            let same : (w, m) ≡ (w, k) = same_Some (w, m) (w, k) (sym is ∙ (ap (λ (s : Record). told s) last ∙ told_is)) in
            let e : m ≡ k = ap (λ (p : Player × ℕ). p.1) same in omega arith)
            (Contains-push_cases records r q there),
      )
    where
      either : (n ≡ min n m) ⊎ (m ≡ min n m)
      either =
          ⊎_elim (λ lt. let e : n ≡ min n m = omega arith in inl e) (λ ge. let e : m ≡ min n m = omega arith in inr e) (cases_lt n m)

  pub nearest_push : ((((m : ℕ) → told r ≡ Some (w, m) → ⊥)) → now ≡ least)
      → ((m : ℕ) → told r ≡ Some (w, m) → least ≡ None → now ≡ Some m)
      → ((m n : ℕ) → told r ≡ Some (w, m) → least ≡ Some n → now ≡ Some (min n m))
      → IsNearest (records ++ r ∷ []) w now
  nearest_push other first next =
      ⊎_elim
      (λ (m, is).
      ⊎_elim
      (λ none. subst (λ (o : Option ℕ). IsNearest (records ++ r ∷ []) w o) (sym (first m is none)) (nearest_first m is none))
      (λ (n, some). subst (λ (o : Option ℕ). IsNearest (records ++ r ∷ []) w o) (sym (next m n is some)) (nearest_next m n is some))
      (none_or_some least))
      (λ not_won. nearest_other not_won now (other not_won))
      (won_or_not (told r) w)

-- the farthest of what is gone over, or nothing yet
abbrev pub IsFarthestSoFar : List Record → Option (Player × ℕ) → Type 0
IsFarthestSoFar rs None = rs ≡ []
IsFarthestSoFar rs (Some value) = IsFarthest rs (Some value)

pub farthest_push : (records : List Record) (r : Record) (most : Option (Player × ℕ)) (won now : Player × ℕ)
    → IsFarthestSoFar records most → told r ≡ Some won → (most ≡ None → now ≡ won)
    → ((value : Player × ℕ) → most ≡ Some value → ((now ≡ value) × (won.1 ≤ value.1)) ⊎ ((now ≡ won) × (value.1 ≤ won.1)))
    → IsFarthest (records ++ r ∷ []) (Some now)
farthest_push records r None won now before is first next =
    let same : now ≡ won = first refl in (
      (r, Contains-push records r, is ∙ ap (λ (v : Player × ℕ). Some v) (sym same)),
      λ q here. ⊎_elim
          (λ early. absurd (none_in_empty q (subst (λ (rs : List Record). Contains rs q) before early)))
          (λ last. let e : won.1 ≡ now.1 = ap (λ (v : Player × ℕ). v.1) (sym same) in
          (won.0, won.1, ap (λ (s : Record). told s) (sym last) ∙ is, omega arith))
          (Contains-push_cases records r q here),
    )
farthest_push records r (Some value) won now before is first next = ⊎_elim kept passed (next value refl)
  where
    kept : (now ≡ value) × (won.1 ≤ value.1) → IsFarthest (records ++ r ∷ []) (Some now)
    kept (same, le) =
        let ((q, here, at), all) = before in
        let e : now.1 ≡ value.1 = ap (λ (v : Player × ℕ). v.1) same in (
          (q, in_before records r q here, at ∙ ap (λ (v : Player × ℕ). Some v) (sym same)),
          λ s there. ⊎_elim
              (λ early. let (v, m, told_is, below) = all s early in let le' : m ≤ value.1 = below in (v, m, told_is, omega arith))
              (λ last. (won.0, won.1, ap (λ (t : Record). told t) (sym last) ∙ is, omega arith))
              (Contains-push_cases records r s there),
        )

    passed : (now ≡ won) × (value.1 ≤ won.1) → IsFarthest (records ++ r ∷ []) (Some now)
    passed (same, le) =
        let ((q, here, at), all) = before in
        let e : now.1 ≡ won.1 = ap (λ (v : Player × ℕ). v.1) same in (
          (r, Contains-push records r, is ∙ ap (λ (v : Player × ℕ). Some v) (sym same)),
          λ s there. ⊎_elim
              (λ early. let (v, m, told_is, below) = all s early in let le' : m ≤ value.1 = below in (v, m, told_is, omega arith))
              (λ last. (won.0, won.1, ap (λ (t : Record). told t) (sym last) ∙ is, omega arith))
              (Contains-push_cases records r s there),
        )

pub farthest_done : (records : List Record) (most : Option (Player × ℕ)) → IsFarthestSoFar records most → IsFarthest records most
farthest_done records None is = inl is
farthest_done records (Some value) is = is
