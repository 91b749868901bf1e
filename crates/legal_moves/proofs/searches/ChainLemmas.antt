-- Chains grow by one index, and lead to all that have a bucket.
use Rattle.std.proofs.Common.{◌≡◌, ℕ, zero, suc, ◌+◌, ◌-◌, ◌<◌, ◌≤◌, ◌⊎◌, inl, inr, List, [], ◌∷◌, ◌++◌, length, map, replicate, Some, slice_get, slice_index, slice_set, refl, sym, ap, ◌∙◌, subst, arith, length-append}
use Rattle.std.proofs.lemmas.Bool.{cases_lt}
use Rattle.std.proofs.lemmas.List.{get_or-replicate, get_or-set_other, get_or_append_left}
use Rattle.std.proofs.lemmas.Grind.{get_or-set_at}
use Rattle.std.proofs.lemmas.List.{length-map}
use Rattle.legal_moves.specs.lemmas.Chains.{IsLatest, AreChained}
use Rattle.legal_moves.specs.declared.search.chains.Chains.{Chains}
use Rattle.legal_moves.proofs.GetLemmas.{slice_get-append, slice_get-push, slice_get-end, slice_get-within}

-- none below n that has the bucket is after the latest
pub latest_bounds : (buckets : List ℕ) (bucket n at : ℕ) → IsLatest buckets bucket n at → (i : ℕ) → i < n → slice_get buckets i ≡ Some bucket → i < at
latest_bounds buckets bucket n zero h i less is = absurd (h i less is)
latest_bounds buckets bucket n (suc k) h i less is = go (cases_lt k i)
  where
    go : (k < i) ⊎ (i ≤ k) → i < suc k
    go (inl later) = absurd (h.2 i later less is)
    go (inr upto) = omega (arith, upto)

-- the latest has the bucket, if there is one
pub latest_has : (buckets : List ℕ) (bucket n at : ℕ) → IsLatest buckets bucket n at → ¬ (at ≡ 0) → (k : ℕ) × (at ≡ k + 1) × (k < n)
    × (slice_get buckets k ≡ Some bucket)
latest_has buckets bucket n zero h some = absurd (some refl)
latest_has buckets bucket n (suc k) h some = (k, omega arith, h.0, h.1)

-- an element of a list with one more, before its end
old_at : (xs : List ℕ) (y i x : ℕ) → i < length xs → slice_get (xs ++ y ∷ []) i ≡ Some x → slice_get xs i ≡ Some x
old_at xs y i x inside is = elim (slice_get-push xs y i x is) [
  | inl there ↦ there
  | inr end ↦ absurd (omega (arith, inside, end.0))
]

-- what is latest below n stays so where the list grows
latest_kept : (buckets : List ℕ) (more bucket n at : ℕ) → n ≤ length buckets → IsLatest buckets bucket n at → IsLatest (buckets ++ more ∷ []) bucket n at
latest_kept buckets more bucket n zero inside h = λ i less is. h i less (old_at buckets more i bucket (omega (arith, less, inside)) is)
latest_kept buckets more bucket n (suc k) inside h = (
  h.0,
  slice_get-append buckets (more ∷ []) k bucket h.1,
  λ i later less is. h.2 i later less (old_at buckets more i bucket (omega (arith, less, inside)) is),
)

-- one that has another bucket is not the latest
latest_other : (buckets : List ℕ) (more bucket at : ℕ) → ¬ (bucket ≡ more) → IsLatest buckets bucket (length buckets) at
    → IsLatest (buckets ++ more ∷ []) bucket (length (buckets ++ more ∷ [])) at
latest_other buckets more bucket at differs h = go at (latest_kept buckets more bucket (length buckets) at (omega arith) h)
  where
    not_end : (i : ℕ) → i < length (buckets ++ more ∷ []) → slice_get (buckets ++ more ∷ []) i ≡ Some bucket → i < length buckets
    not_end i less is = elim (slice_get-push buckets more i bucket is) [
      | inl there ↦ slice_get-within buckets i bucket there
      | inr end ↦ absurd (differs end.1)
    ]

    go : (a : ℕ) → IsLatest (buckets ++ more ∷ []) bucket (length buckets) a → IsLatest (buckets ++ more ∷ []) bucket (length (buckets ++ more ∷ [])) a
    go zero k = λ i less is. k i (not_end i less is) is
    go (suc m) k = (omega (arith, k.0, length-append buckets (more ∷ [])), k.1, λ i later less is. k.2 i later (not_end i less is) is)

-- the newest is the latest of its bucket
latest_new : (buckets : List ℕ) (more : ℕ) → IsLatest (buckets ++ more ∷ []) more (length (buckets ++ more ∷ [])) (suc (length buckets))
latest_new buckets more = (
  omega (arith, length-append buckets (more ∷ [])),
  slice_get-end buckets more,
  λ i later less is. absurd (omega (arith, later, less, length-append buckets (more ∷ []))),
)

-- nothing is chained
pub chained_none : (chains : Chains) → chains.heads.items ≡ replicate 512 0 → chains.befores.items ≡ [] → AreChained [] chains
chained_none chains heads befores = record {
  as_many = ap length befores;
  heads = λ bucket less. subst (IsLatest [] bucket 0) (sym (ap (λ xs. slice_index xs bucket) heads ∙ get_or-replicate 512 bucket 0 0 less))
      (λ i below is. absurd (omega (arith, below)));
  befores = λ i bucket is. absurd (cc);
}

module _ (buckets : List ℕ) (more : ℕ) (old new : Chains) (chained : AreChained buckets old) (small : more < 512)
    (many : length old.heads.items ≡ 512) (pushed : new.befores.items ≡ old.befores.items ++ slice_index old.heads.items more ∷ [])
    (headed : new.heads.items ≡ slice_set old.heads.items more (suc (length old.befores.items))) where
  head : (bucket : ℕ) → bucket < 512 → (bucket < more) ⊎ (more ≤ bucket)
      → IsLatest (buckets ++ more ∷ []) bucket (length (buckets ++ more ∷ [])) (slice_index new.heads.items bucket)
  head bucket less which = go (bucket_is which)
    where
      bucket_is : (bucket < more) ⊎ (more ≤ bucket) → (bucket ≡ more) ⊎ ¬ (bucket ≡ more)
      bucket_is (inl lower) = inr (λ same. absurd (omega (arith, lower, same)))
      bucket_is (inr upper) = elim (cases_lt more bucket) [
        | inl above ↦ inr (λ same. absurd (omega (arith, above, same)))
        | inr upto ↦ inl (omega (arith, upper, upto))
      ]

      go : (bucket ≡ more) ⊎ ¬ (bucket ≡ more) → IsLatest (buckets ++ more ∷ []) bucket (length (buckets ++ more ∷ [])) (slice_index new.heads.items bucket)
      go (inl same) =
          let at : slice_index new.heads.items bucket ≡ suc (length buckets) = ap (λ xs. slice_index xs bucket) headed
          ∙ get_or-set_at old.heads.items more bucket (suc (length old.befores.items)) 0 same (omega (arith, small, many)) ∙ ap suc chained.as_many in
          subst (IsLatest (buckets ++ more ∷ []) bucket (length (buckets ++ more ∷ []))) (sym at)
          (subst (λ b. IsLatest (buckets ++ more ∷ []) b (length (buckets ++ more ∷ [])) (suc (length buckets))) (sym same) (latest_new buckets more))
      go (inr differs) =
          let at : slice_index new.heads.items bucket ≡ slice_index old.heads.items bucket = ap (λ xs. slice_index xs bucket) headed
          ∙ get_or-set_other old.heads.items more bucket (suc (length old.befores.items)) 0 differs in
          subst (IsLatest (buckets ++ more ∷ []) bucket (length (buckets ++ more ∷ []))) (sym at)
          (latest_other buckets more bucket (slice_index old.heads.items bucket) differs (chained.heads bucket less))

  before : (i bucket : ℕ) → (slice_get buckets i ≡ Some bucket) ⊎ (i ≡ length buckets) × (bucket ≡ more)
      → IsLatest (buckets ++ more ∷ []) bucket i (slice_index new.befores.items i)
  before i bucket (inl there) =
      let inside = slice_get-within buckets i bucket there in
      let at : slice_index new.befores.items i ≡ slice_index old.befores.items i = ap (λ xs. slice_index xs i) pushed
      ∙ get_or_append_left old.befores.items (slice_index old.heads.items more ∷ []) 0 i (omega (arith, inside, chained.as_many)) in
      subst (IsLatest (buckets ++ more ∷ []) bucket i) (sym at)
      (latest_kept buckets more bucket i (slice_index old.befores.items i) (omega (arith, inside)) (chained.befores i bucket there))
  before i bucket (inr end) =
      let end_is : i ≡ length old.befores.items = omega (arith, end.0, chained.as_many) in
      let at : slice_index new.befores.items i ≡ slice_index old.heads.items more = ap (λ xs. slice_index xs i) pushed
      ∙ ap (slice_index (old.befores.items ++ slice_index old.heads.items more ∷ [])) end_is
      ∙ at_end old.befores.items (slice_index old.heads.items more) in
      subst (IsLatest (buckets ++ more ∷ []) bucket i) (sym at)
      (subst (λ j. IsLatest (buckets ++ more ∷ []) bucket j (slice_index old.heads.items more)) (sym end.0)
      (subst (λ b. IsLatest (buckets ++ more ∷ []) b (length buckets) (slice_index old.heads.items more)) (sym end.1)
      (latest_kept buckets more more (length buckets) (slice_index old.heads.items more) (omega arith) (chained.heads more small))))
    where
      at_end : (xs : List ℕ) (y : ℕ) → slice_index (xs ++ y ∷ []) (length xs) ≡ y
      at_end [] y = refl
      at_end (x ∷ xs) y = at_end xs y

  -- one index more is chained
  pub chained_more : AreChained (buckets ++ more ∷ []) new
  chained_more = record {
    as_many = ap length pushed ∙ length-append old.befores.items _ ∙ ap (λ n. n + 1) chained.as_many ∙ sym (length-append buckets (more ∷ []));
    heads = λ bucket less. head bucket less (cases_lt bucket more);
    befores = λ i bucket is. before i bucket (slice_get-push buckets more i bucket is);
  }

-- ---- along a chain

module _ {A : Type 0} (bucket_of : A → ℕ) (items : List A) (IsWanted : A → Type 0) (bucket : ℕ) where
  -- those that are wanted are before the place to look at next, which has the bucket
  pub record IsAlong (at : ℕ) : Type 0 where
    pub upto : (i : ℕ) (x : A) → slice_get items i ≡ Some x → IsWanted x → i < at
    pub inside : at ≤ length items
    pub here : ¬ (at ≡ 0) → slice_get (map bucket_of items) (at - 1) ≡ Some bucket

  mapped : (xs : List A) (i : ℕ) (x : A) → slice_get xs i ≡ Some x → slice_get (map bucket_of xs) i ≡ Some (bucket_of x)
  mapped [] i x h = absurd (cc)
  mapped (y ∷ xs) zero x h = let e : y ≡ x = cc in ap (λ z. Some (bucket_of z)) e
  mapped (y ∷ xs) (suc i) x h = mapped xs i x h

  module _ (same : (x : A) → IsWanted x → bucket_of x ≡ bucket) where
    along : (at n : ℕ) → n ≤ length items → IsLatest (map bucket_of items) bucket n at
        → ((i : ℕ) (x : A) → slice_get items i ≡ Some x → IsWanted x → i < n) → IsAlong at
    along at n within latest below = record {
      upto = λ i x is wanted. latest_bounds (map bucket_of items) bucket n at latest i (below i x is wanted) (mapped items i x is ∙ ap Some (same x wanted));
      inside = bound at latest;
      here = λ some. let h = latest_has (map bucket_of items) bucket n at latest some in
          subst (λ k. slice_get (map bucket_of items) k ≡ Some bucket) (omega (arith, h.1)) h.3;
    }
      where
        bound : (a : ℕ) → IsLatest (map bucket_of items) bucket n a → a ≤ length items
        bound zero l = omega arith
        bound (suc k) l = omega (arith, l.0, within)

    -- where a chain begins
    pub along_first : (chains : Chains) → AreChained (map bucket_of items) chains → bucket < 512 → IsAlong (slice_index chains.heads.items bucket)
    along_first chains chained small =
        along (slice_index chains.heads.items bucket) (length items) (omega arith)
        (subst (λ n. IsLatest (map bucket_of items) bucket n (slice_index chains.heads.items bucket)) (length-map items bucket_of)
        (chained.heads bucket small)) (λ i x is wanted. slice_get-inside items i x is)
      where
        slice_get-inside : (xs : List A) (i : ℕ) (x : A) → slice_get xs i ≡ Some x → i < length xs
        slice_get-inside = slice_get-within

    -- and on from one that is not wanted
    pub along_next : (chains : Chains) (at : ℕ) (x : A) → AreChained (map bucket_of items) chains → ¬ (at ≡ 0) → IsAlong at
        → slice_get items (at - 1) ≡ Some x → ¬ IsWanted x → IsAlong (slice_index chains.befores.items (at - 1))
        × (slice_index chains.befores.items (at - 1) < at)
    along_next chains at x chained some h is unwanted =
        let latest = chained.befores (at - 1) bucket (h.here some) in (
          along (slice_index chains.befores.items (at - 1)) (at - 1) (omega (arith, h.inside)) latest
              (λ i y is_y wanted. below i y is_y wanted (h.upto i y is_y wanted)),
          less (slice_index chains.befores.items (at - 1)) latest,
        )
      where
        below : (i : ℕ) (y : A) → slice_get items i ≡ Some y → IsWanted y → i < at → i < at - 1
        below i y is_y wanted less_at = elim (cases_lt i (at - 1)) [
          | inl less ↦ less
          | inr past ↦
              let index : i ≡ at - 1 = omega (arith, past, less_at) in
              let both : Some y ≡ Some x = sym is_y ∙ ap (slice_get items) index ∙ is in
              let one : y ≡ x = cc in
              absurd (unwanted (subst IsWanted one wanted))
        ]

        less : (a : ℕ) → IsLatest (map bucket_of items) bucket (at - 1) a → a < at
        less zero l = omega (arith, some)
        less (suc k) l = omega (arith, l.0)

  -- at the end of a chain none is wanted
  pub along_end : IsAlong 0 → (i : ℕ) (x : A) → slice_get items i ≡ Some x → ¬ IsWanted x
  along_end h i x is wanted = absurd (omega (arith, h.upto i x is wanted))
