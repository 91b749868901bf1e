-- Lists with commas, read from the front.
use Rattle.std.proofs.Common.{◌≡◌, ◌≢◌, ℕ, zero, suc, ◌+◌, ◌<◌, List, [], ◌∷◌, ◌++◌, map, length, drop, get_or, ap, sym, ◌∙◌, append_assoc, append-nil, add-one, arith}
use Rattle.std.specs.Prelude.{All}
use Rattle.std.specs.List.{flat_map}
use Rattle.std.proofs.lemmas.List.Concat.{flat_map-cons}
use Rattle.std.proofs.lemmas.List.{flat_map_more, length_push, map_push}
use Rattle.position_pack.specs.Texts.{with_commas}
use Rattle.position_pack.specs.lemmas.Spelled.{IsSplitAt, IsSpelledBy, AreWrittenWithCommas}
use Rattle.position_pack.proofs.TellLemmas.{Lacks, lacks, before, commas}
use Rattle.position_pack.proofs.WordLemmas.{not_cut}
use Rattle.position_pack.proofs.ValueBytes.{one_more}

-- each word with a comma after it
abbrev pub followed : List (List ℕ) → List ℕ
followed = flat_map (λ w. w ++ 44 ∷ [])

-- the tail of a list with commas is a comma, and the rest as a list with commas
behind : (f : ℕ → List ℕ) (xs : List ℕ) (x : ℕ) → commas (map f (xs ++ x ∷ [])) ≡ 44 ∷ with_commas (map f (xs ++ x ∷ []))
behind f [] x = flat_map-cons (λ w. 44 ∷ w) (f x) []
behind f (y ∷ ys) x = flat_map-cons (λ w. 44 ∷ w) (f y) (map f (ys ++ x ∷ []))

-- words with a comma after each, and one word more, are a list with commas
joined : (f : ℕ → List ℕ) (xs : List ℕ) (x : ℕ) → with_commas (map f (xs ++ x ∷ [])) ≡ followed (map f xs) ++ f x
joined f [] x = append-nil (f x)
joined f (y ∷ ys) x =
    ap (λ t. f y ++ t) (behind f ys x ∙ ap (λ t. 44 ∷ t) (joined f ys x))
    ∙ sym (ap (λ t. t ++ f x) (flat_map-cons (λ w. w ++ 44 ∷ []) (f y) (map f ys))
    ∙ append_assoc (f y ++ 44 ∷ []) (followed (map f ys)) (f x) ∙ append_assoc (f y) (44 ∷ []) (followed (map f ys) ++ f x))

-- one word more with its comma
followed_more : (f : ℕ → List ℕ) (xs : List ℕ) (x : ℕ) → followed (map f (xs ++ x ∷ [])) ≡ followed (map f xs) ++ (f x ++ 44 ∷ [])
followed_more f xs x = ap followed (map_push f xs x) ∙ sym (flat_map_more (λ w. w ++ 44 ∷ []) [] (map f xs) (f x))

-- a list with commas from a place on: the item there, a comma and the others, or the last item
from_here : (f : ℕ → List ℕ) (ys : List ℕ) (i : ℕ) → suc i < length ys → with_commas (map f (drop i ys)) ≡ f (get_or ys i 0)
    ++ (44 ∷ with_commas (map f (drop (suc i) ys)))
from_here f [] i lt = absurd (omega (arith, lt))
from_here f (y ∷ []) i lt = absurd (omega (arith, lt))
from_here f (y ∷ z ∷ ys) zero lt = ap (λ t. f y ++ t) (flat_map-cons (λ w. 44 ∷ w) (f z) (map f ys))
from_here f (y ∷ z ∷ ys) (suc i) lt = from_here f (z ∷ ys) i (omega (arith, lt))

last_here : (f : ℕ → List ℕ) (ys : List ℕ) (i : ℕ) → i + 1 ≡ length ys → with_commas (map f (drop i ys)) ≡ f (get_or ys i 0)
last_here f [] i e = absurd (omega (arith, e))
last_here f (y ∷ []) zero e = append-nil (f y)
last_here f (y ∷ []) (suc i) e = absurd (omega (arith, e))
last_here f (y ∷ z ∷ ys) zero e = absurd (omega (arith, e))
last_here f (y ∷ z ∷ ys) (suc i) e = last_here f (z ∷ ys) i (omega (arith, e))

-- the first i items are read, and the rest is what stands after them: in whatever the text is the list of, too
pub record IsReadTo (f : ℕ → List ℕ) (Allowed : ℕ → ℕ → Type 0) (count : ℕ) (text : List ℕ) (i : ℕ) (xs rest : List ℕ) : Type 0 where
  pub as_many : length xs ≡ i
  pub allowed : (k : ℕ) → k < i → Allowed k (get_or xs k 0)
  pub text_is : text ≡ followed (map f xs) ++ rest
  pub others : (ys : List ℕ) → AreWrittenWithCommas f Allowed count text ys → rest ≡ with_commas (map f (drop i ys))

-- what is allowed is written with no comma
abbrev pub HasNoComma : (ℕ → List ℕ) → (ℕ → ℕ → Type 0) → ℕ → Type 0
HasNoComma f Allowed count = (k x : ℕ) → k < count → Allowed k x → Lacks 44 (f x)

module _ (f : ℕ → List ℕ) (Allowed : ℕ → ℕ → Type 0) (count : ℕ) (text : List ℕ) where
  -- before the last item the rest has a comma
  pub no_comma_left : (i : ℕ) (xs rest : List ℕ) → IsReadTo f Allowed count text i xs rest → suc i < count → All (λ b. b ≢ 44) rest
      → (ys : List ℕ) → AreWrittenWithCommas f Allowed count text ys → ⊥
  no_comma_left i xs rest so_far lt none ys are =
      not_cut 44 rest _ _ none (so_far.others ys are ∙ from_here f ys i (omega (arith, lt, are.as_many)))

  -- the word before the comma is the item there, and what stands after it is the others
  word_told : (i : ℕ) (xs rest word back : List ℕ) → HasNoComma f Allowed count → IsReadTo f Allowed count text i xs rest → suc i < count
      → IsSplitAt 44 rest word back → (ys : List ℕ) → AreWrittenWithCommas f Allowed count text ys → (word ≡ f (get_or ys i 0))
      × (back ≡ with_commas (map f (drop (suc i) ys)))
  word_told i xs rest word back plain so_far lt cut ys are =
      before 44 word _ back _ (lacks 44 word (λ k h. cut.front_lacks k 0 h))
      (plain i _ (omega (arith, lt)) (are.allowed i (omega (arith, lt))))
      (sym cut.text_is ∙ so_far.others ys are ∙ from_here f ys i (omega (arith, lt, are.as_many)))

  pub no_item : (i : ℕ) (xs rest word back : List ℕ) → HasNoComma f Allowed count → IsReadTo f Allowed count text i xs rest → suc i < count
      → IsSplitAt 44 rest word back → ((x : ℕ) → IsSpelledBy f (Allowed i) word x → ⊥) → (ys : List ℕ) → AreWrittenWithCommas f Allowed count text ys → ⊥
  no_item i xs rest word back plain so_far lt cut none ys are =
      none (get_or ys i 0) record {
        allowed = are.allowed i (omega (arith, lt));
        text_is = (word_told i xs rest word back plain so_far lt cut ys are).0;
      }

  pub item_read : (i x : ℕ) (xs zs rest word back : List ℕ) → HasNoComma f Allowed count → IsReadTo f Allowed count text i xs rest
      → suc i < count → IsSplitAt 44 rest word back → IsSpelledBy f (Allowed i) word x → zs ≡ xs ++ x ∷ [] → IsReadTo f Allowed count text (i + 1) zs back
  item_read i x xs zs rest word back plain so_far lt cut is more = record {
    as_many = ap length more ∙ length_push xs x ∙ ap (λ n. n + 1) so_far.as_many;
    allowed = one_more Allowed xs x i zs so_far.as_many more so_far.allowed is.allowed;
    text_is =
        so_far.text_is ∙ ap (λ t. followed (map f xs) ++ t) (cut.text_is ∙ ap (λ w. w ++ 44 ∷ back) is.text_is ∙ sym (append_assoc (f x) (44 ∷ []) back))
        ∙ sym (append_assoc (followed (map f xs)) (f x ++ 44 ∷ []) back)
        ∙ ap (λ t. t ++ back) (sym (followed_more f xs x) ∙ ap (λ all. followed (map f all)) (sym more));
    others = λ ys are. rw add-one (word_told i xs rest word back plain so_far lt cut ys are).1;
  }

  -- the last place may be named by another term
  pub no_last : (i last : ℕ) (xs rest : List ℕ) → IsReadTo f Allowed count text i xs rest → i ≡ last → last + 1 ≡ count
      → ((x : ℕ) → IsSpelledBy f (Allowed last) rest x → ⊥) → (ys : List ℕ) → AreWrittenWithCommas f Allowed count text ys → ⊥
  no_last i last xs rest so_far here e none ys are =
      none (get_or ys last 0) record {
        allowed = are.allowed last (omega (arith, e));
        text_is = so_far.others ys are ∙ ap (λ n. with_commas (map f (drop n ys))) here ∙ last_here f ys last (omega (arith, e, are.as_many));
      }

  pub all_read : (i last x : ℕ) (xs zs rest : List ℕ) → IsReadTo f Allowed count text i xs rest → i ≡ last → last + 1 ≡ count
      → IsSpelledBy f (Allowed last) rest x → zs ≡ xs ++ x ∷ [] → AreWrittenWithCommas f Allowed count text zs
  all_read i last x xs zs rest so_far here e is more = record {
    as_many = ap length more ∙ length_push xs x ∙ ap (λ n. n + 1) (so_far.as_many ∙ here) ∙ e;
    allowed = λ k lt. one_more Allowed xs x last zs (so_far.as_many ∙ here) more
        (λ j below. so_far.allowed j (omega (arith, below, here))) is.allowed k (omega (arith, lt, e));
    text_is = so_far.text_is ∙ ap (λ t. followed (map f xs) ++ t) is.text_is ∙ sym (joined f xs x) ∙ ap (λ all. with_commas (map f all)) (sym more);
  }
