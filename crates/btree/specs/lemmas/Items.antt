-- Items that stand one after another, each as wide as any other.
use Rattle.std.specs.Prelude.{◌≡◌, ℕ, zero, suc, ◌+◌, ◌*◌, ◌≤◌, ◌<◌, List, [], ◌∷◌, ◌++◌, length, take, drop, slice_get, Some}
use Rattle.std.proofs.Common.{refl, sym, ◌∙◌, ap, arith, length-drop}
use Rattle.std.proofs.lemmas.List.{take-append-le, drop-append-le, drop-drop}
use Rattle.btree.specs.Page.{Item, items_of}

pub length-items : (key behind n : ℕ) (bytes : List ℕ) → length (items_of key behind n bytes) ≡ n
length-items key behind zero bytes = refl
length-items key behind (suc n) bytes = omega (arith, length-items key behind n (drop (key + behind) bytes))

-- the item of a place
abbrev pub item_of : ℕ → ℕ → ℕ → List ℕ → Item
item_of key behind k bytes = (take key (drop (k * (key + behind)) bytes), take behind (drop key (drop (k * (key + behind)) bytes)))

pub item_got : (key behind n k : ℕ) (bytes : List ℕ) → k < n → slice_get (items_of key behind n bytes) k ≡ Some (item_of key behind k bytes)
item_got key behind zero k bytes low = absurd (omega (arith, low))
item_got key behind (suc n) zero bytes low =
    let none : 0 * (key + behind) ≡ 0 = omega arith in
    λ i. Some (take key (drop (sym none i) bytes), take behind (drop key (drop (sym none i) bytes)))
item_got key behind (suc n) (suc k) bytes low =
    let on : key + behind + k * (key + behind) ≡ suc k * (key + behind) = omega arith in
    let same : drop (k * (key + behind)) (drop (key + behind) bytes) ≡ drop (suc k * (key + behind)) bytes =
    drop-drop (k * (key + behind)) (key + behind) bytes ∙ ap (λ m. drop m bytes) on in
    item_got key behind n k (drop (key + behind) bytes) (omega (arith, low))
    ∙ (λ i. Some (take key (same i), take behind (drop key (same i))))

-- one part after another
pub items-append : (key behind m n total : ℕ) (a b : List ℕ) → total ≡ m + n → length a ≡ m * (key + behind)
    → items_of key behind total (a ++ b) ≡ items_of key behind m a ++ items_of key behind n b
items-append key behind zero n total [] b sum long = ap (λ t. items_of key behind t b) (omega (arith, sum))
items-append key behind zero n total (x ∷ a) b sum long = absurd (omega (arith, long))
items-append key behind (suc m) n zero a b sum long = absurd (omega (arith, sum))
items-append key behind (suc m) n (suc total) a b sum long =
    let width : key + behind ≤ length a = omega (arith, long) in
    let fits : key ≤ length a = omega (arith, width) in
    let room : behind ≤ length (drop key a) = omega (arith, width, length-drop key a) in
    let front : take key (a ++ b) ≡ take key a = take-append-le key a b fits in
    let back : take behind (drop key (a ++ b)) ≡ take behind (drop key a) =
    ap (take behind) (drop-append-le key a b fits) ∙ take-append-le behind (drop key a) b room in
    let rest : items_of key behind total (drop (key + behind) (a ++ b)) ≡ items_of key behind m
    (drop (key + behind) a) ++ items_of key behind n b =
    ap (items_of key behind total) (drop-append-le (key + behind) a b width)
    ∙ items-append key behind m n total (drop (key + behind) a) b (omega (arith, sum))
    (omega (arith, long, length-drop (key + behind) a)) in
    λ i. (front i, back i) ∷ rest i

-- what stands after them does not count
pub items-front : (key behind n : ℕ) (a b : List ℕ) → length a ≡ n * (key + behind)
    → items_of key behind n (a ++ b) ≡ items_of key behind n a
items-front key behind zero a b long = refl
items-front key behind (suc n) a b long =
    let width : key + behind ≤ length a = omega (arith, long) in
    let fits : key ≤ length a = omega (arith, width) in
    let room : behind ≤ length (drop key a) = omega (arith, width, length-drop key a) in
    let front : take key (a ++ b) ≡ take key a = take-append-le key a b fits in
    let back : take behind (drop key (a ++ b)) ≡ take behind (drop key a) =
    ap (take behind) (drop-append-le key a b fits) ∙ take-append-le behind (drop key a) b room in
    let rest : items_of key behind n (drop (key + behind) (a ++ b)) ≡ items_of key behind n (drop (key + behind) a) =
    ap (items_of key behind n) (drop-append-le (key + behind) a b width)
    ∙ items-front key behind n (drop (key + behind) a) b (omega (arith, long, length-drop (key + behind) a)) in
    λ i. (front i, back i) ∷ rest i
