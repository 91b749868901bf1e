-- Lists that grow, and lists that are gone over.
use Rattle.std.proofs.Common.{◌≡◌, ◌∙◌, sym, ap, ℕ, zero, suc, ◌+◌, ◌<◌, ⊎_elim, Some, List, [], ◌∷◌, ◌++◌, length, map, take, get_or, arith, slice_get, refl, Bool, true, false}
use Rattle.std.specs.Prelude.{All, Contains, ◌==◌}
use Rattle.std.specs.List.{AllZip}
use Rattle.std.proofs.lemmas.Bool.Decides.{eqb_tells}
use Rattle.std.proofs.lemmas.List.{get_or-map, length-map, map_more, take-map, take_more}
use Rattle.std.proofs.lemmas.List.Elements.{All-cons}
use Rattle.std.proofs.lemmas.Option.{slice_get-get_or, slice_get_within, get_or_from_slice_get}

-- one more of a list, as a loop goes over it
pub take_at : {A P : Type 0} (f : A → P) (items : List A) (i : ℕ) (x : A) → i < length items → x ≡ get_or items i x
    → take (i + 1) (map f items) ≡ take i (map f items) ++ f x ∷ []
take_at f items i x within is =
    take-map f (i + 1) items
    ∙ (map_more f items i x within
    ∙ (ap (λ z. map f (take i items) ++ f z ∷ []) (sym is)
    ∙ ap (λ zs. zs ++ f x ∷ []) (sym (take-map f i items))))

pub take_one : {A : Type 0} (items : List A) (i : ℕ) (x : A) → i < length items → x ≡ get_or items i x
    → take (i + 1) items ≡ take i items ++ x ∷ []
take_one items i x within is = take_more items i x within ∙ ap (λ z. take i items ++ z ∷ []) (sym is)

-- the element of a list that a loop has come to
pub item_at : {A P : Type 0} (f : A → P) (items : List A) (i : ℕ) (x : A) → i < length items → x ≡ get_or items i x → slice_get (map f items) i ≡ Some (f x)
item_at f items i x within is =
    let longer : i < length (map f items) = let same : length (map f items) ≡ length items = length-map items f in omega arith in
    slice_get-get_or (map f items) i (f x) longer ∙ ap (λ y. Some y) (get_or-map f items i x (f x) within ∙ ap f (sym is))

-- two lists grow together
pub zip_push : {A B : Type 0} (R : A → B → Type 0) (xs : List A) (ys : List B) (x : A) (y : B) → AllZip R xs ys → R x y → AllZip R (xs ++ x ∷ []) (ys ++ y ∷ [])
zip_push R [] [] x y zip now = (now, tt)
zip_push R [] (z ∷ ys) x y zip now = absurd zip
zip_push R (z ∷ xs) [] x y zip now = absurd zip
zip_push R (z ∷ xs) (w ∷ ys) x y zip now = (zip.0, zip_push R xs ys x y zip.1 now)

-- what is in a list that has grown
pub in_before : {A : Type 0} (xs : List A) (y x : A) → Contains xs x → Contains (xs ++ y ∷ []) x
in_before [] y x (k, within, is) = absurd (omega arith)
in_before (z ∷ xs) y x (zero, within, is) = (zero, omega arith, is)
in_before (z ∷ xs) y x (suc k, within, is) =
    let (j, later, at) = in_before xs y x (k, omega arith, is) in
    (suc j, omega arith, at)

-- a test that a list is empty
nothing_in : {A : Type 0} (xs : List A) → length xs ≡ 0 → xs ≡ []
nothing_in [] none = refl
nothing_in (x ∷ xs) none = absurd (omega arith)

pub is_nil : {A : Type 0} (b : Bool) (xs : List A) → b ≡ (length xs == 0) → b ≡ true → xs ≡ []
is_nil b xs is done =
    ⊎_elim
    (λ (_, none). nothing_in xs none)
    (λ (fails, _). let both : true ≡ false = sym done ∙ (is ∙ fails) in cc)
    (eqb_tells (length xs) 0)

pub not_nil : {A : Type 0} (b : Bool) (xs : List A) → b ≡ (length xs == 0) → b ≡ false → xs ≡ [] → ⊥
not_nil b xs is fails same =
    ⊎_elim
    (λ (passes, _). let both : true ≡ false = sym passes ∙ (sym is ∙ fails) in cc)
    (λ (_, some). some (ap (λ ys. length ys) same))
    (eqb_tells (length xs) 0)

-- an element at its place
pub contains_at : {A : Type 0} (xs : List A) (k : ℕ) (x : A) → slice_get xs k ≡ Some x → Contains xs x
contains_at xs k x at = (k, slice_get_within xs k x at, get_or_from_slice_get xs k x x at)

pub at_contains : {A : Type 0} (xs : List A) (x : A) → Contains xs x → (k : ℕ) × (slice_get xs k ≡ Some x)
at_contains xs x (k, within, is) = (k, slice_get-get_or xs k x within ∙ ap (λ y. Some y) is)

-- what holds of all, and of one more
pub all_push : {A : Type 0} (Q : A → Type 0) (xs : List A) (y : A) → All Q xs → Q y → All Q (xs ++ y ∷ [])
all_push Q [] y before now = All-cons Q y [] now before
all_push Q (x ∷ xs) y before now = All-cons Q x (xs ++ y ∷ []) (before 0 x (omega arith)) (all_push Q xs y (λ k d lt. before (suc k) d (omega arith)) now)
