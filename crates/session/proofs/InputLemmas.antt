-- What was read of an input.
use Rattle.std.proofs.Common.{◌≡◌, ◌<◌, ◌+◌, ℕ, zero, suc, add-one, List, [], ◌∷◌, ◌++◌, length, take, drop, get_or, Option, Some, None, refl, ap, sym, subst, ◌∙◌, append_assoc, append-nil, arith}
use Rattle.std.proofs.lemmas.List.{take-append-drop}
use Rattle.std.specs.Io.KnownBytes.{Consumes, Keeps}

pub consumes_nothing : (a : Option (List ℕ)) → Consumes a a []
consumes_nothing None = tt
consumes_nothing (Some xs) = refl

pub consumes_then : (a b c : Option (List ℕ)) (x y : List ℕ) → Consumes a b x → Consumes b c y → Consumes a c (x ++ y)
consumes_then None b c x y h k = tt
consumes_then (Some xs) None c x y h k = absurd h
consumes_then (Some xs) (Some ys) None x y h k = absurd k
consumes_then (Some xs) (Some ys) (Some zs) x y h k = h ∙ ap (λ t. x ++ t) k ∙ sym (append_assoc x y zs)

pub consumes_none : (a b c : Option (List ℕ)) (x y : List ℕ) → Consumes a b x → Consumes b c y → y ≡ [] → Consumes a c x
consumes_none a b c x y h k none = subst (Consumes a c) (ap (λ t. x ++ t) none ∙ append-nil x) (consumes_then a b c x y h k)

pub consumes_and_keeps : (a b c : Option (List ℕ)) (x : List ℕ) → Consumes a b x → Keeps b c → Consumes a c x
consumes_and_keeps None b c x h k = tt
consumes_and_keeps (Some xs) None c x h k = absurd h
consumes_and_keeps (Some xs) (Some ys) None x h k = absurd k
consumes_and_keeps (Some xs) (Some ys) (Some zs) x h k = h ∙ ap (λ t. x ++ t) (sym k)

pub take_next : (xs : List ℕ) (i d : ℕ) → i < length xs → take (i + 1) xs ≡ take i xs ++ get_or xs i d ∷ []
take_next [] i d lt = absurd (omega (arith, lt))
take_next (x ∷ xs) zero d lt = refl
take_next (x ∷ xs) (suc i) d lt =
    let rest = take_next xs i d (omega (arith, lt)) in
    let next = rw add-one at rest in
    rw add-one (ap (λ t. x ∷ t) next)

-- one more of these bytes, and then the others
pub next_and_others : (bytes chunk : List ℕ) (i byte : ℕ) → take (i + 1) chunk ≡ take i chunk ++ byte ∷ []
    → ((bytes ++ take i chunk) ++ byte ∷ []) ++ drop (i + 1) chunk ≡ bytes ++ chunk
next_and_others bytes chunk i byte next =
    ap (λ t. t ++ drop (i + 1) chunk) (append_assoc bytes (take i chunk) (byte ∷ []) ∙ ap (λ t. bytes ++ t) (sym next))
    ∙ append_assoc bytes (take (i + 1) chunk) (drop (i + 1) chunk) ∙ ap (λ t. bytes ++ t) (take-append-drop (i + 1) chunk)
