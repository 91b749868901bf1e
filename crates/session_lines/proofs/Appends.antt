-- What a writer holds after several writes.
use Rattle.std.proofs.Common.{ℕ, List, [], ◌++◌, Option, Some, None, ap, sym, ◌∙◌, append_assoc, append-nil}
use Rattle.std.specs.Io.KnownBytes.{Appends, Keeps}

pub appends_then : (a b c : Option (List ℕ)) (x y : List ℕ) → Appends a b x → Appends b c y → Appends a c (x ++ y)
appends_then None b c x y h k = tt
appends_then (Some xs) None c x y h k = absurd h
appends_then (Some xs) (Some ys) None x y h k = absurd k
appends_then (Some xs) (Some ys) (Some zs) x y h k = k ∙ ap (λ t. t ++ y) h ∙ append_assoc xs x y

pub appends_nothing : (a : Option (List ℕ)) → Appends a a []
appends_nothing None = tt
appends_nothing (Some xs) = sym (append-nil xs)

pub appends_and_keeps : (a b c : Option (List ℕ)) (x : List ℕ) → Appends a b x → Keeps b c → Appends a c x
appends_and_keeps None b c x h k = tt
appends_and_keeps (Some xs) None c x h k = absurd h
appends_and_keeps (Some xs) (Some ys) None x h k = absurd k
appends_and_keeps (Some xs) (Some ys) (Some zs) x h k = k ∙ h
