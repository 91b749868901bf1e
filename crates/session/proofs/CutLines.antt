-- How an input is cut into lines.
use Rattle.std.proofs.Common.{◌≡◌, ◌≢◌, inl, inr, ◌≤◌, ◌+◌, ℕ, List, [], ◌∷◌, ◌++◌, length, get_or, drop, refl, ap, sym, ◌∙◌, append_assoc, append-nil, arith}
use Rattle.std.specs.List.{flat_map}
use Rattle.std.proofs.lemmas.Bool.Decides.{eqb_tells}
use Rattle.std.proofs.lemmas.List.Concat.{flat_map-append}
use Rattle.std.proofs.lemmas.List.Elements.{All-nil, All-push}
use Rattle.session_lines.specs.Asked.{IsBare}
use Rattle.session.specs.Cut.{IsCutInto, HasNoLineFeed, with_lf}

-- of no bytes there is no line, and nothing waits
pub no_lines : IsCutInto [] [] []
no_lines = record { bytes_are = refl; single = All-nil HasNoLineFeed }

pub nothing_waits : HasNoLineFeed []
nothing_waits = All-nil (λ byte. byte ≢ 10)

-- what stands behind the last LF goes on
pub more_bytes : {bytes rest : List ℕ} {lines : List (List ℕ)} (more : List ℕ) → IsCutInto bytes lines rest → IsCutInto (bytes ++ more) lines (rest ++ more)
more_bytes {bytes} {rest} {lines} more are =
    record { bytes_are = ap (λ bs. bs ++ more) are.bytes_are ∙ append_assoc (flat_map with_lf lines) rest more; single = are.single }

-- a byte that is no LF goes on with the line
pub another_byte : (rest : List ℕ) (byte : ℕ) → HasNoLineFeed rest → byte ≢ 10 → HasNoLineFeed (rest ++ byte ∷ [])
another_byte rest byte single other = All-push (λ b. b ≢ 10) rest byte single other

-- LF ends what stands behind the last one
pub another_line : {bytes rest : List ℕ} {lines : List (List ℕ)} → IsCutInto bytes lines rest → HasNoLineFeed rest
    → IsCutInto (bytes ++ 10 ∷ []) (lines ++ rest ∷ []) []
another_line {bytes} {rest} {lines} are single = record {
  bytes_are =
      let one : flat_map with_lf (rest ∷ []) ≡ rest ++ 10 ∷ [] = append-nil (rest ++ 10 ∷ []) in
      ap (λ bs. bs ++ 10 ∷ []) are.bytes_are ∙ append_assoc (flat_map with_lf lines) rest (10 ∷ [])
      ∙ sym (append-nil _ ∙ flat_map-append with_lf lines (rest ∷ []) ∙ ap (λ bs. flat_map with_lf lines ++ bs) one);
  single = All-push HasNoLineFeed lines rest are.single single;
}

-- a line alone
pub one_line : {line : List ℕ} (behind : List ℕ) → HasNoLineFeed line → IsCutInto (with_lf line ++ behind) (line ∷ []) behind
one_line {line} behind single =
    record { bytes_are = ap (λ bs. bs ++ behind) (sym (append-nil (with_lf line))); single = All-push HasNoLineFeed [] line (All-nil HasNoLineFeed) single }

head_same : {x y : ℕ} {xs ys : List ℕ} → x ∷ xs ≡ y ∷ ys → x ≡ y
head_same is = ap (λ (l : List ℕ). get_or l 0 0) is

tail_same : {x y : ℕ} {xs ys : List ℕ} → x ∷ xs ≡ y ∷ ys → xs ≡ ys
tail_same is = ap (λ (l : List ℕ). drop 1 l) is

nil_cons : (x : ℕ) (xs : List ℕ) → x ∷ xs ≡ [] → ⊥
nil_cons x xs e = cc

-- no bytes end with a CR
no_end : (bytes front : List ℕ) → bytes ≡ [] → bytes ≡ front ++ 13 ∷ [] → ⊥
no_end bytes [] none is = nil_cons 13 [] (sym is ∙ none)
no_end bytes (x ∷ xs) none is = nil_cons x (xs ++ 13 ∷ []) (sym is ∙ none)

-- one byte that is no CR
one_end : (byte : ℕ) (front : List ℕ) → byte ≢ 13 → byte ∷ [] ≡ front ++ 13 ∷ [] → ⊥
one_end byte [] other is = other (head_same is)
one_end byte (x ∷ xs) other is = no_end [] xs refl (tail_same is)

-- more bytes
more_end : (byte next : ℕ) (bytes front : List ℕ) → ((front : List ℕ) → next ∷ bytes ≢ front ++ 13 ∷ []) → byte ∷ (next ∷ bytes) ≡ front ++ 13 ∷ [] → ⊥
more_end byte next bytes [] none is = nil_cons next bytes (tail_same is)
more_end byte next bytes (x ∷ xs) none is = none xs (tail_same is)

-- every line has a form without the CR at its end, one byte shorter at most
pub bare_form : (bytes : List ℕ) → (line : List ℕ) × IsBare bytes line × (length bytes ≤ length line + 1)
bare_form [] = ([], inr (refl, λ front. no_end [] front refl), omega arith)
bare_form (byte ∷ []) = elim (eqb_tells byte 13) [
  | inl cr ↦ ([], inl (ap (λ b. b ∷ []) cr.1), omega arith)
  | inr other ↦ (byte ∷ [], inr (refl, λ front. one_end byte front other.1), omega arith)
]
bare_form (byte ∷ (next ∷ bytes)) =
    let (line, form, long) = bare_form (next ∷ bytes) in
    elim form [
      | inl is ↦ (byte ∷ line, inl (ap (λ xs. byte ∷ xs) is), omega (arith, long))
      | inr same ↦ (byte ∷ line, inr (ap (λ xs. byte ∷ xs) same.0, λ front. more_end byte next bytes front same.1), omega (arith, long))
    ]
