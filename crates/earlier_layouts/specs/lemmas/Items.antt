-- Items that follow one another in bytes, where each takes as many.
use Rattle.std.specs.Prelude.{◌≡◌, ℕ, ◌*◌, ◌≤◌, ◌<◌, List, [], ◌∷◌, ◌++◌, length}
use Rattle.std.proofs.Common.{refl, sym, ap, subst, ◌∙◌, append_assoc, length-append, arith}
use Rattle.std.proofs.lemmas.List.{append-nil}
use Rattle.game_file.specs.lemmas.Records.{same_fronts}
use Rattle.earlier_layouts.specs.Spelled.{AreSpelled}

-- each item takes this many bytes, which are those of no other
pub record IsFixed {A : Type 0} (IsOf : List ℕ → A → Type 0) (width : ℕ) : Type 0 where
  pub long : (bytes : List ℕ) (x : A) → IsOf bytes x → length bytes ≡ width
  pub one : (bytes : List ℕ) (x y : A) → IsOf bytes x → IsOf bytes y → x ≡ y

-- one more item
pub spelled_more : {A : Type 0} (IsOf : List ℕ → A → Type 0) (bytes : List ℕ) (xs : List A) (one : List ℕ) (x : A)
    → AreSpelled IsOf bytes xs → IsOf one x
    → AreSpelled IsOf (bytes ++ one) (xs ++ x ∷ [])
spelled_more IsOf bytes [] one x is of = (one, [], ap (λ (b : List ℕ). b ++ one) is ∙ sym (append-nil one), of, refl)
spelled_more IsOf bytes (y ∷ ys) one x (first, rest, is, first_of, more) of =
    (first, rest ++ one, ap (λ (b : List ℕ). b ++ one) is ∙ append_assoc first rest one, first_of, spelled_more IsOf rest ys one x more of)

-- what items of one width say of one another
module _ {A : Type 0} (IsOf : List ℕ → A → Type 0) (width : ℕ) (fixed : IsFixed IsOf width) where
  -- how many bytes they take
  pub spelled_long : (bytes : List ℕ) (xs : List A) → AreSpelled IsOf bytes xs → length bytes ≡ length xs * width
  spelled_long bytes [] is = omega (arith, ap length is)
  spelled_long bytes (x ∷ xs) (one, rest, is, of, more) =
      let here : length one ≡ width = fixed.long one x of in
      let later : length rest ≡ length xs * width = spelled_long rest xs more in
      omega (arith, ap length is, length-append one rest)

  -- the same bytes spell the same items
  pub spelled_same : (bytes : List ℕ) (xs ys : List A) → AreSpelled IsOf bytes xs → AreSpelled IsOf bytes ys → length xs ≡ length ys
      → xs ≡ ys
  spelled_same bytes [] [] a b long = refl
  spelled_same bytes [] (y ∷ ys) a b long = absurd (cc)
  spelled_same bytes (x ∷ xs) [] a b long = absurd (cc)
  spelled_same bytes (x ∷ xs) (y ∷ ys) (one, rest, is, of, more) (other, back, other_is, other_of, other_more) long =
      let (same, behind) = same_fronts one other rest back (fixed.long one x of ∙ sym (fixed.long other y other_of)) (sym is ∙ other_is) in
      let head : x ≡ y = fixed.one other x y (subst (λ (b : List ℕ). IsOf b x) same of) other_of in
      let tail : xs ≡ ys = spelled_same back xs ys (subst (λ (b : List ℕ). AreSpelled IsOf b xs) behind more) other_more
      (omega (arith, long)) in
      cc

  -- more bytes spell these items and then more
  pub spelled_behind : (bytes more : List ℕ) (xs zs : List A) → AreSpelled IsOf bytes xs → AreSpelled IsOf (bytes ++ more) zs
      → length xs ≤ length zs
      → (ys : List A) × (zs ≡ xs ++ ys) × AreSpelled IsOf more ys
  spelled_behind bytes more [] zs a b long = (zs, refl, subst (λ (f : List ℕ). AreSpelled IsOf (f ++ more) zs) a b)
  spelled_behind bytes more (x ∷ xs) [] a b long = absurd (omega arith)
  spelled_behind bytes more (x ∷ xs) (z ∷ zs) (one, rest, is, of, later) (other, back, other_is, other_of, other_later) long =
      let all : one ++ (rest ++ more) ≡ other ++ back = sym (append_assoc one rest more) ∙ ap (λ (f : List ℕ). f ++ more) (sym is)
      ∙ other_is in
      let (same, behind) = same_fronts one other (rest ++ more) back (fixed.long one x of ∙ sym (fixed.long other z other_of)) all in
      let head : x ≡ z = fixed.one other x z (subst (λ (b : List ℕ). IsOf b x) same of) other_of in
      let (ys, tail, spelled) = spelled_behind rest more xs zs later
      (subst (λ (b : List ℕ). AreSpelled IsOf b zs) (sym behind) other_later) (omega (arith, long)) in
      (ys, cc, spelled)

  -- what the next bytes spell
  pub spelled_next : (bytes one more : List ℕ) (xs zs : List A) → AreSpelled IsOf bytes xs → AreSpelled IsOf (bytes ++ (one ++ more)) zs
      → length xs < length zs → length one ≡ width
      → (z : A) × (ys : List A) × (zs ≡ xs ++ z ∷ ys) × IsOf one z
  spelled_next bytes one more xs zs a b less long = go (spelled_behind bytes (one ++ more) xs zs a b (omega (arith, less)))
    where
      go : ((ys : List A) × (zs ≡ xs ++ ys) × AreSpelled IsOf (one ++ more) ys) → (z : A) × (ys : List A) × (zs ≡ xs ++ z ∷ ys) × IsOf one z
      go ([], is, spelled) = absurd (omega (arith, less, ap length is, length-append xs []))
      go (z ∷ ys, is, (other, back, other_is, of, later)) =
          let (same, behind) = same_fronts one other more back (long ∙ sym (fixed.long other z of)) other_is in
          (z, ys, is, subst (λ (b : List ℕ). IsOf b z) (sym same) of)
