-- The loops over what a search for moves has found.
use Rattle.std.proofs.Common.{◌≡◌, ℕ, zero, suc, ◌<◌, true, false, cond, List, [], ◌∷◌, ◌++◌, length, map, reverse, take, drop, Some, option_map, unwrap_or, slice_get, refl, sym, ap, ◌∙◌, arith, append_assoc, append-nil}
use Rattle.std.proofs.lemmas.List.{map-append, reverse-append, take_all, drop_all, length-reverse}
use Rattle.arrayvec.specs.ArrayVec.{ArrayVec}
use Rattle.legal_moves.specs.Shown.{vertex_at, shown_to, shown_of, ComeFromBefore}
use Rattle.legal_moves.specs.Listed.{ShownMove}
use Rattle.legal_moves.specs.Configurations.{Configuration}
use Rattle.legal_moves.specs.declared.successor.Successor.{Successor}
use Rattle.legal_moves.proofs.answers.ShownLemmas.{shown_more}

-- ---- back along the parents

pub parent_before : (cs : List Configuration) → ComeFromBefore cs → (i : ℕ) (c : Configuration) → (i ≡ 0 → ⊥) → slice_get cs i ≡ Some c → c.parent < i
parent_before cs before zero c some at = absurd (some refl)
parent_before cs before (suc i) c some at = omega (arith, before i c at)

back_more : (cs : List Configuration) → ComeFromBefore cs → (i : ℕ) (c : Configuration) → (i ≡ 0 → ⊥) → slice_get cs i ≡ Some c
    → shown_to cs i i ≡ shown_to cs c.parent c.parent ++ cond c.shows ((c.at.place, vertex_at cs c.parent) ∷ []) []
back_more cs before zero c some at = absurd (some refl)
back_more cs before (suc i) c some at = shown_more cs before i c at

pub back_hidden : (cs : List Configuration) → ComeFromBefore cs → (i : ℕ) (c : Configuration) (rest all : List (ℕ × ℕ)) → (i ≡ 0 → ⊥)
    → slice_get cs i ≡ Some c → c.shows ≡ false → shown_to cs i i ++ rest ≡ all → shown_to cs c.parent c.parent ++ rest ≡ all
back_hidden cs before i c rest all some at hidden h =
    let same = back_more cs before i c some at ∙ ap
    (λ t. shown_to cs c.parent c.parent ++ cond t ((c.at.place, vertex_at cs c.parent) ∷ []) []) hidden ∙ append-nil (shown_to cs c.parent c.parent) in
    ap (λ xs. xs ++ rest) (sym same) ∙ h

pub back_shown : {M : Type 0} (f : M → ℕ × ℕ) (cs : List Configuration) → ComeFromBefore cs
    → (i : ℕ) (c b : Configuration) (word word' : List M) (m : M) (all : List (ℕ × ℕ)) → (i ≡ 0 → ⊥) → slice_get cs i ≡ Some c
    → slice_get cs c.parent ≡ Some b → c.shows ≡ true → f m ≡ (c.at.place, b.at.state.vertex) → word' ≡ word ++ m ∷ [] → shown_to cs i i
    ++ reverse (map f word) ≡ all → shown_to cs c.parent c.parent ++ reverse (map f word') ≡ all
back_shown f cs before i c b word word' m all some at at_b shown is pushed h =
    let vertex : vertex_at cs c.parent ≡ b.at.state.vertex = ap (λ o. unwrap_or (option_map (λ x. x.at.state.vertex) o) 0) at_b in
    let same = back_more cs before i c some at ∙ ap
    (λ t. shown_to cs c.parent c.parent ++ cond t ((c.at.place, vertex_at cs c.parent) ∷ []) []) shown
    ∙ ap (λ v. shown_to cs c.parent c.parent ++ (c.at.place, v) ∷ []) vertex in
    let turned : reverse (map f word') ≡ (c.at.place, b.at.state.vertex) ∷ reverse (map f word) = ap (λ xs. reverse (map f xs)) pushed
    ∙ ap reverse (map-append f word (m ∷ [])) ∙ reverse-append (map f word) (f m ∷ []) ∙ ap (λ p. p ∷ reverse (map f word)) is in
    ap (λ xs. shown_to cs c.parent c.parent ++ xs) turned
    ∙ sym (append_assoc (shown_to cs c.parent c.parent) ((c.at.place, b.at.state.vertex) ∷ []) (reverse (map f word)))
    ∙ ap (λ xs. xs ++ reverse (map f word)) (sym same)
    ∙ h

map-reverse : {A B : Type 0} (f : A → B) (xs : List A) → map f (reverse xs) ≡ reverse (map f xs)
map-reverse f [] = refl
map-reverse f (x ∷ xs) =
    ap (map f) (reverse-append (x ∷ []) xs) ∙ map-append f (reverse xs) (x ∷ []) ∙ ap (λ ys. ys ++ f x ∷ []) (map-reverse f xs)
    ∙ sym (reverse-append (f x ∷ []) (map f xs))

slice_get-map : {A B : Type 0} (f : A → B) (xs : List A) (i : ℕ) (x : A) → slice_get xs i ≡ Some x → slice_get (map f xs) i ≡ Some (f x)
slice_get-map f [] i x h = absurd (cc)
slice_get-map f (y ∷ xs) zero x h = let same : y ≡ x = cc in ap (λ z. Some (f z)) same
slice_get-map f (y ∷ xs) (suc i) x h = slice_get-map f xs i x h

-- what was written back after the list was turned round
pub turned_back : {M : Type 0} (word turned : List M) → turned ≡ reverse word → take (length word) (turned ++ drop (length turned) word) ≡ reverse word
turned_back word turned is =
    let same : length turned ≡ length word = ap length is ∙ length-reverse word in
    ap (λ xs. take (length word) (turned ++ xs)) (drop_all (length turned) word (omega arith)) ∙ ap (take (length word)) (append-nil turned)
    ∙ take_all (length word) turned (omega arith) ∙ is

pub whole_word : {M : Type 0} (f : M → ℕ × ℕ) (cs : List Configuration) (ss : List Successor) (k : ℕ) (s : Successor)
    (moves : List ShownMove) (word turned : List M) → moves ≡ map (shown_of cs) ss → slice_get ss k ≡ Some s → turned ≡ reverse word → []
    ++ reverse (map f word) ≡ shown_to cs s.index s.index → option_map (λ m. m.shown) (slice_get moves k) ≡ Some
    (map f (take (length word) (turned ++ drop (length turned) word)))
whole_word f cs ss k s moves word turned view at is shown =
    ap (λ xs. option_map (λ m. m.shown) (slice_get xs k)) view
    ∙ ap (option_map (λ m. m.shown)) (slice_get-map (shown_of cs) ss k s at)
    ∙ ap Some (sym shown ∙ sym (map-reverse f word) ∙ ap (map f) (sym (turned_back word turned is)))

-- the bytes of what is shown of successors are their own
pub packed_items : (cs : List Configuration) (ss : List Successor) (ps : List (ArrayVec ℕ)) (ms : List ShownMove)
    → map (shown_of cs) ss ≡ ms → ps ≡ map (λ s. s.packed) ss → map (λ p. p.items) ps ≡ map (λ m. m.next) ms
packed_items cs ss ps ms shown kept = ap (map (λ p. p.items)) kept ∙ along ss ∙ ap (map (λ m. m.next)) shown
  where
    along : (ss : List Successor) → map (λ p. p.items) (map (λ s. s.packed) ss) ≡ map (λ m. m.next) (map (shown_of cs) ss)
    along [] = refl
    along (s ∷ ss) = ap (λ xs. s.packed.items ∷ xs) (along ss)
