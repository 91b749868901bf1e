-- A key and a value are put on a page one behind the other.
use Rattle.std.proofs.Common.{◌≡◌, ℕ, ◌+◌, ◌-◌, ◌≤◌, List, ◌++◌, length, take, drop, sym, ◌∙◌, ap, arith, length-append}
use Rattle.std.proofs.lemmas.List.{append_assoc, drop-drop}
use Rattle.std.proofs.lemmas.Slice.{take-put_mid, drop-put_mid}
use borrow.Rule.Slice.PartMut.{put_mid}

-- the two puts are one put of both
pub two_puts : (page key value : List ℕ) (s b e : ℕ) → b ≡ s + length key → e ≡ b + length value → e ≤ length page
    → put_mid b (e - b) (put_mid s (b - s) page key) value ≡ put_mid s (s + length (key ++ value) - s) page (key ++ value)
two_puts page key value s b e first second room =
    let once = put_mid s (b - s) page key in
    let both : length (key ++ value) ≡ length key + length value = length-append key value in
    let front : take b once ≡ take s page ++ key = take-put_mid s (b - s) page key b first (omega (arith, first, second, room)) in
    let joined : drop (e - b) (drop b once) ≡ drop e once = drop-drop (e - b) b once ∙ ap (λ n. drop n once) (omega (arith, second)) in
    let behind : drop e once ≡ drop e page =
    drop-put_mid s (b - s) page key e (omega (arith, first, second)) (omega (arith, first, second, room)) (omega (arith, first)) in
    let last : drop e page ≡ drop (s + length (key ++ value) - s) (drop s page) =
    ap (λ n. drop n page) (omega (arith, first, second, both)) ∙ sym (drop-drop (s + length (key ++ value) - s) s page) in
    (λ i. front i ++ (value ++ (joined ∙ behind ∙ last) i))
    ∙ append_assoc (take s page) key (value ++ drop (s + length (key ++ value) - s) (drop s page))
    ∙ ap (λ xs. take s page ++ xs) (sym (append_assoc key value (drop (s + length (key ++ value) - s) (drop s page))))
