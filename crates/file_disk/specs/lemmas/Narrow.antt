-- What a stop leaves of a file a stop may leave of its buffers.
use Rattle.std.specs.Prelude.{◌≡◌, ◌⊎◌, ℕ, zero, suc, ◌+◌, ◌*◌, ◌/◌, ◌<◌, ◌≤◌, ◌&&◌, min, nat_lt, is_some, Bool, true, false, if◌then◌else◌}
use Rattle.std.specs.Prelude.{List, [], ◌∷◌, length, Option, None, Some, IsTrue}
use Rattle.std.proofs.Common.{refl, sym, ◌∙◌, ap, subst, inl, inr, arith, length-append}
use Rattle.std.proofs.lemmas.Bool.{cases_lt, lt-ltb}
use Rattle.std.proofs.lemmas.List.{take_all, drop_all, get_or_past, get_or_push, get_or_append_left}
use Rattle.sector_disk.specs.Disk.{sector, Shown, IsNoMore, MayLeave}
use Rattle.file_disk.specs.Bytes.{sector_of}
use Rattle.file_disk.specs.Buffers.{Buffers, HasNoRoomBehind, waits, is_missing, is_calm, buffered_now}
use Rattle.file_disk.specs.Events.{Happened, had_first}
use Rattle.file_disk.specs.Past.{image_of, Standing, found, stands_after, stands, file_shown, shown_then}
use Rattle.file_disk.specs.Shown.{shown}
use Rattle.file_disk.specs.WaitingSectors.{slot_of, given}

-- this many sectors
pub length-image_of : (bytes : ℕ → List ℕ) (sectors : ℕ) → length (image_of bytes sectors) ≡ sectors
unfolding image_of
length-image_of bytes zero = refl
length-image_of bytes (suc n) =
    length-append (image_of bytes n) (bytes n ∷ []) ∙ omega (arith, length-image_of bytes n)

-- each with its bytes
pub sector-image_of : (bytes : ℕ → List ℕ) (sectors k : ℕ) → k < sectors → sector (image_of bytes sectors) k ≡ bytes k
unfolding image_of
sector-image_of bytes zero k lt = absurd (omega arith)
sector-image_of bytes (suc n) k lt = elim (cases_lt k n) [
  | inl less ↦
      get_or_append_left (image_of bytes n) (bytes n ∷ []) [] k (omega (arith, less, length-image_of bytes n))
      ∙ sector-image_of bytes n k less
  | inr most ↦
      let same : n ≡ k = omega arith in
      get_or_push (image_of bytes n) (bytes n) [] k (length-image_of bytes n ∙ same) ∙ ap bytes same
]

-- and no others
pub past-image_of : (bytes : ℕ → List ℕ) (sectors k : ℕ) → sectors ≤ k → sector (image_of bytes sectors) k ≡ []
past-image_of bytes sectors k le =
    get_or_past (image_of bytes sectors) k [] (omega (arith, length-image_of bytes sectors))

pub if_not : (b : Bool) {c : Bool} → (if b then false else c) ≡ true → (b ≡ false) × (c ≡ true)
if_not true is = absurd (cc)
if_not false is = (refl, is)

pub none_is : {A : Type 0} (o : Option A) → is_some o ≡ false → o ≡ None
none_is None is = refl
none_is (Some x) is = absurd (cc)

-- a sector is missing, or not
there_is : (k sectors long : ℕ) → (nat_lt k sectors && nat_lt long (512 * (k + 1))) ≡ false → k < sectors → 512 * (k + 1) ≤ long
there_is k sectors long is lt = elim (cases_lt long (512 * (k + 1))) [
  | inl less ↦
      let both : (nat_lt k sectors && nat_lt long (512 * (k + 1))) ≡ true = rw (lt-ltb _ _ lt, lt-ltb _ _ less) refl in
      absurd (cc)
  | inr le ↦ le
]

-- a sector of the buffers that a stop leaves is in the file, and they show it as the file has it
pub calm_is : (b : Buffers) (k : ℕ) → IsTrue (is_calm b k)
    → (slot_of b.waiting.pages.items b.waiting.count k ≡ None) × (k < b.sectors → 512 * (k + 1) ≤ length b.content)
    × IsTrue ((stands b.happened b.content).synced k)
calm_is b k calm =
    let first = if_not (waits b k) calm in
    let second = if_not (is_missing b k) first.1 in
    (none_is _ first.0, there_is k b.sectors (length b.content) second.0, second.1)

pub unwaited : (b : Buffers) (bytes : List ℕ) (k : ℕ) → slot_of b.waiting.pages.items b.waiting.count k ≡ None
    → shown b.waiting bytes k ≡ sector_of bytes k
unwaited b bytes k none = ap (λ (o : Option ℕ). given b.waiting.bytes.items (sector_of bytes k) o) none

-- where the sectors that a stop leaves of the buffers are in other bytes of the file as here, and still synced, a stop of the file with
-- those leaves nothing else
pub narrow : (b : Buffers) (bytes : List ℕ) (standing : Standing) → length bytes < 512 * (b.sectors + 1)
    → min b.sectors ((stands b.happened b.content).lasting / 512) ≤ standing.lasting / 512
    → ((k : ℕ) → k < b.sectors → IsTrue (is_calm b k) → IsTrue (standing.synced k) × (512 * (k + 1) ≤ length bytes)
    × (sector_of bytes k ≡ sector_of b.content k))
    → IsNoMore (file_shown bytes standing) (buffered_now b)
narrow b bytes standing ends lasts each image left = record {
  no_shorter = omega (arith, lasts, left.no_shorter);
  no_longer = omega (arith, long, left.no_longer, length-image_of (shown b.waiting b.content) b.sectors);
  same = λ k calm. same k calm (cases_lt k b.sectors);
}
  where
    long : length (image_of (sector_of bytes) (length bytes / 512)) ≤ b.sectors
    long = omega (arith, length-image_of (sector_of bytes) (length bytes / 512), ends)

    same : (k : ℕ) → IsTrue (is_calm b k) → (k < b.sectors) ⊎ (b.sectors ≤ k)
        → sector image k ≡ sector (image_of (shown b.waiting b.content) b.sectors) k
    same k calm (inl lt) =
        let its = each k lt calm in
        left.same k its.0
        ∙ sector-image_of (sector_of bytes) (length bytes / 512) k (omega (arith, its.1))
        ∙ its.2
        ∙ sym (unwaited b b.content k (calm_is b k calm).0)
        ∙ sym (sector-image_of (shown b.waiting b.content) b.sectors k lt)
    same k calm (inr le) =
        get_or_past image k [] (omega (arith, left.no_longer, long, le))
        ∙ sym (past-image_of (shown b.waiting b.content) b.sectors k le)

-- at the last moment the file shows what it has now
last_shown : (happened : List Happened) (now : List ℕ) → shown_then happened now (length happened) ≡ file_shown now (stands happened now)
last_shown happened now = λ i.
    file_shown (had_first (drop_all (length happened) happened (omega arith) i) now)
    (stands_after (found (had_first happened now)) (take_all (length happened) happened (omega arith) i))

-- so what a stop at the last moment leaves of the file a stop now may leave of the buffers
pub now_allowed : (b : Buffers) → HasNoRoomBehind b → IsNoMore (shown_then b.happened b.content (length b.happened)) (buffered_now b)
now_allowed b ends image left =
    narrow b b.content (stands b.happened b.content) ends (omega arith)
    (λ k lt calm. let is = calm_is b k calm in (is.2, is.1 lt, refl))
    image (subst (λ (s : Shown). MayLeave s image) (last_shown b.happened b.content) left)
