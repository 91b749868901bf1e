-- What a stop leaves of a file, from one thing that happens to it to the next.
use Rattle.std.proofs.Common.{◌≡◌, ◌⊎◌, inl, inr, ℕ, zero, suc, ◌+◌, ◌*◌, ◌/◌, ◌<◌, ◌≤◌, Bool, false, List, [], ◌∷◌, ◌++◌, length, take, drop, Some, None}
use Rattle.std.proofs.Common.{refl, sym, ap, subst, ◌∙◌, arith, length-append}
use Rattle.std.specs.Prelude.{Option, IsTrue, ◌&&◌, min, nat_lt, is_some, if◌then◌else◌}
use Rattle.std.specs.List.{AllByRecursion}
use Rattle.std.proofs.lemmas.Bool.{cases_lt, lt-ltb, le-ltb, le-leb}
use Rattle.std.proofs.lemmas.List.{drop-append-le, take-append-le, take_all}
use Rattle.std.proofs.lemmas.List.Elements.{recursion_from_All}
use Rattle.sector_disk.specs.Disk.{Image, Shown, IsNoMore, MayLeave}
use Rattle.file_disk.specs.declared.file_event.FileEvent.{FileEvent}
use Rattle.file_disk.specs.declared.file_event.FileEvent.TheVariants.{Wrote, Synced, Resized}
use Rattle.file_disk.specs.declared.waiting_writes.WaitingWrites.{WaitingWrites}
use Rattle.file_disk.specs.Buffers.{Buffers, HasNoRoomBehind, waits, is_missing, is_calm, buffered_now}
use Rattle.file_disk.specs.Events.{Happened, had_first, IsLengthening, EndsAtSector, Lengthens, LengthensOnly}
use Rattle.file_disk.specs.Past.{Standing, found, touches, stands_by, stands_after, stands, file_shown, shown_then}
use Rattle.file_disk.specs.Touched.{IsWriteOf, WritesWaiting, WritesOnly}
use Rattle.file_disk.specs.WaitingSectors.{slot_of}
use Rattle.file_disk.specs.lemmas.Narrow.{calm_is, unwaited, narrow, now_allowed}
use Rattle.file_disk.specs.lemmas.WaitingSectors.{ShowsSame}

-- ---- the past

-- what was had before the first of all
first_kept : (happened more : List Happened) (old new : List ℕ) → had_first more new ≡ old → had_first (happened ++ more) new ≡ had_first happened old
first_kept [] more old new begins = begins
first_kept (x ∷ happened) more old new begins = refl

-- what was shown before is shown as before
pub past_kept : (old new : Buffers) (more : List Happened) → new.happened ≡ old.happened ++ more → had_first more new.content ≡ old.content
    → (k : ℕ) → k ≤ length old.happened → shown_then new.happened new.content k ≡ shown_then old.happened old.content k
past_kept old new more added begins k le =
    ap (λ (h : List Happened). shown_then h new.content k) added ∙ (λ i. file_shown (bytes i) (stands_after (found (first i)) (taken i)))
  where
    bytes : had_first (drop k (old.happened ++ more)) new.content ≡ had_first (drop k old.happened) old.content
    bytes =
        ap (λ (h : List Happened). had_first h new.content) (drop-append-le k old.happened more le)
        ∙ first_kept (drop k old.happened) more old.content new.content begins

    first : had_first (old.happened ++ more) new.content ≡ had_first old.happened old.content
    first = first_kept old.happened more old.content new.content begins

    taken : take k (old.happened ++ more) ≡ take k old.happened
    taken = take-append-le k old.happened more le

stands-append : (standing : Standing) (first second : List Happened)
    → stands_after standing (first ++ second) ≡ stands_after (stands_after standing first) second
stands-append standing [] second = refl
stands-append standing (x ∷ first) second = stands-append (stands_by standing x.event x.had) first second

-- how it stands behind more
pub stands_on : (old new : Buffers) (more : List Happened) → new.happened ≡ old.happened ++ more → had_first more new.content ≡ old.content
    → stands new.happened new.content ≡ stands_after (stands old.happened old.content) more
stands_on old new more added begins =
    ap (λ (h : List Happened). stands h new.content) added
    ∙ ap (λ (b : List ℕ). stands_after (found b) (old.happened ++ more)) (first_kept old.happened more old.content new.content begins)
    ∙ stands-append (found (had_first old.happened old.content)) old.happened more

-- a moment since then
beyond : (happened more : List Happened) (k : ℕ) → length happened ≤ k
    → (j : ℕ) × (k ≡ length happened + j) × (drop k (happened ++ more) ≡ drop j more) × (take k (happened ++ more) ≡ happened ++ take j more)
beyond [] more k le = (k, omega arith, refl, refl)
beyond (x ∷ happened) more zero le = absurd (omega arith)
beyond (x ∷ happened) more (suc k) le =
    let (j, is, dropped, taken) = beyond happened more k (omega arith) in
    (j, omega (arith, is), dropped, ap (λ (h : List Happened). x ∷ h) taken)

-- what was shown then
then_shown : (old new : Buffers) (more : List Happened) → new.happened ≡ old.happened ++ more → had_first more new.content ≡ old.content
    → (k : ℕ) → length old.happened ≤ k → (j : ℕ) × (k ≡ length old.happened + j) × (shown_then new.happened new.content k
    ≡ file_shown (had_first (drop j more) new.content) (stands_after (stands old.happened old.content) (take j more)))
then_shown old new more added begins k le =
    let (j, is, dropped, taken) = beyond old.happened more k le in
    let first : had_first (old.happened ++ more) new.content ≡ had_first old.happened old.content =
    first_kept old.happened more old.content new.content begins in (
      j,
      is,
      ap (λ (h : List Happened). shown_then h new.content k) added
          ∙ (λ i. file_shown (had_first (dropped i) new.content) (stands_after (found (first i)) (taken i)))
          ∙ ap (file_shown (had_first (drop j more) new.content)) (stands-append (found (had_first old.happened old.content)) old.happened (take j more)),
    )

-- ---- writes of what waits

-- a sector that does not wait is not touched
not_touched : (waiting : WaitingWrites) (at count k : ℕ) → IsWriteOf waiting (Wrote at count)
    → slot_of waiting.pages.items waiting.count k ≡ None → touches at count k ≡ false
not_touched waiting at count k is none = some (cases_lt 0 count)
  where
    never : (byte : ℕ) → byte / 512 ≡ k → at ≤ byte → byte < at + count → ⊥
    never byte there from to =
        let (slot, waits) = is byte from to in
        let same : Some slot ≡ None = sym waits ∙ ap (slot_of waiting.pages.items waiting.count) there ∙ none in cc

    within : 0 < count → at < 512 * (k + 1) → (512 * k < at + count) ⊎ (at + count ≤ 512 * k)
        → (nat_lt 0 count && (nat_lt at (512 * (k + 1)) && nat_lt (512 * k) (at + count))) ≡ false
    within some front (inr behind) = rw (lt-ltb _ _ some, lt-ltb _ _ front, le-ltb _ _ behind) refl
    within some front (inl reaches) = elim (cases_lt at (512 * k)) [
      | inl before ↦ absurd (never (512 * k) (omega arith) (omega arith) reaches)
      | inr inside ↦ absurd (never at (omega arith) (omega arith) (omega arith))
    ]

    fronts : 0 < count → (at < 512 * (k + 1)) ⊎ (512 * (k + 1) ≤ at)
        → (nat_lt 0 count && (nat_lt at (512 * (k + 1)) && nat_lt (512 * k) (at + count))) ≡ false
    fronts some (inl front) = within some front (cases_lt (512 * k) (at + count))
    fronts some (inr behind) = rw (lt-ltb _ _ some, le-ltb _ _ behind) refl

    some : (0 < count) ⊎ (count ≤ 0) → (nat_lt 0 count && (nat_lt at (512 * (k + 1)) && nat_lt (512 * k) (at + count))) ≡ false
    some (inl is_some) = fronts is_some (cases_lt at (512 * (k + 1)))
    some (inr few) = rw (le-ltb _ _ few) refl

one_calm : (waiting : WaitingWrites) (standing : Standing) (event : FileEvent) (had : List ℕ) (k : ℕ) → IsWriteOf waiting event
    → slot_of waiting.pages.items waiting.count k ≡ None → (stands_by standing event had).synced k ≡ standing.synced k
one_calm waiting standing (Wrote at count) had k is none =
    ap (λ (b : Bool). if b then false else standing.synced k) (not_touched waiting at count k is none)
one_calm waiting standing Synced had k is none = absurd is
one_calm waiting standing (Resized bytes) had k is none = absurd is

one_lasts : (waiting : WaitingWrites) (standing : Standing) (event : FileEvent) (had : List ℕ) → IsWriteOf waiting event
    → (stands_by standing event had).lasting ≡ standing.lasting
one_lasts waiting standing (Wrote at count) had is = refl
one_lasts waiting standing Synced had is = absurd is
one_lasts waiting standing (Resized bytes) had is = absurd is

module _ (waiting : WaitingWrites) (content : List ℕ) where
  -- behind such writes it is as synced as before
  writes_calm : (more : List Happened) (j : ℕ) (standing : Standing) → AllByRecursion (WritesWaiting waiting content) more → (k : ℕ)
      → slot_of waiting.pages.items waiting.count k ≡ None → (stands_after standing (take j more)).synced k ≡ standing.synced k
  writes_calm [] zero standing each k none = refl
  writes_calm [] (suc j) standing each k none = refl
  writes_calm (x ∷ more) zero standing each k none = refl
  writes_calm (x ∷ more) (suc j) standing each k none =
      writes_calm more j (stands_by standing x.event x.had) each.1 k none ∙ one_calm waiting standing x.event x.had k each.0.event none

  -- and as much lasts
  writes_last : (more : List Happened) (j : ℕ) (standing : Standing) → AllByRecursion (WritesWaiting waiting content) more
      → (stands_after standing (take j more)).lasting ≡ standing.lasting
  writes_last [] zero standing each = refl
  writes_last [] (suc j) standing each = refl
  writes_last (x ∷ more) zero standing each = refl
  writes_last (x ∷ more) (suc j) standing each =
      writes_last more j (stands_by standing x.event x.had) each.1 ∙ one_lasts waiting standing x.event x.had each.0.event

  -- and at each moment the same was shown
  writes_show : (more : List Happened) (j : ℕ) (now : List ℕ) → AllByRecursion (WritesWaiting waiting content) more
      → ShowsSame waiting.pages.items waiting.count waiting.bytes.items content now
      → ShowsSame waiting.pages.items waiting.count waiting.bytes.items content (had_first (drop j more) now)
  writes_show [] zero now each last = last
  writes_show [] (suc j) now each last = last
  writes_show (x ∷ more) zero now each last = each.0.had
  writes_show (x ∷ more) (suc j) now each last = writes_show more j now each.1 last

-- so what a stop leaves in the course of such writes it may leave before them
pub writes_between : (old new : Buffers) → HasNoRoomBehind old → WritesOnly old.waiting old.happened new.happened old.content new.content
    → (k : ℕ) → length old.happened ≤ k → IsNoMore (shown_then new.happened new.content k) (buffered_now old)
writes_between old new ends writes k le image left =
    let adds = writes.adds in
    let each = recursion_from_All (WritesWaiting old.waiting old.content) adds.more adds.each in
    let (j, at, same) = then_shown old new adds.more adds.added adds.begins k le in
    let shows = writes_show old.waiting old.content adds.more j new.content each writes.shows in
    let lasts = writes_last old.waiting old.content adds.more j (stands old.happened old.content) each in
    narrow old (had_first (drop j adds.more) new.content) (stands_after (stands old.happened old.content) (take j adds.more))
    (omega (arith, shows.same_length, ends))
    (omega (arith, ap (λ (n : ℕ). n / 512) lasts))
    (λ s lt calm.
    let is = calm_is old s calm in (
      writes_calm old.waiting old.content adds.more j (stands old.happened old.content) each s is.0 ∙ is.2,
      omega (arith, is.1 lt, shows.same_length),
      sym (unwaited old (had_first (drop j adds.more) new.content) s is.0) ∙ shows.shown s ∙ unwaited old old.content s is.0,
    )) image (subst (λ (s : Shown). MayLeave s image) same left)

-- a sector of the buffers that a stop leaves
pub calm_so : (b : Buffers) (k : ℕ) → slot_of b.waiting.pages.items b.waiting.count k ≡ None → (k < b.sectors → 512 * (k + 1) ≤ length b.content)
    → IsTrue ((stands b.happened b.content).synced k) → IsTrue (is_calm b k)
calm_so b k none there synced =
    ap (λ (w : Bool). if w then false else (if is_missing b k then false else (stands b.happened b.content).synced k)) (ap (λ (o : Option ℕ). is_some o) none)
    ∙ ap (λ (m : Bool). if m then false else (stands b.happened b.content).synced k) (has (cases_lt k b.sectors)) ∙ synced
  where
    has : (k < b.sectors) ⊎ (b.sectors ≤ k) → (nat_lt k b.sectors && nat_lt (length b.content) (512 * (k + 1))) ≡ false
    has (inl lt) = rw (lt-ltb _ _ lt, le-ltb _ _ (there lt)) refl
    has (inr le) = rw (le-ltb _ _ le) refl

-- it is still synced, and as much lasts
pub writes_still : (old new : Buffers) → WritesOnly old.waiting old.happened new.happened old.content new.content → (k : ℕ)
    → slot_of old.waiting.pages.items old.waiting.count k ≡ None
    → (stands new.happened new.content).synced k ≡ (stands old.happened old.content).synced k
writes_still old new writes k none =
    let adds = writes.adds in
    let each = recursion_from_All (WritesWaiting old.waiting old.content) adds.more adds.each in
    ap (λ (s : Standing). s.synced k) (stands_on old new adds.more adds.added adds.begins)
    ∙ ap (λ (h : List Happened). (stands_after (stands old.happened old.content) h).synced k) (sym (take_all (length adds.more) adds.more (omega arith)))
    ∙ writes_calm old.waiting old.content adds.more (length adds.more) (stands old.happened old.content) each k none

pub writes_lasting : (old new : Buffers) → WritesOnly old.waiting old.happened new.happened old.content new.content
    → (stands new.happened new.content).lasting ≡ (stands old.happened old.content).lasting
writes_lasting old new writes =
    let adds = writes.adds in
    let each = recursion_from_All (WritesWaiting old.waiting old.content) adds.more adds.each in
    ap (λ (s : Standing). s.lasting) (stands_on old new adds.more adds.added adds.begins)
    ∙ ap (λ (h : List Happened). (stands_after (stands old.happened old.content) h).lasting) (sym (take_all (length adds.more) adds.more (omega arith)))
    ∙ writes_last old.waiting old.content adds.more (length adds.more) (stands old.happened old.content) each

-- ---- changes of the length

-- a change of the length leaves the sectors in front of both ends as synced as before
one_front : (from to : ℕ) (standing : Standing) (event : FileEvent) (had : List ℕ) (k : ℕ) → IsLengthening from to event
    → 512 * from ≤ length had → k < from → (stands_by standing event had).synced k ≡ standing.synced k
one_front from to standing (Wrote at count) had k is there lt = absurd is
one_front from to standing Synced had k is there lt = absurd is
one_front from to standing (Resized bytes) had k is there lt =
    ap (λ (b : Bool). if b then standing.synced k else false) (le-leb (512 * (k + 1)) (min (length had) bytes) (omega (arith, is.0, there, lt)))

one_more : (from to : ℕ) (standing : Standing) (event : FileEvent) (had : List ℕ) → IsLengthening from to event
    → min from (standing.lasting / 512) ≤ (stands_by standing event had).lasting / 512
one_more from to standing (Wrote at count) had is = absurd is
one_more from to standing Synced had is = absurd is
one_more from to standing (Resized bytes) had is = omega (arith, is.0)

module _ (from to : ℕ) (content : List ℕ) where
  pub lengthens_calm : (more : List Happened) (j : ℕ) (standing : Standing) → AllByRecursion (Lengthens from to content) more → (k : ℕ) → k < from
      → (stands_after standing (take j more)).synced k ≡ standing.synced k
  lengthens_calm [] zero standing each k lt = refl
  lengthens_calm [] (suc j) standing each k lt = refl
  lengthens_calm (x ∷ more) zero standing each k lt = refl
  lengthens_calm (x ∷ more) (suc j) standing each k lt =
      lengthens_calm more j (stands_by standing x.event x.had) each.1 k lt
      ∙ one_front from to standing x.event x.had k each.0.event each.0.had.there lt

  pub lengthens_last : (more : List Happened) (j : ℕ) (standing : Standing) → AllByRecursion (Lengthens from to content) more
      → min from (standing.lasting / 512) ≤ (stands_after standing (take j more)).lasting / 512
  lengthens_last [] zero standing each = omega arith
  lengthens_last [] (suc j) standing each = omega arith
  lengthens_last (x ∷ more) zero standing each = omega arith
  lengthens_last (x ∷ more) (suc j) standing each =
      omega (arith, one_more from to standing x.event x.had each.0.event, lengthens_last more j (stands_by standing x.event x.had) each.1)

-- what a stop leaves while it is made longer it may leave before that, or behind
pub lengthens_between : (old new : Buffers) (to : ℕ) → HasNoRoomBehind old → HasNoRoomBehind new
    → LengthensOnly old.sectors to old.happened new.happened old.content new.content
    → (k : ℕ) → length old.happened ≤ k → k ≤ length new.happened → (image : Image) → MayLeave (shown_then new.happened new.content k) image
    → MayLeave (buffered_now old) image ⊎ MayLeave (buffered_now new) image
lengthens_between old new to ends ends_new lengthens k le most image left = elim (cases_lt k (length new.happened)) [
  | inl before ↦ inl (at before)
  | inr last ↦ let is : k ≡ length new.happened = omega arith in
      inr (now_allowed new ends_new image (subst (λ (n : ℕ). MayLeave (shown_then new.happened new.content n) image) is left))
]
  where
    -- before one of them the sectors were those
    had_then : (more : List Happened) (j : ℕ) → j < length more → AllByRecursion (Lengthens old.sectors to old.content) more
        → EndsAtSector old.sectors old.content (had_first (drop j more) new.content)
    had_then [] j lt each = absurd (omega arith)
    had_then (x ∷ more) zero lt each = each.0.had
    had_then (x ∷ more) (suc j) lt each = had_then more j (omega arith) each.1

    at : k < length new.happened → MayLeave (buffered_now old) image
    at before =
        let adds = lengthens.adds in
        let each = recursion_from_All (Lengthens old.sectors to old.content) adds.more adds.each in
        let long : length new.happened ≡ length old.happened + length adds.more =
        ap (λ (h : List Happened). length h) adds.added ∙ length-append old.happened adds.more in
        let (j, is_at, same) = then_shown old new adds.more adds.added adds.begins k le in
        let has = had_then adds.more j (omega (arith, long, before, is_at)) each in
        narrow old (had_first (drop j adds.more) new.content) (stands_after (stands old.happened old.content) (take j adds.more))
        has.no_more
        (lengthens_last old.sectors to old.content adds.more j (stands old.happened old.content) each)
        (λ s lt calm.
        let is = calm_is old s calm in (
          lengthens_calm old.sectors to old.content adds.more j (stands old.happened old.content) each s lt ∙ is.2,
          omega (arith, has.there, lt),
          has.same s lt,
        )) image (subst (λ (s : Shown). MayLeave s image) same left)
