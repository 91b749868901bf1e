-- A store is cut to the pages that a root says, and grows.
use Rattle.std.proofs.Common.{◌≡◌, ◌⊎◌, inl, inr, ℕ, ◌+◌, ◌-◌, ◌*◌, ◌<◌, ◌≤◌, Bool, false, true, List, [], ◌∷◌, ◌++◌, length, take, IsTrue, refl, sym, ◌∙◌, ap, subst, arith}
use Rattle.std.proofs.Common.{Result, Ok, Err, OnOk}
use Rattle.std.specs.Result.{is_err}
use Rattle.std.proofs.lemmas.Bool.{cases_lt}
use Rattle.std.proofs.lemmas.List.{get_or_append_left, get_or-append_right, get_or-take, get_or_past, length-take-le}
use Rattle.sector_disk.specs.Disk.{Image, sector, Shown, MayLeave, Disk, size, GoesOn, LeavesOnly, AllSynced, IsLonger, AgreesBelow}
use Rattle.sector_disk.specs.lemmas.Moments.{leaves_more, leaves_then, longer_leaves, still_honest}
use Rattle.root_pair.specs.Root.{HoldsRoot, root_of, IsAtRest, OldOrNew, IsPublished}
use Rattle.root_pair.specs.lemmas.Rest.{below_holds, rest_leaves, rest_longer, root_longer, synced_rests}
use Rattle.page_store.specs.declared.limits.TheConstants.{MAX_PAGES}
use Rattle.page_store.specs.declared.marks.Mark.{Mark}
use Rattle.page_store.specs.declared.marks.Mark.TheVariants.{Committed, Waiting, Fresh, Released, Free, Past}
use Rattle.page_store.specs.declared.holds.HoldPlace.{HoldPlace}
use Rattle.page_store.specs.declared.holds.Holders.{Holders}
use Rattle.page_store.specs.Holds.{Holds, SameHolds, none, any, needed_by, holders_at}
use Rattle.page_store.specs.Marks.{mark, needs, keeps, is_past, stays, IsNeeded, IsKept, committed, AreCut, AreGrown}
use Rattle.page_store.specs.Page.{page, IsWithin}
use Rattle.page_store.specs.lemmas.Page.{page_same}
use Rattle.page_store.specs.Store.{Store, reads, Saved, SavedIn, IsHeldBy, IsSafe, AreSoundHolds, IsSoundStore, IsShortened, IsLengthened}
use Rattle.page_store.specs.lemmas.Holds.{need_any, need_within, held_within}
use Rattle.page_store.proofs.Soundness.{committed_stays, committed_past}

-- what is said of Ok, where it is no Err
pub not_err : {T E P : Type 0} (r : Result T E) → is_err r ≡ false → OnOk r P → P
not_err (Ok x) is given = given
not_err (Err e) is given = absurd (let wrong : true ≡ false = is in cc)

-- the marks with one more
pub mark_more : (marks : List Mark) (m : Mark) (n p : ℕ) → length marks ≡ n → p < n + 1
    → (p < n × (mark (marks ++ m ∷ []) p ≡ mark marks p)) ⊎ ((p ≡ n) × (mark (marks ++ m ∷ []) p ≡ m))
mark_more marks m n p long below = elim (cases_lt p n) [
  | inl inside ↦ inl (inside, get_or_append_left marks (m ∷ []) Committed p (omega (arith, long, inside)))
  | inr past ↦
      let last : p ≡ n = omega (arith, below, past) in
      let first : p - n ≡ 0 = omega (arith, last) in
      inr (last, get_or-append_right marks (m ∷ []) n p Committed long past ∙ ap (λ (j : ℕ). mark (m ∷ []) j) first)
]

-- the holders with those of one page more
pub holders_more : (holders : List Holders) (h : Holders) (n p : ℕ) → length holders ≡ n → p < n + 1
    → (p < n × (holders_at (holders ++ h ∷ []) p ≡ holders_at holders p)) ⊎ ((p ≡ n) × (holders_at (holders ++ h ∷ []) p ≡ h))
holders_more holders h n p long below = elim (cases_lt p n) [
  | inl inside ↦ inl (inside, get_or_append_left holders (h ∷ []) none p (omega (arith, long, inside)))
  | inr past ↦
      let last : p ≡ n = omega (arith, below, past) in
      let first : p - n ≡ 0 = omega (arith, last) in
      inr (last, get_or-append_right holders (h ∷ []) n p none long past ∙ ap (λ (j : ℕ). holders_at (h ∷ []) j) first)
]

-- the marks of the pages below this number
pub are_cut : (pages : ℕ) (old new : List Mark) → pages ≤ length old → new ≡ take pages old → AreCut pages old new
are_cut pages old new room is = record {
  long = ap (λ (ms : List Mark). length ms) is ∙ length-take-le pages old room;
  each = λ p within. ap (λ (ms : List Mark). mark ms p) is ∙ get_or-take pages old p Committed within;
}

-- a needed page of the cut store is one of the whole
cut_needed : (pages : ℕ) (old new : List Mark) → pages ≤ length old → AreCut pages old new → (p : ℕ) → IsNeeded new p → IsNeeded old p
cut_needed pages old new room cut p needed = (
  needed.0,
  omega (arith, needed.1, cut.long, room),
  subst (λ (m : Mark). IsTrue (needs m)) (cut.each p (omega (arith, needed.1, cut.long))) needed.2,
)

-- the holds of the pages below this number
cut_long : (pages : ℕ) (old new : List Holders) → pages ≤ length old → new ≡ take pages old → length new ≡ pages
cut_long pages old new room is = ap (λ (hs : List Holders). length hs) is ∙ length-take-le pages old room

cut_holders : (pages : ℕ) (old new : List Holders) → new ≡ take pages old → (p : ℕ) → p < pages → holders_at new p ≡ holders_at old p
cut_holders pages old new is p within = ap (λ (hs : List Holders). holders_at hs p) is ∙ get_or-take pages old p none within

cut_holds : (pages : ℕ) (old new : List Mark) (was now : Holds) → AreSoundHolds old was → AreCut pages old new → now.taken ≡ was.taken
    → now.of ≡ take pages was.of → pages ≤ length old → AreSoundHolds new now
cut_holds pages old new was now sound cut taken of room =
    let long : length now.of ≡ pages = cut_long pages was.of now.of (omega (arith, room, sound.same_length)) of in
    let within : (place : HoldPlace) (p : ℕ) → IsTrue (needed_by (holders_at now.of p) place) → p < pages =
    λ (place : HoldPlace) (p : ℕ) it. omega (arith, need_within now.of place p it, long) in
    let before : (place : HoldPlace) (p : ℕ) → IsTrue (needed_by (holders_at now.of p) place) → IsTrue (needed_by (holders_at was.of p) place) =
    λ (place : HoldPlace) (p : ℕ) it. sym (ap (λ (h : Holders). needed_by h place) (cut_holders pages was.of now.of of p (within place p it))) ∙ it in
    record {
      same_length = long ∙ sym cut.long;
      taken = λ place p it. ap (λ (h : Holders). needed_by h place) taken ∙ sound.taken place p (before place p it);
      stay = λ place p it. subst (λ (m : Mark). IsTrue (stays m)) (sym (cut.each p (within place p it))) (sound.stay place p (before place p it));
      past = λ p it. elim (cases_lt p pages) [
        | inl low ↦ ap any (cut_holders pages was.of now.of of p low) ∙ sound.past p (sym (ap is_past (cut.each p low)) ∙ it)
        | inr high ↦ absurd (let no : false ≡ true = sym (ap is_past (get_or_past new p Committed (omega (arith, cut.long, high)))) ∙ it in cc)
      ];
    }

-- all but the marks and the holders is as it was
pub shortened : (pages : ℕ) (old new : Store) → new.disk ≡ old.disk → new.failures ≡ old.failures → new.root ≡ old.root → new.closed ≡ old.closed
    → new.holds.taken ≡ old.holds.taken → new.holds.of ≡ take pages old.holds.of → IsShortened pages old new
shortened pages old new disk failures root closed taken of = record {
  disk = disk;
  failures = failures;
  root = root;
  closed = closed;
  taken = taken;
  holders = cut_holders pages old.holds.of new.holds.of of;
}

pub cut_sound : (pages : ℕ) (old new : Store) → IsShortened pages old new → new.holds.of ≡ take pages old.holds.of → AreCut pages old.marks new.marks
    → 1 ≤ pages → pages ≤ length old.marks
    → IsSoundStore old → IsSoundStore new
cut_sound pages old new others of cut some room sound =
    let same_size : size new.disk ≡ size old.disk = ap (λ (d : Disk). size d) others.disk in
    record {
      least = omega (arith, sound.least, same_size);
      fits = omega (arith, sound.fits, same_size, cut.long, room);
      few = omega (arith, sound.few, cut.long, room);
      system = cut.each 0 (omega (arith, some)) ∙ sound.system;
      safe = λ honest open_.
          let was = sound.safe (subst (λ (d : Disk). IsTrue d.honest) others.disk honest) (sym others.closed ∙ open_) in
          let lasts : new.disk.now.lasting ≡ old.disk.now.lasting = ap (λ (d : Disk). d.now.lasting) others.disk in
          record {
            rest = subst (λ (d : Disk). IsAtRest d.now) (sym others.disk) was.rest;
            room = omega (arith, was.room, cut.long, room, lasts);
            root = ap (λ (d : Disk). root_of d.now.contents) others.disk ∙ was.root ∙ sym others.root;
            synced = λ p needed k within. subst (λ (d : Disk). IsTrue (d.now.synced k)) (sym others.disk)
                (was.synced p (cut_needed pages old.marks new.marks room cut p needed) k within);
          };
      holds = cut_holds pages old.marks new.marks old.holds new.holds sound.holds cut others.taken of room;
    }

-- what a stop leaves of a disk that is made longer has the committed root and the pages that it may need
pub below_saves : (store : Store) → IsSafe store → IsSoundStore store → (image : Image) → AgreesBelow store.disk.now image → Saved store image
below_saves store safe sound image left = record {
  holds = subst (λ (r : List ℕ). HoldsRoot r image) safe.root (below_holds store.disk.now safe.rest image left);
  room = omega (arith, safe.room, left.no_shorter);
  pages = λ p needed. page_same image store.disk.now.contents p (λ k within.
      left.same k (omega (arith, sound.fits, needed.1, within.1)) (safe.synced p needed k within));
}

-- a sector of a page that was there reads on a longer disk as it did
pub longer_sectors : (old : Store) (new : Shown) → IsSoundStore old → IsLonger old.disk.now new → (p : ℕ) → p < length old.marks
    → (k : ℕ) → IsWithin p k → sector new.contents k ≡ sector old.disk.now.contents k
longer_sectors old new sound longer p within k inside = longer.contents k (omega (arith, sound.fits, within, inside.1))

-- and so does the page
pub longer_reads : (old : Store) (new : Shown) → IsSoundStore old → IsLonger old.disk.now new → (p : ℕ) → p < length old.marks
    → page new.contents p ≡ reads old p
longer_reads old new sound longer p within = page_same new.contents old.disk.now.contents p (longer_sectors old new sound longer p within)

-- holds and marks that are as they were
same_sound : (old new : Store) → new.marks ≡ old.marks → new.holds ≡ old.holds → AreSoundHolds old.marks old.holds → AreSoundHolds new.marks new.holds
same_sound old new marks holds sound =
    subst (λ (ms : List Mark). AreSoundHolds ms new.holds) (sym marks) (subst (λ (h : Holds). AreSoundHolds old.marks h) (sym holds) sound)

-- from a sound store with this disk made longer and then read alone
module _ (old new : Store) (mid : Disk) (sound : IsSoundStore old) (root : new.root ≡ old.root) (marks : new.marks ≡ old.marks)
    (closed : new.closed ≡ old.closed)
    (holds : new.holds ≡ old.holds)
    (longer : IsTrue old.disk.honest → IsLonger old.disk.now mid.now) (shown : IsTrue mid.honest → new.disk.now ≡ mid.now) (goes_on : GoesOn old.disk mid)
    (later : GoesOn mid new.disk) (moments : IsTrue old.disk.honest → LeavesOnly old.disk mid (AgreesBelow old.disk.now))
    (behind : IsTrue mid.honest → LeavesOnly mid new.disk (MayLeave mid.now)) (failed : new.disk.failed_writes ≡ old.disk.failed_writes) where
  now_longer : IsTrue old.disk.honest → IsLonger old.disk.now new.disk.now
  now_longer honest = subst (λ (s : Shown). IsLonger old.disk.now s) (sym (shown (still_honest goes_on honest))) (longer honest)

  long_safe : IsTrue old.disk.honest → IsSafe old → IsSafe new
  long_safe honest safe =
      let is = now_longer honest in
      let same : length new.marks ≡ length old.marks = ap (λ (ms : List Mark). length ms) marks in
      record {
        rest = rest_longer is safe.rest;
        room = omega (arith, safe.room, is.lasting, same);
        root = root_longer is safe.rest ∙ safe.root ∙ sym root;
        synced = λ p needed k within.
            let was : IsNeeded old.marks p = subst (λ (ms : List Mark). IsNeeded ms p) marks needed in
            is.synced k (omega (arith, sound.fits, was.1, within.1)) (safe.synced p was k within);
      }

  pub lengthened : IsLengthened old new
  lengthened = record {
    root = root;
    marks = marks;
    closed = closed;
    holds = holds;
    longer = now_longer;
    failed_writes = failed;
    safe = long_safe;
    leaves = λ honest safe. leaves_more (below_saves old safe sound)
        (leaves_then later (moments honest)
        (leaves_more (longer_leaves (longer honest)) (behind (still_honest goes_on honest))));
  }

  pub lengthened_sound : size old.disk ≤ size new.disk → IsSoundStore new
  lengthened_sound no_shorter =
      let same : length new.marks ≡ length old.marks = ap (λ (ms : List Mark). length ms) marks in
      record {
        least = omega (arith, sound.least, no_shorter);
        fits = omega (arith, sound.fits, no_shorter, same);
        few = omega (arith, sound.few, same);
        system = ap (λ (ms : List Mark). mark ms 0) marks ∙ sound.system;
        safe = λ h open_.
            let was = subst (λ (b : Bool). IsTrue b) (later.honest ∙ goes_on.honest) h in
            long_safe was (sound.safe was (sym closed ∙ open_));
        holds = same_sound old new marks holds sound.holds;
      }

-- a page of a store that has grown that only a hold needs was there before
grown_past : (holders : List Holders) (pages : ℕ) (old new : List Mark) → length old < pages → AreGrown holders pages old new
    → ((p : ℕ) → IsTrue (is_past (mark old p)) → IsTrue (any (holders_at holders p))) → (p : ℕ) → IsTrue (is_past (mark new p))
    → IsTrue (any (holders_at holders p))
grown_past holders pages old new more marks sound p it = elim (cases_lt p (length old)) [
  | inl was ↦ committed_past (holders_at holders p) (mark old p) (sound p) (sym (ap is_past (marks.each p was)) ∙ it)
  | inr behind ↦ elim (cases_lt p pages) [
    | inl there ↦ absurd (let no : false ≡ true = sym (ap is_past (marks.added p behind there)) ∙ it in cc)
    | inr past ↦ absurd (let no : false ≡ true = sym (ap is_past (get_or_past new p Committed (omega (arith, marks.long, past)))) ∙ it in cc)
  ]
]

-- growing leaves the holds sound
grown_holds : (pages : ℕ) (old new : List Mark) (was now : Holds) → AreSoundHolds old was → length old < pages → AreGrown was.of pages old new
    → length now.of ≡ pages → SameHolds was now → AreSoundHolds new now
grown_holds pages old new was now sound more marks long same =
    let before : (place : HoldPlace) (p : ℕ) → IsTrue (needed_by (holders_at now.of p) place) → IsTrue (needed_by (holders_at was.of p) place) =
    λ (place : HoldPlace) (p : ℕ) it. sym (ap (λ (h : Holders). needed_by h place) (same.each p)) ∙ it in
    record {
      same_length = long ∙ sym marks.long;
      taken = λ place p it. ap (λ (h : Holders). needed_by h place) same.taken ∙ sound.taken place p (before place p it);
      stay = λ place p it.
          let held = before place p it in
          subst (λ (m : Mark). IsTrue (stays m)) (sym (marks.each p (omega (arith, need_within was.of place p held, sound.same_length))))
          (committed_stays (holders_at was.of p) (mark old p) (need_any (holders_at was.of p) place held) (sound.stay place p held));
      past = λ p it. ap any (same.each p) ∙ grown_past was.of pages old new more marks sound.past p it;
    }

-- from a sound store with this disk made longer and synced, and then a root published
module _ (old : Store) (mid new : Disk) (root : List ℕ) (pages : ℕ) (sound : IsSoundStore old) (room : 8 * pages ≤ size mid)
    (longer : IsTrue old.disk.honest → IsLonger old.disk.now mid.now) (synced : IsTrue old.disk.honest → AllSynced mid.now) (goes_on : GoesOn old.disk mid)
    (later : GoesOn mid new) (moments : IsTrue old.disk.honest → LeavesOnly old.disk mid (AgreesBelow old.disk.now)) where
  old_or_grown : IsTrue old.disk.honest → IsSafe old → (image : Image) → OldOrNew mid.now root image → Saved old image ⊎ SavedIn root pages old image
  old_or_grown honest safe image (inl (holds, agrees)) = inl (record {
    holds = subst (λ (r : List ℕ). HoldsRoot r image) (root_longer (longer honest) safe.rest ∙ safe.root) holds;
    room = omega (arith, safe.room, (longer honest).lasting, agrees.no_shorter);
    pages = λ p needed. page_same image old.disk.now.contents p (λ k within.
        agrees.same k (omega (arith, needed.0, within.0), (synced honest).synced k)
        ∙ (longer honest).contents k (omega (arith, sound.fits, needed.1, within.1)));
  })
  old_or_grown honest safe image (inr (holds, agrees)) = inr (record {
    holds = holds;
    room = omega (arith, room, (synced honest).lasting, agrees.no_shorter);
    pages = λ p there. page_same image old.disk.now.contents p (λ k within.
        agrees.same k (omega (arith, there.0, within.0)) ∙ (longer honest).contents k (omega (arith, sound.fits, there.1, within.1)));
  })

  pub grown_leaves : IsTrue old.disk.honest → IsSafe old → LeavesOnly mid new (OldOrNew mid.now root)
      → LeavesOnly old.disk new (λ image. Saved old image ⊎ SavedIn root pages old image)
  grown_leaves honest safe published = leaves_then later
      (leaves_more (λ image left. inl (below_saves old safe sound image left)) (moments honest))
      (leaves_more (old_or_grown honest safe) published)

  pub mid_rests : IsTrue old.disk.honest → IsSafe old → IsAtRest mid.now
  mid_rests honest safe = rest_longer (longer honest) safe.rest

  pub grown_reads : IsTrue old.disk.honest → IsPublished root mid.now new.now → (p : ℕ) → 1 ≤ p → p < length old.marks → page new.now.contents p ≡ reads old p
  grown_reads honest published p behind within = page_same new.now.contents old.disk.now.contents p (λ k inside.
      published.pages k (omega (arith, behind, inside.0)) ∙ (longer honest).contents k (omega (arith, sound.fits, within, inside.1)))

  pub grown_after : IsTrue old.disk.honest → size new ≡ size mid → IsPublished root mid.now new.now → (image : Image)
      → MayLeave new.now image → SavedIn root pages old image
  grown_after honest same published image left = record {
    holds = subst (λ (r : List ℕ). HoldsRoot r image) published.holds.is (rest_leaves new.now (synced_rests published.holds published.synced) image left);
    room = omega (arith, room, same, left.no_shorter, published.synced.lasting);
    pages = λ p there. page_same image new.now.contents p (λ k within. left.same k (published.synced.synced k))
        ∙ grown_reads honest published p there.0 there.1;
  }

  pub grown_sound : (is : Store) → is.disk ≡ new → is.root ≡ root → AreGrown old.holds.of pages old.marks is.marks → length is.holds.of ≡ pages
      → SameHolds old.holds is.holds → pages ≤ MAX_PAGES → length old.marks < pages → size new ≡ size mid
      → 1 ≤ length old.marks
      → (IsTrue old.disk.honest → IsPublished root mid.now new.now) → IsSoundStore is
  grown_sound is disk_is root_is marks held_long holds few more same some published =
      let long : size is.disk ≡ size mid = ap (λ (d : Disk). size d) disk_is ∙ same in
      record {
        least = omega (arith, long, room, more, some);
        fits = omega (arith, long, room, marks.long);
        few = omega (arith, few, marks.long);
        system = marks.each 0 (omega (arith, some)) ∙ ap (committed (holders_at old.holds.of 0)) sound.system;
        safe = λ h open_.
            let was = subst (λ (b : Bool). IsTrue b) (later.honest ∙ goes_on.honest) (subst (λ (d : Disk). IsTrue d.honest) disk_is h) in
            let it = published was in
            subst (λ (s : Store). IsSafe s) refl (record {
              rest = subst (λ (d : Disk). IsAtRest d.now) (sym disk_is) (synced_rests it.holds it.synced);
              room = omega (arith, room, same, marks.long, it.synced.lasting, ap (λ (d : Disk). d.now.lasting) disk_is);
              root = ap (λ (d : Disk). root_of d.now.contents) disk_is ∙ it.holds.is ∙ sym root_is;
              synced = λ p needed k within. subst (λ (d : Disk). IsTrue (d.now.synced k)) (sym disk_is) (it.synced.synced k);
            });
        holds = grown_holds pages old.marks is.marks old.holds is.holds sound.holds more marks held_long holds;
      }

-- what the next root may need is kept as a store grows
pub grown_kept : (holders : List Holders) (pages : ℕ) (old new : List Mark) → length old < pages → AreGrown holders pages old new → (p : ℕ)
    → IsKept old p → IsKept new p
grown_kept holders pages old new more marks p kept =
    (kept.0, omega (arith, kept.1, marks.long, more), subst (λ (m : Mark). IsTrue (keeps m)) (sym (marks.each p kept.1)) (by (mark old p) kept.2))
  where
    by : (m : Mark) → IsTrue (keeps m) → IsTrue (keeps (committed (holders_at holders p) m))
    by Committed is = is
    by Waiting is = is
    by Fresh is = refl
    by Released is = cc
    by Free is = is
    by Past is = is

-- a store that is closed while its disk is made longer is sound
pub closed_sound : (old new : Store) → IsSoundStore old → size old.disk ≤ size new.disk → new.marks ≡ old.marks → new.holds ≡ old.holds
    → new.closed ≡ true → IsSoundStore new
closed_sound old new sound no_shorter marks holds closed =
    let same : length new.marks ≡ length old.marks = ap (λ (ms : List Mark). length ms) marks in
    record {
      least = omega (arith, sound.least, no_shorter);
      fits = omega (arith, sound.fits, no_shorter, same);
      few = omega (arith, sound.few, same);
      system = ap (λ (ms : List Mark). mark ms 0) marks ∙ sound.system;
      safe = λ h open_. absurd (let no : true ≡ false = sym closed ∙ open_ in cc);
      holds = same_sound old new marks holds sound.holds;
    }

-- a page that was there reads as it did once a root was published on the longer disk
pub longer_within : (old : Store) (mid new : Disk) → IsSoundStore old → IsLonger old.disk.now mid.now
    → ((k : ℕ) → 4 ≤ k → sector new.now.contents k ≡ sector mid.now.contents k)
    → (p : ℕ) → 1 ≤ p → p < length old.marks → (k : ℕ) → IsWithin p k → sector new.now.contents k ≡ sector old.disk.now.contents k
longer_within old mid new sound longer same p behind within k inside =
    same k (omega (arith, behind, inside.0)) ∙ longer.contents k (omega (arith, sound.fits, within, inside.1))

-- a page, so
pub longer_pages : (old : Store) (mid new : Disk) → IsSoundStore old → IsLonger old.disk.now mid.now
    → ((k : ℕ) → 4 ≤ k → sector new.now.contents k ≡ sector mid.now.contents k)
    → (p : ℕ) → 1 ≤ p → p < length old.marks → page new.now.contents p ≡ reads old p
longer_pages old mid new sound longer same p behind within =
    page_same new.now.contents old.disk.now.contents p (longer_within old mid new sound longer same p behind within)

-- a page that a hold needs was there
pub held_pages : (old : Store) (new : ℕ → List ℕ) → IsSoundStore old
    → (IsTrue old.disk.honest → (p : ℕ) → 1 ≤ p → p < length old.marks → new p ≡ reads old p)
    → IsTrue old.disk.honest → (place : HoldPlace) (p : ℕ) → IsHeldBy place old p → new p ≡ reads old p
held_pages old new sound same honest place p held = same honest p held.0 (held_within old sound place p held)
