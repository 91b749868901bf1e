-- The buffers of an honest file keep the promises of a disk.
use Rattle.std.proofs.Common.{◌≡◌, ◌≢◌, ◌⊎◌, inl, inr, ℕ, zero, suc, ◌+◌, ◌*◌, ◌/◌, ◌<◌, ◌≤◌, Bool, true, false, List, [], ◌∷◌, ◌++◌, length, Some, None}
use Rattle.std.proofs.Common.{refl, sym, ap, subst, ◌∙◌, arith, length-append, append_assoc, take}
use Rattle.std.specs.Prelude.{Option, Result, Ok, Err, OnOk, IfSome, is_ok, IsTrue, min, replicate}
use Rattle.std.specs.Bool.{OnTrue, OnFalse}
use Rattle.std.proofs.lemmas.Bool.{cases_lt}
use Rattle.std.specs.List.{AllByRecursion}
use Rattle.std.proofs.lemmas.List.{length-replicate, take_all}
use Rattle.std.proofs.lemmas.List.Elements.{recursion_from_All}
use Rattle.sector_disk.specs.Disk.{sector, size, Shown, MayLeave, GoesOn, Steps, Extends, IsCounted, Keeps, SyncedMore, AllSynced, IsLonger, AreZeros}
use Rattle.sector_disk.specs.Pages.{IsOutside}
use Rattle.sector_disk.specs.Unknown.{unknown_disk}
use Rattle.sector_disk.specs.lemmas.Moments.{one_moment, steps_failed, extends_failed}
use Rattle.sector_disk.specs.lemmas.Unknown.{unknown_goes_on, unknown_extends}
use Rattle.file_disk.specs.declared.waiting_writes.WaitingWrites.{WaitingWrites}
use Rattle.file_disk.specs.Buffered.{honest_disk, buffered_disk}
use Rattle.file_disk.specs.Buffers.{Buffers, HasNoRoomBehind, is_calm, buffered_now}
use Rattle.file_disk.specs.declared.file_event.FileEvent.TheVariants.{Synced}
use Rattle.file_disk.specs.Events.{Happened, had_first, Lengthens, LengthensOnly}
use Rattle.file_disk.specs.Past.{image_of, Standing, stands, stands_after, shown_then}
use Rattle.file_disk.specs.Shown.{shown, Waits}
use Rattle.file_disk.specs.Touched.{WritesOnly, WritesAndSyncs}
use Rattle.file_disk.specs.WaitingSectors.{slot_of}
use Rattle.file_disk.specs.lemmas.Narrow.{length-image_of, sector-image_of, past-image_of, calm_is, now_allowed}
use Rattle.file_disk.proofs.Buffers.{past_kept, stands_on, calm_so, writes_between, writes_still, writes_lasting}
use Rattle.file_disk.proofs.Buffers.{lengthens_between, lengthens_calm, lengthens_last}
use Rattle.file_disk.proofs.Events.{writes_none}

-- ---- over any file

pub size_is : (honest : Bool) (b : Buffers) (ends : IsTrue honest → HasNoRoomBehind b) (failed : ℕ) → size (buffered_disk honest b ends failed) ≡ b.sectors
unfolding buffered_disk
size_is true b ends failed = length-image_of (shown b.waiting b.content) b.sectors
size_is false b ends failed = length-replicate b.sectors []

pub failed_is : (honest : Bool) (b : Buffers) (ends : IsTrue honest → HasNoRoomBehind b) (failed : ℕ) → (buffered_disk honest b ends failed).failed_writes ≡ failed
unfolding buffered_disk
failed_is true b ends failed = refl
failed_is false b ends failed = refl

pub honest_is : (honest : Bool) (b : Buffers) (ends : IsTrue honest → HasNoRoomBehind b) (failed : ℕ) → (buffered_disk honest b ends failed).honest ≡ honest
unfolding buffered_disk
honest_is true b ends failed = refl
honest_is false b ends failed = refl

pub now_is : (honest : Bool) (b : Buffers) (ends : IsTrue honest → HasNoRoomBehind b) (failed : ℕ) → IsTrue honest
    → (buffered_disk honest b ends failed).now ≡ buffered_now b
unfolding buffered_disk
now_is true b ends failed is = refl
now_is false b ends failed is = absurd (cc)

unknown_steps : (old new : ℕ) → new ≡ old → Steps (unknown_disk old) (unknown_disk new)
unknown_steps old new same = subst (λ (n : ℕ). Steps (unknown_disk old) (unknown_disk n)) (sym same) (record {
  goes_on = unknown_goes_on old old (omega arith);
  moments = one_moment (unknown_goes_on old old (omega arith)) (omega arith);
  same_size = refl;
})

-- a step over an honest file is one over any
pub steps_over : (was is : Bool) → is ≡ was → (old new : Buffers) (ends : IsTrue was → HasNoRoomBehind old) (ends_new : IsTrue is → HasNoRoomBehind new) (m n : ℕ)
    → new.sectors ≡ old.sectors → m ≤ n
    → ((a : IsTrue was) (b : IsTrue is) → Steps (honest_disk old (ends a)) (honest_disk new (ends_new b)))
    → Steps (buffered_disk was old ends m) (buffered_disk is new ends_new n)
unfolding buffered_disk
steps_over true true same old new ends ends_new m n size_same le steps = steps_failed m n (steps refl refl) le
steps_over true false same old new ends ends_new m n size_same le steps = absurd (cc)
steps_over false true same old new ends ends_new m n size_same le steps = absurd (cc)
steps_over false false same old new ends ends_new m n size_same le steps =
    steps_failed m n (unknown_steps old.sectors new.sectors size_same) le

pub extends_over : (was is : Bool) → is ≡ was → (old new : Buffers) (ends : IsTrue was → HasNoRoomBehind old) (ends_new : IsTrue is → HasNoRoomBehind new) (m n most : ℕ)
    → old.sectors ≤ new.sectors → new.sectors ≤ most → m ≤ n
    → ((a : IsTrue was) (b : IsTrue is) → Extends most (honest_disk old (ends a)) (honest_disk new (ends_new b)))
    → Extends most (buffered_disk was old ends m) (buffered_disk is new ends_new n)
unfolding buffered_disk
extends_over true true same old new ends ends_new m n most long within le extends = extends_failed most m n (extends refl refl) le
extends_over true false same old new ends ends_new m n most long within le extends = absurd (cc)
extends_over false true same old new ends ends_new m n most long within le extends = absurd (cc)
extends_over false false same old new ends ends_new m n most long within le extends =
    extends_failed most m n (unknown_extends old.sectors new.sectors most long within) le

-- ---- over an honest one

goes_on : (old new : Buffers) (ends : HasNoRoomBehind old) (ends_new : HasNoRoomBehind new) (more : List Happened) → new.happened ≡ old.happened ++ more
    → had_first more new.content ≡ old.content → GoesOn (honest_disk old ends) (honest_disk new ends_new)
goes_on old new ends ends_new more added begins = record {
  later = omega (arith, ap (λ (h : List Happened). length h) added, length-append old.happened more);
  past = past_kept old new more added begins;
  honest = refl;
  failed_writes = omega arith;
}

same_size : (old new : Buffers) → new.sectors ≡ old.sectors
    → length (image_of (shown new.waiting new.content) new.sectors) ≡ length (image_of (shown old.waiting old.content) old.sectors)
same_size old new same =
    length-image_of (shown new.waiting new.content) new.sectors ∙ same ∙ sym (length-image_of (shown old.waiting old.content) old.sectors)

-- what waits is written: a moment passes with each write
pub write_steps : (old new : Buffers) (ends : HasNoRoomBehind old) (ends_new : HasNoRoomBehind new) → new.sectors ≡ old.sectors
    → WritesOnly old.waiting old.happened new.happened old.content new.content → Steps (honest_disk old ends) (honest_disk new ends_new)
write_steps old new ends ends_new same writes = record {
  goes_on = goes_on old new ends ends_new writes.adds.more writes.adds.added writes.adds.begins;
  moments = λ k image from to left. inl (writes_between old new ends writes k from image left);
  same_size = same_size old new same;
}

-- nothing happens to the file
pub idle_steps : (old new : Buffers) (ends : HasNoRoomBehind old) (ends_new : HasNoRoomBehind new) → new.sectors ≡ old.sectors → new.happened ≡ old.happened
    → new.content ≡ old.content → Steps (honest_disk old ends) (honest_disk new ends_new)
idle_steps old new ends ends_new same none content =
    write_steps old new ends ends_new same (writes_none old.waiting none content)

-- and then it is synced
pub sync_steps : (old new : Buffers) (ends : HasNoRoomBehind old) (ends_new : HasNoRoomBehind new) → new.sectors ≡ old.sectors
    → WritesAndSyncs old.waiting old.happened new.happened old.content new.content → Steps (honest_disk old ends) (honest_disk new ends_new)
sync_steps old new ends ends_new same syncs = record {
  goes_on = goes_on old new ends ends_new (syncs.written.adds.more ++ last ∷ []) added
      (begins syncs.written.adds.more syncs.written.adds.begins);
  moments = λ k image from to left. elim (cases_lt k (length new.happened)) [
    | inl before ↦ inl (writes_between old mid ends syncs.written k from image
        (subst (λ (s : Shown). MayLeave s image) (past_kept mid new (last ∷ []) syncs.synced refl k (omega (arith, before, long))) left))
    | inr behind ↦ let is : k ≡ length new.happened = omega (arith, behind, to) in
        inr (now_allowed new ends_new image (subst (λ (n : ℕ). MayLeave (shown_then new.happened new.content n) image) is left))
  ];
  same_size = same_size old new same;
}
  where
    last : Happened
    last = record { event = Synced; had = new.content }

    mid : Buffers
    mid = record { waiting = old.waiting; happened = syncs.between; content = new.content; sectors = old.sectors }

    long : length new.happened ≡ length syncs.between + 1
    long = ap (λ (h : List Happened). length h) syncs.synced ∙ length-append syncs.between (last ∷ [])

    added : new.happened ≡ old.happened ++ (syncs.written.adds.more ++ last ∷ [])
    added =
        syncs.synced ∙ ap (λ (h : List Happened). h ++ last ∷ []) syncs.written.adds.added
        ∙ append_assoc old.happened syncs.written.adds.more (last ∷ [])

    begins : (more : List Happened) → had_first more new.content ≡ old.content → had_first (more ++ last ∷ []) new.content ≡ old.content
    begins [] is = is
    begins (x ∷ more) is = is

pub lengthen_extends : (old new : Buffers) (ends : HasNoRoomBehind old) (ends_new : HasNoRoomBehind new) (most : ℕ) → old.sectors ≤ new.sectors → new.sectors ≤ most
    → LengthensOnly old.sectors most old.happened new.happened old.content new.content
    → Extends most (honest_disk old ends) (honest_disk new ends_new)
lengthen_extends old new ends ends_new most long within lengthens = record {
  goes_on = goes_on old new ends ends_new lengthens.adds.more lengthens.adds.added lengthens.adds.begins;
  moments = λ honest k image from to left. lengthens_between old new most ends ends_new lengthens k from to image left;
  no_shorter = omega (arith, long, sizes old, sizes new);
  no_longer = omega (arith, within, sizes new);
}
  where
    sizes : (b : Buffers) → length (image_of (shown b.waiting b.content) b.sectors) ≡ b.sectors
    sizes b = length-image_of (shown b.waiting b.content) b.sectors

-- ---- what is shown

-- the same, where each sector is shown so
same-image_of : (f g : ℕ → List ℕ) (sectors : ℕ) → ((k : ℕ) → f k ≡ g k) → image_of f sectors ≡ image_of g sectors
unfolding image_of
same-image_of f g zero same = refl
same-image_of f g (suc n) same = λ i. same-image_of f g n same i ++ same n i ∷ []

-- at one place
shown_at : (old new : Buffers) (k : ℕ) → new.sectors ≡ old.sectors → shown new.waiting new.content k ≡ shown old.waiting old.content k
    → sector (buffered_now new).contents k ≡ sector (buffered_now old).contents k
shown_at old new k sectors same = elim (cases_lt k old.sectors) [
  | inl lt ↦
      sector-image_of (shown new.waiting new.content) new.sectors k (omega (arith, lt, sectors)) ∙ same
      ∙ sym (sector-image_of (shown old.waiting old.content) old.sectors k lt)
  | inr le ↦
      past-image_of (shown new.waiting new.content) new.sectors k (omega (arith, le, sectors))
      ∙ sym (past-image_of (shown old.waiting old.content) old.sectors k le)
]

-- a sector that did not wait and does not wait
waits_none : (waiting : WaitingWrites) (k : ℕ) → (Waits waiting k → ⊥) → slot_of waiting.pages.items waiting.count k ≡ None
waits_none waiting k none = go (slot_of waiting.pages.items waiting.count k) refl
  where
    go : (o : Option ℕ) → slot_of waiting.pages.items waiting.count k ≡ o → slot_of waiting.pages.items waiting.count k ≡ None
    go None is = is
    go (Some slot) is = absurd (none (slot, is))

none_waits : (waiting : WaitingWrites) (k : ℕ) → slot_of waiting.pages.items waiting.count k ≡ None → Waits waiting k → ⊥
none_waits waiting k none (slot, is) = let same : Some slot ≡ None = sym is ∙ none in cc

-- it is left by a stop as before, where no more waits
still_calm : (old new : Buffers) → new.sectors ≡ old.sectors → WritesOnly old.waiting old.happened new.happened old.content new.content
    → (k : ℕ) → (Waits new.waiting k → Waits old.waiting k) → IsTrue (is_calm old k) → IsTrue (is_calm new k)
still_calm old new sectors writes k only calm =
    let is = calm_is old k calm in
    calm_so new k (waits_none new.waiting k (λ waits. none_waits old.waiting k is.0 (only waits)))
    (λ lt. omega (arith, writes.shows.same_length, is.1 (omega (arith, lt, sectors))))
    (writes_still old new writes k is.0 ∙ is.2)

same_lasting : (old new : Buffers) → new.sectors ≡ old.sectors → WritesOnly old.waiting old.happened new.happened old.content new.content
    → (buffered_now old).lasting ≤ (buffered_now new).lasting
same_lasting old new sectors writes = omega (arith, sectors, ap (λ (n : ℕ). n / 512) (writes_lasting old new writes))

-- a write keeps the other sectors
pub write_keeps : (old new : Buffers) (at : ℕ) → new.sectors ≡ old.sectors
    → WritesOnly old.waiting old.happened new.happened old.content new.content
    → ((k : ℕ) → k ≢ at → shown new.waiting new.content k ≡ shown old.waiting old.content k)
    → ((k : ℕ) → Waits new.waiting k → (k ≡ at) ⊎ Waits old.waiting k)
    → Keeps (λ k. k ≢ at) (buffered_now old) (buffered_now new)
write_keeps old new at sectors writes others only = record {
  contents = λ k other. shown_at old new k sectors (others k other);
  synced = λ k other calm. still_calm old new sectors writes k (λ waits. elim (only k waits) [
    | inl same ↦ absurd (other same)
    | inr before ↦ before
  ]) calm;
  lasting = same_lasting old new sectors writes;
  same_size = same_size old new sectors;
}

-- a write of a page keeps the sectors of the others
pub page_keeps : (old new : Buffers) (page : ℕ) → new.sectors ≡ old.sectors
    → WritesOnly old.waiting old.happened new.happened old.content new.content
    → ((k : ℕ) → IsOutside page k → shown new.waiting new.content k ≡ shown old.waiting old.content k)
    → ((k : ℕ) → IsOutside page k → Waits new.waiting k → Waits old.waiting k)
    → Keeps (IsOutside page) (buffered_now old) (buffered_now new)
page_keeps old new page sectors writes others only = record {
  contents = λ k outside. shown_at old new k sectors (others k outside);
  synced = λ k outside calm. still_calm old new sectors writes k (only k outside) calm;
  lasting = same_lasting old new sectors writes;
  same_size = same_size old new sectors;
}

-- a sync that is refused keeps all
pub tried_keeps : (old new : Buffers) → new.sectors ≡ old.sectors
    → WritesOnly old.waiting old.happened new.happened old.content new.content
    → ((k : ℕ) → shown new.waiting new.content k ≡ shown old.waiting old.content k)
    → ((k : ℕ) → Waits new.waiting k → Waits old.waiting k) → SyncedMore (buffered_now old) (buffered_now new)
tried_keeps old new sectors writes same only = record {
  contents = ap (image_of (shown new.waiting new.content)) sectors
      ∙ same-image_of (shown new.waiting new.content) (shown old.waiting old.content) old.sectors same;
  synced = λ k calm. still_calm old new sectors writes k (only k) calm;
  lasting = same_lasting old new sectors writes;
}

-- one that is done leaves all synced
sync_stands : (old new : Buffers) → WritesAndSyncs old.waiting old.happened new.happened old.content new.content
    → stands new.happened new.content ≡ record { synced = λ k. true; lasting = length new.content }
sync_stands old new syncs =
    let mid : Buffers = record { waiting = old.waiting; happened = syncs.between; content = new.content; sectors = old.sectors } in
    stands_on mid new (record { event = Synced; had = new.content } ∷ []) syncs.synced refl

pub sync_all : (old new : Buffers) → WritesAndSyncs old.waiting old.happened new.happened old.content new.content → new.waiting.count ≡ 0
    → 512 * new.sectors ≤ length new.content → AllSynced (buffered_now new)
sync_all old new syncs none long = record {
  synced = λ k. calm_so new k (ap (λ (n : ℕ). slot_of new.waiting.pages.items n k) none) (λ lt. omega (arith, long, lt))
      (ap (λ (s : Standing). s.synced k) (sync_stands old new syncs));
  lasting = omega (
    arith,
    long,
    ap (λ (s : Standing). s.lasting) (sync_stands old new syncs),
    length-image_of (shown new.waiting new.content) new.sectors,
  );
}

pub sync_more : (old new : Buffers) → new.sectors ≡ old.sectors → WritesAndSyncs old.waiting old.happened new.happened old.content new.content
    → new.waiting.count ≡ 0 → 512 * new.sectors ≤ length new.content
    → ((k : ℕ) → shown new.waiting new.content k ≡ shown old.waiting old.content k) → SyncedMore (buffered_now old) (buffered_now new)
sync_more old new sectors syncs none long same = record {
  contents = ap (image_of (shown new.waiting new.content)) sectors
      ∙ same-image_of (shown new.waiting new.content) (shown old.waiting old.content) old.sectors same;
  synced = λ k calm. (sync_all old new syncs none long).synced k;
  lasting = omega (
    arith,
    sectors,
    (sync_all old new syncs none long).lasting,
    length-image_of (shown new.waiting new.content) new.sectors,
  );
}

-- a longer disk keeps what was there
pub lengthen_keeps : (old new : Buffers) (most : ℕ) → old.sectors ≤ new.sectors → new.waiting ≡ old.waiting
    → LengthensOnly old.sectors most old.happened new.happened old.content new.content
    → ((k : ℕ) → k < old.sectors → shown new.waiting new.content k ≡ shown old.waiting old.content k)
    → IsLonger (buffered_now old) (buffered_now new)
lengthen_keeps old new most long waiting lengthens kept = record {
  no_shorter = omega (arith, long, sizes old, sizes new);
  contents = λ k lt.
      let here : k < old.sectors = omega (arith, lt, sizes old) in
      sector-image_of (shown new.waiting new.content) new.sectors k (omega (arith, here, long)) ∙ kept k here
      ∙ sym (sector-image_of (shown old.waiting old.content) old.sectors k here);
  synced = λ k lt calm. synced k (omega (arith, lt, sizes old)) calm;
  lasting = omega (arith, long, ap (λ (s : Standing). s.lasting / 512) on, lasts);
}
  where
    sizes : (b : Buffers) → length (image_of (shown b.waiting b.content) b.sectors) ≡ b.sectors
    sizes b = length-image_of (shown b.waiting b.content) b.sectors

    more : List Happened
    more = lengthens.adds.more

    each : AllByRecursion (Lengthens old.sectors most old.content) more
    each = recursion_from_All (Lengthens old.sectors most old.content) more lengthens.adds.each

    on : stands new.happened new.content ≡ stands_after (stands old.happened old.content) (take (length more) more)
    on =
        stands_on old new more lengthens.adds.added lengthens.adds.begins
        ∙ ap (stands_after (stands old.happened old.content)) (sym (take_all (length more) more (omega arith)))

    lasts : min old.sectors ((stands old.happened old.content).lasting / 512)
        ≤ (stands_after (stands old.happened old.content) (take (length more) more)).lasting / 512
    lasts = lengthens_last old.sectors most old.content more (length more) (stands old.happened old.content) each

    synced : (k : ℕ) → k < old.sectors → IsTrue (is_calm old k) → IsTrue (is_calm new k)
    synced k lt calm =
        let is = calm_is old k calm in
        calm_so new k (ap (λ (w : WaitingWrites). slot_of w.pages.items w.count k) waiting ∙ is.0)
        (λ _. lengthens.there k lt (is.1 lt))
        (ap (λ (s : Standing). s.synced k) on
        ∙ lengthens_calm old.sectors most old.content more (length more) (stands old.happened old.content) each k lt ∙ is.2)

-- and has zeros behind it
pub lengthen_zeros : (old new : Buffers) → ((k : ℕ) → old.sectors ≤ k → k < new.sectors → shown new.waiting new.content k ≡ replicate 512 0)
    → AreZeros old.sectors new.sectors (buffered_now new).contents
lengthen_zeros old new zeros k from to = sector-image_of (shown new.waiting new.content) new.sectors k to ∙ zeros k from to

-- a sector is shown
pub shows_sector : (b : Buffers) (at : ℕ) → at < b.sectors → sector (buffered_now b).contents at ≡ shown b.waiting b.content at
shows_sector b at lt = sector-image_of (shown b.waiting b.content) b.sectors at lt

-- ---- from what is shown of an honest file to any

-- the disk is honest where the file is
pub word : (honest : Bool) (b : Buffers) (ends : IsTrue honest → HasNoRoomBehind b) (failed : ℕ) → IsTrue (buffered_disk honest b ends failed).honest → IsTrue honest
word honest b ends failed said = sym (honest_is honest b ends failed) ∙ said

pub below : (honest : Bool) (b : Buffers) (ends : IsTrue honest → HasNoRoomBehind b) (failed at : ℕ) → at < size (buffered_disk honest b ends failed) → at < b.sectors
below honest b ends failed at lt = omega (arith, lt, size_is honest b ends failed)

pub within : (honest : Bool) (b : Buffers) (ends : IsTrue honest → HasNoRoomBehind b) (failed n : ℕ) → n ≤ size (buffered_disk honest b ends failed) → n ≤ b.sectors
within honest b ends failed n le = omega (arith, le, size_is honest b ends failed)

pub above : (honest : Bool) (b : Buffers) (ends : IsTrue honest → HasNoRoomBehind b) (failed n : ℕ) → size (buffered_disk honest b ends failed) < n → b.sectors < n
above honest b ends failed n lt = omega (arith, lt, size_is honest b ends failed)

pub one_now : (Such : Shown → Type 0) (honest : Bool) (b : Buffers) (ends : IsTrue honest → HasNoRoomBehind b) (failed : ℕ) → IsTrue honest
    → Such (buffered_now b) → Such (buffered_disk honest b ends failed).now
one_now Such honest b ends failed is such = subst Such (sym (now_is honest b ends failed is)) such

pub both_now : (R : Shown → Shown → Type 0) (was is : Bool) → is ≡ was → (old new : Buffers) (ends : IsTrue was → HasNoRoomBehind old)
    (ends_new : IsTrue is → HasNoRoomBehind new) (m n : ℕ) → IsTrue was → R (buffered_now old) (buffered_now new)
    → R (buffered_disk was old ends m).now (buffered_disk is new ends_new n).now
both_now R was is same old new ends ends_new m n honest such =
    one_now (R (buffered_disk was old ends m).now) is new ends_new n (same ∙ honest)
    (one_now (λ (shown : Shown). R shown (buffered_now new)) was old ends m honest such)

pub now_same : (old new : Buffers) → new.waiting ≡ old.waiting → new.happened ≡ old.happened → new.content ≡ old.content → new.sectors ≡ old.sectors
    → buffered_now new ≡ buffered_now old
now_same old new waiting happened content sectors =
    λ i. buffered_now (record { waiting = waiting i; happened = happened i; content = content i; sectors = sectors i })

pub sector_now : (honest : Bool) (b : Buffers) (ends : IsTrue honest → HasNoRoomBehind b) (failed at : ℕ) → IsTrue honest → at < b.sectors
    → sector (buffered_disk honest b ends failed).now.contents at ≡ shown b.waiting b.content at
sector_now honest b ends failed at is lt =
    one_now (λ (now : Shown). sector now.contents at ≡ shown b.waiting b.content at) honest b ends failed is (shows_sector b at lt)

pub spared_over : (was is : Bool) (old new : Buffers) (ends : IsTrue was → HasNoRoomBehind old) (ends_new : IsTrue is → HasNoRoomBehind new) (m n : ℕ) → n ≡ m
    → (buffered_disk is new ends_new n).failed_writes ≡ (buffered_disk was old ends m).failed_writes
spared_over was is old new ends ends_new m n same = failed_is is new ends_new n ∙ same ∙ sym (failed_is was old ends m)

pub counted_over : {T E : Type 0} (was is : Bool) (old new : Buffers) (ends : IsTrue was → HasNoRoomBehind old) (ends_new : IsTrue is → HasNoRoomBehind new) (m n : ℕ)
    (result : Result T E) → IsCounted m n result
    → IsCounted (buffered_disk was old ends m).failed_writes (buffered_disk is new ends_new n).failed_writes result
counted_over was is old new ends ends_new m n result counted =
    subst (λ (a : ℕ). IsCounted a (buffered_disk is new ends_new n).failed_writes result) (sym (failed_is was old ends m))
    (subst (λ (b : ℕ). IsCounted m b result) (sym (failed_is is new ends_new n)) counted)

pub zeros_over : (was is : Bool) → is ≡ was → (old new : Buffers) (ends : IsTrue was → HasNoRoomBehind old) (ends_new : IsTrue is → HasNoRoomBehind new) (m n most : ℕ)
    → IsTrue was → new.sectors ≡ most
    → ((k : ℕ) → old.sectors ≤ k → k < most → shown new.waiting new.content k ≡ replicate 512 0)
    → AreZeros (size (buffered_disk was old ends m)) most (buffered_disk is new ends_new n).now.contents
zeros_over was is same old new ends ends_new m n most honest long zeros k from to =
    sector_now is new ends_new n k (same ∙ honest) (omega (arith, to, long)) ∙ zeros k (omega (arith, from, size_is was old ends m)) to

-- what an answer tells of a call that was done
pub ok_on : {T E P : Type 0} (result : Result T E) (done : Bool) → is_ok result ≡ done → (done ≡ true → P) → OnOk result P
ok_on (Ok x) done is so = so (sym is)
ok_on (Err e) done is so = tt

pub done_or_not : {P : Type 0} (done : Bool) → (done ≡ true → P) → (done ≡ false → P) → P
done_or_not true so else_so = so refl
done_or_not false so else_so = else_so refl

pub false_of : {P : Type 0} (b : Bool) → OnFalse b P → b ≡ false → P
false_of true so is = absurd (cc)
false_of false so is = so

-- the file was made longer, or may have been
pub longer_or_same : (done : Bool) (old new to : ℕ) (lost : Bool) → old ≤ to → OnTrue done (new ≡ to)
    → OnFalse done ((new ≡ old) ⊎ ((new ≡ to) × (lost ≡ true))) → (old ≤ new) × (new ≤ to)
longer_or_same true old new to lost le longer same = (omega (arith, longer, le), omega (arith, longer))
longer_or_same false old new to lost le longer (inl same) = (omega (arith, same), omega (arith, same, le))
longer_or_same false old new to lost le longer (inr most) = (omega (arith, most.0, le), omega (arith, most.0))

-- what is said of what is there, if anything is
pub some_so : {X : Type 0} {P Q : X → Type 0} (o : Option X) → ((x : X) → P x → Q x) → IfSome o P → IfSome o Q
some_so (Some x) so is = so x is
some_so None so is = tt
