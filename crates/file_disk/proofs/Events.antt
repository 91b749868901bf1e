-- What comes to the events of a file.
use Rattle.std.proofs.Common.{◌≡◌, ◌⊎◌, inl, inr, ℕ, ◌+◌, ◌-◌, ◌*◌, ◌/◌, ◌<◌, ◌≤◌, Bool, true, false, List, [], ◌∷◌, ◌++◌, length, Some}
use Rattle.std.proofs.Common.{refl, sym, ap, subst, ◌∙◌, arith, append_assoc}
use Rattle.std.specs.Bool.{OnTrue, OnFalse}
use Rattle.std.proofs.lemmas.List.{append-nil}
use Rattle.std.proofs.lemmas.List.Elements.{All-nil, All-cons, All-append}
use Rattle.file_disk.specs.declared.file_event.FileEvent.{FileEvent}
use Rattle.file_disk.specs.declared.file_event.FileEvent.TheVariants.{Wrote, Synced, Resized}
use Rattle.file_disk.specs.declared.waiting_writes.WaitingWrites.{WaitingWrites}
use Rattle.file_disk.specs.Bytes.{bytes_at, KeepsUpTo}
use Rattle.file_disk.specs.Events.{Happened, had_first, Adds, IsEventNoted, IsNotedOrNothing, EndsAtSector, Lengthens, LengthensOnly}
use Rattle.file_disk.specs.Shown.{shown}
use Rattle.file_disk.specs.Touched.{IsWriteOf, WritesOnly, WritesAndSyncs}
use Rattle.file_disk.specs.WaitingSectors.{slot_of}
use Rattle.file_disk.specs.lemmas.WaitingSectors.{ShowsSame}
use Rattle.file_disk.proofs.Flushes.{part_long}
use Rattle.file_disk.proofs.Shown.{cut_keeps}

-- what was had before the first of more things
begins_then : (first second : List Happened) (a b c : List ℕ) → had_first first b ≡ a → had_first second c ≡ b → had_first (first ++ second) c ≡ a
begins_then [] second a b c begins goes_on = goes_on ∙ begins
begins_then (x ∷ first) second a b c begins goes_on = begins

-- nothing came
pub adds_same : {Such : Happened → Type 0} {old new : List Happened} {a b : List ℕ} → new ≡ old → b ≡ a → Adds Such old new a b
adds_same {Such = Such} {old = old} same bytes = record { more = []; added = same ∙ sym (append-nil old); each = All-nil Such; begins = bytes }

-- one event came
pub adds_one : {Such : Happened → Type 0} (event : FileEvent) {old new : List Happened} (a b : List ℕ) → Such (record { event = event; had = a })
    → IsEventNoted event a old new → Adds Such old new a b
adds_one {Such = Such} event a b such noted = record {
  more = record { event = event; had = a } ∷ [];
  added = noted;
  each = All-cons Such (record { event = event; had = a }) [] such (All-nil Such);
  begins = refl;
}

-- it came, or nothing did
pub adds_tried : {Such : Happened → Type 0} (event : FileEvent) {old new : List Happened} (a b : List ℕ) → Such (record { event = event; had = a })
    → IsNotedOrNothing event old new a b → Adds Such old new a b
adds_tried event a b such (inl noted) = adds_one event a b such noted
adds_tried event a b such (inr nothing) = adds_same nothing.0 nothing.1

-- and so it is whether the call was done or not
pub adds_done : {Such : Happened → Type 0} (event : FileEvent) {old new : List Happened} (a b : List ℕ) (done : Bool)
    → Such (record { event = event; had = a }) → OnTrue done (IsEventNoted event a old new) → OnFalse done (IsNotedOrNothing event old new a b)
    → Adds Such old new a b
adds_done event a b true such noted tried = adds_one event a b such noted
adds_done event a b false such noted tried = adds_tried event a b such tried

-- more came behind, of another kind that is of this one too
pub adds_then : {Such Other : Happened → Type 0} {old mid new : List Happened} {a b c : List ℕ} → Adds Such old mid a b → Adds Other mid new b c
    → ((h : Happened) → Other h → Such h) → Adds Such old new a c
adds_then {Such = Such} {old = old} {a = a} {b = b} {c = c} first second is = record {
  more = first.more ++ second.more;
  added = second.added ∙ ap (λ (events : List Happened). events ++ second.more) first.added ∙ append_assoc old first.more second.more;
  each = All-append Such first.more second.more first.each (λ k d lt. is _ (second.each k d lt));
  begins = begins_then first.more second.more a b c first.begins second.begins;
}

-- the same is shown
pub shows_none : (waiting : WaitingWrites) {a b : List ℕ} → b ≡ a → ShowsSame waiting.pages.items waiting.count waiting.bytes.items a b
shows_none waiting same = record {
  same_length = ap (λ (bytes : List ℕ). length bytes) same;
  shown = λ k. ap (λ (bytes : List ℕ). shown waiting bytes k) same;
}

shows_then : (waiting : WaitingWrites) {a b c : List ℕ} → ShowsSame waiting.pages.items waiting.count waiting.bytes.items a b
    → ShowsSame waiting.pages.items waiting.count waiting.bytes.items b c → ShowsSame waiting.pages.items waiting.count waiting.bytes.items a c
shows_then waiting first second = record {
  same_length = second.same_length ∙ first.same_length;
  shown = λ k. second.shown k ∙ first.shown k;
}

-- nothing was written
pub writes_none : (waiting : WaitingWrites) {old new : List Happened} {a b : List ℕ} → new ≡ old → b ≡ a → WritesOnly waiting old new a b
writes_none waiting same bytes = record { adds = adds_same same bytes; shows = shows_none waiting bytes }

-- one write was tried
pub writes_tried : (waiting : WaitingWrites) (event : FileEvent) {old new : List Happened} (a b : List ℕ) (done : Bool) → IsWriteOf waiting event
    → OnTrue done (IsEventNoted event a old new) → OnFalse done (IsNotedOrNothing event old new a b)
    → ShowsSame waiting.pages.items waiting.count waiting.bytes.items a b → WritesOnly waiting old new a b
writes_tried waiting event a b done is noted tried shows = record {
  adds = adds_done event a b done (record { event = is; had = shows_none waiting refl }) noted tried;
  shows = shows;
}

-- more was written behind
pub writes_then : {waiting : WaitingWrites} {old mid new : List Happened} {a b c : List ℕ} → WritesOnly waiting old mid a b
    → WritesOnly waiting mid new b c → WritesOnly waiting old new a c
writes_then {waiting = waiting} first second = record {
  adds = adds_then first.adds second.adds (λ h is. record { event = is.event; had = shows_then waiting first.shows is.had });
  shows = shows_then waiting first.shows second.shows;
}

-- and then it was synced
pub syncs_then : {waiting : WaitingWrites} {old mid new : List Happened} {a b c : List ℕ} → WritesOnly waiting old mid a b → IsEventNoted Synced b mid new
    → c ≡ b → WritesAndSyncs waiting old new a c
syncs_then {waiting = waiting} {old = old} {mid = mid} {new = new} {a = a} written synced same = record {
  between = mid;
  written = subst (λ (bytes : List ℕ). WritesOnly waiting old mid a bytes) (sym same) written;
  synced = subst (λ (bytes : List ℕ). IsEventNoted Synced bytes mid new) (sym same) synced;
}

-- a file of so many sectors has them
has_them : (from : ℕ) (a : List ℕ) → 512 * from ≤ length a → length a < 512 * (from + 1) → EndsAtSector from a a
has_them from a there no_more = record { there = there; no_more = no_more; same = λ k lt. refl }

-- nothing changed
pub lengthens_none : (from to : ℕ) {happened : List Happened} (a : List ℕ) → LengthensOnly from to happened happened a a
lengthens_none from to a = record { adds = adds_same refl refl; there = λ k lt was. was }

-- it is cut to its whole sectors, or that is refused
pub cuts : (from to : ℕ) {old new : List Happened} (a b : List ℕ) (done : Bool) → from ≤ to → 512 * from ≤ length a → length a < 512 * (from + 1)
    → KeepsUpTo (512 * from) a b → OnTrue done (IsEventNoted (Resized (512 * from)) a old new)
    → OnFalse done (IsNotedOrNothing (Resized (512 * from)) old new a b) → LengthensOnly from to old new a b
cuts from to a b done le there no_more keeps noted tried = record {
  adds = adds_done (Resized (512 * from)) a b done
      (record { event = (omega arith, omega (arith, le)); had = has_them from a there no_more }) noted tried;
  there = λ k lt was. omega (arith, keeps.no_shorter, there, lt);
}

-- and made longer from there, or that is refused
pub lengthens : (from to : ℕ) {old mid new : List Happened} (a b c : List ℕ) (done : Bool) → from ≤ to → 512 * from ≤ length a
    → length a < 512 * (from + 1) → KeepsUpTo (512 * from) a b → KeepsUpTo (512 * to) b c → LengthensOnly from to old mid a b
    → OnTrue done (IsEventNoted (Resized (512 * to)) b mid new) → OnFalse done (IsNotedOrNothing (Resized (512 * to)) mid new b c)
    → LengthensOnly from to old new a c
lengthens from to a b c done le there no_more cut long first noted tried = record {
  adds = adds_then first.adds
      (adds_done {Such = Lengthens from to a} (Resized (512 * to)) b c done (record { event = (omega (arith, le), omega arith); had = has }) noted tried)
      (λ h is. is);
  there = λ k lt was. omega (arith, long.no_shorter, has.there, le, lt);
}
  where
    ends : (length b ≤ length a) ⊎ (length b ≤ 512 * from) → length b < 512 * (from + 1)
    ends (inl less) = omega (arith, less, no_more)
    ends (inr less) = omega (arith, less)

    has : EndsAtSector from a b
    has = record { there = omega (arith, cut.no_shorter, there); no_more = ends cut.no_longer; same = λ k lt. cut_keeps a b from k cut there lt }

-- a part of sectors that wait side by side
pub part_waits : (waiting : WaitingWrites) (bytes part : List ℕ) (first slot sectors : ℕ)
    → ((k : ℕ) → k < sectors → slot_of waiting.pages.items waiting.count (first + k) ≡ Some (slot + k))
    → part ≡ bytes_at bytes (512 * slot) (512 * sectors) → 512 * slot + 512 * sectors ≤ length bytes
    → IsWriteOf waiting (Wrote (512 * first) (length part))
part_waits waiting bytes part first slot sectors wait is within = λ byte from to.
    let long : length part ≡ 512 * sectors = ap (λ (b : List ℕ). length b) is ∙ part_long bytes (512 * slot) (512 * sectors) within in
    let there : first + (byte / 512 - first) ≡ byte / 512 = omega arith in
    (slot + (byte / 512 - first), ap (slot_of waiting.pages.items waiting.count) (sym there) ∙ wait (byte / 512 - first) (omega arith))
