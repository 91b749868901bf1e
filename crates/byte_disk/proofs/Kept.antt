-- One event more joins those that a disk has had: what is so of a disk in memory that keeps them is so of one that does not.
use Rattle.std.proofs.Common.{◌≡◌, ◌≢◌, ℕ, ◌≤◌, Bool, true, false, List, [], ◌∷◌, ◌++◌, length, take, IsTrue, refl, sym, ◌∙◌, ap, subst, arith, length-append, ◌==◌}
use Rattle.std.proofs.Common.{◌+◌, ◌-◌, nat_lt, Option, None, Some}
use Rattle.std.proofs.lemmas.List.{set-set, set-get_or, length-set, get_or-set_other, take-append-le, take_all, length-replicate}
use Rattle.std.proofs.lemmas.List.{get_or_append_left, get_or-append_right, get_or-replicate}
use Rattle.std.proofs.lemmas.Bool.{ne_eqb, lt-ltb}
use Rattle.std.specs.Prelude.{slice_set, min, replicate}
use Rattle.sector_disk.specs.declared.log.Event.{Event}
use Rattle.sector_disk.specs.declared.log.Event.TheVariants.{Wrote, Synced, Extended}
use Rattle.sector_disk.specs.Disk.{Image, sector, GoesOn, Steps, Keeps, SyncedMore, AllSynced, Extends, IsLonger, AreZeros}
use Rattle.sector_disk.specs.Past.{before, synced_by, synced_after, shown_now, memory_disk}
use Rattle.sector_disk.specs.Past.{end_by, end_after, lasting_of, lasting_within}
use Rattle.sector_disk.specs.lemmas.Moments.{one_moment}
use Rattle.sector_disk.specs.lemmas.Unknown.{past}

pub synced_after-push : (synced : ℕ → Bool) (events : List Event) (event : Event)
    → synced_after synced (events ++ event ∷ []) ≡ synced_by (synced_after synced events) event
synced_after-push synced [] event = refl
synced_after-push synced (e ∷ events) event = synced_after-push (synced_by synced e) events event

pub end_after-push : (end : Option ℕ) (events : List Event) (event : Event) → end_after end (events ++ event ∷ []) ≡ end_by (end_after end events) event
end_after-push end [] event = refl
end_after-push end (e ∷ events) event = end_after-push (end_by end e) events event

-- what a write leaves of the end
write_lasts : (events later : List Event) (old new : Image) (at : ℕ) (was : List ℕ) → later ≡ events ++ Wrote at was ∷ [] → length new ≡ length old
    → lasting_of (end_after None later) new ≡ lasting_of (end_after None events) old
write_lasts events later old new at was is size =
    ap (λ (end : Option ℕ). lasting_of end new) (ap (end_after None) is ∙ end_after-push None events (Wrote at was)) ∙ long (end_after None events)
  where
    long : (end : Option ℕ) → lasting_of end new ≡ lasting_of end old
    long None = size
    long (Some first) = ap (λ (n : ℕ). min n first) size

pub kept : (events : List Event) (event : Event) (old new : Image) → before event new ≡ old → length new ≡ length old
    → Steps (memory_disk events old) (memory_disk (events ++ event ∷ []) new)
kept events event old new back size = record {
  goes_on = goes_on;
  moments = one_moment goes_on (omega (arith, length-append events (event ∷ [])));
  same_size = size;
}
  where
    goes_on : GoesOn (memory_disk events old) (memory_disk (events ++ event ∷ []) new)
    goes_on = record {
      later = omega (arith, length-append events (event ∷ []));
      past = past events event old new back;
      honest = refl;
      failed_writes = omega arith;
    }

pub kept_write : (events later : List Event) (image : Image) (at : ℕ) (bytes was : List ℕ) → was ≡ sector image at → later ≡ events ++ Wrote at was ∷ []
    → Steps (memory_disk events image) (memory_disk later (slice_set image at bytes))
kept_write events later image at bytes was was_is is =
    let back : slice_set (slice_set image at bytes) at was ≡ image =
    set-set image at bytes was ∙ ap (λ (w : List ℕ). slice_set image at w) was_is ∙ set-get_or image at [] in
    subst (λ (es : List Event). Steps (memory_disk events image) (memory_disk es (slice_set image at bytes))) (sym is)
    (kept events (Wrote at was) image (slice_set image at bytes) back (length-set image at bytes))

pub kept_sync : (events later : List Event) (image : Image) → later ≡ events ++ Synced ∷ [] → Steps (memory_disk events image) (memory_disk later image)
kept_sync events later image is =
    subst (λ (es : List Event). Steps (memory_disk events image) (memory_disk es image)) (sym is) (kept events Synced image image refl refl)

pub changed : (events later : List Event) (image : Image) (at : ℕ) (bytes was : List ℕ) → later ≡ events ++ Wrote at was ∷ []
    → Keeps (λ k. k ≢ at) (shown_now events image) (shown_now later (slice_set image at bytes))
changed events later image at bytes was is = record {
  contents = λ k other. get_or-set_other image at k bytes [] other;
  synced = λ k other synced.
      let now : synced_after (λ k. true) later ≡ synced_by (synced_after (λ k. true) events) (Wrote at was) =
      ap (synced_after (λ k. true)) is ∙ synced_after-push (λ k. true) events (Wrote at was) in
      let ne : (k == at) ≡ false = ne_eqb k at other in
      subst (λ (f : ℕ → Bool). IsTrue (f k)) (sym now) (rw ne synced);
  lasting = omega (arith, write_lasts events later image (slice_set image at bytes) at was is (length-set image at bytes));
  same_size = length-set image at bytes;
}

-- a longer disk
pub kept_extend : (events later : List Event) (old new : Image) (sectors more : ℕ) → later ≡ events ++ Extended (length old) ∷ []
    → new ≡ old ++ replicate more (replicate 512 0) → sectors ≡ length old + more → Extends sectors (memory_disk events old) (memory_disk later new)
kept_extend events later old new sectors more is_later is_new is_long =
    let long : length new ≡ length old + more = ap (λ (p : Image). length p) is_new ∙ length-append old (replicate more (replicate 512 0))
    ∙ ap (λ (n : ℕ). length old + n) (length-replicate more (replicate 512 0)) in
    let back : before (Extended (length old)) new ≡ old =
    ap (λ (p : Image). take (length old) p) is_new ∙ take-append-le (length old) old (replicate more (replicate 512 0)) (omega arith)
    ∙ take_all (length old) old (omega arith) in
    let goes_on : GoesOn (memory_disk events old) (memory_disk (events ++ Extended (length old) ∷ []) new) = record {
      later = omega (arith, length-append events (Extended (length old) ∷ []));
      past = past events (Extended (length old)) old new back;
      honest = refl;
      failed_writes = omega arith;
    } in
    subst (λ (es : List Event). Extends sectors (memory_disk events old) (memory_disk es new)) (sym is_later) (record {
      goes_on = goes_on;
      moments = λ honest. one_moment goes_on (omega (arith, length-append events (Extended (length old) ∷ [])));
      no_shorter = omega (arith, long);
      no_longer = omega (arith, long, is_long);
    })

pub longer : (events later : List Event) (old new : Image) (more : ℕ) → later ≡ events ++ Extended (length old) ∷ []
    → new ≡ old ++ replicate more (replicate 512 0) → IsLonger (shown_now events old) (shown_now later new)
longer events later old new more is_later is_new = record {
  no_shorter = omega (arith, long);
  contents = λ k here. ap (λ (p : Image). sector p k) is_new ∙ get_or_append_left old (replicate more (replicate 512 0)) [] k here;
  synced = λ k here synced.
      let now : synced_after (λ k. true) later ≡ synced_by (synced_after (λ k. true) events) (Extended (length old)) =
      ap (synced_after (λ k. true)) is_later ∙ synced_after-push (λ k. true) events (Extended (length old)) in
      let lt : nat_lt k (length old) ≡ true = lt-ltb k (length old) here in
      subst (λ (f : ℕ → Bool). IsTrue (f k)) (sym now) (rw lt synced);
  lasting = subst (λ (end : Option ℕ). lasting_of (end_after None events) old ≤ lasting_of end new)
      (sym (ap (end_after None) is_later ∙ end_after-push None events (Extended (length old)))) (lasts (end_after None events));
}
  where
    long : length new ≡ length old + more
    long = ap (λ (p : Image). length p) is_new ∙ length-append old (replicate more (replicate 512 0))
        ∙ ap (λ (n : ℕ). length old + n) (length-replicate more (replicate 512 0))

    lasts : (end : Option ℕ) → lasting_of end old ≤ lasting_of (end_by end (Extended (length old))) new
    lasts None = omega (arith, long)
    lasts (Some first) = omega (arith, long)

pub zeros_behind : (old new : Image) (from sectors more : ℕ) → new ≡ old ++ replicate more (replicate 512 0) → from ≡ length old
    → sectors ≡ length old + more → AreZeros from sectors new
zeros_behind old new from sectors more is_new is_from is_long = λ k low high.
    ap (λ (p : Image). sector p k) is_new
    ∙ get_or-append_right old (replicate more (replicate 512 0)) (length old) k [] refl (omega (arith, is_from, low))
    ∙ get_or-replicate more (k - length old) (replicate 512 0) [] (omega (arith, is_from, low, high, is_long))

pub all_synced : (events later : List Event) (image : Image) → later ≡ events ++ Synced ∷ [] → AllSynced (shown_now later image)
all_synced events later image is = record {
  synced = λ k. subst (λ (f : ℕ → Bool). IsTrue (f k)) (sym (ap (synced_after (λ k. true)) is ∙ synced_after-push (λ k. true) events Synced)) refl;
  lasting = ap (λ (end : Option ℕ). lasting_of end image) (ap (end_after None) is ∙ end_after-push None events Synced);
}

pub synced_more : (events later : List Event) (image : Image) → later ≡ events ++ Synced ∷ []
    → SyncedMore (shown_now events image) (shown_now later image)
synced_more events later image is = record {
  contents = refl;
  synced = λ k synced. (all_synced events later image is).synced k;
  lasting = omega (arith, (all_synced events later image is).lasting, lasting_within (end_after None events) image);
}
