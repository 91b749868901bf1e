-- The last sync among the events, and a sector more of the image that a number picks.
use Rattle.std.proofs.Common.{◌≡◌, inl, inr, ℕ, suc, zero, ◌+◌, ◌-◌, ◌*◌, ◌/◌, ◌%◌, ◌^◌, ◌<◌, Bool, true, false, List, [], ◌∷◌, ◌++◌, length, drop, IsTrue, refl, sym, ◌∙◌, ap, subst, arith, length-append, ◌==◌, if◌then◌else◌}
use Rattle.std.specs.Prelude.{slice_index_or}
use Rattle.std.proofs.Common.{nat_lt, ◌≤◌, Option, None, take}
use Rattle.std.specs.Prelude.{◌≢◌}
use Rattle.std.proofs.lemmas.List.{take-append-le, take_all, get_or_append_left, get_or-append_right}
use Rattle.std.proofs.lemmas.Bool.{cases_lt, eq-eqb, le-ltb}
use Rattle.std.proofs.lemmas.Nat.{pow-add, mul-pow}
use Rattle.sector_disk.specs.declared.log.Event.{Event}
use Rattle.sector_disk.specs.declared.log.Event.TheVariants.{Wrote, Synced, Extended}
use Rattle.sector_disk.specs.Disk.{Image, sector, Disk, MayLeave, with_failed}
use Rattle.sector_disk.specs.Past.{before, undone, synced_after, end_after, lasting_of, memory_disk}
use Rattle.sector_disk.specs.lemmas.Log.{IsLastSyncOf, IsAsAtSync, last_by}
use Rattle.sector_disk.specs.Stops.{IsEndOf, IsLastSync, IsPickedBy, unsynced_below, digit, torn, left_at, was_at}
use Rattle.sector_disk.proofs.Kept.{synced_after-push, all_lasts, stop_leaves}

-- one event more, after which the last sync is the one before or this event
pub last_next : (events : List Event) (event : Event) (count last : ℕ) → count ≡ length events + 1 → IsLastSyncOf events last
    → IsLastSyncOf (events ++ event ∷ []) (last_by event count last)
last_next events Synced count last is_count so_far =
    let long : count ≡ length (events ++ Synced ∷ []) = omega (arith, is_count, length-append events (Synced ∷ [])) in
    record {
      within = omega (arith, long);
      all = λ k. subst (λ (es : List Event). IsTrue (synced_after (λ j. true) es k)) (sym (take_all count (events ++ Synced ∷ []) (omega (arith, long))))
          (subst (λ (f : ℕ → Bool). IsTrue (f k)) (sym (synced_after-push (λ j. true) events Synced)) refl);
      later = λ m after le. absurd (omega (arith, long, after, le));
    }
last_next events (Wrote at bytes) count last is_count so_far =
    let long : length (events ++ Wrote at bytes ∷ []) ≡ length events + 1 = length-append events (Wrote at bytes ∷ []) in
    record {
      within = omega (arith, long, so_far.within);
      all = λ k. subst (λ (es : List Event). IsTrue (synced_after (λ j. true) es k))
          (sym (take-append-le last events (Wrote at bytes ∷ []) so_far.within)) (so_far.all k);
      later = λ m after le. elim (cases_lt m (length events + 1)) [
        | inl inside ↦ (λ all. so_far.later m after (omega (arith, inside))
            (λ k. subst (λ (es : List Event). IsTrue (synced_after (λ j. true) es k))
            (take-append-le m events (Wrote at bytes ∷ []) (omega (arith, inside))) (all k)))
        | inr end ↦ (λ all. open_at (subst (λ (es : List Event). IsTrue (synced_after (λ j. true) es at))
            (take_all m (events ++ Wrote at bytes ∷ []) (omega (arith, end, long))) (all at)))
      ];
    }
  where
    open_at : IsTrue (synced_after (λ j. true) (events ++ Wrote at bytes ∷ []) at) → ⊥
    open_at synced =
        let now : IsTrue (if at == at then false else synced_after (λ j. true) events at) =
        subst (λ (f : ℕ → Bool). IsTrue (f at)) (synced_after-push (λ j. true) events (Wrote at bytes)) synced in
        let here : (at == at) ≡ true = eq-eqb at at refl in
        let shut : false ≡ true = rw here at now in
        cc
last_next events (Extended end) count last is_count so_far =
    let long : length (events ++ Extended end ∷ []) ≡ length events + 1 = length-append events (Extended end ∷ []) in
    record {
      within = omega (arith, long, so_far.within);
      all = λ k. subst (λ (es : List Event). IsTrue (synced_after (λ j. true) es k))
          (sym (take-append-le last events (Extended end ∷ []) so_far.within)) (so_far.all k);
      later = λ m after le. elim (cases_lt m (length events + 1)) [
        | inl inside ↦ (λ all. so_far.later m after (omega (arith, inside))
            (λ k. subst (λ (es : List Event). IsTrue (synced_after (λ j. true) es k))
            (take-append-le m events (Extended end ∷ []) (omega (arith, inside))) (all k)))
        | inr last_one ↦ (λ all. open_at
            (subst (λ (es : List Event). IsTrue (synced_after (λ j. true) es end))
            (take_all m (events ++ Extended end ∷ []) (omega (arith, last_one, long))) (all end)))
      ];
    }
  where
    open_at : IsTrue (synced_after (λ j. true) (events ++ Extended end ∷ []) end) → ⊥
    open_at synced =
        let now : IsTrue (if nat_lt end end then synced_after (λ j. true) events end else false) =
        subst (λ (f : ℕ → Bool). IsTrue (f end)) (synced_after-push (λ j. true) events (Extended end)) synced in
        let here : nat_lt end end ≡ false = le-ltb end end (omega arith) in
        let shut : false ≡ true = rw here at now in
        cc

-- the last sync of a disk in memory
pub last_sync_is : (events : List Event) (image : Image) (last : ℕ) → IsLastSyncOf events last → IsLastSync (memory_disk events image) last
last_sync_is events image last is = record {
  past = is.within;
  all = record {
    synced = is.all;
    lasting = ap (λ (end : Option ℕ). lasting_of end (undone (drop last events) image)) (all_lasts (take last events) is.all);
  };
  later = λ k after le all. is.later k after le all.synced;
}

-- what a sector adds to the count
abbrev one_if : Bool → ℕ
one_if synced = if synced then 0 else 1

-- the count of sectors that are not synced rests on those below alone
pub unsynced_same : (f g : ℕ → Bool) (k : ℕ) → ((j : ℕ) → j < k → f j ≡ g j) → unsynced_below f k ≡ unsynced_below g k
unsynced_same f g zero same = refl
unsynced_same f g (suc k) same =
    let here : f k ≡ g k = same k (omega arith) in
    let rest : unsynced_below f k ≡ unsynced_below g k = unsynced_same f g k (λ j lt. same j (omega (arith, lt))) in
    ap (λ (n : ℕ). n + one_if (f k)) rest ∙ ap (λ (b : Bool). unsynced_below g k + one_if b) here

-- digits begin again after 32
pub digit_again : (pick number : ℕ) → digit pick (number % 32) ≡ digit pick number
unfolding digit
digit_again pick number =
    let again : number % 32 % 32 ≡ number % 32 = omega arith in
    ap (λ (n : ℕ). pick / 4 ^ n % 4) again

-- a digit by a shift
pub digit_shifted : (pick number : ℕ) → number < 32 → pick / 2 ^ (2 * number) % 4 ≡ digit pick number
unfolding digit
digit_shifted pick number small =
    let twice : 2 * number ≡ number + number = omega arith in
    let same : number % 32 ≡ number = omega (arith, small) in
    let base : 2 ^ (2 * number) ≡ 4 ^ (number % 32) = ap (λ (n : ℕ). 2 ^ n) twice ∙ pow-add 2 number number ∙ sym (mul-pow 2 2 number)
    ∙ ap (λ (n : ℕ). 4 ^ n) (sym same) in
    ap (λ (n : ℕ). pick / n % 4) base

-- a sector that was put together is the one after the stop
pub left_here : (pick place number fill : ℕ) (synced : ℕ → Bool) (before written : Image) (is : Bool) (old now torn_now left : List ℕ)
    → is ≡ synced place → old ≡ was_at before place → now ≡ sector written place → number ≡ unsynced_below synced place % 32
    → fill ≡ (place + pick / 4) % 256 → torn_now ≡ torn (digit pick number) fill old now → left ≡ (if is then now else torn_now)
    → left ≡ left_at pick synced before written place
left_here pick place number fill synced before written is old now torn_now left is_is old_is now_is number_is fill_is torn_is left_is =
    let digit_is : digit pick number ≡ digit pick (unsynced_below synced place) = ap (digit pick) number_is ∙ digit_again pick (unsynced_below synced place) in
    rw (← is_is, ← now_is, ← old_is, ← fill_is, ← digit_is, ← torn_is) left_is

-- a list of sectors with one more
pub each_more : (f : ℕ → List ℕ) (left : Image) (bytes : List ℕ) (n : ℕ) → length left ≡ n → ((k : ℕ) → k < n → sector left k ≡ f k)
    → bytes ≡ f n → (k : ℕ) → k < n + 1 → sector (left ++ bytes ∷ []) k ≡ f k
each_more f left bytes n long so_far here k lt = elim (cases_lt k n) [
  | inl inside ↦ get_or_append_left left (bytes ∷ []) [] k (omega (arith, long, inside)) ∙ so_far k inside
  | inr end ↦
      let last : k ≡ n = omega (arith, lt, end) in
      let first : k - n ≡ 0 = omega (arith, last) in
      get_or-append_right left (bytes ∷ []) n k [] long end ∙ ap (λ (j : ℕ). sector (bytes ∷ []) j) first ∙ here ∙ ap f (sym last)
]

-- a sum begins again with its first part
sum_again : (n more number next : ℕ) → number ≡ n % 32 → next ≡ (number + more) % 32 → next ≡ (n + more) % 32
sum_again n more number next is next_is = omega (arith, is, next_is)

-- the number of the next digit
pub number_next : (synced : ℕ → Bool) (place number next : ℕ) (is : Bool) → number ≡ unsynced_below synced place % 32 → is ≡ synced place
    → next ≡ (number + (if is then 0 else 1)) % 32 → next ≡ unsynced_below synced (place + 1) % 32
number_next synced place number next is number_is is_is next_is =
    let more : suc place ≡ place + 1 = omega arith in
    sum_again (unsynced_below synced place) (one_if (synced place)) number next number_is (next_is ∙ ap (λ (b : Bool). (number + one_if b) % 32) is_is)
    ∙ ap (λ (k : ℕ). unsynced_below synced k % 32) more

-- the image goes on after a place that does not end it
pub there_more : (pick lasting place number d : ℕ) (synced : ℕ → Bool) → number ≡ unsynced_below synced place % 32 → d ≡ digit pick number
    → (lasting ≤ place → d ≢ 0) → ((k : ℕ) → lasting ≤ k → k < place → digit pick (unsynced_below synced k) ≢ 0)
    → (k : ℕ) → lasting ≤ k → k < place + 1 → digit pick (unsynced_below synced k) ≢ 0
there_more pick lasting place number d synced number_is d_is here so_far k from to = elim (cases_lt k place) [
  | inl inside ↦ so_far k from inside
  | inr end ↦ (λ zero.
      let last : k ≡ place = omega (arith, to, end) in
      here (omega (arith, from, last)) (d_is ∙ ap (digit pick) number_is ∙ digit_again pick (unsynced_below synced place)
      ∙ ap (λ (j : ℕ). digit pick (unsynced_below synced j)) (sym last) ∙ zero))
]

-- and ends at one that has digit 0
pub ends_there : (pick number d place end : ℕ) (synced : ℕ → Bool) → number ≡ unsynced_below synced place % 32 → end ≡ place
    → d ≡ digit pick number → d ≡ 0 → digit pick (unsynced_below synced end) ≡ 0
ends_there pick number d place end synced number_is end_is d_is none =
    ap (λ (j : ℕ). digit pick (unsynced_below synced j)) end_is ∙ sym (digit_again pick (unsynced_below synced place))
    ∙ ap (digit pick) (sym number_is) ∙ sym d_is ∙ none

-- what was put together is the image that the number picks
pub picked_is : (pick : ℕ) (events : List Event) (image : Image) (lasting : ℕ) (synced : List Bool) (before left : Image)
    → lasting ≡ lasting_of (end_after None events) image
    → ((k : ℕ) → k < length image → slice_index_or synced k true ≡ synced_after (λ j. true) events k)
    → IsAsAtSync events image before
    → IsEndOf pick (λ j. slice_index_or synced j true) lasting (length image) (length left)
    → ((k : ℕ) → k < length left → sector left k ≡ left_at pick (λ j. slice_index_or synced j true) before image k)
    → IsPickedBy pick (memory_disk events image) left
picked_is pick events image lasting synced before left is_lasting synced_is before_is ends each = record {
  sync = before_is.last;
  last_sync = last_sync_is events image before_is.last before_is.is_last;
  ends = record {
    no_shorter = omega (arith, ends.no_shorter, is_lasting);
    no_longer = ends.no_longer;
    there = λ k from to zero. ends.there k (omega (arith, from, is_lasting)) to (ap (digit pick) (count k (omega (arith, to, ends.no_longer))) ∙ zero);
    gone = λ short. ap (digit pick) (sym (count (length left) ends.no_longer)) ∙ ends.gone short;
  };
  each = λ k lt.
      let inside : k < length image = omega (arith, lt, ends.no_longer) in
      rw (← count k (omega (arith, inside)), ← synced_is k inside, ← before_is.is) (each k lt);
}
  where
    count : (k : ℕ) → k ≤ length image → unsynced_below (λ j. slice_index_or synced j true) k ≡ unsynced_below (synced_after (λ j. true) events) k
    count k le = unsynced_same _ _ k (λ j below. synced_is j (omega (arith, le, below)))

-- how often its writes failed says nothing of the image
picked_failed : (pick failed : ℕ) (disk : Disk) (left : Image) → IsPickedBy pick disk left → IsPickedBy pick (with_failed disk failed) left
picked_failed pick failed disk left is = record {
  sync = is.sync;
  last_sync = record { past = is.last_sync.past; all = is.last_sync.all; later = is.last_sync.later };
  ends = is.ends;
  each = is.each;
}

-- and it is one that a stop may leave
pub picked_left : (pick failed : ℕ) (events : List Event) (image left : Image)
    → IsPickedBy pick (with_failed (memory_disk events image) failed) left → MayLeave (memory_disk events image).now left
picked_left pick failed events image left is = stop_leaves events image left is.ends.no_shorter is.ends.no_longer
    (λ k lt synced. is.each k lt ∙ ap
    (λ (b : Bool). if b then sector image k else torn (digit pick (unsynced_below (synced_after (λ j. true) events) k))
    ((k + pick / 4) % 256) (was_at (undone (drop is.sync events) image) k) (sector image k)) synced)

-- the same from what the parts of `after_stop` were given
pub picked_from : (pick failed : ℕ) (events events_1 events_2 events_3 : List Event) (image image_1 image_2 : Image)
    (lasting long : ℕ) (synced synced_1 : List Bool) (before before_1 left : Image)
    → events_1 ≡ events → events_2 ≡ events → events_3 ≡ events → image_1 ≡ image → image_2 ≡ image → synced_1 ≡ synced
    → before_1 ≡ before → long ≡ length image
    → ((p : Image) → length p ≡ long → lasting ≡ lasting_of (end_after None events_3) p)
    → ((k : ℕ) → k < long → slice_index_or synced k true ≡ synced_after (λ j. true) events_1 k)
    → IsAsAtSync events_2 image_1 before
    → IsEndOf pick (λ j. slice_index_or synced_1 j true) lasting (length image_2) (length left)
    → ((k : ℕ) → k < length left → sector left k ≡ left_at pick (λ j. slice_index_or synced_1 j true) before_1 image_2 k)
    → IsPickedBy pick (with_failed (memory_disk events image) failed) left
picked_from pick failed events events_1 events_2 events_3 image image_1 image_2 lasting long synced synced_1 before before_1 left e1 e2 e3 p1 p2 s1 b1 l lasts synced_is before_is ends each =
    picked_failed pick failed (memory_disk events image) left
    (picked_is pick events image lasting synced before left (rw e3 at (lasts image (sym l))) (rw (e1, l) at synced_is)
    (rw (e2, p1) at before_is) (rw (p2, s1) at ends) (rw (p2, s1, b1) at each))
